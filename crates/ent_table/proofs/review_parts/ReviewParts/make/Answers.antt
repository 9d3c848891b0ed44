use Rattle.std.proofs.Common.{◌≡◌, ◌+◌, ◌≤◌, ◌^◌, Ok, refl, sym, ap, subst, ◌∙◌, arith}
use Rattle.ent_cells.specs.Count.{most, raised}
use Rattle.ent_eval.specs.LooksOf.{held_by}
use Rattle.ent_finder.specs.Slots.{document_count}
use Rattle.ent_table.specs.Counted.{touched_count}
use Rattle.ent_table.specs.Difference.{changes}
use Rattle.ent_table.specs.proofs_only.Exchange.{with_exchange}
use Rattle.ent_table.specs.proofs_only.Look.{AreChanged}
use Rattle.ent_table.specs.Limits.{IsWithinGreatest}
use Rattle.ent_table.specs.Fresh.{point_of, state_of}
use Rattle.ent_table.specs.State.{State, fresh_cells}
use Rattle.ent_table.specs.Step.{next}
use Rattle.ent_table.proofs.Edited.{fresh_again, unlike_changes}
use Rattle.ent_table.proofs.Logs.{log_between, room_between}
use Rattle.ent_table.proofs.Rests.{all_renewed, count_touched, names_stay, right_but}
use Rattle.ent_table.proofs.SerialTables.{kept_over, kept_stays, undone}
use Rattle.ent_table.proofs.review_parts.ReviewParts.make.Goals as goal

pub settle-requires : goal.settle-requires
settle-requires g c =
    let between = c.exchange_and_tell.new.self in
    let one = c.in-Ok.ensures in
    right_but (state_of c.args.self.now) (state_of between) c.args.exchange one.made
    between.table.cells.kept (ap (λ v. v.table.cells.kept) one.rest ∙ c.requires.fresh.cells) c.as_slice.result.now
    (subst (AreChanged (state_of c.args.self.now) c.args.exchange between.table.cells.kept) (sym c.as_slice.ensures) one.changed)

-- the cells were made right
pub returns-in-Ok-settle : goal.returns-in-Ok-settle
returns-in-Ok-settle g c =
    let old = c.args.self.now in
    let between = c.exchange_and_tell.new.self in
    let new = c.log_edit.new.self in
    let x = c.args.exchange in
    let s = state_of old in
    let mid = state_of between in
    let one = c.in-Ok.ensures in
    let done = c.in-Ok-settle.ensures in
    let counted = c.log_edit.ensures in
    let was : between.table.cells.kept ≡ fresh_cells s = ap (λ v. v.table.cells.kept) one.rest ∙ c.requires.fresh.cells in
    let cells : c.settle.new.self.kept ≡ fresh_cells (with_exchange s x) = done.ok ∙ all_renewed s mid x one.made between.table.cells.kept was in
    let up : new.log.serial ≡ between.log.serial + 1 = counted.logs.serial ∙ ap (λ n. n + 1) done.log.serial in
    let after : state_of new ≡ next (with_exchange s x) =
    ap state_of counted.rest
    ∙ ap (λ n. record mid { held = held_by c.settle.new.self.evaluator.pdp; serial = n }) up
    ∙ ap (λ p. record (next mid) { held = held_by p }) done.rest
    ∙ ap next one.made in
    let now : new.table.cells.kept ≡ fresh_cells (state_of new) =
    ap (λ v. v.table.cells.kept) counted.rest ∙ cells ∙ ap (λ (u : State). fresh_cells u) (sym after) in
    let more : new.log.serial ≡ old.log.serial + 1 = up ∙ ap (λ v. v.log.serial + 1) one.rest in
    let log = log_between old.log between.log c.settle.new.log c.settle.new.log (ap (λ v. v.log) one.rest) done.log refl in
    let changed = subst (AreChanged s x between.table.cells.kept) (sym c.as_slice.ensures) one.changed in
    let count = count_touched s mid x one.made between.table.cells.kept was c.as_slice.result.now changed in
    let begun : (point_of between).evaluations ≡ (point_of old).evaluations = one.counted in
    record {
      fresh = record {
        cells = now;
        documents = ap (λ v. v.documents) counted.rest ∙ c.requires.documents ∙ ap (λ (u : State). document_count u.held.modules) (sym after);
        serial = subst (λ n. n ≤ 2 ^ 63) (sym more) (omega (arith, c.requires.serial));
        limits = subst IsWithinGreatest (sym (ap (λ v. v.limits) counted.rest ∙ ap (λ v. v.limits) one.rest)) c.requires.fresh.limits;
        closed = counted.logs.closed;
        room = counted.room;
      };
      step = (
        ap Ok (sym after),
        ap (λ a. a.serial) counted.accepted ∙ sym counted.logs.serial,
        ap (λ a. a.changes) counted.accepted
            ∙ done.changes
            ∙ unlike_changes s (with_exchange s x) between.table.cells.kept c.settle.new.self.kept (names_stay s x) was cells
            ∙ ap (λ (u : State). changes s u) (sym after),
      );
      counted = λ h. ap (λ v. (point_of v).evaluations) counted.rest
          ∙ done.counted (subst (λ n. n ≤ most) (sym begun) h)
          ∙ (λ i. raised (begun i) (count i));
      tables = kept_over old new c.settle.new.log c.in-Ok-settle.olds log counted.logs
          (undone s (state_of new) between.table.cells.kept c.settle.new.self.kept c.in-Ok-settle.olds was (sym (ap (λ v. v.table.cells.kept) counted.rest) ∙ now) done.olds);
    }

-- the exchange was taken back
pub returns : goal.returns
returns g c =
    let old = c.args.self.now in
    let between = c.exchange_and_tell.new.self in
    let new = c.take_back.new.self in
    let x = c.args.exchange in
    let s = state_of old in
    let mid = state_of between in
    let one = c.in-Ok.ensures in
    let two = c.take_back.ensures in
    let failed = c.in-Err.ensures in
    let settled = ap (λ n. record mid { held = held_by c.settle.new.self.evaluator.pdp; serial = n }) failed.log.serial
    ∙ ap (λ p. record mid { held = held_by p }) failed.rest in
    let stays = two.before old (x, c.requires.within, settled ∙ one.made, one.taken) in
    let before = ap (λ v. v.log) one.rest in
    let after = ap (λ v. v.log) two.rest in
    let log = log_between old.log between.log c.settle.new.log new.log before failed.log after in
    let was = ap (λ v. v.table.cells.kept) one.rest ∙ c.requires.fresh.cells in
    let changed = subst (AreChanged s x between.table.cells.kept) (sym c.as_slice.ensures) one.changed in
    let count = count_touched s mid x one.made between.table.cells.kept was c.as_slice.result.now changed in
    let begun : (point_of between).evaluations ≡ (point_of old).evaluations = one.counted in
    let ended : c.settle.new.self.evaluator.pdp.evaluations ≡ (point_of new).evaluations = sym two.counted in
    record {
      fresh = fresh_again old new c.requires.fresh
          (ap (λ v. v.table.cells.kept) two.rest ∙ failed.err ∙ ap (λ v. v.table.cells.kept) one.rest)
          (ap (λ v. v.documents) two.rest ∙ ap (λ v. v.documents) one.rest)
          log (room_between old.log between.log c.settle.new.log new.log before failed.grows after) stays;
      step = (tt, stays);
      counted = λ h.
          let up = failed.bound (subst (λ n. n ≤ most) (sym begun) h) in (
            subst (λ n. n ≤ (point_of new).evaluations) begun (subst (λ n. (point_of between).evaluations ≤ n) ended up.0),
            subst (λ n. n ≤ raised (point_of old).evaluations (touched_count s (with_exchange s x))) ended (subst (λ n. c.settle.new.self.evaluator.pdp.evaluations ≤ n) (λ i. raised (begun i) (count i)) up.1),
          );
      tables = kept_stays old new log stays;
    }
