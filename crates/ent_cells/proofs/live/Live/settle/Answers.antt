use Rattle.std.proofs.Common.{◌≡◌, ℕ, List, length, count_by, map, refl, sym, ap, subst, ◌∙◌, arith}
use Rattle.std.specs.List.{AllByRecursion}
use Rattle.std.proofs.lemmas.List.{length-map}
use Rattle.slab.specs.Slab.{Slab, get}
use Rattle.ent_request.specs.declared.answer.Answer.{Answer}
use Rattle.ent_request.specs.declared.key.ReadKey.{ReadKey}
use Rattle.ent_eval.specs.LooksOf.{looks_of}
use Rattle.ent_request.specs.Looks.{Looks}
use Rattle.ent_log.specs.declared.entry.OldAnswer.{OldAnswer}
use Rattle.ent_eval.specs.declared.who.Who.{Who}
use Rattle.ent_cells.specs.Cell.{IsRightBut, Kept, answers_in, reads_any, renewed, unlike_count}
use Rattle.ent_cells.specs.Entries.{Entry, IsLive, kept_of}
use Rattle.ent_cells.specs.proofs_only.Entries.{settled}
use Rattle.ent_cells.specs.proofs_only.Logging.{olds_in}
use Rattle.ent_cells.specs.Old.{AreOld}
use Rattle.ent_cells.specs.proofs_only.Phases.{IsPrepared, changed_at, made_ready}
use Rattle.ent_cells.proofs.Listed.{kept_long}
use Rattle.ent_cells.proofs.Olds.{olds_old, olds_unlike}
use Rattle.ent_cells.proofs.Settled.{AreTouched, kept_there, prepared_there, settled_kept, touched_count, touched_there}
use Rattle.ent_cells.proofs.Tally.{at_most_as, counts_as}
use Rattle.ent_cells.proofs.live.Live.settle.Goals as goal

pub prepare-requires-clause-there : goal.prepare-requires-clause-there
prepare-requires-clause-there g c =
    let touched : AreTouched c.args.changed.now c.self.inside.store.cells c.as_slice-keys.result.now = subst (AreTouched c.args.changed.now c.self.inside.store.cells) (sym c.as_slice-keys.ensures.value) c.in_ok-touched.ensures in
    touched_there c.args.changed.now c.self.inside.store.cells c.as_slice-keys.result.now touched

pub give_up_all-requires-clause-there : goal.give_up_all-requires-clause-there
give_up_all-requires-clause-there g c =
    let touched : AreTouched c.args.changed.now c.self.inside.store.cells c.as_slice-keys.result.now = subst (AreTouched c.args.changed.now c.self.inside.store.cells) (sym c.as_slice-keys.ensures.value) c.in_ok-touched.ensures in
    kept_there c.self.inside.store.cells c.prepare.new.store.cells c.as_slice-keys.result.now c.in-Err.ensures.err (touched_there c.args.changed.now c.self.inside.store.cells c.as_slice-keys.result.now touched)

pub commit_all-requires-clause-there : goal.commit_all-requires-clause-there
commit_all-requires-clause-there g c =
    let looks : Looks = looks_of c.self.inside.store.evaluator.pdp in
    let touched : AreTouched c.args.changed.now c.self.inside.store.cells c.as_slice-keys.result.now = subst (AreTouched c.args.changed.now c.self.inside.store.cells) (sym c.as_slice-keys.ensures.value) c.in_ok-touched.ensures in
    prepared_there (made_ready looks) c.self.inside.store.cells c.prepare.new.store.cells c.as_slice-keys.result.now c.in-Ok.ensures.ok (touched_there c.args.changed.now c.self.inside.store.cells c.as_slice-keys.result.now touched)

pub returns-in-Ok-clause-ok : goal.returns-in-Ok-clause-ok
returns-in-Ok-clause-ok g c =
    let looks : Looks = looks_of c.self.inside.store.evaluator.pdp in
    let touched : AreTouched c.args.changed.now c.self.inside.store.cells c.as_slice-keys.result.now = subst (AreTouched c.args.changed.now c.self.inside.store.cells) (sym c.as_slice-keys.ensures.value) c.in_ok-touched.ensures in
    let all : AllByRecursion (IsRightBut c.args.changed.now looks) (kept_of c.self.inside.store.cells c.self.inside.keys.items) = rw (← c.self.view_is) at c.requires in
    rw (← c.self.view_is)
    (settled_kept looks c.args.changed.now c.self.inside.store.cells c.prepare.new.store.cells c.as_slice-keys.result.now c.self.inside.keys.items touched c.in-Ok.ensures.ok c.self.invariant all c.commit_all.new.store.cells c.commit_all.ensures.cells)

-- what an edit makes of the cells, of which the old answers are told
module _ (looks : Looks) (changed : List ReadKey) (s0 s1 s2 : Slab Entry) (ks grid : List ℕ) (touched : AreTouched changed s0 ks) (prepared : IsPrepared looks ks s0 s1) (live : IsLive s0 grid) (done : (c : ℕ) → get s2 c ≡ changed_at settled ks c (get s1 c))
    (cells : List Kept) (is : kept_of s0 grid ≡ cells) (right : AllByRecursion (IsRightBut changed looks) cells) where
  all : AllByRecursion (IsRightBut changed looks) (kept_of s0 grid)
  all = subst (AllByRecursion (IsRightBut changed looks)) (sym is) right

  new_is : kept_of s2 grid ≡ map (renewed looks) (kept_of s0 grid)
  new_is = settled_kept looks changed s0 s1 ks grid touched prepared live all s2 done

  new_long : length (kept_of s2 grid) ≡ length grid
  new_long = ap length new_is ∙ length-map (kept_of s0 grid) (renewed looks) ∙ kept_long s0 grid live.grid

  told_old : (olds : List (OldAnswer Who Answer)) → olds ≡ olds_in s1 ks → AreOld olds cells (kept_of s2 grid)
  told_old olds told =
      subst (λ xs. AreOld olds xs (kept_of s2 grid)) is
      (subst (AreOld olds (kept_of s0 grid)) (sym new_is)
      (subst (λ os. AreOld os (kept_of s0 grid) (map (renewed looks) (kept_of s0 grid))) (sym told) (olds_old looks changed s0 s1 ks grid touched prepared live all)))

  told_count : (olds : List (OldAnswer Who Answer)) → olds ≡ olds_in s1 ks → length olds ≡ unlike_count (answers_in cells) (answers_in (kept_of s2 grid))
  told_count olds told =
      ap length told
      ∙ olds_unlike looks changed s0 s1 ks grid touched prepared live all
      ∙ (λ j. unlike_count (answers_in (is j)) (answers_in (sym new_is j)))

pub returns-in-Ok-clause-olds : goal.returns-in-Ok-clause-olds
returns-in-Ok-clause-olds g c =
    let looks : Looks = looks_of c.self.inside.store.evaluator.pdp in
    let touched : AreTouched c.args.changed.now c.self.inside.store.cells c.as_slice-keys.result.now = subst (AreTouched c.args.changed.now c.self.inside.store.cells) (sym c.as_slice-keys.ensures.value) c.in_ok-touched.ensures in
    rw (← c.self.view_is)
    (told_old looks c.args.changed.now c.self.inside.store.cells c.prepare.new.store.cells c.commit_all.new.store.cells c.as_slice-keys.result.now c.self.inside.keys.items touched c.in-Ok.ensures.ok c.self.invariant c.commit_all.ensures.cells
    (kept_of c.self.inside.store.cells c.self.inside.keys.items) refl (rw (← c.self.view_is) at c.requires) c.in-Ok.olds c.in-Ok.ensures.olds)

pub returns-in-Ok-clause-changes : goal.returns-in-Ok-clause-changes
returns-in-Ok-clause-changes g c =
    let looks : Looks = looks_of c.self.inside.store.evaluator.pdp in
    let touched : AreTouched c.args.changed.now c.self.inside.store.cells c.as_slice-keys.result.now = subst (AreTouched c.args.changed.now c.self.inside.store.cells) (sym c.as_slice-keys.ensures.value) c.in_ok-touched.ensures in
    rw (← c.self.view_is)
    (told_count looks c.args.changed.now c.self.inside.store.cells c.prepare.new.store.cells c.commit_all.new.store.cells c.as_slice-keys.result.now c.self.inside.keys.items touched c.in-Ok.ensures.ok c.self.invariant c.commit_all.ensures.cells
    (kept_of c.self.inside.store.cells c.self.inside.keys.items) refl (rw (← c.self.view_is) at c.requires) c.in-Ok.olds c.in-Ok.ensures.olds)

pub returns-in-Ok-clause-room : goal.returns-in-Ok-clause-room
returns-in-Ok-clause-room g c =
    let looks : Looks = looks_of c.self.inside.store.evaluator.pdp in
    let touched : AreTouched c.args.changed.now c.self.inside.store.cells c.as_slice-keys.result.now = subst (AreTouched c.args.changed.now c.self.inside.store.cells) (sym c.as_slice-keys.ensures.value) c.in_ok-touched.ensures in
    let long = new_long looks c.args.changed.now c.self.inside.store.cells c.prepare.new.store.cells c.commit_all.new.store.cells c.as_slice-keys.result.now c.self.inside.keys.items touched c.in-Ok.ensures.ok c.self.invariant c.commit_all.ensures.cells
    (kept_of c.self.inside.store.cells c.self.inside.keys.items) refl (rw (← c.self.view_is) at c.requires) in
    omega (arith, long, c.in-Ok.ensures.room, c.len.ensures)

pub returns-in-Ok-clause-counted : goal.returns-in-Ok-clause-counted
returns-in-Ok-clause-counted g c =
    let touched : AreTouched c.args.changed.now c.self.inside.store.cells c.as_slice-keys.result.now = subst (AreTouched c.args.changed.now c.self.inside.store.cells) (sym c.as_slice-keys.ensures.value) c.in_ok-touched.ensures in
    rw (c.commit_all.ensures.evaluator, ← c.self.view_is)
    (counts_as c.self.inside.store.evaluator.pdp.evaluations c.prepare.new.store.evaluator.pdp.evaluations (length c.as_slice-keys.result.now) (count_by (reads_any c.args.changed.now) (kept_of c.self.inside.store.cells c.self.inside.keys.items)) c.in-Ok.ensures.counted
    (touched_count c.args.changed.now c.self.inside.store.cells c.as_slice-keys.result.now c.self.inside.keys.items touched c.self.invariant.grid))

pub returns-in-Ok-clause-bound : goal.returns-in-Ok-clause-bound
returns-in-Ok-clause-bound g c =
    let touched : AreTouched c.args.changed.now c.self.inside.store.cells c.as_slice-keys.result.now = subst (AreTouched c.args.changed.now c.self.inside.store.cells) (sym c.as_slice-keys.ensures.value) c.in_ok-touched.ensures in
    rw (c.commit_all.ensures.evaluator, ← c.self.view_is)
    (at_most_as c.self.inside.store.evaluator.pdp.evaluations c.prepare.new.store.evaluator.pdp.evaluations (length c.as_slice-keys.result.now) (count_by (reads_any c.args.changed.now) (kept_of c.self.inside.store.cells c.self.inside.keys.items)) c.prepare.ensures.bound
    (touched_count c.args.changed.now c.self.inside.store.cells c.as_slice-keys.result.now c.self.inside.keys.items touched c.self.invariant.grid))

pub returns-clause-bound : goal.returns-clause-bound
returns-clause-bound g c =
    let touched : AreTouched c.args.changed.now c.self.inside.store.cells c.as_slice-keys.result.now = subst (AreTouched c.args.changed.now c.self.inside.store.cells) (sym c.as_slice-keys.ensures.value) c.in_ok-touched.ensures in
    rw (c.give_up_all.ensures.evaluator, ← c.self.view_is)
    (at_most_as c.self.inside.store.evaluator.pdp.evaluations c.prepare.new.store.evaluator.pdp.evaluations (length c.as_slice-keys.result.now) (count_by (reads_any c.args.changed.now) (kept_of c.self.inside.store.cells c.self.inside.keys.items)) c.prepare.ensures.bound
    (touched_count c.args.changed.now c.self.inside.store.cells c.as_slice-keys.result.now c.self.inside.keys.items touched c.self.invariant.grid))

pub returns-in-Ok-clause-rest : goal.returns-in-Ok-clause-rest
returns-in-Ok-clause-rest g c = rw (c.commit_all.ensures.evaluator, ← c.self.view_is) c.prepare.ensures.rest

pub returns-clause-rest : goal.returns-clause-rest
returns-clause-rest g c = rw (c.give_up_all.ensures.evaluator, ← c.self.view_is) c.prepare.ensures.rest
