use Rattle.std.proofs.Common.{◌≡◌, ◌≤◌, true, arith, ap, sym, subst, ◌∙◌}
use Rattle.ent_log.specs.Entries.{answers_of, entries_since, is_in_order, table_before}
use Rattle.ent_log.proofs.Serials.{entries_since-low, entries_since-twice, in_order-drop}
use Rattle.ent_log.proofs.log.Log.forget_before.Goals as goal

pub invariant_of-self-clause-in_order : goal.invariant_of-self-clause-in_order
invariant_of-self-clause-in_order g c =
    let s = c.loop-first.self in
    subst (λ es. is_in_order s.from es s.serial ≡ true) (sym c.pop_front.ensures.rest) (in_order-drop s.from s.entries.items s.serial s.in_order)

pub returns-clause-kept : goal.returns-clause-kept
returns-clause-kept g c = λ present n above k.
    let new = c.begin_again.new.entries.items in
    let left = c.loop-first.self.entries.items in
    let old = c.args.self.now.entries.items in
    let later : c.args.serial ≤ n = omega (arith, c.max-self.ensures) in
    let same : entries_since n new ≡ entries_since n old =
    ap (entries_since n) c.begin_again.ensures.items
    ∙ sym (entries_since-twice c.args.serial n left later) ∙ ap (entries_since n) c.loop-first.invariant.entries
    ∙ entries_since-twice c.args.serial n old later in
    ap (λ es. table_before g.K.Ord.cmp (answers_of es) present k) same

pub returns-clause-closed : goal.returns-clause-closed
returns-clause-closed g c = λ closed.
    let new = c.begin_again.new.entries.items in
    let left = c.loop-first.self.entries.items in
    let old = c.args.self.now.entries.items in
    let top = c.args.self.now.serial in
    let same : entries_since top new ≡ entries_since top old =
    ap (entries_since top) c.begin_again.ensures.items
    ∙ sym (entries_since-twice c.args.serial top left c.requires) ∙ ap (entries_since top) c.loop-first.invariant.entries
    ∙ entries_since-twice c.args.serial top old c.requires in
    ap (λ n. entries_since n new) c.loop-first.invariant.serial ∙ same ∙ closed

pub returns-clause-nothing : goal.returns-clause-nothing
returns-clause-nothing g c = λ low.
    let new = c.loop-first.self in
    let old = c.args.self.now in
    let n = c.args.serial in
    let still : n ≤ new.from = omega (arith, c.loop-first.invariant.from) in
    record {
      from = omega (arith, c.max-self.ensures, c.loop-first.invariant.from);
      serial = c.loop-first.invariant.serial;
      entries =
          c.begin_again.ensures.items
          ∙ sym (entries_since-low new.from new.entries.items new.serial n new.in_order still)
          ∙ c.loop-first.invariant.entries
          ∙ entries_since-low old.from old.entries.items old.serial n old.in_order low;
    }
