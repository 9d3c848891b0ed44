use Rattle.std.proofs.Common.{◌≡◌, ◌++◌, ◌∷◌, [], ap, subst, sym, ◌∙◌, true, false, List, arith}
use Rattle.ent_values.specs.declared.value.Value.{Value}
use Rattle.ent_functions.specs.proofs_only.Found.{AreFound, has_value}
use Rattle.ent_functions.proofs.Found.{found_new, found_old}
use Rattle.ent_functions.proofs.sets.add_new.Goals as goal

pub returns-in_ok-push : goal.returns-in_ok-push
returns-in_ok-push c = λ values so_far.
    let new : has_value c.args.seen.now c.args.value.now ≡ false = grind (arith, c.in_ok-insert.ensures.added) in
    subst (λ (found : List Value). AreFound (values ++ c.args.value.now ∷ []) found c.insert.new.self)
    (sym (c.in_ok-push.ensures.ok ∙ ap (λ value. c.args.found.now ++ value ∷ []) c.in_ok-copy.ensures.value))
    (found_new values c.args.found.now c.args.seen.now c.insert.new.self c.args.value.now so_far c.in_ok-insert.ensures.updates.0 new)

pub returns-else-branch : goal.returns-else-branch
returns-else-branch c = λ values so_far.
    let old : has_value c.args.seen.now c.args.value.now ≡ true = grind (arith, c.in_ok-insert.ensures.added) in
    found_old values c.args.found.now c.args.seen.now c.insert.new.self c.args.value.now so_far c.in_ok-insert.ensures.updates.0 old
