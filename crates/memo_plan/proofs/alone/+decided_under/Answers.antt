use Rattle.std.proofs.Common.{◌≡◌, [], ◌∷◌, ◌++◌, append_assoc, ap, rules, sym, ◌∙◌}
use Rattle.std.proofs.lemmas.Result.{IfOk-weaker}
use Rattle.ent_trace.specs.proofs_only.Path.{keys_of}
use Rattle.ent_walk.proofs.PathKeys.{keys_of_below}
use Rattle.ent_walk.specs.Rule.{decided}
use Rattle.ent_walk.specs.declared.evaluated.Truth.TheVariants.{True}
use Rattle.memo_plan.proofs.alone.+decided_under.Goals as goal

pub returns-in-Some-clause-value : goal.returns-in-Some-clause-value
returns-in-Some-clause-value g t c =
    let above = keys_of c.args.above.now in
    let below = c.in-Some.below.now in
    let keys : c.args.keys.now ≡ c.in-Some.key.now ∷ below = search rules in
    IfOk-weaker c.decided_under.result _ _ (λ a is. is ∙ ap (λ path. decided path c.args.rule.now True)
    (ap (λ ks. ks ++ below) (keys_of_below _ _ _ _) ∙ append_assoc above (c.in-Some.key.now ∷ []) below ∙ ap (λ ks. above ++ ks) (sym keys))) c.decided_under.ensures.value
