use Rattle.std.proofs.Common.{◌≡◌, [], ◌∷◌, ◌++◌, ap, rules, sym, subst, ◌∙◌}
use Rattle.std.proofs.lemmas.Result.{IfOk-weaker}
use Rattle.std.specs.List.{flat_map}
use Rattle.ent_walk.specs.Node.{policy_key}
use Rattle.memo_plan.specs.declared.task.Within.{Within}
use Rattle.memo_plan.specs.proofs_only.Entries.{AreEntries, element_entries, no_given, policy_tests, rule_entries}
use Rattle.memo_plan.proofs.Segments.{are_policy}
use Rattle.memo_plan.proofs.entries.policy_entries.Goals as goal

pub returns : goal.returns
returns c looks =
    let within = c.in_ok-new.field-0 in
    let policy = c.args.policy.now in
    let path = c.args.path.now in
    let none : policy.given ≡ no_given = search rules in
    let definitions : within.definitions ≡ policy.variables = ap (λ (w : Within). w.definitions) c.in_ok-new.ensures ∙ c.in_ok-copied_definitions.ensures ∙ c.as_slice.ensures in
    let here : within.path ≡ path ++ policy_key policy ∷ [] = ap (λ (w : Within). w.path) c.in_ok-new.ensures ∙ c.in_ok-path_below.ensures in
    let rules_are : c.in_ok-rules.rules ≡ flat_map (rule_entries within) policy.rules = c.in_ok-rules.ensures ∙ ap (flat_map (rule_entries within)) c.as_slice-2.ensures in
    IfOk-weaker c.element.result _ _ (λ es is. subst (AreEntries looks (policy_tests path policy)) (ap (element_entries policy.target) (sym rules_are) ∙ sym is)
    (are_policy looks path policy within none c.requires definitions here)) c.element.ensures
