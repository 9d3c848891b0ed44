use Rattle.std.proofs.Common.{◌≡◌, [], ◌++◌, ap, ◌∙◌}
use Rattle.ent_walk.proofs.PathKeys.{keys_of_root}
use Rattle.ent_walk.specs.Given.{finished}
use Rattle.ent_walk.specs.Rule.{decided}
use Rattle.ent_walk.specs.declared.evaluated.Truth.TheVariants.{True}
use Rattle.ent_walk.specs.proofs_only.Judged.{or_nothing}
use Rattle.memo_plan.specs.Heard.{decides_part}
use Rattle.memo_plan.proofs.Evaluating.{comes_then}
use Rattle.memo_plan.proofs.alone.decision.Goals as goal

pub returns : goal.returns
returns g c =
    let looks = g.L.LookUps.looks in
    let start = c.args.walk.now in
    let between = c.decided_under.new.walk in
    let keeps = c.in_ok-answer.ensures.notes.keeps in
    let within = c.args.within.now in
    let rule = c.args.rule.now in
    let answer : or_nothing c.in_ok-answer.answer ≡ decided within.path rule True =
    c.in_ok-answer.ensures.value ∙ ap (λ ks. decided (ks ++ c.as_slice.result.now) rule True) keys_of_root ∙ ap (λ path. decided path rule True) c.as_slice.ensures in
    let same : finished (looks between.lender.held) between.lender.request c.as_slice-2.result.now rule.given (or_nothing c.in_ok-answer.answer)
    ≡ decides_part (looks start.lender.held) start.lender.request within.definitions within.path rule =
    ap (λ held. finished (looks held) between.lender.request c.as_slice-2.result.now rule.given (or_nothing c.in_ok-answer.answer)) keeps.held
    ∙ ap (λ request. finished (looks start.lender.held) request c.as_slice-2.result.now rule.given (or_nothing c.in_ok-answer.answer)) keeps.request
    ∙ ap (λ definitions. finished (looks start.lender.held) start.lender.request definitions rule.given (or_nothing c.in_ok-answer.answer)) c.as_slice-2.ensures
    ∙ ap (finished (looks start.lender.held) start.lender.request within.definitions rule.given) answer in
    comes_then or_nothing c.finished.result _ _ start between c.finished.new.self c.in_ok-answer.ensures.notes same c.finished.ensures.comes
