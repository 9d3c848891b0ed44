use Rattle.std.proofs.Common.{◌∙◌, [], ap, refl, sym, subst}
use Rattle.std.specs.Prelude.{unwrap_or}
use Rattle.ent_walk.proofs.PathKeys.{keys_of_root}
use Rattle.ent_walk.specs.proofs_only.Hops.{reference_part}
use Rattle.ent_walk.specs.proofs_only.Judged.{or_nothing}
use Rattle.memo_plan.specs.Heard.{came}
use Rattle.memo_plan.specs.proofs_only.Entries.{reference_tests}
use Rattle.memo_replay.specs.proofs_only.Stands.{Joins, scene_in}
use Rattle.memo_replay.proofs.Answering.{is_joined, stands_first}
use Rattle.memo_replay.proofs.over.Over.whole.Goals as goal

pub returns : goal.returns
returns g c =
    let over = c.args.self.now in
    let w = scene_in g.L.LookUps.looks over in
    let root = c.args.root.now in
    let joins = subst (λ keys. Joins over (reference_tests 7 keys root w) (reference_part w.looks w.request 7 keys root) c.ask_root.new.state c.reference.new.state (or_nothing c.in_ok-answer.answer)) keys_of_root c.in_ok-answer.ensures in
    let answer = ap (unwrap_or c.in_ok-answer.answer) (sym c.not_applicable.ensures) ∙ sym c.unwrap_or.ensures in
    is_joined over w root c.args.state.now c.ask_root.new.state c.reference.new.state _
    c.requires.root c.requires.nothing c.requires.fine c.in_ok-ask_root.ensures.heard
    (stands_first over c.args.state.now c.ask_root.new.state (came w.looks w.request) c.in_ok-ask_root.ensures.distinct c.requires.first.0 c.ask_root.ensures.stays c.requires.signed)
    (subst (λ a. Joins over (reference_tests 7 [] root w) (reference_part w.looks w.request 7 [] root) c.ask_root.new.state c.reference.new.state a) answer joins)
    (c.in_ok-asked.ensures ∙ c.as_slice.ensures) refl
