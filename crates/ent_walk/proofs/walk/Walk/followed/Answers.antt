use Rattle.std.proofs.Common.{◌≡◌, List, [], ap, rules, ◌∙◌}
use Rattle.ent_policy.specs.declared.key.DocKey.{DocKey}
use Rattle.ent_trace.specs.declared.path.Path.{Root}
use Rattle.ent_request.specs.Part.{Part}
use Rattle.ent_request.specs.declared.answer.Answer.{Answer}
use Rattle.ent_walk.specs.Judged.{has_failed}
use Rattle.ent_walk.specs.proofs_only.Comes.{Comes}
use Rattle.ent_walk.specs.proofs_only.Hops.{followed_part}
use Rattle.ent_walk.specs.proofs_only.Judged.{or_nothing}
use Rattle.ent_trace.specs.proofs_only.Noted.{noting}
use Rattle.ent_walk.specs.proofs_only.Opened.{left_part}
use Rattle.ent_trace.specs.proofs_only.Path.{keys_of}
use Rattle.ent_walk.proofs.Parts.{came_from, keeps_on}
use Rattle.ent_walk.proofs.PathKeys.{keys_of_root}
use Rattle.ent_walk.proofs.Settled.{came_settled}
use Rattle.ent_walk.proofs.walk.Walk.followed.Goals as goal

pub returns : goal.returns
returns g c =
    let looks = g.L.LookUps.looks in
    let start = c.args.self.now in
    let between = c.open_followed.new.self in
    let after = c.judge.new.self in
    let came = came_from looks (λ looks request. left_part looks request (keys_of Root) c.in_ok-opened.opened) start between after (or_nothing c.in_ok-answer.answer) c.in_ok-opened.ensures.keeps c.in_ok-answer.ensures.comes in
    let left = c.in_ok-opened.ensures.left (keys_of Root) in
    let here : List DocKey → Part Answer =
    λ path. followed_part (looks start.lender.held) start.lender.request c.args.hops path c.args.reference.now in
    let raw : Comes (here []) start after (or_nothing c.in_ok-answer.answer) = record {
      value = came.value ∙ left.0 ∙ ap (λ path. (here path).value) keys_of_root;
      notes = came.notes ∙ left.1 ∙ ap (λ path. noting start.notes (here path).notes) keys_of_root;
      keeps = keeps_on start between after c.in_ok-opened.ensures.keeps came.keeps;
    } in
    let settled = came_settled has_failed (here []) start after c.settle.new.self (or_nothing c.in_ok-answer.answer)
    c.is_named-was_named.result c.has_failed.result c.is_named-was_named.ensures c.has_failed.ensures raw c.settle.ensures.notes
    c.settle.ensures.keeps in
    let given : c.unwrap_or.result ≡ or_nothing c.in_ok-answer.answer = search rules in
    record {
      comes = record { value = given ∙ settled.value; notes = settled.notes; keeps = settled.keeps };
    }
