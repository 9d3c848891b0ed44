use Rattle.std.proofs.Common.{[], ◌∷◌, codes}
use Rattle.json.specs.Token as token
use Rattle.ent_command.specs.Wanted.{decision_text}
use Rattle.ent_line.proofs.TextLemmas.{ends}
use Rattle.ent_line.proofs.faulting.write_fault.Goals as goal

pub returns : goal.returns
returns c =
    let names = token.key (codes "person") ∷ token.string c.args.person.now ∷ token.key (codes "resource") ∷ token.string c.args.resource.now ∷ [] in
    ends _ _ _ _ (token.begin_object ∷ []) _ c.in_ok-begin_object.ensures.ok
    (ends _ _ _ _ (token.key (codes "action") ∷ token.string c.args.action.now ∷ []) _ c.in_ok-write_text.ensures
    (ends _ _ _ _ (token.key (codes "decision") ∷ token.string (decision_text c.args.answer.now.decision) ∷ []) _ c.in_ok-write_decision.ensures
    (ends _ _ _ _ names _ c.in_ok-write_names.ensures c.end_object.ensures.ok)))
