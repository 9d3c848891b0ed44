use Rattle.std.proofs.Common.{[], ◌∷◌, ◌++◌, codes}
use Rattle.json.specs.Token as token
use Rattle.ent_line.proofs.TextLemmas.{ends, joined}
use Rattle.ent_line.proofs.reports.write_pair.Goals as goal

pub returns : goal.returns
returns c =
    let old = c.args.out.now in
    let start = token.begin_object ∷ [] in
    let action = token.key (codes "action") ∷ token.string c.args.action.now ∷ [] in
    let resource = token.key (codes "resource") ∷ token.string c.args.resource.now ∷ [] in
    let front = joined old _ _ start action c.in_ok-begin_object.ensures.ok c.in_ok-write_text.ensures in
    ends _ old _ _ _ (token.end_object ∷ []) (joined old _ _ (start ++ action) resource front c.in_ok-write_text-2.ensures) c.end_object.ensures.ok
