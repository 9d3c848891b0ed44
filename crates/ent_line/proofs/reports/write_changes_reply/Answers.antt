use Rattle.std.proofs.Common.{[], ◌∷◌, ◌++◌, ◌∙◌, append_assoc, codes, decimal, map}
use Rattle.json.specs.Token as token
use Rattle.ent_json.specs.proofs_only.Text.{items_tokens_of}
use Rattle.ent_line.specs.Reports.{changes_reply, notice_data}
use Rattle.ent_line.proofs.TextLemmas.{ends_as, joined}
use Rattle.ent_line.proofs.reports.write_changes_reply.Goals as goal

pub returns : goal.returns
unfolding changes_reply
returns c =
    let old = c.args.out.now in
    let start = token.begin_object ∷ token.key (codes "changes") ∷ token.begin_array ∷ [] in
    let list = items_tokens_of (map notice_data c.args.notices.now) in
    let serial = token.key (codes "serial") ∷ token.number (decimal c.args.serial) ∷ [] in
    let end = token.end_object ∷ [] in
    let one = joined old _ _ start list c.in_ok-begin_list.ensures c.in_ok-write_notices.ensures in
    let two = joined old _ _ (start ++ list) serial one c.in_ok-write_count.ensures in
    ends_as _ old _ _ ((start ++ list) ++ serial) end _
    (append_assoc (start ++ list) serial end ∙ append_assoc start list (serial ++ end)) two c.end_object.ensures.ok
