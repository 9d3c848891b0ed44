use Rattle.std.proofs.Common.{◌≡◌, drop}
use Rattle.json.specs.Value.{members_view, value_view}
use Rattle.serde_json.specs.Data.{member, no_members}
use Rattle.ent_json.specs.Content.{content_of, members_content}
use Rattle.ent_json.specs.Objects.{alone}
use Rattle.ent_json.proofs.borrowed.alone.Given as goal

-- the members that are left, put behind the key with the last value
abbrev pub invariant-loop-member : goal.invariant-loop-member
invariant-loop-member l =
    alone (members_content (members_view (drop l.member-index l.rest)) (member l.key (content_of (value_view l.last)) no_members)) ≡ alone (members_content (members_view l.members) no_members)
