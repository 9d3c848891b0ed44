use Rattle.std.proofs.Common.{sym, ap, ◌∙◌}
use Rattle.json.specs.Value.{members_view, value_view}
use Rattle.json.proofs.Trees.{view-Object}
use Rattle.serde_json.specs.Data.{no_members}
use Rattle.ent_json.specs.Content.{content_of, members_content}
use Rattle.ent_json.specs.Objects.{alone, one_member}
use Rattle.ent_json.proofs.borrowed.ValueJsonTree.one_member.Goals as goal

pub returns-in-Object : goal.returns-in-Object
returns-in-Object c =
    let seen = ap value_view c.in-Object.is ∙ view-Object c.in-Object.members in
    c.alone.ensures ∙ ap (λ ms. alone (members_content (members_view ms) no_members)) c.deref.ensures.value ∙ sym (ap (λ j. one_member (content_of j)) seen)
