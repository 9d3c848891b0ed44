use Rattle.std.proofs.Common.{◌≡◌, Option, Some, None, option_map, Bor, Global, refl, sym, ap, ◌∙◌}
use Rattle.json.specs.Value.{value_view}
use Rattle.json.specs.declared.value.Value.{Value}
use Rattle.ent_json.specs.Content.{content_of}
use Rattle.ent_json.proofs.MemberLemmas.{get-content_of}
use Rattle.ent_json.proofs.borrowed.ValueJsonTree.get.Goals as goal

both : (r : Option (Bor (Value Global))) → option_map (λ v. content_of (value_view v.now)) r ≡ option_map content_of (option_map (λ v. value_view v.now) r)
both None = refl
both (Some v) = refl

pub returns : goal.returns
returns c = both c.get.result ∙ ap (option_map content_of) c.get.ensures ∙ sym (get-content_of c.args.key.now (value_view c.args.self.now))
