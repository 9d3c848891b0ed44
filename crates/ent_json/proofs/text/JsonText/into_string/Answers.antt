use Rattle.std.proofs.Common.{sym, ap, ◌∙◌}
use Rattle.json.specs.Print.{print}
use Rattle.ent_json.proofs.WrittenLemmas.{shown}
use Rattle.ent_json.proofs.text.JsonText.into_string.Goals as goal

pub returns : goal.returns
returns c =
    ap (λ b. b.items) c.from_utf8_unchecked.ensures.value ∙ c.self.invariant.text ∙ ap print (sym (shown c.self.inside.bytes.items c.self.inside.after_value c.self.invariant) ∙ c.self.view_is)
