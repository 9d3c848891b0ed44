use Rattle.std.proofs.Common.{◌≡◌, ℕ, List, Bool, true, false, cond, Some, None, refl, sym, ap, ◌∙◌, subst}
use Rattle.std.proofs.lemmas.Str.{IsUtf8-from_is_utf8, is_utf8-from_IsUtf8}
use Rattle.std.specs.Str.{IsUtf8, is_utf8}
use Rattle.serde_json.specs.Read.{read}
use Rattle.serde_json.specs.View.{view}
use Rattle.script_matching.proofs.compared.value_of.Goals as goal

none_at : (line : List ℕ) (b : Bool) → is_utf8 line ≡ b → (IsUtf8 line → ⊥) → None ≡ cond b (read line) None
none_at line true e h = absurd (h (IsUtf8-from_is_utf8 line e))
none_at line false e h = refl

pub returns-in_default : goal.returns-in_default
returns-in_default c = none_at c.args.text.now (is_utf8 c.args.text.now) refl c.in_default.ensures.cases.0

pub returns-in-Ok-from_str : goal.returns-in-Ok-from_str
returns-in-Ok-from_str c =
    let line = c.args.text.now in
    let utf8 : is_utf8 line ≡ true = is_utf8-from_IsUtf8 line c.in-Ok.ensures.cases.1 in
    let text : c.in-Ok.text.now ≡ line = c.in-Ok.ensures.cases.0 in
    sym (ap (λ b. cond b (read line) None) utf8 ∙ subst (λ t. read t ≡ Some (view c.in-Ok-from_str.value)) text c.in-Ok-from_str.ensures.ok)
