use Rattle.std.proofs.Common.{◌≡◌, ℕ, List, [], Bool, true, false, cond, Some, None, refl, sym, ap, ◌∙◌, arith, rules}
use Rattle.std.proofs.lemmas.Str.{IsUtf8-from_is_utf8, is_utf8-from_IsUtf8}
use Rattle.std.specs.Str.{IsUtf8, is_utf8}
use Rattle.json.specs.Json.{value}
use Rattle.json.specs.Lex.{tokens}
use Rattle.json.specs.Value.{value_view}
use Rattle.serde_json.specs.Read.{read, of_json}
use Rattle.std.specs.Option.{is_some}
use Rattle.ent_json.proofs.Reading.{read-whole}
use Rattle.ent_json.proofs.line.read_json.Goals as goal

none_at : (line : List ℕ) (b : Bool) → is_utf8 line ≡ b → (IsUtf8 line → ⊥) → None ≡ cond b (read line) None
none_at line true e h = absurd (h (IsUtf8-from_is_utf8 line e))
none_at line false e h = refl

pub returns-in_default-clause-read : goal.returns-in_default-clause-read
returns-in_default-clause-read c = none_at c.args.text.now (is_utf8 c.args.text.now) refl c.in_default.ensures.cases.0

pub returns-then-is_whole-clause-read : goal.returns-then-is_whole-clause-read
returns-then-is_whole-clause-read c =
    let line = c.args.text.now in
    let utf8 : is_utf8 line ≡ true = is_utf8-from_IsUtf8 line c.in-Ok.ensures.cases.1 in
    let text : c.in-Ok.text.now ≡ line = c.in-Ok.ensures.cases.0 in
    let over : c.read.new.reader ≡ [] = search rules in
    let found : value 127 (tokens line) ≡ Some (value_view c.in-Ok-read.value, []) = rw (← over, ← text, ← c.in_ok-reader.ensures.ok) c.in-Ok-read.ensures.ok in
    let whole : is_some (of_json (value_view c.in-Ok-read.value)) ≡ true = grind arith in
    sym (ap (λ b. cond b (read line) None) utf8 ∙ read-whole line (value_view c.in-Ok-read.value) found whole)
