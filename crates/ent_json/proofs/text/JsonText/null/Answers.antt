use Rattle.std.proofs.Common.{true, [], ◌∷◌, ◌++◌, refl, ap, ◌∙◌}
use Rattle.json.proofs.Printed.Utf8.{IsUtf8-are_ascii}
use Rattle.json.specs.Token as token
use Rattle.ent_json.proofs.WrittenLemmas.{token_read, token_written}
use Rattle.ent_json.proofs.text.JsonText.null.Goals as goal

pub invariant_of-self-2 : goal.invariant_of-self-2
invariant_of-self-2 c =
    token_written c.self.inside.bytes.items c.append.new.bytes.items c.self.inside.after_value true c.self.invariant token.null tt (IsUtf8-are_ascii _ refl) refl refl c.in_ok-append.ensures.ok

pub returns-clause-ok : goal.returns-clause-ok
returns-clause-ok c =
    token_read c.self.inside.bytes.items c.append.new.bytes.items c.self.inside.after_value true c.self.invariant token.null tt (IsUtf8-are_ascii _ refl) refl refl c.in_ok-append.ensures.ok
    ∙ ap (λ ts. ts ++ token.null ∷ []) c.self.view_is
