use Rattle.std.proofs.Common.{true, [], ◌∷◌, ◌++◌, refl, ap, ◌∙◌}
use Rattle.json.proofs.Printed.Utf8.{IsUtf8-quoted}
use Rattle.json.specs.Token as token
use Rattle.ent_json.proofs.WrittenLemmas.{token_read, token_written}
use Rattle.ent_json.proofs.text.JsonText.string.Goals as goal

pub invariant_of-self-2 : goal.invariant_of-self-2
invariant_of-self-2 c =
    token_written c.self.inside.bytes.items c.append_string.new.bytes.items c.self.inside.after_value true c.self.invariant (token.string c.args.text.now) tt (IsUtf8-quoted _ c.append_string.ensures.utf8) refl refl c.in_ok-append_string.ensures.ok

pub returns-clause-ok : goal.returns-clause-ok
returns-clause-ok c =
    token_read c.self.inside.bytes.items c.append_string.new.bytes.items c.self.inside.after_value true c.self.invariant (token.string c.args.text.now) tt (IsUtf8-quoted _ c.append_string.ensures.utf8) refl refl c.in_ok-append_string.ensures.ok
    ∙ ap (λ ts. ts ++ (token.string c.args.text.now) ∷ []) c.self.view_is
