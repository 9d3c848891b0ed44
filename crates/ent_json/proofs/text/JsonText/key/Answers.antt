use Rattle.std.proofs.Common.{false, [], ◌∷◌, ◌++◌, refl, ap, ◌∙◌}
use Rattle.json.proofs.Printed.Utf8.{IsUtf8-key}
use Rattle.json.specs.Token as token
use Rattle.ent_json.proofs.WrittenLemmas.{token_read, token_written}
use Rattle.ent_json.proofs.text.JsonText.key.Goals as goal

pub invariant_of-self-2 : goal.invariant_of-self-2
invariant_of-self-2 c =
    token_written c.self.inside.bytes.items c.append_key.new.bytes.items c.self.inside.after_value false c.self.invariant (token.key c.args.name.now) tt (IsUtf8-key _ c.append_key.ensures.utf8) refl refl c.in_ok-append_key.ensures.ok

pub returns-clause-ok : goal.returns-clause-ok
returns-clause-ok c =
    token_read c.self.inside.bytes.items c.append_key.new.bytes.items c.self.inside.after_value false c.self.invariant (token.key c.args.name.now) tt (IsUtf8-key _ c.append_key.ensures.utf8) refl refl c.in_ok-append_key.ensures.ok
    ∙ ap (λ ts. ts ++ (token.key c.args.name.now) ∷ []) c.self.view_is
