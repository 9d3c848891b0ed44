use Rattle.std.proofs.Common.{true, [], ◌∷◌, ◌++◌, refl, ap, ◌∙◌}
use Rattle.json.proofs.Printed.Utf8.{IsUtf8-quoted}
use Rattle.ent_json.specs.Dotted.{dotted}
use Rattle.json.specs.Token as token
use Rattle.ent_json.proofs.WrittenLemmas.{token_read, token_written}
use Rattle.ent_json.proofs.text.JsonText.dotted.Goals as goal

pub invariant_of-self-2 : goal.invariant_of-self-2
invariant_of-self-2 c =
    token_written c.self.inside.bytes.items c.append_dotted.new.bytes.items c.self.inside.after_value true c.self.invariant (token.string (dotted c.args.numbers.now)) tt (IsUtf8-quoted _ c.append_dotted.ensures.utf8) refl refl c.in_ok-append_dotted.ensures.ok

pub returns-clause-ok : goal.returns-clause-ok
returns-clause-ok c =
    token_read c.self.inside.bytes.items c.append_dotted.new.bytes.items c.self.inside.after_value true c.self.invariant (token.string (dotted c.args.numbers.now)) tt (IsUtf8-quoted _ c.append_dotted.ensures.utf8) refl refl c.in_ok-append_dotted.ensures.ok
    ∙ ap (λ ts. ts ++ (token.string (dotted c.args.numbers.now)) ∷ []) c.self.view_is
