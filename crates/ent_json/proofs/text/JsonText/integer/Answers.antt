use Rattle.std.proofs.Common.{◌≡◌, true, IsUtf8, subst, rules, [], ◌∷◌, ◌++◌, refl, ap, ◌∙◌}
use Rattle.std.specs.Fmt.{signed_decimal}
use Rattle.json.proofs.Printed.Decimals.{IsNumber-signed_decimal}
use Rattle.json.specs.Token as token
use Rattle.ent_json.proofs.WrittenLemmas.{token_read, token_written}
use Rattle.ent_json.proofs.text.JsonText.integer.Goals as goal

pub invariant_of-self-2 : goal.invariant_of-self-2
invariant_of-self-2 c =
    let text : c.as_bytes.result.now ≡ signed_decimal c.args.integer = search rules in
    token_written c.self.inside.bytes.items c.append.new.bytes.items c.self.inside.after_value true c.self.invariant (token.number (signed_decimal c.args.integer))
    (search (rules, IsNumber-signed_decimal)) (subst IsUtf8 text c.as_bytes.ensures.utf8) refl refl (rw text at c.in_ok-append.ensures.ok)

pub returns-clause-ok : goal.returns-clause-ok
returns-clause-ok c =
    let text : c.as_bytes.result.now ≡ signed_decimal c.args.integer = search rules in
    token_read c.self.inside.bytes.items c.append.new.bytes.items c.self.inside.after_value true c.self.invariant (token.number (signed_decimal c.args.integer))
    (search (rules, IsNumber-signed_decimal)) (subst IsUtf8 text c.as_bytes.ensures.utf8) refl refl (rw text at c.in_ok-append.ensures.ok)
    ∙ ap (λ ts. ts ++ token.number (signed_decimal c.args.integer) ∷ []) c.self.view_is
