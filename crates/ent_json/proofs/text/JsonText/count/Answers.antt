use Rattle.std.proofs.Common.{true, IsUtf8, subst, decimal, rules, [], ◌∷◌, ◌++◌, refl, ap, ◌∙◌}
use Rattle.json.proofs.Printed.Decimals.{IsNumber-decimal}
use Rattle.json.specs.Token as token
use Rattle.ent_json.proofs.WrittenLemmas.{token_read, token_written}
use Rattle.ent_json.proofs.text.JsonText.count.Goals as goal

pub invariant_of-self-2 : goal.invariant_of-self-2
invariant_of-self-2 c =
    token_written c.self.inside.bytes.items c.append.new.bytes.items c.self.inside.after_value true c.self.invariant (token.number (decimal c.args.count)) (IsNumber-decimal c.args.count (search rules)) (subst IsUtf8 (c.as_bytes.ensures.value ∙ c.format.ensures.text) c.as_bytes.ensures.utf8) refl refl (rw (c.as_bytes.ensures.value, c.format.ensures.text) at c.in_ok-append.ensures.ok)

pub returns-clause-ok : goal.returns-clause-ok
returns-clause-ok c =
    token_read c.self.inside.bytes.items c.append.new.bytes.items c.self.inside.after_value true c.self.invariant (token.number (decimal c.args.count)) (IsNumber-decimal c.args.count (search rules)) (subst IsUtf8 (c.as_bytes.ensures.value ∙ c.format.ensures.text) c.as_bytes.ensures.utf8) refl refl (rw (c.as_bytes.ensures.value, c.format.ensures.text) at c.in_ok-append.ensures.ok)
    ∙ ap (λ ts. ts ++ (token.number (decimal c.args.count)) ∷ []) c.self.view_is
