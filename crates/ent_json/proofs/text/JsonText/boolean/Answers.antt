use Rattle.std.proofs.Common.{true, IsUtf8, subst, [], ◌∷◌, ◌++◌, refl, ap, ◌∙◌}
use Rattle.json.specs.Token as token
use Rattle.ent_json.proofs.WrittenLemmas.{token_read, token_written}
use Rattle.ent_json.proofs.text.JsonText.boolean.Goals as goal

pub invariant_of-self-2 : goal.invariant_of-self-2
invariant_of-self-2 c =
    token_written c.self.inside.bytes.items c.append.new.bytes.items c.self.inside.after_value true c.self.invariant (token.boolean c.args.flag) tt (subst IsUtf8 (c.as_bytes.ensures.value ∙ c.flag_text.ensures) c.as_bytes.ensures.utf8) refl refl (rw (c.as_bytes.ensures.value, c.flag_text.ensures) at c.in_ok-append.ensures.ok)

pub returns-clause-ok : goal.returns-clause-ok
returns-clause-ok c =
    token_read c.self.inside.bytes.items c.append.new.bytes.items c.self.inside.after_value true c.self.invariant (token.boolean c.args.flag) tt (subst IsUtf8 (c.as_bytes.ensures.value ∙ c.flag_text.ensures) c.as_bytes.ensures.utf8) refl refl (rw (c.as_bytes.ensures.value, c.flag_text.ensures) at c.in_ok-append.ensures.ok)
    ∙ ap (λ ts. ts ++ (token.boolean c.args.flag) ∷ []) c.self.view_is
