use Rattle.std.proofs.Common.{true, [], ◌∷◌, ◌++◌, refl, ap, ◌∙◌}
use Rattle.json.specs.Token as token
use Rattle.json.proofs.Printed.Utf8.{IsUtf8-are_ascii}
use Rattle.ent_json.proofs.WrittenLemmas.{end_read, end_written}
use Rattle.ent_json.proofs.text.JsonText.end_object.Goals as goal

pub invariant_of-self-2 : goal.invariant_of-self-2
invariant_of-self-2 c =
    end_written c.self.inside.bytes.items c.append.new.bytes.items c.self.inside.after_value true c.self.invariant token.end_object tt (IsUtf8-are_ascii _ refl) refl refl c.in_ok-append.ensures.ok

pub returns-clause-ok : goal.returns-clause-ok
returns-clause-ok c =
    end_read c.self.inside.bytes.items c.append.new.bytes.items c.self.inside.after_value true c.self.invariant token.end_object tt (IsUtf8-are_ascii _ refl) refl refl c.in_ok-append.ensures.ok
    ∙ ap (λ ts. ts ++ token.end_object ∷ []) c.self.view_is
