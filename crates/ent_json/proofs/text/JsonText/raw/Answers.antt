use Rattle.std.proofs.Common.{◌++◌, IsUtf8, subst, ap, ◌∙◌}
use Rattle.json.specs.Lex.{tokens}
use Rattle.ent_json.proofs.WrittenLemmas.{fragment_read, fragment_written}
use Rattle.ent_json.proofs.text.JsonText.raw.Goals as goal

pub invariant_of-self-2 : goal.invariant_of-self-2
invariant_of-self-2 c =
    fragment_written c.self.inside.bytes.items c.append.new.bytes.items c.args.fragment.now c.self.inside.after_value c.self.invariant c.requires (subst IsUtf8 c.as_bytes.ensures.value c.as_bytes.ensures.utf8) (rw c.as_bytes.ensures.value at c.in_ok-append.ensures.ok)

pub returns-clause-ok : goal.returns-clause-ok
returns-clause-ok c =
    fragment_read c.self.inside.bytes.items c.append.new.bytes.items c.args.fragment.now c.self.inside.after_value c.self.invariant c.requires (subst IsUtf8 c.as_bytes.ensures.value c.as_bytes.ensures.utf8) (rw c.as_bytes.ensures.value at c.in_ok-append.ensures.ok)
    ∙ ap (λ ts. ts ++ tokens c.args.fragment.now) c.self.view_is
