use Rattle.std.proofs.Common.{◌≡◌, ◌++◌, ◌∷◌, [], false, length, sym, ap, ◌∙◌, arith, length-append}
use Rattle.std.specs.Prelude.{string_bytes}
use Rattle.std.proofs.lemmas.List.{length-map}
use Rattle.ent_table.specs.Names.{has_name, texts}
use Rattle.ent_table.proofs.Texts.{texts_more}
use Rattle.ent_table.proofs.name_list.NameList.push.Goals as goal

pub invariant_of-self-2 : goal.invariant_of-self-2
invariant_of-self-2 c =
    let name = c.args.name in
    let keys = c.self.inside.names.keys in
    let absent : has_name name (texts keys) ≡ false = ap (has_name name) c.self.view_is ∙ c.requires.absent in
    let more : texts c.insert.new.self.keys ≡ texts keys ++ name ∷ [] = ap texts c.in_ok-insert.ensures.keys ∙ texts_more c.in_ok-key.key name keys (c.in_ok-key.ensures.ok ∙ c.as_str.ensures) absent in (
      more ∙ ap (λ xs. xs ++ name ∷ []) (c.self.invariant.0 ∙ sym c.reserve.ensures.items) ∙ sym c.in_ok-push.ensures.items,
      omega (arith, length-map c.insert.new.self.keys string_bytes, ap length more, length-append (texts keys) (name ∷ []), ap length c.self.view_is, c.requires.room),
    )

pub returns-clause-ok : goal.returns-clause-ok
returns-clause-ok c =
    let name = c.args.name in
    let keys = c.self.inside.names.keys in
    let absent : has_name name (texts keys) ≡ false = ap (has_name name) c.self.view_is ∙ c.requires.absent in
    let more : texts c.insert.new.self.keys ≡ texts keys ++ name ∷ [] = ap texts c.in_ok-insert.ensures.keys ∙ texts_more c.in_ok-key.key name keys (c.in_ok-key.ensures.ok ∙ c.as_str.ensures) absent in
    more ∙ ap (λ xs. xs ++ name ∷ []) c.self.view_is
