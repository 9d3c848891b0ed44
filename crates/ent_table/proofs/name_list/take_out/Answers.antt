use Rattle.std.proofs.Common.{◌≡◌, false, nat_eq, Some, sym, ap, ◌∙◌}
use Rattle.std.specs.Prelude.{slice_get}
use Rattle.std.specs.Cmp.Lexicographic.{pointwise}
use Rattle.indexmap.specs.IndexSet.{remove_key}
use Rattle.ent_table.specs.Names.{has_name, texts}
use Rattle.ent_table.proofs.Places.{name_at}
use Rattle.ent_table.proofs.Taken.{stands_at}
use Rattle.ent_table.proofs.Texts.{has_text, text_place, texts_less}
use Rattle.ent_table.proofs.name_list.take_out.Goals as goal

pub returns-in_err-place-clause-taken : goal.returns-in_err-place-clause-taken
returns-in_err-place-clause-taken c =
    let name = c.args.name.now in
    let keys = c.args.names.now.keys in
    rw c.from_residual.ensures (sym (has_text name keys) ∙ sym c.in_err-place.ensures.found, ap texts c.in_err-place.ensures.unchanged)

pub returns-clause-taken : goal.returns-clause-taken
returns-clause-taken c =
    let name = c.args.name.now in
    let keys = c.args.names.now.keys in
    let left : texts c.shift_remove_full.new.self.keys ≡ remove_key (pointwise nat_eq name) (texts keys) = ap texts c.in_ok-place.ensures.keys ∙ texts_less name keys in
    let gone : has_name name (remove_key (pointwise nat_eq name) (texts keys)) ≡ false =
    ap (has_name name) (sym left) ∙ sym (has_text name c.shift_remove_full.new.self.keys) ∙ c.in_ok-place.ensures.updates.1 in
    let at : slice_get (texts keys) c.in_ok-place.place ≡ Some name = name_at name (texts keys) c.in_ok-place.place (sym (text_place name keys) ∙ sym c.in_ok-place.ensures.index) in
    let is = stands_at name (texts keys) c.in_ok-place.place at gone in
    (is.0, left ∙ is.1)
