use Rattle.std.proofs.Common.{[], ap, sym, ◌∙◌}
use Rattle.std.specs.Option.{option_map_or}
use Rattle.ent_index.proofs.Views.{get-index_of}
use Rattle.ent_index.specs.Cells.{in_order}
use Rattle.ent_index.specs.Index.{cells_of}
use Rattle.ent_index.proofs.index.Index.cells_of.Goals as goal

pub returns-in-Some : goal.returns-in-Some
returns-in-Some c =
    c.as_slice.ensures ∙ ap (λ o. option_map_or in_order o []) (c.in-Some.ensures.value ∙ sym (get-index_of c.self.inside.readers c.args.key.now)) ∙ ap (λ i. cells_of i c.args.key.now) c.self.view_is

pub returns-in-None : goal.returns-in-None
returns-in-None c =
    ap (λ o. option_map_or in_order o []) (c.in-None.ensures.value ∙ sym (get-index_of c.self.inside.readers c.args.key.now)) ∙ ap (λ i. cells_of i c.args.key.now) c.self.view_is
