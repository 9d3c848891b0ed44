use Rattle.std.proofs.Common.{◌≡◌, List, [], ◌∷◌, map, Some, Global, refl, sym, ap, ◌∙◌}
use Rattle.json.specs.Value.{value_view, items_view}
use Rattle.json.specs.declared.value.Value.{Value}
use Rattle.json.proofs.Trees.{view-Array}
use Rattle.serde_json.specs.Data.{item}
use Rattle.serde_json.specs.Find.{as_array}
use Rattle.serde_json.specs.View.{items_of}
use Rattle.ent_json.specs.Content.{content_of, items_content}
use Rattle.ent_json.proofs.borrowed.ValueJsonTree.as_array.Goals as goal

each : (vs : List (Value Global)) → items_of (map (λ v. content_of (value_view v)) vs) ≡ items_content (items_view vs)
each [] = refl
each (v ∷ vs) = ap (item (content_of (value_view v))) (each vs)

pub returns-in-Array : goal.returns-in-Array
returns-in-Array c =
    let seen = ap value_view c.in-Array.is ∙ view-Array c.in-Array.items in
    ap (λ vs. Some (items_of (map (λ v. content_of (value_view v)) vs))) c.as_slice.ensures.value ∙ ap Some (each c.in-Array.items.items) ∙ sym (ap (λ j. as_array (content_of j)) seen)
