-- To which documents the root leads: to the one that it finds, and to those that references in such documents find (sections 5.10 and 5.11).
use Rattle.std.specs.Prelude.{ℕ, zero, suc, List, [], ◌∷◌, ◌++◌, Bool, Option, Some, None}
use Rattle.std.specs.FinMap.{get}
use Rattle.std.specs.List.{filter_map, flat_map, list_any}
use Rattle.std.specs.Option.{option_map, option_map_or}
use Rattle.ent_policy.specs.Children.{as_child}
use Rattle.ent_policy.specs.Key.{key_of}
use Rattle.ent_policy.specs.declared.document.Child.{Child}
use Rattle.ent_policy.specs.declared.document.Child.TheFolds.{fold-Child}
use Rattle.ent_policy.specs.declared.document.Child.TheOpen.{Child-F, PolicySet-F}
use Rattle.ent_policy.specs.declared.key.Reference.{Reference}
use Rattle.ent_finder.specs.Finding.{resolved}
use Rattle.ent_finder.specs.Slots.{Docs, module_at}
use Rattle.ent_walk.specs.Answer.{most_hops}
use Rattle.lint_reach.specs.contracts.place.DocPlacePartialEq.TheImpl as places
use Rattle.lint_reach.specs.declared.place.DocPlace.{DocPlace}

-- ---- references

-- one level of a child, with the references in a set
abbrev pub child_step : Child-F (List Reference) (List Reference) → List Reference
child_step (Child-F.Policy policy) = []
child_step (Child-F.Set references) = references
child_step (Child-F.Reference reference) = reference ∷ []

-- one level of a set, with the references in each child
abbrev pub set_step : PolicySet-F (List Reference) (List Reference) → List Reference
set_step set = flat_map (λ references. references) set.children

-- the references in a child, those of the sets in it included
abbrev pub references_in : Child → List Reference
references_in = fold-Child (List Reference) (List Reference) child_step set_step

-- the references of the document at a place, none where there is no document
abbrev pub references_at : List Docs → DocPlace → List Reference
references_at modules place = option_map_or (λ document. references_in (as_child document)) (get (module_at modules place.number) place.key) []

-- ---- places

-- the place of the document that a reference finds, if it finds one
abbrev pub place_found : List Docs → Reference → Option DocPlace
place_found modules reference = option_map (λ found. record { number = found.0; key = key_of found.1 }) (resolved reference modules)

-- the places of the documents that these references find
abbrev pub places_found : List Docs → List Reference → List DocPlace
places_found modules references = filter_map (place_found modules) references

-- the root, if there is one
abbrev pub roots : Option Reference → List Reference
roots None = []
roots (Some root) = root ∷ []

-- the places to which the root leads over at most so many references in documents
abbrev pub places_within : ℕ → List Docs → Option Reference → List DocPlace
places_within zero modules root = places_found modules (roots root)
places_within (suc hops) modules root =
    places_within hops modules root ++ places_found modules (flat_map (references_at modules) (places_within hops modules root))

-- whether a place is among these
abbrev pub has_place : DocPlace → List DocPlace → Bool
has_place place among = list_any ((places.ghosts).eq place) among

-- whether the root leads to the document at a place: over at most six references, as in an evaluation, of which the root is none
abbrev pub is_reached : List Docs → Option Reference → DocPlace → Bool
is_reached modules root place = has_place place (places_within most_hops modules root)
