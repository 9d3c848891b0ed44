-- What a search found so far: words of the code's own contracts.
use Rattle.std.specs.Prelude.{◌≡◌, ◌||◌, List, Bool, Some, true}
use Rattle.std.specs.List.{list_any}
use Rattle.ent_policy.specs.Same.{same_reference}
use Rattle.ent_policy.specs.declared.key.Reference.{Reference}
use Rattle.ent_finder.specs.Slots.{Docs}
use Rattle.lint_reach.specs.Reached.{has_place, place_found, places_found}
use Rattle.lint_reach.specs.declared.place.DocPlace.{DocPlace}
use Rattle.lint_reach.specs.declared.search.Search.{Search}

-- whether a reference is among these
abbrev pub has_reference : Reference → List Reference → Bool
has_reference reference among = list_any (same_reference reference) among

-- the document that a reference finds was found, if the reference was looked for
pub record IsSound (modules : List Docs) (s : Search) : Type 0 where
  pub found : (reference : Reference) (place : DocPlace) → has_reference reference s.references.keys ≡ true
      → place_found modules reference ≡ Some place → has_place place s.places.keys ≡ true

-- a search found what these references find, and nothing else
pub record Leads (modules : List Docs) (references : List Reference) (before after : Search) : Type 0 where
  pub sound : IsSound modules after
  pub places : (place : DocPlace) → has_place place after.places.keys
      ≡ (has_place place before.places.keys || has_place place (places_found modules references))
