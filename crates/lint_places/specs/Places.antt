-- Where a fault stands: at the smallest part of a document that has it.
use Rattle.std.specs.Prelude.{◌≡◌, ℕ, zero, suc, List, [], ◌∷◌, ◌++◌, Bool, true, false, not, ◌&&◌, ◌==◌, Option, Some, None, unwrap_or, codes}
use Rattle.std.specs.Fmt.{decimal}
use Rattle.std.specs.List.{All, Contains, flat_map}
use Rattle.serde_json.specs.Data.{Data}
use Rattle.serde_json.specs.Find.{get}
use Rattle.ent_policy.specs.declared.fault.DocFault.{DocFault}
use Rattle.ent_policy.specs.Fault.{sub_code}
use Rattle.lint_places.specs.Parts.{Row, item, rows}
use Rattle.lint_places.specs.Told.{Scope, list_of, nowhere, scope_told, standing_without, told}
use Rattle.lint_places.specs.declared.part.Part.{Part}
use Rattle.lint_places.specs.declared.part.Part.TheVariants as part

-- a part of a document: its place as a JSON pointer (RFC 6901), what it is for, the definitions around it, and what stands there
pub record Spot : Type 0 where
  pub pointer : List ℕ
  pub part : Part
  pub scope : Scope
  pub json : Data

-- a whole document
abbrev pub whole : Data → Spot
whole d = record { pointer = []; part = part.Document; scope = nowhere; json = d }

-- ---- the parts that stand in a part

-- the members of what should be an array, none where it isn't one
abbrev pub listed : Option Data → List Data
listed None = []
listed (Some d) = unwrap_or (list_of d) []

-- the definitions around what stands in a part: those of a policy are around all that stands in it
abbrev pub scope_in : Part → Scope → Data → Scope
scope_in part.Policy s d = record { definitions = listed (get (codes "VariableDefinition") d); aside = None; standing = [] }
scope_in part.Set s d = nowhere
scope_in _ s d = s

-- but none are around the list of them, nor around what is judged by itself, whatever stands around it
abbrev pub scope_at : Part → Scope → Scope
scope_at part.Definitions s = nowhere
scope_at part.Name s = nowhere
scope_at part.Description s = nowhere
scope_at part.Version s = nowhere
scope_at part.Pattern s = nowhere
scope_at part.RuleAlgorithm s = nowhere
scope_at part.PolicyAlgorithm s = nowhere
scope_at part.Function s = nowhere
scope_at part.DataType s = nowhere
scope_at part.Literal s = nowhere
scope_at part.Effect s = nowhere
scope_at part.Flag s = nowhere
scope_at _ s = s

-- what stands at a key
abbrev pub at_key : Spot → Row → Option Data → List Spot
at_key s row None = []
at_key s row (Some d) = record { pointer = s.pointer ++ codes "/" ++ row.0; part = row.1; scope = scope_at row.1 (scope_in s.part s.scope s.json); json = d } ∷ []

-- the parts at the keys of an object
abbrev pub at_keys : Spot → List Spot
at_keys s = flat_map (λ row. at_key s row (get row.0 s.json)) (rows s.part)

-- the definitions around a member of a list: around a definition are those of its list, and it is set aside itself
abbrev pub scope_of_member : Part → Scope → List Data → ℕ → Scope
scope_of_member part.Definitions s all n = record { definitions = all; aside = Some n; standing = standing_without all n }
scope_of_member _ s all n = s

-- the members of a list, of which the first has this number
abbrev pub at_numbers : Spot → Part → List Data → ℕ → List Data → List Spot
at_numbers s p all n [] = []
at_numbers s p all n (d ∷ ds) = record { pointer = s.pointer ++ codes "/" ++ decimal n; part = p; scope = scope_of_member s.part s.scope all n; json = d }
    ∷ at_numbers s p all (suc n) ds

-- the parts in a list
abbrev pub in_list : Spot → Option Part → List Spot
in_list s None = []
in_list s (Some p) = at_numbers s p (listed (Some s.json)) 0 (listed (Some s.json))

-- the parts that stand in a part, one level down
abbrev pub inside : Spot → List Spot
inside s = at_keys s ++ in_list s (item s.part)

-- ---- where a fault stands

-- it is this fault
abbrev pub is_fault : DocFault → Option DocFault → Bool
is_fault f None = false
is_fault f (Some g) = sub_code f == sub_code g

-- a part has a fault where it is told of the part, and not of the definitions around it alone
abbrev pub is_faulty : DocFault → Part → Scope → Data → Bool
is_faulty f p s d = is_fault f (told p s d) && not (is_fault f (scope_told s))

-- what stands at a spot has the fault
abbrev pub has_fault : DocFault → Spot → Bool
has_fault f s = is_faulty f s.part s.scope s.json

-- a spot stands that many levels inside another
abbrev pub StandsInside : ℕ → Spot → Spot → Type 0
StandsInside zero spot whole = spot ≡ whole
StandsInside (suc n) spot whole = (s : Spot) × Contains (inside whole) s × StandsInside n spot s

-- the smallest spot with a fault, inside another: it has the fault, and none of the parts one level inside of it has it
pub record IsSmallest (f : DocFault) (spot whole : Spot) : Type 0 where
  pub level : ℕ
  pub is_inside : StandsInside level spot whole
  pub has_it : has_fault f spot ≡ true
  pub is_smallest : All (λ s. has_fault f s ≡ false) (inside spot)

-- where a fault of a document stands: at the smallest part that has it
abbrev pub StandsAt : DocFault → Spot → Data → Type 0
StandsAt f spot d = IsSmallest f spot (whole d)
