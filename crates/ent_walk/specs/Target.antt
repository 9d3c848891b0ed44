-- Whether a target matches (sections 7.6 and 7.7).
use Rattle.std.specs.Prelude.{List, [], ◌∷◌, Bool, true, false, if◌then◌else◌, map, find, unwrap_or}
use Rattle.std.specs.List.{list_any}
use Rattle.ent_values.specs.declared.value.Value.{Value}
use Rattle.ent_functions.specs.Applied.{applied}
use Rattle.ent_functions.specs.Arguments.{comes_true}
use Rattle.ent_functions.specs.declared.arg.Arg.TheVariants.{One}
use Rattle.ent_functions.specs.declared.function.Function.{Function}
use Rattle.ent_policy.specs.declared.document.AllOf.{AllOf}
use Rattle.ent_policy.specs.declared.document.AnyOf.{AnyOf}
use Rattle.ent_policy.specs.declared.document.Match.{Match}
use Rattle.ent_policy.specs.declared.document.Target.{Target}
use Rattle.ent_request.specs.declared.answer.Status.TheVariants.{MissingAttribute}
use Rattle.ent_request.specs.declared.request.Request.{Request}
use Rattle.ent_walk.specs.declared.target.Targeted.{Targeted}
use Rattle.ent_walk.specs.declared.target.Targeted.TheVariants as is
use Rattle.ent_request.specs.Looks.{Looks}
use Rattle.ent_request.specs.Part.{Part, mapped, settled, whole}
use Rattle.ent_request.specs.Sources.{demanded}

-- whether a function of a literal and a value is True (appendix A.3). On two values a function that gives a boolean has no fault
abbrev pub is_true : Function → Value → Value → Bool
is_true function literal value = comes_true (applied function (One literal ∷ One value ∷ []))

-- a match of a bag: True where one application is; with no value it is Indeterminate if one must be present (sections 7.6 and 7.3.5)
abbrev pub matched : Match → List Value → Targeted
matched m [] = if m.designator.must_be_present then is.Indeterminate MissingAttribute else is.NoMatch
matched m (v ∷ vs) = if list_any (is_true m.function m.literal) (v ∷ vs) then is.Match else is.NoMatch

-- whether it is a match
abbrev pub is_match : Targeted → Bool
is_match is.Match = true
is_match _ = false

-- whether it is no match
abbrev pub is_no_match : Targeted → Bool
is_no_match is.NoMatch = true
is_no_match _ = false

-- whether it is Indeterminate
abbrev pub is_indeterminate : Targeted → Bool
is_indeterminate (is.Indeterminate status) = true
is_indeterminate _ = false

-- the first Indeterminate of several, with its status, or what there is without one
abbrev pub first_indeterminate : List Targeted → Targeted → Targeted
first_indeterminate ts otherwise = unwrap_or (find is_indeterminate ts) otherwise

-- Table 1 of section 7.7 for a target, and Table 3 for an all-of element: no match where one doesn't match, a match where all do, and else Indeterminate
abbrev pub all_match : List Targeted → Targeted
all_match ts = if list_any is_no_match ts then is.NoMatch else first_indeterminate ts is.Match

-- Table 2 of section 7.7 for an any-of element: a match where one matches, no match where none does, and else Indeterminate
abbrev pub one_matches : List Targeted → Targeted
one_matches ts = if list_any is_match ts then is.Match else first_indeterminate ts is.NoMatch

-- a match (section 7.6)
abbrev pub match_part : Looks → Request → Match → Part Targeted
match_part looks request m = mapped (matched m) (demanded looks request m.designator)

-- several of which all have to match, up to the first that doesn't
abbrev pub all_part : List (Part Targeted) → Part Targeted
all_part parts = whole is_no_match all_match parts

-- several of which one has to, up to the first that does
abbrev pub one_part : List (Part Targeted) → Part Targeted
one_part parts = whole is_match one_matches parts

-- an all-of element, up to its first match that is False (section 7.7)
abbrev pub all_of_part : Looks → Request → AllOf → Part Targeted
all_of_part looks request all_of =
    settled is_indeterminate (all_part (map (match_part looks request) all_of.matches))

-- an any-of element, up to its first alternative that matches (section 7.7)
abbrev pub any_of_part : Looks → Request → AnyOf → Part Targeted
any_of_part looks request any_of =
    settled is_indeterminate (one_part (map (all_of_part looks request) any_of.all_of))

-- a target, up to its first any-of element that doesn't match (section 7.7)
abbrev pub target_part : Looks → Request → Target → Part Targeted
target_part looks request target =
    settled is_indeterminate (all_part (map (any_of_part looks request) target.any_of))
