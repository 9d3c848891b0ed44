-- The causes of an evaluation that failed: what fails in it by itself, each once (section 5.55).
use Rattle.std.specs.Prelude.{List, [], ◌∷◌, ◌++◌, Bool, true, false, if◌then◌else◌, filter, not, Option, Some, None}
use Rattle.std.specs.List.{list_any}
use Rattle.ent_request.specs.contracts.cause.CausePartialEq.TheImpl as cause
use Rattle.ent_request.specs.declared.cause.Cause.{Cause}

-- what `==` of two causes says
abbrev pub same_cause : Cause → Cause → Bool
same_cause = (cause.ghosts).eq

-- causes, each once, in the order in which they are told first, with one more
abbrev pub with_cause : List Cause → Cause → List Cause
with_cause causes cause = if list_any (same_cause cause) causes then causes else causes ++ cause ∷ []

-- the same with several more
abbrev pub told_once : List Cause → List Cause → List Cause
told_once causes [] = causes
told_once causes (more ∷ others) = told_once (with_cause causes more) others

-- whether there are any
abbrev pub are_any : List Cause → Bool
are_any [] = false
are_any (cause ∷ others) = true

-- causes, the one that is named before the others
abbrev pub named_first : Option Cause → List Cause → List Cause
named_first None causes = causes
named_first (Some named) causes = named ∷ filter (λ cause. not (same_cause named cause)) causes
