-- Scopes whose definitions needn't be looked into, as the code keeps them: words of its own contracts.
use Rattle.std.specs.Prelude.{◌≡◌, List, [], Bool, true, false, Option, Some, None, Ok, length, nat_le, nat_lt, replicate}
use Rattle.serde_json.specs.Data.{Data}
use Rattle.ent_policy.specs.Check.{fault_of}
use Rattle.ent_policy.specs.First.{place}
use Rattle.ent_policy.specs.declared.fault.DocFault.{DocFault}
use Rattle.ent_policy.specs.declared.fault.DocFault.TheVariants as fault
use Rattle.ent_policy.specs.declared.raw.RawVariableDefinition.{RawVariableDefinition}
use Rattle.lint_places.specs.Told.{Scope, nowhere, of_rules, told, variables_in}
use Rattle.lint_places.specs.declared.part.Part.{Part}
use Rattle.lint_places.specs.declared.part.Part.TheVariants as part
use Rattle.lint_places.specs.Views.{scope_of}
use Rattle.lint_places.specs.declared.place.Place.{Place}
use Rattle.lint_places.specs.declared.scope.Scope as code

-- a fault is told no later than those of variables
abbrev pub is_early : DocFault → Bool
is_early f = nat_le (place f) 5

-- what is told is told later than the fault, or nothing is
abbrev pub is_later : DocFault → Option DocFault → Bool
is_later f None = true
is_later f (Some g) = nat_lt (place f) (place g)

-- nothing is told of some definitions up to the fault
abbrev pub AreFree : DocFault → List RawVariableDefinition → Type 0
AreFree f vs = is_later f (fault_of (of_rules [] vs)) ≡ true

-- those of a scope can be read, and nothing is told of them up to the fault
pub record IsFree (f : DocFault) (s : Scope) : Type 0 where
  pub variables : List RawVariableDefinition
  pub are_read : variables_in s ≡ Ok variables
  pub are_free : AreFree f variables

-- a scope with these definitions, of which none is looked into, but each has its name
abbrev pub bare : Scope → Scope
bare s = record { definitions = s.definitions; aside = None; standing = replicate (length s.definitions) false }

-- the scope in which a part of a clear scope is judged: for a fault of variables with the names of the definitions, for one that is told
-- before those without any
abbrev pub light : DocFault → Scope → Scope
light fault.Variable s = bare s
light f s = nowhere

-- a scope in which an early fault of a part has nothing to do with what the definitions say
pub record IsClear (f : DocFault) (s : Scope) : Type 0 where
  pub early : is_early f ≡ true
  pub free : IsFree f s
  pub light_free : IsFree f (light f s)

-- what is marked as clear is
abbrev pub IsMarked : {J : Type 0} → (J → Data) → DocFault → code.Scope J → Type 0
IsMarked content f s = s.clear ≡ true → IsClear f (scope_of content s)

-- a scope isn't marked, or it is the same as another and marked as that is
abbrev pub IsMarkedAs : {J : Type 0} → (J → Data) → code.Scope J → code.Scope J → Type 0
IsMarkedAs content s t = t.clear ≡ true → (s.clear ≡ true) × (scope_of content t ≡ scope_of content s)

-- the scope of a place that was found is marked as clear only where it is
abbrev pub AreMarked : {J : Type 0} → (J → Data) → DocFault → Option (Place J) → Type 0
AreMarked content f None = Unit {0}
AreMarked content f (Some p) = IsMarked content f p.scope

-- a part isn't a definition, and nothing is told of it where it stands in no policy
pub record IsFineAlone (p : Part) (d : Data) : Type 0 where
  pub no_definition : p ≡ part.Definition → ⊥
  pub is_fine : told p nowhere d ≡ None
