-- The program's places as spots of the data.
use Rattle.std.specs.Prelude.{◌≡◌, List, Option, Some, None, Result, Ok, Err, IsErr, map, string_bytes}
use Rattle.serde_json.specs.Data.{Data}
use Rattle.ent_policy.specs.declared.fault.CheckFault.{CheckFault}
use Rattle.ent_policy.specs.declared.fault.CheckFault.TheVariants.{Doc, Memory}
use Rattle.ent_policy.specs.declared.fault.DocFault.{DocFault}
use Rattle.lint_places.specs.declared.faults.Faults.{Faults}
use Rattle.lint_places.specs.declared.own.Faulty.{Faulty}
use Rattle.lint_places.specs.declared.place.Place.{Place}
use Rattle.lint_places.specs.declared.scope.Scope as code
use Rattle.lint_places.specs.Faults.{FaultAt}
use Rattle.lint_places.specs.Places.{Spot}
use Rattle.lint_places.specs.Told.{Scope}

-- the definitions around a part
abbrev pub scope_of : {J : Type 0} → (J → Data) → code.Scope J → Scope
scope_of content s = record { definitions = map content s.definitions.now; aside = s.aside; standing = s.standing.items }

-- the spot that a place is
abbrev pub spot_of : {J : Type 0} → (J → Data) → Place J → Spot
spot_of content p = record { pointer = string_bytes p.pointer; part = p.part; scope = scope_of content p.scope; json = content p.json.now }

-- a part, and its fault
abbrev pub fault_at : {J : Type 0} → (J → Data) → Faulty J → FaultAt
fault_at content x = (x.fault, spot_of content x.place)

-- the faults of a document that were found, with their places
abbrev pub faults_in : {J : Type 0} → (J → Data) → Faults J → List FaultAt
faults_in content a = map (fault_at content) a.places.items

-- a fault that was found is the one that is told, and none is where none was found; want of memory says nothing
abbrev pub Tells : {A : Type 0} → Result A CheckFault → Option DocFault → Type 0
Tells (Ok x) told = told ≡ None
Tells (Err (Doc fault)) told = told ≡ Some fault
Tells (Err Memory) told = Unit {0}

-- the fault that was told, if one was; want of memory stays one
abbrev pub IsFound : {A E : Type 0} → Result A CheckFault → Result (Option DocFault) E → Type 0
IsFound (Ok x) found = found ≡ Ok None
IsFound (Err (Doc fault)) found = found ≡ Ok (Some fault)
IsFound (Err Memory) found = IsErr found
