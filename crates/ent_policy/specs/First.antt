-- The order of the faults of documents, and the first of some.
use Rattle.std.specs.Prelude.{ℕ, List, [], ◌∷◌, Bool, Option, Some, None, if◌then◌else◌, nat_le}
use Rattle.ent_policy.specs.declared.fault.DocFault.{DocFault}
use Rattle.ent_policy.specs.declared.fault.DocFault.TheVariants.{Form, Identifier, Version, Algorithm, Function, Variable, Size, Depth, «Type»}

-- the place of a fault in the order in which faults are told
abbrev pub place : DocFault → ℕ
place Form = 0
place Identifier = 1
place Version = 2
place Algorithm = 3
place Function = 4
place Variable = 5
place Size = 6
place Depth = 7
place «Type» = 8

-- the fault, where the test says so
abbrev pub if_so : Bool → DocFault → Option DocFault
if_so test fault = if test then Some fault else None

-- the one of two that is told first, where there is one
abbrev pub earlier : Option DocFault → Option DocFault → Option DocFault
earlier None found = found
earlier (Some fault) None = Some fault
earlier (Some fault) (Some other) = if nat_le (place fault) (place other) then Some fault else Some other

-- the one of some that is told first
abbrev pub first_of : List (Option DocFault) → Option DocFault
first_of [] = None
first_of (found ∷ others) = earlier found (first_of others)
