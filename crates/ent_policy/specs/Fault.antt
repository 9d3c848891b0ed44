-- The sub-codes of faults.
use Rattle.std.specs.Prelude.{ℕ}
use Rattle.ent_policy.specs.declared.fault.DocFault.{DocFault}
use Rattle.ent_policy.specs.declared.fault.DocFault.TheVariants.{Form, Identifier, Version, Algorithm, Function, Variable, Size, Depth, «Type»}

-- the number by which a fault is told
abbrev pub sub_code : DocFault → ℕ
sub_code Function = 1
sub_code «Type» = 2
sub_code Algorithm = 3
sub_code Variable = 4
sub_code Depth = 5
sub_code Size = 6
sub_code Version = 7
sub_code Identifier = 8
sub_code Form = 9
