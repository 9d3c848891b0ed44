-- Refusals, and the numbers by which they are told.
use Rattle.std.specs.Prelude.{ℕ, Option, Some, None}
use Rattle.ent_policy.specs.Fault.{sub_code}
use Rattle.ent_wire.specs.declared.refusal.Refusal.{Refusal}
use Rattle.ent_wire.specs.declared.refusal.Refusal.TheVariants.{TooLong, NotJson, Shape, UnknownCommand, UnknownSession, Document, NotThere, AlreadyThere, Limit, Reserved, BadValue, NoMark, UnknownModule, Request, Memory}

-- the number of a refusal
abbrev pub code_of : Refusal → ℕ
code_of TooLong = 1
code_of NotJson = 2
code_of Shape = 3
code_of UnknownCommand = 4
code_of UnknownSession = 5
code_of (Document fault) = 6
code_of NotThere = 7
code_of AlreadyThere = 8
code_of Limit = 9
code_of Reserved = 10
code_of BadValue = 11
code_of NoMark = 12
code_of UnknownModule = 13
code_of Request = 14
code_of Memory = 15

-- the sub-code that is told beside it, of a document
abbrev pub sub_of : Refusal → Option ℕ
sub_of (Document fault) = Some (sub_code fault)
sub_of other = None
