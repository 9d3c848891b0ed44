-- What an edit of a review is answered, in a word each.
use Rattle.std.specs.Prelude.{◌≡◌, ℕ, Result, Err, IfErr}
use Rattle.ent_table.specs.declared.edit.Accepted.{Accepted}
use Rattle.ent_table.specs.declared.edit.Edit.{Edit}
use Rattle.ent_table.specs.declared.edit.Edit.TheVariants.{DropName}
use Rattle.ent_table.specs.declared.edit.EditFault.{EditFault}
use Rattle.ent_table.specs.State.{State}
use Rattle.ent_table.specs.Step.{IsAnswered, name_dropped}

-- one state becomes another by a step, and it is answered as that step is
abbrev pub Edits : (State → Result State EditFault) → State → State → Result Accepted EditFault → Type 0
Edits step old new result = IsAnswered (step old) old new result

-- an edit that takes no memory is refused as its step is, and never for want of memory
abbrev pub IsSure : Edit → State → Result Accepted EditFault → Type 0
IsSure (DropName list name) old result = IfErr result (λ fault. name_dropped old list name ≡ Err fault)
IsSure _ old result = Unit {0}

-- dropping a name leaves the count of evaluations
abbrev pub IsIdle : Edit → ℕ → ℕ → Type 0
IsIdle (DropName list name) before after = after ≡ before
IsIdle _ before after = Unit {0}
