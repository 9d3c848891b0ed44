-- The refusal of an edit.
use Rattle.ent_table.specs.declared.edit.EditFault.{EditFault}
use Rattle.ent_table.specs.declared.edit.EditFault.TheVariants as edit
use Rattle.ent_wire.specs.declared.refusal.Refusal.{Refusal}
use Rattle.ent_wire.specs.declared.refusal.Refusal.TheVariants.{NotThere, AlreadyThere, Limit, Reserved, BadValue, UnknownModule, Memory}

-- the refusal of an edit
abbrev pub refusal_of : EditFault → Refusal
refusal_of edit.NotThere = NotThere
refusal_of edit.AlreadyThere = AlreadyThere
refusal_of edit.Limit = Limit
refusal_of edit.Reserved = Reserved
refusal_of edit.BadValue = BadValue
refusal_of edit.UnknownModule = UnknownModule
refusal_of edit.Memory = Memory
