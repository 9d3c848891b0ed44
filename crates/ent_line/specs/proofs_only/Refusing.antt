-- How the refusal of an edit is told.
use Rattle.std.specs.Prelude.{◌≡◌, Result, Ok, IsErr}
use Rattle.std.specs.declared.alloc.AllocError.{AllocError}
use Rattle.ent_table.specs.declared.edit.EditFault.{EditFault}
use Rattle.ent_table.specs.declared.edit.EditFault.TheVariants.{Memory}
use Rattle.ent_line.specs.Refusals.{refusal_of}
use Rattle.ent_line.specs.declared.reply.Reply.{Reply}
use Rattle.ent_line.specs.declared.reply.Reply.TheVariants.{Refused}

-- want of memory is handed on, and every other refusal of an edit is told
abbrev pub EditRefused : EditFault → Result Reply AllocError → Type 0
EditRefused Memory result = IsErr result
EditRefused fault result = result ≡ Ok (Refused (refusal_of fault))
