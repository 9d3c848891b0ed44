use Rattle.std.proofs.Common.{refl}
use Rattle.ent_command.proofs.CommandWords.{copied_known}
use Rattle.ent_command.proofs.asking.command_words.Goals as goal

pub returns : goal.returns
returns c = copied_known (λ all. all.items) c.from_slice.result _ c.from_slice.ensures.items refl
