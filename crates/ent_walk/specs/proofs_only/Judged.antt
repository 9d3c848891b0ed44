-- An answer that may be absent: a word of the code's own contracts.
use Rattle.std.specs.Prelude.{Option, unwrap_or}
use Rattle.ent_request.specs.declared.answer.Answer.{Answer}
use Rattle.ent_request.specs.Plain.{nothing}

-- what an element comes to, where no answer is what isn't applicable
abbrev pub or_nothing : Option Answer → Answer
or_nothing a = unwrap_or a nothing
