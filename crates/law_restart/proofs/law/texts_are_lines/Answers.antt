use Rattle.law_restart.proofs.Lines.{texts_are_lines}
use Rattle.law_restart.proofs.law.texts_are_lines.Goals as goal

pub returns : goal.returns
returns c = texts_are_lines
