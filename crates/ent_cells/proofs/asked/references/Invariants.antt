use Rattle.std.proofs.Common.{◌≡◌, take}
use Rattle.std.specs.Prelude.{filter_map}
use Rattle.ent_cells.specs.proofs_only.Asked.{reference_of}
use Rattle.ent_cells.proofs.asked.references.Given as goal

abbrev pub invariant-loop-question : goal.invariant-loop-question
invariant-loop-question l = l.keys ≡ filter_map (reference_of l.kind l.id) (take l.question-index l.questions)
