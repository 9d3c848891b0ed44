use Rattle.ent_request.proofs.Numbered.{AreGiven}
use Rattle.ent_trace.proofs.asking.number_all.Given as goal

abbrev pub invariant-loop-number : goal.invariant-loop-number
invariant-loop-number l = AreGiven l.asked l.numbers l.number-index l.fn.questions l.questions l.given.items
