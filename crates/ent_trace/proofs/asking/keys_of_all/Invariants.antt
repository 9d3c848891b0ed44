use Rattle.ent_trace.proofs.KeysAsked.{AreGoing}
use Rattle.ent_trace.proofs.asking.keys_of_all.Given as goal

abbrev pub invariant-loop-number : goal.invariant-loop-number
invariant-loop-number l = AreGoing l.request l.questions l.numbers l.number-index l.reads
