use Rattle.script_files.proofs.Cuts.{IsSought}
use Rattle.script_files.proofs.cut.split_once.Given as goal

-- the mark wasn't found at the places so far
abbrev pub invariant-loop-i : goal.invariant-loop-i
invariant-loop-i l = IsSought l.mark l.text l.i
