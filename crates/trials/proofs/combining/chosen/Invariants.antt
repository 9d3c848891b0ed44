use Rattle.std.proofs.Common.{◌≤◌, length, take}
use Rattle.ent_combine.specs.Choose.{HasSeen}
use Rattle.trials.proofs.combining.chosen.Given as goal

abbrev pub invariant-loop-i : goal.invariant-loop-i
invariant-loop-i g l = record {
  room : length l.targets ≤ 256;
  seen : HasSeen l.chooser (take l.i l.targets);
}
