use Rattle.std.proofs.Common.{◌≡◌, ◌≤◌, length, take}
use Rattle.cli_test.specs.Testing.{chosen}
use Rattle.cli_test.proofs.listing.count_chosen.Given as goal

-- those so far that would run are counted
abbrev pub invariant-loop-session : goal.invariant-loop-session
invariant-loop-session l = record {
  counted : l.count ≡ length (chosen l.plan (take l.session-index l.sessions));
  within : l.count ≤ l.session-index;
}
