use Rattle.std.proofs.Common.{take}
use Rattle.std.specs.List.{flat_map}
use Rattle.std.specs.Io.KnownBytes.{Appends}
use Rattle.cli_test.specs.Listing.{heading_told}
use Rattle.cli_test.specs.Testing.{chosen}
use Rattle.cli_test.proofs.listing.tell_chosen.Given as goal

-- those so far that would run are told
abbrev pub invariant-loop-session : goal.invariant-loop-session
invariant-loop-session g l =
    Appends (g.W.Write.contents l.fn.writer) (g.W.Write.contents l.writer) (flat_map (heading_told l.name) (chosen l.plan (take l.session-index l.sessions)))
