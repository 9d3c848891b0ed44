use Rattle.std.proofs.Common.{map, take}
use Rattle.std.specs.Io.KnownBytes.{Appends}
use Rattle.cli_replies.specs.Comparing.{places_told}
use Rattle.cli_replies.proofs.comparing.tell_places.Given as goal

-- the places so far are told
abbrev pub invariant-loop-place : goal.invariant-loop-place
invariant-loop-place g l =
    Appends (g.W.Write.contents l.fn.writer) (g.W.Write.contents l.writer) (places_told l.name l.number (map (λ p. p.items) (take l.place-index l.places)))
