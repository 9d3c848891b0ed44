use Rattle.std.proofs.Common.{◌≡◌, [], drop, reverse, take}
use Rattle.script_files.specs.Standing.{misplaced, place_of}
use Rattle.script_files.proofs.standing.misplaced.Given as goal

-- the place is behind the lines so far, which stand
abbrev pub invariant-loop-line : goal.invariant-loop-line
invariant-loop-line l = record {
  place : l.place ≡ place_of (reverse (take l.line-index l.lines));
  stand : misplaced (reverse (take l.line-index l.lines)) (drop l.line-index l.lines) ≡ misplaced [] l.lines;
}
