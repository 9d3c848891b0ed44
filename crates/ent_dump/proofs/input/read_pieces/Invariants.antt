use Rattle.std.proofs.Common.{◌≡◌, ◌+◌, ◌*◌, length}
use Rattle.std.specs.Io.KnownBytes.{Consumes}
use Rattle.ent_dump.specs.Lines.{TakesAtMost}
use Rattle.ent_dump.proofs.input.read_pieces.Given as goal

-- all that was read, in pieces of that room, and how many reads were made of those that there were
abbrev pub invariant-loop : goal.invariant-loop
invariant-loop g l = record {
  read : Consumes (g.R.Read.remaining l.fn.reader) (g.R.Read.remaining l.reader) l.all.items;
  room : length l.piece.items ≡ l.room;
  few : TakesAtMost (g.R.Read.remaining l.fn.reader) (g.R.Read.remaining l.reader) (l.room * l.counter);
  left : l.left + l.counter ≡ l.fn.left;
}
