-- Which tables of earlier serials a service still has after a line.
use Rattle.std.specs.Prelude.{Result, Ok, Err, ⊤}
use Rattle.ent_report.specs.Desk.{Desked}
use Rattle.ent_report.specs.Kept as desk
use Rattle.ent_line.specs.Replies.{Answer, accepted, marked}

-- something was done, an edit or a mark, or nothing was
abbrev pub done : Answer → Result ⊤ ⊤
done (accepted changes serial) = Ok tt
done (marked serial) = Ok tt
done other = Err tt

-- an accepted edit and a mark forget what is from before the oldest mark, and every other line forgets nothing
abbrev pub Remembers : Desked → Desked → Answer → Type 0
Remembers old new a = desk.Remembers old new (done a)
