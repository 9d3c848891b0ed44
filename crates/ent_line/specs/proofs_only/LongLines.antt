-- Lines that are too long are answered alike.
use Rattle.std.proofs.Common.{◌≡◌, ◌<◌, ℕ, List, length, Option, None, arith, sym, subst, ◌∙◌, inl, inr}
use Rattle.std.proofs.lemmas.Bool.{lt-ltb}
use Rattle.ent_report.specs.World.{World}
use Rattle.ent_table.specs.State.{State}
use Rattle.ent_line.specs.Answering.{LongLinesAlike}
use Rattle.ent_line.specs.Beside.{Beside}
use Rattle.ent_line.specs.Commands.{respond}
use Rattle.ent_wire.specs.Lines.{line_limit}
use Rattle.ent_line.specs.Replies.{refused}
use Rattle.ent_line.specs.Step.{Counts}
use Rattle.ent_line.specs.Work.{IsWorked, line_work}
use Rattle.ent_wire.specs.declared.refusal.Refusal.TheVariants.{TooLong}

too_long : (n : Beside) (w : World) (line : List ℕ) → line_limit < length line → respond n w line ≡ (refused TooLong, w)
unfolding respond
too_long n w line lt = rw (lt-ltb line_limit (length line) lt)

no_work : (s : State) (line : List ℕ) → line_limit < length line → line_work s line ≡ None
no_work s line lt = rw (lt-ltb line_limit (length line) lt)

-- all lines that are too long are answered alike
pub long_lines_alike : LongLinesAlike Counts
long_lines_alike w v line other a p q (inl e, worked, known) = (
  inl (e ∙ too_long w.beside w.world line p ∙ sym (too_long w.beside w.world other q)),
  subst (λ (o : Option ℕ). IsWorked o w.beside.count v.beside.count a)
      (no_work w.world.state line p ∙ sym (no_work w.world.state other q)) worked,
  known,
)
long_lines_alike w v line other a p q (inr h, worked, known) = absurd (omega (arith, h.2))
