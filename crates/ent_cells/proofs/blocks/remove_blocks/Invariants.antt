use Rattle.std.proofs.Common.{◌≡◌, ◌-◌, ◌≤◌, ℕ, length}
use Rattle.ent_request.specs.declared.answer.Answer.{Answer}
use Rattle.ent_log.specs.Tables.{room_of}
use Rattle.ent_log.specs.declared.log.Log.{Log}
use Rattle.ent_eval.specs.declared.who.Who.{Who}
use Rattle.ent_cells.specs.Grid.{times}
use Rattle.ent_cells.specs.proofs_only.Logging.{Puts, gone_in}
use Rattle.ent_cells.specs.Shape.{left_of, taken_out}
use Rattle.ent_cells.proofs.blocks.remove_blocks.Given as goal

-- what is still to be put into the log makes the whole of it
abbrev pub invariant-loop-done : goal.invariant-loop-done
invariant-loop-done g l = record {
  cells : (q : ℕ) → left_of l.store.cells (taken_out (l.blocks.count - l.done) l.blocks.width l.from l.blocks.each l.rest) q
      ≡ left_of l.initial.store.cells (taken_out l.blocks.count l.blocks.width l.from l.blocks.each l.keys) q;
  once : (c : ℕ) → times c l.rest ≤ 1;
  room : length l.rest ≤ room_of l.log;
  logged : (end : Log Who Answer) → Puts (gone_in l.store.cells (taken_out (l.blocks.count - l.done) l.blocks.width l.from l.blocks.each l.rest)) l.log end
      → Puts (gone_in l.initial.store.cells (taken_out l.blocks.count l.blocks.width l.from l.blocks.each l.keys)) l.initial.log end;
  evaluator : l.store.evaluator ≡ l.initial.store.evaluator;
}
