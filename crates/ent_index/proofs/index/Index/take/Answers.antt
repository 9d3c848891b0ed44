use Rattle.std.proofs.Common.{refl, sym}
use Rattle.std.proofs.lemmas.Bool.{true≢false}
use Rattle.ent_index.proofs.Views.{last_forgets, less_forgets}
use Rattle.ent_index.proofs.index.Index.take.Goals as goal

pub invariant_of-self : goal.invariant_of-self
invariant_of-self c =
    (less_forgets c.self.inside.readers c.take_cell.new.readers c.args.key.now c.args.cell c.take_cell.ensures.puts (λ e. true≢false (sym (c.if-not-take_cell.ensures.last.1 e)))).sound c.self.invariant

pub returns-then-not-take_cell : goal.returns-then-not-take_cell
returns-then-not-take_cell c =
    rw (← c.self.view_is)
    (less_forgets c.self.inside.readers c.take_cell.new.readers c.args.key.now c.args.cell c.take_cell.ensures.puts (λ e. true≢false (sym (c.if-not-take_cell.ensures.last.1 e))))

pub invariant_of-self-2 : goal.invariant_of-self-2
invariant_of-self-2 c =
    (last_forgets c.self.inside.readers c.take_cell.new.readers c.args.key.now c.args.cell c.remove.new.self c.take_cell.ensures.puts (c.if-not-take_cell.ensures.last.0 refl) c.remove.ensures.updates.0).sound c.self.invariant

pub returns : goal.returns
returns c =
    rw (← c.self.view_is)
    (last_forgets c.self.inside.readers c.take_cell.new.readers c.args.key.now c.args.cell c.remove.new.self c.take_cell.ensures.puts (c.if-not-take_cell.ensures.last.0 refl) c.remove.ensures.updates.0)
