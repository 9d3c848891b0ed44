use Rattle.std.proofs.Common.{subst, sym, ◌∙◌}
use Rattle.std.proofs.lemmas.Result.{err_from_is_err_and}
use Rattle.ent_index.proofs.Views.{more_adds, one_adds, same_puts}
use Rattle.ent_index.specs.Index.{IsSound}
use Rattle.ent_index.proofs.index.Index.put.Goals as goal

pub invariant_of-self : goal.invariant_of-self
invariant_of-self c = subst IsSound (sym (same_puts c.self.inside.readers c.put_cell.new.readers c.args.key.now c.in_err-put_cell.ensures.err)) c.self.invariant

pub returns-in_err-put_cell-clause-err : goal.returns-in_err-put_cell-clause-err
returns-in_err-put_cell-clause-err c =
    let p = err_from_is_err_and c.from_residual.result c.from_residual.ensures.1 in
    rw p.1 (same_puts c.self.inside.readers c.put_cell.new.readers c.args.key.now c.in_err-put_cell.ensures.err ∙ c.self.view_is)

pub invariant_of-self-then-contains_key : goal.invariant_of-self-then-contains_key
invariant_of-self-then-contains_key c =
    (more_adds c.self.inside.readers c.put_cell.new.readers c.args.key.now c.args.cell (sym c.contains_key.ensures ∙ c.if-contains_key.true) c.in_ok-put_cell.ensures.ok).sound c.self.invariant

pub returns-then-contains_key-clause-ok : goal.returns-then-contains_key-clause-ok
returns-then-contains_key-clause-ok c =
    rw (← c.self.view_is) (more_adds c.self.inside.readers c.put_cell.new.readers c.args.key.now c.args.cell (sym c.contains_key.ensures ∙ c.if-contains_key.true) c.in_ok-put_cell.ensures.ok)

pub invariant_of-self-2 : goal.invariant_of-self-2
invariant_of-self-2 c =
    (one_adds c.self.inside.readers c.insert.new.self c.args.key.now c.args.cell c.in_ok-copy.copy c.in_ok-of_one.field-0 c.in_ok-copy.ensures.value c.in_ok-of_one.ensures
    (sym c.contains_key.ensures ∙ c.if-contains_key.false) c.in_ok-insert.ensures.updates.0).sound c.self.invariant

pub returns-clause-ok : goal.returns-clause-ok
returns-clause-ok c =
    rw (← c.self.view_is) (one_adds c.self.inside.readers c.insert.new.self c.args.key.now c.args.cell c.in_ok-copy.copy c.in_ok-of_one.field-0 c.in_ok-copy.ensures.value c.in_ok-of_one.ensures
    (sym c.contains_key.ensures ∙ c.if-contains_key.false) c.in_ok-insert.ensures.updates.0)
