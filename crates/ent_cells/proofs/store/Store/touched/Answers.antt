use Rattle.std.proofs.Common.{◌≡◌, ℕ, cond, filter, ap, ◌∙◌}
use Rattle.std.proofs.lemmas.Result.{IfOk-weaker}
use Rattle.slab.specs.Slab.{get}
use Rattle.ent_cells.proofs.Confirmed.{confirmed}
use Rattle.ent_cells.specs.Grid.{times}
use Rattle.ent_cells.specs.proofs_only.Entries.{touched_at}
use Rattle.ent_cells.specs.proofs_only.Grouping.{seen, wanted_at}
use Rattle.ent_cells.proofs.store.Store.touched.Goals as goal

pub returns : goal.returns
returns g c =
    let s = c.self.inside.slab in
    let q = (g.E.Evaluates.evaluator c.self.inside.evaluator).questions in
    let gs = c.self.inside.groups in
    let changed = c.args.changed.now in
    let cells = c.in_ok-cells.cells.items in
    let wanted = c.in_ok-wanted.wanted.items in
    rw (← c.self.view_is)
    (IfOk-weaker c.keep_touched.result (λ v. v.items ≡ filter (λ x. wanted_at gs c.deref-3.result.now (get s x)) c.deref-2.result.now) (λ v. (x : ℕ) → times x v.items ≡ cond (touched_at changed (get (seen q gs s) x)) 1 0)
    (λ v kept.
    confirmed q gs s c.self.invariant changed wanted (rw c.questions.ensures at c.in_ok-wanted.ensures) cells v.items c.in_ok-cells.ensures.ordered
    (rw c.deref.ensures.value at c.in_ok-cells.ensures.covers)
    (kept ∙ ap (λ ws. filter (λ x. wanted_at gs ws (get s x)) c.deref-2.result.now) c.deref-3.ensures.value
    ∙ ap (filter (λ x. wanted_at gs wanted (get s x))) c.deref-2.ensures.value))
    c.keep_touched.ensures)
