use Rattle.std.proofs.Common.{take, drop, length, ap, ◌∙◌, arith}
use Rattle.ent_cells.specs.Cell.{Cells}
use Rattle.ent_cells.specs.Entries.{kept_of}
use Rattle.ent_cells.specs.Shape.{woven}
use Rattle.ent_cells.proofs.Listed.{kept_long, woven_kept, woven_live}
use Rattle.ent_cells.proofs.live.Live.arrange.Goals as goal

pub split_at-requires : goal.split_at-requires
split_at-requires g c =
    omega (arith, c.requires.start, ap length c.deref.ensures.value, kept_long c.self.inside.store.cells c.self.inside.keys.items c.self.invariant.grid, ap length (ap (λ (x : Cells). x.kept) c.self.view_is))

pub weave-requires-clause-room : goal.weave-requires-clause-room
weave-requires-clause-room g c =
    omega (arith, c.requires.room, c.split_at.ensures.front_len, c.split_at.ensures.back_len, ap length c.deref.ensures.value, kept_long c.self.inside.store.cells c.self.inside.keys.items c.self.invariant.grid, ap length (ap (λ (x : Cells). x.kept) c.self.view_is))

pub invariant_of-self : goal.invariant_of-self
invariant_of-self g c =
    let is = c.weave.ensures
    ∙ (λ j. woven c.args.blocks.count c.args.blocks.width c.args.blocks.each (c.split_at.ensures.front j) (c.split_at.ensures.back j))
    ∙ (λ j. woven c.args.blocks.count c.args.blocks.width c.args.blocks.each (take c.args.start (c.deref.ensures.value j)) (drop c.args.start (c.deref.ensures.value j))) in
    rw is (woven_live c.self.inside.store.cells c.self.inside.keys.items c.args.start c.args.blocks.count c.args.blocks.width c.args.blocks.each c.self.invariant)

pub returns-clause-cells : goal.returns-clause-cells
returns-clause-cells g c =
    let is = c.weave.ensures
    ∙ (λ j. woven c.args.blocks.count c.args.blocks.width c.args.blocks.each (c.split_at.ensures.front j) (c.split_at.ensures.back j))
    ∙ (λ j. woven c.args.blocks.count c.args.blocks.width c.args.blocks.each (take c.args.start (c.deref.ensures.value j)) (drop c.args.start (c.deref.ensures.value j))) in
    ap (kept_of c.self.inside.store.cells) is
    ∙ woven_kept c.self.inside.store.cells c.self.inside.keys.items c.args.start c.args.blocks.count c.args.blocks.width c.args.blocks.each c.self.invariant
    ∙ (λ j. woven c.args.blocks.count c.args.blocks.width c.args.blocks.each (take c.args.start (c.self.view_is j).kept) (drop c.args.start (c.self.view_is j).kept))

pub returns-clause-evaluator : goal.returns-clause-evaluator
returns-clause-evaluator g c = ap (λ (x : Cells). x.evaluator) c.self.view_is
