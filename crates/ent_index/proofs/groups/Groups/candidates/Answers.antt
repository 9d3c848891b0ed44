use Rattle.std.proofs.Common.{◌≡◌, arith, subst, sym}
use Rattle.std.proofs.lemmas.Result.{IfOk-weaker}
use Rattle.ent_index.proofs.WantedOf.{covers_all, covers_more, covers_none}
use Rattle.ent_index.specs.Groups.{Covers}
use Rattle.ent_index.proofs.groups.Groups.candidates.Goals as goal

pub loop-one-init : goal.loop-one-init
loop-one-init c = covers_none c.args.self.now c.args.wanted.now c.new-cells.result

pub loop-one-preserved : goal.loop-one-preserved
loop-one-preserved c =
    covers_more c.args.self.now c.args.wanted.now c.loop-one.one-index c.one-item.result c.loop-one.cells c.add_readers.new.cells c.loop-one-test.true c.one-item.is
    c.in_ok-add_readers.ensures.covers c.in_ok-add_readers.ensures.more c.loop-one.invariant

pub returns-clause-covers : goal.returns-clause-covers
returns-clause-covers c =
    let covers = covers_all c.args.self.now c.args.wanted.now c.loop-one.one-index c.loop-one.cells (omega (arith, c.loop-one-test.false)) c.loop-one.invariant in
    IfOk-weaker c.to_vec.result (λ v. v.items ≡ c.loop-one.cells) (λ v. Covers c.args.self.now c.args.wanted.now v.items) (λ v is. subst (Covers c.args.self.now c.args.wanted.now) (sym is) covers) c.to_vec.ensures.cells
