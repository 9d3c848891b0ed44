use Rattle.std.proofs.Common.{ap, arith, subst, sym}
use Rattle.memo_trie.specs.Tree.{key_in}
use Rattle.memo_bags.specs.proofs_only.Led.{TellsEnd}
use Rattle.memo_bags.specs.proofs_only.Ready.{request_of}
use Rattle.memo_bags.proofs.Seeking.{seeking_all, seeking_ends, seeking_first, seeking_next, seeking_rises}
use Rattle.memo_bags.proofs.ways.seek.Goals as goal

pub loop-fork-init : goal.loop-fork-init
loop-fork-init g c = seeking_first (g.L.LookUps.looks c.args.scene.now.held.now) c.args.scene.now c.args.findings.now c.args.tree.now.nodes.items c.requires.ready

pub next-requires-clause-about : goal.next-requires-clause-about
next-requires-clause-about g c = c.requires.asks c.loop-fork.place c.in-Some.fork.now.key (ap key_in c.in-Some.ensures.some)

pub returns-in-None-clause-tells : goal.returns-in-None-clause-tells
returns-in-None-clause-tells g c =
    seeking_ends (g.L.LookUps.looks c.args.scene.now.held.now) c.args.scene.now c.args.findings.now c.loop-fork.findings c.next.new.findings c.args.tree.now.nodes.items c.loop-fork.place c.in-Some.fork.now c.in-Some.ensures.some
    c.loop-fork.invariant c.in_ok-next.ensures.keeps c.in_ok-next.field-0 c.in-None.is c.in_ok-next.ensures.finds

pub loop-fork-smaller : goal.loop-fork-smaller
loop-fork-smaller g c =
    let rises = seeking_rises (g.L.LookUps.looks c.args.scene.now.held.now) c.args.scene.now c.next.new.findings.bags c.args.tree.now.nodes.items c.loop-fork.place c.in-Some.fork.now c.in_ok-next.field-0 c.in-Some-2.further
    c.args.tree.now.tree c.in-Some.ensures.some c.in-Some-2.is c.in_ok-next.ensures.finds in
    omega (arith, rises.0, rises.1)

pub loop-fork-preserved : goal.loop-fork-preserved
loop-fork-preserved g c =
    seeking_next (g.L.LookUps.looks c.args.scene.now.held.now) c.args.scene.now c.args.findings.now c.loop-fork.findings c.next.new.findings c.args.tree.now.nodes.items c.loop-fork.place c.in-Some.fork.now c.in-Some.ensures.some
    c.loop-fork.invariant c.in_ok-next.ensures.keeps c.in_ok-next.field-0 c.in-Some-2.further c.in-Some-2.is c.in_ok-next.ensures.finds

pub returns-clause-tells : goal.returns-clause-tells
returns-clause-tells g c =
    let looks = g.L.LookUps.looks c.args.scene.now.held.now in
    subst (TellsEnd looks c.args.scene.now.questions.now c.args.findings.now.bags c.loop-fork.findings.bags (request_of c.args.scene.now) c.args.tree.now.nodes.items) (sym c.leaf.ensures)
    (seeking_all looks c.args.scene.now c.args.findings.now c.loop-fork.findings c.args.tree.now.nodes.items c.loop-fork.place c.loop-fork.invariant c.in_default.ensures.none)
