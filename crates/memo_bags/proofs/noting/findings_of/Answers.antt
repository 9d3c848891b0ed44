use Rattle.std.proofs.Common.{arith}
use Rattle.memo_bags.proofs.FoundAll.{attributes_all, found_all, found_next}
use Rattle.memo_bags.proofs.noting.findings_of.Goals as goal

pub loop-number-preserved : goal.loop-number-preserved
loop-number-preserved g c =
    found_next (g.L.LookUps.looks c.args.scene.now.held.now) c.args.scene.now c.args.findings.now c.loop-number.findings c.note_finding.new.findings c.args.asked.now c.loop-number.number-index
    c.loop-number.found c.note_finding.new.found c.requires.within c.loop-number-test.true c.in_ok-note_finding.ensures.notes
    c.in_ok-note_finding.ensures.keeps c.loop-number.invariant

pub returns-clause-tells : goal.returns-clause-tells
returns-clause-tells g c =
    found_all (g.L.LookUps.looks c.args.scene.now.held.now) c.args.scene.now c.args.findings.now c.loop-number.findings c.args.asked.now c.loop-number.number-index c.loop-number.found
    (omega (arith, c.loop-number-test.false)) c.loop-number.invariant

pub returns-clause-attributes : goal.returns-clause-attributes
returns-clause-attributes g c =
    attributes_all (g.L.LookUps.looks c.args.scene.now.held.now) c.args.scene.now c.args.findings.now c.loop-number.findings c.args.asked.now c.loop-number.number-index c.loop-number.found
    (omega (arith, c.loop-number-test.false)) c.loop-number.invariant
