use Rattle.script_files.proofs.Cuts.{found_here, sought_more}
use Rattle.std.proofs.lemmas.List.{take_rest}
use Rattle.script_files.proofs.cut.split_once.Goals as goal

pub returns-in-Some-clause-parts : goal.returns-in-Some-clause-parts
returns-in-Some-clause-parts c =
    let found = rw (take_rest c.args.text.now c.loop-i.i) at c.in-Some.ensures.cases in
    found_here c.args.mark.now c.args.text.now c.loop-i.i c.in-Some.behind.now c.loop-i-test.true found.0 found.1 c.loop-i.invariant

pub loop-i-preserved : goal.loop-i-preserved
loop-i-preserved c =
    let differs = rw (take_rest c.args.text.now c.loop-i.i) at c.in_default.ensures.cases in
    sought_more c.args.mark.now c.args.text.now c.loop-i.i c.loop-i-test.true differs c.loop-i.invariant
