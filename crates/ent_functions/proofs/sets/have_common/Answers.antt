use Rattle.std.proofs.Common.{true, false}
use Rattle.ent_functions.specs.Sets.{is_among}
use Rattle.ent_functions.proofs.Found.{among_by}
use Rattle.ent_functions.proofs.Walks.{any_found, any_on}
use Rattle.ent_functions.proofs.sets.have_common.Goals as goal

pub returns-then-has-clause-value : goal.returns-then-has-clause-value
returns-then-has-clause-value c =
    let there = among_by _ c.args.second.now c.value-item.result c.has.result true c.loop-value.invariant.among c.has.ensures c.if-has.true in
    any_found (λ value. is_among value c.args.second.now) c.args.first.now c.loop-value.value-index c.value-item.result
    c.loop-value-test.true c.value-item.is c.loop-value.invariant.left there

pub loop-value-preserved : goal.loop-value-preserved
loop-value-preserved c =
    let absent = among_by _ c.args.second.now c.value-item.result c.has.result false c.loop-value.invariant.among c.has.ensures c.if-has.false in
    record {
      among = c.loop-value.invariant.among;
      left = any_on (λ value. is_among value c.args.second.now) c.args.first.now c.loop-value.value-index c.value-item.result
          c.loop-value-test.true c.value-item.is c.loop-value.invariant.left absent;
    }
