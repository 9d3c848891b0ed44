use Rattle.std.proofs.Common.{true, false}
use Rattle.ent_functions.specs.Sets.{is_among}
use Rattle.ent_functions.proofs.Found.{among_by}
use Rattle.ent_functions.proofs.Walks.{all_failed, all_on}
use Rattle.ent_functions.proofs.sets.is_subset.Goals as goal

pub returns-then-not-has-clause-value : goal.returns-then-not-has-clause-value
returns-then-not-has-clause-value c =
    let absent = among_by _ c.args.second.now c.value-item.result c.has.result false c.loop-value.invariant.among c.has.ensures c.if-not-has.true in
    all_failed (λ value. is_among value c.args.second.now) c.args.first.now c.loop-value.value-index c.value-item.result
    c.loop-value-test.true c.value-item.is c.loop-value.invariant.left absent

pub loop-value-preserved : goal.loop-value-preserved
loop-value-preserved c =
    let there = among_by _ c.args.second.now c.value-item.result c.has.result true c.loop-value.invariant.among c.has.ensures c.if-not-has.false in
    record {
      among = c.loop-value.invariant.among;
      left = all_on (λ value. is_among value c.args.second.now) c.args.first.now c.loop-value.value-index c.value-item.result
          c.loop-value-test.true c.value-item.is c.loop-value.invariant.left there;
    }
