use Rattle.std.proofs.lemmas.Iterator.Adapters.{YieldsList-from_vec}
use Rattle.std.proofs.lemmas.Iterator.Consumers.{YieldsList-end}
use Rattle.ent_policy.specs.Reading.{child_read}
use Rattle.ent_policy.proofs.Firsts.{all_taken, fault_taken, value_taken}
use Rattle.ent_policy.proofs.reading.+child.Goals as goal

pub children-loop-part-preserved : goal.children-loop-part-preserved
children-loop-part-preserved s c = record {
  values = value_taken child_read c.loop-part.yielded c.in-Some.part c.loop-part.value c.push.new.self c.in_ok-one.field-0 c.loop-part.invariant.values c.in_ok-one.ensures c.in_ok-push.ensures.ok;
  faults = fault_taken child_read c.loop-part.yielded c.in-Some.part c.loop-part.fault c.earlier-fault.result c.in_ok-one.field-0 c.loop-part.invariant.faults c.in_ok-one.ensures c.earlier-fault.ensures;
}

pub children-returns : goal.children-returns
children-returns s c =
    let t = YieldsList-end (YieldsList-from_vec {s = c.into_iter-part-iterator.result} c.args.raw (cc) (cc)) c.loop-part.yielded c.loop-part.part-iterator c.loop-part.yielded_by c.next.result c.next.new.self c.in-None.is c.next.ensures.steps in
    all_taken child_read c.args.raw c.loop-part.yielded c.loop-part.value c.loop-part.fault t.0 c.loop-part.invariant.values c.loop-part.invariant.faults
