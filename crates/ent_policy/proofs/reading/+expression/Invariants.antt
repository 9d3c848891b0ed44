use Rattle.std.proofs.Common.{◌≡◌, map}
use Rattle.ent_policy.specs.First.{first_of}
use Rattle.ent_policy.specs.Reading.{expression_read}
use Rattle.ent_policy.proofs.reading.+expression.Given as goal

abbrev pub invariant-expressions-loop-part : goal.invariant-expressions-loop-part
invariant-expressions-loop-part l = record {
  values : l.value ≡ map (λ x. (expression_read x).value) l.yielded;
  faults : l.fault ≡ first_of (map (λ x. (expression_read x).fault) l.yielded);
}
