use Rattle.std.proofs.Common.{◌≡◌, map}
use Rattle.ent_policy.specs.First.{first_of}
use Rattle.ent_policy.specs.Reading.{child_read}
use Rattle.ent_policy.proofs.reading.+child.Given as goal

abbrev pub invariant-children-loop-part : goal.invariant-children-loop-part
invariant-children-loop-part l = record {
  values : l.value ≡ map (λ x. (child_read x).value) l.yielded;
  faults : l.fault ≡ first_of (map (λ x. (child_read x).fault) l.yielded);
}
