use Rattle.std.proofs.Common.{◌≡◌, map}
use Rattle.ent_policy.specs.First.{first_of}
use Rattle.ent_policy.proofs.read.each.Given as goal

abbrev pub invariant-loop-part : goal.invariant-loop-part
invariant-loop-part g l = record {
  values : l.value ≡ map (λ x. (g.R.Readable.what x).value) l.yielded;
  faults : l.fault ≡ first_of (map (λ x. (g.R.Readable.what x).fault) l.yielded);
}
