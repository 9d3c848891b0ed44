use Rattle.std.proofs.Common.{take}
use Rattle.ent_policy.proofs.Numbers.{is_version_of}
use Rattle.ent_policy.specs.Versions.{version_of}
use Rattle.ent_policy.proofs.version.Version.parse.Goals as goal

pub invariant_of-result : goal.invariant_of-result
unfolding version_of
invariant_of-result c =
    (c.in_ok-numbers.ensures.0, is_version_of c.args.text.now (take c.in_ok-numbers.count c.in_ok-numbers.numbers) c.in_ok-numbers.ensures.1)
