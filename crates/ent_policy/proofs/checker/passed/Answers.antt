use Rattle.ent_policy.proofs.Wholes.{made}
use Rattle.ent_policy.proofs.checker.passed.Goals as goal

pub new-requires : goal.new-requires
new-requires c = record {
  checked = (c.requires.0, made c.requires.0 c.args.read c.in-Ok.found c.earlier.result c.requires.1 c.in-Ok.ensures c.earlier.ensures c.in-None.is);
}
