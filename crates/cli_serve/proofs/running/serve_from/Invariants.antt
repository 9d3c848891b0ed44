use Rattle.std.proofs.Common.{◌≡◌, replicate, vec_len}
use Rattle.std.specs.FinMap.{empty}
use Rattle.ent_finder.specs.contracts.attribute_finder.AttributeFinderAttributes.TheImpl as attributes
use Rattle.ent_finder.specs.contracts.finder.PolicyFinderPolicies.TheImpl as policies
use Rattle.cli_serve.proofs.running.serve_from.OwnLists.{own-1, lawful-own-1, own-2, lawful-own-2}
use Rattle.cli_serve.specs.Starting.{no_rows}
use Rattle.cli_serve.proofs.running.serve_from.Given as goal

-- the modules of attributes so far have no rows
abbrev pub invariant-loop : goal.invariant-loop
invariant-loop g l = record {
  sources : (attributes.ghosts (own-1, lawful-own-1)).sources (record { modules = l.attributes }) ≡ replicate l.counter no_rows;
  counted : vec_len l.attributes ≡ l.counter;
}

-- the modules of policies so far have no slots
abbrev pub invariant-loop-2 : goal.invariant-loop-2
invariant-loop-2 g l = record {
  slots : (policies.ghosts (own-2, lawful-own-2)).slots (record { modules = l.policies }) ≡ replicate l.counter empty;
  counted : vec_len l.policies ≡ l.counter;
}
