use Rattle.std.proofs.Common.{Bor}
use Rattle.std.proofs.lemmas.List.Sorted.{IsPermutation-map}
use Rattle.ent_policy.specs.declared.expression.VariableDefinition.{VariableDefinition}
use Rattle.ent_policy.proofs.variables.users_first.Goals as goal

pub returns : goal.returns
returns c =
    let now = λ (x : Bor VariableDefinition). x.now in
    rw c.in_ok-all.ensures at (IsPermutation-map now c.in_ok-all.all.items c.sort_unstable_by_key.new.self.items c.sort_unstable_by_key.ensures.permutation)
