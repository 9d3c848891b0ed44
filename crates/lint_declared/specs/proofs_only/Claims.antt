-- The lines of claims, as the code has them.
use Rattle.std.specs.Prelude.{ℕ, Option}
use Rattle.std.specs.BTreeMap.{BTreeMap, get}
use Rattle.lint_declared.specs.contracts.claim.ClaimOrd.TheImpl as orders
use Rattle.lint_declared.specs.declared.claim.Claim.{Claim}

-- the number of the line that says a claim that stands
abbrev pub claimed_in : BTreeMap Claim ℕ → Claim → Option ℕ
claimed_in m = get (orders.ghosts).cmp m
