-- What is looked into levels deep, by what stands on the first of them.
use Rattle.std.proofs.Common.{◌≡◌, ◌≢◌, ℕ, zero, suc, ◌-◌, ◌++◌, List, codes, refl, arith}
use Rattle.serde_json.specs.Data.{Data}
use Rattle.serde_json.specs.Find.{get}
use Rattle.script_coverage.specs.Policies.{policies_in, policy_if, set_policies}

below : (levels n : ℕ) (child : Data) → levels ≡ suc n
    → policies_in levels child ≡ policy_if (get (codes "Policy") child) ++ set_policies (policies_in n) (get (codes "PolicySet") child)
below levels n child is = rw is refl

pub policies_below : (levels : ℕ) (child : Data) → levels ≢ 0
    → policies_in levels child ≡ policy_if (get (codes "Policy") child) ++ set_policies (policies_in (levels - 1)) (get (codes "PolicySet") child)
policies_below levels child some = below levels (levels - 1) child (omega arith)
