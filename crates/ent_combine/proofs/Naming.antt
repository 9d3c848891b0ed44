-- The URIs of the algorithms are all different.
use Rattle.std.proofs.Common.{◌≡◌, ℕ, Bool, true, false, List, [], ◌∷◌, refl}
use Rattle.std.specs.Prelude.{◌↔◌, Some, cond, find, bytes_eq}
use Rattle.std.proofs.lemmas.Slice.Eq.{bytes_eq-Decides}
use Rattle.ent_combine.specs.Identifiers.{rule_id_of, shared_id_of, policy_id_of, rule_algorithms, policy_algorithms, rule_algorithm_of, policy_algorithm_of}
use Rattle.ent_combine.specs.declared.outcome.PolicyAlg.{PolicyAlg}
use Rattle.ent_combine.specs.declared.outcome.PolicyAlg.TheVariants.{Shared, OnlyOne}
use Rattle.ent_combine.specs.declared.outcome.RuleAlg.{RuleAlg}
use Rattle.ent_combine.specs.declared.outcome.RuleAlg.TheVariants.{DenyOverrides, PermitOverrides, OrderedDenyOverrides, OrderedPermitOverrides, DenyUnlessPermit, PermitUnlessDeny, FirstApplicable}

-- what is found passes
found : {A : Type 0} (p : A → Bool) (xs : List A) (a : A) → find p xs ≡ Some a → p a ≡ true
found p [] a is = absurd (cc)
found p (x ∷ xs) a is = at (p x) refl is (found p xs a) where
  at : (b : Bool) → p x ≡ b → cond b (Some x) (find p xs) ≡ Some a → (find p xs ≡ Some a → p a ≡ true) → p a ≡ true
  at true passes is later = let e : x ≡ a = cc in rw (← e) passes
  at false passes is later = later is

rule_read : (algorithm : RuleAlg) → rule_algorithm_of (rule_id_of algorithm) ≡ Some algorithm
unfolding rule_algorithm_of rule_id_of
rule_read DenyOverrides = refl
rule_read PermitOverrides = refl
rule_read OrderedDenyOverrides = refl
rule_read OrderedPermitOverrides = refl
rule_read DenyUnlessPermit = refl
rule_read PermitUnlessDeny = refl
rule_read FirstApplicable = refl

pub rule_ids_read_back : (text : List ℕ) (algorithm : RuleAlg) → (rule_algorithm_of text ≡ Some algorithm) ↔ (text ≡ rule_id_of algorithm)
unfolding rule_algorithm_of
rule_ids_read_back text algorithm = (
  λ is. (bytes_eq-Decides text (rule_id_of algorithm)).0 (found (λ a. bytes_eq text (rule_id_of a)) rule_algorithms algorithm is),
  λ is. rw is (rule_read algorithm),
)

policy_read : (algorithm : PolicyAlg) → policy_algorithm_of (policy_id_of algorithm) ≡ Some algorithm
unfolding policy_algorithm_of policy_id_of shared_id_of
policy_read (Shared DenyOverrides) = refl
policy_read (Shared PermitOverrides) = refl
policy_read (Shared OrderedDenyOverrides) = refl
policy_read (Shared OrderedPermitOverrides) = refl
policy_read (Shared DenyUnlessPermit) = refl
policy_read (Shared PermitUnlessDeny) = refl
policy_read (Shared FirstApplicable) = refl
policy_read OnlyOne = refl

pub policy_ids_read_back : (text : List ℕ) (algorithm : PolicyAlg) → (policy_algorithm_of text ≡ Some algorithm) ↔ (text ≡ policy_id_of algorithm)
unfolding policy_algorithm_of
policy_ids_read_back text algorithm = (
  λ is. (bytes_eq-Decides text (policy_id_of algorithm)).0 (found (λ a. bytes_eq text (policy_id_of a)) policy_algorithms algorithm is),
  λ is. rw is (policy_read algorithm),
)
