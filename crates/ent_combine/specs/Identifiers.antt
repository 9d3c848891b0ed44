-- The URIs that name the combining algorithms (appendix C): of rules in a policy, of policies in a policy set.
use Rattle.std.specs.Prelude.{◌≡◌, ◌↔◌, ℕ, List, [], ◌∷◌, Option, Some, find, bytes_eq, codes}
use Rattle.ent_combine.specs.declared.outcome.PolicyAlg.{PolicyAlg}
use Rattle.ent_combine.specs.declared.outcome.PolicyAlg.TheVariants.{Shared, OnlyOne}
use Rattle.ent_combine.specs.declared.outcome.RuleAlg.{RuleAlg}
use Rattle.ent_combine.specs.declared.outcome.RuleAlg.TheVariants.{DenyOverrides, PermitOverrides, OrderedDenyOverrides, OrderedPermitOverrides, DenyUnlessPermit, PermitUnlessDeny, FirstApplicable}

-- the URI of an algorithm where it combines rules
unfoldable pub rule_id_of : RuleAlg → List ℕ
rule_id_of DenyOverrides = codes "urn:oasis:names:tc:xacml:3.0:rule-combining-algorithm:deny-overrides"
rule_id_of PermitOverrides = codes "urn:oasis:names:tc:xacml:3.0:rule-combining-algorithm:permit-overrides"
rule_id_of OrderedDenyOverrides = codes "urn:oasis:names:tc:xacml:3.0:rule-combining-algorithm:ordered-deny-overrides"
rule_id_of OrderedPermitOverrides = codes "urn:oasis:names:tc:xacml:3.0:rule-combining-algorithm:ordered-permit-overrides"
rule_id_of DenyUnlessPermit = codes "urn:oasis:names:tc:xacml:3.0:rule-combining-algorithm:deny-unless-permit"
rule_id_of PermitUnlessDeny = codes "urn:oasis:names:tc:xacml:3.0:rule-combining-algorithm:permit-unless-deny"
rule_id_of FirstApplicable = codes "urn:oasis:names:tc:xacml:1.0:rule-combining-algorithm:first-applicable"

-- the URI of an algorithm that rules and policies share, where it combines policies
unfoldable pub shared_id_of : RuleAlg → List ℕ
shared_id_of DenyOverrides = codes "urn:oasis:names:tc:xacml:3.0:policy-combining-algorithm:deny-overrides"
shared_id_of PermitOverrides = codes "urn:oasis:names:tc:xacml:3.0:policy-combining-algorithm:permit-overrides"
shared_id_of OrderedDenyOverrides = codes "urn:oasis:names:tc:xacml:3.0:policy-combining-algorithm:ordered-deny-overrides"
shared_id_of OrderedPermitOverrides = codes "urn:oasis:names:tc:xacml:3.0:policy-combining-algorithm:ordered-permit-overrides"
shared_id_of DenyUnlessPermit = codes "urn:oasis:names:tc:xacml:3.0:policy-combining-algorithm:deny-unless-permit"
shared_id_of PermitUnlessDeny = codes "urn:oasis:names:tc:xacml:3.0:policy-combining-algorithm:permit-unless-deny"
shared_id_of FirstApplicable = codes "urn:oasis:names:tc:xacml:1.0:policy-combining-algorithm:first-applicable"

-- the URI of an algorithm where it combines policies
unfoldable pub policy_id_of : PolicyAlg → List ℕ
policy_id_of (Shared algorithm) = shared_id_of algorithm
policy_id_of OnlyOne = codes "urn:oasis:names:tc:xacml:1.0:policy-combining-algorithm:only-one-applicable"

-- every algorithm for rules
abbrev pub rule_algorithms : List RuleAlg
rule_algorithms = DenyOverrides ∷ PermitOverrides ∷ OrderedDenyOverrides ∷ OrderedPermitOverrides ∷ DenyUnlessPermit ∷ PermitUnlessDeny ∷ FirstApplicable ∷ []

-- every algorithm for policies
abbrev pub policy_algorithms : List PolicyAlg
policy_algorithms = Shared DenyOverrides ∷ Shared PermitOverrides ∷ Shared OrderedDenyOverrides ∷ Shared OrderedPermitOverrides ∷ Shared DenyUnlessPermit ∷ Shared PermitUnlessDeny ∷ Shared FirstApplicable ∷ OnlyOne ∷ []

-- the algorithm for rules that has this URI
unfoldable pub rule_algorithm_of : List ℕ → Option RuleAlg
rule_algorithm_of text = find (λ algorithm. bytes_eq text (rule_id_of algorithm)) rule_algorithms

-- the algorithm for policies that has this URI
unfoldable pub policy_algorithm_of : List ℕ → Option PolicyAlg
policy_algorithm_of text = find (λ algorithm. bytes_eq text (policy_id_of algorithm)) policy_algorithms

-- a URI names an algorithm for rules exactly where it is that algorithm's own
abbrev pub RuleIdsReadBack : Type 0
RuleIdsReadBack = (text : List ℕ) (algorithm : RuleAlg) → (rule_algorithm_of text ≡ Some algorithm) ↔ (text ≡ rule_id_of algorithm)

-- a URI names an algorithm for policies exactly where it is that algorithm's own
abbrev pub PolicyIdsReadBack : Type 0
PolicyIdsReadBack = (text : List ℕ) (algorithm : PolicyAlg) → (policy_algorithm_of text ≡ Some algorithm) ↔ (text ≡ policy_id_of algorithm)
