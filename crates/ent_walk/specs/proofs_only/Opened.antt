-- What is left of a child once its target was looked at.
use Rattle.std.specs.Prelude.{◌≡◌, ℕ, ◌+◌, ◌*◌, List, Bool, true}
use Rattle.ent_policy.specs.Typing.{policy_is_typed}
use Rattle.ent_policy.specs.declared.document.PolicySet.{size-PolicySet}
use Rattle.ent_policy.specs.declared.key.DocKey.{DocKey}
use Rattle.ent_request.specs.declared.answer.Answer.{Answer}
use Rattle.ent_walk.specs.declared.opened.Opened.{Opened}
use Rattle.ent_walk.specs.declared.opened.Opened.TheVariants.{Passed, Unresolved, Policy, Set}
use Rattle.ent_request.specs.declared.request.Request.{Request}
use Rattle.ent_walk.specs.proofs_only.Hops.{set_after}
use Rattle.ent_request.specs.Plain.{nothing, unresolved}
use Rattle.ent_request.specs.Looks.{Looks}
use Rattle.ent_walk.specs.proofs_only.Node.{policy_after}
use Rattle.ent_trace.specs.proofs_only.Noted.{Notes, noting}
use Rattle.ent_request.specs.Part.{Part, without_look}
use Rattle.ent_walk.specs.proofs_only.Typed.{set_is_fit}

-- what is left comes to, where `path` leads from the root to what the child stands in
abbrev pub left_part : Looks → Request → List DocKey → Opened → Part Answer
left_part looks request path Passed = without_look nothing
left_part looks request path Unresolved = without_look unresolved
left_part looks request path (Policy policy targeted) = policy_after looks request path policy.now targeted
left_part looks request path (Set set hops targeted) = set_after looks request hops path set.now targeted

-- a part is what is left of a whole whose first look-ups were made between these notes
abbrev pub IsLeft : Part Answer → Part Answer → Notes → Notes → Type 0
IsLeft whole left before after = (left.value ≡ whole.value) × (noting after left.notes ≡ noting before whole.notes)

-- an opened child is what is left of a whole, wherever that stands
abbrev pub Leaves : Looks → Request → (Looks → Request → List DocKey → Part Answer) → Notes → Notes → Opened → Type 0
Leaves looks request whole before after opened = (path : List DocKey) → IsLeft (whole looks request path) (left_part looks request path opened) before after

-- what is left can be evaluated
abbrev pub is_fit_left : Opened → Bool
is_fit_left (Policy policy targeted) = policy_is_typed policy.now
is_fit_left (Set set hops targeted) = set_is_fit set.now
is_fit_left _ = true

-- what one reference more counts where an evaluation's end is shown: more than the largest document does
abbrev pub worth_of_hop : ℕ
worth_of_hop = 8 * 31 + 9

-- what is left counts
abbrev pub worth : Opened → ℕ
worth (Set set hops targeted) = hops * worth_of_hop + 8 * size-PolicySet set.now
worth _ = 0
