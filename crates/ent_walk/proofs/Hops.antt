-- References with hops left.
use Rattle.std.proofs.Common.{◌≡◌, ℕ, zero, suc, ◌-◌, ◌<◌, List, Some, refl, sym, ap, ◌∙◌, arith}
use Rattle.ent_policy.specs.Children.{as_child}
use Rattle.ent_policy.specs.declared.document.Tree.{Tree}
use Rattle.ent_policy.specs.declared.key.DocKey.{DocKey}
use Rattle.ent_policy.specs.declared.key.Reference.{Reference}
use Rattle.ent_request.specs.declared.question.Question.TheVariants.{Ref}
use Rattle.ent_request.specs.declared.request.Request.{Request}
use Rattle.ent_request.specs.Looks.{Looks}
use Rattle.ent_walk.specs.proofs_only.Hops.{child_part, child_target, followed_part, node_of, reference_part, reference_target}
use Rattle.ent_walk.specs.Node.{Node, followed, found_node, refer}
use Rattle.ent_request.specs.Part.{after_look}

module _ (looks : Looks) (request : Request) (hops : ℕ) (reference : Reference) (left : 0 < hops) where
  -- a reference is followed while a hop is left
  pub is_followed : refer looks request hops reference ≡ followed looks request (refer looks request (hops - 1)) reference
  is_followed = at hops left where
    at : (n : ℕ) → 0 < n → refer looks request n reference ≡ followed looks request (refer looks request (n - 1)) reference
    at zero below = absurd (omega (arith, below))
    at (suc n) below = let e : suc n - 1 ≡ n = omega arith in rw e refl

  -- and its target is that of the document that it names
  pub target_followed : (t : Tree) → looks.document reference ≡ Some t → reference_target looks request hops reference ≡ after_look (Ref reference) (child_target looks request (hops - 1) (as_child t))
  target_followed t found =
      ap (λ (n : Node). n.target) is_followed ∙ ap (λ o. after_look (Ref reference) (found_node reference (node_of looks request (hops - 1)) o).target) found

  -- and it comes to what following it comes to
  pub answer_followed : (path : List DocKey) → followed_part looks request (hops - 1) path reference ≡ reference_part looks request hops path reference
  answer_followed path = ap (λ (n : Node). n.answer path) (sym is_followed)

-- what follows a reference comes to what the document comes to that it names
pub followed_found : (looks : Looks) (request : Request) (hops : ℕ) (reference : Reference) (t : Tree) → looks.document reference ≡ Some t → (path : List DocKey)
    → followed_part looks request hops path reference ≡ after_look (Ref reference) (child_part looks request hops path (as_child t))
followed_found looks request hops reference t found path = ap (λ o. after_look (Ref reference) ((found_node reference (node_of looks request hops) o).answer path)) found
