-- Which documents references find, of those that were looked for.
use Rattle.std.proofs.Common.{◌≡◌, ℕ, [], Bool, true, false, cond, Option, Some, None, refl, sym, ap, ◌∙◌, subst}
use Rattle.std.specs.Prelude.{is_some}
use Rattle.std.specs.BTreeMap.{get}
use Rattle.std.specs.Option.{option_map}
use Rattle.std.specs.Ordering.{is_eq}
use Rattle.ent_policy.proofs.Same.{same_reference-Decides}
use Rattle.ent_policy.specs.Same.{same_reference}
use Rattle.ent_policy.specs.contracts.key.ReferenceOrd.TheImpl.Laws.{matches_eq-law}
use Rattle.ent_policy.specs.declared.key.Reference.{Reference}
use Rattle.ent_finder.specs.Slots.{Docs}
use Rattle.lint_links.specs.declared.found.FoundDocuments.{FoundDocuments}
use Rattle.lint_links.specs.proofs_only.Found.{AreFound, IsFound, reference_cmp}

some_same : {A : Type 0} (x y : A) → Some x ≡ Some y → x ≡ y
some_same x y e = cc

-- of none
pub found_none : (docs : Docs) (f : FoundDocuments) → f.numbers.entries ≡ [] → AreFound docs f
found_none docs f none = λ r n there. absurd cc

-- numbers of which one more is known than before
abbrev pub HasOneMore : FoundDocuments → FoundDocuments → Reference → Option ℕ → Type 0
HasOneMore before after r n = (q : Reference)
    → get reference_cmp after.numbers q ≡ cond (is_eq (reference_cmp r q)) (Some n) (get reference_cmp before.numbers q)

-- of one more
pub found_more : (docs : Docs) (before after : FoundDocuments) (r : Reference) (n : Option ℕ) → AreFound docs before → IsFound docs r n
    → HasOneMore before after r n → AreFound docs after
found_more docs before after r n found this updates =
    λ q m there. by q m (same_reference r q) refl (ap (λ b. cond b (Some n) (get reference_cmp before.numbers q)) (matches_eq-law r q) ∙ sym (updates q) ∙ there) where
      by : (q : Reference) (m : Option ℕ) (b : Bool) → same_reference r q ≡ b → cond b (Some n) (get reference_cmp before.numbers q) ≡ Some m → IsFound docs q m
      by q m true same there =
          subst (λ x. IsFound docs x m) ((same_reference-Decides r q).0 same) (subst (IsFound docs r) (some_same n m there) this)
      by q m false same there = found q m there

-- a number is known of one that finds a document
pub found_some : {B : Type 0} (g : ℕ → Option B) (n : Option ℕ) (o : Option B) → option_map g n ≡ option_map Some o → is_some n ≡ is_some o
found_some g None None same = refl
found_some g None (Some x) same = absurd cc
found_some g (Some k) None same = absurd cc
found_some g (Some k) (Some x) same = refl
