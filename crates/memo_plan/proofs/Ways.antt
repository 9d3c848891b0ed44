-- What ways tell.
use Rattle.std.proofs.Common.{◌≡◌, ℕ, zero, suc, Bool, true, false, List, [], ◌∷◌, sym, ap₂, subst, ◌∙◌}
use Rattle.memo_plan.specs.Run.{CameBy, Signs, passed}

module _ {E C : Type 0} (is_test : E → Bool) (constant : E → C) (tells : ℕ → ℕ → C → Type 0) (goes_on : E → C → Bool) (skip : E → ℕ) where
  -- where a number of a test tells one thing, so does a way
  module _ (once : (at n : ℕ) (c d : C) → tells at n c → tells at n d → c ≡ d) where
    signs_once : (b : Bool) (at : ℕ) (e : E) (way : List ℕ) (c d : C) (P Q : List ℕ → Type 0) → Signs is_test constant tells goes_on skip b at e way c P → Signs is_test constant tells goes_on skip b at e way d Q
        → (c ≡ d) × ((rest : List ℕ) × (P rest × Q rest))
    signs_once true at e [] c d P Q first second = absurd first
    signs_once true at e (n ∷ way) c d P Q first second = (once at n c d first.0 second.0, (way, (first.1, second.1)))
    signs_once false at e way c d P Q first second = (first.0 ∙ sym second.0, (way, (first.1, second.1)))

    pub way_tells_once : (at k : ℕ) (es : List E) (way : List ℕ) (cs ds : List C) → CameBy is_test constant tells goes_on skip at k es way cs → CameBy is_test constant tells goes_on skip at k es way ds → cs ≡ ds
    way_tells_once at k [] way cs ds first second = first.1 ∙ sym second.1
    way_tells_once at zero (e ∷ es) way [] ds first second = absurd first
    way_tells_once at zero (e ∷ es) way (c ∷ cs) [] first second = absurd second
    way_tells_once at zero (e ∷ es) way (c ∷ cs) (d ∷ ds) first second =
        let both = signs_once (is_test e) at e way c d (λ rest. CameBy is_test constant tells goes_on skip (suc at) (passed goes_on skip e c) es rest cs) (λ rest. CameBy is_test constant tells goes_on skip (suc at) (passed goes_on skip e d) es rest ds) first second in
        ap₂ (λ x xs. x ∷ xs) both.0
        (way_tells_once (suc at) (passed goes_on skip e c) es both.1.0 cs ds both.1.1.0 (subst (λ x. CameBy is_test constant tells goes_on skip (suc at) (passed goes_on skip e x) es both.1.0 ds) (sym both.0) both.1.1.1))
    way_tells_once at (suc k) (e ∷ es) way cs ds first second = way_tells_once (suc at) k es way cs ds first second

  -- a way stays what it is where numbers of tests do
  module _ (more : ℕ → ℕ → C → Type 0) (still : (at n : ℕ) (c : C) → tells at n c → more at n c) where
    signs_still : (b : Bool) (at : ℕ) (e : E) (way : List ℕ) (c : C) (P Q : List ℕ → Type 0) → ((rest : List ℕ) → P rest → Q rest) → Signs is_test constant tells goes_on skip b at e way c P → Signs is_test constant more goes_on skip b at e way c Q
    signs_still true at e [] c P Q later signs = absurd signs
    signs_still true at e (n ∷ way) c P Q later signs = (still at n c signs.0, later way signs.1)
    signs_still false at e way c P Q later signs = (signs.0, later way signs.1)

    pub way_still : (at k : ℕ) (es : List E) (way : List ℕ) (cs : List C) → CameBy is_test constant tells goes_on skip at k es way cs → CameBy is_test constant more goes_on skip at k es way cs
    way_still at k [] way cs by = by
    way_still at zero (e ∷ es) way [] by = absurd by
    way_still at zero (e ∷ es) way (c ∷ cs) by =
        signs_still (is_test e) at e way c (λ rest. CameBy is_test constant tells goes_on skip (suc at) (passed goes_on skip e c) es rest cs) (λ rest. CameBy is_test constant more goes_on skip (suc at) (passed goes_on skip e c) es rest cs)
        (λ rest. way_still (suc at) (passed goes_on skip e c) es rest cs) by
    way_still at (suc k) (e ∷ es) way cs by = way_still (suc at) k es way cs by
