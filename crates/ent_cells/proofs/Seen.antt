-- Cells that are seen in another way, and a change under one key.
use Rattle.std.proofs.Common.{◌≡◌, ◌≢◌, ℕ, zero, suc, List, [], ◌∷◌, Option, Some, None, inl, inr, map, option_map, slice_index_or as get_or, refl, sym, ap, subst, ◌∙◌}
use Rattle.std.proofs.lemmas.Bool.{cases_eq}
use Rattle.slab.specs.Slab.{Slab, Updates, get}

module _ {A B : Type 0} where
  -- what is seen of the values
  abbrev pub seen_by : (A → B) → Slab A → Slab B
  seen_by f s = record { slots = map (option_map f) s.slots; vacant_key = 0; capacity = 0 }

  seen_slot : (f : A → B) (slots : List (Option A)) (c : ℕ) → get_or (map (option_map f) slots) c None ≡ option_map f (get_or slots c None)
  seen_slot f [] c = refl
  seen_slot f (o ∷ slots) zero = refl
  seen_slot f (o ∷ slots) (suc c) = seen_slot f slots c

  pub get_by : (f : A → B) (s : Slab A) (c : ℕ) → get (seen_by f s) c ≡ option_map f (get s c)
  get_by f s c = seen_slot f s.slots c

  -- each value is seen the same
  same_slots : (f g : A → B) (slots : List (Option A)) → ((c : ℕ) (a : A) → get_or slots c None ≡ Some a → g a ≡ f a) → map (option_map g) slots ≡ map (option_map f) slots
  same_slots f g [] same = refl
  same_slots f g (o ∷ slots) same = (λ i. by o (same zero) i ∷ same_slots f g slots (λ c. same (suc c)) i)
    where
      by : (o : Option A) → ((a : A) → o ≡ Some a → g a ≡ f a) → option_map g o ≡ option_map f o
      by None at = refl
      by (Some a) at = ap Some (at a refl)

  pub all_same : (f g : A → B) (s : Slab A) → ((c : ℕ) (a : A) → get s c ≡ Some a → g a ≡ f a) → seen_by g s ≡ seen_by f s
  all_same f g s same = ap (λ slots. record { slots = slots; vacant_key = 0; capacity = 0 }) (same_slots f g s.slots same)

  -- ---- a change under one key

  module _ (f g : A → B) (I J : ℕ → A → Type 0) (s t : Slab A) (key : ℕ) (others : (c : ℕ) → c ≢ key → get t c ≡ get s c)
      (same : (c : ℕ) (a : A) → c ≢ key → I c a → (g a ≡ f a) × J c a) (is : (c : ℕ) (a : A) → get s c ≡ Some a → I c a) where
    others_by : (c : ℕ) → c ≢ key → get (seen_by g t) c ≡ get (seen_by f s) c
    others_by c apart = get_by g t c ∙ ap (option_map g) (others c apart) ∙ by (get s c) refl ∙ sym (get_by f s c)
      where
        by : (o : Option A) → get s c ≡ o → option_map g o ≡ option_map f o
        by None e = refl
        by (Some a) e = ap Some (same c a apart (is c a e)).0

    pub updates_by : (slot : Option A) → get t key ≡ slot → Updates (seen_by f s) (seen_by g t) key (option_map g slot)
    updates_by slot here = record { changed = get_by g t key ∙ ap (option_map g) here; others = others_by }

    pub still_by : ((a : A) → get t key ≡ Some a → J key a) → (c : ℕ) (a : A) → get t c ≡ Some a → J c a
    still_by here c a e = elim (cases_eq c key) [
      | inl same_key ↦ subst (λ (k : ℕ). J k a) (sym same_key) (here a (sym (ap (get t) same_key) ∙ e))
      | inr apart ↦ (same c a apart (is c a (sym (others c apart) ∙ e))).1
    ]
