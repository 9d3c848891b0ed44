-- The last slot of a name, where the one behind it has another name.
use Rattle.std.proofs.Common.{◌≡◌, ℕ, zero, suc, ◌+◌, ◌≤◌, Bool, true, false, cond, List, [], ◌∷◌, ◌++◌, Option, Some, None, IfSome, drop, length, take, slice_get, slice_index_or as get_or, refl, sym, ap, ◌∙◌, arith}
use Rattle.std.specs.Borrow.{Bor}
use Rattle.std.specs.List.{AllWithin, filter}
use Rattle.std.specs.Option.{option_copied}
use Rattle.std.specs.Ordering.{is_eq, ordering_index}
use Rattle.std.specs.declared.cmp.Ordering.{Ordering}
use Rattle.std.specs.declared.cmp.Ordering.TheVariants.{Less, Equal, Greater}
use Rattle.std.proofs.lemmas.List.{drop_more, take-append-drop}
use Rattle.std.proofs.lemmas.List.Elements.{filter-append}
use Rattle.std.proofs.lemmas.Option.{get_or_from_slice_get, slice_get-get_or, slice_get_within}
use Rattle.ent_policy.specs.declared.document.Tree.{Tree}
use Rattle.ent_policy.specs.declared.key.Reference.{Reference}
use Rattle.ent_finder.proofs.Names.{name_tied, names_rise}
use Rattle.ent_finder.proofs.Recent.{accepted, last_accepted_back, most_recent-slots}
use Rattle.ent_finder.specs.Entry.{AreSorted, slots_of}
use Rattle.ent_finder.specs.Finding.{is_of, most_recent}
use Rattle.ent_finder.specs.proofs_only.Order.{name_cmp, name_of, name_wanted}
use Rattle.ent_finder.specs.Slots.{held}
use Rattle.ent_finder.specs.declared.slot.DocSlot.{DocSlot}

-- where all elements from a place on fail a test, none of them passes it
pub none_from : {X : Type 0} (q : X → Bool) (xs : List X) (n : ℕ) → AllWithin (λ y. q y ≡ false) xs n (length xs) → filter q (drop n xs) ≡ []
none_from q [] zero h = refl
none_from q [] (suc n) h = refl
none_from q (x ∷ xs) zero h = by (q x) (h 0 x (omega arith) (omega arith)) (none_from q xs zero (λ k d lo hi. h (suc k) d (omega arith) (omega arith)))
  where
    by : (b : Bool) → b ≡ false → filter q xs ≡ [] → cond b (x ∷ filter q xs) (filter q xs) ≡ []
    by true h e = cc
    by false h e = e
none_from q (x ∷ xs) (suc n) h = none_from q xs n (λ k d lo hi. h (suc k) d (omega arith) (omega arith))

-- between two that tie there is none that doesn't
squeezed : (a b c : Ordering) → ordering_index a ≤ ordering_index b → ordering_index b ≤ ordering_index c → is_eq a ≡ true → is_eq c ≡ true → is_eq b ≡ true
squeezed Less b c h g e f = cc
squeezed Greater b c h g e f = cc
squeezed Equal b Less h g e f = cc
squeezed Equal b Greater h g e f = cc
squeezed Equal Less Equal h g e f = absurd (omega arith)
squeezed Equal Equal Equal h g e f = refl
squeezed Equal Greater Equal h g e f = absurd (omega arith)

module _ (r : Reference) (ss : List DocSlot) (sorted : AreSorted ss) (n : ℕ) (s : DocSlot) (here : slice_get ss n ≡ Some s) (named : is_of r s.key ≡ true)
    (next : (x : DocSlot) → slice_get ss (n + 1) ≡ Some x → is_of r x.key ≡ false) where
  abbrev order : DocSlot → Ordering
  order x = name_cmp (name_of x.key) (name_wanted r)

  abbrev named_too : DocSlot → Bool
  named_too x = is_of r x.key

  passed : AllWithin (λ x. named_too x ≡ false) ss (n + 1) (length ss)
  passed k d lo hi = by (named_too (get_or ss k d)) refl
    where
      by : (b : Bool) → named_too (get_or ss k d) ≡ b → named_too (get_or ss k d) ≡ false
      by false t = t
      by true t =
          let rises = names_rise ss (name_wanted r) sorted in
          let x = get_or ss (n + 1) d in
          let first : is_eq (order (get_or ss n d)) ≡ true = name_tied r (get_or ss n d).key ∙ ap named_too (get_or_from_slice_get ss n s d here) ∙ named in
          let last : is_eq (order (get_or ss k d)) ≡ true = name_tied r (get_or ss k d).key ∙ t in
          let between : is_eq (order x) ≡ true = squeezed _ _ _ (rises n (n + 1) d (omega arith) (omega arith)) (rises (n + 1) k d lo hi) first last in
          t ∙ sym between ∙ name_tied r x.key ∙ next x (slice_get-get_or ss (n + 1) d (omega arith))

  parts : ss ≡ take n ss ++ s ∷ drop (n + 1) ss
  parts =
      sym (take-append-drop n ss)
      ∙ ap (λ xs. take n ss ++ xs) (drop_more ss n s (slice_get_within ss n s here) ∙ ap (λ x. x ∷ drop (n + 1) ss) (get_or_from_slice_get ss n s s here))

  alone : filter named_too (s ∷ drop (n + 1) ss) ≡ s ∷ []
  alone =
      ap (λ b. cond b (s ∷ filter named_too (drop (n + 1) ss)) (filter named_too (drop (n + 1) ss))) named
      ∙ ap (λ xs. s ∷ xs) (none_from named_too ss (n + 1) passed)

  kept : filter named_too ss ≡ filter named_too (take n ss) ++ s ∷ []
  kept = ap (filter named_too) parts ∙ filter-append named_too (take n ss) (s ∷ drop (n + 1) ss) ∙ ap (λ xs. filter named_too (take n ss) ++ xs) alone

  -- it is the most recent one, if it has a document that is accepted
  pub recent : (o : Option (Bor Tree)) → option_copied o ≡ accepted r s → IfSome o (λ d. most_recent r (held (slots_of ss)) ≡ Some d.now)
  recent None e = tt
  recent (Some d) e = most_recent-slots r ss sorted ∙ last_accepted_back r (filter named_too ss) (filter named_too (take n ss)) s (Some d.now) kept e
