-- What is led to, over two lists side by side.
use Rattle.std.proofs.Common.{◌≡◌, ◌∙◌, ◌-◌, ◌+◌, ◌<◌, ℕ, zero, suc, List, [], ◌∷◌, ◌++◌, Bool, true, false, ◌&&◌, ◌||◌, Option, Some, None, ap, sym, refl, arith, append_assoc, add-one, drop, drop-cons, get_or, length, map, min}
use Rattle.std.specs.Prelude.{if◌then◌else◌}
use Rattle.std.specs.Global.{Vec}
use Rattle.std.specs.List.{list_any, zip}
use Rattle.ent_policy.specs.declared.raw.RawVariableDefinition.{RawVariableDefinition}
use Rattle.std.proofs.lemmas.List.{append-nil}
use Rattle.std.proofs.Math.Bool.{beq}
use Rattle.std.specs.Cmp.{booleans_Decides}
use Rattle.std.specs.Cmp.Lexicographic.{pointwise, pointwise_decides}
use Rattle.lint_places.specs.Led.{further, further_by, is_reached, numbers_of, referring, refers_to}
use Rattle.lint_places.specs.proofs_only.Rows.{is_reached_by}

-- behind the shorter of two lists no pair is left
pub zip_ended : {A B : Type 0} (ks : List A) (vs : List B) (k : ℕ) → k ≡ min (length ks) (length vs) → zip (drop k ks) (drop k vs) ≡ []
zip_ended [] vs zero e = refl
zip_ended [] vs (suc k) e = refl
zip_ended (x ∷ ks) [] zero e = refl
zip_ended (x ∷ ks) [] (suc k) e = absurd (omega (arith, e))
zip_ended (x ∷ ks) (w ∷ vs) zero e = absurd (omega (arith, e))
zip_ended (x ∷ ks) (w ∷ vs) (suc k) e = zip_ended ks vs k (omega (arith, e))

-- where one step more changes nothing, no number of steps does
pub stays : (vs : List (Option RawVariableDefinition)) (led : List Bool) → further vs led ≡ led → (n : ℕ) → further_by n vs led ≡ led
stays vs led same zero = refl
stays vs led same (suc n) = ap (further_by n vs) same ∙ stays vs led same n

-- behind the pairs that were seen no other pair is left
pub all_seen : {A B C : Type 0} (f : A × B → C) (ks : List A) (vs : List B) (next : List C) (k : ℕ) → k ≡ min (length ks) (length vs)
    → next ++ map f (zip (drop k ks) (drop k vs)) ≡ map f (zip ks vs) → next ≡ map f (zip ks vs)
all_seen f ks vs next k e all = sym (append-nil next) ∙ sym (ap (λ ps. next ++ map f ps) (zip_ended ks vs k e)) ∙ all

-- lists of flags that are found to be the same are
pub same_flags : (xs ys : List Bool) → pointwise beq xs ys ≡ true → xs ≡ ys
same_flags xs ys e = (pointwise_decides booleans_Decides xs ys).0 e

-- the steps that are left, after one more
pub one_more : (vs : List (Option RawVariableDefinition)) (all next told : List Bool) (end counter : ℕ) → counter < end → next ≡ further vs all
    → further_by (end - counter) vs all ≡ told → further_by (end - (counter + 1)) vs next ≡ told
one_more vs all next told end counter less is before =
    ap (further_by (end - (counter + 1)) vs) is ∙ ap (λ n. further_by n vs all) (counted end counter less) ∙ before
  where
    counted : (end counter : ℕ) → counter < end → suc (end - (counter + 1)) ≡ end - counter
    counted end counter less = omega (arith, less)

-- ---- numbers in place of definitions

module _ {A : Type 0} (p : A → Bool) (xs : List A) (k : ℕ) (x : A) where
  parted : (row rest : List ℕ) (b : Bool) → row ++ (if b then k ∷ rest else rest) ≡ (row ++ (if b then k ∷ [] else [])) ++ rest
  parted row rest true = sym (append_assoc row (k ∷ []) rest)
  parted row rest false = ap (λ r. r ++ rest) (sym (append-nil row))

  -- one more, whose number is put last if it passes
  pub numbers_next : (row whole : List ℕ) → k < length xs → x ≡ get_or xs k x → row ++ numbers_of p k (drop k xs) ≡ whole
      → (row ++ (if p x then k ∷ [] else [])) ++ numbers_of p (k + 1) (drop (k + 1) xs) ≡ whole
  numbers_next row whole lt here so_far =
      let one : row ++ numbers_of p k (drop k xs) ≡ (row ++ (if p x then k ∷ [] else [])) ++ numbers_of p (k + 1) (drop (k + 1) xs) =
      rw (add-one, drop-cons xs k x, ← here) (parted row (numbers_of p (suc k) (drop (suc k) xs)) (p x)) in
      sym one ∙ so_far

plus_zero : (k : ℕ) → k ≡ k + 0
plus_zero k = omega arith

zero_plus : (k : ℕ) → 0 + k ≡ k
zero_plus k = omega arith

plus_suc : (k i : ℕ) → suc k + i ≡ k + suc i
plus_suc k i = omega arith

module _ (p : Option RawVariableDefinition → Bool) (led : List Bool) where
  chosen : (k : ℕ) (ns : List ℕ) (q b r : Bool) → get_or led k false ≡ b → list_any (λ n. get_or led n false) ns ≡ r
      → list_any (λ n. get_or led n false) (if q then k ∷ ns else ns) ≡ ((b && q) || r)
  chosen k ns true true r e f = ap (λ c. c || list_any (λ n. get_or led n false) ns) e
  chosen k ns true false r e f = ap (λ c. c || list_any (λ n. get_or led n false) ns) e ∙ f
  chosen k ns false true r e f = f
  chosen k ns false false r e f = f

  -- whether one of the definitions of those numbers is led to
  pub one_led : (k : ℕ) (rest : List Bool) (vs : List (Option RawVariableDefinition)) → ((i : ℕ) → get_or led (k + i) false ≡ get_or rest i false)
      → list_any (λ n. get_or led n false) (numbers_of p k vs) ≡ list_any (λ d. d.0 && p d.1) (zip rest vs)
  one_led k [] [] h = refl
  one_led k (b ∷ bs) [] h = refl
  one_led k [] (v ∷ vs) h = chosen k (numbers_of p (suc k) vs) (p v) false false (ap (λ n. get_or led n false) (plus_zero k) ∙ h 0)
      (one_led (suc k) [] vs (λ i. ap (λ n. get_or led n false) (plus_suc k i) ∙ h (suc i))) ∙ nothing (p v)
    where
      nothing : (q : Bool) → ((false && q) || false) ≡ false
      nothing true = refl
      nothing false = refl
  one_led k (b ∷ bs) (v ∷ vs) h = chosen k (numbers_of p (suc k) vs) (p v) b (list_any (λ d. d.0 && p d.1) (zip bs vs)) (ap (λ n. get_or led n false) (plus_zero k) ∙ h 0)
      (one_led (suc k) bs vs (λ i. ap (λ n. get_or led n false) (plus_suc k i) ∙ h (suc i)))

module _ (led : List Bool) (vs : List (Option RawVariableDefinition)) where
  or_none : (l : Bool) → (l || false) ≡ l
  or_none true = refl
  or_none false = refl

  -- a definition is reached by the numbers of those that refer to it
  reached : (l : Bool) (row : Vec ℕ) (w : Option RawVariableDefinition) → row.items ≡ referring vs w → is_reached_by led (l, row) ≡ is_reached (zip led vs) (l, w)
  reached l row None e = rw e (or_none l)
  reached l row (Some v) e = rw e (ap (λ b. l || b) (one_led (refers_to v.id) led 0 led vs (λ i. ap (λ n. get_or led n false) (zero_plus i))))

  rows_reach : (ls : List Bool) (rows : List (Vec ℕ)) (ws : List (Option RawVariableDefinition)) → map (λ row. row.items) rows ≡ map (referring vs) ws
      → map (is_reached_by led) (zip ls rows) ≡ map (is_reached (zip led vs)) (zip ls ws)
  rows_reach [] rows ws e = refl
  rows_reach (l ∷ ls) [] [] e = refl
  rows_reach (l ∷ ls) [] (w ∷ ws) e = absurd cc
  rows_reach (l ∷ ls) (row ∷ rows) [] e = absurd cc
  rows_reach (l ∷ ls) (row ∷ rows) (w ∷ ws) e =
      let head : row.items ≡ referring vs w = cc in
      let tail : map (λ row. row.items) rows ≡ map (referring vs) ws = cc in
      λ i. reached l row w head i ∷ rows_reach ls rows ws tail i

  -- one step more, by the numbers
  pub further_is : (rows : List (Vec ℕ)) → map (λ row. row.items) rows ≡ map (referring vs) vs → map (is_reached_by led) (zip led rows) ≡ further vs led
  further_is rows e = rows_reach led rows vs e
