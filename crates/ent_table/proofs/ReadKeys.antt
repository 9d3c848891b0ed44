-- Keys among keys.
use Rattle.std.proofs.Common.{◌≡◌, inl, inr, Bool, true, false, ◌||◌, ◌&&◌, List, [], ◌∷◌, filter, if◌then◌else◌, refl, sym, ap, ◌∙◌}
use Rattle.std.specs.List.{list_any}
use Rattle.std.specs.Ordering.{is_eq}
use Rattle.std.proofs.lemmas.Cmp.{tied_itself}
use Rattle.ent_finder.proofs.Sorted.{equal}
use Rattle.ent_request.specs.Noted.{has_key, read_cmp}
use Rattle.ent_request.specs.contracts.key.ReadKeyOrd.TheImpl.Laws.{total-law}
use Rattle.ent_request.specs.declared.key.ReadKey.{ReadKey}
use Rattle.ent_request.proofs.Keys.{read_cmp-IsAntisymmetric}
use Rattle.ent_table.proofs.Bits.{or_cases, or_left, or_right, same_test}

key_itself : (k : ReadKey) → is_eq (read_cmp k k) ≡ true
key_itself k = ap is_eq (tied_itself total-law k)

same_key : (a b : ReadKey) → is_eq (read_cmp a b) ≡ true → a ≡ b
same_key a b h = read_cmp-IsAntisymmetric a b (equal _ h)

pub has_first : (k : ReadKey) (ks : List ReadKey) → has_key (k ∷ ks) k ≡ true
has_first k ks = or_left (is_eq (read_cmp k k)) (has_key ks k) (key_itself k)

pub has_later : (x k : ReadKey) (ks : List ReadKey) → has_key ks k ≡ true → has_key (x ∷ ks) k ≡ true
has_later x k ks h = or_right (is_eq (read_cmp k x)) (has_key ks k) h

any_of : (p : ReadKey → Bool) (ks : List ReadKey) → list_any p ks ≡ true → (k : ReadKey) × (has_key ks k ≡ true) × (p k ≡ true)
any_of p [] h = absurd (cc)
any_of p (x ∷ ks) h = elim (or_cases (p x) (list_any p ks) h) [
  | inl t ↦ (x, has_first x ks, t)
  | inr t ↦ let r = any_of p ks t in (r.0, has_later x r.0 ks r.1, r.2)
]

any_from : (p : ReadKey → Bool) (ks : List ReadKey) (k : ReadKey) → has_key ks k ≡ true → p k ≡ true → list_any p ks ≡ true
any_from p [] k h t = absurd (cc)
any_from p (x ∷ ks) k h t = elim (or_cases (is_eq (read_cmp k x)) (has_key ks k) h) [
  | inl q ↦ or_left (p x) (list_any p ks) (ap p (sym (same_key k x q)) ∙ t)
  | inr q ↦ or_right (p x) (list_any p ks) (any_from p ks k q t)
]

meet : (xs ys : List ReadKey) → list_any (has_key xs) ys ≡ true → list_any (has_key ys) xs ≡ true
meet xs ys h = let r = any_of (has_key xs) ys h in any_from (has_key ys) xs r.0 r.2 r.1

-- some key of one list is in another
pub any_swapped : (xs ys : List ReadKey) → list_any (has_key xs) ys ≡ list_any (has_key ys) xs
any_swapped xs ys = same_test (list_any (has_key xs) ys) (list_any (has_key ys) xs) (meet xs ys) (meet ys xs)

pub any_agree : (p q : ReadKey → Bool) (ks : List ReadKey) → ((k : ReadKey) → has_key ks k ≡ true → p k ≡ q k) → list_any p ks ≡ list_any q ks
any_agree p q [] f = refl
any_agree p q (x ∷ ks) f = λ j. f x (has_first x ks) j || any_agree p q ks (λ k h. f k (has_later x k ks h)) j

-- a key is among those that pass where it is among all and passes
pub has_filter : (p : ReadKey → Bool) (ks : List ReadKey) (k : ReadKey) → has_key (filter p ks) k ≡ (has_key ks k && p k)
has_filter p [] k = refl
has_filter p (x ∷ ks) k = by (p x) (is_eq (read_cmp k x)) refl refl (has_filter p ks k) where
  none : (b c : Bool) → c ≡ false → (b && c) ≡ c
  none true c e = refl
  none false c e = sym e

  by : (b c : Bool) → p x ≡ b → is_eq (read_cmp k x) ≡ c → has_key (filter p ks) k ≡ (has_key ks k && p k) → has_key (filter p (x ∷ ks)) k ≡ (has_key (x ∷ ks) k && p k)
  by true true is tied rest =
      let passes : p k ≡ true = ap p (same_key k x tied) ∙ is in
      ap (λ b. has_key (if b then x ∷ filter p ks else filter p ks) k) is ∙ ap (λ c. c || has_key (filter p ks) k) tied ∙ sym (ap (λ c. (c || has_key ks k) && p k) tied ∙ passes)
  by true false is tied rest =
      ap (λ b. has_key (if b then x ∷ filter p ks else filter p ks) k) is ∙ ap (λ c. c || has_key (filter p ks) k) tied ∙ rest ∙ sym (ap (λ c. (c || has_key ks k) && p k) tied)
  by false true is tied rest =
      let fails : p k ≡ false = ap p (same_key k x tied) ∙ is in
      ap (λ b. has_key (if b then x ∷ filter p ks else filter p ks) k) is ∙ rest ∙ none (has_key ks k) (p k) fails ∙ sym (ap (λ c. (c || has_key ks k) && p k) tied)
  by false false is tied rest = ap (λ b. has_key (if b then x ∷ filter p ks else filter p ks) k) is ∙ rest ∙ sym (ap (λ c. (c || has_key ks k) && p k) tied)
