-- What is noted stays noted: keys in a set of keys.
use Rattle.std.proofs.Common.{◌≡◌, List, [], ◌∷◌, length, Ordering, Less, Equal, Greater, refl, ap, ◌∙◌, arith}
use Rattle.std.specs.BTreeSet.{insert_key}
use Rattle.std.specs.Cmp.{IsTotalOrder, tied_itself}
use Rattle.std.specs.FinMap.{IsAntisymmetric}
use Rattle.std.specs.List.{AllByRecursion}
use Rattle.std.specs.Ordering.{match_ordering, ordering_reverse}
use Rattle.ent_request.specs.contracts.key.ReadKeyOrd.TheImpl.Laws.{total-law}
use Rattle.ent_request.specs.declared.key.ReadKey.{ReadKey}
use Rattle.ent_request.specs.Noted.{noted, read_cmp, with_key}
use Rattle.ent_request.proofs.Keys.{read_cmp-IsAntisymmetric}

module _ {K : Type 0} (cmp : K → K → Ordering) (order : IsTotalOrder cmp) (same : IsAntisymmetric cmp) where
  abbrev with : List K → K → List K
  with = insert_key cmp

  -- the rest of a list that begins with the same
  rest_of : (x : K) (xs ys : List K) → x ∷ xs ≡ x ∷ ys → xs ≡ ys
  rest_of x xs ys e = cc

  -- a list isn't longer than itself
  no_longer : (key : K) (xs : List K) → key ∷ xs ≡ xs → ⊥
  no_longer key xs e = let more = ap length e in omega (arith, more)

  pub with_again : (keys : List K) (key : K) → with (with keys key) key ≡ with keys key
  with_again [] key = ap (λ o. match_ordering o (key ∷ key ∷ []) (key ∷ []) (key ∷ with [] key)) (tied_itself order key)
  with_again (x ∷ xs) key = at (cmp key x) refl (with_again xs key) where
    at : (o : Ordering) → cmp key x ≡ o → with (with xs key) key ≡ with xs key
        → with (match_ordering o (key ∷ x ∷ xs) (x ∷ xs) (x ∷ with xs key)) key ≡ match_ordering o (key ∷ x ∷ xs) (x ∷ xs) (x ∷ with xs key)
    at Less is later = ap (λ o. match_ordering o (key ∷ key ∷ x ∷ xs) (key ∷ x ∷ xs) (key ∷ with (x ∷ xs) key)) (tied_itself order key)
    at Equal is later = ap (λ o. match_ordering o (key ∷ x ∷ xs) (x ∷ xs) (x ∷ with xs key)) is
    at Greater is later = ap (λ o. match_ordering o (key ∷ x ∷ with xs key) (x ∷ with xs key) (x ∷ with (with xs key) key)) is ∙ ap (λ ks. x ∷ ks) later

  -- what is above x is above what is below x
  above : (key x more : K) (o : Ordering) → cmp key x ≡ o → (o ≡ Less → ⊥) → cmp more x ≡ Less → cmp key more ≡ Greater
  above key x more Less is not_less less = absurd (not_less refl)
  above key x more Equal is not_less less = ap (λ k. cmp k more) (same key x is) ∙ order.antisymm x more ∙ ap ordering_reverse less
  above key x more Greater is not_less less =
      order.antisymm key more ∙ ap ordering_reverse (order.trans more x key less (order.antisymm x key ∙ ap ordering_reverse is))

  pub with_stays : (keys : List K) (key more : K) → with keys key ≡ keys → with (with keys more) key ≡ with keys more
  with_stays [] key more there = absurd (no_longer key [] there)
  with_stays (x ∷ xs) key more there = at (cmp key x) (cmp more x) refl refl there (with_stays xs key more) where
    at : (o p : Ordering) → cmp key x ≡ o → cmp more x ≡ p → match_ordering o (key ∷ x ∷ xs) (x ∷ xs) (x ∷ with xs key) ≡ x ∷ xs
        → (with xs key ≡ xs → with (with xs more) key ≡ with xs more)
        → with (match_ordering p (more ∷ x ∷ xs) (x ∷ xs) (x ∷ with xs more)) key ≡ match_ordering p (more ∷ x ∷ xs) (x ∷ xs) (x ∷ with xs more)
    at Less p is that there later = absurd (no_longer key (x ∷ xs) there)
    at Equal Less is that there later =
        ap (λ o. match_ordering o (key ∷ more ∷ x ∷ xs) (more ∷ x ∷ xs) (more ∷ with (x ∷ xs) key)) (above key x more Equal is (λ e. absurd (cc)) that)
        ∙ ap (λ o. more ∷ match_ordering o (key ∷ x ∷ xs) (x ∷ xs) (x ∷ with xs key)) is
    at Equal Equal is that there later = ap (λ o. match_ordering o (key ∷ x ∷ xs) (x ∷ xs) (x ∷ with xs key)) is
    at Equal Greater is that there later = ap (λ o. match_ordering o (key ∷ x ∷ with xs more) (x ∷ with xs more) (x ∷ with (with xs more) key)) is
    at Greater Less is that there later =
        ap (λ o. match_ordering o (key ∷ more ∷ x ∷ xs) (more ∷ x ∷ xs) (more ∷ with (x ∷ xs) key)) (above key x more Greater is (λ e. absurd (cc)) that)
        ∙ ap (λ o. more ∷ match_ordering o (key ∷ x ∷ xs) (x ∷ xs) (x ∷ with xs key)) is ∙ ap (λ ks. more ∷ ks) there
    at Greater Equal is that there later = ap (λ o. match_ordering o (key ∷ x ∷ xs) (x ∷ xs) (x ∷ with xs key)) is ∙ there
    at Greater Greater is that there later =
        ap (λ o. match_ordering o (key ∷ x ∷ with xs more) (x ∷ with xs more) (x ∷ with (with xs more) key)) is
        ∙ ap (λ ks. x ∷ ks) (later (rest_of x (with xs key) xs there))

key_again : (keys : List ReadKey) (key : ReadKey) → with_key (with_key keys key) key ≡ with_key keys key
key_again = with_again read_cmp total-law read_cmp-IsAntisymmetric

key_stays : (keys : List ReadKey) (key more : ReadKey) → with_key keys key ≡ keys → with_key (with_key keys more) key ≡ with_key keys more
key_stays = with_stays read_cmp total-law read_cmp-IsAntisymmetric

key_stays_noted : (keys : List ReadKey) (key : ReadKey) (more : List ReadKey) → with_key keys key ≡ keys → with_key (noted keys more) key ≡ noted keys more
key_stays_noted keys key [] there = there
key_stays_noted keys key (k ∷ more) there = key_stays_noted (with_key keys k) key more (key_stays keys key k there)

-- these keys are in a set: each of them noted again leaves it as it is
abbrev pub AreKept : List ReadKey → List ReadKey → Type 0
AreKept keys more = AllByRecursion (λ key. with_key keys key ≡ keys) more

-- what was noted is in it
pub kept_now : (keys more : List ReadKey) → AreKept (noted keys more) more
kept_now keys [] = tt
kept_now keys (key ∷ more) = (key_stays_noted (with_key keys key) key more (key_again keys key), kept_now (with_key keys key) more)

-- noting it again leaves the set as it is
pub kept_same : (keys more : List ReadKey) → AreKept keys more → noted keys more ≡ keys
kept_same keys [] there = refl
kept_same keys (key ∷ more) there = ap (λ ks. noted ks more) there.0 ∙ kept_same keys more there.1
