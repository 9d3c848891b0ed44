-- No key is recorded twice.
use Rattle.std.proofs.Common.{◌≡◌, List, [], ◌∷◌, ◌++◌, Ordering, Less, Equal, Greater, is_lt, refl, sym, ap, subst, ◌∙◌, true≢false}
use Rattle.std.specs.List.{AllByRecursion}
use Rattle.std.specs.List.Sorted.{IsStrictlySortedBy}
use Rattle.std.specs.BTreeSet.{insert_key}
use Rattle.std.specs.Cmp.{IsTotalOrder, tied_itself}
use Rattle.std.specs.Ordering.{match_ordering, ordering_reverse}
use Rattle.ent_request.specs.contracts.key.ReadKeyOrd.TheImpl.Laws.{total-law}
use Rattle.ent_request.specs.declared.key.ReadKey.{ReadKey}
use Rattle.ent_walk.specs.Answer.{looked_up}
use Rattle.ent_walk.specs.Law.{EachKeyIsRecordedOnce}
use Rattle.ent_request.specs.Noted.{noted, read_cmp, with_key}

module _ {K : Type 0} (cmp : K → K → Ordering) (order : IsTotalOrder cmp) where
  -- a key is below each of these
  abbrev Below : K → List K → Type 0
  Below x ys = AllByRecursion (λ y. cmp x y ≡ Less) ys

  below_with : (x key : K) → cmp x key ≡ Less → (ys : List K) → Below x ys → Below x (insert_key cmp ys key)
  below_with x key less [] below = (less, tt)
  below_with x key less (y ∷ ys) below = at (cmp key y) (below_with x key less ys below.1) where
    at : (o : Ordering) → Below x (insert_key cmp ys key) → Below x (match_ordering o (key ∷ y ∷ ys) (y ∷ ys) (y ∷ insert_key cmp ys key))
    at Less later = (less, below)
    at Equal later = below
    at Greater later = (below.0, later)

  below_all : (x y : K) → cmp x y ≡ Less → (ys : List K) → Below y ys → Below x ys
  below_all x y less [] below = tt
  below_all x y less (z ∷ zs) below = (order.trans x y z less below.0, below_all x y less zs below.1)

  sorted_with : (keys : List K) (key : K) → IsStrictlySortedBy cmp keys → IsStrictlySortedBy cmp (insert_key cmp keys key)
  unfolding IsStrictlySortedBy
  sorted_with [] key sorted = (tt, tt)
  sorted_with (x ∷ xs) key sorted = at (cmp key x) refl (sorted_with xs key sorted.1) where
    at : (o : Ordering) → cmp key x ≡ o → IsStrictlySortedBy cmp (insert_key cmp xs key) → IsStrictlySortedBy cmp (match_ordering o (key ∷ x ∷ xs) (x ∷ xs) (x ∷ insert_key cmp xs key))
    at Less is later = ((is, below_all key x is xs sorted.0), sorted)
    at Equal is later = sorted
    at Greater is later = (below_with x key (order.antisymm x key ∙ ap ordering_reverse is) xs sorted.0, later)

  below_itself : (between after : List K) (key : K) → Below key (between ++ key ∷ after) → ⊥
  below_itself [] after key below = true≢false (ap is_lt (sym below.0 ∙ tied_itself order key))
  below_itself (x ∷ between) after key below = below_itself between after key below.1

  never_twice : (before between after : List K) (key : K) → IsStrictlySortedBy cmp (before ++ key ∷ (between ++ key ∷ after)) → ⊥
  unfolding IsStrictlySortedBy
  never_twice [] between after key sorted = below_itself between after key sorted.0
  never_twice (x ∷ before) between after key sorted = never_twice before between after key sorted.1

  sorted_nothing : IsStrictlySortedBy cmp []
  unfolding IsStrictlySortedBy
  sorted_nothing = tt

sorted_noted : (keys more : List ReadKey) → IsStrictlySortedBy read_cmp keys → IsStrictlySortedBy read_cmp (noted keys more)
sorted_noted keys [] sorted = sorted
sorted_noted keys (key ∷ more) sorted = sorted_noted (with_key keys key) more (sorted_with read_cmp total-law keys key sorted)

pub each_once : EachKeyIsRecordedOnce
each_once looks request before between after key twice =
    never_twice read_cmp total-law before between after key (subst (IsStrictlySortedBy read_cmp) twice (sorted_noted [] (looked_up looks request) (sorted_nothing read_cmp total-law)))
