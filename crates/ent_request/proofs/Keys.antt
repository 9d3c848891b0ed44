-- What holds of all keys of a set holds of all that were noted in it.
use Rattle.std.proofs.Common.{◌≡◌, List, [], ◌∷◌, refl, sym, ap, subst, ◌∙◌}
use Rattle.std.specs.List.{All, AllByRecursion}
use Rattle.std.specs.BTreeSet.{insert_key}
use Rattle.std.proofs.lemmas.List.Elements.{All-head, All-tail}
use Rattle.std.specs.FinMap.{IsAntisymmetric}
use Rattle.std.specs.Ordering.{is_eq, match_ordering}
use Rattle.std.specs.declared.cmp.Ordering.{Ordering}
use Rattle.std.specs.declared.cmp.Ordering.TheVariants.{Less, Equal, Greater}
use Rattle.ent_request.specs.contracts.key.ReadKeyOrd.TheImpl.Laws.{matches_eq-law}
use Rattle.ent_request.specs.declared.key.ReadKey.{ReadKey}
use Rattle.ent_request.specs.Noted.{noted, read_cmp, with_key}
use Rattle.ent_request.proofs.Sames.{key-Decides}

-- keys that tie are equal
pub read_cmp-IsAntisymmetric : IsAntisymmetric read_cmp
read_cmp-IsAntisymmetric a b tied = (key-Decides a b).0 (matches_eq-law a b ∙ ap is_eq tied)

pub all_with : {K : Type 0} (cmp : K → K → Ordering) → IsAntisymmetric cmp → (P : K → Type 0) (keys : List K) (key : K) → AllByRecursion P (insert_key cmp keys key) → AllByRecursion P keys × P key
all_with cmp same P [] key h = (tt, h.0)
all_with cmp same P (x ∷ xs) key h = at (cmp key x) cmp P x xs key (same key x) (all_with cmp same P xs key) h where
  at : {K : Type 0} (o : Ordering) (cmp : K → K → Ordering) (P : K → Type 0) (x : K) (xs : List K) (key : K) → (o ≡ Equal → key ≡ x) → (AllByRecursion P (insert_key cmp xs key) → AllByRecursion P xs × P key)
      → AllByRecursion P (match_ordering o (key ∷ x ∷ xs) (x ∷ xs) (x ∷ insert_key cmp xs key)) → AllByRecursion P (x ∷ xs) × P key
  at Less cmp P x xs key same later h = (h.1, h.0)
  at Equal cmp P x xs key same later h = (h, subst P (sym (same refl)) h.0)
  at Greater cmp P x xs key same later h = let rest = later h.1 in ((h.0, rest.0), rest.1)

pub all_noted : (P : ReadKey → Type 0) (keys more : List ReadKey) → AllByRecursion P (noted keys more) → AllByRecursion P keys × AllByRecursion P more
all_noted P keys [] h = (h, tt)
all_noted P keys (k ∷ more) h =
    let rest = all_noted P (with_key keys k) more h in
    let first = all_with read_cmp read_cmp-IsAntisymmetric P keys k rest.0 in
    (first.0, (first.1, rest.1))

pub by_recursion : {X : Type 0} (P : X → Type 0) (xs : List X) → All P xs → AllByRecursion P xs
by_recursion P [] h = tt
by_recursion P (x ∷ xs) h = (All-head P x xs h, by_recursion P xs (All-tail P x xs h))
