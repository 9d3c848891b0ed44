-- Bags that have numbers, and what a hasher is fed of them.
use Rattle.std.proofs.Common.{◌≡◌, ℕ, Bool, true, false, List, [], ◌∷◌, ◌++◌, map, Some, slice_get, sym, ap, ◌∙◌}
use Rattle.std.specs.Prelude.{if◌then◌else◌, option_map}
use Rattle.std.specs.List.{AllByRecursion, IsDistinct, list_any}
use Rattle.std.proofs.lemmas.List.{map-append}
use Rattle.std.proofs.lemmas.Option.{slice_get-map}
use Rattle.indexmap.specs.IndexSet.{insert_key}
use Rattle.ent_values.specs.Bags.{Contents}
use Rattle.ent_values.specs.Same.{same_bag}
use Rattle.ent_values.proofs.Values.{same_bag-Decides}
use Rattle.memo_bags.specs.contracts.bags.NumberedBagPartialEq.TheImpl as founds
use Rattle.memo_bags.specs.declared.bags.NumberedBag.{NumberedBag}
use Rattle.memo_bags.specs.proofs_only.Ready.{Begins}
use Rattle.memo_bags.proofs.Growing.{starts_itself}

-- what `==` of two found bags says
abbrev pub same_found : NumberedBag → NumberedBag → Bool
same_found = (founds.ghosts).eq

abbrev bags_in : List NumberedBag → List Contents
bags_in found = map (λ (f : NumberedBag). f.bag) found

apart_map : (x : NumberedBag) (found : List NumberedBag) → AllByRecursion (λ y. same_found x y ≡ false) found → AllByRecursion (λ b. same_bag x.bag b ≡ false) (bags_in found)
apart_map x [] all = tt
apart_map x (y ∷ found) all = (all.0, apart_map x found all.1)

pub distinct_map : (found : List NumberedBag) → IsDistinct same_found found → IsDistinct same_bag (bags_in found)
unfolding IsDistinct
distinct_map [] all = tt
distinct_map (x ∷ found) all = (apart_map x found all.0, distinct_map found all.1)

pub put_begins : (old new : List NumberedBag) (f : NumberedBag) → new ≡ insert_key same_found old f → Begins (bags_in new) (bags_in old)
put_begins old new f is = by (list_any (same_found f) old) is where
  by : (b : Bool) → new ≡ (if b then old else old ++ f ∷ []) → Begins (bags_in new) (bags_in old)
  by true e = starts_itself (bags_in old) (bags_in new) (ap bags_in e)
  by false e = (f.bag ∷ [], ap bags_in e ∙ map-append (λ (x : NumberedBag). x.bag) old (f ∷ []))

pub put_at : (new : List NumberedBag) (f k : NumberedBag) (n : ℕ) → slice_get new n ≡ Some k → same_found f k ≡ true → slice_get (bags_in new) n ≡ Some f.bag
put_at new f k n at same =
    slice_get-map (λ (x : NumberedBag). x.bag) new n ∙ ap (option_map (λ (x : NumberedBag). x.bag)) at ∙ ap Some (sym ((same_bag-Decides f.bag k.bag).0 same))

-- ---- the loop over what a hasher is fed of
