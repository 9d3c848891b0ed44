-- Sets of values in their order, and what is found with them.
use Rattle.std.proofs.Common.{◌≡◌, ℕ, ◌+◌, ◌<◌, List, [], ◌∷◌, ◌++◌, length, take, get_or, Bool, true, false, ◌||◌, cond, Bor, refl, sym, ap, subst, ◌∙◌, append-nil}
use Rattle.std.proofs.Math.Bool.{or-false, or-true}
use Rattle.std.proofs.lemmas.List.{take_more}
use Rattle.std.proofs.lemmas.List.Folds.{list_any-append}
use Rattle.std.specs.BTreeSet.{BTreeSet}
use Rattle.std.specs.Ordering.{is_eq}
use Rattle.std.specs.Prelude.{filter}
use Rattle.ent_values.specs.Order.{value_cmp}
use Rattle.ent_values.specs.Same.{same_value}
use Rattle.ent_values.specs.contracts.value.ValueOrd.TheImpl.Laws.{matches_eq-law}
use Rattle.ent_values.specs.declared.value.Value.{Value}
use Rattle.ent_functions.specs.Sets.{each_once, is_among}
use Rattle.ent_functions.specs.proofs_only.Found.{AreFound, HasAll, IsAmong, has, has_value}
use Rattle.ent_functions.specs.declared.among.Among.{Among}
use Rattle.ent_functions.proofs.EachOnce.{among_each_once, filter_append, found_again, found_first}

-- one more value
among_push : (values : List Value) (more value : Value) → is_among value (values ++ more ∷ []) ≡ cond (is_eq (value_cmp more value)) true (is_among value values)
among_push values more value =
    list_any-append (λ other. same_value other value) values (more ∷ [])
    ∙ turned (is_among value values) (same_value more value)
    ∙ ap (λ b. cond b true (is_among value values)) (matches_eq-law more value)
  where
    turned : (a b : Bool) → (a || (b || false)) ≡ cond b true a
    turned a true = or-true a
    turned a false = or-false a

-- a set that has one value more than another
abbrev pub HasMore : BTreeSet (Bor Value) → BTreeSet (Bor Value) → Value → Type 0
HasMore old new more = (key : Bor Value) → has_value new key.now ≡ cond (is_eq (value_cmp more key.now)) true (has_value old key.now)

-- a set that has some values, and then one more
pub has_push : (values : List Value) (old new : BTreeSet (Bor Value)) (more : Value) → HasAll values old → HasMore old new more → HasAll (values ++ more ∷ []) new
has_push values old new more all updates value =
    updates (record { ref_ptr = (0, 0); now = value }) ∙ rw (all value, among_push values more value) refl

-- the next value of a list
pub has_next : (values : List Value) (i : ℕ) (value : Value) → i < length values → value ≡ get_or values i value → (old new : BTreeSet (Bor Value))
    → HasAll (take i values) old → HasMore old new value → HasAll (take (i + 1) values) new
has_next values i value below at old new all updates =
    subst (λ (xs : List Value). HasAll xs new) (sym (take_more values i value below ∙ ap (λ y. take i values ++ y ∷ []) (sym at)))
    (has_push (take i values) old new value all updates)

-- what is found, with one value more
module _ (values found : List Value) (old new : BTreeSet (Bor Value)) (value : Value) (so_far : AreFound values found old) (updates : HasMore old new value) where
  there : (b : Bool) → has_value old value ≡ b → is_among value (each_once values) ≡ b
  there b is = among_each_once value values ∙ sym (so_far.seen_all value) ∙ is

  -- it wasn't there
  pub found_new : has_value old value ≡ false → AreFound (values ++ value ∷ []) (found ++ value ∷ []) new
  found_new is = record {
    once = ap (λ xs. xs ++ value ∷ []) so_far.once ∙ sym (found_first values value (there false is));
    seen_all = has_push values old new value so_far.seen_all updates;
  }

  -- it was there
  pub found_old : has_value old value ≡ true → AreFound (values ++ value ∷ []) found new
  found_old is = record {
    once = so_far.once ∙ sym (found_again values value (there true is));
    seen_all = has_push values old new value so_far.seen_all updates;
  }

-- nothing is found yet
pub found_nothing : (found : List Value) (seen : BTreeSet (Bor Value)) → found ≡ [] → seen.keys ≡ [] → AreFound [] found seen
found_nothing found seen none empty = record { once = none; seen_all = λ value. rw empty refl }

-- a test of what comes next in a list that is filtered
module _ (p : Value → Bool) (xs : List Value) (i : ℕ) (x : Value) (below : i < length xs) (at : x ≡ get_or xs i x) where
  next : filter p (take (i + 1) xs) ≡ filter p (take i xs) ++ cond (p x) (x ∷ []) []
  next = ap (filter p) (take_more xs i x below ∙ ap (λ y. take i xs ++ y ∷ []) (sym at)) ∙ filter_append p (take i xs) (x ∷ [])

  pub filter_taken : p x ≡ true → filter p (take (i + 1) xs) ≡ filter p (take i xs) ++ x ∷ []
  filter_taken is = next ∙ ap (λ b. filter p (take i xs) ++ cond b (x ∷ []) []) is

  pub filter_left : p x ≡ false → filter p (take (i + 1) xs) ≡ filter p (take i xs)
  filter_left is = next ∙ ap (λ b. filter p (take i xs) ++ cond b (x ∷ []) []) is ∙ append-nil (filter p (take i xs))

-- whether a value is in a bag, by whatever the bag's values are looked up in
pub among_by : (among : Among) (values : List Value) (value : Value) (found b : Bool) → IsAmong values among → found ≡ has among value → found ≡ b → is_among value values ≡ b
among_by among values value found b is answers answered = sym (is value) ∙ sym answers ∙ answered
