-- The values of a list, as a set has them.
use Rattle.std.proofs.Common.{◌≡◌, ℕ, ◌+◌, ◌<◌, List, [], ◌∷◌, length, get_or, take, Bool, true, false, ◌||◌, cond, refl, sym, ap, ◌∙◌}
use Rattle.std.proofs.lemmas.List.{take_more}
use Rattle.std.proofs.lemmas.List.Folds.{list_any-append}
use Rattle.std.specs.BTreeSet.{BTreeSet, UpdatesBy}
use Rattle.std.specs.List.{list_any}
use Rattle.std.specs.Ordering.{is_eq}
use Rattle.ent_values.specs.Order.{value_cmp}
use Rattle.ent_values.specs.Same.{same_value}
use Rattle.ent_values.specs.contracts.value.ValueOrd.TheImpl.Laws.{matches_eq-law}
use Rattle.ent_values.specs.declared.value.Value.{Value}
use Rattle.ent_values.specs.contracts.value.ValueEq.TheImpl.Laws.{laws-law}
use Rattle.lint_declared.specs.proofs_only.Values.{ListsAsSet, has_value}

placed_last : (a b : Bool) → cond b true a ≡ (a || (b || false))
placed_last true true = refl
placed_last true false = refl
placed_last false true = refl
placed_last false false = refl

-- one more of them
pub values_more : (values : List Value) (i : ℕ) (s n : BTreeSet Value) (key d : Value) → i < length values → key ≡ get_or values i d
    → ListsAsSet (take i values) s → UpdatesBy value_cmp (value_cmp key) s n true → ListsAsSet (take (i + 1) values) n
values_more values i s n key d lt here so_far updates v =
    let next : list_any (same_value v) (take (i + 1) values) ≡ (list_any (same_value v) (take i values) || (same_value v key || false)) =
    ap (list_any (same_value v)) (take_more values i d lt) ∙ list_any-append (same_value v) (take i values) (get_or values i d ∷ []) ∙ rw (← here) refl in
    let found : has_value n v ≡ cond (is_eq (value_cmp key v)) true (has_value s v) = updates.0 v in
    found ∙ ap (λ b. cond b true (has_value s v)) (sym (matches_eq-law key v) ∙ laws-law.symm key v) ∙ ap (cond (same_value v key) true) (so_far v)
    ∙ placed_last (list_any (same_value v) (take i values)) (same_value v key) ∙ sym next
