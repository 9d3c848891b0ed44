-- No value lies between limits that leave none, and a function is true of the values that meet its limit.
use Rattle.std.proofs.Common.{◌≡◌, Bool, true, false, ◌&&◌, ◌⊎◌, Ordering, refl, sym, ap, ◌∙◌, inl, inr}
use Rattle.std.proofs.lemmas.Bool.{and_parts, false≢true, or_cases}
use Rattle.std.specs.Cmp.{IsTotalOrder}
use Rattle.std.specs.Ordering.{ordering_reverse}
use Rattle.std.specs.declared.cmp.Ordering.TheVariants as order
use Rattle.ent_functions.specs.declared.function.Comparison.TheVariants as comparison
use Rattle.lint_meaning.specs.Bounds.{ComparisonsAskForLimits, NoValueMeetsBoth, TurnedLimitsAskTheSame, is_ceiling, is_empty_between, is_floor, is_met, leaves_none, lies, meets, turned}
use Rattle.lint_meaning.specs.declared.bounds.Limit.{Limit}
use Rattle.lint_meaning.specs.declared.bounds.Limit.TheVariants as limit
use Rattle.ent_values.specs.Order.{value_cmp}
use Rattle.ent_values.specs.contracts.value.ValueOrd.TheImpl.Laws.{total-law}
use Rattle.ent_values.specs.declared.value.Value.{Value}

-- what meets a floor lies above its literal, or on it where that meets it
low : (a : Limit) (p : Ordering) → is_floor a ≡ true → lies a p ≡ true → ((p ≡ order.Equal) × (is_met a ≡ true)) ⊎ (p ≡ order.Greater)
low limit.Exactly order.Less f h = absurd (false≢true h)
low limit.Exactly order.Equal f h = inl (refl, refl)
low limit.Exactly order.Greater f h = absurd (false≢true h)
low limit.Above order.Less f h = absurd (false≢true h)
low limit.Above order.Equal f h = absurd (false≢true h)
low limit.Above order.Greater f h = inr refl
low limit.From order.Less f h = absurd (false≢true h)
low limit.From order.Equal f h = inl (refl, refl)
low limit.From order.Greater f h = inr refl
low limit.Below p f h = absurd (false≢true f)
low limit.UpTo p f h = absurd (false≢true f)

-- what meets a ceiling lies below its literal, or on it where that meets it
high : (b : Limit) (q : Ordering) → is_ceiling b ≡ true → lies b q ≡ true → ((q ≡ order.Equal) × (is_met b ≡ true)) ⊎ (q ≡ order.Less)
high limit.Exactly order.Less c h = absurd (false≢true h)
high limit.Exactly order.Equal c h = inl (refl, refl)
high limit.Exactly order.Greater c h = absurd (false≢true h)
high limit.Below order.Less c h = inr refl
high limit.Below order.Equal c h = absurd (false≢true h)
high limit.Below order.Greater c h = absurd (false≢true h)
high limit.UpTo order.Less c h = inr refl
high limit.UpTo order.Equal c h = inl (refl, refl)
high limit.UpTo order.Greater c h = absurd (false≢true h)
high limit.Above q c h = absurd (false≢true c)
high limit.From q c h = absurd (false≢true c)

module _ {K : Type 0} (R : K → K → Ordering) (o : IsTotalOrder R) (v w x : K) where
  -- a literal below another leaves something between
  less : (both : Bool) → R v w ≡ order.Less → leaves_none both (R v w) ≡ true → ⊥
  less both e none = false≢true (sym (ap (leaves_none both) e) ∙ none)

  between : (a b : Limit) → is_floor a ≡ true → is_ceiling b ≡ true → leaves_none (is_met a && is_met b) (R v w) ≡ true → lies a (R x v) ≡ true → lies b (R x w) ≡ true → ⊥
  between a b floor ceiling none above below =
      elim (low a (R x v) floor above) [
        | inl on ↦ elim (high b (R x w) ceiling below) [
          | inl at ↦ false≢true (sym ((λ i. leaves_none (on.1 i && at.1 i) ((sym (o.congr x v w on.0) ∙ at.0) i))) ∙ none)
          | inr under ↦ less (is_met a && is_met b) (sym (o.congr x v w on.0) ∙ under) none
        ]
        | inr over ↦ elim (high b (R x w) ceiling below) [
          | inl at ↦ less (is_met a && is_met b) (o.antisymm v w ∙ ap ordering_reverse (sym (o.congr x w v at.0) ∙ over)) none
          | inr under ↦ less (is_met a && is_met b) (o.trans v x w (o.antisymm v x ∙ ap ordering_reverse over) under) none
        ]
      ]

between_values : (a b : Limit) (v w x : Value) → is_empty_between a v b w ≡ true → meets a v x ≡ true → meets b w x ≡ true → ⊥
between_values a b v w x empty above below =
    let p = and_parts (is_floor a) (is_ceiling b && leaves_none (is_met a && is_met b) (value_cmp v w)) empty in
    let q = and_parts (is_ceiling b) (leaves_none (is_met a && is_met b) (value_cmp v w)) p.1 in
    between value_cmp total-law v w x a b p.0 q.0 q.1 above below

refuted : (a b : Bool) → (a ≡ true → b ≡ true → ⊥) → (a && b) ≡ false
refuted true true h = absurd (h refl refl)
refuted true false h = refl
refuted false b h = refl

pub no_value_meets_both : NoValueMeetsBoth
no_value_meets_both a b v w x empty =
    refuted (meets a v x) (meets b w x) (λ first second.
    elim (or_cases (is_empty_between a v b w) (is_empty_between b w a v) empty) [
      | inl one ↦ between_values a b v w x one first second
      | inr other ↦ between_values b a w v x other second first
    ])

-- a limit turned asks how the literal lies to the value
turned_lies : (l : Limit) (p : Ordering) → lies l (ordering_reverse p) ≡ lies (turned l) p
turned_lies limit.Exactly order.Less = refl
turned_lies limit.Exactly order.Equal = refl
turned_lies limit.Exactly order.Greater = refl
turned_lies limit.Above order.Less = refl
turned_lies limit.Above order.Equal = refl
turned_lies limit.Above order.Greater = refl
turned_lies limit.From order.Less = refl
turned_lies limit.From order.Equal = refl
turned_lies limit.From order.Greater = refl
turned_lies limit.Below order.Less = refl
turned_lies limit.Below order.Equal = refl
turned_lies limit.Below order.Greater = refl
turned_lies limit.UpTo order.Less = refl
turned_lies limit.UpTo order.Equal = refl
turned_lies limit.UpTo order.Greater = refl

pub turned_limits_ask_the_same : TurnedLimitsAskTheSame
turned_limits_ask_the_same l literal value = ap (lies l) (total-law.antisymm literal value) ∙ turned_lies l (value_cmp value literal)

pub comparisons_ask_for_limits : ComparisonsAskForLimits
comparisons_ask_for_limits comparison.GreaterThan o order.Less = refl
comparisons_ask_for_limits comparison.GreaterThan o order.Equal = refl
comparisons_ask_for_limits comparison.GreaterThan o order.Greater = refl
comparisons_ask_for_limits comparison.GreaterThanOrEqual o order.Less = refl
comparisons_ask_for_limits comparison.GreaterThanOrEqual o order.Equal = refl
comparisons_ask_for_limits comparison.GreaterThanOrEqual o order.Greater = refl
comparisons_ask_for_limits comparison.LessThan o order.Less = refl
comparisons_ask_for_limits comparison.LessThan o order.Equal = refl
comparisons_ask_for_limits comparison.LessThan o order.Greater = refl
comparisons_ask_for_limits comparison.LessThanOrEqual o order.Less = refl
comparisons_ask_for_limits comparison.LessThanOrEqual o order.Equal = refl
comparisons_ask_for_limits comparison.LessThanOrEqual o order.Greater = refl
