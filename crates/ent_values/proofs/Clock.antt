-- Times of day as jiff holds them: how they order.
use Rattle.std.proofs.Common.{◌≡◌, ◌<◌, ◌⊎◌, inl, inr, ℕ, ap, sym, refl, ◌∙◌, arith}
use Rattle.std.proofs.lemmas.Bool.{cases_order, lt-ltb, le-ltb, eq-eqb, ne_eqb}
use Rattle.std.specs.Ordering.{eq_by_cmp, is_eq, nat_cmp}
use Rattle.std.specs.Prelude.{◌==◌}
use Rattle.std.specs.declared.cmp.Ordering.TheVariants.{Less, Equal, Greater}
use Rattle.jiff_core.specs.Time.{time_nanos}
use Rattle.jiff_core.specs.declared.civil.time.Time.{Time}
use Rattle.ent_values.specs.Calendar.{time_order}
use Rattle.ent_values.specs.Clock.{IsWhole, time_of_clock}

less : (a b : ℕ) → a < b → nat_cmp a b ≡ Less
less a b h = rw (lt-ltb a b h) refl

greater : (a b : ℕ) → b < a → nat_cmp a b ≡ Greater
greater a b h = rw (le-ltb a b (omega arith), ne_eqb a b (λ e. absurd (omega arith))) refl

equal : (a b : ℕ) → a ≡ b → nat_cmp a b ≡ Equal
equal a b h = rw (le-ltb a b (omega arith), eq-eqb a b h) refl

-- the first time comes before the second
abbrev IsBefore : Time → Time → Type 0
IsBefore a b = (a.hour < b.hour) ⊎ ((a.hour ≡ b.hour) × ((a.minute < b.minute) ⊎ ((a.minute ≡ b.minute) × (a.second < b.second))))

cases_time : (a b : Time) → IsBefore a b ⊎ (IsBefore b a ⊎ ((a.hour ≡ b.hour) × (a.minute ≡ b.minute) × (a.second ≡ b.second)))
cases_time a b =
    elim (cases_order a.hour b.hour) [
      | inr (inl lt) ↦ inl (inl lt)
      | inr (inr gt) ↦ inr (inl (inl gt))
      | inl hour ↦ elim (cases_order a.minute b.minute) [
        | inr (inl lt) ↦ inl (inr (hour, inl lt))
        | inr (inr gt) ↦ inr (inl (inr (sym hour, inl gt)))
        | inl minute ↦ elim (cases_order a.second b.second) [
          | inr (inl lt) ↦ inl (inr (hour, inr (minute, lt)))
          | inr (inr gt) ↦ inr (inl (inr (sym hour, inr (sym minute, gt))))
          | inl second ↦ inr (inr (hour, minute, second))
        ]
      ]
    ]

nanos_lt : (a b : Time) → IsWhole a → IsWhole b → IsBefore a b → time_nanos a < time_nanos b
nanos_lt a b whole whole' (inl hour) =
    omega (arith, whole, whole', hour, a.minute_in, a.second_in, b.minute_in, b.second_in)
nanos_lt a b whole whole' (inr (hour, inl minute)) =
    omega (arith, whole, whole', hour, minute, a.second_in, b.second_in)
nanos_lt a b whole whole' (inr (hour, inr (minute, second))) = omega (arith, whole, whole', hour, minute, second)

before : (a b : Time) → IsBefore a b → time_order (time_of_clock a) (time_of_clock b) ≡ Less
before a b (inl hour) = rw (less a.hour b.hour hour) refl
before a b (inr (hour, inl minute)) = rw (equal a.hour b.hour hour, less a.minute b.minute minute) refl
before a b (inr (hour, inr (minute, second))) =
    rw (equal a.hour b.hour hour, equal a.minute b.minute minute, less a.second b.second second) refl

after : (a b : Time) → IsBefore b a → time_order (time_of_clock a) (time_of_clock b) ≡ Greater
after a b (inl hour) = rw (greater a.hour b.hour hour) refl
after a b (inr (hour, inl minute)) = rw (equal a.hour b.hour (sym hour), greater a.minute b.minute minute) refl
after a b (inr (hour, inr (minute, second))) =
    rw (equal a.hour b.hour (sym hour), equal a.minute b.minute (sym minute), greater a.second b.second second) refl

-- jiff orders its times in whole seconds as their hours, minutes and seconds order
pub order_is : (a b : Time) → IsWhole a → IsWhole b → nat_cmp (time_nanos a) (time_nanos b) ≡ time_order (time_of_clock a) (time_of_clock b)
order_is a b whole whole' =
    elim (cases_time a b) [
      | inl lt ↦ less (time_nanos a) (time_nanos b) (nanos_lt a b whole whole' lt) ∙ sym (before a b lt)
      | inr (inl gt) ↦ greater (time_nanos a) (time_nanos b) (nanos_lt b a whole' whole gt) ∙ sym (after a b gt)
      | inr (inr e) ↦ equal (time_nanos a) (time_nanos b) (omega (arith, whole, whole', e.0, e.1, e.2))
          ∙ sym (rw (equal a.hour b.hour e.0, equal a.minute b.minute e.1, equal a.second b.second e.2) refl)
    ]

tied : (a b : ℕ) → (a == b) ≡ is_eq (nat_cmp a b)
tied a b =
    elim (cases_order a b) [
      | inl e ↦ eq-eqb a b e ∙ sym (ap is_eq (equal a b e))
      | inr (inl lt) ↦ ne_eqb a b (λ e. absurd (omega arith)) ∙ sym (ap is_eq (less a b lt))
      | inr (inr gt) ↦ ne_eqb a b (λ e. absurd (omega arith)) ∙ sym (ap is_eq (greater a b gt))
    ]

-- and knows two for the same where they order the same
pub equal_is : (a b : Time) → IsWhole a → IsWhole b → (time_nanos a == time_nanos b) ≡ eq_by_cmp time_order (time_of_clock a) (time_of_clock b)
equal_is a b whole whole' = tied (time_nanos a) (time_nanos b) ∙ ap is_eq (order_is a b whole whole')
