-- Months outside the calendar.
use Rattle.std.proofs.Common.{◌≡◌, ◌<◌, ℕ, ℤ, pos, negsuc, Bool, true, false, refl, arith, w64}
use Rattle.std.specs.Prelude.{FitsSigned, Err, ◌&&◌, nat_le, nat_lt}
use Rattle.std.proofs.lemmas.Bool.{ltb-true}
use Rattle.ent_functions.specs.Dates.{date_in_month}
use Rattle.ent_functions.specs.declared.arg.Fault.TheVariants.{DateRange}
use Rattle.ent_functions.proofs.Taking.{both_true}

-- a number of months outside 64 bits is outside the calendar
pub beyond : (number : ℤ) (day : ℕ) → (FitsSigned w64 number → ⊥) → Err DateRange ≡ date_in_month number day
beyond (negsuc number) day lacks = refl
beyond (pos number) day lacks = by_test (nat_le 12 number && nat_lt number 120000) refl where
  by_test : (b : Bool) → (nat_le 12 number && nat_lt number 120000) ≡ b → Err DateRange ≡ date_in_month (pos number) day
  by_test false is = rw is
  by_test true is =
      let below : number < 120000 = ltb-true number 120000 (both_true (nat_le 12 number) (nat_lt number 120000) is).1 in
      absurd (lacks (record { sfits = omega (arith, below) }))
