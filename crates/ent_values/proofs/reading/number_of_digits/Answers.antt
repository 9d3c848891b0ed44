use Rattle.std.proofs.Common.{rules, arith, ◌≡◌, ℕ, List, ◌^◌, ◌≤◌, ◌<◌, ◌+◌, ◌-◌, ◌*◌, length, get_or, take, true, ◌∙◌, sym, refl}
use Rattle.std.proofs.Math.Nat.{pow-le-pow_right}
use Rattle.std.proofs.lemmas.Bool.Decides.{nat_tests}
use Rattle.std.proofs.lemmas.Grind.{pow_more}
use Rattle.std.proofs.lemmas.Int.Digits.{digits_value_more}
use Rattle.std.proofs.lemmas.List.Folds.{list_all_more}
use Rattle.std.specs.Char.{digit_value, is_ascii_digit}
use Rattle.std.specs.Str.Parse.{digits_value}
use Rattle.ent_values.proofs.reading.number_of_digits.Goals as goal

-- a digit more
next_value : (text : List ℕ) (i number : ℕ) → i < length text → is_ascii_digit (get_or text i 0) ≡ true → number ≡ digits_value 10 (take i text) → digits_value 10 (take (i + 1) text) ≡ number * 10 + (get_or text i 0 - 48)
next_value text i number inside digit value =
    let worth : digit_value (get_or text i 0) ≡ get_or text i 0 - 48 = grind (arith, nat_tests) in
    rw (digits_value_more 10 text i inside, worth, value)

small_power : (i : ℕ) → i ≤ 8 → 10 ^ i ≤ 100000000
small_power i h = pow-le-pow_right {n = 10} (omega arith) {i = i} {j = 8} h

pub overflow_mul-number : goal.overflow_mul-number
overflow_mul-number c =
    let below = small_power c.loop-byte.byte-index (omega arith) in
    omega (arith, below, c.loop-byte.invariant.2)

pub overflow_add-number : goal.overflow_add-number
overflow_add-number c =
    let below = small_power c.loop-byte.byte-index (omega arith) in
    omega (arith, below, c.loop-byte.invariant.2)

pub loop-byte-preserved : goal.loop-byte-preserved
loop-byte-preserved c =
    let text = c.args.text.now in
    let i = c.loop-byte.byte-index in
    let digit : is_ascii_digit (get_or text i 0) ≡ true = search rules in
    let next = next_value text i _ c.loop-byte-test.true digit c.loop-byte.invariant.1 in
    let most = c.if-not-is_ascii_digit.ensures.cases in
    let more : 10 ^ (i + 1) ≡ 10 ^ i * 10 = pow_more 10 i in (
      list_all_more is_ascii_digit text i 0 c.loop-byte-test.true ∙ rw (c.loop-byte.invariant.0, digit) refl,
      sym (rw c.from.ensures next),
      rw more (omega (arith, most, c.from.ensures, c.loop-byte.invariant.2)),
    )
