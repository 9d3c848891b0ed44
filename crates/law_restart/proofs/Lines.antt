-- The compact text of JSON is one line.
use Rattle.std.proofs.Common.{◌≡◌, ℕ, ◌≤◌, ◌<◌, ◌/◌, ◌%◌, pos, negsuc, suc, List, [], ◌∷◌, ◌++◌, Bool, true, false, cond, nat_lt, refl, arith}
use Rattle.std.specs.Prelude.{◌&&◌, ◌||◌, ◌==◌, All, decimal}
use Rattle.std.specs.Char.{digit_char, is_ascii_digit}
use Rattle.std.specs.List.{AllByRecursion, list_all}
use Rattle.std.proofs.lemmas.Bool.{ltb-true, ltb-false}
use Rattle.std.proofs.lemmas.Bool.Decides.{nat_tests}
use Rattle.std.proofs.lemmas.Fmt.{digits_decimal}
use Rattle.std.proofs.lemmas.List.Elements.{All-nil, All-cons}
use Rattle.json.specs.Print.{escape, escape_byte, escape_letter, quoted}
use Rattle.serde_json.specs.Data as json
use Rattle.serde_json.specs.Data.{Data, Items, Members, Num}
use Rattle.serde_json.specs.Written.{comma_if, compact_text, items_text, members_text, number_text}
use Rattle.ent_policy.proofs.Numbers.{decimal_digits}
use Rattle.law_restart.specs.Plain.{ArePlainItems, ArePlainMembers, IsPlain, IsWholeNumber, TextsAreLines}

-- no byte is a control character
abbrev pub ArePrinted : List ℕ → Type 0
ArePrinted = AllByRecursion (λ b. 32 ≤ b)

both_printed : (xs ys : List ℕ) → ArePrinted xs → ArePrinted ys → ArePrinted (xs ++ ys)
both_printed [] ys h g = g
both_printed (x ∷ xs) ys h g = (h.0, both_printed xs ys h.1 g)

-- ---- strings

letter_printed : (x : ℕ) → 0 < escape_letter x → 32 ≤ escape_letter x
letter_printed x h = by (x == 34) (x == 92) (x == 8) (x == 12) (x == 10) (x == 13) (x == 9) refl refl h
  where
    by : (a b c d e f g : Bool) → (x == 34) ≡ a → (x == 92) ≡ b → 0 < cond (a || b) x (cond c 98 (cond d 102 (cond e 110 (cond f 114 (cond g 116 0)))))
        → 32 ≤ cond (a || b) x (cond c 98 (cond d 102 (cond e 110 (cond f 114 (cond g 116 0)))))
    by true b c d e f g p q h = grind (arith, nat_tests)
    by false true c d e f g p q h = grind (arith, nat_tests)
    by false false true d e f g p q h = omega arith
    by false false false true e f g p q h = omega arith
    by false false false false true f g p q h = omega arith
    by false false false false false true g p q h = omega arith
    by false false false false false false true p q h = omega arith
    by false false false false false false false p q h = absurd (omega arith)

digit_printed : (k : ℕ) → 32 ≤ digit_char k
digit_printed k = grind (arith, nat_tests)

byte_printed : (x : ℕ) → ArePrinted (escape_byte x)
unfolding escape_byte
byte_printed x = by (nat_lt 0 (escape_letter x)) (nat_lt x 32) refl refl
  where
    by : (a b : Bool) → nat_lt 0 (escape_letter x) ≡ a → nat_lt x 32 ≡ b → ArePrinted (cond a (92 ∷ escape_letter x ∷ []) (cond b (92 ∷ 117 ∷ 48 ∷ 48 ∷ digit_char (x / 16) ∷ digit_char (x % 16) ∷ []) (x ∷ [])))
    by true b p q = (omega arith, (letter_printed x (ltb-true 0 (escape_letter x) p), tt))
    by false true p q = (omega arith, (omega arith, (omega arith, (omega arith, (digit_printed (x / 16), (digit_printed (x % 16), tt))))))
    by false false p q = (ltb-false x 32 q, tt)

string_printed : (s : List ℕ) → ArePrinted (escape s)
string_printed [] = tt
string_printed (x ∷ s) = both_printed (escape_byte x) (escape s) (byte_printed x) (string_printed s)

quoted_printed : (s : List ℕ) → ArePrinted (quoted s)
quoted_printed s = (omega arith, both_printed (escape s) (34 ∷ []) (string_printed s) (omega arith, tt))

-- ---- numbers

both_true : (a b : Bool) → (a && b) ≡ true → (a ≡ true) × (b ≡ true)
both_true true b h = (refl, h)
both_true false b h = absurd cc

digits_printed : (ds : List ℕ) → list_all is_ascii_digit ds ≡ true → ArePrinted ds
digits_printed [] h = tt
digits_printed (d ∷ ds) h =
    let both = both_true (is_ascii_digit d) (list_all is_ascii_digit ds) h in
    let digit = both.0 in
    (printed d digit, digits_printed ds both.1)
  where
    printed : (d : ℕ) → is_ascii_digit d ≡ true → 32 ≤ d
    printed d h = grind (arith, nat_tests)

number_printed : (n : Num) → IsWholeNumber n → ArePrinted (number_text n)
number_printed (json.unsigned n) h = digits_printed (decimal n) (digits_decimal decimal_digits n h)
number_printed (json.negative (pos n)) h = absurd h
number_printed (json.negative (negsuc n)) h = (omega arith, digits_printed (decimal (suc n)) (digits_decimal decimal_digits (suc n) (omega arith)))
number_printed (json.float x) h = absurd h

-- ---- the text

comma_printed : (later : Bool) → ArePrinted (comma_if later)
comma_printed true = (omega arith, tt)
comma_printed false = tt

mutual
  pub text_printed : (d : Data) → IsPlain d → ArePrinted (compact_text d)
  text_printed json.null h = (omega arith, (omega arith, (omega arith, (omega arith, tt))))
  text_printed (json.boolean true) h = (omega arith, (omega arith, (omega arith, (omega arith, tt))))
  text_printed (json.boolean false) h = (omega arith, (omega arith, (omega arith, (omega arith, (omega arith, tt)))))
  text_printed (json.number n) h = number_printed n h
  text_printed (json.string s) h = quoted_printed s
  text_printed (json.array ds) h = (omega arith, items_printed false ds h)
  text_printed (json.object ms) h = (omega arith, members_printed false ms h)

  items_printed : (later : Bool) (ds : Items) → ArePlainItems ds → ArePrinted (items_text later ds)
  items_printed later json.no_items h = (omega arith, tt)
  items_printed later (json.item d ds) h =
      both_printed (comma_if later) (compact_text d ++ items_text true ds) (comma_printed later) (both_printed (compact_text d) (items_text true ds) (text_printed d h.0) (items_printed true ds h.1))

  members_printed : (later : Bool) (ms : Members) → ArePlainMembers ms → ArePrinted (members_text later ms)
  members_printed later json.no_members h = (omega arith, tt)
  members_printed later (json.member k d ms) h =
      both_printed (comma_if later) (quoted k ++ 58 ∷ (compact_text d ++ members_text true ms)) (comma_printed later)
      (both_printed (quoted k) (58 ∷ (compact_text d ++ members_text true ms)) (quoted_printed k) (omega arith, both_printed (compact_text d) (members_text true ms) (text_printed d h.0) (members_printed true ms h.2)))

pub no_newline : (bytes : List ℕ) → ArePrinted bytes → All (λ b. b ≡ 10 → ⊥) bytes
no_newline [] h = All-nil (λ b. b ≡ 10 → ⊥)
no_newline (b ∷ bytes) h = let here = h.0 in All-cons (λ b. b ≡ 10 → ⊥) b bytes (λ is. absurd (omega arith)) (no_newline bytes h.1)

pub texts_are_lines : TextsAreLines
texts_are_lines d h = no_newline (compact_text d) (text_printed d h)
