-- Each reply is one line: no byte of its text is a control character.
use Rattle.std.proofs.Common.{◌≡◌, ℕ, ◌≤◌, ◌<◌, ◌/◌, ◌%◌, pos, negsuc, zero, suc, List, [], ◌∷◌, ◌++◌, Bool, true, false, cond, nat_lt, refl, sym, ap, ◌∙◌, append_assoc, arith}
use Rattle.std.specs.Prelude.{◌&&◌, ◌||◌, ◌==◌, decimal, if◌then◌else◌, nat_le}
use Rattle.std.specs.Char.{digit_char}
use Rattle.std.specs.Fmt.{digit_glyph, digits, digits_onto}
use Rattle.std.specs.List.{AllByRecursion, list_all}
use Rattle.std.proofs.lemmas.Bool.{leb-true, ltb-true, ltb-false}
use Rattle.std.proofs.lemmas.Bool.Decides.{nat_tests}
use Rattle.std.proofs.lemmas.List.Elements.{All-nil, All-cons}
use Rattle.json.specs.Print.{escape, escape_byte, escape_letter, quoted}
use Rattle.serde_json.specs.Data as json
use Rattle.serde_json.specs.Data.{Data, Items, Members, Num}
use Rattle.serde_json.specs.Written.{comma_if, compact_text, items_text, members_text, number_text}
use Rattle.ent_wire.specs.Lines.{IsOneLine, NoNewline, ended}

-- no byte is a control character
abbrev pub ArePrinted : List ℕ → Type 0
ArePrinted = AllByRecursion (λ b. 32 ≤ b)

pub both_printed : (xs ys : List ℕ) → ArePrinted xs → ArePrinted ys → ArePrinted (xs ++ ys)
both_printed [] ys h g = g
both_printed (x ∷ xs) ys h g = (h.0, both_printed xs ys h.1 g)

both_true : (a b : Bool) → (a && b) ≡ true → (a ≡ true) × (b ≡ true)
both_true true b h = (refl, h)
both_true false b h = absurd cc

-- of a word the check computes
pub word_printed : (xs : List ℕ) → list_all (nat_le 32) xs ≡ true → ArePrinted xs
word_printed [] h = tt
word_printed (x ∷ xs) h =
    let both = both_true (nat_le 32 x) (list_all (nat_le 32) xs) h in
    (leb-true 32 x both.0, word_printed xs both.1)

-- ---- strings

letter_printed : (x : ℕ) → 0 < escape_letter x → 32 ≤ escape_letter x
letter_printed x h = by (x == 34) (x == 92) (x == 8) (x == 12) (x == 10) (x == 13) (x == 9) refl refl h
  where
    by : (a b c d e f g : Bool) → (x == 34) ≡ a → (x == 92) ≡ b → 0 < cond (a || b) x (cond c 98 (cond d 102 (cond e 110 (cond f 114 (cond g 116 0)))))
        → 32 ≤ cond (a || b) x (cond c 98 (cond d 102 (cond e 110 (cond f 114 (cond g 116 0)))))
    by true b c d e f g p q h = grind (arith, nat_tests)
    by false true c d e f g p q h = grind (arith, nat_tests)
    by false false true d e f g p q h = omega arith
    by false false false true e f g p q h = omega arith
    by false false false false true f g p q h = omega arith
    by false false false false false true g p q h = omega arith
    by false false false false false false true p q h = omega arith
    by false false false false false false false p q h = absurd (omega arith)

digit_printed : (k : ℕ) → 32 ≤ digit_char k
digit_printed k = grind (arith, nat_tests)

byte_printed : (x : ℕ) → ArePrinted (escape_byte x)
unfolding escape_byte
byte_printed x = by (nat_lt 0 (escape_letter x)) (nat_lt x 32) refl refl
  where
    by : (a b : Bool) → nat_lt 0 (escape_letter x) ≡ a → nat_lt x 32 ≡ b
        → ArePrinted (cond a (92 ∷ escape_letter x ∷ []) (cond b (92 ∷ 117 ∷ 48 ∷ 48 ∷ digit_char (x / 16) ∷ digit_char (x % 16) ∷ []) (x ∷ [])))
    by true b p q = (omega arith, (letter_printed x (ltb-true 0 (escape_letter x) p), tt))
    by false true p q = (omega arith, (omega arith, (omega arith, (omega arith, (digit_printed (x / 16), (digit_printed (x % 16), tt))))))
    by false false p q = (ltb-false x 32 q, tt)

string_printed : (s : List ℕ) → ArePrinted (escape s)
string_printed [] = tt
string_printed (x ∷ s) = both_printed (escape_byte x) (escape s) (byte_printed x) (string_printed s)

quoted_printed : (s : List ℕ) → ArePrinted (quoted s)
quoted_printed s = (omega arith, both_printed (escape s) (34 ∷ []) (string_printed s) (omega arith, tt))

-- ---- numbers

glyph_printed : (d : ℕ) → 32 ≤ digit_glyph false d
glyph_printed d = grind (arith, nat_tests)

digits_printed : (k n : ℕ) (more : List ℕ) → ArePrinted more → ArePrinted (digits_onto k 10 false n more)
digits_printed zero n more h = h
digits_printed (suc k) n more h =
    by (n / 10 == 0) (glyph_printed (n % 10), h) (digits_printed k (n / 10) (digit_glyph false (n % 10) ∷ more) (glyph_printed (n % 10), h))
  where
    by : (b : Bool) → ArePrinted (digit_glyph false (n % 10) ∷ more) → ArePrinted (digits_onto k 10 false (n / 10) (digit_glyph false (n % 10) ∷ more))
        → ArePrinted (if b then digit_glyph false (n % 10) ∷ more else digits_onto k 10 false (n / 10) (digit_glyph false (n % 10) ∷ more))
    by true one rest = one
    by false one rest = rest

pub decimal_printed : (n : ℕ) → ArePrinted (decimal n)
unfolding digits
decimal_printed n = digits_printed 64 n [] tt

number_printed : (n : Num) → ArePrinted (number_text n)
number_printed (json.unsigned n) = decimal_printed n
number_printed (json.negative (pos n)) = decimal_printed n
number_printed (json.negative (negsuc n)) = (omega arith, decimal_printed (suc n))
number_printed (json.float x) = tt

-- ---- the text of a value

comma_printed : (later : Bool) → ArePrinted (comma_if later)
comma_printed true = (omega arith, tt)
comma_printed false = tt

mutual
  pub text_printed : (d : Data) → ArePrinted (compact_text d)
  text_printed json.null = word_printed (compact_text json.null) refl
  text_printed (json.boolean true) = word_printed (compact_text (json.boolean true)) refl
  text_printed (json.boolean false) = word_printed (compact_text (json.boolean false)) refl
  text_printed (json.number n) = number_printed n
  text_printed (json.string s) = quoted_printed s
  text_printed (json.array ds) = (omega arith, items_printed false ds)
  text_printed (json.object ms) = (omega arith, members_printed false ms)

  items_printed : (later : Bool) (ds : Items) → ArePrinted (items_text later ds)
  items_printed later json.no_items = (omega arith, tt)
  items_printed later (json.item d ds) =
      both_printed (comma_if later) (compact_text d ++ items_text true ds) (comma_printed later)
      (both_printed (compact_text d) (items_text true ds) (text_printed d) (items_printed true ds))

  members_printed : (later : Bool) (ms : Members) → ArePrinted (members_text later ms)
  members_printed later json.no_members = (omega arith, tt)
  members_printed later (json.member k d ms) =
      both_printed (comma_if later) (quoted k ++ 58 ∷ (compact_text d ++ members_text true ms)) (comma_printed later)
      (both_printed (quoted k) (58 ∷ (compact_text d ++ members_text true ms)) (quoted_printed k)
      (omega arith, both_printed (compact_text d) (members_text true ms) (text_printed d) (members_printed true ms)))

-- ---- one line

pub no_newline : (bytes : List ℕ) → ArePrinted bytes → NoNewline bytes
no_newline [] h = All-nil (λ b. b ≡ 10 → ⊥)
no_newline (b ∷ bytes) h = let here = h.0 in All-cons (λ b. b ≡ 10 → ⊥) b bytes (λ is. absurd (omega arith)) (no_newline bytes h.1)

-- a line in which no byte is a control character, with its newline
pub record IsPrintedLine (bytes : List ℕ) : Type 0 where
  pub line : List ℕ
  pub printed : ArePrinted line
  pub is : bytes ≡ ended line

pub one_line : (bytes : List ℕ) → IsPrintedLine bytes → IsOneLine bytes
one_line bytes h = (h.line, no_newline h.line h.printed, h.is)

-- with a word before it
pub behind : (xs ys : List ℕ) → ArePrinted xs → IsPrintedLine ys → IsPrintedLine (xs ++ ys)
behind xs ys printed h = record {
  line = xs ++ h.line;
  printed = both_printed xs h.line printed h.printed;
  is = ap (λ zs. xs ++ zs) h.is ∙ sym (append_assoc xs h.line (10 ∷ []));
}
