-- What stands in a string of a UTF-8 text is UTF-8.
use Rattle.std.proofs.Common.{◌≡◌, ℕ, suc, ◌<◌, ◌≤◌, ◌+◌, ◌*◌, List, [], ◌∷◌, ◌++◌, length, take, drop, get_or, Bool, true, false, cond, ◌&&◌, ◌||◌, ◌==◌, nat_lt, nat_le, Option, Some, None, option_and_then, refl, sym, ap, subst, ◌∙◌, arith, append_assoc, append-nil, ltb-true, lt-ltb, IsUtf8}
use Rattle.std.specs.Char.{IsScalar, digit_value, encode_utf8, is_digit}
use Rattle.std.proofs.lemmas.Bool.{eqb-true, le-ltb, le-leb, leb-false, leb-true, ltb-false}
use lib.Utf8.{low_scalar}
use Rattle.std.proofs.lemmas.Bool.Decides.{nat_tests}
use Rattle.std.proofs.lemmas.Str.{IsCharBoundary-after_ascii, IsCharBoundary-before_ascii, IsUtf8-append, IsUtf8-drop, IsUtf8-encode, IsUtf8-take, encode_ascii}
use Rattle.json.specs.Text.{after_backslash, after_high, after_u, code_unit, content, is_low_surrogate, plain, prepend, short_escape, surrogate_pair}

-- ---- where a text is cut

-- a text as far as a byte of ASCII
before_ascii : (front : List ℕ) (x : ℕ) (xs : List ℕ) → x < 128 → IsUtf8 (front ++ x ∷ xs) → IsUtf8 front
before_ascii front x xs small u =
    subst IsUtf8 (taken front (x ∷ xs)) (IsUtf8-take (front ++ x ∷ xs) (length front) u (IsCharBoundary-before_ascii (front ++ x ∷ xs) (length front) (longer front x xs) (omega (arith, found front x xs))))
  where
    taken : (front rest : List ℕ) → take (length front) (front ++ rest) ≡ front
    taken [] rest = refl
    taken (y ∷ front) rest = ap (λ l. y ∷ l) (taken front rest)

    longer : (front : List ℕ) (x : ℕ) (xs : List ℕ) → length front < length (front ++ x ∷ xs)
    longer [] x xs = omega arith
    longer (y ∷ front) x xs = let more = longer front x xs in omega arith

    found : (front : List ℕ) (x : ℕ) (xs : List ℕ) → get_or (front ++ x ∷ xs) (length front) 0 ≡ x
    found [] x xs = refl
    found (y ∷ front) x xs = found front x xs

-- and behind it
pub after_ascii : (front : List ℕ) (x : ℕ) (xs : List ℕ) → x < 128 → IsUtf8 (front ++ x ∷ xs) → IsUtf8 xs
after_ascii front x xs small u =
    let next : length front + 1 ≡ suc (length front) = omega arith in
    subst IsUtf8 (ap (λ n. drop n (front ++ x ∷ xs)) next ∙ dropped front x xs)
    (IsUtf8-drop (front ++ x ∷ xs) (length front + 1) u (IsCharBoundary-after_ascii (front ++ x ∷ xs) (length front) u (longer front x xs) (omega (arith, found front x xs))))
  where
    dropped : (front : List ℕ) (x : ℕ) (xs : List ℕ) → drop (suc (length front)) (front ++ x ∷ xs) ≡ xs
    dropped [] x xs = refl
    dropped (y ∷ front) x xs = dropped front x xs

    longer : (front : List ℕ) (x : ℕ) (xs : List ℕ) → length front < length (front ++ x ∷ xs)
    longer [] x xs = omega arith
    longer (y ∷ front) x xs = let more = longer front x xs in omega arith

    found : (front : List ℕ) (x : ℕ) (xs : List ℕ) → get_or (front ++ x ∷ xs) (length front) 0 ≡ x
    found [] x xs = refl
    found (y ∷ front) x xs = found front x xs

-- one byte of ASCII
one_ascii : (x : ℕ) → x < 128 → IsUtf8 (x ∷ [])
one_ascii x small = subst IsUtf8 (encode_ascii x small) (IsUtf8-encode x (low_scalar x (omega arith)))

-- ---- the content of a string

-- what some bytes were put in front of
prepended : (bytes : List ℕ) (o : Option (List ℕ)) (s : List ℕ) → prepend bytes o ≡ Some s → (t : List ℕ) × ((o ≡ Some t) × (bytes ++ t ≡ s))
prepended bytes (Some t) s h = let same : bytes ++ t ≡ s = cc in (t, (refl, same))
prepended bytes None s h = absurd cc

found_first : {A : Type 0} (o : Option A) (f : A → Option (List ℕ)) (s : List ℕ) → option_and_then f o ≡ Some s → (x : A) × ((o ≡ Some x) × (f x ≡ Some s))
found_first (Some x) f s h = (x, (refl, h))
found_first None f s h = absurd cc

-- a hexadecimal digit is ASCII
digit_small : (d : ℕ) → is_digit d 16 ≡ true → d < 128
digit_small d h = grind (arith, nat_tests)

-- and four of them make a number of 16 bits
unit_small : (a b c d u : ℕ) → code_unit a b c d ≡ Some u → (d < 128) × (u < 65536)
unfolding code_unit
unit_small a b c d u h = by (is_digit a 16) (is_digit b 16) (is_digit c 16) (is_digit d 16) refl refl refl refl h
  where
    by : (p q r s : Bool) → is_digit a 16 ≡ p → is_digit b 16 ≡ q → is_digit c 16 ≡ r → is_digit d 16 ≡ s
        → cond (p && q && r && s) (Some (digit_value a * 4096 + digit_value b * 256 + digit_value c * 16 + digit_value d)) None ≡ Some u → (d < 128) × (u < 65536)
    by true true true true e f g k h =
        let same : digit_value a * 4096 + digit_value b * 256 + digit_value c * 16 + digit_value d ≡ u = cc in
        let w = ltb-true (digit_value a) 16 e in
        let x = ltb-true (digit_value b) 16 f in
        let y = ltb-true (digit_value c) 16 g in
        let z = ltb-true (digit_value d) 16 k in
        (digit_small d k, omega arith)
    by true true true false e f g k h = absurd cc
    by true true false s e f g k h = absurd cc
    by true false r s e f g k h = absurd cc
    by false q r s e f g k h = absurd cc

-- what a short escape stands for is ASCII, and so is its letter
short_small : (x c : ℕ) → short_escape x ≡ Some c → (x < 128) × (c < 128)
unfolding short_escape
short_small x c h = by (x == 34) (x == 92) (x == 47) (x == 98) (x == 102) (x == 110) (x == 114) (x == 116) refl refl refl refl refl refl refl refl h
  where
    some : (n : ℕ) → n < 128 → x < 128 → ◌≡◌ {A = Option ℕ} (Some n) (Some c) → (x < 128) × (c < 128)
    some n small low h = let same : n ≡ c = cc in (low, omega arith)

    by : (p q r b f n k t : Bool) → (x == 34) ≡ p → (x == 92) ≡ q → (x == 47) ≡ r → (x == 98) ≡ b → (x == 102) ≡ f → (x == 110) ≡ n → (x == 114) ≡ k → (x == 116) ≡ t
        → cond (p || q || r) (Some x) (cond b (Some 8) (cond f (Some 12) (cond n (Some 10) (cond k (Some 13) (cond t (Some 9) None))))) ≡ Some c → (x < 128) × (c < 128)
    by true q r b f n k t e0 e1 e2 e3 e4 e5 e6 e7 h = let is = eqb-true x 34 e0 in some x (omega arith) (omega arith) h
    by false true r b f n k t e0 e1 e2 e3 e4 e5 e6 e7 h = let is = eqb-true x 92 e1 in some x (omega arith) (omega arith) h
    by false false true b f n k t e0 e1 e2 e3 e4 e5 e6 e7 h = let is = eqb-true x 47 e2 in some x (omega arith) (omega arith) h
    by false false false true f n k t e0 e1 e2 e3 e4 e5 e6 e7 h = let is = eqb-true x 98 e3 in some 8 (omega arith) (omega arith) h
    by false false false false true n k t e0 e1 e2 e3 e4 e5 e6 e7 h = let is = eqb-true x 102 e4 in some 12 (omega arith) (omega arith) h
    by false false false false false true k t e0 e1 e2 e3 e4 e5 e6 e7 h = let is = eqb-true x 110 e5 in some 10 (omega arith) (omega arith) h
    by false false false false false false true t e0 e1 e2 e3 e4 e5 e6 e7 h = let is = eqb-true x 114 e6 in some 13 (omega arith) (omega arith) h
    by false false false false false false false true e0 e1 e2 e3 e4 e5 e6 e7 h = let is = eqb-true x 116 e7 in some 9 (omega arith) (omega arith) h
    by false false false false false false false false e0 e1 e2 e3 e4 e5 e6 e7 h = absurd cc

-- a character behind the surrogates
wide_scalar : (c : ℕ) → 0xe000 ≤ c → c < 0x110000 → IsScalar c
wide_scalar c from to = rw (le-ltb c 55296 (omega arith), le-leb 57344 c from, lt-ltb c 1114112 to) refl

high_scalar : (c : ℕ) → c < 65536 → 0xe000 ≤ c → IsScalar c
high_scalar c small high = wide_scalar c high (omega arith)

-- a character, and what follows it
char : (c : ℕ) (xs s : List ℕ) → IsScalar c → ((t : List ℕ) → content plain xs ≡ Some t → IsUtf8 t) → prepend (encode_utf8 c) (content plain xs) ≡ Some s → IsUtf8 s
char c xs s scalar more h =
    let one = prepended (encode_utf8 c) (content plain xs) s h in
    subst IsUtf8 one.1.1 (IsUtf8-append (encode_utf8 c) one.0 (IsUtf8-encode c scalar) (more one.0 one.1.0))

mutual
  unfolding content

  -- what stands in a string, behind bytes of it that were passed
  pub plain_is : (front xs s : List ℕ) → IsUtf8 (front ++ xs) → content plain xs ≡ Some s → IsUtf8 (front ++ s)
  plain_is front [] s u h = absurd cc
  plain_is front (x ∷ xs) s u h =
      by (x == 34) (x == 92) (nat_lt x 32) refl refl
      (λ v g. backslash_is xs s v g) (λ t g. plain_is (front ++ x ∷ []) xs t (subst IsUtf8 (sym (append_assoc front (x ∷ []) xs)) u) g) h
    where
      by : (a b c : Bool) → (x == 34) ≡ a → (x == 92) ≡ b → (IsUtf8 xs → content after_backslash xs ≡ Some s → IsUtf8 s)
          → ((t : List ℕ) → content plain xs ≡ Some t → IsUtf8 ((front ++ x ∷ []) ++ t))
          → cond a (Some []) (cond b (content after_backslash xs) (cond c None (prepend (x ∷ []) (content plain xs)))) ≡ Some s → IsUtf8 (front ++ s)
      by true b c e f escaped more h =
          let is = eqb-true x 34 e in
          let same : [] ≡ s = cc in
          subst (λ t. IsUtf8 (front ++ t)) same (subst IsUtf8 (sym (append-nil front)) (before_ascii front x xs (omega arith) u))
      by false true c e f escaped more h =
          let is = eqb-true x 92 f in
          IsUtf8-append front s (before_ascii front x xs (omega arith) u) (escaped (after_ascii front x xs (omega arith) u) h)
      by false false true e f escaped more h = absurd cc
      by false false false e f escaped more h =
          let one = prepended (x ∷ []) (content plain xs) s h in
          subst IsUtf8 (append_assoc front (x ∷ []) one.0 ∙ ap (λ t. front ++ t) one.1.1) (more one.0 one.1.0)

  backslash_is : (xs s : List ℕ) → IsUtf8 xs → content after_backslash xs ≡ Some s → IsUtf8 s
  backslash_is [] s u h = absurd cc
  backslash_is (x ∷ xs) s u h = by (x == 117) refl (λ v g. unicode_is xs s v g) (λ t v g. plain_is [] xs t v g) h
    where
      by : (b : Bool) → (x == 117) ≡ b → (IsUtf8 xs → content after_u xs ≡ Some s → IsUtf8 s)
          → ((t : List ℕ) → IsUtf8 xs → content plain xs ≡ Some t → IsUtf8 t)
          → cond b (content after_u xs) (option_and_then (λ c. prepend (c ∷ []) (content plain xs)) (short_escape x)) ≡ Some s → IsUtf8 s
      by true e four more h = let is = eqb-true x 117 e in four (after_ascii [] x xs (omega arith) u) h
      by false e four more h =
          let one = found_first (short_escape x) (λ c. prepend (c ∷ []) (content plain xs)) s h in
          let small = short_small x one.0 one.1.0 in
          let rest = prepended (one.0 ∷ []) (content plain xs) s one.1.1 in
          subst IsUtf8 rest.1.1 (IsUtf8-append (one.0 ∷ []) rest.0 (one_ascii one.0 small.1) (more rest.0 (after_ascii [] x xs small.0 u) rest.1.0))

  unicode_is : (xs s : List ℕ) → IsUtf8 xs → content after_u xs ≡ Some s → IsUtf8 s
  unicode_is [] s u h = absurd cc
  unicode_is (a ∷ []) s u h = absurd cc
  unicode_is (a ∷ b ∷ []) s u h = absurd cc
  unicode_is (a ∷ b ∷ c ∷ []) s u h = absurd cc
  unicode_is (a ∷ b ∷ c ∷ d ∷ xs) s u h =
      let one = found_first (code_unit a b c d) _ s h in
      let small = unit_small a b c d one.0 one.1.0 in
      let rest = after_ascii (a ∷ b ∷ c ∷ []) d xs small.0 u in
      by one.0 small.1 (nat_le 0xd800 one.0) (nat_lt one.0 0xdc00) (nat_le 0xdc00 one.0) (nat_lt one.0 0xe000) refl refl refl refl
      (λ low high g. high_is one.0 xs s low high rest g) (λ t g. plain_is [] xs t rest g) one.1.1
    where
      by : (unit : ℕ) → unit < 65536 → (p q r t : Bool) → nat_le 0xd800 unit ≡ p → nat_lt unit 0xdc00 ≡ q → nat_le 0xdc00 unit ≡ r → nat_lt unit 0xe000 ≡ t
          → (0xd800 ≤ unit → unit < 0xdc00 → content (after_high unit) xs ≡ Some s → IsUtf8 s)
          → ((t : List ℕ) → content plain xs ≡ Some t → IsUtf8 t)
          → cond (p && q) (content (after_high unit) xs) (cond (r && t) None (prepend (encode_utf8 unit) (content plain xs))) ≡ Some s → IsUtf8 s
      by unit small true true r t e f g k pair more h = pair (leb-true 0xd800 unit e) (ltb-true unit 0xdc00 f) h
      by unit small true false true true e f g k pair more h = absurd cc
      by unit small true false true false e f g k pair more h =
          char unit xs s (high_scalar unit small (ltb-false unit 0xe000 k)) more h
      by unit small true false false t e f g k pair more h = absurd (let p = ltb-false unit 0xdc00 f in let q = leb-false 0xdc00 unit g in omega arith)
      by unit small false q true true e f g k pair more h = absurd cc
      by unit small false q true false e f g k pair more h = char unit xs s (high_scalar unit small (ltb-false unit 0xe000 k)) more h
      by unit small false q false t e f g k pair more h = char unit xs s (low_scalar unit (let low = leb-false 0xd800 unit e in omega arith)) more h

  high_is : (high : ℕ) (xs s : List ℕ) → 0xd800 ≤ high → high < 0xdc00 → IsUtf8 xs → content (after_high high) xs ≡ Some s → IsUtf8 s
  high_is high [] s low up u h = absurd cc
  high_is high (a ∷ []) s low up u h = absurd cc
  high_is high (a ∷ b ∷ []) s low up u h = absurd cc
  high_is high (a ∷ b ∷ c ∷ []) s low up u h = absurd cc
  high_is high (a ∷ b ∷ c ∷ d ∷ []) s low up u h = absurd cc
  high_is high (a ∷ b ∷ c ∷ d ∷ e ∷ []) s low up u h = absurd cc
  high_is high (a ∷ b ∷ c ∷ d ∷ e ∷ f ∷ xs) s low up u h =
      by ((a == 92) && (b == 117)) (λ t v g. plain_is [] xs t v g) h
    where
      pair : (unit : ℕ) (p q : Bool) → nat_le 0xdc00 unit ≡ p → nat_lt unit 0xe000 ≡ q → ((t : List ℕ) → content plain xs ≡ Some t → IsUtf8 t)
          → cond (p && q) (prepend (encode_utf8 (surrogate_pair high unit)) (content plain xs)) None ≡ Some s → IsUtf8 s
      pair unit true true e f more h =
          let from = leb-true 0xdc00 unit e in
          let to = ltb-true unit 0xe000 f in
          char (surrogate_pair high unit) xs s (wide_scalar (surrogate_pair high unit) (omega arith) (omega arith)) more h
      pair unit true false e f more h = absurd cc
      pair unit false q e f more h = absurd cc

      by : (b : Bool) → ((t : List ℕ) → IsUtf8 xs → content plain xs ≡ Some t → IsUtf8 t)
          → cond b (option_and_then (λ l. cond (is_low_surrogate l) (prepend (encode_utf8 (surrogate_pair high l)) (content plain xs)) None) (code_unit c d e f)) None ≡ Some s → IsUtf8 s
      by true more h =
          let one = found_first (code_unit c d e f) _ s h in
          let small = unit_small c d e f one.0 one.1.0 in
          pair one.0 (nat_le 0xdc00 one.0) (nat_lt one.0 0xe000) refl refl (λ t g. more t (after_ascii (a ∷ b ∷ c ∷ d ∷ e ∷ []) f xs small.0 u) g) one.1.1
      by false more h = absurd cc
