-- The text of numbers with a point between each two.
use Rattle.std.proofs.Common.{◌≡◌, ℕ, suc, ◌<◌, ◌≤◌, ◌^◌, false, ◌||◌, List, [], ◌∷◌, ◌++◌, Result, Ok, Err, OnOk, length, length-append, get_or, take, take_at, decimal, IsUtf8, refl, sym, ap, ◌∙◌, arith, append_assoc, append-nil}
use Rattle.std.proofs.lemmas.Bool.{le-ltb, ne_eqb, or_parts}
use Rattle.std.proofs.lemmas.Fmt.{IsAscii-decimal, decimal_is_IsNumeral}
use Rattle.std.proofs.lemmas.List.{take-take}
use Rattle.std.proofs.lemmas.Str.{IsUtf8-append, IsUtf8-from_ascii, IsUtf8-nil}
use Rattle.std.proofs.lemmas.Str.Parse.{digit_at}
use Rattle.std.specs.List.{list_any}
use Rattle.json.specs.Print.{escape}
use Rattle.json.specs.Run.{is_stop}
use Rattle.json.proofs.Printed.Utf8.{IsUtf8-are_ascii}
use Rattle.ent_json.proofs.PlainLemmas.{no_stop}
use Rattle.ent_json.specs.Dotted.{dotted}
use Rattle.ent_json.specs.proofs_only.Written.{others_text}

-- the first number, and those behind it
pub first_dotted : (n : ℕ) (ns : List ℕ) → dotted (n ∷ ns) ≡ decimal n ++ others_text ns
first_dotted n [] = sym (append-nil (decimal n))
first_dotted n (m ∷ ns) = ap (λ t. decimal n ++ 46 ∷ t) (first_dotted m ns)

-- ---- which bytes it has

abbrev AreSmall : List ℕ → Type 0
AreSmall ns = (k : ℕ) → get_or ns k 0 < 2 ^ 64

others_small : (n : ℕ) (ns : List ℕ) → AreSmall (n ∷ ns) → AreSmall ns
others_small n ns small k = small (suc k)

others_utf8 : (ns : List ℕ) → AreSmall ns → IsUtf8 (others_text ns)
others_utf8 [] small = IsUtf8-nil
others_utf8 (n ∷ ns) small =
    IsUtf8-append (46 ∷ []) (decimal n ++ others_text ns) (IsUtf8-are_ascii (46 ∷ []) refl)
    (IsUtf8-append (decimal n) (others_text ns) (IsUtf8-from_ascii _ (IsAscii-decimal n (small 0))) (others_utf8 ns (others_small n ns small)))

pub dotted_utf8 : (ns : List ℕ) → AreSmall ns → IsUtf8 (dotted ns)
dotted_utf8 [] small = IsUtf8-nil
dotted_utf8 (n ∷ ns) small =
    rw (first_dotted n ns) (IsUtf8-append (decimal n) (others_text ns) (IsUtf8-from_ascii _ (IsAscii-decimal n (small 0))) (others_utf8 ns (others_small n ns small)))

digit_is_plain : (x : ℕ) → 48 ≤ x → x ≤ 57 → is_stop x ≡ false
digit_is_plain x low high =
    let quote = ne_eqb x 34 (λ e. omega (arith, low)) in
    let backslash = ne_eqb x 92 (λ e. omega (arith, high)) in
    let control = le-ltb x 32 (omega (arith, low)) in
    λ i. (quote i || backslash i) || control i

digits_are_plain : (ds : List ℕ) → ((i : ℕ) → i < length ds → (48 ≤ get_or ds i 0) × (get_or ds i 0 ≤ 57)) → list_any is_stop ds ≡ false
digits_are_plain [] each = refl
digits_are_plain (d ∷ ds) each =
    let first = each 0 (omega arith) in
    rw (digit_is_plain d first.0 first.1) (digits_are_plain ds (λ i within. each (suc i) (omega (arith, within))))

decimal_is_plain : (n : ℕ) → n < 2 ^ 64 → list_any is_stop (decimal n) ≡ false
decimal_is_plain n small = digits_are_plain (decimal n) (λ i within. digit_at _ i (decimal_is_IsNumeral n small).0.1 within)

both_plain : (xs ys : List ℕ) → list_any is_stop xs ≡ false → list_any is_stop ys ≡ false → list_any is_stop (xs ++ ys) ≡ false
both_plain [] ys h k = k
both_plain (x ∷ xs) ys h k =
    let parts = or_parts (is_stop x) (list_any is_stop xs) h in
    ap (λ b. b || list_any is_stop (xs ++ ys)) parts.0 ∙ both_plain xs ys parts.1 k

others_are_plain : (ns : List ℕ) → AreSmall ns → list_any is_stop (others_text ns) ≡ false
others_are_plain [] small = refl
others_are_plain (n ∷ ns) small = both_plain (decimal n) (others_text ns) (decimal_is_plain n (small 0)) (others_are_plain ns (others_small n ns small))

-- none of them needs an escape
pub dotted_is_plain : (ns : List ℕ) → AreSmall ns → escape (dotted ns) ≡ dotted ns
dotted_is_plain [] small = refl
dotted_is_plain (n ∷ ns) small =
    no_stop (dotted (n ∷ ns))
    (ap (list_any is_stop) (first_dotted n ns) ∙ both_plain (decimal n) (others_text ns) (decimal_is_plain n (small 0)) (others_are_plain ns (others_small n ns small)))

-- ---- how it is put behind other bytes

-- the first number, and then those behind it
pub all_put : {E : Type 0} (r : Result (Unit {0}) E) (old mid new : List ℕ) (n : ℕ) (ns numbers : List ℕ) → numbers ≡ n ∷ ns → mid ≡ old ++ decimal n
    → OnOk r (new ≡ mid ++ others_text ns) → OnOk r (new ≡ old ++ dotted numbers)
all_put (Ok u) old mid new n ns numbers whole first others =
    others ∙ ap (λ l. l ++ others_text ns) first ∙ append_assoc old (decimal n) (others_text ns) ∙ ap (λ l. old ++ l) (sym (first_dotted n ns))
    ∙ ap (λ l. old ++ dotted l) (sym whole)
all_put (Err e) old mid new n ns numbers whole first others = others

-- what stands in front stays there
pub front_kept : (old mid new more : List ℕ) → mid ≡ old ++ more → take (length mid) new ≡ mid → take (length old) new ≡ old
front_kept old mid new more grown kept =
    let within : length old ≤ length mid = omega (arith, ap length grown, length-append old more) in
    sym (take-take (length old) (length mid) new within) ∙ ap (take (length old)) (kept ∙ grown) ∙ take_at old more (length old) refl
