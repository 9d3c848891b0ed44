-- Parts of texts: at the beginning, at the end, anywhere.
use Rattle.std.proofs.Common.{◌≡◌, ℕ, zero, suc, ◌+◌, ◌-◌, ◌≤◌, Bool, true, false, List, [], ◌∷◌, ◌++◌, take, drop, length, refl, sym, ap, ◌∙◌, arith, length-append}
use Rattle.std.specs.Prelude.{◌≢◌, ◌||◌, MatchBool, None}
use Rattle.std.specs.List.{list_any}
use Rattle.std.specs.Str.Pattern.{FindsText, FindsTextPrefix, FindsTextSuffix, HasMatch, HasPrefixMatch, HasSuffixMatch}
use Rattle.std.proofs.lemmas.Slice.Eq.{bytes_eq-Decides}
use Rattle.std.proofs.lemmas.List.{take-append-drop}
use Rattle.std.proofs.Math.Seq.{drop-append_seam, take-append_seam}
use Rattle.ent_functions.specs.Texts.{begins_with, ends_with, has_part, tails}

is_false : (b : Bool) → (b ≡ true → ⊥) → b ≡ false
is_false true not = absurd (not refl)
is_false false not = refl

begins : (part rest text : List ℕ) → text ≡ part ++ rest → begins_with part text ≡ true
begins part rest text is =
    (bytes_eq-Decides part (take (length part) text)).1 (sym (ap (λ t. take (length part) t) is ∙ take-append_seam part rest))

begins_not : (part text : List ℕ) → ((rest : List ℕ) → text ≢ part ++ rest) → begins_with part text ≡ false
begins_not part text lacks = is_false (begins_with part text) (λ same.
    lacks (drop (length part) text)
    (sym (take-append-drop (length part) text)
    ∙ ap (λ t. t ++ drop (length part) text) (sym ((bytes_eq-Decides part (take (length part) text)).0 same))))

pub begins_is : (part text : List ℕ) (answer : Bool) → MatchBool answer (HasPrefixMatch (FindsTextPrefix part) text) (FindsTextPrefix part text None) → answer ≡ begins_with part text
begins_is part text true cases = sym (begins part (drop cases.0 text) text cases.1.1)
begins_is part text false cases = sym (begins_not part text cases)

end_of : (front part text : List ℕ) → text ≡ front ++ part → drop (length text - length part) text ≡ part
end_of front part text is =
    let long : length text ≡ length front + length part = ap length is ∙ length-append front part in
    let place : length text - length part ≡ length front = omega arith in
    ap (λ n. drop n text) place ∙ ap (λ t. drop (length front) t) is ∙ drop-append_seam front part

pub ends_is : (part text : List ℕ) (answer : Bool) → MatchBool answer (HasSuffixMatch (FindsTextSuffix part) text) (FindsTextSuffix part text None) → answer ≡ ends_with part text
ends_is part text true cases =
    sym ((bytes_eq-Decides part (drop (length text - length part) text)).1 (sym (end_of (take (length text - cases.0) text) part text cases.1.1)))
ends_is part text false cases = sym (is_false (ends_with part text) (λ same.
    cases (take (length text - length part) text)
    (sym (take-append-drop (length text - length part) text)
    ∙ ap (λ t. take (length text - length part) text ++ t) (sym ((bytes_eq-Decides part (drop (length text - length part) text)).0 same)))))

or_left : (a b : Bool) → a ≡ true → (a || b) ≡ true
or_left true b is = refl
or_left false b is = absurd (cc)

or_right : (a b : Bool) → b ≡ true → (a || b) ≡ true
or_right true b is = refl
or_right false b is = is

neither : (a b : Bool) → a ≡ false → b ≡ false → (a || b) ≡ false
neither true b is _ = absurd (cc)
neither false b is also = also

some_tail : (p : List ℕ → Bool) (text : List ℕ) (i : ℕ) → p (drop i text) ≡ true → list_any p (tails text) ≡ true
some_tail p [] zero is = or_left (p []) false is
some_tail p [] (suc i) is = or_left (p []) false is
some_tail p (b ∷ text) zero is = or_left (p (b ∷ text)) (list_any p (tails text)) is
some_tail p (b ∷ text) (suc i) is = or_right (p (b ∷ text)) (list_any p (tails text)) (some_tail p text i is)

no_tail : (p : List ℕ → Bool) (text : List ℕ) → ((i : ℕ) → i ≤ length text → p (drop i text) ≡ false) → list_any p (tails text) ≡ false
no_tail p [] none = neither (p []) false (none 0 (omega arith)) refl
no_tail p (b ∷ text) none =
    neither (p (b ∷ text)) (list_any p (tails text)) (none 0 (omega arith)) (no_tail p text (λ i below. none (suc i) (omega arith)))

pub has_part_is : (part text : List ℕ) (answer : Bool) → MatchBool answer (HasMatch (FindsText part) text) (FindsText part text None) → answer ≡ has_part part text
has_part_is part text true cases =
    let i = cases.0 in
    let at = cases.2.1 in
    sym (some_tail (λ tail. begins_with part tail) text i (begins part (drop cases.1 text) (drop i text) at.split))
has_part_is part text false cases =
    sym (no_tail (λ tail. begins_with part tail) text (λ i below. begins_not part (drop i text) (cases i below)))
