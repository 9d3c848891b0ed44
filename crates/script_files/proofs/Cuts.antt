-- A text cut at a mark.
use Rattle.std.proofs.Common.{◌≡◌, ◌<◌, ◌+◌, ◌-◌, ◌++◌, ℕ, zero, suc, List, [], ◌∷◌, length, take, drop, map, Bool, true, false, cond, Option, Some, None, option_map, refl, sym, ap, ◌∙◌, arith, get_or, append_assoc, append-nil, subst}
use Rattle.std.specs.List.{onto_first}
use Rattle.std.proofs.lemmas.List.{drop_more, map_push, take_more}
use Rattle.script_files.specs.Cut.{begins, cut, cut_behind, in_front, split_once}

-- the parts that a first cut and the cuts behind it make
abbrev pub parts_by : List ℕ → List ℕ → Option (List ℕ × List ℕ) → List (List ℕ)
parts_by mark text None = text ∷ []
parts_by mark text (Some parts) = parts.0 ∷ cut mark parts.1

-- passing over bytes is letting them fall
pub cut_behind-drop : (mark : List ℕ) (skip : ℕ) (text : List ℕ) → cut_behind mark skip text ≡ cut mark (drop skip text)
cut_behind-drop mark zero [] = refl
cut_behind-drop mark (suc skip) [] = refl
cut_behind-drop mark zero (byte ∷ text) = refl
cut_behind-drop mark (suc skip) (byte ∷ text) = cut_behind-drop mark skip text

onto : (mark : List ℕ) (byte : ℕ) (text : List ℕ) (found : Option (List ℕ × List ℕ))
    → onto_first byte (parts_by mark text found) ≡ parts_by mark (byte ∷ text) (option_map (in_front byte) found)
onto mark byte text None = refl
onto mark byte text (Some parts) = refl

suc-minus : (n : ℕ) → suc n - 1 ≡ n
suc-minus n = omega arith

at_first : (mark : List ℕ) (byte : ℕ) (text : List ℕ) (b : Bool) → 0 < length mark → cut mark text ≡ parts_by mark text (split_once mark text)
    → cond b ([] ∷ cut_behind mark (length mark - 1) text) (onto_first byte (cut mark text))
    ≡ parts_by mark (byte ∷ text) (cond b (Some ([], drop (length mark) (byte ∷ text))) (option_map (in_front byte) (split_once mark text)))
at_first [] byte text b some rest = absurd (omega (arith, some))
at_first (m ∷ mark) byte text true some rest =
    ap (λ n. [] ∷ cut_behind (m ∷ mark) n text) (suc-minus (length mark)) ∙ ap (λ parts. [] ∷ parts) (cut_behind-drop (m ∷ mark) (length mark) text)
at_first (m ∷ mark) byte text false some rest = ap (onto_first byte) rest ∙ onto (m ∷ mark) byte text (split_once (m ∷ mark) text)

-- a text is cut at the first place of a mark, and then behind it
pub cut-first : (mark text : List ℕ) → 0 < length mark → cut mark text ≡ parts_by mark text (split_once mark text)
cut-first mark [] some = refl
cut-first mark (byte ∷ text) some = at_first mark byte text (begins mark (byte ∷ text)) some (cut-first mark text some)

-- so many bytes in front of the first of two texts
abbrev pub front_of : List ℕ → List ℕ × List ℕ → List ℕ × List ℕ
front_of front parts = (front ++ parts.0, parts.1)

-- what is known after the mark wasn't found at the first places
abbrev pub IsSought : List ℕ → List ℕ → ℕ → Type 0
IsSought mark text i = option_map (front_of (take i text)) (split_once mark (drop i text)) ≡ split_once mark text

one_more : (front : List ℕ) (byte : ℕ) (found : Option (List ℕ × List ℕ))
    → option_map (front_of (front ++ byte ∷ [])) found ≡ option_map (front_of front) (option_map (in_front byte) found)
one_more front byte None = refl
one_more front byte (Some parts) = ap (λ f. Some (f, parts.1)) (append_assoc front (byte ∷ []) parts.0)

step_no : (mark : List ℕ) (byte : ℕ) (text : List ℕ) → begins mark (byte ∷ text) ≡ false
    → split_once mark (byte ∷ text) ≡ option_map (in_front byte) (split_once mark text)
step_no mark byte text differs = rw differs refl

step_yes : (mark : List ℕ) (byte : ℕ) (text : List ℕ) → begins mark (byte ∷ text) ≡ true
    → split_once mark (byte ∷ text) ≡ Some ([], drop (length mark) (byte ∷ text))
step_yes mark byte text stands = rw stands refl

-- the mark doesn't stand at this place either
pub sought_more : (mark text : List ℕ) (i : ℕ) → i < length text → begins mark (drop i text) ≡ false → IsSought mark text i → IsSought mark text (i + 1)
sought_more mark text i lt differs so =
    let here = drop_more text i 0 lt in
    let step = step_no mark (get_or text i 0) (drop (i + 1) text) (subst (λ t. begins mark t ≡ false) here differs) in
    ap (λ f. option_map (front_of f) (split_once mark (drop (i + 1) text))) (take_more text i 0 lt)
    ∙ one_more (take i text) (get_or text i 0) (split_once mark (drop (i + 1) text))
    ∙ ap (option_map (front_of (take i text))) (sym (ap (split_once mark) here ∙ step))
    ∙ so

-- the mark stands at this place
pub found_here : (mark text : List ℕ) (i : ℕ) (behind : List ℕ) → i < length text → begins mark (drop i text) ≡ true → behind ≡ drop (length mark) (drop i text)
    → IsSought mark text i → Some (take i text, behind) ≡ split_once mark text
found_here mark text i behind lt stands is so =
    let here = drop_more text i 0 lt in
    let step = step_yes mark (get_or text i 0) (drop (i + 1) text) (subst (λ t. begins mark t ≡ true) here stands) in
    let found = ap (split_once mark) here ∙ step ∙ ap (λ t. Some ([], drop (length mark) t)) (sym here) ∙ ap (λ b. Some ([], b)) (sym is) in
    ap (λ f. Some (f, behind)) (sym (append-nil (take i text)))
    ∙ sym (ap (option_map (front_of (take i text))) found)
    ∙ so

-- one more part
pub cut_more : {P : Type 0} (now : P → List ℕ) (old : List P) (front : P) (mark text rest behind : List ℕ) → 0 < length mark
    → Some (now front, behind) ≡ split_once mark rest
    → map now old ++ cut mark rest ≡ cut mark text → map now (old ++ front ∷ []) ++ cut mark behind ≡ cut mark text
cut_more now old front mark text rest behind some found so =
    ap (λ parts. parts ++ cut mark behind) (map_push now old front) ∙ append_assoc (map now old) (now front ∷ []) (cut mark behind)
    ∙ ap (λ parts. map now old ++ parts) (ap (parts_by mark rest) found ∙ sym (cut-first mark rest some)) ∙ so

-- the last part
pub cut_all : {P : Type 0} (now : P → List ℕ) (old : List P) (last : P) (mark text : List ℕ) → 0 < length mark
    → None ≡ split_once mark (now last) → map now old ++ cut mark (now last) ≡ cut mark text → map now (old ++ last ∷ []) ≡ cut mark text
cut_all now old last mark text some found so =
    map_push now old last ∙ ap (λ parts. map now old ++ parts) (ap (parts_by mark (now last)) found ∙ sym (cut-first mark (now last) some)) ∙ so
