-- A text has one way to be lines and a rest.
use Rattle.std.proofs.Common.{◌≡◌, ℕ, List, [], ◌∷◌, ◌++◌, All, refl, sym, ap, ◌∙◌, append_assoc}
use Rattle.std.proofs.lemmas.List.Elements.{All-head, All-tail}
use Rattle.std.specs.List.{flat_map}
use Rattle.std.proofs.lemmas.List.Concat.{flat_map-cons}
use Rattle.ent_wire.specs.Lines.{NoNewline, ended, Splits}

abbrev Same : List ℕ → List ℕ → List ℕ → List ℕ → Type 0
Same a b x y = (a ≡ b) × (x ≡ y)

same_head : (c : ℕ) (a b x y : List ℕ) → Same a b x y → Same (c ∷ a) (c ∷ b) x y
same_head c a b x y p = (ap (λ (l : List ℕ). c ∷ l) p.0, p.1)

-- the first newline is where it is
same_line : (a b x y : List ℕ) → NoNewline a → NoNewline b → a ++ 10 ∷ x ≡ b ++ 10 ∷ y → Same a b x y
same_line [] [] x y p q e = (refl, cc)
same_line [] (c ∷ b) x y p q e = let c-is : c ≡ 10 = cc in absurd (All-head (λ n. n ≡ 10 → ⊥) c b q c-is)
same_line (c ∷ a) [] x y p q e = let c-is : c ≡ 10 = cc in absurd (All-head (λ n. n ≡ 10 → ⊥) c a p c-is)
same_line (c ∷ a) (d ∷ b) x y p q e =
    let heads : c ≡ d = cc in
    let tails : a ++ 10 ∷ x ≡ b ++ 10 ∷ y = cc in
    let rest = same_line a b x y (All-tail (λ n. n ≡ 10 → ⊥) c a p) (All-tail (λ n. n ≡ 10 → ⊥) d b q) tails in
    (ap (λ (n : ℕ). n ∷ a) heads ∙ ap (λ (l : List ℕ). d ∷ l) rest.0, rest.1)

-- a text with a newline is no rest
no_line : (a b x : List ℕ) → NoNewline a → a ≡ b ++ 10 ∷ x → ⊥
no_line [] [] x p e = cc
no_line [] (d ∷ b) x p e = cc
no_line (c ∷ a) [] x p e = let c-is : c ≡ 10 = cc in All-head (λ n. n ≡ 10 → ⊥) c a p c-is
no_line (c ∷ a) (d ∷ b) x p e = let tails : a ≡ b ++ 10 ∷ x = cc in no_line a b x (All-tail (λ n. n ≡ 10 → ⊥) c a p) tails

first_of : (l : List ℕ) (ls : List (List ℕ)) (rest : List ℕ) → flat_map ended (l ∷ ls) ++ rest ≡ l ++ 10 ∷ (flat_map ended ls ++ rest)
first_of l ls rest = ap (λ (t : List ℕ). t ++ rest) (flat_map-cons ended l ls) ∙ append_assoc (ended l) (flat_map ended ls) rest ∙ append_assoc l (10 ∷ []) (flat_map ended ls ++ rest)

same_lines : (ls ms : List (List ℕ)) (r s : List ℕ) → All NoNewline ls → All NoNewline ms → NoNewline r → NoNewline s → flat_map ended ls ++ r ≡ flat_map ended ms ++ s → (ls ≡ ms) × (r ≡ s)
same_lines [] [] r s p q u v e = (refl, e)
same_lines [] (m ∷ ms) r s p q u v e = absurd (no_line r m (flat_map ended ms ++ s) u (e ∙ first_of m ms s))
same_lines (l ∷ ls) [] r s p q u v e = absurd (no_line s l (flat_map ended ls ++ r) v (sym e ∙ first_of l ls r))
same_lines (l ∷ ls) (m ∷ ms) r s p q u v e =
    let one = same_line l m (flat_map ended ls ++ r) (flat_map ended ms ++ s) (All-head NoNewline l ls p) (All-head NoNewline m ms q) (sym (first_of l ls r) ∙ e ∙ first_of m ms s) in
    let more = same_lines ls ms r s (All-tail NoNewline l ls p) (All-tail NoNewline m ms q) u v one.1 in
    (ap (λ (x : List ℕ). x ∷ ls) one.0 ∙ ap (λ (xs : List (List ℕ)). m ∷ xs) more.0, more.1)

pub split_once : (text : List ℕ) (ls ms : List (List ℕ)) (r s : List ℕ) → Splits text ls r → Splits text ms s → (ls ≡ ms) × (r ≡ s)
split_once text ls ms r s p q = same_lines ls ms r s p.each q.each p.open_end q.open_end (sym p.whole ∙ q.whole)
