-- The place of what is told, by which the first of some faults is the least.
use Rattle.std.proofs.Common.{◌≡◌, ℕ, ◌≤◌, ◌<◌, min, [], ◌∷◌, get_or, Bool, true, false, Option, Some, None, nat_le, refl, sym, ap, ◌∙◌, arith}
use Rattle.std.specs.Prelude.{if◌then◌else◌}
use Rattle.std.proofs.lemmas.Bool.{false≢true}
use Rattle.std.proofs.lemmas.Bool.Decides.{nat_tests}
use Rattle.ent_policy.specs.declared.fault.DocFault.{DocFault}
use Rattle.ent_policy.specs.declared.fault.DocFault.TheVariants.{Form, Identifier, Version, Algorithm, Function, Variable, Size, Depth, «Type»}
use Rattle.ent_policy.specs.Fault.{sub_code}
use Rattle.ent_policy.specs.First.{earlier, place}
use Rattle.lint_places.specs.Places.{is_fault}
use Rattle.lint_places.specs.proofs_only.Clear.{is_later}

-- the place of what is told, and behind all places that of nothing
abbrev pub rank : Option DocFault → ℕ
rank None = 9
rank (Some f) = place f

pub place_below : (f : DocFault) → place f < 9
place_below Form = omega arith
place_below Identifier = omega arith
place_below Version = omega arith
place_below Algorithm = omega arith
place_below Function = omega arith
place_below Variable = omega arith
place_below Size = omega arith
place_below Depth = omega arith
place_below «Type» = omega arith

pub rank_most : (o : Option DocFault) → rank o ≤ 9
rank_most None = omega arith
rank_most (Some f) = omega (arith, place_below f)

least : (f g : DocFault) (b : Bool) → nat_le (place f) (place g) ≡ b → rank (if b then Some f else Some g) ≡ min (place f) (place g)
least f g true e = let le : place f ≤ place g = grind (arith, nat_tests) in omega arith
least f g false e = let lt : place g < place f = grind (arith, nat_tests) in omega arith

-- the first of two is the least
pub rank_earlier : (a b : Option DocFault) → rank (earlier a b) ≡ min (rank a) (rank b)
rank_earlier None b = omega (arith, rank_most b)
rank_earlier (Some f) None = omega (arith, place_below f)
rank_earlier (Some f) (Some g) = least f g (nat_le (place f) (place g)) refl

-- ---- faults by their places

-- the place of a sub-code, and the sub-code of a place
abbrev place_of_code : ℕ → ℕ
place_of_code n = get_or (0 ∷ 4 ∷ 8 ∷ 3 ∷ 5 ∷ 7 ∷ 6 ∷ 2 ∷ 1 ∷ 0 ∷ []) n 0

abbrev code_of_place : ℕ → ℕ
code_of_place n = get_or (9 ∷ 8 ∷ 7 ∷ 3 ∷ 1 ∷ 4 ∷ 6 ∷ 5 ∷ 2 ∷ []) n 0

place_by_code : (f : DocFault) → place_of_code (sub_code f) ≡ place f
place_by_code Form = refl
place_by_code Identifier = refl
place_by_code Version = refl
place_by_code Algorithm = refl
place_by_code Function = refl
place_by_code Variable = refl
place_by_code Size = refl
place_by_code Depth = refl
place_by_code «Type» = refl

code_by_place : (f : DocFault) → code_of_place (place f) ≡ sub_code f
code_by_place Form = refl
code_by_place Identifier = refl
code_by_place Version = refl
code_by_place Algorithm = refl
code_by_place Function = refl
code_by_place Variable = refl
code_by_place Size = refl
code_by_place Depth = refl
code_by_place «Type» = refl

-- what is told is the fault where it has its place
pub rank_of_fault : (f : DocFault) (o : Option DocFault) → is_fault f o ≡ true → rank o ≡ place f
rank_of_fault f None h = absurd (false≢true h)
rank_of_fault f (Some g) h =
    let same : sub_code f ≡ sub_code g = grind (arith, nat_tests) in
    sym (place_by_code g) ∙ sym (ap place_of_code same) ∙ place_by_code f

pub fault_of_rank : (f : DocFault) (o : Option DocFault) → rank o ≡ place f → is_fault f o ≡ true
fault_of_rank f None h = absurd (omega (arith, place_below f, h))
fault_of_rank f (Some g) h =
    let same : sub_code f ≡ sub_code g = sym (code_by_place f) ∙ sym (ap code_of_place h) ∙ code_by_place g in
    grind (arith, nat_tests)

-- what is told later has a later place
pub rank_of_later : (f : DocFault) (o : Option DocFault) → is_later f o ≡ true → place f < rank o
rank_of_later f None h = place_below f
rank_of_later f (Some g) h = grind (arith, nat_tests)

-- two tests are one where each says what the other does
pub same_test : (a b : Bool) → (a ≡ true → b ≡ true) → (b ≡ true → a ≡ true) → a ≡ b
same_test true b h k = sym (h refl)
same_test false true h k = k refl
same_test false false h k = refl

-- two are the fault together
pub same_fault : (f : DocFault) (o p : Option DocFault) → (rank o ≡ place f → rank p ≡ place f) → (rank p ≡ place f → rank o ≡ place f) → is_fault f o ≡ is_fault f p
same_fault f o p h k = same_test (is_fault f o) (is_fault f p) (λ e. fault_of_rank f p (h (rank_of_fault f o e))) (λ e. fault_of_rank f o (k (rank_of_fault f p e)))
