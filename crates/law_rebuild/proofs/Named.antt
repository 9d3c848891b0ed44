-- The names of a list, put into it one after the other.
use Rattle.std.proofs.Common.{◌≡◌, ℕ, ◌+◌, ◌*◌, ◌<◌, ◌≤◌, ◌^◌, Bool, true, false, List, [], ◌∷◌, ◌++◌, length, Ok, refl, sym, ap, subst, ◌∙◌, arith}
use Rattle.std.specs.Prelude.{bytes_eq, nat_le, nat_lt}
use Rattle.std.specs.Cmp.Lexicographic.{bytes_decides}
use Rattle.std.specs.List.{AllByRecursion, IsDistinct}
use Rattle.std.proofs.Math.Nat.{le_trans, mul-le-mul_left, mul-le-mul_right}
use Rattle.std.proofs.lemmas.Bool.{lt-leb, le-ltb}
use Rattle.std.proofs.lemmas.List.{append-nil, append_assoc, length-append}
use Rattle.ent_policy.specs.Names.{is_bad_name}
use Rattle.ent_table.specs.declared.edit.Edit.TheVariants.{AddName}
use Rattle.ent_table.specs.declared.edit.List.{List as Which}
use Rattle.ent_table.specs.declared.edit.List.TheVariants as which
use Rattle.ent_table.specs.Names.{Names, cell_count, has_name, list_of, with_list, with_name}
use Rattle.ent_table.specs.State.{State}
use Rattle.ent_table.specs.Step.{limit_of, step}
use Rattle.law_rebuild.specs.Rebuilding.{name_edits, stepped}
use Rattle.law_rebuild.proofs.Chains.{stepped_one}

-- ---- a name that differs from all behind it

pub flipped : (x y : List ℕ) → bytes_eq x y ≡ false → bytes_eq y x ≡ false
flipped x y h = by (bytes_eq y x) refl
  where
    by : (b : Bool) → bytes_eq y x ≡ b → b ≡ false
    by true t = let same : bytes_eq x y ≡ true = (bytes_decides x y).1 (sym ((bytes_decides y x).0 t)) in cc
    by false t = refl

differs_later : (y : List ℕ) (front : List (List ℕ)) (x : List ℕ) (back : List (List ℕ)) → AllByRecursion (λ z. bytes_eq y z ≡ false) (front ++ x ∷ back)
    → bytes_eq y x ≡ false
differs_later y [] x back h = h.0
differs_later y (z ∷ front) x back h = differs_later y front x back h.1

-- of names no two of which are equal, none in front of a name is that name
pub new_name : (front : List (List ℕ)) (x : List ℕ) (back : List (List ℕ)) → IsDistinct bytes_eq (front ++ x ∷ back) → has_name x front ≡ false
unfolding IsDistinct
new_name [] x back h = refl
new_name (y ∷ front) x back h = rw (flipped y x (differs_later y front x back h.0)) (new_name front x back h.1)

-- ---- one list among three

list_of-with : (list : Which) (xs : List (List ℕ)) (names : Names) → list_of list (with_list list xs names) ≡ xs
list_of-with which.People xs names = refl
list_of-with which.Actions xs names = refl
list_of-with which.Resources xs names = refl

with_list-twice : (list : Which) (xs ys : List (List ℕ)) (names : Names) → with_list list xs (with_list list ys names) ≡ with_list list xs names
with_list-twice which.People xs ys names = refl
with_list-twice which.Actions xs ys names = refl
with_list-twice which.Resources xs ys names = refl

with_name-with : (list : Which) (x : List ℕ) (xs : List (List ℕ)) (names : Names)
    → with_name list x (with_list list xs names) ≡ with_list list (xs ++ x ∷ []) names
with_name-with which.People x xs names = refl
with_name-with which.Actions x xs names = refl
with_name-with which.Resources x xs names = refl

-- a shorter list makes no more cells
pub fewer_cells : (list : Which) (xs ys : List (List ℕ)) (names : Names) → length xs ≤ length ys
    → cell_count (with_list list xs names) ≤ cell_count (with_list list ys names)
fewer_cells which.People xs ys names h = mul-le-mul_right (length names.actions * length names.resources) h
fewer_cells which.Actions xs ys names h = mul-le-mul_left (length names.people) (mul-le-mul_right (length names.resources) h)
fewer_cells which.Resources xs ys names h = mul-le-mul_left (length names.people) (mul-le-mul_left (length names.actions) h)

-- a state with that list, at that serial
abbrev pub listing : State → Which → List (List ℕ) → ℕ → State
listing s list xs n = record s { names = with_list list xs s.names; serial = n }

-- ---- one name

name_step : (s : State) (list : Which) (all front : List (List ℕ)) (x : List ℕ) (back : List (List ℕ)) (n : ℕ) → front ++ x ∷ back ≡ all →
    IsDistinct bytes_eq all → is_bad_name x ≡ false → length all ≤ limit_of list s.limits → cell_count (with_list list all s.names) ≤ s.limits.cells
    → n < 2 ^ 63
    → step (listing s list front n) (AddName list x) ≡ Ok (listing s list (front ++ x ∷ []) (n + 1))
name_step s list all front x back n e distinct good most cells below =
    let new : has_name x front ≡ false = new_name front x back (subst (λ (l : List (List ℕ)). IsDistinct bytes_eq l) (sym e) distinct) in
    let long : length front + length (x ∷ back) ≡ length all = sym (length-append front (x ∷ back)) ∙ ap length e in
    let push : length (front ++ x ∷ []) ≤ length all = omega (arith, length-append front (x ∷ [])) in
    let room : nat_le (limit_of list s.limits) (length front) ≡ false = lt-leb (limit_of list s.limits) (length front) (omega arith) in
    let few : nat_lt s.limits.cells (cell_count (with_list list (front ++ x ∷ []) s.names)) ≡ false =
    le-ltb s.limits.cells (cell_count (with_list list (front ++ x ∷ []) s.names)) (le_trans (fewer_cells list (front ++ x ∷ []) all s.names push) cells) in
    rw (list_of-with list front s.names, new, lt-leb (2 ^ 63) n below, room, with_list-twice list (front ++ x ∷ []) front s.names, few, good) refl

-- ---- several names

-- names come in behind those that are there
pub names_added : (s : State) (list : Which) (all xs front : List (List ℕ)) (n m : ℕ) → front ++ xs ≡ all → n + length xs ≡ m →
    IsDistinct bytes_eq all → AllByRecursion (λ x. is_bad_name x ≡ false) xs → length all ≤ limit_of list s.limits
    → cell_count (with_list list all s.names) ≤ s.limits.cells → m ≤ 2 ^ 63
    → stepped (listing s list front n) (name_edits list xs) ≡ Ok (listing s list all m)
names_added s list all [] front n m e count distinct good most cells below =
    let whole : front ≡ all = sym (append-nil front) ∙ e in
    let same : n ≡ m = omega arith in
    λ i. Ok (listing s list (whole i) (same i))
names_added s list all (x ∷ xs) front n m e count distinct good most cells below =
    stepped_one (listing s list front n) (listing s list (front ++ x ∷ []) (n + 1)) (AddName list x) (name_edits list xs) _
    (name_step s list all front x xs n e distinct good.0 most cells (omega arith))
    (names_added s list all xs (front ++ x ∷ []) (n + 1) m (append_assoc front (x ∷ []) xs ∙ e) (omega arith) distinct good.1 most cells below)
