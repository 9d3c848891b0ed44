-- A part has a fault where it is its own, and those of a list of parts that have one of their own.
use Rattle.std.proofs.Common.{◌≡◌, ℕ, suc, ◌<◌, List, [], ◌∷◌, ◌++◌, length, get_or, map, Bool, true, false, not, ◌&&◌, ◌||◌, Option, Some, None, refl, sym, subst, ◌∙◌, ap, arith, cond}
use Rattle.std.specs.Prelude.{◌==◌, if◌then◌else◌}
use Rattle.std.specs.List.{All, Contains, flat_map, list_any}
use Rattle.std.proofs.lemmas.Bool.{eqb-true}
use Rattle.std.proofs.lemmas.List.{get_or-map, length-map}
use Rattle.std.proofs.lemmas.List.Elements.{All-nil, All-cons, All-append}
use Rattle.std.proofs.lemmas.List.Folds.{list_any-append}
use Rattle.ent_policy.specs.Fault.{sub_code}
use Rattle.ent_policy.specs.declared.fault.DocFault.{DocFault}
use Rattle.lint_places.specs.Faults.{FaultAt, faulty, own_by, own_fault, with_fault}
use Rattle.lint_places.specs.Places.{IsSmallest, Spot, has_fault, inside, is_fault}
use Rattle.lint_places.specs.Told.{scope_told, told}
use Rattle.lint_places.proofs.Smallest.{same_code}

-- ---- its own fault

same_fault : (f g : DocFault) (o : Option DocFault) → sub_code f ≡ sub_code g → is_fault f o ≡ is_fault g o
same_fault f g None same = refl
same_fault f g (Some h) same = rw same refl

own_at : (f g : DocFault) (around : Option DocFault) (c b : Bool) → (sub_code f == sub_code g) ≡ c → is_fault g around ≡ b
    → (c && not (is_fault f around)) ≡ is_fault f (cond b None (Some g))
own_at f g around false true differs is = refl
own_at f g around false false differs is = sym differs
own_at f g around true true same is = rw (same_fault f g around (eqb-true (sub_code f) (sub_code g) same), is) refl
own_at f g around true false same is = rw (same_fault f g around (eqb-true (sub_code f) (sub_code g) same), is, same) refl

own_of : (f : DocFault) (o around : Option DocFault) → (is_fault f o && not (is_fault f around)) ≡ is_fault f (own_by o around)
own_of f None around = refl
own_of f (Some g) around = own_at f g around (sub_code f == sub_code g) (is_fault g around) refl refl

-- a part has a fault exactly where that is its own
pub has_own : (f : DocFault) (s : Spot) → has_fault f s ≡ is_fault f (own_fault s)
has_own f s = own_of f (told s.part s.scope s.json) (scope_told s.scope)

-- ---- those of a list

or_none : (b : Bool) → (b || false) ≡ b
or_none true = refl
or_none false = refl

any_with : (f : DocFault) (o : Option DocFault) (s : Spot) → list_any (λ t. is_fault f (Some t.0)) (with_fault o s) ≡ is_fault f o
any_with f None s = refl
any_with f (Some g) s = or_none (is_fault f (Some g))

-- one of them has a fault exactly where that is the own fault of one
pub any_faulty : (f : DocFault) (ss : List Spot) → list_any (λ t. is_fault f (Some t.0)) (faulty ss) ≡ list_any (has_fault f) ss
any_faulty f [] = refl
any_faulty f (s ∷ ss) =
    rw (list_any-append (λ (t : FaultAt). is_fault f (Some t.0)) (with_fault (own_fault s) s) (faulty ss), any_with f (own_fault s) s, any_faulty f ss, has_own f s) refl

none_at : (f : DocFault) (s : Spot) (ss : List Spot) (b : Bool) → has_fault f s ≡ b → (b || list_any (has_fault f) ss) ≡ false
    → (list_any (has_fault f) ss ≡ false → All (λ x. has_fault f x ≡ false) ss) → All (λ x. has_fault f x ≡ false) (s ∷ ss)
none_at f s ss true is h more = absurd cc
none_at f s ss false is h more = All-cons (λ x. has_fault f x ≡ false) s ss is (more h)

-- where none has it, each hasn't
pub none_has : (f : DocFault) (ss : List Spot) → list_any (has_fault f) ss ≡ false → All (λ x. has_fault f x ≡ false) ss
none_has f [] h = All-nil (λ x. has_fault f x ≡ false)
none_has f (s ∷ ss) h = none_at f s ss (has_fault f s) refl h (none_has f ss)

-- a part of the list, with a fault that it has
abbrev pub HasOne : List Spot → FaultAt → Type 0
HasOne ss t = Contains ss t.1 × (has_fault t.0 t.1 ≡ true)

one_of_more : (s : Spot) (ss : List Spot) (t : FaultAt) → HasOne ss t → HasOne (s ∷ ss) t
one_of_more s ss t h = ((suc h.0.0, omega (arith, h.0.1), h.0.2), h.1)

all_more : (s : Spot) (ss : List Spot) (ts : List FaultAt) → All (HasOne ss) ts → All (HasOne (s ∷ ss)) ts
all_more s ss ts h = λ k d lt. one_of_more s ss (get_or ts k d) (h k d lt)

here_one : (s : Spot) (ss : List Spot) (o : Option DocFault) → own_fault s ≡ o → All (HasOne (s ∷ ss)) (with_fault o s)
here_one s ss None is = All-nil (HasOne (s ∷ ss))
here_one s ss (Some f) is = All-cons (HasOne (s ∷ ss)) (f, s) [] ((0, omega arith, refl), rw (has_own f s, is) (same_code f)) (All-nil (HasOne (s ∷ ss)))

pub each_has : (ss : List Spot) → All (HasOne ss) (faulty ss)
each_has [] = All-nil (HasOne [])
each_has (s ∷ ss) = All-append (HasOne (s ∷ ss)) (with_fault (own_fault s) s) (faulty ss) (here_one s ss (own_fault s) refl) (all_more s ss (faulty ss) (each_has ss))

-- what a list of parts has, of which those with their faults were noted
pub one_noted : {X : Type 0} (at : X → FaultAt) (xs : List X) (ss : List Spot) (i : ℕ) (x : X) → map at xs ≡ faulty ss → i < length xs → x ≡ get_or xs i x → HasOne ss (at x)
one_noted at xs ss i x are lt here =
    let within : i < length (map at xs) = omega (arith, length-map xs at) in
    let held : All (HasOne ss) (map at xs) = rw are (each_has ss) in
    let same : get_or (map at xs) i (at x) ≡ at x = get_or-map at xs i x (at x) lt ∙ ap at (sym here) in
    subst (HasOne ss) same (held i (at x) within)

pub any_of : {X : Type 0} (at : X → FaultAt) (p : FaultAt → Bool) (xs : List X) → list_any p (map at xs) ≡ list_any (λ x. p (at x)) xs
any_of at p [] = refl
any_of at p (x ∷ xs) = rw (any_of at p xs) refl

-- a part that has a fault, where none of those that were noted inside of it has it
pub smallest_here : {X : Type 0} (at : X → FaultAt) (f : DocFault) (s : Spot) (xs : List X) → has_fault f s ≡ true → map at xs ≡ faulty (inside s)
    → list_any (λ x. is_fault f (Some (at x).0)) xs ≡ false → IsSmallest f s s
smallest_here at f s xs has are none =
    let all : list_any (has_fault f) (inside s) ≡ false =
    sym (any_faulty f (inside s)) ∙ (ap (list_any (λ t. is_fault f (Some t.0))) (sym are) ∙ (any_of at (λ t. is_fault f (Some t.0)) xs ∙ none)) in
    record { level = 0; is_inside = refl; has_it = has; is_smallest = none_has f (inside s) all }
