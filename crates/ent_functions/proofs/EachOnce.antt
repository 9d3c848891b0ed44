-- Each value once, where it first stands.
use Rattle.std.proofs.Common.{◌≡◌, Bool, true, false, List, [], ◌∷◌, ◌++◌, refl, ap, sym, ◌∙◌, append-nil}
use Rattle.std.specs.Prelude.{◌||◌, All, not, cond, filter, if◌then◌else◌}
use Rattle.ent_values.specs.Same.{same_value}
use Rattle.ent_values.specs.declared.value.Value.{Value}
use Rattle.std.proofs.lemmas.List.Elements.{All-cons, All-filter, All-head, All-tail}
use Rattle.ent_values.specs.Bags.{AllOfType}
use Rattle.ent_values.specs.Types.{datatype_of}
use Rattle.ent_values.specs.declared.datatype.DataType.{DataType}
use Rattle.ent_values.proofs.Values.{same_value-Decides}
use Rattle.ent_functions.specs.Sets.{each_once, in_both, is_among}

same : (a b : Value) → same_value a b ≡ true → a ≡ b
same a b is = (same_value-Decides a b).0 is

agree : (a b : Bool) → (a ≡ true → b ≡ true) → (b ≡ true → a ≡ true) → a ≡ b
agree true b to from = sym (to refl)
agree false true to from = from refl
agree false false to from = refl

same_turned : (a b : Value) → same_value a b ≡ same_value b a
same_turned a b = agree (same_value a b) (same_value b a)
    (λ is. (same_value-Decides b a).1 (sym (same a b is)))
    (λ is. (same_value-Decides a b).1 (sym (same b a is)))

abbrev others : Value → List Value → List Value
others value values = filter (λ other. not (same_value other value)) values

pub filter_append : (p : Value → Bool) (xs ys : List Value) → filter p (xs ++ ys) ≡ filter p xs ++ filter p ys
filter_append p [] ys = refl
filter_append p (x ∷ xs) ys = at (p x) (filter_append p xs ys) where
  at : (b : Bool) → filter p (xs ++ ys) ≡ filter p xs ++ filter p ys → cond b (x ∷ filter p (xs ++ ys)) (filter p (xs ++ ys)) ≡ cond b (x ∷ filter p xs) (filter p xs) ++ filter p ys
  at true is = ap (λ rest. x ∷ rest) is
  at false is = is

-- a value other than the one left out stays
among_others : (value left_out : Value) (values : List Value) → same_value left_out value ≡ false → is_among value (others left_out values) ≡ is_among value values
among_others value left_out [] differ = refl
among_others value left_out (x ∷ xs) differ = at (same_value x left_out) refl (among_others value left_out xs differ) where
  at : (b : Bool) → same_value x left_out ≡ b → is_among value (others left_out xs) ≡ is_among value xs
      → is_among value (cond (not b) (x ∷ others left_out xs) (others left_out xs)) ≡ (same_value x value || is_among value xs)
  at false is rest = ap (λ b. same_value x value || b) rest
  at true is rest =
      let gone : same_value x value ≡ false = ap (λ v. same_value v value) (same x left_out is) ∙ differ in
      rest ∙ sym (ap (λ b. b || is_among value xs) gone)

-- taking each once keeps which values there are
pub among_each_once : (value : Value) (values : List Value) → is_among value (each_once values) ≡ is_among value values
among_each_once value [] = refl
among_each_once value (x ∷ xs) = at (same_value x value) refl (among_each_once value xs) where
  at : (b : Bool) → same_value x value ≡ b → is_among value (each_once xs) ≡ is_among value xs
      → (b || is_among value (others x (each_once xs))) ≡ (b || is_among value xs)
  at true is rest = refl
  at false is rest = among_others value x (each_once xs) is ∙ rest

-- one value more
pub each_once_push : (values : List Value) (value : Value) → each_once (values ++ value ∷ []) ≡ (if is_among value values then each_once values else each_once values ++ value ∷ [])
each_once_push [] value = refl
each_once_push (x ∷ xs) value = ap (λ rest. x ∷ others x rest) (each_once_push xs value) ∙ at (is_among value xs) (same_value x value) refl where
  at : (a b : Bool) → same_value x value ≡ b
      → (x ∷ others x (if a then each_once xs else (each_once xs ++ value ∷ [])))
      ≡ (if (b || a) then (x ∷ others x (each_once xs)) else ((x ∷ others x (each_once xs)) ++ value ∷ []))
  at true true is = refl
  at true false is = refl
  at false true is =
      ap (λ rest. x ∷ rest) (filter_append (λ other. not (same_value other x)) (each_once xs) (value ∷ [])
      ∙ ap (λ b. others x (each_once xs) ++ cond (not b) (value ∷ []) []) (same_turned value x ∙ is)
      ∙ append-nil (others x (each_once xs)))
  at false false is =
      ap (λ rest. x ∷ rest) (filter_append (λ other. not (same_value other x)) (each_once xs) (value ∷ [])
      ∙ ap (λ b. others x (each_once xs) ++ cond (not b) (value ∷ []) []) (same_turned value x ∙ is))

-- a value that is found there already adds nothing
pub found_again : (values : List Value) (value : Value) → is_among value (each_once values) ≡ true → each_once (values ++ value ∷ []) ≡ each_once values
found_again values value is =
    each_once_push values value ∙ ap (λ b. if b then each_once values else (each_once values ++ value ∷ [])) (sym (among_each_once value values) ∙ is)

-- a new value comes last
pub found_first : (values : List Value) (value : Value) → is_among value (each_once values) ≡ false → each_once (values ++ value ∷ []) ≡ each_once values ++ value ∷ []
found_first values value is =
    each_once_push values value ∙ ap (λ b. if b then each_once values else (each_once values ++ value ∷ [])) (sym (among_each_once value values) ∙ is)

others_all : (P : Value → Type 0) (value : Value) (values : List Value) → All P values → All P (others value values)
others_all P value values all = All-filter (λ other. not (same_value other value)) P values all

each_once_all : (P : Value → Type 0) (values : List Value) → All P values → All P (each_once values)
each_once_all P [] all = all
each_once_all P (x ∷ xs) all = All-cons P x (others x (each_once xs)) (All-head P x xs all) (others_all P x (each_once xs) (each_once_all P xs (All-tail P x xs all)))

-- the values that are left have the type that all had
pub each_once_types : (datatype : DataType) (values : List Value) → AllOfType datatype values → AllOfType datatype (each_once values)
each_once_types datatype values all = each_once_all (λ value. datatype_of value ≡ datatype) values all

pub in_both_types : (datatype : DataType) (first second : List Value) → AllOfType datatype first → AllOfType datatype (in_both first second)
in_both_types datatype first second all =
    each_once_types datatype (filter (λ value. is_among value second) first) (All-filter (λ value. is_among value second) (λ value. datatype_of value ≡ datatype) first all)
