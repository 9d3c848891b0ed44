-- The type of the values that JSON spells.
use Rattle.std.proofs.Common.{◌≡◌, List, [], ◌∷◌, Option, Some, None, refl}
use Rattle.std.proofs.lemmas.List.Elements.{All-cons, All-nil}
use Rattle.serde_json.specs.Data.{Data}
use Rattle.ent_values.specs.Bags.{AllOfType}
use Rattle.ent_values.specs.Types.{datatype_of}
use Rattle.ent_values.specs.declared.datatype.DataType.{DataType}
use Rattle.ent_values.specs.declared.value.Value.{Value}
use Rattle.ent_polform.proofs.TypedValues.{value_typed}
use Rattle.ent_polform.specs.Values.{value_in}
use Rattle.ent_profile.specs.Reading.{◌>>=◌, each}

next_typed : (t : DataType) (d : Data) (o : Option Value) (r : Option (List Value)) (vs : List Value) → value_in t d ≡ o
    → ((ys : List Value) → r ≡ Some ys → AllOfType t ys) → (o >>= λ y. r >>= λ ys. Some (y ∷ ys)) ≡ Some vs → AllOfType t vs
next_typed t d None r vs e rest h = absurd cc
next_typed t d (Some y) None vs e rest h = absurd cc
next_typed t d (Some y) (Some ys) vs e rest h =
    let same : y ∷ ys ≡ vs = cc in
    rw (← same) (All-cons (λ v. datatype_of v ≡ t) y ys (value_typed t d y e).0 (rest ys refl))

-- each value of a list is of the type that it is read by
pub all_typed : (t : DataType) (ds : List Data) (vs : List Value) → each (value_in t) ds ≡ Some vs → AllOfType t vs
all_typed t [] vs h =
    let same : [] ≡ vs = cc in
    rw (← same) (All-nil (λ v. datatype_of v ≡ t))
all_typed t (d ∷ ds) vs h = next_typed t d (value_in t d) (each (value_in t) ds) vs refl (λ ys e. all_typed t ds ys e) h
