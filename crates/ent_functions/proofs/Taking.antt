-- What is known of the arguments that a function takes.
use Rattle.std.proofs.Common.{◌≡◌, Bool, true, false, List, [], ◌∷◌, refl, ap}
use Rattle.std.specs.Prelude.{◌&&◌, nat_le, length, All, Some, None, IsSome, if◌then◌else◌}
use Rattle.std.specs.List.{list_all}
use Rattle.std.specs.Cmp.Lexicographic.{pointwise}
use Rattle.ent_values.specs.declared.datatype.DataType.{DataType}
use Rattle.ent_values.specs.contracts.datatype.DataTypePartialEq.TheImpl as data_types_compared
use Rattle.std.proofs.lemmas.List.Elements.{All-nil, All-cons}
use denote.Enum.Bare.{same_true}
use Rattle.ent_values.specs.contracts.datatype.DataType.{the_type}
use Rattle.ent_functions.specs.Types.{same_type, exactly, each, two_or_more}
use Rattle.ent_functions.specs.declared.types.ArgType.{ArgType}
use Rattle.ent_functions.specs.declared.types.ArgType.TheVariants.{One, Many, Fun}

-- the type of a value or of a bag
abbrev pub is_plain : ArgType → Bool
is_plain (Fun function) = false
is_plain _ = true

same_data_type : (a b : DataType) → (data_types_compared.ghosts).eq a b ≡ true → a ≡ b
same_data_type a b is = same_true the_type tt a b is

pub same_plain : (given wanted : ArgType) → is_plain wanted ≡ true → same_type given wanted ≡ true → given ≡ wanted
same_plain (One a) (One b) plain is = ap One (same_data_type a b is)
same_plain (Many a) (Many b) plain is = ap Many (same_data_type a b is)
same_plain (One a) (Many b) plain is = absurd (cc)
same_plain (One a) (Fun f) plain is = absurd (cc)
same_plain (Many a) (One b) plain is = absurd (cc)
same_plain (Many a) (Fun f) plain is = absurd (cc)
same_plain (Fun f) (One b) plain is = absurd (cc)
same_plain (Fun f) (Many b) plain is = absurd (cc)
same_plain (Fun f) (Fun h) plain is = absurd (cc)

some_if : {A : Type 0} (b : Bool) (x : A) → IsSome (if b then Some x else None) → b ≡ true
some_if true x some = refl
some_if false x some = absurd (cc)

some_if_both : {A : Type 0} (a b : Bool) (x : A) → IsSome (if a then (if b then Some x else None) else None) → (a ≡ true) × (b ≡ true)
some_if_both true true x some = (refl, refl)
some_if_both true false x some = absurd (cc)
some_if_both false b x some = absurd (cc)

pub both_true : (a b : Bool) → a && b ≡ true → (a ≡ true) × (b ≡ true)
both_true true true is = (refl, refl)
both_true true false is = absurd (cc)
both_true false b is = absurd (cc)

same_types : (given wanted : List ArgType) → list_all is_plain wanted ≡ true → pointwise same_type given wanted ≡ true → given ≡ wanted
same_types [] [] plain is = refl
same_types [] (w ∷ ws) plain is = absurd (cc)
same_types (g ∷ gs) [] plain is = absurd (cc)
same_types (g ∷ gs) (w ∷ ws) plain is =
    let heads = both_true (same_type g w) (pointwise same_type gs ws) is in
    let plains = both_true (is_plain w) (list_all is_plain ws) plain in
    let first : g ≡ w = same_plain g w plains.0 heads.0 in
    let rest : gs ≡ ws = same_types gs ws plains.1 heads.1 in
    cc

-- arguments that are taken with exactly those types of values and bags have those types
pub exactly_types : (wanted : List ArgType) (outcome : ArgType) (given : List ArgType) → list_all is_plain wanted ≡ true → IsSome (exactly wanted outcome given) → given ≡ wanted
exactly_types wanted outcome given plain some = same_types given wanted plain (some_if (pointwise same_type given wanted) outcome some)

each_type : (wanted : ArgType) (given : List ArgType) → is_plain wanted ≡ true → list_all (λ type. same_type type wanted) given ≡ true → All (λ type. type ≡ wanted) given
each_type wanted [] plain is = All-nil (λ type. type ≡ wanted)
each_type wanted (g ∷ gs) plain is =
    let heads = both_true (same_type g wanted) (list_all (λ type. same_type type wanted) gs) is in
    All-cons (λ type. type ≡ wanted) g gs (same_plain g wanted plain heads.0) (each_type wanted gs plain heads.1)

-- the arguments that are taken, each of that type
pub each_types : (wanted outcome : ArgType) (given : List ArgType) → is_plain wanted ≡ true → IsSome (each wanted outcome given) → All (λ type. type ≡ wanted) given
each_types wanted outcome given plain some = each_type wanted given plain (some_if (list_all (λ type. same_type type wanted) given) outcome some)

pub two_or_more_types : (wanted outcome : ArgType) (given : List ArgType) → is_plain wanted ≡ true → IsSome (two_or_more wanted outcome given) → All (λ type. type ≡ wanted) given
two_or_more_types wanted outcome given plain some =
    each_type wanted given plain (some_if_both (nat_le 2 (length given)) (list_all (λ type. same_type type wanted) given) outcome some).1
