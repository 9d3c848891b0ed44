-- A loop over what gives lists, which stops at the first that is Indeterminate.
use Rattle.std.proofs.Common.{◌≡◌, ℕ, ◌+◌, ◌<◌, ◌≤◌, true, false, List, [], length, map, drop, get_or, refl, sym, ap, ◌∙◌, append_assoc, Option, Some, None}
use Rattle.std.specs.Prelude.{Result, Ok, Err, is_err, is_some, IsSome}
use Rattle.std.proofs.Math.ListN.{drop_of_length-le}
use Rattle.std.proofs.lemmas.List.{append-nil}
use Rattle.ent_functions.specs.declared.arg.Arg.TheVariants.{One, Many, Fun}
use Rattle.ent_functions.specs.declared.types.ArgType.{ArgType}
use Rattle.ent_policy.specs.Typing.{held}
use Rattle.ent_request.specs.declared.answer.Status.{Status}
use Rattle.ent_walk.specs.declared.evaluated.Evaluated.{Evaluated}
use Rattle.ent_walk.specs.declared.evaluated.Evaluated.TheVariants.{Known, Indeterminate}
use Rattle.ent_walk.specs.Given.{joined, together}
use Rattle.ent_trace.specs.proofs_only.Noted.{Notes, noting}
use Rattle.ent_request.specs.Part.{Part, notes_of, seen_parts, values}
use Rattle.ent_walk.specs.proofs_only.Typed.{HasType, is_held}
use Rattle.ent_walk.proofs.Going.{IsGoing, goes_on, stops_at}
use Rattle.ent_request.proofs.Lists.{at_item}

joined-assoc : {A : Type 0} (a b c : Result (List A) Status) → joined (joined a b) c ≡ joined a (joined b c)
joined-assoc (Err status) b c = refl
joined-assoc (Ok xs) (Err status) c = refl
joined-assoc (Ok xs) (Ok ys) (Err status) = refl
joined-assoc (Ok xs) (Ok ys) (Ok zs) = ap Ok (append_assoc xs ys zs)

joined-nil : {A : Type 0} (a : Result (List A) Status) → joined (Ok []) a ≡ a
joined-nil (Ok xs) = refl
joined-nil (Err status) = refl

isn't_err : {A : Type 0} (xs ys : List A) (v : Result (List A) Status) → Ok ys ≡ joined (Ok xs) v → is_err v ≡ false
isn't_err xs ys (Ok zs) is = refl
isn't_err xs ys (Err status) is = absurd (cc)

is_an_err : {A : Type 0} (xs : List A) (status : Status) (v : Result (List A) Status) → Err status ≡ joined (Ok xs) v → is_err v ≡ true
is_an_err xs status (Ok zs) is = absurd (cc)
is_an_err xs status (Err other) is = refl

-- none of the first i is Indeterminate, and `so_far` is what they give
pub record IsGiving {X A : Type 0} (part : X → Part (Result (List A) Status)) (xs : List X) (i : ℕ) (so_far : List A) (start now : Notes) : Type 0 where
  pub going : IsGoing is_err part xs i start now
  pub given : joined (Ok so_far) (together (values (map part (drop i xs)))) ≡ together (values (map part xs))

-- at the start nothing is given
pub starts : {X A : Type 0} (part : X → Part (Result (List A) Status)) (xs : List X) (so_far : List A) (start : Notes) → so_far ≡ [] → IsGiving part xs 0 so_far start start
starts part xs so_far start is = record {
  going = record { passed = refl; seen = refl; all = refl; notes = refl };
  given = ap (λ ys. joined (Ok ys) (together (values (map part xs)))) is ∙ joined-nil (together (values (map part xs)));
}

module _ {X A : Type 0} (part : X → Part (Result (List A) Status)) (xs : List X) (i : ℕ) (so_far : List A) (start now : Notes) (giving : IsGiving part xs i so_far start now) where
  one_more : (x : X) (r : Result (List A) Status) → i < length xs → x ≡ get_or xs i x → r ≡ joined (Ok so_far) (part x).value → joined r (together (values (map part (drop (i + 1) xs)))) ≡ together (values (map part xs))
  one_more x r below at is =
      let left = together (values (map part (drop (i + 1) xs))) in
      ap (λ s. joined s left) is ∙ joined-assoc (Ok so_far) (part x).value left ∙ ap (λ ys. joined (Ok so_far) (together (values (map part ys)))) (sym (at_item xs i x below at)) ∙ giving.given

  pub gives_on : (x : X) (more : List A) (next : Notes) → i < length xs → x ≡ get_or xs i x → Ok more ≡ joined (Ok so_far) (part x).value → next ≡ noting now (part x).notes → IsGiving part xs (i + 1) more start next
  gives_on x more next below at is next-is = record {
    going = goes_on is_err part xs i x start now next below at giving.going (isn't_err so_far more (part x).value is) next-is;
    given = one_more x (Ok more) below at is;
  }

  pub stopped-value : (x : X) (status : Status) → i < length xs → x ≡ get_or xs i x → Err status ≡ joined (Ok so_far) (part x).value → Err status ≡ together (values (map part xs))
  stopped-value x status below at is = one_more x (Err status) below at is

  pub stopped-notes : (x : X) (status : Status) (next : Notes) → i < length xs → x ≡ get_or xs i x → Err status ≡ joined (Ok so_far) (part x).value → next ≡ noting now (part x).notes
      → next ≡ noting start (notes_of (seen_parts is_err (map part xs)))
  stopped-notes x status next below at is next-is = (stops_at is_err part xs i x start now next below at giving.going (is_an_err so_far status (part x).value is) next-is).notes

  pub whole-value : length xs ≤ i → Ok so_far ≡ together (values (map part xs))
  whole-value past = ap Ok (sym (append-nil so_far)) ∙ ap (λ ys. joined (Ok so_far) (together (values (map part ys)))) (sym (drop_of_length-le xs past)) ∙ giving.given

  pub whole-notes : length xs ≤ i → now ≡ noting start (notes_of (seen_parts is_err (map part xs)))
  whole-notes past = ap (λ ys. noting now (notes_of (seen_parts is_err (map part ys)))) (sym (drop_of_length-le xs past)) ∙ giving.going.notes

-- ---- types

-- what may be held has a type
pub held_some : (type : Option ArgType) → is_some (held type) ≡ true → IsSome type
held_some None is = absurd (cc)
held_some (Some t) is = refl

-- and what has that type may be held
pub held_typed : (type : Option ArgType) (v : Evaluated) → is_some (held type) ≡ true → HasType type v → is_held v ≡ true
held_typed type (Indeterminate status) is has = refl
held_typed type (Known (One value)) is has = refl
held_typed type (Known (Many bag)) is has = refl
held_typed type (Known (Fun function)) is has = let never : false ≡ true = sym (ap (λ t. is_some (held t)) has) ∙ is in absurd (cc)
