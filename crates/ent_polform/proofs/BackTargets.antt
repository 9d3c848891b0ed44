-- Targets that are written read back.
use Rattle.std.proofs.Common.{◌≡◌, List, [], ◌∷◌, map, Some, None, Ok, refl, ◌∙◌}
use Rattle.serde_json.specs.Data.{Data}
use Rattle.serde_json.specs.View.{items_of}
use Rattle.ent_functions.proofs.Naming.{ids_read_back}
use Rattle.ent_functions.specs.Identifiers.{function_of, id_of}
use Rattle.ent_functions.specs.declared.function.Function.{Function}
use Rattle.ent_policy.specs.First.{first_of}
use Rattle.ent_policy.specs.Limits.{all_of_fault, any_of_fault, filled_fault, length_fault, match_fault, target_fault}
use Rattle.ent_policy.specs.Reading.{all_of_read, any_of_read, function_read, match_read, target_read, value_read}
use Rattle.ent_policy.specs.declared.document.AllOf.{AllOf}
use Rattle.ent_policy.specs.declared.document.AnyOf.{AnyOf}
use Rattle.ent_policy.specs.declared.document.Match.{Match}
use Rattle.ent_policy.specs.declared.document.Target.{Target}
use Rattle.ent_policy.proofs.Wholes.{neither}
use Rattle.ent_json.specs.Objects.{filled}
use Rattle.ent_polform.specs.Objects.{◌>>=◌, each_by}
use Rattle.ent_policy.specs.Values.{all_of_values, any_of_values, match_values, target_values}
use Rattle.ent_polform.specs.Targets.{match_of, one_all_of, one_any_of, target_of, target_or_empty}
use Rattle.ent_polform.specs.Written.{all_of_written, any_of_written, match_written, target_written}
use Rattle.ent_polform.proofs.Back.{Returns, all_back, made_back}
use Rattle.ent_polform.proofs.BackValues.{designator_back, value_back}

pub function_back : (function : Function) → function_of (id_of function) ≡ Some function
function_back function = (ids_read_back (id_of function) function).1 refl

-- a list that has to have a member is written as one that has
filled_written : {X : Type 0} (write : X → Data) (xs : List X) → filled_fault xs ≡ None → filled (items_of (map write xs)) ≡ Some (items_of (map write xs))
filled_written write [] h = absurd cc
filled_written write (x ∷ xs) h = refl

match_back : (m : Match) → Returns (λ x. match_of (match_written x)) match_read match_fault match_values m
unfolding match_of match_written match_read
match_back m clean real =
    let v = value_back m.literal real.0 in
    let d = designator_back m.designator in (
      record { function = id_of m.function; literal = v.0; designator = d.0 },
      (
        rw (v.1.0, d.1.0) refl,
        record {
          same = λ few. rw (function_back m.function, v.1.1.same few, d.1.1.same tt) refl;
          few = λ clear. v.1.1.few (neither (value_read v.0).fault _ (neither (function_read (id_of m.function)).fault _ clear).1).0;
        },
      ),
    )

all_of_back : (a : AllOf) → Returns (λ x. one_all_of (all_of_written x)) all_of_read all_of_fault all_of_values a
unfolding one_all_of all_of_written all_of_read all_of_fault
all_of_back a clean real =
    let none = neither (filled_fault a.matches) (first_of (map match_fault a.matches)) clean in
    let parts = all_back match_of match_written match_read match_fault match_values match_back a.matches none.1 real in
    (record { matches = parts.0 }, (rw (filled_written match_written a.matches none.0, parts.1.0) refl, made_back (λ x. record { matches = x }) parts.1.1))

any_of_back : (a : AnyOf) → Returns (λ x. one_any_of (any_of_written x)) any_of_read any_of_fault any_of_values a
unfolding one_any_of any_of_written any_of_read any_of_fault
any_of_back a clean real =
    let none = neither (filled_fault a.all_of) (first_of (map all_of_fault a.all_of)) clean in
    let parts = all_back one_all_of all_of_written all_of_read all_of_fault all_of_values all_of_back a.all_of none.1 real in
    (record { all_of = parts.0 }, (rw (filled_written all_of_written a.all_of none.0, parts.1.0) refl, made_back (λ x. record { all_of = x }) parts.1.1))

target_form : (xs : List AnyOf) → target_or_empty (target_written (record { any_of = xs })) ≡ (each_by one_any_of (items_of (map any_of_written xs)) >>= λ parts. Ok (record { any_of = parts }))
unfolding target_of target_written
target_form [] = refl
target_form (x ∷ xs) = refl

pub target_back : (t : Target) → Returns (λ x. target_or_empty (target_written x)) target_read target_fault target_values t
unfolding target_read target_fault
target_back t clean real =
    let none = neither (length_fault t.any_of) (first_of (map any_of_fault t.any_of)) clean in
    let parts = all_back one_any_of any_of_written any_of_read any_of_fault any_of_values any_of_back t.any_of none.1 real in
    (record { any_of = parts.0 }, (target_form t.any_of ∙ rw parts.1.0 refl, made_back (λ x. record { any_of = x }) parts.1.1))
