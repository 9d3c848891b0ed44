-- Parts that are written and read: what is written of a part is of the form of one that is read as that part, or as none.
use Rattle.std.proofs.Common.{◌≡◌, List, [], ◌∷◌, ◌++◌, map, Option, None, Result, Ok, refl, sym, ap, subst, ◌∙◌}
use Rattle.std.specs.List.{AllByRecursion, flat_map}
use Rattle.serde_json.specs.Data.{Data}
use Rattle.serde_json.specs.View.{items_of}
use Rattle.ent_values.specs.ReadBack.{HasFewYears, IsReal}
use Rattle.ent_values.specs.declared.value.Value.{Value}
use Rattle.ent_policy.specs.First.{first_of}
use Rattle.ent_policy.specs.Reading.{done, each_read, made}
use Rattle.ent_policy.specs.declared.fault.DocFault.{DocFault}
use Rattle.ent_policy.proofs.Wholes.{ReadOf, neither}
use Rattle.ent_polform.specs.Objects.{each_by}

-- ---- lists

-- where none of some faults is first, none is there
pub none_there : (fs : List (Option DocFault)) → first_of fs ≡ None → AllByRecursion (λ f. f ≡ None) fs
none_there [] h = tt
none_there (f ∷ fs) h = let both = neither f (first_of fs) h in (both.0, none_there fs both.1)

-- parts that have no fault
pub no_fault : {X : Type 0} (xs : List X) → first_of (map (λ x. None) xs) ≡ None
no_fault [] = refl
no_fault (x ∷ xs) = no_fault xs

-- what holds of the values of two lists together
pub both_of : (P : Value → Type 0) (xs ys : List Value) → AllByRecursion P (xs ++ ys) → AllByRecursion P xs × AllByRecursion P ys
both_of P [] ys h = (tt, h)
both_of P (x ∷ xs) ys h = let more = both_of P xs ys h.1 in ((h.0, more.0), more.1)

-- the durations among some values have few years, so that they can be read
abbrev pub AreFew : List Value → Type 0
AreFew = AllByRecursion HasFewYears

pub both_few : (xs ys : List Value) → AreFew xs → AreFew ys → AreFew (xs ++ ys)
both_few [] ys h g = g
both_few (x ∷ xs) ys h g = (h.0, both_few xs ys h.1 g)

-- ---- parts

-- a part with these values is read as x where its durations can be read, and without a fault only where they can
pub record Reads {X : Type 0} (r : ReadOf X) (values : List Value) (x : X) : Type 0 where
  pub same : AreFew values → r ≡ done x
  pub few : r.fault ≡ None → AreFew values

-- a part that has the form of what is written, and is read so
abbrev pub Back : {R X : Type 0} → Result R DocFault → (R → ReadOf X) → List Value → X → Type 0
Back {R} form read values x = (r : R) × ((form ≡ Ok r) × Reads (read r) values x)

-- what is made of a part is read so, where the part is
pub made_back : {X Y : Type 0} {r : ReadOf X} {values : List Value} {x : X} (f : X → Y) → Reads r values x → Reads (made f r) values (f x)
made_back f reads = record { same = λ few. ap (made f) (reads.same few); few = λ clear. reads.few clear }

-- the same of what is read alike, of parts with the same values
pub alike : {X : Type 0} {r s : ReadOf X} {all values : List Value} {x : X} → r ≡ s → all ≡ values → Reads s values x → Reads r all x
alike is holds reads = record {
  same = λ few. is ∙ reads.same (subst AreFew holds few);
  few = λ clear. subst AreFew (sym holds) (reads.few (sym (ap (λ y. y.fault) is) ∙ clear));
}

-- a part without a fault is written and read so, if its values are what their types say
abbrev pub Returns : {R X : Type 0} → (X → Result R DocFault) → (R → ReadOf X) → (X → Option DocFault) → (X → List Value) → X → Type 0
Returns form read fault values x = fault x ≡ None → AllByRecursion IsReal (values x) → Back (form x) read (values x) x

-- the same of the members of a list
pub each_back : {R X : Type 0} (json : Data → Result R DocFault) (write : X → Data) (read : R → ReadOf X) (fault : X → Option DocFault) (values : X → List Value) (xs : List X)
    → AllByRecursion (Returns (λ x. json (write x)) read fault values) xs
    → Returns (λ ys. each_by json (items_of (map write ys))) (each_read read) (λ ys. first_of (map fault ys)) (flat_map values) xs
each_back json write read fault values [] good clean real = ([], (refl, record { same = λ few. refl; few = λ none. tt }))
each_back json write read fault values (x ∷ xs) good clean real =
    let none = neither (fault x) (first_of (map fault xs)) clean in
    let both = both_of IsReal (values x) (flat_map values xs) real in
    let one = good.0 none.0 both.0 in
    let more = each_back json write read fault values xs good.1 none.1 both.1 in (
      one.0 ∷ more.0,
      (
        rw (one.1.0, more.1.0) refl,
        record {
          same = λ few.
              let parts = both_of HasFewYears (values x) (flat_map values xs) few in
              let first = one.1.1.same parts.0 in
              let others = more.1.1.same parts.1 in
              rw (first, ap (λ r. r.value) others, ap (λ r. r.fault) others) refl;
          few = λ clear.
              let parts = neither (read one.0).fault (each_read read more.0).fault clear in
              both_few (values x) (flat_map values xs) (one.1.1.few parts.0) (more.1.1.few parts.1);
        },
      ),
    )

each_one : {X : Type 0} {P : X → Type 0} → ((x : X) → P x) → (xs : List X) → AllByRecursion P xs
each_one good [] = tt
each_one good (x ∷ xs) = (good x, each_one good xs)

pub all_back : {R X : Type 0} (json : Data → Result R DocFault) (write : X → Data) (read : R → ReadOf X) (fault : X → Option DocFault) (values : X → List Value)
    → ((x : X) → Returns (λ x. json (write x)) read fault values x) → (xs : List X)
    → Returns (λ ys. each_by json (items_of (map write ys))) (each_read read) (λ ys. first_of (map fault ys)) (flat_map values) xs
all_back json write read fault values good xs = each_back json write read fault values xs (each_one good xs)
