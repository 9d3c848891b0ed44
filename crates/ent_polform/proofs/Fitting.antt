-- JSON that is plain and not too deep: its objects and lists, and what is asked of what may be written.
use Rattle.std.proofs.Common.{◌≡◌, ℕ, zero, suc, ◌≤◌, ◌<◌, List, [], ◌∷◌, ◌++◌, map, Bool, true, false, ◌&&◌, ◌||◌, Option, Some, None, option_map, refl, arith}
use Rattle.std.specs.Cmp.Lexicographic.{slice_cmp}
use Rattle.std.specs.List.{AllByRecursion, flat_map, list_all, list_any}
use Rattle.std.specs.Ordering.{nat_cmp}
use Rattle.std.specs.declared.cmp.Ordering.{Ordering}
use Rattle.std.specs.declared.cmp.Ordering.TheVariants.{Less, Equal, Greater}
use Rattle.serde_json.specs.Data as json
use Rattle.serde_json.specs.Data.{Data, Members, depth, items_depth, members_depth}
use Rattle.serde_json.specs.View.{items_of}
use Rattle.ent_values.specs.ReadBack.{IsReal}
use Rattle.ent_values.specs.declared.value.Value.{Value}
use Rattle.ent_json.specs.Members.{filled_list, only_member, optional}
use Rattle.ent_polform.specs.Plain.{AreBehind, ArePlainItems, ArePlainMembers, IsPlain}

-- plain JSON that nests less than n deep
pub record Fits (n : ℕ) (d : Data) : Type 0 where
  pub plain : IsPlain d
  pub shallow : depth d < n

pub fits_more : (n m : ℕ) (d : Data) → n ≤ m → Fits n d → Fits m d
fits_more n m d more h = let low = h.shallow in record { plain = h.plain; shallow = omega arith }

pub text_fits : (n : ℕ) (s : List ℕ) → Fits (suc n) (json.string s)
text_fits n s = record { plain = tt; shallow = omega arith }

pub boolean_fits : (n : ℕ) (b : Bool) → Fits (suc n) (json.boolean b)
boolean_fits n b = record { plain = tt; shallow = omega arith }

-- ---- what may be absent

-- what is there fits
abbrev pub FitsOption : ℕ → Option Data → Type 0
FitsOption n None = Unit {0}
FitsOption n (Some d) = Fits n d

pub option_more : (n m : ℕ) (o : Option Data) → n ≤ m → FitsOption n o → FitsOption m o
option_more n m None low h = tt
option_more n m (Some d) low h = fits_more n m d low h

pub maybe_text_fits : (n : ℕ) (o : Option (List ℕ)) → FitsOption (suc n) (option_map json.string o)
maybe_text_fits n None = tt
maybe_text_fits n (Some s) = text_fits n s

-- ---- tests

pub both_false : (a b : Bool) → (a || b) ≡ false → (a ≡ false) × (b ≡ false)
both_false false b h = (refl, h)
both_false true b h = absurd cc

pub both_true : (a b : Bool) → (a && b) ≡ true → (a ≡ true) × (b ≡ true)
both_true true b h = (refl, h)
both_true false b h = absurd cc

-- ---- objects

-- the members of an object by their keys, of which some may be absent
abbrev pub built : List (List ℕ × Option Data) → Members
built [] = json.no_members
built (p ∷ ps) = optional p.0 p.1 (built ps)

abbrev is_greater : Ordering → Bool
is_greater Less = false
is_greater Equal = false
is_greater Greater = true

abbrev pub all_behind : List ℕ → List (List ℕ × Option Data) → Bool
all_behind k [] = true
all_behind k (p ∷ ps) = is_greater (slice_cmp nat_cmp p.0 k) && all_behind k ps

-- the keys stand in byte order
abbrev pub in_order : List (List ℕ × Option Data) → Bool
in_order [] = true
in_order (p ∷ ps) = all_behind p.0 ps && in_order ps

greater : (o : Ordering) → is_greater o ≡ true → o ≡ Greater
greater Greater h = refl
greater Less h = absurd cc
greater Equal h = absurd cc

optional_behind : (k key : List ℕ) (o : Option Data) (ms : Members) → slice_cmp nat_cmp key k ≡ Greater → AreBehind k ms → AreBehind k (optional key o ms)
optional_behind k key None ms h rest = rest
optional_behind k key (Some d) ms h rest = (h, rest)

built_behind : (k : List ℕ) (ps : List (List ℕ × Option Data)) → all_behind k ps ≡ true → AreBehind k (built ps)
built_behind k [] h = tt
built_behind k (p ∷ ps) h =
    let both = both_true (is_greater (slice_cmp nat_cmp p.0 k)) (all_behind k ps) h in
    optional_behind k p.0 p.1 (built ps) (greater (slice_cmp nat_cmp p.0 k) both.0) (built_behind k ps both.1)

optional_plain : (n : ℕ) (key : List ℕ) (o : Option Data) (ms : Members) → FitsOption (suc n) o → AreBehind key ms → ArePlainMembers ms → members_depth ms ≤ n
    → ArePlainMembers (optional key o ms) × (members_depth (optional key o ms) ≤ n)
optional_plain n key None ms fits behind plain low = (plain, low)
optional_plain n key (Some d) ms fits behind plain low = let here = fits.shallow in ((fits.plain, behind, plain), omega arith)

built_plain : (n : ℕ) (ps : List (List ℕ × Option Data)) → in_order ps ≡ true → AllByRecursion (λ p. FitsOption (suc n) p.1) ps → ArePlainMembers (built ps) × (members_depth (built ps) ≤ n)
built_plain n [] order h = (tt, omega arith)
built_plain n (p ∷ ps) order h =
    let both = both_true (all_behind p.0 ps) (in_order ps) order in
    let rest = built_plain n ps both.1 h.1 in
    optional_plain n p.0 p.1 (built ps) h.0 (built_behind p.0 ps both.0) rest.0 rest.1

-- an object whose keys stand in order and whose members fit
pub object_fits : (n : ℕ) (ps : List (List ℕ × Option Data)) → in_order ps ≡ true → AllByRecursion (λ p. FitsOption (suc n) p.1) ps → Fits (suc (suc n)) (json.object (built ps))
object_fits n ps order h = let all = built_plain n ps order h in let low = all.1 in record { plain = all.0; shallow = omega arith }

-- an object with one member
pub one_fits : (n : ℕ) (key : List ℕ) (d : Data) → Fits (suc n) d → Fits (suc (suc n)) (only_member key d)
one_fits n key d h = object_fits n ((key, Some d) ∷ []) refl (h, tt)

-- ---- lists

items_plain : (n : ℕ) (ds : List Data) → AllByRecursion (Fits (suc n)) ds → ArePlainItems (items_of ds) × (items_depth (items_of ds) ≤ n)
items_plain n [] h = (tt, omega arith)
items_plain n (d ∷ ds) h =
    let rest = items_plain n ds h.1 in
    let low = rest.1 in
    let here = h.0.shallow in
    ((h.0.plain, rest.0), omega arith)

pub list_fits : (n : ℕ) (ds : List Data) → AllByRecursion (Fits (suc n)) ds → Fits (suc (suc n)) (json.array (items_of ds))
list_fits n ds h = let all = items_plain n ds h in let low = all.1 in record { plain = all.0; shallow = omega arith }

pub filled_fits : (n : ℕ) (ds : List Data) → AllByRecursion (Fits n) ds → FitsOption (suc n) (filled_list ds)
filled_fits n [] h = tt
filled_fits zero (d ∷ ds) h = absurd (let here = h.0.shallow in omega arith)
filled_fits (suc n) (d ∷ ds) h = list_fits n (d ∷ ds) h

-- ---- the parts of a list

pub both_real : (xs ys : List Value) → AllByRecursion IsReal (xs ++ ys) → AllByRecursion IsReal xs × AllByRecursion IsReal ys
both_real [] ys h = (tt, h)
both_real (x ∷ xs) ys h = let more = both_real xs ys h.1 in ((h.0, more.0), more.1)

pub both_pass : (p : List ℕ → Bool) (xs ys : List (List ℕ)) → list_all p (xs ++ ys) ≡ true → (list_all p xs ≡ true) × (list_all p ys ≡ true)
both_pass p [] ys h = (refl, h)
both_pass p (x ∷ xs) ys h =
    let one = both_true (p x) (list_all p (xs ++ ys)) h in
    let more = both_pass p xs ys one.1 in
    (rw one.0 more.0, more.1)

-- what a part may be written with: its values are what their types say, its variables pass, and nothing in it is too deep
pub record IsGood (passes : List ℕ → Bool) (vs : List Value) (ids : List (List ℕ)) (deep : Bool) : Type 0 where
  pub real : AllByRecursion IsReal vs
  pub known : list_all passes ids ≡ true
  pub low : deep ≡ false

pub both_good : (passes : List ℕ → Bool) (vs ws : List Value) (ids more : List (List ℕ)) (a b : Bool)
    → IsGood passes (vs ++ ws) (ids ++ more) (a || b) → IsGood passes vs ids a × IsGood passes ws more b
both_good passes vs ws ids more a b h =
    let values = both_real vs ws h.real in
    let names = both_pass passes ids more h.known in
    let tests = both_false a b h.low in
    (record { real = values.0; known = names.0; low = tests.0 }, record { real = values.1; known = names.1; low = tests.1 })

-- each part of a list fits that is good
pub each_fits : {X : Type 0} (passes : List ℕ → Bool) (n : ℕ) (write : X → Data) (carried : X → List Value) (ids : X → List (List ℕ)) (deep : X → Bool)
    → ((x : X) → IsGood passes (carried x) (ids x) (deep x) → Fits n (write x))
    → (xs : List X) → IsGood passes (flat_map carried xs) (flat_map ids xs) (list_any deep xs) → AllByRecursion (Fits n) (map write xs)
each_fits passes n write carried ids deep good [] h = tt
each_fits passes n write carried ids deep good (x ∷ xs) h =
    let both = both_good passes (carried x) (flat_map carried xs) (ids x) (flat_map ids xs) (deep x) (list_any deep xs) h in
    (good x both.0, each_fits passes n write carried ids deep good xs both.1)

-- the same where nothing but values is in them
pub all_fit : {X : Type 0} (n : ℕ) (write : X → Data) (carried : X → List Value) → ((x : X) → AllByRecursion IsReal (carried x) → Fits n (write x))
    → (xs : List X) → AllByRecursion IsReal (flat_map carried xs) → AllByRecursion (Fits n) (map write xs)
all_fit n write carried good [] real = tt
all_fit n write carried good (x ∷ xs) real =
    let values = both_real (carried x) (flat_map carried xs) real in
    (good x values.0, all_fit n write carried good xs values.1)
