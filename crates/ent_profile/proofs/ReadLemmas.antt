-- What the loops over a list's members have read, and what is still to read.
use Rattle.std.proofs.Common.{◌≡◌, ℕ, ◌+◌, ◌<◌, List, [], ◌∷◌, ◌++◌, map, length, get_or, drop, append_assoc, add-one, drop-cons, Bool, Option, Some, None, refl, sym, ap, ◌∙◌}
use Rattle.std.specs.List.{list_all, list_any}
use Rattle.serde_json.specs.Data as json
use Rattle.serde_json.specs.Data.{Data}
use Rattle.serde_json.specs.Find.{as_array}
use Rattle.serde_json.specs.View.{items_of}
use Rattle.ent_profile.specs.declared.fault.RequestFault.{RequestFault}
use Rattle.ent_profile.specs.declared.fault.RequestFault.TheVariants as faults
use Rattle.ent_profile.specs.Reading.{◌>>=◌, Lacks, each, gathered, members, one_or_many}

-- the members of an array are those of the list that it was made of
pub members_of_items : (ds : List Data) → members (items_of ds) ≡ ds
members_of_items [] = refl
members_of_items (d ∷ ds) = ap (λ es. d ∷ es) (members_of_items ds)

pub many_members : (d : Data) (ds : List Data) → Some (items_of ds) ≡ as_array d → ds ≡ one_or_many d
many_members json.null ds h = absurd cc
many_members (json.boolean b) ds h = absurd cc
many_members (json.number n) ds h = absurd cc
many_members (json.string s) ds h = absurd cc
many_members (json.array es) ds h =
    let same : items_of ds ≡ es = cc in
    rw (← same) (sym (members_of_items ds))
many_members (json.object ms) ds h = absurd cc

pub one_member : (d : Data) → None ≡ as_array d → d ∷ [] ≡ one_or_many d
one_member json.null h = refl
one_member (json.boolean b) h = refl
one_member (json.number n) h = refl
one_member (json.string s) h = refl
one_member (json.array es) h = absurd cc
one_member (json.object ms) h = refl

-- what was read before, and what is still read
abbrev pub with_front : {A : Type 0} → List A → Option (List A) → Option (List A)
with_front front read = read >>= λ xs. Some (front ++ xs)

regroup : {A : Type 0} (front : List A) (x : A) (read : Option (List A)) → with_front front (read >>= λ xs. Some (x ∷ xs)) ≡ with_front (front ++ x ∷ []) read
regroup front x (Some xs) = ap (λ ys. Some ys) (sym (append_assoc front (x ∷ []) xs))
regroup front x None = refl

-- a member is read, and goes to the end of what was read
pub goes_on : {A J : Type 0} (content : J → Data) (f : Data → Option A) (front : List A) (vs : List J) (i : ℕ) (v : J) (x : A) (total : Option (List A))
    → i < length vs → v ≡ get_or vs i v → f (content v) ≡ Some x
    → with_front front (each f (map content (drop i vs))) ≡ total → with_front (front ++ x ∷ []) (each f (map content (drop (i + 1) vs))) ≡ total
goes_on content f front vs i v x total lt here h so_far =
    let one : with_front front (each f (map content (drop i vs))) ≡ with_front (front ++ x ∷ []) (each f (map content (drop (i + 1) vs)))
    = rw (add-one, drop-cons vs i v, ← here, h) (regroup front x _) in
    sym one ∙ so_far

-- a member that can't be read, so that the list can't be
pub ends : {A J : Type 0} (content : J → Data) (f : Data → Option A) (e : RequestFault) (front : List A) (vs : List J) (i : ℕ) (v : J) (total : Option (List A))
    → i < length vs → v ≡ get_or vs i v → Lacks e (f (content v))
    → with_front front (each f (map content (drop i vs))) ≡ total → Lacks e total
ends content f faults.Memory front vs i v total lt here h so_far = tt
ends content f faults.Bad front vs i v total lt here h so_far =
    let one : with_front front (each f (map content (drop i vs))) ≡ None = rw (drop-cons vs i v, ← here, h) refl in
    sym so_far ∙ one

-- ---- lists of what is read

regroup_list : {A : Type 0} (front xs : List A) (read : Option (List A)) → with_front front (read >>= λ ys. Some (xs ++ ys)) ≡ with_front (front ++ xs) read
regroup_list front xs (Some ys) = ap (λ zs. Some zs) (sym (append_assoc front xs ys))
regroup_list front xs None = refl

pub gathers_on : {A B : Type 0} (f : A → Option (List B)) (front : List B) (ns : List A) (i : ℕ) (a : A) (xs : List B) (total : Option (List B)) → i < length ns → f (get_or ns i a) ≡ Some xs
    → with_front front (gathered f (drop i ns)) ≡ total → with_front (front ++ xs) (gathered f (drop (i + 1) ns)) ≡ total
gathers_on f front ns i a xs total lt h so_far =
    let one : with_front front (gathered f (drop i ns)) ≡ with_front (front ++ xs) (gathered f (drop (i + 1) ns)) = rw (add-one, drop-cons ns i a lt, h) (regroup_list front xs _) in
    sym one ∙ so_far

pub gathering_ends : {A B : Type 0} (f : A → Option (List B)) (e : RequestFault) (front : List B) (ns : List A) (i : ℕ) (a : A) (total : Option (List B)) → i < length ns → Lacks e (f (get_or ns i a))
    → with_front front (gathered f (drop i ns)) ≡ total → Lacks e total
gathering_ends f faults.Memory front ns i a total lt h so_far = tt
gathering_ends f faults.Bad front ns i a total lt h so_far =
    let one : with_front front (gathered f (drop i ns)) ≡ None = rw (drop-cons ns i a lt, h) refl in
    sym so_far ∙ one

-- ---- tests of members

pub all_seen : {A B : Type 0} (p : B → Bool) (g : A → B) (xs : List A) → list_all p (map g xs) ≡ list_all (λ x. p (g x)) xs
all_seen p g [] = refl
all_seen p g (x ∷ xs) = rw (all_seen p g xs) refl

pub any_seen : {A B : Type 0} (p : B → Bool) (g : A → B) (xs : List A) → list_any p (map g xs) ≡ list_any (λ x. p (g x)) xs
any_seen p g [] = refl
any_seen p g (x ∷ xs) = rw (any_seen p g xs) refl
