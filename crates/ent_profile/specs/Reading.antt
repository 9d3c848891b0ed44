-- Readers of JSON that find what a value asks for, or that it asks for nothing.
use Rattle.std.specs.Prelude.{◌≡◌, ℕ, List, [], ◌∷◌, ◌++◌, Bool, true, false, Option, Some, None, Result, Ok, Err, length, nat_lt, not}
use Rattle.serde_json.specs.Data as json
use Rattle.serde_json.specs.Data.{Data, Items}
use Rattle.ent_profile.specs.declared.fault.RequestFault.{RequestFault}
use Rattle.ent_profile.specs.declared.fault.RequestFault.TheVariants.{Bad, Memory}

-- ---- reading in steps

-- what is read next, of what was read before; where nothing was read it ends
infixl 10 ◌>>=◌
abbrev pub ◌>>=◌ : {A B : Type 0} → Option A → (A → Option B) → Option B
(Some x) >>= f = f x
None >>= f = None

-- what is read where a test holds
abbrev pub provided : {A : Type 0} → Bool → Option A → Option A
provided true read = read
provided false read = None

-- what may be absent, read where it is there
abbrev pub maybe : {A : Type 0} → (Data → Option A) → Option Data → Option (Option A)
maybe f None = Some None
maybe f (Some d) = f d >>= λ x. Some (Some x)

-- each member read, if every one can be
abbrev pub each : {A B : Type 0} → (A → Option B) → List A → Option (List B)
each f [] = Some []
each f (x ∷ xs) = f x >>= λ y. each f xs >>= λ ys. Some (y ∷ ys)

-- what is read of each member, one list behind the other, if every one can be read
abbrev pub gathered : {A B : Type 0} → (A → Option (List B)) → List A → Option (List B)
gathered f [] = Some []
gathered f (x ∷ xs) = f x >>= λ ys. gathered f xs >>= λ zs. Some (ys ++ zs)

-- ---- one or many

-- the members of a JSON array
abbrev pub members : Items → List Data
members json.no_items = []
members (json.item d ds) = d ∷ members ds

-- the members of an array; every other value stands for itself
abbrev pub one_or_many : Data → List Data
one_or_many (json.array ds) = members ds
one_or_many d = d ∷ []

-- those members, none where the value is absent
abbrev pub none_or_many : Option Data → List Data
none_or_many None = []
none_or_many (Some d) = one_or_many d

-- a list that has no more members than that
abbrev pub at_most : ℕ → List Data → Option (List Data)
at_most n ds = provided (not (nat_lt n (length ds))) (Some ds)

-- ---- what a reader answers

-- a value that was found to be bad asks for nothing; want of memory says nothing
abbrev pub Lacks : {A : Type 0} → RequestFault → Option A → Type 0
Lacks Bad read = read ≡ None
Lacks Memory read = Unit {0}

-- the answer is what the definition reads, unless memory was wanting
abbrev pub Reads : {A : Type 0} → Result A RequestFault → Option A → Type 0
Reads (Ok x) read = read ≡ Some x
Reads (Err e) read = Lacks e read
