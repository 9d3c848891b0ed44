-- Reading a JSON object in steps, of which the first fault ends it.
use Rattle.std.specs.Prelude.{List, [], ◌∷◌, Bool, true, false, Option, Some, None, Result, Ok, Err}
use Rattle.serde_json.specs.Data as json
use Rattle.serde_json.specs.Data.{Data, Items}
pub use Rattle.ent_json.specs.Objects.{has_only, alone, one_member, text_at, text_or_absent, flag_at, list_at, filled, filled_list_at}

-- ---- reading in steps

-- what is read next, of what was read before; the first fault ends it
infixl 10 ◌>>=◌
abbrev pub ◌>>=◌ : {A B F : Type 0} → Result A F → (A → Result B F) → Result B F
(Ok x) >>= f = f x
(Err e) >>= f = Err e

-- what has to be there, or else this fault
abbrev pub need : {A F : Type 0} → F → Option A → Result A F
need e None = Err e
need e (Some x) = Ok x

-- what is read where a test holds, or else this fault
abbrev pub must : {A F : Type 0} → F → Bool → Result A F → Result A F
must e true r = r
must e false r = Err e

-- ---- lists

-- each member of a list read by f, up to the first fault
abbrev pub each_by : {A F : Type 0} → (Data → Result A F) → Items → Result (List A) F
each_by f json.no_items = Ok []
each_by f (json.item d ds) = f d >>= λ x. each_by f ds >>= λ xs. Ok (x ∷ xs)

-- each member of a list that has to be there, or else this fault
abbrev pub list_by : {A F : Type 0} → F → (Data → Result A F) → Option Items → Result (List A) F
list_by e f o = need e o >>= each_by f
