-- Whether JSON is what is expected: the same data, or data of which the expected is a part.
use Rattle.std.specs.Prelude.{ℕ, ℤ, ◌&&◌, ◌||◌, ◌==◌, Bool, true, false, not, Float, List, Option, Some, None, bytes_eq, if◌then◌else◌}
use Rattle.std.specs.Float.Ieee as ieee
use Rattle.std.specs.Option.{is_some}
use Rattle.std.specs.Ordering.{int_eq}
use Rattle.serde_json.specs.Data.{Num, Data, null, boolean, number, string, array, object, Items, no_items, item, Members, no_members, member}
use Rattle.serde_json.specs.Events.{members_len}
use Rattle.serde_json.specs.Find.{as_array, as_bool, as_integer, as_null, as_number, as_object, as_str, get, to_float}
use Rattle.ent_json.specs.Line.{data_of}

-- there is something, and it passes a test
abbrev pub holds : {A : Type 0} → (A → Bool) → Option A → Bool
holds p None = false
holds p (Some a) = p a

-- two flags are the same
abbrev pub same_flag : Bool → Bool → Bool
same_flag true b = b
same_flag false b = not b

-- two numbers are the same, of which these are the integers that they are, if they are, and the nearest floats
abbrev pub same_by : Option ℤ → Option ℤ → Float → Float → Bool
same_by (Some n) (Some m) x y = int_eq n m
same_by None None x y = ieee.eq x y
same_by _ _ x y = false

-- two numbers are the same: equal integers, or equal floats
abbrev pub same_number : Num → Num → Bool
same_number n m = same_by (as_integer n) (as_integer m) (to_float n) (to_float m)

-- a member of a list passes a test
abbrev pub any_item : (Data → Bool) → Items → Bool
any_item p no_items = false
any_item p (item d ds) = p d || any_item p ds

-- there are the members of an object, as many as these where the whole is wanted
abbrev pub as_many : Bool → Members → Option Members → Bool
as_many whole ms None = false
as_many whole ms (Some others) = not whole || (members_len ms == members_len others)

-- The data of the second is what is expected: where the whole is wanted, the same as the first, with the members of lists in the same order, and
-- else data of which the first is a part: an object with these keys, at each of which stands what is expected there, and a list of which a member
-- is what is expected, for each that is.
abbrev mutual
  pub fits : Bool → Data → Data → Bool
  fits whole null d = is_some (as_null d)
  fits whole (boolean b) d = holds (same_flag b) (as_bool d)
  fits whole (number n) d = holds (same_number n) (as_number d)
  fits whole (string s) d = holds (bytes_eq s) (as_str d)
  fits whole (array es) d = if whole then holds (alike es) (as_array d) else holds (are_among es) (as_array d)
  fits whole (object ms) d = as_many whole ms (as_object d) && stand_in whole ms d

  pub alike : Items → Items → Bool
  alike no_items no_items = true
  alike no_items (item d ds) = false
  alike (item e es) no_items = false
  alike (item e es) (item d ds) = fits true e d && alike es ds

  pub are_among : Items → Items → Bool
  are_among no_items ds = true
  are_among (item e es) ds = any_item (fits false e) ds && are_among es ds

  pub stand_in : Bool → Members → Data → Bool
  stand_in whole no_members d = true
  stand_in whole (member k e ms) d = holds (fits whole e) (get k d) && stand_in whole ms d

-- a list is what is expected of it, if there is one
abbrev pub list_fits : Bool → Items → Option Items → Bool
list_fits whole es ds = if whole then holds (alike es) ds else holds (are_among es) ds

-- there are both, and the second is what is expected
abbrev pub both_fit : Bool → Option Data → Option Data → Bool
both_fit whole None d = false
both_fit whole (Some e) d = holds (fits whole e) d

-- both texts are JSON, with the same data
abbrev pub is_same : List ℕ → List ℕ → Bool
is_same expected text = both_fit true (data_of expected) (data_of text)

-- both texts are JSON, and the first is a part of the second
abbrev pub is_part : List ℕ → List ℕ → Bool
is_part expected text = both_fit false (data_of expected) (data_of text)
