-- The place of a key among entries in the order of their keys.
use Rattle.std.specs.Prelude.{◌≡◌, ℕ, ◌<◌, ◌≤◌, List, Bool, true, false, Some, slice_get, slice_set, unwrap_or}
use Rattle.std.specs.FinMap.{find, put}
use Rattle.std.specs.Option.{option_map_or}
use Rattle.std.specs.Ordering.{is_eq, is_lt}
use Rattle.std.specs.declared.cmp.Ordering.{Ordering}

module _ {K X : Type 0} (R : K → K → Ordering) where
  -- there is an entry at that index, and its key comes before this one
  abbrev pub is_before : K → List (K × X) → ℕ → Bool
  is_before key es index = option_map_or (λ e. is_lt (R e.0 key)) (slice_get es index) false

  -- there is an entry at that index, and its key is this one
  abbrev pub is_at : K → List (K × X) → ℕ → Bool
  is_at key es index = option_map_or (λ e. is_eq (R e.0 key)) (slice_get es index) false

  -- the entries in front of that place are those whose keys come before this one
  pub record IsPlace (key : K) (es : List (K × X)) (place : ℕ) : Type 0 where
    pub in_front : (index : ℕ) → index < place → is_before key es index ≡ true
    pub from_there : (index : ℕ) → place ≤ index → is_before key es index ≡ false

  -- at that index of the new entries stands the key's, with what the old ones have for it, or else `none`; to write there is to put it into the old ones
  pub record IsSeat (none : X) (key : K) (old new : List (K × X)) (index : ℕ) : Type 0 where
    pub has : slice_get new index ≡ Some (key, unwrap_or (find R key old) none)
    pub takes : (value : X) → slice_set new index (key, value) ≡ put R key value old
