-- Tables as finite maps.
use Rattle.std.specs.Prelude.{ℕ, List, [], ◌∷◌, ◌++◌, map, Bool, Option, Some, None}
use Rattle.std.specs.FinMap.{FinMap, entries, from_entries, get, insert, keys, remove}
use Rattle.std.specs.declared.cmp.Ordering.{Ordering}
use Rattle.ent_log.specs.Difference.{changes_among}
use Rattle.ent_log.specs.Entries.{answers_of, entries_since}
use Rattle.ent_log.specs.declared.change.LoggedChange.{LoggedChange}
use Rattle.ent_log.specs.declared.entry.OldAnswer.{OldAnswer}
use Rattle.ent_log.specs.declared.log.Log.{Log}

-- a map with another answer at a key, or none
abbrev pub with_answer : {K A : Type 0} {cmp : K → K → Ordering} → FinMap cmp A → K → Option A → FinMap cmp A
with_answer m k None = remove m k
with_answer m k (Some a) = insert m k a

-- a map with old answers put back, of several to one key the first
abbrev pub map_before : {K A : Type 0} (cmp : K → K → Ordering) → List (OldAnswer K A) → FinMap cmp A → FinMap cmp A
map_before cmp [] m = m
map_before cmp (o ∷ os) m = with_answer (map_before cmp os m) o.key o.answer

-- the map at a serial
abbrev pub map_at : {K A : Type 0} (cmp : K → K → Ordering) → Log K A → FinMap cmp A → ℕ → FinMap cmp A
map_at cmp log m n = map_before cmp (answers_of (entries_since n log.entries.items)) m

-- the keys of two maps in order, each once
abbrev pub keys_of_both : {K A : Type 0} {cmp : K → K → Ordering} → FinMap cmp A → FinMap cmp A → List K
keys_of_both {cmp = cmp} m n = keys (from_entries {R = cmp} (entries m ++ entries n))

-- of these the ones to which the maps have different answers, with both answers
abbrev pub map_difference : {K A : Type 0} {cmp : K → K → Ordering} → (A → A → Bool) → FinMap cmp A → FinMap cmp A → List (LoggedChange K A)
map_difference eq m n = changes_among eq (get n) (map (λ k. (k, get m k)) (keys_of_both m n))
