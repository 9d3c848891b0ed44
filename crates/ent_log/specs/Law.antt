-- Laws of differences, and of tables as finite maps.
use Rattle.std.specs.Prelude.{◌≡◌, ℕ, ◌≤◌, List, Bool, Option}
use Rattle.std.specs.FinMap.{FinMap, IsAntisymmetric, get}
use Rattle.std.specs.declared.cmp.Ordering.{Ordering}
use Rattle.ent_log.specs.Difference.{IsDifference}
use Rattle.ent_log.specs.Maps.{map_at, map_difference}
use Rattle.ent_log.specs.Tables.{KeepsFrom, KeepsTables, Undoes, table_at}
use Rattle.ent_log.specs.declared.change.LoggedChange.{LoggedChange}
use Rattle.ent_log.specs.declared.entry.OldAnswer.{OldAnswer}
use Rattle.ent_log.specs.declared.log.Log.{Log}

-- two tables have one difference alone, where the order tells all keys apart
abbrev pub DifferencesAreUnique : {K A : Type 0} → (K → K → Ordering) → (A → A → Bool) → Type 0
DifferencesAreUnique {K} {A} cmp eq =
    IsAntisymmetric cmp → (before after : K → Option A) (changes others : List (LoggedChange K A))
    → IsDifference cmp eq before after changes → IsDifference cmp eq before after others → changes ≡ others

-- what the map at a serial has at a key is what the table at that serial answers
abbrev pub MapsAreTables : {K : Type 0} (A : Type 0) → (K → K → Ordering) → Type 0
MapsAreTables {K} A cmp =
    (log : Log K A) (present : FinMap cmp A) (n : ℕ) (k : K) → get (map_at cmp log present n) k ≡ table_at cmp log (get present) n k

-- over changes that keep the tables, the map at each serial so far is the same, where the order tells all keys apart
abbrev pub MapsStay : {K : Type 0} (A : Type 0) → (K → K → Ordering) → Type 0
MapsStay {K} A cmp =
    IsAntisymmetric cmp → (os : List (OldAnswer K A)) (old new : Log K A) → KeepsTables cmp os old new
    → (before after : FinMap cmp A) → Undoes cmp os (get before) (get after)
    → (n : ℕ) → n ≤ old.serial → map_at cmp new after n ≡ map_at cmp old before n

-- where tables are forgotten, the map at each serial that is left is the same
abbrev pub MapsAreLeft : {K : Type 0} (A : Type 0) → (K → K → Ordering) → Type 0
MapsAreLeft {K} A cmp =
    IsAntisymmetric cmp → (old new : Log K A) → KeepsFrom cmp old new
    → (present : FinMap cmp A) (n : ℕ) → new.from ≤ n → map_at cmp new present n ≡ map_at cmp old present n

-- the difference of two tables is that of their maps, where the order tells all keys apart
abbrev pub DifferenceIsOfMaps : {K A : Type 0} → (K → K → Ordering) → (A → A → Bool) → Type 0
DifferenceIsOfMaps {K} {A} cmp eq =
    IsAntisymmetric cmp → (m n : FinMap cmp A) (changes : List (LoggedChange K A))
    → IsDifference cmp eq (get m) (get n) changes → changes ≡ map_difference eq m n
