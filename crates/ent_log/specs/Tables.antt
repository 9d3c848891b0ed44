-- What a log and the present table say of the tables before.
use Rattle.std.specs.Prelude.{◌≡◌, ℕ, ◌-◌, ◌≤◌, List, [], Option}
use Rattle.std.specs.declared.cmp.Ordering.{Ordering}
use Rattle.std.specs.VecDeque.{deque_len, deque_capacity}
use Rattle.ent_log.specs.Entries.{answers_of, entries_since, table_before}
use Rattle.ent_log.specs.declared.entry.OldAnswer.{OldAnswer}
use Rattle.ent_log.specs.declared.log.Log.{Log}

-- the table at a serial: the present one with the old answers of all edits from there on put back
abbrev pub table_at : {K A : Type 0} → (K → K → Ordering) → Log K A → (K → Option A) → ℕ → K → Option A
table_at cmp log present n = table_before cmp (answers_of (entries_since n log.entries.items)) present

-- no edit is being logged: the table at the log's serial is then the present one
abbrev pub IsClosed : {K A : Type 0} → Log K A → Type 0
IsClosed log = entries_since log.serial log.entries.items ≡ []

-- for how many old answers there is room
abbrev pub room_of : {K A : Type 0} → Log K A → ℕ
room_of log = deque_capacity log.entries - deque_len log.entries

-- two logs are the same but for their room
pub record IsSameLog {K A : Type 0} (old new : Log K A) : Type 0 where
  pub from : new.from ≡ old.from
  pub serial : new.serial ≡ old.serial
  pub entries : new.entries.items ≡ old.entries.items

-- old answers put back in the table after changes give the one before them
abbrev pub Undoes : {K A : Type 0} → (K → K → Ordering) → List (OldAnswer K A) → (K → Option A) → (K → Option A) → Type 0
Undoes {K} cmp os before after = (k : K) → table_before cmp os after k ≡ before k

-- over changes with these old answers, the table at each serial so far stays what it was
abbrev pub KeepsTables : {K A : Type 0} → (K → K → Ordering) → List (OldAnswer K A) → Log K A → Log K A → Type 0
KeepsTables {K} {A} cmp os old new =
    (before after : K → Option A) → Undoes cmp os before after
    → (n : ℕ) → n ≤ old.serial → (k : K) → table_at cmp new after n k ≡ table_at cmp old before n k

-- the table at each serial that the new log keeps is what it was
abbrev pub KeepsFrom : {K A : Type 0} → (K → K → Ordering) → Log K A → Log K A → Type 0
KeepsFrom {K} {A} cmp old new =
    (present : K → Option A) (n : ℕ) → new.from ≤ n → (k : K) → table_at cmp new present n k ≡ table_at cmp old present n k
