-- Old answers, and when they were logged.
use Rattle.std.specs.Prelude.{ℕ, List, [], ◌∷◌, Bool, ◌&&◌, nat_le, if◌then◌else◌, Option, Some, None, unwrap_or, map}
use Rattle.std.specs.Ordering.{is_eq}
use Rattle.std.specs.declared.cmp.Ordering.{Ordering}
use Rattle.ent_log.specs.declared.entry.Logged.{Logged}
use Rattle.ent_log.specs.declared.entry.OldAnswer.{OldAnswer}

-- what the first of some old answers says of a key, and without one the default
abbrev pub first_answer_or : {K A : Type 0} → (K → K → Ordering) → List (OldAnswer K A) → K → Option (Option A) → Option (Option A)
first_answer_or cmp [] k default = default
first_answer_or cmp (o ∷ os) k default = if is_eq (cmp o.key k) then Some o.answer else first_answer_or cmp os k default

-- a table with old answers put back, of several to one key the first
abbrev pub table_before : {K A : Type 0} → (K → K → Ordering) → List (OldAnswer K A) → (K → Option A) → K → Option A
table_before cmp os table k = unwrap_or (first_answer_or cmp os k None) (table k)

-- the entries from a serial on
abbrev pub entries_since : {K A : Type 0} → ℕ → List (Logged K A) → List (Logged K A)
entries_since n [] = []
entries_since n (e ∷ es) = if nat_le n e.serial then e ∷ es else entries_since n es

-- the old answers of entries
abbrev pub answers_of : {K A : Type 0} → List (Logged K A) → List (OldAnswer K A)
answers_of es = map (λ e. e.old) es

-- the serials don't fall, from one on up to another
abbrev pub is_in_order : {K A : Type 0} → ℕ → List (Logged K A) → ℕ → Bool
is_in_order low [] high = nat_le low high
is_in_order low (e ∷ es) high = nat_le low e.serial && is_in_order e.serial es high
