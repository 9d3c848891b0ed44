-- A part of an evaluation: what it comes to, and what is noted of it.
use Rattle.std.specs.Prelude.{ℕ, List, [], ◌∷◌, ◌++◌, Bool, if◌then◌else◌, map}
use Rattle.ent_combine.specs.Seen.{up_to_first}
use Rattle.ent_policy.specs.declared.key.DocKey.{DocKey}
use Rattle.ent_request.specs.declared.cause.What.{What}
use Rattle.ent_request.specs.declared.question.Question.{Question}
use Rattle.ent_request.specs.Note.{Note, asks, failing, note_of_rule, note_within, passed_over}

-- a value, the questions that are asked for it, as often as they are asked, and what fails by itself, in their order
pub record Part (A : Type 0) : Type 0 where
  pub value : A
  pub notes : List Note

-- a value for which nothing is asked
abbrev pub without_look : {A : Type 0} → A → Part A
without_look x = record { value = x; notes = [] }

-- a value of something that fails by itself
abbrev pub that_fails : {A : Type 0} → What → A → Part A
that_fails what x = record { value = x; notes = failing what }

-- a part before which one question is asked
abbrev pub after_look : {A : Type 0} → Question → Part A → Part A
after_look question p = record { value = p.value; notes = asks question ∷ p.notes }

-- a part behind which something may fail by itself, which its value tells
abbrev pub and_fails : {A : Type 0} → Part A → (A → List Note) → Part A
and_fails p failures = record { value = p.value; notes = p.notes ++ failures p.value }

-- what follows from a part's value
abbrev pub and_then : {A B : Type 0} → Part A → (A → Part B) → Part B
and_then p f = record { value = (f p.value).value; notes = p.notes ++ (f p.value).notes }

-- a function of a part's value
abbrev pub mapped : {A B : Type 0} → (A → B) → Part A → Part B
mapped f p = record { value = f p.value; notes = p.notes }

-- a part that stands in a policy or a set
abbrev pub within : {A : Type 0} → DocKey → Part A → Part A
within key p = record { value = p.value; notes = map (note_within key) p.notes }

-- a part that stands in a rule
abbrev pub of_rule : {A : Type 0} → List ℕ → Part A → Part A
of_rule id p = record { value = p.value; notes = map (note_of_rule id) p.notes }

-- a part in which what fails is passed over, unless its value is Indeterminate
abbrev pub settled : {A : Type 0} → (A → Bool) → Part A → Part A
settled is_so p = record { value = p.value; notes = if is_so p.value then p.notes else map passed_over p.notes }

-- what several parts come to
abbrev pub values : {A : Type 0} → List (Part A) → List A
values [] = []
values (p ∷ ps) = p.value ∷ values ps

-- what is noted of several parts
abbrev pub notes_of : {A : Type 0} → List (Part A) → List Note
notes_of [] = []
notes_of (p ∷ ps) = p.notes ++ notes_of ps

-- the parts that are seen: up to the first whose value fixes the whole
abbrev pub seen_parts : {A : Type 0} → (A → Bool) → List (Part A) → List (Part A)
seen_parts fixed ps = up_to_first (λ p. fixed p.value) ps

-- a whole of parts: its value rests on all of them, its notes are those of the parts that are seen
abbrev pub whole : {A B : Type 0} → (A → Bool) → (List A → B) → List (Part A) → Part B
whole fixed of_values ps = record { value = of_values (values ps); notes = notes_of (seen_parts fixed ps) }
