-- Keys that are asked for by a row, or by a kind and an id, and that cells read.
use Rattle.std.specs.Prelude.{◌≡◌, ℕ, List, [], ◌∷◌, Bool, true, false, if◌then◌else◌, Option, Some, None}
use Rattle.slab.specs.Slab.{Slab, get}
use Rattle.ent_policy.specs.declared.key.Kind.{Kind}
use Rattle.ent_finder.specs.declared.row.RowKey.{RowKey}
use Rattle.ent_request.specs.declared.key.ReadKey.{ReadKey}
use Rattle.ent_request.specs.declared.key.ReadKey.TheVariants as key
use Rattle.ent_request.specs.declared.question.Question.{Question}
use Rattle.ent_request.specs.declared.question.Question.TheVariants.{Ref}
use Rattle.ent_request.specs.Noted.{has_key}
use Rattle.ent_request.specs.QuestionOf.{question_of}
use Rattle.ent_request.specs.Questions.{is_asked}
use Rattle.ent_index.specs.Asked.{asks_policy}
use Rattle.ent_cells.specs.Entries.{Entry}

-- the key of the values that the issuer gives of what a row is of, or without an issuer of those that anyone gives
abbrev pub key_of_row : RowKey → Option (List ℕ) → ReadKey
key_of_row row issuer = key.Attr (record { category = row.category; entity = row.entity; attribute = row.attribute; datatype = row.datatype; issuer = issuer })

-- a key, if its question is one of these
abbrev pub asked_keys : List Question → ReadKey → List ReadKey
asked_keys questions k = if is_asked questions (question_of k) then k ∷ [] else []

-- the key that is looked up for a question, if that is a reference of a kind and an id
abbrev pub reference_of : Kind → List ℕ → Question → Option ReadKey
reference_of kind id (Ref reference) = if asks_policy kind id (key.Ref reference) then Some (key.Ref reference) else None
reference_of kind id _ = None

-- whether there is a cell, and it reads a key
abbrev pub reads_at : Option Entry → ReadKey → Bool
reads_at None k = false
reads_at (Some e) k = has_key e.kept.said.reads k

-- each key that passes a test and that a cell reads is among these
abbrev pub HasKeysOf : (ReadKey → Bool) → Slab Entry → List ReadKey → Type 0
HasKeysOf asks entries keys =
    (k : ReadKey) (c : ℕ) → asks k ≡ true → reads_at (get entries c) k ≡ true → has_key keys k ≡ true
