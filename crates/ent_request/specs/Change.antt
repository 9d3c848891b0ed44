-- What is held with one thing changed, and the keys of look-ups that may give another for it.
use Rattle.std.specs.Prelude.{◌≡◌, ℕ, List, Bool, false, true, Option}
use Rattle.ent_values.specs.declared.value.Value.{Value}
use Rattle.ent_finder.specs.Finding.{is_of}
use Rattle.ent_finder.specs.Looking.{names_row}
use Rattle.ent_finder.specs.Rows.{with_values_in}
use Rattle.ent_finder.specs.Slots.{with_document_in}
use Rattle.ent_finder.specs.declared.row.RowKey.{RowKey}
use Rattle.ent_policy.specs.declared.document.Tree.{Tree}
use Rattle.ent_policy.specs.declared.key.DocKey.{DocKey}
use Rattle.ent_policy.specs.declared.key.Reference.{Reference}
use Rattle.ent_request.specs.declared.environment.Environment.{Environment}
use Rattle.ent_request.specs.declared.key.ReadKey.{ReadKey}
use Rattle.ent_request.specs.declared.key.ReadKey.TheVariants as keys
use Rattle.ent_request.specs.Held.{Held, looks_in}
use Rattle.ent_request.specs.SameLook.{IsSameLook}

-- ---- one thing changed

-- another root, or none
abbrev pub other_root : Held → Option Reference → Held
other_root held root = record held { root = root }

-- another document under a key in one module, or none
abbrev pub other_document : Held → ℕ → DocKey → Option Tree → Held
other_document held number key document = record held { modules = with_document_in held.modules number key document }

-- other values in a row of one module, or no row where there are none
abbrev pub other_values : Held → ℕ → RowKey → List Value → Held
other_values held number row values = record held { sources = with_values_in held.sources number row values }

-- something else known of the time
abbrev pub other_environment : Held → Environment → Held
other_environment held environment = record held { environment = environment }

-- ---- the keys for which that may matter

-- a key asks for the root
abbrev pub asks_root : ReadKey → Bool
asks_root keys.Root = true
asks_root _ = false

-- a key asks for a document of the same kind and id as one with this key
abbrev pub asks_document : DocKey → ReadKey → Bool
asks_document key (keys.Ref reference) = is_of reference key
asks_document key _ = false

-- a key asks for values and names this row
abbrev pub asks_row : RowKey → ReadKey → Bool
asks_row row (keys.Attr key) = names_row key row
asks_row row _ = false

-- a key asks for the date, for the time, or for both together
abbrev pub asks_environment : ReadKey → Bool
asks_environment keys.CurrentDate = true
asks_environment keys.CurrentTime = true
asks_environment keys.CurrentDateTime = true
asks_environment _ = false

-- ---- every other key gives the same

-- with another root, each key but that of the root
abbrev pub RootLeavesOthers : Type 0
RootLeavesOthers = (held : Held) (root : Option Reference) (key : ReadKey) → asks_root key ≡ false
    → IsSameLook (looks_in held) (looks_in (other_root held root)) key

-- with another document, each key but references of its kind and id
abbrev pub DocumentLeavesOthers : Type 0
DocumentLeavesOthers = (held : Held) (number : ℕ) (document_key : DocKey) (document : Option Tree) (key : ReadKey) → asks_document document_key key ≡ false
    → IsSameLook (looks_in held) (looks_in (other_document held number document_key document)) key

-- with other values in a row, each key but those that name the row
abbrev pub ValuesLeaveOthers : Type 0
ValuesLeaveOthers = (held : Held) (number : ℕ) (row : RowKey) (values : List Value) (key : ReadKey) → asks_row row key ≡ false
    → IsSameLook (looks_in held) (looks_in (other_values held number row values)) key

-- where something else is known of the time, each key but those of the date, of the time, and of both together
abbrev pub EnvironmentLeavesOthers : Type 0
EnvironmentLeavesOthers = (held : Held) (environment : Environment) (key : ReadKey) → asks_environment key ≡ false
    → IsSameLook (looks_in held) (looks_in (other_environment held environment)) key
