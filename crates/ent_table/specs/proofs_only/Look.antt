-- What keys give before an exchange, and which of them give another after it.
use Rattle.std.specs.Prelude.{◌≡◌, List, [], ◌∷◌, Bool, true, not, if◌then◌else◌, map, Option, None}
use Rattle.std.specs.Option.{option_eq}
use Rattle.ent_policy.specs.Same.{same_document}
use Rattle.ent_policy.specs.declared.document.Tree.{Tree}
use Rattle.ent_request.specs.Change.{asks_environment, asks_root}
use Rattle.ent_request.specs.Environment.{date_in, date_time_in, time_in}
use Rattle.ent_request.specs.Held.{looks_in}
use Rattle.ent_request.specs.Noted.{has_key}
use Rattle.ent_request.specs.SameLook.{same_look}
use Rattle.ent_request.specs.declared.key.ReadKey.{ReadKey}
use Rattle.ent_request.specs.declared.key.ReadKey.TheVariants as keys
use Rattle.ent_index.specs.Asked.{asks_policy, asks_row}
use Rattle.ent_cells.specs.Cell.{Kept, is_read}
use Rattle.ent_table.specs.contracts.look.LookPartialEq.TheImpl as looks
use Rattle.ent_eval.specs.declared.exchange.Exchange.{Exchange}
use Rattle.ent_eval.specs.declared.exchange.Exchange.TheVariants.{Document, Row, Root, Environment}
use Rattle.ent_table.specs.declared.look.Look.{Look}
use Rattle.ent_table.specs.declared.look.Look.TheVariants as look
use Rattle.ent_table.specs.declared.look.OfTwo.{OfTwo}
use Rattle.ent_table.specs.declared.look.OfTwo.TheVariants.{Former, Next, Neither}
use Rattle.ent_table.specs.declared.look.Seen.{Seen}
use Rattle.ent_table.specs.proofs_only.Exchange.{document_in, taken, with_exchange}
use Rattle.ent_table.specs.State.{State}

-- a key that gives another after one thing is exchanged asks for that
abbrev pub asks : Exchange → ReadKey → Bool
asks (Document number key document) k = asks_policy key.kind key.id k
asks (Row number row values) k = asks_row row k
asks (Root root) k = asks_root k
asks (Environment environment) k = asks_environment k

-- the keys of the environment
abbrev pub environment_keys : List ReadKey
environment_keys = keys.CurrentDate ∷ keys.CurrentTime ∷ keys.CurrentDateTime ∷ []

-- ---- what a key gives before an exchange

-- which of two documents is found
abbrev pub which : Option Tree → Option Tree → Option Tree → OfTwo
which former next found =
    if option_eq same_document former found then Former
    else (if option_eq same_document next found then Next else Neither)

-- of a reference, which of the two that are exchanged
abbrev pub look_of : State → Exchange → ReadKey → Look
look_of s x keys.Root = look.Root s.held.root
look_of s x (keys.Ref reference) =
    look.Document (which (document_in (taken s x)) (document_in x) ((looks_in s.held).document reference))
look_of s x (keys.Attr key) = look.Values ((looks_in s.held).values key)
look_of s x keys.CurrentDate = look.Date (date_in s.held.environment)
look_of s x keys.CurrentTime = look.Time (time_in s.held.environment)
look_of s x keys.CurrentDateTime = look.DateTime (date_time_in s.held.environment)

-- that is kept of a key
abbrev pub IsSeen : State → Exchange → Seen → Type 0
IsSeen s x e = e.look ≡ look_of s x e.key

-- the keys of which it is kept
abbrev pub keys_in : List Seen → List ReadKey
keys_in es = map (λ e. e.key) es

-- ---- whether it gives another after it

-- the document that a key finds, if it is a reference that finds one
abbrev pub found_by : State → ReadKey → Option Tree
found_by s (keys.Ref reference) = (looks_in s.held).document reference
found_by s _ = None

-- a key of which is told which of two documents it found
abbrev pub finds_another : Option Tree → Option Tree → OfTwo → Option Tree → Bool
finds_another former next Former found = not (option_eq same_document former found)
finds_another former next Next found = not (option_eq same_document next found)
finds_another former next Neither found = option_eq same_document next found

-- a key that gave this, in the state behind the exchange, which has now what stood there
abbrev pub gives_other : State → Exchange → Look → ReadKey → Bool
gives_other t back (look.Document of_two) key =
    finds_another (document_in back) (document_in (taken t back)) of_two (found_by t key)
gives_other t back before key = not ((looks.ghosts).eq before (look_of t back key))

-- a key of which it is kept
abbrev pub is_another : State → Exchange → Seen → Bool
is_another t back e = gives_other t back e.look e.key

-- whether a key gives another in the second state
abbrev pub gives_another : State → State → ReadKey → Bool
gives_another s t k = not (same_look (looks_in s.held) (looks_in t.held) k)

-- of the keys that a cell reads, those are among these that give another once an exchange is made
abbrev pub AreChanged : State → Exchange → List Kept → List ReadKey → Type 0
AreChanged s x cells keys =
    (k : ReadKey) → is_read cells k ≡ true → has_key keys k ≡ gives_another s (with_exchange s x) k
