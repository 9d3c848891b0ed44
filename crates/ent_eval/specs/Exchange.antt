-- One thing of what is held that is exchanged with what stands there.
use Rattle.std.specs.Prelude.{◌≡◌, ℕ, ◌<◌, List, length, IsSome, Option}
use Rattle.std.specs.FinMap.{get}
use Rattle.std.specs.Option.{ForSome}
use Rattle.ent_values.specs.Bags.{AllOfType}
use Rattle.ent_values.specs.declared.value.Value.{Value}
use Rattle.ent_policy.specs.Key.{key_of}
use Rattle.ent_policy.specs.declared.document.Tree.{Tree}
use Rattle.ent_policy.specs.declared.key.DocKey.{DocKey}
use Rattle.ent_finder.specs.Rows.{source_at, values_at}
use Rattle.ent_finder.specs.Slots.{module_at}
use Rattle.ent_finder.specs.declared.row.RowKey.{RowKey}
use Rattle.ent_request.specs.Change.{other_document, other_environment, other_root, other_values}
use Rattle.ent_request.specs.Held.{Held}
use Rattle.ent_eval.specs.Point.{Point}
use Rattle.ent_eval.specs.declared.exchange.Exchange.{Exchange}
use Rattle.ent_eval.specs.declared.exchange.Exchange.TheVariants.{Document, Row, Root, Environment}

-- what is held after an exchange
abbrev pub held_with : Held → Exchange → Held
held_with held (Document number key document) = other_document held number key document
held_with held (Row number key values) = other_values held number key values
held_with held (Root root) = other_root held root
held_with held (Environment environment) = other_environment held environment

-- the document that the module of that number holds under a key
abbrev pub document_held : Held → ℕ → DocKey → Option Tree
document_held held number key = get (module_at held.modules number) key

-- the values that the module of that number has in the row of a key
abbrev pub values_held : Held → ℕ → RowKey → List Value
values_held held number key = values_at (source_at held.sources number).rows key

-- what stands there before it, which exchanged takes it back
abbrev pub taken_from : Held → Exchange → Exchange
taken_from held (Document number key document) = Document number key (document_held held number key)
taken_from held (Row number key values) = Row number key (values_held held number key)
taken_from held (Root root) = Root held.root
taken_from held (Environment environment) = Environment held.environment

-- there is a module of that number, and what is to stand in it is of the key
abbrev pub FitsHeld : Held → Exchange → Type 0
FitsHeld held (Document number key document) = (number < length held.modules) × ForSome document (λ d. key_of d ≡ key)
FitsHeld held (Row number key values) = (number < length held.sources) × AllOfType key.datatype values
FitsHeld held (Root root) = Unit {0}
FitsHeld held (Environment environment) = Unit {0}

-- what is in the slot of a key in the module of that number, if the slot is there
abbrev pub slot_in : Point → ℕ → DocKey → Option (Option Tree)
slot_in pdp number key = get (module_at pdp.slots number) key

-- what is in the row of a key in the module of that number, if the row is there
abbrev pub row_in : Point → ℕ → RowKey → Option (List Value)
row_in pdp number key = get (source_at pdp.sources number).rows key

-- there is a place for it, so that it takes no memory
abbrev pub HasPlace : Point → Exchange → Type 0
HasPlace pdp (Document number key document) = IsSome (slot_in pdp number key)
HasPlace pdp (Row number key values) = IsSome (row_in pdp number key)
HasPlace pdp (Root root) = Unit {0}
HasPlace pdp (Environment environment) = Unit {0}
