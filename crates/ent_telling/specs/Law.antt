-- Equal facts, told with documents, mean equal answers.
use Rattle.std.specs.Prelude.{◌≡◌, true}
use Rattle.std.specs.Option.{ForSome}
use Rattle.std.specs.List.{All, AllByRecursion}
use Rattle.ent_values.specs.ReadBack.{HasFewYears, IsReal, IsRealDay, IsRealMoment, IsRealTime}
use Rattle.ent_values.specs.Types.{datatype_of}
use Rattle.ent_values.specs.declared.datatype.DataType.{DataType}
use Rattle.ent_values.specs.declared.value.Value.{Value}
use Rattle.ent_policy.specs.Check.{IsChecked}
use Rattle.ent_policy.specs.Values.{document_values}
use Rattle.ent_policy.specs.declared.document.Tree.{Tree}
use Rattle.ent_finder.specs.Finding.{found}
use Rattle.ent_finder.specs.Looking.{looked}
use Rattle.ent_polform.specs.ReadBack.{IsReference}
use Rattle.ent_walk.specs.Answer.{answer, recorded}
use Rattle.ent_request.specs.Environment.{date_in, date_time_in, time_in}
use Rattle.ent_request.specs.Held.{Held, looks_in}
use Rattle.ent_request.specs.declared.key.ReadKey.{ReadKey}
use Rattle.ent_request.specs.declared.key.ReadKey.TheVariants.{Root, Ref, Attr, CurrentDate, CurrentTime, CurrentDateTime}
use Rattle.ent_request.specs.declared.request.Request.{Request}
use Rattle.ent_telling.specs.Facts.{facts}

-- a document that the checker passes, no duration in which has more than 999,999,999 whole years
abbrev pub IsShort : Tree → Type 0
IsShort document = IsChecked document × AllByRecursion HasFewYears (document_values document)

-- the same of a value of a type
abbrev pub IsShortValue : DataType → Value → Type 0
IsShortValue datatype value = (datatype_of value ≡ datatype) × (IsReal value × HasFewYears value)

-- what is looked up, and what it gives, is what its type says, and no duration has more years than those
abbrev pub IsShortFact : Held → ReadKey → Type 0
IsShortFact held Root = ForSome held.root IsReference
IsShortFact held (Ref reference) = IsReference reference × ForSome (found reference held.modules) IsShort
IsShortFact held (Attr key) = All (IsShortValue key.datatype) (looked key held.sources)
IsShortFact held CurrentDate = ForSome (date_in held.environment) IsRealDay
IsShortFact held CurrentTime = ForSome (time_in held.environment) IsRealTime
IsShortFact held CurrentDateTime = ForSome (date_time_in held.environment) IsRealMoment

-- each look-up of the answer to a request is so
abbrev pub HasShortFacts : Held → Request → Type 0
HasShortFacts held request = All (IsShortFact held) (recorded (looks_in held) request)

-- where the facts of a request, told with documents, are the same of two states, so is its answer
abbrev pub EqualFactsGiveEqualAnswers : Type 0
EqualFactsGiveEqualAnswers = (one other : Held) (request : Request) → HasShortFacts one request → HasShortFacts other request
    → facts true one request ≡ facts true other request → answer (looks_in other) request ≡ answer (looks_in one) request
