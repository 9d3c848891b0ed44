-- Why parts of an answer are Indeterminate, as it is told: where each stands, and what went wrong there.
use Rattle.std.specs.Prelude.{ℕ, ◌-◌, List, length, map, take, codes}
use Rattle.std.specs.Option.{option_map_or}
use Rattle.serde_json.specs.Data as json
use Rattle.serde_json.specs.Data.{Data}
use Rattle.serde_json.specs.View.{items_of}
use Rattle.ent_values.specs.Types.{uri_of}
use Rattle.ent_functions.specs.Identifiers.{id_of}
use Rattle.ent_functions.specs.declared.arg.Fault.{Fault}
use Rattle.ent_functions.specs.declared.arg.Fault.TheVariants as fault
use Rattle.ent_functions.specs.declared.function.Function.{Function}
use Rattle.ent_json.specs.Members.{only_member}
use Rattle.ent_polform.specs.Written.{reference_written}
use Rattle.ent_telling.specs.Paths.{path_data, rule_data, status_text}
use Rattle.ent_request.specs.declared.cause.Cause.{Cause}
use Rattle.ent_request.specs.declared.cause.What.{What}
use Rattle.ent_request.specs.declared.cause.What.TheVariants as what
use Rattle.ent_request.specs.declared.question.Asked.{Asked}

-- the word of what a function fails by
abbrev pub fault_word : Fault → List ℕ
fault_word fault.DivideByZero = codes "division-by-zero"
fault_word fault.Overflow = codes "integer-overflow"
fault_word fault.NotSingle = codes "not-one-value"
fault_word fault.DateRange = codes "date-out-of-range"
fault_word fault.Memory = codes "out-of-memory"

-- what was asked of an attribute. Its issuer is null where any will do
abbrev pub asked_data : Asked → Data
asked_data asked = json.object (
    json.member (codes "attribute") (json.string asked.attribute)
    (json.member (codes "category") (json.string asked.category)
    (json.member (codes "datatype") (json.string (uri_of asked.datatype))
    (json.member (codes "issuer") (option_map_or json.string asked.issuer json.null) json.no_members))))

-- a function that has no result
abbrev pub fault_data : Function → Fault → Data
fault_data function fault = json.object (
    json.member (codes "fault") (json.string (fault_word fault))
    (json.member (codes "function") (json.string (id_of function)) json.no_members))

-- what went wrong
abbrev pub what_data : What → Data
what_data (what.Missing asked) = only_member (codes "missing") (asked_data asked)
what_data (what.Fault function fault) = fault_data function fault
what_data (what.Unfound reference) = only_member (codes "unfound") (reference_written reference)
what_data (what.TooFar reference) = only_member (codes "too_far") (reference_written reference)
what_data what.Several = json.string (codes "several")
what_data what.Unfit = json.string (codes "unfit")

-- ---- causes

-- a part that came to Indeterminate by itself
abbrev pub cause_data : Cause → Data
cause_data cause = json.object (
    json.member (codes "path") (path_data cause.path)
    (json.member (codes "rule") (rule_data cause.rule)
    (json.member (codes "status") (json.string (status_text cause.status))
    (json.member (codes "what") (what_data cause.what) json.no_members))))

-- at most so many causes are told
abbrev pub most_told : ℕ
most_told = 32

-- the first of some causes
abbrev pub causes_data : List Cause → Data
causes_data causes = json.array (items_of (map cause_data (take most_told causes)))

-- how many there are besides
abbrev pub untold : List Cause → ℕ
untold causes = length causes - most_told
