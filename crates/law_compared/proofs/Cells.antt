-- The data of cells: which request and decision they tell, and that they read back.
use Rattle.std.proofs.Common.{◌≡◌, ℕ, ◌^◌, ◌<◌, pos, negsuc, List, [], ◌∷◌, map, false, Option, Some}
use Rattle.std.proofs.Common.{None, option_map, codes, refl, sym, ap, ◌∙◌, arith, suc, IsUtf8}
use Rattle.std.specs.Prelude.{bytes_eq, if◌then◌else◌}
use Rattle.std.specs.List.{AllByRecursion}
use Rattle.std.proofs.lemmas.Bool.{ltb-true}
use Rattle.json.proofs.Printed.Utf8.{IsUtf8-are_ascii}
use Rattle.serde_json.specs.Data as json
use Rattle.serde_json.specs.Data.{Data}
use Rattle.serde_json.specs.View.{items_of}
use Rattle.ent_values.specs.Types.{datatype_of, uri_of}
use Rattle.ent_values.specs.declared.value.Value.{Value}
use Rattle.ent_values.specs.declared.value.Value.TheVariants as values
use Rattle.ent_combine.specs.declared.outcome.IndKind.TheVariants as kind
use Rattle.ent_combine.specs.declared.outcome.Outcome.{Outcome}
use Rattle.ent_combine.specs.declared.outcome.Outcome.TheVariants as outcome
use Rattle.ent_policy.specs.Key.{kind_word}
use Rattle.ent_policy.specs.Versions.{version_text}
use Rattle.ent_policy.specs.declared.key.DocKey.{DocKey}
use Rattle.ent_policy.specs.declared.key.Kind.{Kind}
use Rattle.ent_policy.specs.declared.key.Kind.TheVariants as kinds
use Rattle.ent_polform.specs.Written.{value_written}
use Rattle.ent_polform.proofs.Fitting.{Fits, boolean_fits, list_fits, maybe_text_fits, object_fits}
use Rattle.ent_polform.proofs.Fitting.{text_fits}
use Rattle.ent_request.specs.declared.answer.Answer.{Answer}
use Rattle.ent_request.specs.declared.answer.Status.{Status}
use Rattle.ent_request.specs.declared.answer.Status.TheVariants as statuses
use Rattle.ent_request.specs.declared.answer.WhyEntry.{WhyEntry}
use Rattle.ent_request.specs.declared.given.Assignment.{Assignment}
use Rattle.ent_request.specs.declared.given.Given.{Given}
use Rattle.ent_telling.specs.Paths.{key_data, path_data, rule_data, status_text}
use Rattle.ent_profile.specs.Response.{assignment_written, given_written}
use Rattle.ent_table.specs.Names.{Triple}
use Rattle.ent_line.specs.Cells.{cell_data, entry_data, list_data}
use Rattle.ent_command.specs.Wanted.{decision_text}
use Rattle.law_restart.proofs.Utf8Data.{IfThere, IsUtf8Data}
use Rattle.law_restart.proofs.Utf8Documents.{version_utf8}
use Rattle.law_restart.proofs.Utf8Values.{uri_utf8}
use Rattle.law_restart.proofs.Utf8Written.{list_written, maybe_string, object_utf8}
use Rattle.script_compare.specs.Changes.{decision_of}
use Rattle.script_compare.specs.Tables.{names_text, request_of}
use Rattle.law_compared.proofs.GoodFunctions.{IsSmall}
use Rattle.law_compared.proofs.GoodTold.{IsGoodAnswer, IsToldAssignment, IsToldEntry, IsToldGiven, IsToldPath}

-- ---- what they tell

pub request_told : (x : Triple) (a : Answer)
    → request_of (cell_data (x, a)) ≡ Some (names_text x.person x.action x.resource)
request_told x a = refl

pub decision_told : (x : Triple) (a : Answer) → decision_of (Some (cell_data (x, a))) ≡ decision_text a.decision
decision_told x a = refl

-- ---- decisions

-- the decision that a word tells
abbrev told_by : List ℕ → Outcome
told_by word =
    if bytes_eq word (codes "Permit") then outcome.Permit
    else if bytes_eq word (codes "Deny") then outcome.Deny
    else if bytes_eq word (codes "NotApplicable") then outcome.NotApplicable
    else if bytes_eq word (codes "Indeterminate{P}") then outcome.Ind kind.P
    else if bytes_eq word (codes "Indeterminate{D}") then outcome.Ind kind.D
    else outcome.Ind kind.DP

told_back : (o : Outcome) → told_by (decision_text o) ≡ o
told_back outcome.Permit = refl
told_back outcome.Deny = refl
told_back outcome.NotApplicable = refl
told_back (outcome.Ind kind.P) = refl
told_back (outcome.Ind kind.D) = refl
told_back (outcome.Ind kind.DP) = refl

-- decisions with the same word are the same
pub decisions_told : (o p : Outcome) → decision_text o ≡ decision_text p → o ≡ p
decisions_told o p h = sym (told_back o) ∙ ap told_by h ∙ told_back p

-- and none has the word of no decision
pub some_decision : (o : Outcome) → bytes_eq (decision_text o) (codes "none") ≡ false
some_decision outcome.Permit = refl
some_decision outcome.Deny = refl
some_decision outcome.NotApplicable = refl
some_decision (outcome.Ind kind.P) = refl
some_decision (outcome.Ind kind.D) = refl
some_decision (outcome.Ind kind.DP) = refl

pub no_decision : (o : Outcome) → bytes_eq (codes "none") (decision_text o) ≡ false
no_decision outcome.Permit = refl
no_decision outcome.Deny = refl
no_decision outcome.NotApplicable = refl
no_decision (outcome.Ind kind.P) = refl
no_decision (outcome.Ind kind.D) = refl
no_decision (outcome.Ind kind.DP) = refl

-- ---- plain, and not too deep

value_fits : (v : Value) → IsSmall v → Fits 1 (value_written v)
unfolding value_written
value_fits (values.Text text) h = text_fits 0 _
value_fits (values.Boolean boolean) h = boolean_fits 0 boolean
value_fits (values.Integer (pos n)) h =
    let small : n < 2 ^ 63 = ltb-true n (2 ^ 63) h in record { plain = omega arith; shallow = omega arith }
value_fits (values.Integer (negsuc n)) h = record { plain = ltb-true n (2 ^ 63) h; shallow = omega arith }
value_fits (values.Date date) h = text_fits 0 _
value_fits (values.AnyUri uri) h = text_fits 0 _
value_fits (values.YearMonth months) h = text_fits 0 _
value_fits (values.Time time) h = text_fits 0 _
value_fits (values.DateTime moment) h = text_fits 0 _

assignment_fits : (a : Assignment) → IsToldAssignment a → Fits 2 (assignment_written a)
unfolding assignment_written
assignment_fits a h =
    object_fits 0
    ((codes "AttributeId", Some (json.string a.attribute)) ∷ (codes "Category", option_map json.string a.category)
    ∷ (codes "DataType", Some (json.string (uri_of (datatype_of a.value))))
    ∷ (codes "Issuer", option_map json.string a.issuer) ∷ (codes "Value", Some (value_written a.value)) ∷ [])
    refl (
      text_fits 0 _,
      (
        maybe_text_fits 0 a.category,
        (
          text_fits 0 _,
          (maybe_text_fits 0 a.issuer, (value_fits a.value h.value.small, tt)),
        ),
      ),
    )

assignments_fit : (as_ : List Assignment) → AllByRecursion IsToldAssignment as_
    → AllByRecursion (Fits 2) (map assignment_written as_)
assignments_fit [] h = tt
assignments_fit (a ∷ as_) h = (assignment_fits a h.0, assignments_fit as_ h.1)

given_fits : (g : Given) → IsToldGiven g → Fits 4 (given_written g)
unfolding given_written
given_fits g h =
    object_fits 2
    ((codes "AttributeAssignment", Some (json.array (items_of (map assignment_written g.assignments))))
    ∷ (codes "Id", Some (json.string g.id)) ∷ [])
    refl (
      list_fits 1 (map assignment_written g.assignments) (assignments_fit g.assignments h.assignments),
      (text_fits 2 _, tt),
    )

givens_fit : (gs : List Given) → AllByRecursion IsToldGiven gs → AllByRecursion (Fits 4) (map given_written gs)
givens_fit [] h = tt
givens_fit (g ∷ gs) h = (given_fits g h.0, givens_fit gs h.1)

key_fits : (k : DocKey) → Fits 2 (key_data k)
key_fits k = list_fits 0
    (json.string (kind_word k.kind) ∷ json.string k.id ∷ json.string (version_text k.version) ∷ [])
    (text_fits 0 _, (text_fits 0 _, (text_fits 0 _, tt)))

keys_fit : (ks : List DocKey) → AllByRecursion (Fits 2) (map key_data ks)
keys_fit [] = tt
keys_fit (k ∷ ks) = (key_fits k, keys_fit ks)

rule_fits : (n : ℕ) (o : Option (List ℕ)) → Fits (suc n) (rule_data o)
rule_fits n None = record { plain = tt; shallow = omega arith }
rule_fits n (Some id) = text_fits n id

entry_fits : (e : WhyEntry) → Fits 4 (entry_data e)
entry_fits e = object_fits 2
    ((codes "path", Some (path_data e.path)) ∷ (codes "rule", Some (rule_data e.rule)) ∷ []) refl
    (list_fits 1 (map key_data e.path) (keys_fit e.path), (rule_fits 2 e.rule, tt))

entries_fit : (es : List WhyEntry) → AllByRecursion (Fits 4) (map entry_data es)
entries_fit [] = tt
entries_fit (e ∷ es) = (entry_fits e, entries_fit es)

-- a cell
pub cell_fits : (x : Triple) (a : Answer) → IsGoodAnswer a → Fits 6 (cell_data (x, a))
cell_fits x a h =
    object_fits 4
    ((codes "action", Some (json.string x.action)) ∷ (codes "advice", Some (list_data given_written a.advice))
    ∷ (codes "decision", Some (json.string (decision_text a.decision)))
    ∷ (codes "obligations", Some (list_data given_written a.obligations))
    ∷ (codes "person", Some (json.string x.person)) ∷ (codes "resource", Some (json.string x.resource))
    ∷ (codes "status", Some (json.string (status_text a.status))) ∷ (codes "why", Some (list_data entry_data a.why))
    ∷ [])
    refl (
      text_fits 4 _,
      (
        list_fits 3 (map given_written a.advice) (givens_fit a.advice h.advice),
        (
          text_fits 4 _,
          (
            list_fits 3 (map given_written a.obligations) (givens_fit a.obligations h.obligations),
            (
              text_fits 4 _,
              (
                text_fits 4 _,
                (
                  text_fits 4 _,
                  (
                    list_fits 3 (map entry_data a.why) (entries_fit a.why),
                    tt,
                  ),
                ),
              ),
            ),
          ),
        ),
      ),
    )

-- ---- UTF-8

-- the names of a request are UTF-8
pub record AreUtf8Names (x : Triple) : Type 0 where
  pub person : IsUtf8 x.person
  pub action : IsUtf8 x.action
  pub resource : IsUtf8 x.resource

decision_utf8 : (o : Outcome) → IsUtf8 (decision_text o)
decision_utf8 outcome.Permit = IsUtf8-are_ascii _ refl
decision_utf8 outcome.Deny = IsUtf8-are_ascii _ refl
decision_utf8 outcome.NotApplicable = IsUtf8-are_ascii _ refl
decision_utf8 (outcome.Ind kind.P) = IsUtf8-are_ascii _ refl
decision_utf8 (outcome.Ind kind.D) = IsUtf8-are_ascii _ refl
decision_utf8 (outcome.Ind kind.DP) = IsUtf8-are_ascii _ refl

status_utf8 : (s : Status) → IsUtf8 (status_text s)
status_utf8 statuses.Okay = IsUtf8-are_ascii _ refl
status_utf8 statuses.MissingAttribute = IsUtf8-are_ascii _ refl
status_utf8 statuses.ProcessingError = IsUtf8-are_ascii _ refl

kind_utf8 : (k : Kind) → IsUtf8 (kind_word k)
kind_utf8 kinds.Policy = IsUtf8-are_ascii _ refl
kind_utf8 kinds.PolicySet = IsUtf8-are_ascii _ refl

assignment_utf8 : (a : Assignment) → IsToldAssignment a → IsUtf8Data (assignment_written a)
unfolding assignment_written
assignment_utf8 a h =
    object_utf8
    ((codes "AttributeId", Some (json.string a.attribute)) ∷ (codes "Category", option_map json.string a.category)
    ∷ (codes "DataType", Some (json.string (uri_of (datatype_of a.value))))
    ∷ (codes "Issuer", option_map json.string a.issuer) ∷ (codes "Value", Some (value_written a.value)) ∷ []) (
      (refl, h.attribute),
      (
        (refl, maybe_string a.category h.category),
        ((refl, uri_utf8 (datatype_of a.value)), ((refl, maybe_string a.issuer h.issuer), ((refl, h.value.utf8), tt))),
      ),
    )

assignments_utf8 : (as_ : List Assignment) → AllByRecursion IsToldAssignment as_
    → AllByRecursion IsUtf8Data (map assignment_written as_)
assignments_utf8 [] h = tt
assignments_utf8 (a ∷ as_) h = (assignment_utf8 a h.0, assignments_utf8 as_ h.1)

given_utf8 : (g : Given) → IsToldGiven g → IsUtf8Data (given_written g)
unfolding given_written
given_utf8 g h =
    object_utf8
    ((codes "AttributeAssignment", Some (json.array (items_of (map assignment_written g.assignments))))
    ∷ (codes "Id", Some (json.string g.id)) ∷ []) (
      (refl, list_written (map assignment_written g.assignments) (assignments_utf8 g.assignments h.assignments)),
      ((refl, h.id), tt),
    )

givens_utf8 : (gs : List Given) → AllByRecursion IsToldGiven gs → AllByRecursion IsUtf8Data (map given_written gs)
givens_utf8 [] h = tt
givens_utf8 (g ∷ gs) h = (given_utf8 g h.0, givens_utf8 gs h.1)

keys_utf8 : (ks : List DocKey) → IsToldPath ks → AllByRecursion IsUtf8Data (map key_data ks)
keys_utf8 [] h = tt
keys_utf8 (k ∷ ks) h = ((kind_utf8 k.kind, (h.0, (version_utf8 k.version, tt))), keys_utf8 ks h.1)

rule_utf8 : (o : Option (List ℕ)) → IfThere IsUtf8 o → IsUtf8Data (rule_data o)
rule_utf8 None h = tt
rule_utf8 (Some id) h = h

entries_utf8 : (es : List WhyEntry) → AllByRecursion IsToldEntry es → AllByRecursion IsUtf8Data (map entry_data es)
entries_utf8 [] h = tt
entries_utf8 (e ∷ es) h = (
  object_utf8 ((codes "path", Some (path_data e.path)) ∷ (codes "rule", Some (rule_data e.rule)) ∷ []) (
    (refl, list_written (map key_data e.path) (keys_utf8 e.path h.0.path)),
    ((refl, rule_utf8 e.rule h.0.rule), tt),
  ),
  entries_utf8 es h.1,
)

-- a cell
pub cell_utf8 : (x : Triple) (a : Answer) → AreUtf8Names x → IsGoodAnswer a → IsUtf8Data (cell_data (x, a))
cell_utf8 x a n h =
    object_utf8
    ((codes "action", Some (json.string x.action)) ∷ (codes "advice", Some (list_data given_written a.advice))
    ∷ (codes "decision", Some (json.string (decision_text a.decision)))
    ∷ (codes "obligations", Some (list_data given_written a.obligations))
    ∷ (codes "person", Some (json.string x.person)) ∷ (codes "resource", Some (json.string x.resource))
    ∷ (codes "status", Some (json.string (status_text a.status))) ∷ (codes "why", Some (list_data entry_data a.why))
    ∷ []) (
      (refl, n.action),
      (
        (refl, list_written (map given_written a.advice) (givens_utf8 a.advice h.advice)),
        (
          (refl, decision_utf8 a.decision),
          (
            (
              refl,
              list_written (map given_written a.obligations)
                  (givens_utf8 a.obligations h.obligations),
            ),
            (
              (refl, n.person),
              (
                (refl, n.resource),
                (
                  (refl, status_utf8 a.status),
                  ((refl, list_written (map entry_data a.why) (entries_utf8 a.why h.why)), tt),
                ),
              ),
            ),
          ),
        ),
      ),
    )
