-- The response to a request, in this profile of the JSON Profile of XACML 3.0. Absent parts and empty lists are left out, but for the
-- list of an obligation's or an advice's assignments. The keys of an object stand in byte order.
use Rattle.std.specs.Prelude.{ℕ, List, [], ◌∷◌, map, filter_map, if◌then◌else◌, Option, Some, None, option_map, codes}
use Rattle.serde_json.specs.Data as json
use Rattle.serde_json.specs.Data.{Data}
use Rattle.serde_json.specs.View.{items_of}
use Rattle.ent_values.specs.Types.{datatype_of, uri_of}
use Rattle.ent_values.specs.declared.value.Value.{Value}
use Rattle.ent_combine.specs.declared.outcome.Outcome.{Outcome}
use Rattle.ent_combine.specs.declared.outcome.Outcome.TheVariants as outcome
use Rattle.ent_json.specs.Members.{filled_list, only_member, optional}
use Rattle.ent_polform.specs.Written.{value_written}
use Rattle.ent_request.specs.declared.answer.Answer.{Answer}
use Rattle.ent_request.specs.declared.answer.Status.{Status}
use Rattle.ent_request.specs.declared.answer.Status.TheVariants as status
use Rattle.ent_request.specs.declared.given.Assignment.{Assignment}
use Rattle.ent_request.specs.declared.given.Given.{Given}
use Rattle.ent_request.specs.declared.request.Attribute.{Attribute}
use Rattle.ent_request.specs.declared.request.Category.{Category}
use Rattle.ent_request.specs.declared.request.Request.{Request}

-- ---- obligations and advice

-- an AttributeAssignment (section 5.36)
unfoldable pub assignment_written : Assignment → Data
assignment_written a = json.object (
    json.member (codes "AttributeId") (json.string a.attribute)
    (optional (codes "Category") (option_map json.string a.category)
    (json.member (codes "DataType") (json.string (uri_of (datatype_of a.value)))
    (optional (codes "Issuer") (option_map json.string a.issuer)
    (json.member (codes "Value") (value_written a.value)
    json.no_members)))))

-- an obligation or an advice (sections 5.34 and 5.35)
unfoldable pub given_written : Given → Data
given_written g = json.object (
    json.member (codes "AttributeAssignment") (json.array (items_of (map assignment_written g.assignments)))
    (json.member (codes "Id") (json.string g.id)
    json.no_members))

-- ---- what is included of the request

-- one value as itself, else an array
abbrev pub values_written : List Value → Data
values_written [] = json.array json.no_items
values_written (v ∷ []) = value_written v
values_written (v ∷ w ∷ vs) = json.array (items_of (map value_written (v ∷ w ∷ vs)))

-- an attribute (section 5.46)
unfoldable pub attribute_written : Attribute → Data
attribute_written a = json.object (
    json.member (codes "AttributeId") (json.string a.id)
    (json.member (codes "DataType") (json.string (uri_of a.bag.datatype))
    (optional (codes "Issuer") (option_map json.string a.issuer)
    (json.member (codes "Value") (values_written a.bag.values)
    json.no_members))))

-- an attribute that the request wants in the result
abbrev pub included : Attribute → Option Data
included a = if a.included then Some (attribute_written a) else None

-- the attributes of a category with its URI
abbrev pub category_with : List ℕ → Data → Data
category_with id attributes = json.object (json.member (codes "Attribute") attributes (json.member (codes "CategoryId") (json.string id) json.no_members))

-- a category with the attributes that the request wants in the result, if it has one
unfoldable pub category_written : Category → Option Data
category_written c = option_map (category_with c.id) (filled_list (filter_map included c.attributes))

-- ---- the result

-- the word of a decision (section 5.53); of an Indeterminate it isn't told what it could have been
abbrev pub decision_word : Outcome → List ℕ
decision_word outcome.Permit = codes "Permit"
decision_word outcome.Deny = codes "Deny"
decision_word outcome.NotApplicable = codes "NotApplicable"
decision_word (outcome.Ind kind) = codes "Indeterminate"

-- the URI of a status (appendix B.8)
abbrev pub status_uri : Status → List ℕ
status_uri status.Okay = codes "urn:oasis:names:tc:xacml:1.0:status:ok"
status_uri status.MissingAttribute = codes "urn:oasis:names:tc:xacml:1.0:status:missing-attribute"
status_uri status.ProcessingError = codes "urn:oasis:names:tc:xacml:1.0:status:processing-error"

-- a Status (section 5.54) with its code alone
abbrev pub status_written : Status → Data
status_written s = only_member (codes "StatusCode") (only_member (codes "Value") (json.string (status_uri s)))

-- a Result (section 5.48)
unfoldable pub result_written : Answer → Request → Data
result_written answer request = json.object (
    optional (codes "AssociatedAdvice") (filled_list (map given_written answer.advice))
    (optional (codes "Category") (filled_list (filter_map category_written request.categories))
    (json.member (codes "Decision") (json.string (decision_word answer.decision))
    (optional (codes "Obligations") (filled_list (map given_written answer.obligations))
    (json.member (codes "Status") (status_written answer.status)
    json.no_members)))))

-- the response to a request that has that answer (section 5.47)
unfoldable pub response : Answer → Request → Data
response answer request = only_member (codes "Response") (json.array (json.item (result_written answer request) json.no_items))
