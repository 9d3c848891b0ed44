-- The URIs that name the functions (appendix A.3, and section 10.2.8 for the whole list).
use Rattle.std.specs.Prelude.{◌≡◌, ◌↔◌, ℕ, List, [], ◌∷◌, ◌++◌, Option, Some, map, find, flat_map, bytes_eq, codes}
use Rattle.ent_functions.specs.declared.function.Element.{Element}
use Rattle.ent_functions.specs.declared.function.Element.TheVariants as elements
use Rattle.ent_functions.specs.declared.function.Ordered.{Ordered}
use Rattle.ent_functions.specs.declared.function.Ordered.TheVariants as ordered
use Rattle.ent_functions.specs.declared.function.Comparison.{Comparison}
use Rattle.ent_functions.specs.declared.function.Comparison.TheVariants.{GreaterThan, GreaterThanOrEqual, LessThan, LessThanOrEqual}
use Rattle.ent_functions.specs.declared.function.Function.{Function}
use Rattle.ent_functions.specs.declared.function.Function.TheVariants as functions

-- the word for a type in the names of its functions
abbrev pub element_word : Element → List ℕ
element_word elements.Text = codes "string"
element_word elements.Boolean = codes "boolean"
element_word elements.Integer = codes "integer"
element_word elements.Date = codes "date"
element_word elements.AnyUri = codes "anyURI"
element_word elements.Time = codes "time"
element_word elements.DateTime = codes "dateTime"

-- the word for a type with an order
abbrev pub ordered_word : Ordered → List ℕ
ordered_word ordered.Integer = codes "integer"
ordered_word ordered.Text = codes "string"
ordered_word ordered.Date = codes "date"
ordered_word ordered.Time = codes "time"
ordered_word ordered.DateTime = codes "dateTime"

-- how the name of a comparison ends
abbrev pub comparison_word : Comparison → List ℕ
comparison_word GreaterThan = codes "-greater-than"
comparison_word GreaterThanOrEqual = codes "-greater-than-or-equal"
comparison_word LessThan = codes "-less-than"
comparison_word LessThanOrEqual = codes "-less-than-or-equal"

-- the version of the standard that a function's URI names: 1.0 but for the functions that 2.0 and 3.0 brought
unfoldable pub prefix_of : Function → List ℕ
prefix_of functions.Concatenate = codes "urn:oasis:names:tc:xacml:2.0:function:"
prefix_of functions.StartsWith = codes "urn:oasis:names:tc:xacml:3.0:function:"
prefix_of functions.EndsWith = codes "urn:oasis:names:tc:xacml:3.0:function:"
prefix_of functions.Contains = codes "urn:oasis:names:tc:xacml:3.0:function:"
prefix_of functions.DateAdd = codes "urn:oasis:names:tc:xacml:3.0:function:"
prefix_of functions.DateSubtract = codes "urn:oasis:names:tc:xacml:3.0:function:"
prefix_of functions.AnyOf = codes "urn:oasis:names:tc:xacml:3.0:function:"
prefix_of functions.AllOf = codes "urn:oasis:names:tc:xacml:3.0:function:"
prefix_of _ = codes "urn:oasis:names:tc:xacml:1.0:function:"

-- how the name of a function begins: the type, where there is one function for each of several types
unfoldable pub type_word_of : Function → List ℕ
type_word_of (functions.Equal element) = element_word element
type_word_of (functions.Compare comparison order) = ordered_word order
type_word_of (functions.OneAndOnly element) = element_word element
type_word_of (functions.BagSize element) = element_word element
type_word_of (functions.IsIn element) = element_word element
type_word_of (functions.Bag element) = element_word element
type_word_of (functions.Intersection element) = element_word element
type_word_of (functions.Union element) = element_word element
type_word_of (functions.AtLeastOneMemberOf element) = element_word element
type_word_of (functions.Subset element) = element_word element
type_word_of (functions.SetEquals element) = element_word element
type_word_of _ = []

-- how the name goes on
unfoldable pub operation_of : Function → List ℕ
operation_of (functions.Equal element) = codes "-equal"
operation_of (functions.Compare comparison order) = comparison_word comparison
operation_of functions.Add = codes "integer-add"
operation_of functions.Subtract = codes "integer-subtract"
operation_of functions.Multiply = codes "integer-multiply"
operation_of functions.Divide = codes "integer-divide"
operation_of functions.Mod = codes "integer-mod"
operation_of functions.Abs = codes "integer-abs"
operation_of functions.Or = codes "or"
operation_of functions.And = codes "and"
operation_of functions.Not = codes "not"
operation_of (functions.OneAndOnly element) = codes "-one-and-only"
operation_of (functions.BagSize element) = codes "-bag-size"
operation_of (functions.IsIn element) = codes "-is-in"
operation_of (functions.Bag element) = codes "-bag"
operation_of (functions.Intersection element) = codes "-intersection"
operation_of (functions.Union element) = codes "-union"
operation_of (functions.AtLeastOneMemberOf element) = codes "-at-least-one-member-of"
operation_of (functions.Subset element) = codes "-subset"
operation_of (functions.SetEquals element) = codes "-set-equals"
operation_of functions.Concatenate = codes "string-concatenate"
operation_of functions.StartsWith = codes "string-starts-with"
operation_of functions.EndsWith = codes "string-ends-with"
operation_of functions.Contains = codes "string-contains"
operation_of functions.DateAdd = codes "date-add-yearMonthDuration"
operation_of functions.DateSubtract = codes "date-subtract-yearMonthDuration"
operation_of functions.AnyOf = codes "any-of"
operation_of functions.AllOf = codes "all-of"

-- the URI of a function
unfoldable pub id_of : Function → List ℕ
id_of function = prefix_of function ++ (type_word_of function ++ operation_of function)

-- every type of the functions on equality, bags and sets
abbrev pub all_elements : List Element
all_elements =
    elements.Text ∷ elements.Boolean ∷ elements.Integer ∷ elements.Date ∷ elements.AnyUri
    ∷ elements.Time ∷ elements.DateTime ∷ []

-- every type with an order
abbrev pub all_ordered : List Ordered
all_ordered = ordered.Integer ∷ ordered.Text ∷ ordered.Date ∷ ordered.Time ∷ ordered.DateTime ∷ []

-- every comparison
abbrev pub all_comparisons : List Comparison
all_comparisons = GreaterThan ∷ GreaterThanOrEqual ∷ LessThan ∷ LessThanOrEqual ∷ []

-- the functions that there are for one type of the functions on equality, bags and sets
abbrev pub functions_at : Element → List Function
functions_at element =
    functions.Equal element ∷ functions.OneAndOnly element ∷ functions.BagSize element ∷ functions.IsIn element
    ∷ functions.Bag element ∷ functions.Intersection element ∷ functions.Union element
    ∷ functions.AtLeastOneMemberOf element ∷ functions.Subset element ∷ functions.SetEquals element ∷ []

-- the comparisons at one type with an order
abbrev pub comparisons_at : Ordered → List Function
comparisons_at order = map (λ comparison. functions.Compare comparison order) all_comparisons

-- the functions of which there is one alone
abbrev pub single_functions : List Function
single_functions =
    functions.Add ∷ functions.Subtract ∷ functions.Multiply ∷ functions.Divide ∷ functions.Mod ∷ functions.Abs
    ∷ functions.Or ∷ functions.And ∷ functions.Not ∷ functions.Concatenate ∷ functions.StartsWith ∷ functions.EndsWith
    ∷ functions.Contains ∷ functions.DateAdd ∷ functions.DateSubtract ∷ functions.AnyOf ∷ functions.AllOf ∷ []

-- every function
unfoldable pub all_functions : List Function
all_functions = flat_map functions_at all_elements ++ flat_map comparisons_at all_ordered ++ single_functions

-- the function that has this URI
unfoldable pub function_of : List ℕ → Option Function
function_of text = find (λ function. bytes_eq text (id_of function)) all_functions

-- a URI names a function exactly where it is that function's own
abbrev pub IdsReadBack : Type 0
IdsReadBack = (text : List ℕ) (function : Function) → (function_of text ≡ Some function) ↔ (text ≡ id_of function)
