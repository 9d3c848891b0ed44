-- The tokens of what is written, part for part in the order in which it is written.
use Rattle.std.proofs.Common.{◌≡◌, ℕ, ◌+◌, ◌<◌, List, [], ◌∷◌, ◌++◌, ◌∙◌, suc, add-one, ap, append_assoc, codes, drop, drop-cons, filter_map, get_or, length, map, refl, sym, true, false, Bool, if◌then◌else◌, is_some, Option, None, Some, option_map}
use Rattle.std.specs.List.{cons_option, list_any}
use Rattle.json.specs.Token as token
use Rattle.json.specs.Token.{Token}
use Rattle.json.specs.Tree.{members_tokens}
use Rattle.serde_json.specs.Data as json
use Rattle.serde_json.specs.Data.{Data, Members}
use Rattle.serde_json.specs.Written.{members_outline}
use Rattle.ent_values.specs.Types.{datatype_of, uri_of}
use Rattle.ent_json.specs.Text.{tokens_of}
use Rattle.ent_json.specs.proofs_only.Keyed.{optional_tokens}
use Rattle.ent_json.specs.proofs_only.Text.{items_tokens_of}
use Rattle.ent_json.specs.Members.{filled_list, optional}
use Rattle.ent_polform.specs.Written.{value_written}
use Rattle.ent_request.specs.declared.answer.Answer.{Answer}
use Rattle.ent_request.specs.declared.given.Assignment.{Assignment}
use Rattle.ent_request.specs.declared.given.Given.{Given}
use Rattle.ent_request.specs.declared.request.Attribute.{Attribute}
use Rattle.ent_request.specs.declared.request.Category.{Category}
use Rattle.ent_request.specs.declared.request.Request.{Request}
use Rattle.ent_profile.specs.Response.{assignment_written, attribute_written, category_with, category_written, decision_word, given_written, included, response, result_written, status_written, values_written}
use Rattle.ent_profile.specs.proofs_only.Written.{tokens_if_any}

-- ---- members

-- the tokens of members, to the end of their object
abbrev members_tokens_of : Members → List Token
members_tokens_of ms = members_tokens (members_outline ms)

-- a member that may be absent is written in front of the others
optional_member : (key : List ℕ) (d : Option Data) (ms : Members) → members_tokens_of (optional key d ms) ≡ optional_tokens key d ++ members_tokens_of ms
optional_member key None ms = refl
optional_member key (Some d) ms = refl

-- the tokens of a text at a key
abbrev pub text_tokens : List ℕ → List ℕ → List Token
text_tokens key text = token.key key ∷ token.string text ∷ []

-- an assignment
pub assignment_tokens : (a : Assignment) → tokens_of (assignment_written a) ≡ (token.begin_object ∷ []) ++ (text_tokens (codes "AttributeId") a.attribute
    ++ (optional_tokens (codes "Category") (option_map json.string a.category) ++ (text_tokens (codes "DataType") (uri_of (datatype_of a.value))
    ++ (optional_tokens (codes "Issuer") (option_map json.string a.issuer) ++ ((token.key (codes "Value") ∷ []) ++ (tokens_of (value_written a.value) ++ token.end_object ∷ []))))))
unfolding assignment_written
assignment_tokens a =
    let value = json.member (codes "Value") (value_written a.value) json.no_members in
    let issued = optional_member (codes "Issuer") (option_map json.string a.issuer) value in
    let named = json.member (codes "DataType") (json.string (uri_of (datatype_of a.value))) (optional (codes "Issuer") (option_map json.string a.issuer) value) in
    let category = optional_tokens (codes "Category") (option_map json.string a.category) in
    ap (λ ts. token.begin_object ∷ (text_tokens (codes "AttributeId") a.attribute ++ ts))
    (optional_member (codes "Category") (option_map json.string a.category) named
    ∙ ap (λ ts. category ++ (text_tokens (codes "DataType") (uri_of (datatype_of a.value)) ++ ts)) issued)

-- an obligation or an advice
pub given_tokens : (g : Given) → tokens_of (given_written g) ≡ (token.begin_object ∷ token.key (codes "AttributeAssignment") ∷ token.begin_array ∷ [])
    ++ (items_tokens_of (map assignment_written g.assignments) ++ (text_tokens (codes "Id") g.id ++ token.end_object ∷ []))
unfolding given_written
given_tokens g = refl

-- an attribute
pub attribute_tokens : (a : Attribute) → tokens_of (attribute_written a) ≡ (token.begin_object ∷ []) ++ (text_tokens (codes "AttributeId") a.id ++ (text_tokens (codes "DataType") (uri_of a.bag.datatype)
    ++ (optional_tokens (codes "Issuer") (option_map json.string a.issuer) ++ ((token.key (codes "Value") ∷ []) ++ (tokens_of (values_written a.bag.values) ++ token.end_object ∷ [])))))
unfolding attribute_written
attribute_tokens a =
    let value = json.member (codes "Value") (values_written a.bag.values) json.no_members in
    ap (λ ts. token.begin_object ∷ (text_tokens (codes "AttributeId") a.id ++ (text_tokens (codes "DataType") (uri_of a.bag.datatype) ++ ts)))
    (optional_member (codes "Issuer") (option_map json.string a.issuer) value)

-- a result
pub result_tokens : (a : Answer) (q : Request) → tokens_of (result_written a q) ≡ (token.begin_object ∷ []) ++ (optional_tokens (codes "AssociatedAdvice") (filled_list (map given_written a.advice))
    ++ (optional_tokens (codes "Category") (filled_list (filter_map category_written q.categories)) ++ (text_tokens (codes "Decision") (decision_word a.decision)
    ++ (optional_tokens (codes "Obligations") (filled_list (map given_written a.obligations)) ++ ((token.key (codes "Status") ∷ []) ++ (tokens_of (status_written a.status) ++ token.end_object ∷ []))))))
unfolding result_written
result_tokens a q =
    let advice = filled_list (map given_written a.advice) in
    let categories = filled_list (filter_map category_written q.categories) in
    let obligations = filled_list (map given_written a.obligations) in
    let status = json.member (codes "Status") (status_written a.status) json.no_members in
    let decided = json.member (codes "Decision") (json.string (decision_word a.decision)) (optional (codes "Obligations") obligations status) in
    let obliged = ap (λ ts. text_tokens (codes "Decision") (decision_word a.decision) ++ ts) (optional_member (codes "Obligations") obligations status) in
    let listed = optional_member (codes "Category") categories decided ∙ ap (λ ts. optional_tokens (codes "Category") categories ++ ts) obliged in
    ap (λ ts. token.begin_object ∷ ts)
    (optional_member (codes "AssociatedAdvice") advice (optional (codes "Category") categories decided)
    ∙ ap (λ ts. optional_tokens (codes "AssociatedAdvice") advice ++ ts) listed)

-- a response
pub response_tokens : (a : Answer) (q : Request) → tokens_of (response a q) ≡ (token.begin_object ∷ token.key (codes "Response") ∷ token.begin_array ∷ [])
    ++ (tokens_of (result_written a q) ++ (token.end_array ∷ token.end_object ∷ []))
unfolding response
response_tokens a q =
    ap (λ ts. token.begin_object ∷ token.key (codes "Response") ∷ token.begin_array ∷ ts)
    (append_assoc (tokens_of (result_written a q)) (token.end_array ∷ []) (token.end_object ∷ []))

-- ---- what is included

-- a list that has a member is written at its key
pub filled_tokens : (key : List ℕ) (ds : List Data) → true ≡ is_some (filled_list ds) → optional_tokens key (filled_list ds) ≡ token.key key ∷ token.begin_array ∷ items_tokens_of ds
filled_tokens key [] h = absurd cc
filled_tokens key (d ∷ ds) h = refl

-- and one that has none isn't
pub empty_tokens : (key : List ℕ) (d : Option Data) → false ≡ is_some d → optional_tokens key d ≡ []
empty_tokens key None h = refl
empty_tokens key (Some d) h = absurd cc

pub nothing_tokens : (d : Option Data) → false ≡ is_some d → tokens_if_any d ≡ []
nothing_tokens None h = refl
nothing_tokens (Some d) h = absurd cc

-- the attributes of a category with its URI
with_tokens : (id : List ℕ) (ds : List Data) → true ≡ is_some (option_map (category_with id) (filled_list ds)) → tokens_if_any (option_map (category_with id) (filled_list ds))
    ≡ (token.begin_object ∷ token.key (codes "Attribute") ∷ token.begin_array ∷ []) ++ (items_tokens_of ds ++ (text_tokens (codes "CategoryId") id ++ token.end_object ∷ []))
with_tokens id [] h = absurd cc
with_tokens id (d ∷ ds) h = refl

pub category_tokens : (c : Category) → true ≡ is_some (category_written c) → tokens_if_any (category_written c)
    ≡ (token.begin_object ∷ token.key (codes "Attribute") ∷ token.begin_array ∷ []) ++ (items_tokens_of (filter_map included c.attributes) ++ (text_tokens (codes "CategoryId") c.id ++ token.end_object ∷ []))
unfolding category_written
category_tokens c h = with_tokens c.id (filter_map included c.attributes) h

-- what is included of one more member
first_kept : (d : Option Data) (ds : List Data) → items_tokens_of (cons_option d ds) ≡ tokens_if_any d ++ items_tokens_of ds
first_kept None ds = refl
first_kept (Some d) ds = refl

-- a member is written where it is included, behind what was written
pub kept_on : {A : Type 0} (f : A → Option Data) (front : List Token) (xs : List A) (i : ℕ) (x : A) (total : List Token) → i < length xs → x ≡ get_or xs i x
    → front ++ items_tokens_of (filter_map f (drop i xs)) ≡ total → (front ++ tokens_if_any (f x)) ++ items_tokens_of (filter_map f (drop (i + 1) xs)) ≡ total
kept_on f front xs i x total lt here so_far =
    let one : front ++ items_tokens_of (filter_map f (drop i xs)) ≡ (front ++ tokens_if_any (f x)) ++ items_tokens_of (filter_map f (drop (i + 1) xs))
    = rw (add-one, drop-cons xs i x, ← here, first_kept (f x) (filter_map f (drop (suc i) xs))) (sym (append_assoc front (tokens_if_any (f x)) (items_tokens_of (filter_map f (drop (suc i) xs))))) in
    sym one ∙ so_far

-- the first member is included, or a later one
any_first : {A : Type 0} (p : A → Bool) (f : A → Option Data) (d : Option Data) (x : A) (xs : List A) → f x ≡ d → p x ≡ is_some d → list_any p xs ≡ is_some (filled_list (filter_map f xs))
    → list_any p (x ∷ xs) ≡ is_some (filled_list (filter_map f (x ∷ xs)))
any_first p f None x xs e here rest = rw (here, e) rest
any_first p f (Some d) x xs e here rest = rw (here, e) refl

-- some member is included if the list of what is included has a member
any_kept : {A : Type 0} (p : A → Bool) (f : A → Option Data) → ((x : A) → p x ≡ is_some (f x)) → (xs : List A) → list_any p xs ≡ is_some (filled_list (filter_map f xs))
any_kept p f same [] = refl
any_kept p f same (x ∷ xs) = any_first p f (f x) x xs refl (same x) (any_kept p f same xs)

flag : (b : Bool) (d : Data) → b ≡ is_some (if b then Some d else None)
flag true d = refl
flag false d = refl

mapped : (f : Data → Data) (d : Option Data) → is_some d ≡ is_some (option_map f d)
mapped f None = refl
mapped f (Some d) = refl

abbrev is_included : Attribute → Bool
is_included a = a.included

-- whether an attribute of a category is included
abbrev pub has_included : Category → Bool
has_included c = list_any (λ a. a.included) c.attributes

pub category_kept : (c : Category) → has_included c ≡ is_some (category_written c)
unfolding category_written
category_kept c =
    let kept = any_kept is_included included (λ a. flag a.included (attribute_written a)) c.attributes in
    kept ∙ mapped (category_with c.id) (filled_list (filter_map included c.attributes))

pub categories_kept : (cs : List Category) → list_any has_included cs ≡ is_some (filled_list (filter_map category_written cs))
categories_kept cs = any_kept has_included category_written category_kept cs
