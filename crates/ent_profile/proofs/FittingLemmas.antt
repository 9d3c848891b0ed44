-- What is written of an answer is plain and not too deep, so its text is read as it.
use Rattle.std.proofs.Common.{◌≡◌, ℕ, List, [], ◌∷◌, map, filter_map, Bool, true, false, Option, Some, None, option_map, codes, refl, sym, ap, ◌∙◌, ◌≤◌, arith, if◌then◌else◌}
use Rattle.std.specs.List.{AllByRecursion, cons_option}
use Rattle.serde_json.specs.Data as json
use Rattle.serde_json.specs.Data.{Data}
use Rattle.serde_json.specs.Read.{read}
use Rattle.serde_json.specs.View.{items_of}
use Rattle.serde_json.specs.Written.{compact_text}
use Rattle.ent_values.specs.ReadBack.{IsReal}
use Rattle.ent_values.specs.Types.{datatype_of, uri_of}
use Rattle.ent_values.specs.declared.value.Value.{Value}
use Rattle.ent_json.specs.Members.{filled_list}
use Rattle.ent_polform.specs.Written.{value_written}
use Rattle.ent_polform.proofs.Fitting.{Fits, FitsOption, filled_fits, fits_more, list_fits, maybe_text_fits, object_fits, one_fits, text_fits}
use Rattle.ent_polform.proofs.FittingParts.{value_fits}
use Rattle.ent_polform.proofs.Texts.{text_read}
use Rattle.ent_request.specs.declared.answer.Answer.{Answer}
use Rattle.ent_request.specs.declared.given.Assignment.{Assignment}
use Rattle.ent_request.specs.declared.given.Given.{Given}
use Rattle.ent_request.specs.declared.request.Attribute.{Attribute}
use Rattle.ent_request.specs.declared.request.Category.{Category}
use Rattle.ent_request.specs.declared.request.Request.{Request}
use Rattle.ent_profile.specs.Response.{assignment_written, attribute_written, category_with, category_written, decision_word, given_written, included, response, result_written, status_written, values_written}
use Rattle.ent_profile.specs.proofs_only.Reals.{AttributeIsReal, CategoryIsReal, GivenIsReal}

-- ---- lists

each_fits : {X : Type 0} (P : X → Type 0) (n : ℕ) (write : X → Data) → ((x : X) → P x → Fits n (write x)) → (xs : List X) → AllByRecursion P xs → AllByRecursion (Fits n) (map write xs)
each_fits P n write one [] h = tt
each_fits P n write one (x ∷ xs) h = (one x h.0, each_fits P n write one xs h.1)

-- of which some aren't written
some_fit : {X : Type 0} (P : X → Type 0) (n : ℕ) (write : X → Option Data) → ((x : X) → P x → FitsOption n (write x)) → (xs : List X) → AllByRecursion P xs
    → AllByRecursion (Fits n) (filter_map write xs)
some_fit P n write one [] h = tt
some_fit P n write one (x ∷ xs) h = at (write x) (one x h.0) (some_fit P n write one xs h.1)
  where
    at : (o : Option Data) → FitsOption n o → AllByRecursion (Fits n) (filter_map write xs) → AllByRecursion (Fits n) (cons_option o (filter_map write xs))
    at None here rest = rest
    at (Some d) here rest = (here, rest)

-- ---- obligations and advice

assignment_fits : (a : Assignment) → IsReal a.value → Fits 2 (assignment_written a)
unfolding assignment_written
assignment_fits a real =
    object_fits 0 ((codes "AttributeId", Some (json.string a.attribute)) ∷ (codes "Category", option_map json.string a.category)
    ∷ (codes "DataType", Some (json.string (uri_of (datatype_of a.value)))) ∷ (codes "Issuer", option_map json.string a.issuer) ∷ (codes "Value", Some (value_written a.value)) ∷ [])
    refl (text_fits 0 _, (maybe_text_fits 0 a.category, (text_fits 0 _, (maybe_text_fits 0 a.issuer, (value_fits a.value real, tt)))))

given_fits : (g : Given) → GivenIsReal g → Fits 4 (given_written g)
unfolding given_written
given_fits g real =
    object_fits 2 ((codes "AttributeAssignment", Some (json.array (items_of (map assignment_written g.assignments)))) ∷ (codes "Id", Some (json.string g.id)) ∷ [])
    refl (list_fits 1 _ (each_fits (λ a. IsReal a.value) 2 assignment_written assignment_fits g.assignments real), (text_fits 2 _, tt))

pub all_given_fit : (gs : List Given) → AllByRecursion GivenIsReal gs → AllByRecursion (Fits 4) (map given_written gs)
all_given_fit gs real = each_fits GivenIsReal 4 given_written given_fits gs real

-- ---- what is included of the request

values_fit : (vs : List Value) → AllByRecursion IsReal vs → Fits 2 (values_written vs)
values_fit [] real = list_fits 0 [] tt
values_fit (v ∷ []) real = fits_more 1 2 (value_written v) (omega arith) (value_fits v real.0)
values_fit (v ∷ w ∷ vs) real = list_fits 0 (map value_written (v ∷ w ∷ vs)) (each_fits IsReal 1 value_written value_fits (v ∷ w ∷ vs) real)

attribute_fits : (a : Attribute) → AttributeIsReal a → Fits 3 (attribute_written a)
unfolding attribute_written
attribute_fits a real =
    object_fits 1 ((codes "AttributeId", Some (json.string a.id)) ∷ (codes "DataType", Some (json.string (uri_of a.bag.datatype))) ∷ (codes "Issuer", option_map json.string a.issuer)
    ∷ (codes "Value", Some (values_written a.bag.values)) ∷ [])
    refl (text_fits 1 _, (text_fits 1 _, (maybe_text_fits 1 a.issuer, (values_fit a.bag.values real, tt))))

included_fits : (a : Attribute) → AttributeIsReal a → FitsOption 3 (included a)
included_fits a real = at a.included
  where
    at : (b : Bool) → FitsOption 3 (if b then Some (attribute_written a) else None)
    at true = attribute_fits a real
    at false = tt

category_fits : (c : Category) → CategoryIsReal c → FitsOption 5 (category_written c)
unfolding category_written
category_fits c real = at (filled_list (filter_map included c.attributes)) (filled_fits 3 _ (some_fit AttributeIsReal 3 included included_fits c.attributes real))
  where
    at : (o : Option Data) → FitsOption 4 o → FitsOption 5 (option_map (category_with c.id) o)
    at None fits = tt
    at (Some d) fits = object_fits 3 ((codes "Attribute", Some d) ∷ (codes "CategoryId", Some (json.string c.id)) ∷ []) refl (fits, (text_fits 3 _, tt))

-- ---- the result

option_fits : (o : Option Data) → FitsOption 5 o → FitsOption 6 o
option_fits None h = tt
option_fits (Some d) h = fits_more 5 6 d (omega arith) h

-- an answer and the request whose values are what their types say
pub record AreReal (answer : Answer) (request : Request) : Type 0 where
  pub advice : AllByRecursion GivenIsReal answer.advice
  pub obligations : AllByRecursion GivenIsReal answer.obligations
  pub categories : AllByRecursion CategoryIsReal request.categories

result_fits : (answer : Answer) (request : Request) → AreReal answer request → Fits 7 (result_written answer request)
unfolding result_written
result_fits answer request real =
    object_fits 5 ((codes "AssociatedAdvice", filled_list (map given_written answer.advice)) ∷ (codes "Category", filled_list (filter_map category_written request.categories))
    ∷ (codes "Decision", Some (json.string (decision_word answer.decision))) ∷ (codes "Obligations", filled_list (map given_written answer.obligations))
    ∷ (codes "Status", Some (status_written answer.status)) ∷ [])
    refl (
      option_fits _ (filled_fits 4 _ (all_given_fit answer.advice real.advice)),
      (
        filled_fits 5 _ (some_fit CategoryIsReal 5 category_written category_fits request.categories real.categories),
        (
          text_fits 5 _,
          (
            option_fits _ (filled_fits 4 _ (all_given_fit answer.obligations real.obligations)),
            (fits_more 3 6 _ (omega arith) (one_fits 1 _ _ (one_fits 0 _ _ (text_fits 0 _))), tt),
          ),
        ),
      ),
    )

response_fits : (answer : Answer) (request : Request) → AreReal answer request → Fits 9 (response answer request)
unfolding response
response_fits answer request real = one_fits 7 _ _ (list_fits 6 (result_written answer request ∷ []) (result_fits answer request real, tt))

-- ---- what is read of the texts

there_is : {A : Type 0} (x y : A) → Some x ≡ Some y → x ≡ y
there_is x y h = cc

fitting_is : (n : ℕ) (d : Data) → Fits n d → n ≤ 127 → (text : List ℕ) → text ≡ compact_text d → (r : Data) → read text ≡ Some r → r ≡ d
fitting_is n d fits most text is r reads =
    let low = fits.shallow in
    there_is r d (sym reads ∙ ap read is ∙ text_read d fits.plain (omega (arith, low, most)))

-- of that of a response
pub response_is : (answer : Answer) (request : Request) → AreReal answer request → (text : List ℕ) → text ≡ compact_text (response answer request) → (r : Data) → read text ≡ Some r
    → r ≡ response answer request
response_is answer request real = fitting_is 9 (response answer request) (response_fits answer request real) (omega arith)

-- of that of obligations or advice
pub given_is : (gs : List Given) → AllByRecursion GivenIsReal gs → (text : List ℕ) → text ≡ compact_text (json.array (items_of (map given_written gs))) → (r : Data) → read text ≡ Some r
    → r ≡ json.array (items_of (map given_written gs))
given_is gs real = fitting_is 5 _ (list_fits 3 _ (all_given_fit gs real)) (omega arith)
