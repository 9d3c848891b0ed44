-- What is told of slots and of rows is what is told of what they hold.
use Rattle.std.proofs.Common.{◌≡◌, ◌∙◌, append_assoc, ℕ, Bool, true, false, List, [], ◌∷◌, ◌++◌, Option, Some, None, ap, refl, subst, sym, map, OnOk, Result}
use Rattle.std.specs.Prelude.{codes, filter, filter_map, if◌then◌else◌, is_some}
use Rattle.std.specs.FinMap.{entries}
use Rattle.std.specs.List.{flat_map}
use Rattle.json.specs.Print.{print}
use Rattle.json.specs.Token as token
use Rattle.json.specs.Token.{Token}
use Rattle.serde_json.specs.Data as json
use Rattle.serde_json.specs.Data.{Data}
use Rattle.serde_json.specs.View.{items_of}
use Rattle.serde_json.specs.Written.{compact_text}
use Rattle.ent_values.specs.declared.value.Value.{Value}
use Rattle.ent_policy.specs.declared.document.Tree.{Tree}
use Rattle.ent_policy.specs.declared.key.DocKey.{DocKey}
use Rattle.ent_finder.proofs.Filled.{entries-filled}
use Rattle.ent_finder.proofs.Held.{entries-held}
use Rattle.ent_finder.specs.Rows.{Source, filled_source, is_filled}
use Rattle.ent_finder.specs.Slots.{Slots, filled_entry, held}
use Rattle.ent_finder.specs.declared.row.RowKey.{RowKey}
use Rattle.ent_json.specs.Members.{only_member}
use Rattle.ent_json.specs.Text.{tokens_of}
use Rattle.ent_json.proofs.TextLemmas.{printed}
use Rattle.lint_reach.specs.declared.place.DocPlace.{DocPlace}
use Rattle.ent_telling.specs.Attributes.{is_of_entity, module_rows, row_data}
use Rattle.ent_request.specs.Held.{Held}
use Rattle.lint_reach.specs.Reached.{has_place, is_reached}
use Rattle.ent_telling.specs.Documents.{document_data, documents, documents_data, module_documents}
use Rattle.ent_telling.specs.proofs_only.Walk.{each_tokens, filled_data, is_asked, slot_data}
use Rattle.ent_telling.proofs.Walks.{listed}

-- ---- documents

module _ (reached : DocPlace → Bool) (id : Option (List ℕ)) (number : ℕ) where
  abbrev told : DocKey × Tree → Data
  told e = document_data reached (is_some id) (number, e.0, e.1)

  chosen : (b : Bool) (d : DocKey × Tree) (ds : List (DocKey × Tree))
      → (if b then told d ∷ [] else []) ++ map told ds ≡ map told (if b then d ∷ ds else ds)
  chosen true d ds = refl
  chosen false d ds = refl

  slots_told : (es : List (DocKey × Option Tree))
      → flat_map (slot_data reached id number) es ≡ map told (filter (λ e. is_asked id e.0) (filter_map filled_entry es))
  slots_told [] = refl
  slots_told ((key, None) ∷ es) = slots_told es
  slots_told ((key, Some document) ∷ es) =
      ap (λ ds. (if is_asked id key then told (key, document) ∷ [] else []) ++ ds) (slots_told es)
      ∙ chosen (is_asked id key) (key, document) (filter (λ e. is_asked id e.0) (filter_map filled_entry es))

  numbered_told : (es : List (DocKey × Tree)) → map told es ≡ map (document_data reached (is_some id)) (map (λ e. (number, e.0, e.1)) es)
  numbered_told [] = refl
  numbered_told (e ∷ es) = ap (λ ds. told e ∷ ds) (numbered_told es)

  -- what is told of the slots of a module
  pub module_told : (slots : Slots) → flat_map (slot_data reached id number) (entries slots)
      ≡ map (document_data reached (is_some id)) (module_documents id (number, held slots))
  module_told slots =
      slots_told (entries slots) ∙ ap (λ es. map told (filter (λ e. is_asked id e.0) es)) (sym (entries-held slots))
      ∙ numbered_told (filter (λ e. is_asked id e.0) (entries (held slots)))

-- ---- rows

module _ (category entity : List ℕ) (number : ℕ) where
  abbrev row_told : RowKey × List Value → Data
  row_told e = row_data (number, e.0, e.1)

  row_chosen : (b : Bool) (e : RowKey × List Value) (es : List (RowKey × List Value))
      → (if b then row_told e ∷ [] else []) ++ map row_told es ≡ map row_told (if b then e ∷ es else es)
  row_chosen true e es = refl
  row_chosen false e es = refl

  rows_told : (es : List (RowKey × List Value))
      → flat_map (filled_data category entity number) es ≡ map row_told (filter (λ e. is_of_entity category entity e.0) (filter (λ e. is_filled e.1) es))
  rows_told [] = refl
  rows_told ((key, []) ∷ es) = rows_told es
  rows_told ((key, v ∷ vs) ∷ es) =
      ap (λ ds. (if is_of_entity category entity key then row_told (key, v ∷ vs) ∷ [] else []) ++ ds) (rows_told es)
      ∙ row_chosen (is_of_entity category entity key) (key, v ∷ vs) (filter (λ e. is_of_entity category entity e.0) (filter (λ e. is_filled e.1) es))

  rows_numbered : (es : List (RowKey × List Value)) → map row_told es ≡ map row_data (map (λ e. (number, e.0, e.1)) es)
  rows_numbered [] = refl
  rows_numbered (e ∷ es) = ap (λ ds. row_told e ∷ ds) (rows_numbered es)

  -- what is told of the rows of a module
  pub source_told : (source : Source) → flat_map (filled_data category entity number) (entries source.rows)
      ≡ map row_data (module_rows category entity (number, filled_source source))
  source_told source =
      rows_told (entries source.rows) ∙ ap (λ es. map row_told (filter (λ e. is_of_entity category entity e.0) es)) (sym (entries-filled source.rows))
      ∙ rows_numbered (filter (λ e. is_of_entity category entity e.0) (entries (filled_source source).rows))

-- ---- replies

-- the text of what was written into an empty text
pub text_written : (d : Data) (empty line : List Token) → empty ≡ [] → line ≡ empty ++ tokens_of d → print line ≡ compact_text d
text_written d empty line start end = ap print (end ∙ ap (λ ts. ts ++ tokens_of d) start) ∙ printed d

-- the tokens of a reply with a list
pub reply_tokens : (name : List ℕ) (ds : List Data) → tokens_of (only_member name (json.array (items_of ds)))
    ≡ (token.begin_object ∷ token.key name ∷ token.begin_array ∷ []) ++ (each_tokens ds ++ token.end_array ∷ token.end_object ∷ [])
reply_tokens name ds =
    ap (λ ts. token.begin_object ∷ token.key name ∷ token.begin_array ∷ (ts ++ token.end_object ∷ [])) (listed ds)
    ∙ ap (λ ts. token.begin_object ∷ token.key name ∷ token.begin_array ∷ ts) (append_assoc (each_tokens ds) (token.end_array ∷ []) (token.end_object ∷ []))

-- what is told by the places that were found is told by whether the root leads there
pub reached_told : (held : Held) (id : Option (List ℕ)) (places : List DocPlace) → ((place : DocPlace) → has_place place places ≡ is_reached held.modules held.root place)
    → only_member (codes "documents") (json.array (items_of (map (document_data (λ p. has_place p places) (is_some id)) (documents id held.modules))))
    ≡ documents_data held id
reached_told held id places same =
    λ i. only_member (codes "documents") (json.array (items_of (map (document_data (λ p. same p i) (is_some id)) (documents id held.modules))))

-- what was written is also said otherwise
pub said : {E : Type 0} (r : Result (Unit {0}) E) (old y a b : List Token) → a ≡ b → OnOk r (y ≡ old ++ a) → OnOk r (y ≡ old ++ b)
said r old y a b is h = subst (λ t. OnOk r (y ≡ old ++ t)) is h
