-- The JSON of an edit is plain and not too deep.
use Rattle.std.proofs.Common.{◌≡◌, ℕ, zero, suc, ◌≤◌, ◌<◌, ◌^◌, List, [], ◌∷◌, map, length, Bool, true, false, Option, Some, None, option_map, codes, nat_lt, refl, ap, ◌∙◌, arith}
use Rattle.std.specs.Prelude.{slice_index_or}
use Rattle.std.specs.FinMap.{empty, get, get-empty}
use Rattle.std.specs.List.{AllByRecursion}
use Rattle.std.proofs.lemmas.Bool.{ltb-true, ltb-false}
use Rattle.serde_json.specs.Data as json
use Rattle.serde_json.specs.View.{items_of}
use Rattle.ent_values.specs.Calendar.{Day}
use Rattle.ent_values.specs.ReadBack.{IsReal}
use Rattle.ent_values.specs.Types.{uri_of}
use Rattle.ent_values.specs.declared.value.Value.{Value}
use Rattle.ent_policy.specs.Check.{IsChecked}
use Rattle.ent_policy.specs.Key.{kind_word}
use Rattle.ent_policy.specs.Versions.{version_text}
use Rattle.ent_policy.specs.declared.document.Tree.{Tree}
use Rattle.ent_policy.specs.declared.key.Reference.{Reference}
use Rattle.ent_finder.specs.Rows.{Source, row_cmp, source_at}
use Rattle.ent_finder.specs.Slots.{Docs, key_cmp, module_at}
use Rattle.ent_polform.specs.Written.{reference_written, value_written, written}
use Rattle.ent_table.specs.State.{State}
use Rattle.ent_table.specs.declared.edit.Edit.{Edit}
use Rattle.ent_table.specs.declared.edit.Edit.TheVariants.{AddPolicy, ReplacePolicy, WithdrawPolicy, SetAttribute, AddName, DropName, SetRoot, SetDay, SetMoment}
use Rattle.law_rebuild.proofs.Made.{IsMadeOf}
use Rattle.law_restart.specs.Carried.{IsRead}
use Rattle.ent_polform.proofs.Fitting.{Fits, fits_more, list_fits, maybe_text_fits, object_fits, text_fits}
use Rattle.ent_polform.proofs.FittingDocuments.{document_fits}
use Rattle.ent_polform.proofs.FittingParts.{reference_fits, value_fits}
use Rattle.ent_values.specs.declared.date_time.DateTime.{DateTime}
use Rattle.ent_request.specs.declared.environment.Environment.{Environment}
use Rattle.ent_request.specs.declared.environment.Environment.TheVariants as environments
use Rattle.law_rebuild.specs.Rebuilding.{environment_edits}
use Rattle.ent_dump.specs.Dumped.{format_data}
use Rattle.ent_dump.specs.Edits.{adding, document_data, dropping, edit_data, name_data, written_day, written_moment, written_root}

-- the number of an edit's module can be written
abbrev pub IsSmall : Edit → Type 0
IsSmall (AddPolicy number document) = number < 2 ^ 64
IsSmall (ReplacePolicy number document) = number < 2 ^ 64
IsSmall (WithdrawPolicy number key) = number < 2 ^ 64
IsSmall (SetAttribute number key values) = number < 2 ^ 64
IsSmall edit = Unit {0}

number_fits : (n number : ℕ) → number < 2 ^ 64 → Fits (suc n) (json.number (json.unsigned number))
number_fits n number h = record { plain = h; shallow = omega arith }

null_fits : (n : ℕ) → Fits (suc n) json.null
null_fits n = record { plain = tt; shallow = omega arith }

name_fits : (command name : List ℕ) → Fits 102 (name_data command name)
name_fits command name = object_fits 100 ((codes "do", Some (json.string command)) ∷ (codes "name", Some (json.string name)) ∷ []) refl (text_fits 100 command, (text_fits 100 name, tt))

data_fits : (command : List ℕ) (number : ℕ) (document : Tree) → number < 2 ^ 64 → IsChecked document → Fits 102 (document_data command number document)
data_fits command number document small checked =
    object_fits 100 ((codes "do", Some (json.string command)) ∷ (codes "document", Some (written document)) ∷ (codes "module", Some (json.number (json.unsigned number))) ∷ [])
    refl (text_fits 100 command, (document_fits document checked, (number_fits 100 number small, tt)))

values_fit : (vs : List Value) → AllByRecursion IsReal vs → AllByRecursion (Fits 100) (map value_written vs)
values_fit [] h = tt
values_fit (v ∷ vs) h = (fits_more 1 100 (value_written v) (omega arith) (value_fits v h.0), values_fit vs h.1)

day_fits : (day : Option Day) → Fits 101 (written_day day)
day_fits None = null_fits 100
day_fits (Some day) = text_fits 100 _

moment_fits : (moment : Option DateTime) → Fits 101 (written_moment moment)
moment_fits None = null_fits 100
moment_fits (Some moment) = text_fits 100 _

root_fits : (root : Option Reference) → Fits 101 (written_root root)
root_fits None = null_fits 100
root_fits (Some root) = fits_more 3 101 (reference_written root) (omega arith) (reference_fits root)

pub edit_fits : (e : Edit) → IsRead e → IsSmall e → Fits 102 (edit_data e)
unfolding edit_data
edit_fits (AddPolicy number document) h small = data_fits (codes "policy.add") number document small h
edit_fits (ReplacePolicy number document) h small = data_fits (codes "policy.replace") number document small h
edit_fits (WithdrawPolicy number key) h small =
    object_fits 100 ((codes "do", Some (json.string (codes "policy.withdraw"))) ∷ (codes "id", Some (json.string key.id)) ∷ (codes "kind", Some (json.string (kind_word key.kind)))
    ∷ (codes "module", Some (json.number (json.unsigned number))) ∷ (codes "version", Some (json.string (version_text key.version))) ∷ [])
    refl (text_fits 100 _, (text_fits 100 _, (text_fits 100 _, (number_fits 100 number small, (text_fits 100 _, tt)))))
edit_fits (SetAttribute number key values) h small =
    object_fits 100 ((codes "attribute", Some (json.string key.attribute)) ∷ (codes "category", Some (json.string key.category)) ∷ (codes "do", Some (json.string (codes "attr.set")))
    ∷ (codes "entity", Some (json.string key.entity)) ∷ (codes "issuer", option_map json.string key.issuer) ∷ (codes "module", Some (json.number (json.unsigned number)))
    ∷ (codes "type", Some (json.string (uri_of key.datatype))) ∷ (codes "values", Some (json.array (items_of (map value_written values)))) ∷ [])
    refl (text_fits 100 _, (text_fits 100 _, (text_fits 100 _, (text_fits 100 _, (maybe_text_fits 100 key.issuer, (number_fits 100 number small, (text_fits 100 _, (list_fits 99 (map value_written values) (values_fit values h.real), tt))))))))
edit_fits (AddName list name) h small = name_fits (adding list) name
edit_fits (DropName list name) h small = name_fits (dropping list) name
edit_fits (SetRoot root) h small =
    object_fits 100 ((codes "do", Some (json.string (codes "root.set"))) ∷ (codes "reference", Some (written_root root)) ∷ []) refl (text_fits 100 _, (root_fits root, tt))
edit_fits (SetDay day) h small =
    object_fits 100 ((codes "day", Some (written_day day)) ∷ (codes "do", Some (json.string (codes "day.set"))) ∷ []) refl (day_fits day, (text_fits 100 _, tt))
edit_fits (SetMoment moment) h small =
    object_fits 100 ((codes "do", Some (json.string (codes "moment.set"))) ∷ (codes "moment", Some (written_moment moment)) ∷ []) refl (text_fits 100 _, (moment_fits moment, tt))

-- the format of a version that can be written
pub format_fits : (version : ℕ) → version < 2 ^ 64 → Fits 2 (format_data version)
format_fits version h = object_fits 0 ((codes "do", Some (json.string (codes "format"))) ∷ (codes "version", Some (json.number (json.unsigned version))) ∷ []) refl (text_fits 0 _, (number_fits 0 version h, tt))

-- ---- the numbers of modules

past : {A : Type 0} (d : A) (xs : List A) (n : ℕ) → length xs ≤ n → slice_index_or xs n d ≡ d
past d [] n h = refl
past d (x ∷ xs) zero h = absurd (omega arith)
past d (x ∷ xs) (suc n) h = past d xs n (omega arith)

-- a module that there is has a small number
small_number : (count number : ℕ) → count ≤ 2 ^ 64 → (count ≤ number → ⊥) → number < 2 ^ 64
small_number count number few there = by (nat_lt number count) refl
  where
    by : (b : Bool) → nat_lt number count ≡ b → number < 2 ^ 64
    by true h = let below = ltb-true number count h in omega arith
    by false h = absurd (there (ltb-false number count h))

pub small_made : (s : State) → length s.held.modules ≤ 2 ^ 64 → length s.held.sources ≤ 2 ^ 64 → IsMadeOf IsSmall s
small_made s modules sources = record {
  documents = λ number key document is. small_number (length s.held.modules) number modules (λ far.
      let none : get (module_at s.held.modules number) key ≡ None = ap (λ (m : Docs). get m key) (past empty s.held.modules number far) ∙ get-empty key_cmp key in
      cc);
  rows = λ number key values is. small_number (length s.held.sources) number sources (λ far.
      let none : get (source_at s.held.sources number).rows key ≡ None = ap (λ (c : Source). get c.rows key) (past (record { categories = []; rows = empty }) s.held.sources number far) ∙ get-empty row_cmp key in
      cc);
  environment = all_small s.held.environment;
  root = λ root is. tt;
  people = all_tt s.names.people;
  actions = all_tt s.names.actions;
  resources = all_tt s.names.resources;
}
  where
    all_small : (environment : Environment) → AllByRecursion IsSmall (environment_edits environment)
    all_small environments.Empty = tt
    all_small (environments.Day day) = (tt, tt)
    all_small (environments.Moment moment) = (tt, tt)

    all_tt : (names : List (List ℕ)) → AllByRecursion (λ name. Unit {0}) names
    all_tt [] = tt
    all_tt (name ∷ names) = (tt, all_tt names)
