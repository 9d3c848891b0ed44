-- The line of an edit that a UTF-8 line asked for is UTF-8.
use Rattle.std.proofs.Common.{◌≡◌, ℕ, ℤ, List, [], ◌∷◌, map, true, Option, Some, None, option_map, Ok, codes, refl, subst, IsUtf8}
use Rattle.std.specs.Prelude.{option_and_then}
use Rattle.std.specs.List.{AllByRecursion}
use Rattle.json.proofs.Printed.Utf8.{IsUtf8-are_ascii, are_ascii}
use Rattle.serde_json.specs.Data as json
use Rattle.serde_json.specs.Data.{Data, Items}
use Rattle.serde_json.specs.Find.{as_i64}
use Rattle.serde_json.specs.View.{items_of}
use Rattle.ent_values.specs.Reading.{date_of, date_time_of}
use Rattle.ent_values.specs.Types.{type_of, uri_of}
use Rattle.ent_values.specs.Writing.{date_text, date_time_text}
use Rattle.ent_values.specs.declared.datatype.DataType.{DataType}
use Rattle.ent_values.specs.declared.value.Value.{Value}
use Rattle.ent_policy.specs.Check.{reference_checked, unless_fault}
use Rattle.ent_policy.specs.Key.{kind_word}
use Rattle.ent_policy.specs.Reading.{reference_read}
use Rattle.ent_policy.specs.Versions.{version_of, version_text}
use Rattle.ent_policy.specs.declared.document.Tree.{Tree}
use Rattle.ent_policy.specs.declared.fault.DocFault.{DocFault}
use Rattle.ent_policy.specs.declared.key.Kind.{Kind}
use Rattle.ent_policy.specs.declared.key.Kind.TheVariants as kinds
use Rattle.ent_policy.specs.declared.key.Reference.{Reference}
use Rattle.ent_policy.specs.declared.raw.RawReference.{RawReference}
use Rattle.ent_finder.specs.declared.row.RowKey.{RowKey}
use Rattle.ent_json.specs.Objects.{one_member}
use Rattle.ent_polform.specs.Form.{document_of}
use Rattle.ent_polform.specs.Objects.{◌>>=◌}
use Rattle.ent_polform.specs.Reading.{part}
use Rattle.ent_polform.specs.Reference.{kind_of, reference_by, reference_of}
use Rattle.ent_polform.specs.Values.{value_in}
use Rattle.ent_polform.specs.Written.{reference_written, value_written, written}
use Rattle.ent_table.specs.declared.edit.Edit.{Edit}
use Rattle.ent_table.specs.declared.edit.Edit.TheVariants.{AddPolicy, ReplacePolicy, WithdrawPolicy, SetAttribute, AddName, DropName, SetRoot, SetDay, SetMoment}
use Rattle.ent_table.specs.declared.edit.EditFault.TheVariants.{BadValue}
use Rattle.ent_table.specs.declared.edit.List.{List as Which}
use Rattle.ent_table.specs.declared.edit.List.TheVariants as which
use Rattle.law_rebuild.specs.Rebuilding.{as_added}
use Rattle.ent_dump.specs.Dumped.{format_data}
use Rattle.ent_dump.specs.Edits.{adding, document_data, dropping, edit_data, name_data, row_data, written_root}
use Rattle.ent_command.specs.Asked as asked
use Rattle.ent_command.specs.Asked.{Change, command_in}
use Rattle.ent_command.specs.Keys.{AskedRow}
use Rattle.ent_command.specs.Edits.{edit_of, key_of_row, module_number, root_of, row_fault, row_read, values_in}
use Rattle.law_restart.proofs.Categories.{IsOfLine, IsWhole, IsWholeRow, category_utf8, change_read}
use Rattle.ent_polform.proofs.TypedValues.{date_real, moment_real}
use Rattle.law_restart.proofs.Read.{read_if, read_with, then_read}
use Rattle.law_restart.proofs.Utf8Data.{AreUtf8Items, IfThere, IsUtf8Data, one_utf8}
use Rattle.law_restart.proofs.Utf8Documents.{Utf8Reference, document_utf8, reference_reads, version_utf8}
use Rattle.law_restart.proofs.Utf8Reads.{Reads, any_then, part_then, reads, then_reads}
use Rattle.law_restart.proofs.Utf8Values.{IsUtf8Value, boolean_utf8, date_utf8, integer_utf8, moment_utf8, uri_utf8, value_of_utf8, value_written_utf8}
use Rattle.law_restart.proofs.Utf8Written.{list_written, maybe_string, object_utf8}

-- ---- objects

ascii_string : (text : List ℕ) → are_ascii text ≡ true → IsUtf8Data (json.string text)
ascii_string text ascii = IsUtf8-are_ascii text ascii

adding_ascii : (list : Which) → are_ascii (adding list) ≡ true
adding_ascii which.People = refl
adding_ascii which.Actions = refl
adding_ascii which.Resources = refl

dropping_ascii : (list : Which) → are_ascii (dropping list) ≡ true
dropping_ascii which.People = refl
dropping_ascii which.Actions = refl
dropping_ascii which.Resources = refl

name_data_utf8 : (command name : List ℕ) → are_ascii command ≡ true → IsUtf8 name → IsUtf8Data (name_data command name)
name_data_utf8 command name ascii u =
    object_utf8 ((codes "do", Some (json.string command)) ∷ (codes "name", Some (json.string name)) ∷ []) ((refl, ascii_string command ascii), ((refl, u), tt))

document_data_utf8 : (command : List ℕ) (number : ℕ) (document : Tree) → are_ascii command ≡ true → IsUtf8Data (written document) → IsUtf8Data (document_data command number document)
document_data_utf8 command number document ascii u =
    object_utf8 ((codes "do", Some (json.string command)) ∷ (codes "document", Some (written document)) ∷ (codes "module", Some (json.number (json.unsigned number))) ∷ [])
    ((refl, ascii_string command ascii), ((refl, u), ((refl, tt), tt)))

kind_utf8 : (kind : Kind) → IsUtf8 (kind_word kind)
kind_utf8 kinds.Policy = IsUtf8-are_ascii _ refl
kind_utf8 kinds.PolicySet = IsUtf8-are_ascii _ refl

values_written : (vs : List Value) → AllByRecursion IsUtf8Value vs → AllByRecursion IsUtf8Data (map value_written vs)
values_written [] h = tt
values_written (v ∷ vs) h = (value_written_utf8 v h.0, values_written vs h.1)

row_data_utf8 : (number : ℕ) (key : RowKey) (vs : List Value) → IsUtf8 key.category → IsUtf8 key.entity → IsUtf8 key.attribute → IfThere IsUtf8 key.issuer → AllByRecursion IsUtf8Value vs
    → IsUtf8Data (row_data number key vs)
row_data_utf8 number key vs category entity attribute issuer all =
    object_utf8 ((codes "attribute", Some (json.string key.attribute)) ∷ (codes "category", Some (json.string key.category)) ∷ (codes "do", Some (json.string (codes "attr.set")))
    ∷ (codes "entity", Some (json.string key.entity)) ∷ (codes "issuer", option_map json.string key.issuer) ∷ (codes "module", Some (json.number (json.unsigned number)))
    ∷ (codes "type", Some (json.string (uri_of key.datatype))) ∷ (codes "values", Some (json.array (items_of (map value_written vs)))) ∷ []) (
      (refl, attribute),
      (
        (refl, category),
        (
          (refl, ascii_string (codes "attr.set") refl),
          (
            (refl, entity),
            (
              (refl, maybe_string key.issuer issuer),
              (
                (refl, tt),
                (
                  (refl, uri_utf8 key.datatype),
                  ((refl, list_written (map value_written vs) (values_written vs all)), tt),
                ),
              ),
            ),
          ),
        ),
      ),
    )

-- a command with one member more
one_more_utf8 : (key command : List ℕ) (d : Data) → are_ascii key ≡ true → are_ascii command ≡ true → IsUtf8Data d
    → IsUtf8Data (json.object (json.member (codes "do") (json.string command) (json.member key d json.no_members)))
one_more_utf8 key command d ascii word u = object_utf8 ((codes "do", Some (json.string command)) ∷ (key, Some d) ∷ []) ((refl, ascii_string command word), ((ascii, u), tt))

-- the day's member stands first
day_utf8 : (d : Data) → IsUtf8Data d → IsUtf8Data (json.object (json.member (codes "day") d (json.member (codes "do") (json.string (codes "day.set")) json.no_members)))
day_utf8 d u = object_utf8 ((codes "day", Some d) ∷ (codes "do", Some (json.string (codes "day.set"))) ∷ []) ((refl, u), ((refl, ascii_string (codes "day.set") refl), tt))

-- the format of a version
pub format_utf8 : (version : ℕ) → IsUtf8Data (format_data version)
format_utf8 version = one_more_utf8 (codes "version") (codes "format") (json.number (json.unsigned version)) refl refl tt

-- ---- what is read of a command

value_in_utf8 : (datatype : DataType) (d : Data) → IsUtf8Data d → IfThere IsUtf8Value (value_in datatype d)
unfolding value_in
value_in_utf8 datatype json.null h = tt
value_in_utf8 datatype (json.boolean b) h = boolean_utf8 b datatype
value_in_utf8 datatype (json.number n) h = by (as_i64 n)
  where
    by : (o : Option ℤ) → IfThere IsUtf8Value (option_and_then (λ z. Rattle.ent_policy.specs.Reading.integer_as z datatype) o)
    by None = tt
    by (Some z) = integer_utf8 z datatype
value_in_utf8 datatype (json.string s) h = value_of_utf8 datatype s h
value_in_utf8 datatype (json.array ds) h = tt
value_in_utf8 datatype (json.object ms) h = tt

values_in_utf8 : (datatype : DataType) (ds : Items) → AreUtf8Items ds → IfThere (AllByRecursion IsUtf8Value) (values_in datatype ds)
values_in_utf8 datatype json.no_items h = tt
values_in_utf8 datatype (json.item d ds) h = by (value_in datatype d) (values_in datatype ds) (value_in_utf8 datatype d h.0) (values_in_utf8 datatype ds h.1)
  where
    by : (o : Option Value) (rest : Option (List Value)) → IfThere IsUtf8Value o → IfThere (AllByRecursion IsUtf8Value) rest → IfThere (AllByRecursion IsUtf8Value) (option_and_then (λ v. option_map (λ vs. v ∷ vs) rest) o)
    by None rest p q = tt
    by (Some v) None p q = tt
    by (Some v) (Some vs) p q = (p, q)

row_utf8 : (number : ℕ) (row : AskedRow) (x : RowKey × List Value) → IsWholeRow row → row_read row ≡ Some x → IsUtf8Data (row_data number x.0 x.1)
unfolding row_read
row_utf8 number row x whole h = by (type_of row.datatype) h
  where
    one : (datatype : DataType) (o : Option (List Value)) → IfThere (AllByRecursion IsUtf8Value) o → option_map (λ values. (key_of_row row datatype, values)) o ≡ Some x → IsUtf8Data (row_data number x.0 x.1)
    one datatype (Some vs) all e =
        let same : (key_of_row row datatype, vs) ≡ x = cc in
        subst (λ (y : RowKey × List Value). IsUtf8Data (row_data number y.0 y.1)) same
        (row_data_utf8 number (key_of_row row datatype) vs (category_utf8 row.category row.category whole.category) whole.entity whole.attribute whole.issuer all)
    one datatype None all e = absurd cc

    by : (o : Option DataType) → option_and_then (λ datatype. option_map (λ values. (key_of_row row datatype, values)) (values_in datatype row.values)) o ≡ Some x → IsUtf8Data (row_data number x.0 x.1)
    by (Some datatype) e = one datatype (values_in datatype row.values) (values_in_utf8 datatype row.values whole.values) e
    by None e = absurd cc

abbrev IsUtf8Reference : Reference → Type 0
IsUtf8Reference r = IsUtf8Data (reference_written r)

checked_utf8 : (raw : RawReference) → Utf8Reference raw → Reads IsUtf8Reference (reference_checked raw)
unfolding reference_checked
checked_utf8 raw h = by (reference_read raw).fault
  where
    by : (o : Option DocFault) → Reads IsUtf8Reference (unless_fault o (reference_read raw).value)
    by None = record { is = h }
    by (Some fault) = record { is = tt }

reference_of_utf8 : (d : Data) → IsUtf8Data d → Reads IsUtf8Reference (reference_of d)
unfolding reference_of
reference_of_utf8 d h =
    part_then (λ m. IsUtf8Data m.1) (one_member d) _ (one_utf8 d h) (λ m is.
    any_then (part (kind_of m.0)) _ (λ kind.
    then_reads Utf8Reference (reference_by kind m.1) reference_checked (reference_reads kind m.1 is) (λ raw u. checked_utf8 raw u)))

root_data_utf8 : (o : Option Reference) → IfThere IsUtf8Reference o → IsUtf8Data (written_root o)
root_data_utf8 None h = tt
root_data_utf8 (Some r) h = h

some_reference : (d : Data) (o : Option Reference) → IsUtf8Data d → (reference_of d >>= λ reference. Ok (Some reference)) ≡ Ok o → IfThere IsUtf8Reference o
some_reference d o u h =
    let r = then_read (reference_of d) (λ reference. Ok (Some reference)) o h in
    let same : Some r.0 ≡ o = cc in
    subst (IfThere IsUtf8Reference) same (reads IsUtf8Reference (reference_of d) r.0 (reference_of_utf8 d u) r.1.0)

root_utf8 : (d : Data) (o : Option Reference) → IsUtf8Data d → root_of d ≡ Ok o → IfThere IsUtf8Reference o
root_utf8 json.null o u h = let none : None ≡ o = cc in subst (IfThere IsUtf8Reference) none tt
root_utf8 (json.boolean b) o u h = some_reference (json.boolean b) o u h
root_utf8 (json.number n) o u h = some_reference (json.number n) o u h
root_utf8 (json.string s) o u h = some_reference (json.string s) o u h
root_utf8 (json.array ds) o u h = some_reference (json.array ds) o u h
root_utf8 (json.object ms) o u h = some_reference (json.object ms) o u h

-- ---- edits

abbrev IsUtf8Edit : Edit → Type 0
IsUtf8Edit e = IsUtf8Data (edit_data e)

edit_utf8 : (c : Change) (e : Edit) → IsWhole c → edit_of c ≡ Ok e → IsUtf8Edit e
unfolding edit_data
edit_utf8 (asked.add_name list name) e u h = let same : AddName list name ≡ e = cc in subst IsUtf8Edit same (name_data_utf8 (adding list) name (adding_ascii list) u)
edit_utf8 (asked.drop_name list name) e u h = let same : DropName list name ≡ e = cc in subst IsUtf8Edit same (name_data_utf8 (dropping list) name (dropping_ascii list) u)
edit_utf8 (asked.add_policy number d) e u h =
    read_with IsUtf8Edit (AddPolicy (module_number number)) (document_of d) e (λ t is. document_data_utf8 (codes "policy.add") (module_number number) t refl (document_utf8 d t u is)) h
edit_utf8 (asked.replace_policy number d) e u h =
    read_with IsUtf8Edit (ReplacePolicy (module_number number)) (document_of d) e (λ t is. document_data_utf8 (codes "policy.replace") (module_number number) t refl (document_utf8 d t u is)) h
edit_utf8 (asked.withdraw_policy number kind id text) e u h =
    read_if IsUtf8Edit (λ version. WithdrawPolicy (module_number number) (record { kind = kind; id = id; version = version })) BadValue (version_of text) e (λ version is.
    object_utf8 ((codes "do", Some (json.string (codes "policy.withdraw"))) ∷ (codes "id", Some (json.string id)) ∷ (codes "kind", Some (json.string (kind_word kind)))
    ∷ (codes "module", Some (json.number (json.unsigned (module_number number)))) ∷ (codes "version", Some (json.string (version_text version))) ∷ [])
    ((refl, ascii_string (codes "policy.withdraw") refl), ((refl, u), ((refl, kind_utf8 kind), ((refl, tt), ((refl, version_utf8 version), tt)))))) h
edit_utf8 (asked.set_attribute number row) e u h =
    read_if IsUtf8Edit (λ x. SetAttribute (module_number number) x.0 x.1) (row_fault row) (row_read row) e (λ x is. row_utf8 (module_number number) row x u is) h
edit_utf8 (asked.set_root d) e u h =
    read_with IsUtf8Edit SetRoot (root_of d) e (λ o is. one_more_utf8 (codes "reference") (codes "root.set") (written_root o) refl refl (root_data_utf8 o (root_utf8 d o u is))) h
edit_utf8 (asked.set_day None) e u h = let same : SetDay None ≡ e = cc in subst IsUtf8Edit same (day_utf8 json.null tt)
edit_utf8 (asked.set_day (Some text)) e u h = read_if IsUtf8Edit (λ day. SetDay (Some day)) BadValue (date_of text) e (λ day is. day_utf8 (json.string (date_text day)) (date_utf8 day (date_real text day is))) h
edit_utf8 (asked.set_moment None) e u h = let same : SetMoment None ≡ e = cc in subst IsUtf8Edit same (one_more_utf8 (codes "moment") (codes "moment.set") json.null refl refl tt)
edit_utf8 (asked.set_moment (Some text)) e u h =
    read_if IsUtf8Edit (λ moment. SetMoment (Some moment)) BadValue (date_time_of text) e (λ moment is.
    one_more_utf8 (codes "moment") (codes "moment.set") (json.string (date_time_text moment)) refl refl (moment_utf8 moment (moment_real text moment is))) h

-- each edit that the JSON of a line asks for has a line of UTF-8
pub asked_utf8 : (d : Data) (session : ℕ) (c : Change) (e : Edit) → IsOfLine d → command_in d ≡ Ok (session, asked.change c) → edit_of c ≡ Ok e → IsUtf8Data (edit_data e)
asked_utf8 d session c e line asks makes = edit_utf8 c e (change_read d session c line asks) makes

-- and so has putting its document there
pub added_utf8 : (e : Edit) → IsUtf8Data (edit_data e) → IsUtf8Data (edit_data (as_added e))
unfolding edit_data
added_utf8 (AddPolicy number document) u = u
added_utf8 (ReplacePolicy number document) u = document_data_utf8 (codes "policy.add") number document refl u.2.1
added_utf8 (WithdrawPolicy number key) u = u
added_utf8 (SetAttribute number key values) u = u
added_utf8 (AddName list name) u = u
added_utf8 (DropName list name) u = u
added_utf8 (SetRoot root) u = u
added_utf8 (SetDay day) u = u
added_utf8 (SetMoment moment) u = u
