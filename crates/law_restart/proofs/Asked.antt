-- What is written of an edit asks for that edit.
use Rattle.std.proofs.Common.{◌≡◌, ℕ, List, [], ◌∷◌, Option, Some, None, Ok, refl, sym, ap, subst, ◌∙◌}
use Rattle.std.specs.Prelude.{map, option_and_then, option_map}
use Rattle.std.specs.List.{AllByRecursion}
use Rattle.serde_json.specs.Data as json
use Rattle.serde_json.specs.View.{items_of}
use Rattle.ent_values.specs.Calendar.{Day}
use Rattle.ent_values.specs.Reading.{date_of, date_time_of, value_of}
use Rattle.ent_values.specs.ReadBack.{HasFewYears, IsReal, IsRealDay, IsRealMoment}
use Rattle.ent_values.specs.Types.{datatype_of, uri_of}
use Rattle.ent_values.specs.Writing.{date_text, date_time_text, text_of}
use Rattle.ent_values.specs.declared.datatype.DataType.{DataType}
use Rattle.ent_values.specs.declared.date_time.DateTime.{DateTime}
use Rattle.ent_values.specs.declared.value.Value.{Value}
use Rattle.ent_values.specs.declared.value.Value.TheVariants as values
use Rattle.ent_values.proofs.ReadBack as texts
use Rattle.ent_values.proofs.TypeNames.{names_read_back}
use Rattle.ent_policy.proofs.Written as policies
use Rattle.ent_policy.specs.Key.{kind_word}
use Rattle.ent_policy.specs.Values.{document_values}
use Rattle.ent_policy.specs.Versions.{version_text}
use Rattle.ent_policy.specs.declared.key.Kind.{Kind}
use Rattle.ent_policy.specs.declared.key.Kind.TheVariants as kinds
use Rattle.ent_finder.specs.declared.row.RowKey.{RowKey}
use Rattle.ent_polform.proofs.BackReferences.{references_back}
use Rattle.ent_polform.proofs.BackValues.{value_in_few, values_back}
use Rattle.ent_polform.proofs.BackWhole.{document_few, documents_back}
use Rattle.ent_polform.specs.Form.{document_of}
use Rattle.ent_polform.specs.Values.{value_in}
use Rattle.ent_polform.specs.Written.{reference_written, value_written, written}
use Rattle.ent_table.specs.declared.edit.Edit.{Edit}
use Rattle.ent_table.specs.declared.edit.Edit.TheVariants.{AddPolicy, ReplacePolicy, WithdrawPolicy, SetAttribute, AddName, DropName, SetRoot, SetDay, SetMoment}
use Rattle.ent_table.specs.declared.edit.List.TheVariants as which
use Rattle.ent_dump.specs.Edits.{edit_data}
use Rattle.ent_command.specs.Asked as asked
use Rattle.ent_command.specs.Asked.{Change, command_in, form_of, naming, setting, storing, withdrawing}
use Rattle.ent_command.specs.Keys.{AskedRow, category_named, kind_named, row_in}
use Rattle.ent_command.specs.Edits.{edit_of, key_of_row, row_fault, row_read, values_in}
use Rattle.law_restart.specs.Carried.{IsRead, IsReadRow, values_of}
use Rattle.law_restart.specs.Laws.{EditsReadBack}
use Rattle.law_restart.proofs.Read.{first_read, read_if, read_with}

-- ---- days and moments

-- what a constructor was made of
of_date : (o : Option Day) (day : Day) → option_map values.Date o ≡ Some (values.Date day) → o ≡ Some day
of_date None day h = absurd cc
of_date (Some x) day h = let same : x ≡ day = cc in ap (λ (d : Day). Some d) same

date_back : (day : Day) → IsRealDay day → date_of (date_text day) ≡ Some day
unfolding value_of text_of
date_back day h = of_date (date_of (date_text day)) day (texts.read_back (values.Date day) h)

of_date_time : (o : Option DateTime) (moment : DateTime) → option_map values.DateTime o ≡ Some (values.DateTime moment) → o ≡ Some moment
of_date_time None moment h = absurd cc
of_date_time (Some x) moment h = let same : x ≡ moment = cc in ap (λ (m : DateTime). Some m) same

date_time_back : (moment : DateTime) → IsRealMoment moment → date_time_of (date_time_text moment) ≡ Some moment
unfolding value_of text_of
date_time_back moment h = of_date_time (date_time_of (date_time_text moment)) moment (texts.read_back (values.DateTime moment) h)

-- ---- rows

spelled : (datatype : DataType) (vs : List Value) → AllByRecursion (λ v. datatype_of v ≡ datatype) vs → AllByRecursion IsReal vs → AllByRecursion HasFewYears vs
    → values_in datatype (items_of (map value_written vs)) ≡ Some vs
spelled datatype [] typed real few = refl
spelled datatype (v ∷ vs) typed real few =
    let one : value_in datatype (value_written v) ≡ Some v =
    subst (λ (t : DataType). value_in t (value_written v) ≡ Some v) typed.0 (values_back v real.0 few.0) in
    rw (one, spelled datatype vs typed.1 real.1 few.1) refl

-- values whose writing is read as any values have few years
spelled_few : (datatype : DataType) (vs read : List Value) → AllByRecursion (λ v. datatype_of v ≡ datatype) vs → values_in datatype (items_of (map value_written vs)) ≡ Some read
    → AllByRecursion HasFewYears vs
spelled_few datatype [] read typed h = tt
spelled_few datatype (v ∷ vs) read typed h =
    let r = first_read (value_in datatype (value_written v)) (values_in datatype (items_of (map value_written vs))) read h in
    (value_in_few v r.0 (subst (λ (t : DataType). value_in t (value_written v) ≡ Some r.0) (sym typed.0) r.2), spelled_few datatype vs r.1 typed.1 r.3)

-- the row as its line has it
abbrev asked_row : RowKey → List Value → AskedRow
asked_row key vs = record { category = key.category; entity = key.entity; attribute = key.attribute; datatype = uri_of key.datatype; issuer = key.issuer; values = items_of (map value_written vs) }

row_is_read : (key : RowKey) (vs : List Value) → IsReadRow key vs → AllByRecursion HasFewYears vs → row_read (asked_row key vs) ≡ Some (key, vs)
unfolding row_read
row_is_read key vs h few = rw ((names_read_back key.datatype).0, spelled key.datatype vs h.typed h.real few) refl

row_few : (key : RowKey) (vs : List Value) (x : RowKey × List Value) → IsReadRow key vs → row_read (asked_row key vs) ≡ Some x → AllByRecursion HasFewYears vs
unfolding row_read
row_few key vs x good h = by (values_in key.datatype (items_of (map value_written vs))) refl (sym (ap (option_and_then read_as) (names_read_back key.datatype).0) ∙ h)
  where
    read_as : DataType → Option (RowKey × List Value)
    read_as datatype = option_map (λ values. (key_of_row (asked_row key vs) datatype, values)) (values_in datatype (items_of (map value_written vs)))

    by : (o : Option (List Value)) → values_in key.datatype (items_of (map value_written vs)) ≡ o → option_map (λ values. (key_of_row (asked_row key vs) key.datatype, values)) o ≡ Some x
        → AllByRecursion HasFewYears vs
    by (Some read) is g = spelled_few key.datatype vs read good.typed is
    by None is g = absurd cc

row_asked : (number : ℕ) (category entity attribute : List ℕ) (datatype : DataType) (issuer : Option (List ℕ)) (vs : List Value) → category_named category ≡ Some category
    → let key : RowKey = record { category = category; entity = entity; attribute = attribute; datatype = datatype; issuer = issuer } in
    command_in (edit_data (SetAttribute number key vs)) ≡ Ok (0, asked.change (asked.set_attribute (Some number) (asked_row key vs)))
unfolding edit_data command_in form_of setting row_in
row_asked number category entity attribute datatype None vs h = rw h refl
row_asked number category entity attribute datatype (Some issuer) vs h = rw h refl

-- ---- the change that the JSON of an edit asks for

pub asked_of : Edit → Change
asked_of (AddName list name) = asked.add_name list name
asked_of (DropName list name) = asked.drop_name list name
asked_of (AddPolicy number document) = asked.add_policy (Some number) (written document)
asked_of (ReplacePolicy number document) = asked.replace_policy (Some number) (written document)
asked_of (WithdrawPolicy number key) = asked.withdraw_policy (Some number) key.kind key.id (version_text key.version)
asked_of (SetAttribute number key values) = asked.set_attribute (Some number) (asked_row key values)
asked_of (SetRoot None) = asked.set_root json.null
asked_of (SetRoot (Some root)) = asked.set_root (reference_written root)
asked_of (SetDay None) = asked.set_day None
asked_of (SetDay (Some day)) = asked.set_day (Some (date_text day))
asked_of (SetMoment None) = asked.set_moment None
asked_of (SetMoment (Some moment)) = asked.set_moment (Some (date_time_text moment))

kind_back : (kind : Kind) → kind_named (kind_word kind) ≡ Some kind
kind_back kinds.Policy = refl
kind_back kinds.PolicySet = refl

-- it asks for that, in session 0
pub command_asked : (e : Edit) → IsRead e → command_in (edit_data e) ≡ Ok (0, asked.change (asked_of e))
unfolding asked_of edit_data command_in form_of naming storing withdrawing reference_written
command_asked (AddName which.People name) h = refl
command_asked (AddName which.Actions name) h = refl
command_asked (AddName which.Resources name) h = refl
command_asked (DropName which.People name) h = refl
command_asked (DropName which.Actions name) h = refl
command_asked (DropName which.Resources name) h = refl
command_asked (AddPolicy number document) h = refl
command_asked (ReplacePolicy number document) h = refl
command_asked (WithdrawPolicy number key) h = rw (kind_back key.kind) refl
command_asked (SetAttribute number key values) h = row_asked number key.category key.entity key.attribute key.datatype key.issuer values h.category
command_asked (SetRoot None) h = refl
command_asked (SetRoot (Some root)) h = refl
command_asked (SetDay None) h = refl
command_asked (SetDay (Some day)) h = refl
command_asked (SetMoment None) h = refl
command_asked (SetMoment (Some moment)) h = refl

-- and makes that edit, where its durations have few years
edit_made : (e : Edit) → IsRead e → AllByRecursion HasFewYears (values_of e) → edit_of (asked_of e) ≡ Ok e
unfolding asked_of reference_written
edit_made (AddName list name) h few = refl
edit_made (DropName list name) h few = refl
edit_made (AddPolicy number document) h few = rw (documents_back document h few) refl
edit_made (ReplacePolicy number document) h few = rw (documents_back document h few) refl
edit_made (WithdrawPolicy number key) h few = rw (policies.reads_back key.version h) refl
edit_made (SetAttribute number key values) h few = rw (row_is_read key values h few) refl
edit_made (SetRoot None) h few = refl
edit_made (SetRoot (Some root)) h few = rw (references_back root h) refl
edit_made (SetDay None) h few = refl
edit_made (SetDay (Some day)) h few = rw (date_back day h) refl
edit_made (SetMoment None) h few = refl
edit_made (SetMoment (Some moment)) h few = rw (date_time_back moment h) refl

-- where it makes an edit, they have
pub edit_few : (e other : Edit) → IsRead e → edit_of (asked_of e) ≡ Ok other → AllByRecursion HasFewYears (values_of e)
unfolding asked_of document_of
edit_few (AddPolicy number document) other h makes =
    read_with (λ x. AllByRecursion HasFewYears (document_values document)) (AddPolicy number) (document_of (written document)) other (λ t is. document_few document t h is) makes
edit_few (ReplacePolicy number document) other h makes =
    read_with (λ x. AllByRecursion HasFewYears (document_values document)) (ReplacePolicy number) (document_of (written document)) other (λ t is. document_few document t h is) makes
edit_few (SetAttribute number key values) other h makes =
    read_if (λ x. AllByRecursion HasFewYears values) (λ x. SetAttribute number x.0 x.1) (row_fault (asked_row key values)) (row_read (asked_row key values)) other (λ x is. row_few key values x h is) makes
edit_few (AddName list name) other h makes = tt
edit_few (DropName list name) other h makes = tt
edit_few (WithdrawPolicy number key) other h makes = tt
edit_few (SetRoot root) other h makes = tt
edit_few (SetDay day) other h makes = tt
edit_few (SetMoment moment) other h makes = tt

pub read_back : EditsReadBack
read_back e h few = (asked_of e, (command_asked e h, edit_made e h few))
