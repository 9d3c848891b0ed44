-- What is asked for carries what a line can say.
use Rattle.std.proofs.Common.{◌≡◌, ℕ, List, [], ◌∷◌, Option, Some, None, Result, Ok, Err, refl, sym, subst}
use Rattle.std.specs.Prelude.{option_and_then, option_map}
use Rattle.std.specs.List.{AllByRecursion}
use Rattle.serde_json.specs.Data as json
use Rattle.serde_json.specs.Data.{Data, Items}
use Rattle.ent_values.specs.ReadBack.{IsReal}
use Rattle.ent_values.specs.Reading.{date_of, date_time_of}
use Rattle.ent_values.specs.Types.{datatype_of, type_of}
use Rattle.ent_values.specs.declared.datatype.DataType.{DataType}
use Rattle.ent_values.specs.declared.value.Value.{Value}
use Rattle.ent_policy.proofs.Numbers.{is_version_of}
use Rattle.ent_policy.specs.Check.{IsChecked, checked, reference_checked}
use Rattle.ent_policy.specs.Versions.{version_of}
use Rattle.ent_policy.specs.declared.document.Tree.{Tree}
use Rattle.ent_policy.specs.declared.fault.DocFault.{DocFault}
use Rattle.ent_policy.specs.declared.key.Reference.{Reference}
use Rattle.ent_finder.specs.declared.row.RowKey.{RowKey}
use Rattle.ent_polform.specs.Form.{document_of, raw_of}
use Rattle.ent_polform.specs.Objects.{◌>>=◌, one_member}
use Rattle.ent_polform.specs.ReadBack.{IsReference}
use Rattle.ent_polform.specs.Reading.{part}
use Rattle.ent_polform.specs.Reference.{kind_of, reference_by, reference_of}
use Rattle.ent_polform.specs.Values.{value_in}
use Rattle.ent_table.specs.declared.edit.Edit.{Edit}
use Rattle.ent_table.specs.declared.edit.EditFault.{EditFault}
use Rattle.ent_table.specs.declared.edit.EditFault.TheVariants.{BadValue}
use Rattle.ent_table.specs.declared.edit.Edit.TheVariants.{AddPolicy, ReplacePolicy, WithdrawPolicy, SetAttribute, AddName, DropName, SetRoot, SetDay, SetMoment}
use Rattle.ent_command.specs.Asked as asked
use Rattle.ent_command.specs.Asked.{Change, command_in}
use Rattle.ent_command.specs.Edits.{edit_of, if_read, key_of_row, module_number, root_of, row_fault, row_read, values_in, with_read}
use Rattle.ent_command.specs.Keys.{AskedRow, category_named}
use Rattle.law_restart.specs.Carried.{IsRead, IsReadRow}
use Rattle.law_restart.proofs.Categories.{IsOfLine, IsWhole, change_read}
use Rattle.law_restart.proofs.References.{checked_reference}
use Rattle.ent_polform.proofs.TypedValues.{AreSized, IsOf, date_real, moment_real, value_typed}

-- ---- steps of a reading

-- what was read in two steps was read in each
pub then_read : {A B F : Type 0} (r : Result A F) (f : A → Result B F) (y : B) → (r >>= f) ≡ Ok y → (x : A) × ((r ≡ Ok x) × (f x ≡ Ok y))
then_read (Ok x) f y h = (x, (refl, h))
then_read (Err e) f y h = absurd cc

-- what holds of the edit of a document or a reference
pub read_with : {A : Type 0} (P : Edit → Type 0) (edit : A → Edit) (r : Result A DocFault) (e : Edit) → ((x : A) → r ≡ Ok x → P (edit x)) → with_read edit r ≡ Ok e → P e
read_with P edit (Ok x) e good h = let same : edit x ≡ e = cc in subst P same (good x refl)
read_with P edit (Err fault) e good h = absurd cc

-- and of that of a version, a day, a moment or a row
pub read_if : {A : Type 0} (P : Edit → Type 0) (edit : A → Edit) (why : EditFault) (o : Option A) (e : Edit) → ((x : A) → o ≡ Some x → P (edit x)) → if_read edit why o ≡ Ok e → P e
read_if P edit why (Some x) e good h = let same : edit x ≡ e = cc in subst P same (good x refl)
read_if P edit why None e good h = absurd cc

-- ---- documents and references

document_checked : (d : Data) (t : Tree) → document_of d ≡ Ok t → IsChecked t
unfolding document_of
document_checked d t h = let step = then_read (raw_of d) checked t h in (step.0, step.1.1)

reference_is_checked : (d : Data) (r : Reference) → reference_of d ≡ Ok r → IsReference r
unfolding reference_of
reference_is_checked d r h =
    let one = then_read (part (one_member d)) (λ m. part (kind_of m.0) >>= λ kind. reference_by kind m.1 >>= reference_checked) r h in
    let two = then_read (part (kind_of one.0.0)) (λ kind. reference_by kind one.0.1 >>= reference_checked) r one.1.1 in
    let three = then_read (reference_by two.0 one.0.1) reference_checked r two.1.1 in
    checked_reference three.0 r three.1.1

-- ---- rows

-- the first and the others of a list that was read
pub first_read : (o : Option Value) (rest : Option (List Value)) (vs : List Value) → option_and_then (λ v. option_map (λ vs. v ∷ vs) rest) o ≡ Some vs
    → (x : Value) × (xs : List Value) × (o ≡ Some x) × (rest ≡ Some xs) × (vs ≡ (x ∷ xs))
first_read (Some x) (Some xs) vs h = (x, xs, refl, refl, cc)
first_read (Some x) None vs h = absurd cc
first_read None rest vs h = absurd cc

values_typed : (datatype : DataType) (ds : Items) (vs : List Value) → AreSized ds → values_in datatype ds ≡ Some vs → AllByRecursion (IsOf datatype) vs
values_typed datatype json.no_items vs sized h = let none : [] ≡ vs = cc in subst (AllByRecursion (IsOf datatype)) none tt
values_typed datatype (json.item d ds) vs sized h =
    let r = first_read (value_in datatype d) (values_in datatype ds) vs h in
    let one = value_typed datatype d r.0 r.2 in
    subst (AllByRecursion (IsOf datatype)) (sym r.4) ((one.0, one.1 sized.0), values_typed datatype ds r.1 sized.1 r.3)

all_typed : (datatype : DataType) (vs : List Value) → AllByRecursion (IsOf datatype) vs → AllByRecursion (λ v. datatype_of v ≡ datatype) vs × AllByRecursion IsReal vs
all_typed datatype [] h = (tt, tt)
all_typed datatype (v ∷ vs) h = let rest = all_typed datatype vs h.1 in ((h.0.0, rest.0), (h.0.1, rest.1))

row_typed : (row : AskedRow) (x : RowKey × List Value) → category_named row.category ≡ Some row.category → AreSized row.values → row_read row ≡ Some x → IsReadRow x.0 x.1
unfolding row_read
row_typed row x category sized h = by (type_of row.datatype) h
  where
    one : (datatype : DataType) (o : Option (List Value)) → values_in datatype row.values ≡ o → option_map (λ values. (key_of_row row datatype, values)) o ≡ Some x → IsReadRow x.0 x.1
    one datatype (Some vs) e h =
        let same : (key_of_row row datatype, vs) ≡ x = cc in
        let all = all_typed datatype vs (values_typed datatype row.values vs sized e) in
        subst (λ (y : RowKey × List Value). IsReadRow y.0 y.1) same (record { category = category; typed = all.0; real = all.1 })
    one datatype None e h = absurd cc

    by : (o : Option DataType) → option_and_then (λ datatype. option_map (λ values. (key_of_row row datatype, values)) (values_in datatype row.values)) o ≡ Some x → IsReadRow x.0 x.1
    by (Some datatype) h = one datatype (values_in datatype row.values) refl h
    by None h = absurd cc

-- ---- edits

reference_read : (d : Data) (o : Option Reference) → (reference_of d >>= λ reference. Ok (Some reference)) ≡ Ok o → IsRead (SetRoot o)
reference_read d o h =
    let r = then_read (reference_of d) (λ reference. Ok (Some reference)) o h in
    let same : Some r.0 ≡ o = cc in
    subst (λ (x : Option Reference). IsRead (SetRoot x)) same (reference_is_checked d r.0 r.1.0)

root_read : (d : Data) (o : Option Reference) → root_of d ≡ Ok o → IsRead (SetRoot o)
root_read json.null o h = let none : None ≡ o = cc in subst (λ (x : Option Reference). IsRead (SetRoot x)) none tt
root_read (json.boolean b) o h = reference_read (json.boolean b) o h
root_read (json.number n) o h = reference_read (json.number n) o h
root_read (json.string s) o h = reference_read (json.string s) o h
root_read (json.array ds) o h = reference_read (json.array ds) o h
root_read (json.object ms) o h = reference_read (json.object ms) o h

edit_read : (c : Change) (e : Edit) → IsWhole c → edit_of c ≡ Ok e → IsRead e
edit_read (asked.add_name list name) e good h = let same : AddName list name ≡ e = cc in subst IsRead same tt
edit_read (asked.drop_name list name) e good h = let same : DropName list name ≡ e = cc in subst IsRead same tt
edit_read (asked.add_policy number d) e good h = read_with IsRead (AddPolicy (module_number number)) (document_of d) e (document_checked d) h
edit_read (asked.replace_policy number d) e good h = read_with IsRead (ReplacePolicy (module_number number)) (document_of d) e (document_checked d) h
edit_read (asked.withdraw_policy number kind id written) e good h =
    read_if IsRead (λ version. WithdrawPolicy (module_number number) (record { kind = kind; id = id; version = version })) BadValue (version_of written) e (λ version is. is_version_of written version is) h
edit_read (asked.set_attribute number row) e good h =
    read_if IsRead (λ x. SetAttribute (module_number number) x.0 x.1) (row_fault row) (row_read row) e (λ x is. row_typed row x good.category good.sized is) h
edit_read (asked.set_root d) e good h = read_with IsRead SetRoot (root_of d) e (root_read d) h
edit_read (asked.set_day None) e good h = let same : SetDay None ≡ e = cc in subst IsRead same tt
edit_read (asked.set_day (Some written)) e good h = read_if IsRead (λ day. SetDay (Some day)) BadValue (date_of written) e (date_real written) h
edit_read (asked.set_moment None) e good h = let same : SetMoment None ≡ e = cc in subst IsRead same tt
edit_read (asked.set_moment (Some written)) e good h = read_if IsRead (λ moment. SetMoment (Some moment)) BadValue (date_time_of written) e (moment_real written) h

-- each edit that the JSON of a line asks for carries what a line can say
pub asked_read : (d : Data) (session : ℕ) (c : Change) (e : Edit) → IsOfLine d → command_in d ≡ Ok (session, asked.change c) → edit_of c ≡ Ok e → IsRead e
asked_read d session c e line asks makes = edit_read c e (change_read d session c line asks) makes
