-- What is asked for is whole: its texts are UTF-8, and a row has one of the categories that rows have and negative numbers of 64 bits.
use Rattle.std.proofs.Common.{◌≡◌, ℕ, List, Bool, true, false, Option, Some, None, Ok, refl, subst, IsUtf8}
use Rattle.std.specs.Prelude.{◌||◌, bytes_eq, codes, if◌then◌else◌, option_and_then, option_map, IfSome}
use Rattle.json.proofs.Printed.Utf8.{IsUtf8-are_ascii}
use Rattle.serde_json.specs.Data.{Data, Items}
use Rattle.serde_json.specs.Find.{as_array, get}
use Rattle.ent_json.specs.Objects.{text_at, text_or_absent}
use Rattle.ent_request.specs.Uris as uris
use Rattle.ent_command.proofs.ChangeLemmas.{HoldsOfReads, change_asked}
use Rattle.ent_command.specs.Asked as asked
use Rattle.ent_command.specs.Asked.{Change, command_in, naming, setting, storing, withdrawing}
use Rattle.ent_command.specs.Keys.{◌>>=◌, AskedRow, category_named, kind_named, null_or_text_at, number_at, row_in}
use Rattle.ent_polform.proofs.TypedValues.{AreSized, IsSized, then_there}
use Rattle.law_restart.proofs.Sized.{array_sized, get_sized, line_sized}
use Rattle.law_restart.proofs.Utf8Data.{AreUtf8Items, IfThere, IsUtf8Data, array_utf8, get_utf8, line_utf8, text_utf8}

-- what a category is named by names it again
pub category_again : (word category : List ℕ) → category_named word ≡ Some category → category_named category ≡ Some category
category_again word category h = by (bytes_eq word (codes "AccessSubject") || bytes_eq word uris.access_subject) (bytes_eq word (codes "Resource") || bytes_eq word uris.resource) (bytes_eq word (codes "Action") || bytes_eq word uris.action) h
  where
    by : (a b c : Bool) → (if a then Some uris.access_subject else (if b then Some uris.resource else (if c then Some uris.action else None))) ≡ Some category → category_named category ≡ Some category
    by true b c h = let same : uris.access_subject ≡ category = cc in subst (λ (x : List ℕ). category_named x ≡ Some x) same refl
    by false true c h = let same : uris.resource ≡ category = cc in subst (λ (x : List ℕ). category_named x ≡ Some x) same refl
    by false false true h = let same : uris.action ≡ category = cc in subst (λ (x : List ℕ). category_named x ≡ Some x) same refl
    by false false false h = absurd cc

-- and that is UTF-8
pub category_utf8 : (word category : List ℕ) → category_named word ≡ Some category → IsUtf8 category
category_utf8 word category h = by (bytes_eq word (codes "AccessSubject") || bytes_eq word uris.access_subject) (bytes_eq word (codes "Resource") || bytes_eq word uris.resource) (bytes_eq word (codes "Action") || bytes_eq word uris.action) h
  where
    by : (a b c : Bool) → (if a then Some uris.access_subject else (if b then Some uris.resource else (if c then Some uris.action else None))) ≡ Some category → IsUtf8 category
    by true b c h = let same : uris.access_subject ≡ category = cc in subst IsUtf8 same (IsUtf8-are_ascii _ refl)
    by false true c h = let same : uris.resource ≡ category = cc in subst IsUtf8 same (IsUtf8-are_ascii _ refl)
    by false false true h = let same : uris.action ≡ category = cc in subst IsUtf8 same (IsUtf8-are_ascii _ refl)
    by false false false h = absurd cc

-- ---- a line

-- what the JSON of a line is: its negative numbers have 64 bits, and its texts and keys are UTF-8
pub record IsOfLine (d : Data) : Type 0 where
  pub sized : IsSized d
  pub utf8 : IsUtf8Data d

pub line_is : (line : List ℕ) (d : Data) → Rattle.ent_json.specs.Line.data_of line ≡ Some d → IsOfLine d
line_is line d h = record { sized = line_sized line d h; utf8 = line_utf8 line d h }

-- ---- what is read in steps

-- a row has a category of rows and values whose negative numbers have 64 bits, and its texts are UTF-8
pub record IsWholeRow (row : AskedRow) : Type 0 where
  pub category : category_named row.category ≡ Some row.category
  pub sized : AreSized row.values
  pub entity : IsUtf8 row.entity
  pub attribute : IsUtf8 row.attribute
  pub issuer : IfThere IsUtf8 row.issuer
  pub values : AreUtf8Items row.values

-- so does the row of a change, and what it puts into a state is UTF-8
abbrev pub IsWhole : Change → Type 0
IsWhole (asked.add_name list name) = IsUtf8 name
IsWhole (asked.drop_name list name) = IsUtf8 name
IsWhole (asked.add_policy number d) = IsUtf8Data d
IsWhole (asked.replace_policy number d) = IsUtf8Data d
IsWhole (asked.withdraw_policy number kind id version) = IsUtf8 id
IsWhole (asked.set_attribute number row) = IsWholeRow row
IsWhole (asked.set_root d) = IsUtf8Data d
IsWhole change = Unit {0}

-- what is read, if anything is, is so
record Gives {A : Type 0} (P : A → Type 0) (o : Option A) : Type 0 where
  is : IfSome o P

-- a part that is known to be so
part_gives : {A B : Type 0} {Q : B → Type 0} (P : A → Type 0) (o : Option A) (f : A → Option B) → IfThere P o → ((x : A) → P x → Gives Q (f x)) → Gives Q (o >>= f)
part_gives P (Some x) f h more = more x h
part_gives P None f h more = record { is = tt }

-- a part by where it is from
in_part : {A B : Type 0} {Q : B → Type 0} (o : Option A) (f : A → Option B) → ((x : A) → o ≡ Some x → Gives Q (f x)) → Gives Q (o >>= f)
in_part (Some x) f more = more x refl
in_part None f more = record { is = tt }

-- a part of which nothing is known
then_part : {A B : Type 0} {Q : B → Type 0} (o : Option A) (f : A → Option B) → ((x : A) → Gives Q (f x)) → Gives Q (o >>= f)
then_part (Some x) f more = more x
then_part None f more = record { is = tt }

-- what is made of the last part
last_gives : {A : Type 0} (P : A → Type 0) (make : A → Change) (o : Option A) → IfThere P o → ((x : A) → P x → IsWhole (make x)) → Gives IsWhole (option_map make o)
last_gives P make None h more = record { is = tt }
last_gives P make (Some x) h more = record { is = more x h }

-- of which nothing is known
then_last : {A : Type 0} (make : A → Change) (o : Option A) → ((x : A) → IsWhole (make x)) → Gives IsWhole (option_map make o)
then_last make None more = record { is = tt }
then_last make (Some x) more = record { is = more x }

if_row : (b : Bool) (row : AskedRow) → IsWholeRow row → Gives IsWholeRow (if b then Some row else None)
if_row true row h = record { is = h }
if_row false row h = record { is = tt }

-- ---- a row

list_found : (d : Data) (ds : Items) → IsOfLine d → option_and_then as_array (get (codes "values") d) ≡ Some ds → AreSized ds × AreUtf8Items ds
list_found d ds line h =
    let one = then_there as_array (get (codes "values") d) ds h in
    (array_sized one.0 ds (get_sized (codes "values") d one.0 line.sized one.1.0) one.1.1, there (get (codes "values") d) one.0 (get_utf8 (codes "values") d line.utf8) one.1.0 one.1.1)
  where
    inside : (o : Option Items) → IfThere AreUtf8Items o → o ≡ Some ds → AreUtf8Items ds
    inside None g e = absurd cc
    inside (Some es) g e = let same : es ≡ ds = cc in subst AreUtf8Items same g

    there : (o : Option Data) (x : Data) → IfThere IsUtf8Data o → o ≡ Some x → as_array x ≡ Some ds → AreUtf8Items ds
    there None x g e at = absurd cc
    there (Some y) x g e at = let same : y ≡ x = cc in inside (as_array x) (array_utf8 x (subst IsUtf8Data same g)) at

named_again : (o : Option (List ℕ)) (category : List ℕ) → option_and_then category_named o ≡ Some category → category_named category ≡ Some category
named_again o category h = let one = then_there category_named o category h in category_again one.0 category one.1.1

row_named : (d : Data) → IsOfLine d → Gives IsWholeRow (row_in d)
unfolding row_in
row_named d line =
    in_part (text_at (codes "category") d >>= category_named) _ (λ category is.
    part_gives IsUtf8 (text_at (codes "entity") d) _ (text_utf8 (codes "entity") d line.utf8) (λ entity a.
    part_gives IsUtf8 (text_at (codes "attribute") d) _ (text_utf8 (codes "attribute") d line.utf8) (λ attribute b.
    then_part (text_at (codes "type") d) _ (λ datatype.
    in_part (get (codes "values") d >>= as_array) _ (λ values at.
    let both = list_found d values line at in
    if_row (text_or_absent (codes "issuer") d) (record { category = category; entity = entity; attribute = attribute; datatype = datatype; issuer = text_at (codes "issuer") d; values = values })
    (record {
      category = named_again (text_at (codes "category") d) category is;
      sized = both.0;
      entity = a;
      attribute = b;
      issuer = text_utf8 (codes "issuer") d line.utf8;
      values = both.1;
    }))))))

-- ---- each change

name_given : (make : List ℕ → Change) (d : Data) → IsOfLine d → ((name : List ℕ) → IsUtf8 name → IsWhole (make name)) → Gives IsWhole (naming make d)
unfolding naming
name_given make d line more = last_gives IsUtf8 make (text_at (codes "name") d) (text_utf8 (codes "name") d line.utf8) more

document_given : (make : Option ℕ → Data → Change) (d : Data) → IsOfLine d → ((number : Option ℕ) (document : Data) → IsUtf8Data document → IsWhole (make number document)) → Gives IsWhole (storing make d)
unfolding storing
document_given make d line more =
    then_part (number_at (codes "module") 0 d) _ (λ number. last_gives IsUtf8Data (make number) (get (codes "document") d) (get_utf8 (codes "document") d line.utf8) (more number))

withdraw_given : (d : Data) → IsOfLine d → Gives IsWhole (withdrawing d)
unfolding withdrawing
withdraw_given d line =
    then_part (number_at (codes "module") 0 d) _ (λ number.
    then_part (text_at (codes "kind") d >>= kind_named) _ (λ kind.
    part_gives IsUtf8 (text_at (codes "id") d) _ (text_utf8 (codes "id") d line.utf8) (λ id is.
    then_last (asked.withdraw_policy number kind id) (text_at (codes "version") d) (λ version. is))))

row_set : (number : Option ℕ) (o : Option AskedRow) → Gives IsWholeRow o → Gives IsWhole (option_map (asked.set_attribute number) o)
row_set number None h = record { is = tt }
row_set number (Some row) h = record { is = h.is }

row_given : (d : Data) → IsOfLine d → Gives IsWhole (setting d)
unfolding setting
row_given d line = then_part (number_at (codes "module") 0 d) _ (λ number. row_set number (row_in d) (row_named d line))

-- what is read in a line is whole
whole_reads : (d : Data) → IsOfLine d → HoldsOfReads IsWhole d
whole_reads d line = record {
  adding = λ list. (name_given (asked.add_name list) d line (λ name is. is)).is;
  dropping = λ list. (name_given (asked.drop_name list) d line (λ name is. is)).is;
  added = (document_given asked.add_policy d line (λ number document is. is)).is;
  replaced = (document_given asked.replace_policy d line (λ number document is. is)).is;
  withdrawn = (withdraw_given d line).is;
  row = (row_given d line).is;
  root = (last_gives IsUtf8Data asked.set_root (get (codes "reference") d) (get_utf8 (codes "reference") d line.utf8) (λ reference is. is)).is;
  day = (then_last asked.set_day (null_or_text_at (codes "day") d) (λ day. tt)).is;
  moment = (then_last asked.set_moment (null_or_text_at (codes "moment") d) (λ moment. tt)).is;
}

-- a change that is asked for is whole
pub change_read : (d : Data) (session : ℕ) (c : Change) → IsOfLine d → command_in d ≡ Ok (session, asked.change c) → IsWhole c
change_read d session c line asks = change_asked IsWhole d session c (whole_reads d line) asks
