-- What a test that found nothing says of an edit's step.
use Rattle.std.proofs.Common.{◌≡◌, ℕ, ◌<◌, ◌^◌, Bool, true, false, List, Result, Ok, refl, leb-false, ltb-true}
use Rattle.std.specs.Prelude.{IsOk, ◌||◌, ◌&&◌, not, nat_le, nat_lt, length}
use Rattle.ent_policy.specs.Key.{key_of}
use Rattle.ent_policy.specs.Names.{is_bad_name}
use Rattle.ent_policy.specs.declared.document.Tree.{Tree}
use Rattle.ent_policy.specs.declared.key.DocKey.{DocKey}
use Rattle.ent_finder.specs.Slots.{document_count}
use Rattle.ent_finder.specs.declared.row.RowKey.{RowKey}
use Rattle.ent_values.specs.declared.value.Value.{Value}
use Rattle.ent_eval.specs.declared.exchange.Exchange.TheVariants.{Row}
use Rattle.ent_table.specs.declared.edit.EditFault.TheVariants.{NotThere, AlreadyThere, Limit, Reserved, BadValue, UnknownModule}
use Rattle.ent_table.specs.declared.edit.EditFault.{EditFault}
use Rattle.ent_table.specs.declared.edit.List.{List as Which}
use Rattle.ent_table.specs.proofs_only.Exchange.{exchanged}
use Rattle.ent_table.specs.Names.{has_name, list_of}
use Rattle.ent_table.specs.State.{State}
use Rattle.ent_table.specs.Step.{attribute_set, is_bad_row, is_reserved, is_source, next, unless, with_values, name_added, name_dropped, policy_added, policy_replaced, policy_withdrawn, holds, is_last, is_module, module_holds, module_lacks, exceeds}
use Rattle.ent_table.proofs.Changes.{less_names, more_names}

three_pass : (a b c : Bool) (x y z : EditFault) (t : State) → IsOk (unless a x (unless b y (unless c z (Ok t)))) → (a ≡ false) × (unless a x (unless b y (unless c z (Ok t))) ≡ Ok t)
three_pass true b c x y z t h = cc
three_pass false true c x y z t h = cc
three_pass false false true x y z t h = cc
three_pass false false false x y z t h = (refl, refl)

-- a name that can be added is new, and the step adds it
pub name_passes : (s : State) (list : Which) (name : List ℕ) → IsOk (name_added s list name) → (has_name name (list_of list s.names) ≡ false) × (name_added s list name ≡ Ok (more_names s list name))
name_passes s list name h =
    three_pass (has_name name (list_of list s.names)) (is_last s || exceeds s list name) (is_bad_name name) AlreadyThere Limit BadValue (more_names s list name) h

open_below : (a b c d : Bool) (x y z : EditFault) (t : State)
    → IsOk (unless a x (unless (b || c) y (unless d z (Ok t)))) → b ≡ false
open_below true b c d x y z t h = cc
open_below false true c d x y z t h = cc
open_below false false c d x y z t h = refl

-- where a name can be added, the serial isn't the last
pub name_open : (s : State) (list : Which) (name : List ℕ) → IsOk (name_added s list name) → s.serial < 2 ^ 63
name_open s list name h =
    leb-false (2 ^ 63) s.serial
    (open_below (has_name name (list_of list s.names)) (is_last s) (exceeds s list name) (is_bad_name name)
    AlreadyThere Limit BadValue (more_names s list name) h)

four_pass : (a b c d : Bool) (w x y z : EditFault) (t : State) → IsOk (unless a w (unless b x (unless c y (unless d z (Ok t))))) → unless a w (unless b x (unless c y (unless d z (Ok t)))) ≡ Ok t
four_pass true b c d w x y z t h = cc
four_pass false true c d w x y z t h = cc
four_pass false false true d w x y z t h = cc
four_pass false false false true w x y z t h = cc
four_pass false false false false w x y z t h = refl

-- values that can be set are set
pub row_passes : (s : State) (number : ℕ) (key : RowKey) (values : List Value) → IsOk (attribute_set s number key values) → attribute_set s number key values ≡ exchanged s (Row number key values)
row_passes s number key values h =
    four_pass (is_last s || nat_lt 256 (length values)) (is_reserved key.category key.attribute) (is_bad_row key values) (not (is_source s number key.category)) Limit Reserved BadValue UnknownModule (next (with_values s number key values)) h

-- below the last serial a name is taken out of its list, if it is there
pub name_leaves : (s : State) (list : Which) (name : List ℕ) → has_name name (list_of list s.names) ≡ true → is_last s ≡ false → name_dropped s list name ≡ Ok (less_names s list name)
name_leaves s list name has h = rw (has, h) refl

-- ---- documents

no_fault : (a : Bool) (x : EditFault) (r : Result State EditFault) → IsOk (unless a x r) → (a ≡ false) × IsOk r
no_fault true x r h = cc
no_fault false x r h = (refl, h)

second_false : (a b : Bool) → (a && b) ≡ false → a ≡ true → b ≡ false
second_false true b h e = h
second_false false b h e = cc

not_false : (b : Bool) → not b ≡ false → b ≡ true
not_false true h = refl
not_false false h = cc

-- a document that can be added has a module, and there its key is new
pub added_is_new : (s : State) (number : ℕ) (d : Tree) → IsOk (policy_added s number d) → (number < length s.held.modules) × (holds s number (key_of d) ≡ false)
added_is_new s number d h =
    let first = no_fault (module_holds s number (key_of d)) AlreadyThere _ h in
    let second = no_fault (is_last s || nat_le s.limits.documents (document_count s.held.modules)) Limit _ first.1 in
    let third = no_fault (not (is_module s number)) UnknownModule _ second.1 in
    let is = not_false (is_module s number) third.0 in
    (ltb-true number (length s.held.modules) is, second_false (is_module s number) (holds s number (key_of d)) first.0 is)

-- a document that can be replaced has a module, and there its key is held
pub replaced_is_held : (s : State) (number : ℕ) (d : Tree) → IsOk (policy_replaced s number d) → (number < length s.held.modules) × (holds s number (key_of d) ≡ true)
replaced_is_held s number d h =
    let first = no_fault (module_lacks s number (key_of d)) NotThere _ h in
    let second = no_fault (is_last s) Limit _ first.1 in
    let third = no_fault (not (is_module s number)) UnknownModule _ second.1 in
    let is = not_false (is_module s number) third.0 in
    (ltb-true number (length s.held.modules) is, not_false (holds s number (key_of d)) (second_false (is_module s number) (not (holds s number (key_of d))) first.0 is))

-- so has one that can be withdrawn
pub withdrawn_is_held : (s : State) (number : ℕ) (key : DocKey) → IsOk (policy_withdrawn s number key) → (number < length s.held.modules) × (holds s number key ≡ true)
withdrawn_is_held s number key h =
    let first = no_fault (module_lacks s number key) NotThere _ h in
    let second = no_fault (is_last s) Limit _ first.1 in
    let third = no_fault (is_bad_name key.id) BadValue _ second.1 in
    let fourth = no_fault (not (is_module s number)) UnknownModule _ third.1 in
    let is = not_false (is_module s number) fourth.0 in
    (ltb-true number (length s.held.modules) is, not_false (holds s number key) (second_false (is_module s number) (not (holds s number key)) first.0 is))
