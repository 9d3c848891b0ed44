-- A walk over entries, modules or names, each of which is written as lines.
use Rattle.std.proofs.Common.{◌≡◌, ◌==◌, ◌++◌, ◌∙◌, ℕ, zero, suc, ◌+◌, ◌<◌, ◌≤◌, false, List, [], ◌∷◌, Option, Some, None, ap, refl, sym, arith, map, drop, drop-cons, get_or, length, append-nil, append_assoc, codes, filter_map, OnOk, Result, Ok, Err}
use Rattle.std.specs.Prelude.{filter, slice_get, slice_index_or}
use Rattle.std.specs.List.{enumerate_from, flat_map}
use Rattle.json.specs.Token as token
use Rattle.json.specs.Token.{Token}
use Rattle.serde_json.specs.Data as json
use Rattle.serde_json.specs.Written.{compact_text}
use Rattle.ent_values.specs.declared.value.Value.{Value}
use Rattle.ent_policy.specs.declared.document.Tree.{Tree}
use Rattle.ent_policy.specs.declared.key.DocKey.{DocKey}
use Rattle.std.specs.Borrow.{Bor}
use Rattle.std.specs.FinMap.{entries}
use Rattle.std.specs.Option.{option_copied, option_map}
use Rattle.ent_finder.proofs.Filled.{entries-filled}
use Rattle.ent_finder.proofs.Held.{entries-held}
use Rattle.ent_finder.specs.Rows.{Source, filled_source, is_filled}
use Rattle.ent_finder.specs.Slots.{Slots, filled_entry, held}
use Rattle.ent_finder.specs.declared.row.RowKey.{RowKey}
use Rattle.ent_json.specs.Text.{tokens_of}
use Rattle.ent_json.specs.proofs_only.Text.{items_tokens_of}
use Rattle.ent_table.specs.State.{State}
use Rattle.ent_table.specs.declared.edit.Edit.{Edit}
use Rattle.ent_table.specs.declared.edit.Edit.TheVariants.{AddName}
use Rattle.ent_table.specs.declared.edit.List.{List as Which}
use Rattle.law_rebuild.specs.Rebuilding.{all_documents, all_names, all_rows, document_edit, environment_edits, module_edits, name_edits, rebuilding, root_edits, row_edit, source_edits}
use Rattle.ent_dump.specs.Dumped.{dump_data, format_data}
use Rattle.ent_dump.specs.Edits.{edit_data, edit_line, row_data}
use Rattle.ent_dump.specs.proofs_only.Walk.{filled_edits, held_edits, line_tokens, slot_edits}

-- ---- what is left of a list

at_place : {A : Type 0} (xs : List A) (i : ℕ) (x : A) → slice_get xs i ≡ Some x → drop i xs ≡ x ∷ drop (i + 1) xs
at_place [] i x h = cc
at_place (y ∷ xs) zero x h = let same : y ≡ x = cc in ap (λ z. z ∷ xs) same
at_place (y ∷ xs) (suc i) x h = let next : suc i + 1 ≡ suc (i + 1) = omega arith in at_place xs i x h ∙ ap (λ n. x ∷ drop n (y ∷ xs)) (sym next)

past : {A : Type 0} (xs : List A) (i : ℕ) → slice_get xs i ≡ None → drop i xs ≡ []
past [] zero h = refl
past [] (suc i) h = refl
past (y ∷ xs) zero h = cc
past (y ∷ xs) (suc i) h = past xs i h

all_past : {A : Type 0} (xs : List A) (i : ℕ) → length xs ≤ i → drop i xs ≡ []
all_past [] zero h = refl
all_past [] (suc i) h = refl
all_past (y ∷ xs) zero h = absurd (omega (arith, h))
all_past (y ∷ xs) (suc i) h = all_past xs i (omega (arith, h))

next_module : {A : Type 0} (xs : List A) (i : ℕ) (d : A) → i < length xs → drop i xs ≡ slice_index_or xs i d ∷ drop (i + 1) xs
next_module [] i d h = absurd (omega (arith, h))
next_module (y ∷ xs) zero d h = refl
next_module (y ∷ xs) (suc i) d h =
    let next : suc i + 1 ≡ suc (i + 1) = omega arith in next_module xs i d (omega (arith, h)) ∙ ap (λ n. slice_index_or xs i d ∷ drop n (y ∷ xs)) (sym next)

-- ---- lines

pub lines-append : (es fs : List Edit) → line_tokens (es ++ fs) ≡ line_tokens es ++ line_tokens fs
lines-append [] fs = refl
lines-append (e ∷ es) fs = ap (λ ts. token.string (edit_line e) ∷ ts) (lines-append es fs)

-- the lines of one more are written, behind those in front
written_on : (out new total : List Token) (es fs : List Edit) → new ≡ out ++ line_tokens es → out ++ line_tokens (es ++ fs) ≡ total
    → new ++ line_tokens fs ≡ total
written_on out new total es fs put so_far =
    ap (λ ts. ts ++ line_tokens fs) put ∙ append_assoc out (line_tokens es) (line_tokens fs) ∙ ap (λ ts. out ++ ts) (sym (lines-append es fs)) ∙ so_far

-- one more entry of a walk
pub walked_on : {A : Type 0} (f : A → List Edit) (xs : List A) (i : ℕ) (x : A) (out new total : List Token) → slice_get xs i ≡ Some x
    → new ≡ out ++ line_tokens (f x) → out ++ line_tokens (flat_map f (drop i xs)) ≡ total → new ++ line_tokens (flat_map f (drop (i + 1) xs)) ≡ total
walked_on f xs i x out new total here put so_far =
    written_on out new total (f x) (flat_map f (drop (i + 1) xs)) put (ap (λ ys. out ++ line_tokens (flat_map f ys)) (sym (at_place xs i x here)) ∙ so_far)

ended_with : (out total : List Token) → out ++ line_tokens [] ≡ total → out ≡ total
ended_with out total h = sym (append-nil out) ∙ h

-- the end of a walk
pub walked : {A : Type 0} (f : A → List Edit) (xs : List A) (i : ℕ) (out total : List Token) → slice_get xs i ≡ None
    → out ++ line_tokens (flat_map f (drop i xs)) ≡ total → out ≡ total
walked f xs i out total none so_far = ended_with out total (ap (λ ys. out ++ line_tokens (flat_map f ys)) (sym (past xs i none)) ∙ so_far)

pub walked_all : {A : Type 0} (f : A → List Edit) (xs : List A) (i : ℕ) (out total : List Token) → length xs ≤ i
    → out ++ line_tokens (flat_map f (drop i xs)) ≡ total → out ≡ total
walked_all f xs i out total most so_far = ended_with out total (ap (λ ys. out ++ line_tokens (flat_map f ys)) (sym (all_past xs i most)) ∙ so_far)

-- ---- modules by their numbers

pub module_on : {A : Type 0} (f : ℕ × A → List Edit) (xs : List A) (i : ℕ) (d : A) (out new total : List Token) → i < length xs
    → new ≡ out ++ line_tokens (f (i, slice_index_or xs i d)) → out ++ line_tokens (flat_map f (enumerate_from i (drop i xs))) ≡ total
    → new ++ line_tokens (flat_map f (enumerate_from (i + 1) (drop (i + 1) xs))) ≡ total
module_on f xs i d out new total lt put so_far =
    written_on out new total (f (i, slice_index_or xs i d)) (flat_map f (enumerate_from (i + 1) (drop (i + 1) xs))) put
    (ap (λ ys. out ++ line_tokens (flat_map f (enumerate_from i ys))) (sym (next_module xs i d lt)) ∙ so_far)

pub modules_all : {A : Type 0} (f : ℕ × A → List Edit) (xs : List A) (i : ℕ) (out total : List Token) → length xs ≤ i
    → out ++ line_tokens (flat_map f (enumerate_from i (drop i xs))) ≡ total → out ≡ total
modules_all f xs i out total most so_far =
    ended_with out total (ap (λ ys. out ++ line_tokens (flat_map f (enumerate_from i ys))) (sym (all_past xs i most)) ∙ so_far)

-- a function of what a module holds
pub numbered-map : {A B : Type 0} (f : ℕ × B → List Edit) (g : A → B) (i : ℕ) (xs : List A)
    → flat_map f (enumerate_from i (map g xs)) ≡ flat_map (λ m. f (m.0, g m.1)) (enumerate_from i xs)
numbered-map f g i [] = refl
numbered-map f g i (x ∷ xs) = ap (λ es. f (i, g x) ++ es) (numbered-map f g (i + 1) xs)

-- ---- names

pub name_on : (list : Which) (names : List (List ℕ)) (i : ℕ) (x : List ℕ) (out new total : List Token) → i < length names → x ≡ get_or names i x
    → new ≡ out ++ line_tokens (AddName list x ∷ []) → out ++ line_tokens (name_edits list (drop i names)) ≡ total
    → new ++ line_tokens (name_edits list (drop (i + 1) names)) ≡ total
name_on list names i x out new total lt here put so_far =
    let one : drop i names ≡ x ∷ drop (i + 1) names = drop-cons names i x lt ∙ ap (λ y. y ∷ drop (suc i) names) (sym here)
    ∙ (let same : suc i ≡ i + 1 = omega arith in ap (λ n. x ∷ drop n names) same) in
    written_on out new total (AddName list x ∷ []) (name_edits list (drop (i + 1) names)) put
    (ap (λ ys. out ++ line_tokens (name_edits list ys)) (sym one) ∙ so_far)

pub names_all : (list : Which) (names : List (List ℕ)) (i : ℕ) (out total : List Token) → length names ≤ i
    → out ++ line_tokens (name_edits list (drop i names)) ≡ total → out ≡ total
names_all list names i out total most so_far = ended_with out total (ap (λ ys. out ++ line_tokens (name_edits list ys)) (sym (all_past names i most)) ∙ so_far)

-- ---- what is written of slots and of rows

pub slots_edited : (number : ℕ) (es : List (DocKey × Option Tree)) → flat_map (λ e. slot_edits number e.1) es ≡ map (document_edit number)
    (filter_map filled_entry es)
slots_edited number [] = refl
slots_edited number ((key, None) ∷ es) = slots_edited number es
slots_edited number ((key, Some document) ∷ es) = ap (λ fs. document_edit number (key, document) ∷ fs) (slots_edited number es)

pub rows_edited : (number : ℕ) (es : List (RowKey × List Value)) → flat_map (λ e. filled_edits number e.0 e.1) es ≡ map (row_edit number)
    (filter (λ e. is_filled e.1) es)
rows_edited number [] = refl
rows_edited number ((key, []) ∷ es) = rows_edited number es
rows_edited number ((key, v ∷ vs) ∷ es) = ap (λ fs. row_edit number (key, v ∷ vs) ∷ fs) (rows_edited number es)

-- ---- parts of a dump

-- the lines of two parts, of which the second may be refused
pub lines_end : {E : Type 0} (r : Result (Unit {0}) E) (old x y : List Token) (es fs : List Edit) → x ≡ old ++ line_tokens es
    → OnOk r (y ≡ x ++ line_tokens fs) → OnOk r (y ≡ old ++ line_tokens (es ++ fs))
lines_end (Ok done) old x y es fs first second =
    second ∙ ap (λ ts. ts ++ line_tokens fs) first ∙ append_assoc old (line_tokens es) (line_tokens fs) ∙ ap (λ ts. old ++ ts) (sym (lines-append es fs))
lines_end (Err e) old x y es fs first second = second

-- what is held, and then the names
pub rebuilding_is : (s : State) → rebuilding s ≡ held_edits s.held ++ all_names s.names
rebuilding_is s =
    let documents : List Edit = all_documents s.held.modules in
    let rows : List Edit = all_rows s.held.sources in
    let environment : List Edit = environment_edits s.held.environment in
    let root : List Edit = root_edits s.held.root in
    let names : List Edit = all_names s.names in
    sym (append_assoc documents (rows ++ (environment ++ root)) names
    ∙ ap (λ es. documents ++ es) (append_assoc rows (environment ++ root) names ∙ ap (λ es. rows ++ es) (append_assoc environment root names)))

-- the tokens of texts, to the end of their list
texts_listed : (es : List Edit) → items_tokens_of (map json.string (map compact_text (map edit_data es))) ≡ line_tokens es ++ token.end_array ∷ []
texts_listed [] = refl
texts_listed (e ∷ es) = ap (λ ts. token.string (edit_line e) ∷ ts) (texts_listed es)

-- the tokens of the reply
pub dump_tokens : (version : ℕ) (s : State) → tokens_of (dump_data version s)
    ≡ (token.begin_object ∷ []) ++ ((token.key (codes "dump") ∷ []) ++ ((token.begin_array ∷ []) ++ ((token.string (compact_text (format_data version)) ∷ [])
    ++ (line_tokens (rebuilding s) ++ ((token.end_array ∷ []) ++ token.end_object ∷ [])))))
dump_tokens version s =
    ap (λ ts. token.begin_object ∷ token.key (codes "dump") ∷ token.begin_array ∷ token.string (compact_text (format_data version)) ∷
    (ts ++ token.end_object ∷ []))
    (texts_listed (rebuilding s))
    ∙ ap (λ ts. token.begin_object ∷ token.key (codes "dump") ∷ token.begin_array ∷ token.string (compact_text (format_data version)) ∷ ts)
    (append_assoc (line_tokens (rebuilding s)) (token.end_array ∷ []) (token.end_object ∷ []))

-- ---- what is held in a module

pub module_edited : (number : ℕ) (slots : Slots) → flat_map (λ e. slot_edits number e.1) (entries slots) ≡ module_edits (number, held slots)
module_edited number slots = slots_edited number (entries slots) ∙ ap (map (document_edit number)) (sym (entries-held slots))

pub source_edited : (number : ℕ) (source : Source) → flat_map (λ e. filled_edits number e.0 e.1) (entries source.rows) ≡ source_edits
    (number, filled_source source)
source_edited number source = rows_edited number (entries source.rows) ∙ ap (map (row_edit number)) (sym (entries-filled source.rows))

-- ---- entries by their place

pub found : {A E : Type 0} (f : A → E) (r : Option (Bor A)) (b : Bor A) (o : Option E) → r ≡ Some b → option_map f (option_copied r) ≡ o → o ≡ Some (f b.now)
found f r b o here is = sym is ∙ ap (λ q. option_map f (option_copied q)) here

pub not_found : {A E : Type 0} (f : A → E) (r : Option (Bor A)) (o : Option E) → r ≡ None → option_map f (option_copied r) ≡ o → o ≡ None
not_found f r o none is = sym is ∙ ap (λ q. option_map f (option_copied q)) none

-- ---- a row that isn't empty

filled_line : (number : ℕ) (key : RowKey) (values : List Value) → (length values == 0) ≡ false
    → token.string (compact_text (row_data number key values)) ∷ [] ≡ line_tokens (filled_edits number key values)
unfolding edit_data
filled_line number key [] h = cc
filled_line number key (v ∷ vs) h = refl

pub row_lined : {E : Type 0} (r : Result (Unit {0}) E) (old new : List Token) (number : ℕ) (key : RowKey) (values shown : List Value)
    → shown ≡ values → (length shown == 0) ≡ false → OnOk r (new ≡ old ++ token.string (compact_text (row_data number key shown)) ∷ [])
    → OnOk r (new ≡ old ++ line_tokens (filled_edits number key values))
row_lined (Ok done) old new number key values shown same some put =
    put ∙ ap (λ ts. old ++ ts) (filled_line number key shown some ∙ ap (λ vs. line_tokens (filled_edits number key vs)) same)
row_lined (Err e) old new number key values shown same some put = put
