-- Soundness at the start and behind a step.
use Rattle.std.proofs.Common.{◌≡◌, ℕ, ◌+◌, ◌<◌, ◌≤◌, ◌^◌, Bool, true, false, List, [], ◌∷◌, length, Option, Some, None, Result, Ok, Err, refl, sym, ap, subst}
use Rattle.std.proofs.Common.{◌∙◌, arith}
use Rattle.std.specs.Prelude.{◌||◌, ◌&&◌, cond, map, nat_le, nat_lt, not, slice_set}
use Rattle.std.specs.FinMap.{contains_key, empty, insert, len, len-insert, remove}
use Rattle.std.specs.List.{AllByRecursion}
use Rattle.std.specs.Result.{result_unwrap_or}
use Rattle.std.proofs.Math.Nat.{le_trans}
use Rattle.std.proofs.lemmas.Bool.{leb-false, ltb-false, ltb-true}
use Rattle.std.proofs.lemmas.List.{length-append}
use Rattle.std.proofs.lemmas.List.Sums.{sum_by-set}
use Rattle.ent_values.specs.declared.value.Value.{Value}
use Rattle.ent_policy.specs.Key.{key_of}
use Rattle.ent_policy.specs.Check.{IsChecked}
use Rattle.ent_policy.specs.Names.{is_bad_name}
use Rattle.ent_policy.specs.declared.document.Tree.{Tree}
use Rattle.ent_policy.specs.declared.key.DocKey.{DocKey}
use Rattle.ent_policy.specs.declared.key.Reference.{Reference}
use Rattle.ent_finder.proofs.Totals.{key_cmp_total}
use Rattle.ent_finder.specs.Rows.{Source, source_at, supports, with_row}
use Rattle.ent_finder.specs.Slots.{Docs, document_count, module_at, with_document}
use Rattle.ent_finder.specs.declared.row.RowKey.{RowKey}
use Rattle.ent_finder.proofs.Keys.{key_cmp_antisymmetric}
use Rattle.ent_request.specs.Environment.{of_day, of_moment}
use Rattle.ent_request.specs.declared.environment.Environment.{Environment}
use Rattle.ent_request.specs.declared.environment.Environment.TheVariants as environments
use Rattle.ent_table.proofs.Changes.{less_names, more_names}
use Rattle.ent_table.specs.declared.edit.Edit.{Edit}
use Rattle.ent_table.specs.declared.edit.Edit.TheVariants.{AddPolicy, ReplacePolicy, WithdrawPolicy, SetAttribute, AddName, DropName, SetRoot, SetDay}
use Rattle.ent_table.specs.declared.edit.Edit.TheVariants.{SetMoment}
use Rattle.ent_table.specs.declared.edit.EditFault.{EditFault}
use Rattle.ent_table.specs.declared.edit.EditFault.TheVariants.{NotThere, AlreadyThere, Limit, Reserved, BadValue, UnknownModule}
use Rattle.ent_table.specs.declared.edit.List.{List as Which}
use Rattle.ent_table.specs.declared.edit.List.TheVariants as which
use Rattle.ent_table.specs.Names.{Names, cell_count, has_name, list_of, others, with_name, without_name}
use Rattle.ent_table.specs.State.{State}
use Rattle.ent_table.specs.Step.{attribute_set, exceeds, holds, is_bad_row, is_last, is_module, is_reserved, is_source, next, policy_added, policy_replaced}
use Rattle.ent_table.specs.Step.{policy_withdrawn, step, unless, with_environment, with_policy, with_values}
use Rattle.law_rebuild.specs.Laws.{ReachedStatesAreRebuilt, SoundnessIsKept}
use Rattle.law_rebuild.specs.Rebuilding.{edited, emptied, emptied_modules, emptied_source, environment_edits, reached, rebuilding, root_edits, stepped}
use Rattle.law_rebuild.specs.Sound.{AreSoundNames, IsSound, IsSoundEdit}
use Rattle.law_rebuild.proofs.Counting.{length-rebuilding, row_count, rows_none}
use Rattle.law_rebuild.proofs.Documents.{count_none}
use Rattle.law_rebuild.proofs.HeldKept.{IsSoundModule, IsSoundSource, IsSoundUnder, IsSoundWith, len-remove-le, module_kept, no_document_sound, no_row_sound}
use Rattle.law_rebuild.proofs.HeldKept.{row_count_more, same_modules, same_sources, set_each, source_kept}
use Rattle.law_rebuild.proofs.Named.{fewer_cells}
use Rattle.law_rebuild.proofs.NamesKept.{both_false, fewer_left, name_less_sound, name_more_sound, no_name_sound}
use Rattle.law_rebuild.proofs.Rebuilt.{states_rebuilt}

-- ---- the start

start_sound : (s : State) → IsSound (emptied s)
start_sound s = record {
  people = no_name_sound s.limits.people;
  actions = no_name_sound s.limits.actions;
  resources = no_name_sound s.limits.resources;
  cells = omega arith;
  documents = no_document_sound s.held.modules;
  count = omega (arith, count_none s.held.modules);
  rows = no_row_sound s.held.sources;
  edits = omega (arith, length-rebuilding (emptied s), count_none s.held.modules, rows_none s.held.sources);
  serial = omega arith;
}

-- ---- one part is another

with_names_sound : (s : State) (names : Names) → IsSound s → s.serial < 2 ^ 63 → AreSoundNames names.people s.limits.people
    → AreSoundNames names.actions s.limits.actions → AreSoundNames names.resources s.limits.resources
    → cell_count names ≤ s.limits.cells → length names.people + (length names.actions + length names.resources) ≤ length s.names.people +
    (length s.names.actions + length s.names.resources) + 1
    → IsSound (next (record s { names = names }))
with_names_sound s names sound below people actions resources cells more = record {
  people = people;
  actions = actions;
  resources = resources;
  cells = cells;
  documents = sound.documents;
  count = sound.count;
  rows = sound.rows;
  edits = omega (arith, length-rebuilding s, length-rebuilding (next (record s { names = names })), sound.edits);
  serial = omega arith;
}

with_modules_sound : (s : State) (modules : List Docs) → IsSound s → s.serial < 2 ^ 63 → ((i : ℕ) → IsSoundModule (module_at modules i))
    → document_count modules ≤ s.limits.documents
    → document_count modules ≤ document_count s.held.modules + 1 → IsSound (next (record s { held = record s.held { modules = modules } }))
with_modules_sound s modules sound below documents count more = record {
  people = sound.people;
  actions = sound.actions;
  resources = sound.resources;
  cells = sound.cells;
  documents = documents;
  count = count;
  rows = sound.rows;
  edits = omega (arith, length-rebuilding s, length-rebuilding (next (record s { held = record s.held { modules = modules } })), sound.edits);
  serial = omega arith;
}

with_sources_sound : (s : State) (sources : List Source) → IsSound s → s.serial < 2 ^ 63 → ((i : ℕ) → IsSoundSource (source_at sources i))
    → row_count sources ≤ row_count s.held.sources + 1
    → IsSound (next (record s { held = record s.held { sources = sources } }))
with_sources_sound s sources sound below rows more = record {
  people = sound.people;
  actions = sound.actions;
  resources = sound.resources;
  cells = sound.cells;
  documents = sound.documents;
  count = sound.count;
  rows = rows;
  edits = omega (arith, length-rebuilding s, length-rebuilding (next (record s { held = record s.held { sources = sources } })), sound.edits);
  serial = omega arith;
}

one_environment : (environment : Environment) → length (environment_edits environment) ≤ 1
one_environment environments.Empty = omega arith
one_environment (environments.Day day) = omega arith
one_environment (environments.Moment moment) = omega arith

with_environment_sound : (s : State) (environment : Environment) → IsSound s → s.serial < 2 ^ 63 → IsSound (next (with_environment s environment))
with_environment_sound s environment sound below = record {
  people = sound.people;
  actions = sound.actions;
  resources = sound.resources;
  cells = sound.cells;
  documents = sound.documents;
  count = sound.count;
  rows = sound.rows;
  edits = omega (arith, length-rebuilding s, length-rebuilding (next (with_environment s environment)), sound.edits, one_environment environment);
  serial = omega arith;
}

one_root : (root : Option Reference) → length (root_edits root) ≤ 1
one_root None = omega arith
one_root (Some root) = omega arith

with_root_sound : (s : State) (root : Option Reference) → IsSound s → s.serial < 2 ^ 63 → IsSound (next (record s { held = record s.held { root = root } }))
with_root_sound s root sound below = record {
  people = sound.people;
  actions = sound.actions;
  resources = sound.resources;
  cells = sound.cells;
  documents = sound.documents;
  count = sound.count;
  rows = sound.rows;
  edits = omega (arith, length-rebuilding s, length-rebuilding (next (record s { held = record s.held { root = root } })), sound.edits, one_root root);
  serial = omega arith;
}

-- ---- what a step that isn't refused says

pub allowed : (a : Bool) (x : EditFault) (r : Result State EditFault) (t : State) → unless a x r ≡ Ok t → (a ≡ false) × (r ≡ Ok t)
allowed true x r t h = cc
allowed false x r t h = (refl, h)

below_last : (s : State) → is_last s ≡ false → s.serial < 2 ^ 63
below_last s h = leb-false (2 ^ 63) s.serial h

no_longer : (b : Bool) → not b ≡ false → b ≡ true
no_longer true h = refl
no_longer false h = cc

not_both : (a b : Bool) → (a && b) ≡ false → a ≡ true → b ≡ false
not_both true b h e = h
not_both false b h e = cc

both_true : (a b : Bool) → (a && b) ≡ true → (a ≡ true) × (b ≡ true)
both_true true b h = (refl, h)
both_true false b h = cc

-- the state is sound, and has the modules and the limits of the one before
abbrev IsKept : State → State → Type 0
IsKept s t = IsSound t × (emptied t ≡ emptied s)

arrived : (s u t : State) → ◌≡◌ {A = Result State EditFault} (Ok u) (Ok t) → IsKept s u → IsKept s t
arrived s u t e kept = let same : u ≡ t = cc in subst (λ (v : State). IsKept s v) same kept

-- ---- names

more_kept : (s : State) (list : Which) (name : List ℕ) → IsSound s → s.serial < 2 ^ 63 → has_name name (list_of list s.names) ≡ false
    → exceeds s list name ≡ false → is_bad_name name ≡ false → IsKept s (more_names s list name)
more_kept s which.People name sound below new limits good =
    let room = both_false (nat_le s.limits.people (length s.names.people)) (nat_lt s.limits.cells (cell_count (with_name which.People name s.names))) limits in
    let people = name_more_sound s.names.people s.limits.people name sound.people new good (leb-false s.limits.people (length s.names.people) room.0) in (
      with_names_sound s (with_name which.People name s.names) sound below people sound.actions sound.resources
          (ltb-false s.limits.cells (cell_count (with_name which.People name s.names)) room.1)
          (omega (arith, length-append s.names.people (name ∷ []))),
      refl,
    )
more_kept s which.Actions name sound below new limits good =
    let room = both_false (nat_le s.limits.actions (length s.names.actions))
    (nat_lt s.limits.cells (cell_count (with_name which.Actions name s.names))) limits in
    let actions = name_more_sound s.names.actions s.limits.actions name sound.actions new good (leb-false s.limits.actions (length s.names.actions) room.0) in (
      with_names_sound s (with_name which.Actions name s.names) sound below sound.people actions sound.resources
          (ltb-false s.limits.cells (cell_count (with_name which.Actions name s.names)) room.1)
          (omega (arith, length-append s.names.actions (name ∷ []))),
      refl,
    )
more_kept s which.Resources name sound below new limits good =
    let room = both_false (nat_le s.limits.resources (length s.names.resources))
    (nat_lt s.limits.cells (cell_count (with_name which.Resources name s.names))) limits in
    let resources = name_more_sound s.names.resources s.limits.resources name sound.resources new good
    (leb-false s.limits.resources (length s.names.resources) room.0) in (
      with_names_sound s (with_name which.Resources name s.names) sound below sound.people sound.actions resources
          (ltb-false s.limits.cells (cell_count (with_name which.Resources name s.names)) room.1)
          (omega (arith, length-append s.names.resources (name ∷ []))),
      refl,
    )

less_kept : (s : State) (list : Which) (name : List ℕ) → IsSound s → s.serial < 2 ^ 63 → IsKept s (less_names s list name)
less_kept s which.People name sound below =
    let fewer : length (others name s.names.people) ≤ length s.names.people = fewer_left _ s.names.people in (
      with_names_sound s (without_name which.People name s.names) sound below
          (name_less_sound s.names.people s.limits.people name sound.people) sound.actions sound.resources
          (le_trans (fewer_cells which.People (others name s.names.people) s.names.people s.names fewer) sound.cells) (omega arith),
      refl,
    )
less_kept s which.Actions name sound below =
    let fewer : length (others name s.names.actions) ≤ length s.names.actions = fewer_left _ s.names.actions in (
      with_names_sound s (without_name which.Actions name s.names) sound below sound.people
          (name_less_sound s.names.actions s.limits.actions name sound.actions) sound.resources
          (le_trans (fewer_cells which.Actions (others name s.names.actions) s.names.actions s.names fewer) sound.cells) (omega arith),
      refl,
    )
less_kept s which.Resources name sound below =
    let fewer : length (others name s.names.resources) ≤ length s.names.resources = fewer_left _ s.names.resources in (
      with_names_sound s (without_name which.Resources name s.names) sound below sound.people sound.actions
          (name_less_sound s.names.resources s.limits.resources name sound.resources)
          (le_trans (fewer_cells which.Resources (others name s.names.resources) s.names.resources s.names fewer) sound.cells) (omega arith),
      refl,
    )

-- ---- documents

put_kept : (s : State) (number : ℕ) (key : DocKey) (o : Option Tree) → IsSound s → s.serial < 2 ^ 63 → IsSoundUnder key o
    → document_count (slice_set s.held.modules number (with_document (module_at s.held.modules number) key o)) ≤ s.limits.documents
    → document_count (slice_set s.held.modules number (with_document (module_at s.held.modules number) key o)) ≤ document_count s.held.modules + 1
    → IsKept s (next (with_policy s number key o))
put_kept s number key o sound below here count more =
    let m = with_document (module_at s.held.modules number) key o in (
      with_modules_sound s (slice_set s.held.modules number m) sound below
          (set_each IsSoundModule empty s.held.modules number m (module_kept (module_at s.held.modules number) key o
          (sound.documents number) here) sound.documents)
          count more,
      ap (λ (l : List Docs). record (emptied s) { held = record (emptied s).held { modules = l } }) (same_modules s.held.modules number m),
    )

-- how many documents there are with another module in place of one
counted : (s : State) (number : ℕ) (m : Docs) → number < length s.held.modules
    → document_count (slice_set s.held.modules number m) + len (module_at s.held.modules number) ≡ document_count s.held.modules + len m
counted s number m h = sum_by-set len s.held.modules number m empty h

longer : (m : Docs) (key : DocKey) (d : Tree) (b : Bool) → contains_key m key ≡ b → len (insert m key d) ≡ cond b (len m) (len m + 1)
longer m key d b e = len-insert key_cmp_total m key d ∙ ap (λ c. cond c (len m) (len m + 1)) e

added_kept : (s : State) (number : ℕ) (d : Tree) (t : State) → IsSound s → IsChecked d → policy_added s number d ≡ Ok t → IsKept s t
added_kept s number d t sound checked h =
    let a = allowed (is_module s number && holds s number (key_of d)) AlreadyThere _ t h in
    let b = allowed (is_last s || nat_le s.limits.documents (document_count s.held.modules)) Limit _ t a.1 in
    let c = allowed (not (is_module s number)) UnknownModule _ t b.1 in
    let limits = both_false (is_last s) (nat_le s.limits.documents (document_count s.held.modules)) b.0 in
    let room = leb-false s.limits.documents (document_count s.held.modules) limits.1 in
    let is = no_longer (is_module s number) c.0 in
    let new = not_both (is_module s number) (holds s number (key_of d)) a.0 is in
    let m = module_at s.held.modules number in
    let count = counted s number (insert m (key_of d) d) (ltb-true number (length s.held.modules) is) in
    let long = longer m (key_of d) d false new in
    arrived s (next (with_policy s number (key_of d) (Some d))) t c.1
    (put_kept s number (key_of d) (Some d) sound (below_last s limits.0) (record { own = refl; checked = checked }) (omega (arith, count, long, room))
    (omega (arith, count, long)))

replaced_kept : (s : State) (number : ℕ) (d : Tree) (t : State) → IsSound s → IsChecked d → policy_replaced s number d ≡ Ok t → IsKept s t
replaced_kept s number d t sound checked h =
    let a = allowed (is_module s number && not (holds s number (key_of d))) NotThere _ t h in
    let b = allowed (is_last s) Limit _ t a.1 in
    let c = allowed (not (is_module s number)) UnknownModule _ t b.1 in
    let is = no_longer (is_module s number) c.0 in
    let old = no_longer (holds s number (key_of d)) (not_both (is_module s number) (not (holds s number (key_of d))) a.0 is) in
    let m = module_at s.held.modules number in
    let count = counted s number (insert m (key_of d) d) (ltb-true number (length s.held.modules) is) in
    let long = longer m (key_of d) d true old in
    arrived s (next (with_policy s number (key_of d) (Some d))) t c.1
    (put_kept s number (key_of d) (Some d) sound (below_last s b.0) (record { own = refl; checked = checked }) (omega (arith, count, long, sound.count))
    (omega (arith, count, long)))

withdrawn_kept : (s : State) (number : ℕ) (key : DocKey) (t : State) → IsSound s → policy_withdrawn s number key ≡ Ok t → IsKept s t
withdrawn_kept s number key t sound h =
    let a = allowed (is_module s number && not (holds s number key)) NotThere _ t h in
    let b = allowed (is_last s) Limit _ t a.1 in
    let c = allowed (is_bad_name key.id) BadValue _ t b.1 in
    let e = allowed (not (is_module s number)) UnknownModule _ t c.1 in
    let is = no_longer (is_module s number) e.0 in
    let m = module_at s.held.modules number in
    let count = counted s number (remove m key) (ltb-true number (length s.held.modules) is) in
    let less : len (remove m key) ≤ len m = len-remove-le key_cmp_total key_cmp_antisymmetric (λ _ _. Unit {0}) m key in
    arrived s (next (with_policy s number key None)) t e.1
    (put_kept s number key None sound (below_last s b.0) tt (omega (arith, count, less, sound.count)) (omega (arith, count, less)))

-- ---- rows

can_be_set : (c : Source) (key : RowKey) (values : List Value) → length values ≤ 256 → is_reserved key.category key.attribute ≡ false
    → is_bad_row key values ≡ false → supports key.category c ≡ true → IsSoundWith c key values
can_be_set c key [] most free good supported = tt
can_be_set c key (v ∷ vs) most free good supported = record { filled = refl; most = most; free = free; good = good; supported = supported }

set_kept : (s : State) (number : ℕ) (key : RowKey) (values : List Value) (t : State) → IsSound s → attribute_set s number key values ≡ Ok t → IsKept s t
set_kept s number key values t sound h =
    let a = allowed (is_last s || nat_lt 256 (length values)) Limit _ t h in
    let b = allowed (is_reserved key.category key.attribute) Reserved _ t a.1 in
    let c = allowed (is_bad_row key values) BadValue _ t b.1 in
    let e = allowed (not (is_source s number key.category)) UnknownModule _ t c.1 in
    let limits = both_false (is_last s) (nat_lt 256 (length values)) a.0 in
    let old = source_at s.held.sources number in
    let is = both_true (nat_lt number (length s.held.sources)) (supports key.category old) (no_longer (is_source s number key.category) e.0) in
    let new : Source = record old { rows = with_row old.rows key values } in
    let can = can_be_set old key values (ltb-false 256 (length values) limits.1) b.0 c.0 is.1 in
    arrived s (next (with_values s number key values)) t e.1 (
      with_sources_sound s (slice_set s.held.sources number new) sound (below_last s limits.0)
          (set_each IsSoundSource (record { categories = []; rows = empty }) s.held.sources number new
          (source_kept old key values (sound.rows number) can) sound.rows)
          (row_count_more s.held.sources number key values (ltb-true number (length s.held.sources) is.0)),
      ap (λ (l : List Source). record (emptied s) { held = record (emptied s).held { sources = l } })
          (same_sources s.held.sources number (with_row old.rows key values)),
    )

-- ---- any edit

kept : (s t : State) (e : Edit) → IsSound s → IsSoundEdit e → step s e ≡ Ok t → IsKept s t
kept s t (AddPolicy number d) sound checked h = added_kept s number d t sound checked h
kept s t (ReplacePolicy number d) sound checked h = replaced_kept s number d t sound checked h
kept s t (WithdrawPolicy number key) sound checked h = withdrawn_kept s number key t sound h
kept s t (SetAttribute number key values) sound checked h = set_kept s number key values t sound h
kept s t (AddName list name) sound checked h =
    let a = allowed (has_name name (list_of list s.names)) AlreadyThere _ t h in
    let b = allowed (is_last s || exceeds s list name) Limit _ t a.1 in
    let c = allowed (is_bad_name name) BadValue _ t b.1 in
    let limits = both_false (is_last s) (exceeds s list name) b.0 in
    arrived s (more_names s list name) t c.1 (more_kept s list name sound (below_last s limits.0) a.0 limits.1 c.0)
kept s t (DropName list name) sound checked h =
    let a = allowed (not (has_name name (list_of list s.names))) NotThere _ t h in
    let b = allowed (is_last s) Limit _ t a.1 in
    arrived s (less_names s list name) t b.1 (less_kept s list name sound (below_last s b.0))
kept s t (SetRoot root) sound checked h =
    let a = allowed (is_last s) Limit _ t h in
    arrived s (next (record s { held = record s.held { root = root } })) t a.1 (with_root_sound s root sound (below_last s a.0), refl)
kept s t (SetDay day) sound checked h =
    let a = allowed (is_last s) Limit _ t h in
    arrived s (next (with_environment s (of_day day))) t a.1 (with_environment_sound s (of_day day) sound (below_last s a.0), refl)
kept s t (SetMoment moment) sound checked h =
    let a = allowed (is_last s) Limit _ t h in
    arrived s (next (with_environment s (of_moment moment))) t a.1 (with_environment_sound s (of_moment moment) sound (below_last s a.0), refl)

pub soundness_kept : SoundnessIsKept
soundness_kept = (start_sound, kept)

-- ---- several edits

edited_kept : (s : State) (e : Edit) → IsSound s → IsSoundEdit e → IsKept s (edited s e)
edited_kept s e sound checked = by (step s e) (λ t is. kept s t e sound checked is)
  where
    by : (r : Result State EditFault) → ((t : State) → r ≡ Ok t → IsKept s t) → IsKept s (result_unwrap_or r s)
    by (Ok t) h = h t refl
    by (Err fault) h = (sound, refl)

reached_kept : (s : State) (es : List Edit) → IsSound s → AllByRecursion IsSoundEdit es → IsKept s (reached s es)
reached_kept s [] sound checked = (sound, refl)
reached_kept s (e ∷ es) sound checked =
    let first = edited_kept s e sound checked.0 in
    let rest = reached_kept (edited s e) es first.0 checked.1 in
    (rest.0, rest.1 ∙ first.1)

emptied_twice : (s : State) → emptied (emptied s) ≡ emptied s
emptied_twice s = λ i. record (emptied s) { held = record (emptied s).held { modules = no_modules s.held.modules i; sources = no_sources s.held.sources i } }
  where
    no_modules : (ms : List Docs) → emptied_modules (emptied_modules ms) ≡ emptied_modules ms
    no_modules [] = refl
    no_modules (m ∷ ms) = ap (λ (l : List Docs). empty ∷ l) (no_modules ms)

    no_sources : (cs : List Source) → map emptied_source (map emptied_source cs) ≡ map emptied_source cs
    no_sources [] = refl
    no_sources (c ∷ cs) = ap (λ (l : List Source). emptied_source c ∷ l) (no_sources cs)

pub reached_rebuilt : ReachedStatesAreRebuilt
reached_rebuilt s es checked =
    let t = reached (emptied s) es in
    let there = reached_kept (emptied s) es (start_sound s) checked in
    let same : emptied t ≡ emptied s = there.1 ∙ emptied_twice s in
    ap (λ (u : State). stepped u (rebuilding t)) (sym same) ∙ states_rebuilt t there.0
