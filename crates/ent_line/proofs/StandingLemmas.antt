-- How many rows there are, and which sessions have marks.
use Rattle.std.proofs.Common.{◌≡◌, ◌==◌, ◌∙◌, ◌++◌, ℕ, zero, suc, ◌+◌, ◌<◌, ◌≤◌, Bool, true, false, cond, List, [], ◌∷◌, Option, Some, None, ap, refl, subst, sym, arith, map, drop, drop-cons, get_or, length, codes, decimal, OnOk, Result}
use Rattle.std.specs.Prelude.{filter, filter_map, option_map, slice_get, slice_index_or}
use Rattle.std.proofs.lemmas.Bool.Decides.{Decides-eqb}
use Rattle.std.proofs.lemmas.List.Sums.{sum_by-cons}
use Rattle.std.specs.FinMap.{entries, len, len-entries}
use Rattle.std.specs.List.{enumerate_from}
use Rattle.json.specs.Token as token
use Rattle.json.specs.Token.{Token}
use Rattle.ent_values.specs.declared.value.Value.{Value}
use Rattle.ent_finder.proofs.Filled.{entries-filled}
use Rattle.ent_finder.specs.Rows.{Source, filled_source, is_filled}
use Rattle.ent_finder.specs.declared.row.RowKey.{RowKey}
use Rattle.ent_policy.specs.declared.key.Reference.{Reference}
use Rattle.ent_finder.specs.Slots.{document_count}
use Rattle.ent_request.specs.declared.environment.Environment.{Environment}
use Rattle.ent_json.specs.Text.{tokens_of}
use Rattle.ent_json.specs.proofs_only.Text.{items_tokens_of}
use Rattle.ent_table.specs.State.{table_of}
use Rattle.ent_dump.specs.Edits.{written_root}
use Rattle.ent_report.specs.World.{Mark, World}
use Rattle.ent_line.specs.Standing.{environment_data, mark_data, marked_sessions, state_data}
use Rattle.ent_line.specs.proofs_only.Standing.{marked_from, row_count}

-- ---- what is left of a list

at_place : {A : Type 0} (xs : List A) (i : ℕ) (x : A) → slice_get xs i ≡ Some x → drop i xs ≡ x ∷ drop (i + 1) xs
at_place [] i x h = cc
at_place (y ∷ xs) zero x h = let same : y ≡ x = cc in ap (λ z. z ∷ xs) same
at_place (y ∷ xs) (suc i) x h = let next : suc i + 1 ≡ suc (i + 1) = omega arith in at_place xs i x h ∙ ap (λ n. x ∷ drop n (y ∷ xs)) (sym next)

pub below : {A : Type 0} (xs : List A) (i : ℕ) (x : A) → slice_get xs i ≡ Some x → i < length xs
below [] i x h = cc
below (y ∷ xs) zero x h = omega arith
below (y ∷ xs) (suc i) x h = let rest = below xs i x h in omega (arith, rest)

past : {A : Type 0} (xs : List A) (i : ℕ) → slice_get xs i ≡ None → drop i xs ≡ []
past [] zero h = refl
past [] (suc i) h = refl
past (y ∷ xs) zero h = cc
past (y ∷ xs) (suc i) h = past xs i h

all_past : {A : Type 0} (xs : List A) (i : ℕ) → length xs ≤ i → drop i xs ≡ []
all_past [] zero h = refl
all_past [] (suc i) h = refl
all_past (y ∷ xs) zero h = absurd (omega (arith, h))
all_past (y ∷ xs) (suc i) h = all_past xs i (omega (arith, h))

next_module : {A : Type 0} (xs : List A) (i : ℕ) (d : A) → i < length xs → drop i xs ≡ slice_index_or xs i d ∷ drop (i + 1) xs
next_module [] i d h = absurd (omega (arith, h))
next_module (y ∷ xs) zero d h = refl
next_module (y ∷ xs) (suc i) d h =
    let next : suc i + 1 ≡ suc (i + 1) = omega arith in next_module xs i d (omega (arith, h)) ∙ ap (λ n. slice_index_or xs i d ∷ drop n (y ∷ xs)) (sym next)

-- ---- rows

-- a row counts as one where it has a value
pub none_filled : (key : RowKey) (values shown : List Value) → shown ≡ values → (length shown == 0) ≡ true → 0 ≡ length (filter (λ (e : RowKey × List Value). is_filled e.1) ((key, values) ∷ []))
none_filled key [] shown same h = refl
none_filled key (v ∷ vs) shown same h = absurd (by same h)
  where
    by : shown ≡ v ∷ vs → (length shown == 0) ≡ true → ⊥
    by same h =
        let bad : (length (v ∷ vs) == 0) ≡ true = ap (λ xs. length xs == 0) (sym same) ∙ h in
        let none : length (v ∷ vs) ≡ 0 = (Decides-eqb (length (v ∷ vs)) 0).0 bad in
        omega (arith, none)

pub one_filled : (key : RowKey) (values shown : List Value) → shown ≡ values → (length shown == 0) ≡ false → 1 ≡ length (filter (λ (e : RowKey × List Value). is_filled e.1) ((key, values) ∷ []))
one_filled key [] shown same h = absurd (by same h)
  where
    by : shown ≡ [] → (length shown == 0) ≡ false → ⊥
    by same h = let bad : (length {A = Value} [] == 0) ≡ false = ap (λ xs. length xs == 0) (sym same) ∙ h in cc
one_filled key (v ∷ vs) shown same h = refl

module _ {A : Type 0} (p : A → Bool) where
  filter_one : (x : A) (xs : List A) → length (filter p (x ∷ xs)) ≡ length (filter p (x ∷ [])) + length (filter p xs)
  filter_one x xs = by (p x)
    where
      by : (b : Bool) → length (cond b (x ∷ filter p xs) (filter p xs)) ≡ length (cond b (x ∷ []) []) + length (filter p xs)
      by true = omega arith
      by false = omega arith

  at_most_one : (x : A) → length (filter p (x ∷ [])) ≤ 1
  at_most_one x = by (p x)
    where
      by : (b : Bool) → length (cond b (x ∷ []) []) ≤ 1
      by true = omega arith
      by false = omega arith

  -- one more row is counted
  pub count_on : (xs : List A) (i : ℕ) (x : A) (c n total : ℕ) → slice_get xs i ≡ Some x → n ≡ length (filter p (x ∷ []))
      → c + length (filter p (drop i xs)) ≡ total → (c + n) + length (filter p (drop (i + 1) xs)) ≡ total
  count_on xs i x c n total here is so_far =
      let left : length (filter p (drop i xs)) ≡ length (filter p (x ∷ [])) + length (filter p (drop (i + 1) xs)) =
      ap (λ ys. length (filter p ys)) (at_place xs i x here) ∙ filter_one x (drop (i + 1) xs) in
      omega (arith, left, is, so_far)

  pub one_at_most : (x : A) (n : ℕ) → n ≡ length (filter p (x ∷ [])) → n ≤ 1
  one_at_most x n is = let most = at_most_one x in omega (arith, most, is)

  -- all are
  pub count_none : (xs : List A) (i c total : ℕ) → slice_get xs i ≡ None → c + length (filter p (drop i xs)) ≡ total → c ≡ total
  count_none xs i c total none so_far =
      let left : length (filter p (drop i xs)) ≡ 0 = ap (λ ys. length (filter p ys)) (past xs i none) in omega (arith, left, so_far)

-- the rows of a module that have values
pub filled_len : (source : Source) → length (filter (λ e. is_filled e.1) (entries source.rows)) ≡ len (filled_source source).rows
filled_len source = ap length (sym (entries-filled source.rows)) ∙ sym (len-entries (filled_source source).rows)

-- one module more
pub module_counted : (sources : List Source) (i : ℕ) (d : Source) (c n total : ℕ) → i < length sources → n ≡ len (filled_source (slice_index_or sources i d)).rows
    → c + row_count (map filled_source (drop i sources)) ≡ total → (c + n) + row_count (map filled_source (drop (i + 1) sources)) ≡ total
module_counted sources i d c n total lt is so_far =
    let left : row_count (map filled_source (drop i sources))
    ≡ len (filled_source (slice_index_or sources i d)).rows + row_count (map filled_source (drop (i + 1) sources)) =
    ap (λ ys. row_count (map filled_source ys)) (next_module sources i d lt)
    ∙ sum_by-cons (λ (source : Source). len source.rows) (filled_source (slice_index_or sources i d)) (map filled_source (drop (i + 1) sources)) in
    omega (arith, left, is, so_far)

pub modules_counted : (sources : List Source) (i c total : ℕ) → length sources ≤ i → c + row_count (map filled_source (drop i sources)) ≡ total → c ≡ total
modules_counted sources i c total most so_far =
    let left : row_count (map filled_source (drop i sources)) ≡ 0 = ap (λ ys. row_count (map filled_source ys)) (all_past sources i most) in
    omega (arith, left, so_far)

-- ---- marks

left_marks : (serials : List (Option ℕ)) (i : ℕ) (mark : Option ℕ) → i < length serials → mark ≡ get_or serials i mark → drop i serials ≡ mark ∷ drop (i + 1) serials
left_marks serials i mark lt here =
    let next : suc i ≡ i + 1 = omega arith in
    drop-cons serials i mark lt ∙ ap (λ y. y ∷ drop (suc i) serials) (sym here) ∙ ap (λ n. mark ∷ drop n serials) next

-- a session without a mark
pub no_mark_on : (serials : List (Option ℕ)) (i : ℕ) (mark : Option ℕ) → i < length serials → mark ≡ get_or serials i mark → mark ≡ None
    → marked_from i (drop i serials) ≡ marked_from (i + 1) (drop (i + 1) serials)
no_mark_on serials i mark lt here none =
    ap (marked_from i) (left_marks serials i mark lt here) ∙ ap (λ m. marked_from i (m ∷ drop (i + 1) serials)) none

-- a session with one
pub mark_on : (serials : List (Option ℕ)) (i : ℕ) (mark : Option ℕ) (serial : ℕ) → i < length serials → mark ≡ get_or serials i mark → mark ≡ Some serial
    → marked_from i (drop i serials) ≡ (i, serial) ∷ marked_from (i + 1) (drop (i + 1) serials)
mark_on serials i mark serial lt here some =
    ap (marked_from i) (left_marks serials i mark lt here) ∙ ap (λ m. marked_from i (m ∷ drop (i + 1) serials)) some

-- sessions are marked at the serials of their marks
pub same_sessions : (marks : List (Option Mark)) → marked_from 0 (map (option_map (λ (m : Mark). m.serial)) marks) ≡ marked_sessions marks
same_sessions = from 0
  where
    from : (i : ℕ) (marks : List (Option Mark)) → marked_from i (map (option_map (λ (m : Mark). m.serial)) marks)
        ≡ filter_map (λ x. option_map (λ (m : Mark). (x.0, m.serial)) x.1) (enumerate_from i marks)
    from i [] = refl
    from i (None ∷ marks) = from (i + 1) marks
    from i (Some m ∷ marks) = ap (λ ss. (i, m.serial) ∷ ss) (from (i + 1) marks)

-- ---- the whole

-- what is written of it, part by part
abbrev pub state_tokens : (actions cells documents : ℕ) → Environment → List (ℕ × ℕ) → (people resources : ℕ) → Option Reference → (rows serial : ℕ) → List Token
state_tokens actions cells documents environment sessions people resources root rows serial =
    (token.begin_object ∷ token.key (codes "actions") ∷ token.number (decimal actions) ∷ token.key (codes "cells") ∷ token.number (decimal cells)
    ∷ token.key (codes "documents") ∷ token.number (decimal documents) ∷ [])
    ++ ((token.key (codes "environment") ∷ []) ++ (tokens_of (environment_data environment)
    ++ ((token.key (codes "marks") ∷ []) ++ ((token.begin_array ∷ []) ++ (items_tokens_of (map mark_data sessions)
    ++ ((token.key (codes "people") ∷ token.number (decimal people) ∷ token.key (codes "resources") ∷ token.number (decimal resources)
    ∷ token.key (codes "root") ∷ tokens_of (written_root root))
    ++ (token.key (codes "rows") ∷ token.number (decimal rows) ∷ token.key (codes "serial") ∷ token.number (decimal serial) ∷ token.end_object ∷ [])))))))

-- that is the JSON of what stands
pub state_written : (w : World) → state_tokens (length w.state.names.actions) (length (table_of w.state)) (document_count w.state.held.modules) w.state.held.environment
    (marked_sessions w.marks) (length w.state.names.people) (length w.state.names.resources) w.state.held.root (row_count w.state.held.sources) w.state.serial
    ≡ tokens_of (state_data w)
state_written w = refl

-- what was written is also said otherwise
pub said : {E : Type 0} (r : Result (Unit {0}) E) (old y a b : List Token) → a ≡ b → OnOk r (y ≡ old ++ a) → OnOk r (y ≡ old ++ b)
said r old y a b is h = subst (λ t. OnOk r (y ≡ old ++ t)) is h
