-- The rows of modules, put into them one after the other.
use Rattle.std.proofs.Common.{◌≡◌, ℕ, ◌+◌, ◌<◌, ◌≤◌, ◌^◌, true, false, List, [], ◌∷◌, ◌++◌, length, Ok, refl, sym, ap, ◌∙◌, arith}
use Rattle.std.specs.Prelude.{map, nat_lt, slice_index_or}
use Rattle.std.specs.FinMap.{empty, entries, insert}
use Rattle.std.specs.List.{AllByRecursion, enumerate_from, flat_map}
use Rattle.std.proofs.lemmas.Bool.{le-ltb, lt-leb}
use Rattle.std.proofs.lemmas.List.{get_or_at, length-append, length-map, set_at}
use Rattle.ent_values.specs.declared.value.Value.{Value}
use Rattle.ent_finder.proofs.Totals.{row_cmp_total}
use Rattle.ent_finder.proofs.RowKeys.{row_cmp_antisymmetric}
use Rattle.ent_finder.specs.Rows.{Rows, Source, is_filled, with_row}
use Rattle.ent_finder.specs.declared.row.RowKey.{RowKey}
use Rattle.ent_table.specs.State.{State}
use Rattle.ent_table.specs.Step.{step}
use Rattle.law_rebuild.specs.Rebuilding.{emptied_source, row_edit, source_edits, stepped}
use Rattle.law_rebuild.specs.Sound.{IsSoundRow}
use Rattle.law_rebuild.proofs.Chains.{stepped_all, stepped_one}
use Rattle.law_rebuild.proofs.Maps.{put_all, put_all-entries}
use Rattle.law_rebuild.proofs.Placed.{is_there, next_place, passed}

-- a state with these modules of attributes, at that serial
abbrev pub sourcing : State → List Source → ℕ → State
sourcing s sources n = record s { held = record s.held { sources = sources }; serial = n }

-- a module with these rows
abbrev pub with_rows : Source → Rows → Source
with_rows c rows = record c { rows = rows }

-- ---- one row

with_row-filled : (rows : Rows) (key : RowKey) (values : List Value) → is_filled values ≡ true → with_row rows key values ≡ insert rows key values
with_row-filled rows key [] h = cc
with_row-filled rows key (v ∷ vs) h = refl

row_step : (s : State) (front : List Source) (c : Source) (rows : Rows) (back : List Source) (i n : ℕ) (e : RowKey × List Value) → length front ≡ i
    → IsSoundRow c e.0 e.1 → n < 2 ^ 63
    → step (sourcing s (front ++ with_rows c rows ∷ back) n) (row_edit i e) ≡ Ok (sourcing s (front ++ with_rows c (insert rows e.0 e.1) ∷ back) (n + 1))
row_step s front c rows back i n e at sound below =
    let there = is_there front (with_rows c rows) back i at in
    let here : slice_index_or (front ++ with_rows c rows ∷ back) i (record { categories = []; rows = empty }) ≡ with_rows c rows = get_or_at front
    (with_rows c rows) back (record { categories = []; rows = empty }) i at in
    let few : nat_lt 256 (length e.1) ≡ false = le-ltb 256 (length e.1) sound.most in
    let put = with_row-filled rows e.0 e.1 sound.filled in
    rw (
      lt-leb (2 ^ 63) n below,
      few,
      sound.free,
      sound.good,
      there,
      here,
      sound.supported,
      put,
      set_at front (with_rows c rows) back
          (with_rows c (insert rows e.0 e.1)) i at,
    ) refl

-- ---- the rows of one module

-- each could be set
abbrev pub AreSoundRows : Source → List (RowKey × List Value) → Type 0
AreSoundRows c es = AllByRecursion (λ e. IsSoundRow c e.0 e.1) es

rows_added : (s : State) (front back : List Source) (i : ℕ) → length front ≡ i → (c : Source) (es : List (RowKey × List Value)) (rows : Rows) (n k : ℕ)
    → n + length es ≡ k → AreSoundRows c es → k ≤ 2 ^ 63
    → stepped (sourcing s (front ++ with_rows c rows ∷ back) n) (map (row_edit i) es) ≡ Ok (sourcing s (front ++ with_rows c (put_all rows es) ∷ back) k)
rows_added s front back i at c [] rows n k count sound below =
    let same : n ≡ k = omega arith in
    ap (λ j. Ok (sourcing s (front ++ with_rows c rows ∷ back) j)) same
rows_added s front back i at c (e ∷ es) rows n k count sound below =
    stepped_one (sourcing s (front ++ with_rows c rows ∷ back) n) (sourcing s (front ++ with_rows c (insert rows e.0 e.1) ∷ back) (n + 1)) (row_edit i e)
    (map (row_edit i) es) _
    (row_step s front c rows back i n e at sound.0 (omega arith))
    (rows_added s front back i at c es (insert rows e.0 e.1) (n + 1) k (omega arith) sound.1 below)

source_added : (s : State) (front back : List Source) (i : ℕ) → length front ≡ i → (c : Source) (n k : ℕ) → n + length (entries c.rows) ≡ k
    → AreSoundRows c (entries c.rows) → k ≤ 2 ^ 63
    → stepped (sourcing s (front ++ emptied_source c ∷ back) n) (source_edits (i, c)) ≡ Ok (sourcing s (front ++ c ∷ back) k)
source_added s front back i at c n k count sound below =
    rows_added s front back i at c (entries c.rows) empty n k count sound below
    ∙ ap (λ (rows : Rows). Ok (sourcing s (front ++ with_rows c rows ∷ back) k)) (put_all-entries row_cmp_total row_cmp_antisymmetric c.rows)

-- ---- the rows of all modules

pub sources_added : (s : State) (all cs front : List Source) (i n k : ℕ) → length front ≡ i → front ++ cs ≡ all
    → n + length (flat_map source_edits (enumerate_from i cs)) ≡ k
    → AllByRecursion (λ c. AreSoundRows c (entries c.rows)) cs → k ≤ 2 ^ 63
    → stepped (sourcing s (front ++ map emptied_source cs) n) (flat_map source_edits (enumerate_from i cs)) ≡ Ok (sourcing s all k)
sources_added s all [] front i n k at whole count sound below =
    let sources : front ++ [] ≡ all = whole in
    let same : n ≡ k = omega arith in
    λ t. Ok (sourcing s (sources t) (same t))
sources_added s all (c ∷ cs) front i n k at whole count sound below =
    let rest : List _ = flat_map source_edits (enumerate_from (i + 1) cs) in
    let long : length (source_edits (i, c) ++ rest) ≡ length (entries c.rows) + length rest =
    length-append (source_edits (i, c)) rest ∙ ap (λ j. j + length rest) (length-map (entries c.rows) (row_edit i)) in
    stepped_all (sourcing s (front ++ emptied_source c ∷ map emptied_source cs) n)
    (sourcing s ((front ++ c ∷ []) ++ map emptied_source cs) (n + length (entries c.rows))) (source_edits (i, c)) rest _
    (source_added s front (map emptied_source cs) i at c n (n + length (entries c.rows)) refl sound.0 (omega arith)
    ∙ ap (λ (l : List Source). Ok (sourcing s l (n + length (entries c.rows)))) (passed front c (map emptied_source cs)))
    (sources_added s all cs (front ++ c ∷ []) (i + 1) (n + length (entries c.rows)) k (next_place front c i at) (sym (passed front c cs) ∙ whole)
    (omega arith) sound.1 below)
