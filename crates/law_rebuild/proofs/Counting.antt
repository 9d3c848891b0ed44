-- How many edits make a state anew.
use Rattle.std.proofs.Common.{◌≡◌, ℕ, ◌+◌, List, [], ◌∷◌, ◌++◌, length, refl, sym, ◌∙◌, arith}
use Rattle.std.specs.Prelude.{map}
use Rattle.std.specs.FinMap.{entries, len, len-empty, len-entries}
use Rattle.std.specs.List.{enumerate_from, flat_map, sum_by}
use Rattle.std.proofs.lemmas.List.{length-append, length-map}
use Rattle.std.proofs.lemmas.List.Sums.{sum_by-cons}
use Rattle.ent_values.specs.declared.value.Value.{Value}
use Rattle.ent_finder.specs.Rows.{Source, row_cmp}
use Rattle.ent_finder.specs.Slots.{Docs, document_count}
use Rattle.ent_table.specs.declared.edit.Edit.{Edit}
use Rattle.ent_table.specs.declared.edit.Edit.TheVariants.{AddName}
use Rattle.ent_table.specs.declared.edit.List.TheVariants as which
use Rattle.ent_table.specs.Names.{Names}
use Rattle.ent_table.specs.State.{State}
use Rattle.law_rebuild.specs.Rebuilding.{all_documents, all_names, all_rows, environment_edits, document_edit, emptied_source, module_edits, name_edits}
use Rattle.law_rebuild.specs.Rebuilding.{rebuilding, root_edits, row_edit, source_edits}

-- how many rows several modules have
abbrev pub row_count : List Source → ℕ
row_count = sum_by (λ c. len c.rows)

length-documents : (i : ℕ) (ms : List Docs) → length (flat_map module_edits (enumerate_from i ms)) ≡ document_count ms
length-documents i [] = refl
length-documents i (m ∷ ms) =
    let rest : List Edit = flat_map module_edits (enumerate_from (i + 1) ms) in
    length-append (module_edits (i, m)) rest
    ∙ omega (arith, length-map (entries m) (document_edit i), length-documents (i + 1) ms, len-entries m)
    ∙ sym (sum_by-cons len m ms)

length-row_edits : (i : ℕ) (cs : List Source) → length (flat_map source_edits (enumerate_from i cs)) ≡ row_count cs
length-row_edits i [] = refl
length-row_edits i (c ∷ cs) =
    let rest : List Edit = flat_map source_edits (enumerate_from (i + 1) cs) in
    length-append (source_edits (i, c)) rest
    ∙ omega (arith, length-map (entries c.rows) (row_edit i), length-row_edits (i + 1) cs, len-entries c.rows)
    ∙ sym (sum_by-cons (λ (c : Source). len c.rows) c cs)

length-names : (names : Names) → length (all_names names) ≡ length names.people + (length names.actions + length names.resources)
length-names names =
    let ds : List Edit = name_edits which.People names.people in
    let es : List Edit = name_edits which.Actions names.actions in
    let fs : List Edit = name_edits which.Resources names.resources in
    length-append ds (es ++ fs)
    ∙ omega (
      arith,
      length-append es fs,
      length-map names.people (AddName which.People),
      length-map names.actions
          (AddName which.Actions),
      length-map names.resources (AddName which.Resources),
    )

pub length-rebuilding : (s : State) → length (rebuilding s)
    ≡ document_count s.held.modules + (row_count s.held.sources + (length (environment_edits s.held.environment) +
    (length (root_edits s.held.root) + (length s.names.people + (length s.names.actions + length s.names.resources)))))
length-rebuilding s =
    let ds : List Edit = all_documents s.held.modules in
    let es : List Edit = all_rows s.held.sources in
    let fs : List Edit = environment_edits s.held.environment in
    let gs : List Edit = root_edits s.held.root in
    let hs : List Edit = all_names s.names in
    length-append ds (es ++ (fs ++ (gs ++ hs)))
    ∙ omega (
      arith,
      length-append es (fs ++ (gs ++ hs)),
      length-append fs
          (gs ++ hs),
      length-append gs hs,
      length-documents 0 s.held.modules,
      length-row_edits 0 s.held.sources,
      length-names s.names,
    )

pub rows_none : (cs : List Source) → row_count (map emptied_source cs) ≡ 0
rows_none [] = refl
rows_none (c ∷ cs) =
    sum_by-cons (λ (c : Source). len c.rows) (emptied_source c) (map emptied_source cs) ∙ omega (arith, len-empty row_cmp (List Value), rows_none cs)
