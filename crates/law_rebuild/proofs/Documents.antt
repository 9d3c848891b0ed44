-- The documents of modules, put into them one after the other.
use Rattle.std.proofs.Common.{◌≡◌, ℕ, ◌+◌, ◌<◌, ◌≤◌, ◌^◌, false, T, List, [], ◌∷◌, ◌++◌, length, None, is_some, Ok, refl, sym, ap, subst, ◌∙◌, arith}
use Rattle.std.specs.Prelude.{cond, map, nat_le, slice_index_or}
use Rattle.std.specs.FinMap.{empty, entries, entries_sorted, get, insert, is_sorted, len, len-empty, len-entries, len-insert}
use Rattle.std.specs.FinMap.Entries.{below_all}
use Rattle.std.specs.List.{AllByRecursion, enumerate_from, flat_map}
use Rattle.std.proofs.lemmas.Bool.{lt-leb}
use Rattle.std.proofs.lemmas.List.{get_or_at, length-append, length-map, set_at}
use Rattle.std.proofs.lemmas.List.Sums.{sum_by-append, sum_by-cons}
use Rattle.ent_policy.specs.Key.{key_of}
use Rattle.ent_policy.specs.declared.document.Tree.{Tree}
use Rattle.ent_policy.specs.declared.key.DocKey.{DocKey}
use Rattle.ent_finder.proofs.Totals.{key_cmp_total}
use Rattle.ent_finder.proofs.Keys.{key_cmp_antisymmetric}
use Rattle.ent_finder.proofs.Sorted.{first, second}
use Rattle.ent_finder.specs.Slots.{Docs, document_count, key_cmp}
use Rattle.ent_table.specs.State.{State}
use Rattle.ent_table.specs.Step.{step}
use Rattle.law_rebuild.specs.Rebuilding.{document_edit, emptied_modules, module_edits, stepped}
use Rattle.law_rebuild.proofs.Chains.{stepped_all, stepped_one}
use Rattle.law_rebuild.proofs.Maps.{AreNew, new_to_empty, put_all, put_all-entries, still_new}
use Rattle.law_rebuild.proofs.Placed.{is_there, next_place, passed}

-- a state with these modules, at that serial
abbrev pub holding : State → List Docs → ℕ → State
holding s modules n = record s { held = record s.held { modules = modules }; serial = n }

-- ---- how many there are

count_at : (front : List Docs) (m : Docs) (back : List Docs) → document_count (front ++ m ∷ back) ≡ document_count front + (len m + document_count back)
count_at front m back = sum_by-append len front (m ∷ back) ∙ ap (λ n. document_count front + n) (sum_by-cons len m back)

pub count_none : (modules : List Docs) → document_count (emptied_modules modules) ≡ 0
count_none [] = refl
count_none (m ∷ modules) = sum_by-cons len empty (emptied_modules modules) ∙ omega (arith, len-empty key_cmp Tree, count_none modules)

-- ---- one document

document_step : (s : State) (front : List Docs) (m : Docs) (back : List Docs) (i n : ℕ) (e : DocKey × Tree) → length front ≡ i → key_of e.1 ≡ e.0
    → get m e.0 ≡ None
    → document_count (front ++ m ∷ back) < s.limits.documents → n < 2 ^ 63
    → step (holding s (front ++ m ∷ back) n) (document_edit i e) ≡ Ok (holding s (front ++ insert m e.0 e.1 ∷ back) (n + 1))
document_step s front m back i n e at own new few below =
    let there = is_there front m back i at in
    let here : slice_index_or (front ++ m ∷ back) i empty ≡ m = get_or_at front m back empty i at in
    let free : is_some (get m e.0) ≡ false = ap is_some new in
    let room : nat_le s.limits.documents (document_count (front ++ m ∷ back)) ≡ false = lt-leb s.limits.documents (document_count (front ++ m ∷ back)) few in
    rw (there, own, here, free, lt-leb (2 ^ 63) n below, room, set_at front m back (insert m e.0 e.1) i at) refl

-- ---- the documents of one module

-- each is under its own key
abbrev pub AreOwn : List (DocKey × Tree) → Type 0
AreOwn es = AllByRecursion (λ e. key_of e.1 ≡ e.0) es

count_more : (front : List Docs) (m : Docs) (back : List Docs) (k : DocKey) (d : Tree) → get m k ≡ None
    → document_count (front ++ insert m k d ∷ back) ≡ document_count (front ++ m ∷ back) + 1
count_more front m back k d new =
    let longer : len (insert m k d) ≡ len m + 1 = len-insert key_cmp_total m k d ∙ ap (λ o. cond (is_some o) (len m) (len m + 1)) new in
    omega (arith, count_at front m back, count_at front (insert m k d) back)

documents_added : (s : State) (front back : List Docs) (i : ℕ) → length front ≡ i → (es : List (DocKey × Tree)) (m : Docs) (n k : ℕ) → n + length es ≡ k
    → T (is_sorted key_cmp es) → AreNew m es → AreOwn es
    → document_count (front ++ m ∷ back) + length es ≤ s.limits.documents → k ≤ 2 ^ 63
    → stepped (holding s (front ++ m ∷ back) n) (map (document_edit i) es) ≡ Ok (holding s (front ++ put_all m es ∷ back) k)
documents_added s front back i at [] m n k count sorted new own few below =
    let same : n ≡ k = omega arith in
    ap (λ j. Ok (holding s (front ++ m ∷ back) j)) same
documents_added s front back i at (e ∷ es) m n k count sorted new own few below =
    let more = count_more front m back e.0 e.1 new.0 in
    stepped_one (holding s (front ++ m ∷ back) n) (holding s (front ++ insert m e.0 e.1 ∷ back) (n + 1)) (document_edit i e) (map (document_edit i) es) _
    (document_step s front m back i n e at own.0 new.0 (omega arith) (omega arith))
    (documents_added s front back i at es (insert m e.0 e.1) (n + 1) k (omega arith) (second (below_all key_cmp e.0 es) (is_sorted key_cmp es) sorted)
    (still_new key_cmp_total m e.0 e.1 es (first (below_all key_cmp e.0 es) (is_sorted key_cmp es) sorted) new.1)
    own.1 (omega (arith, more)) below)

module_added : (s : State) (front back : List Docs) (i : ℕ) → length front ≡ i → (d : Docs) (n k : ℕ) → n + length (entries d) ≡ k → AreOwn (entries d)
    → document_count (front ++ empty ∷ back) + length (entries d) ≤ s.limits.documents → k ≤ 2 ^ 63
    → stepped (holding s (front ++ empty ∷ back) n) (module_edits (i, d)) ≡ Ok (holding s (front ++ d ∷ back) k)
module_added s front back i at d n k count own few below =
    documents_added s front back i at (entries d) empty n k count (entries_sorted d) (new_to_empty key_cmp (entries d)) own few below
    ∙ ap (λ (m : Docs). Ok (holding s (front ++ m ∷ back) k)) (put_all-entries key_cmp_total key_cmp_antisymmetric d)

-- ---- the documents of all modules

pub modules_added : (s : State) (all ms front : List Docs) (i n k : ℕ) → length front ≡ i → front ++ ms ≡ all
    → n + length (flat_map module_edits (enumerate_from i ms)) ≡ k
    → AllByRecursion (λ d. AreOwn (entries d)) ms → document_count all ≤ s.limits.documents → k ≤ 2 ^ 63
    → stepped (holding s (front ++ emptied_modules ms) n) (flat_map module_edits (enumerate_from i ms)) ≡ Ok (holding s all k)
modules_added s all [] front i n k at whole count own few below =
    let modules : front ++ [] ≡ all = whole in
    let same : n ≡ k = omega arith in
    λ t. Ok (holding s (modules t) (same t))
modules_added s all (d ∷ ms) front i n k at whole count own few below =
    let rest : List _ = flat_map module_edits (enumerate_from (i + 1) ms) in
    let long : length (module_edits (i, d) ++ rest) ≡ length (entries d) + length rest =
    length-append (module_edits (i, d)) rest ∙ ap (λ j. j + length rest) (length-map (entries d) (document_edit i)) in
    let counted : document_count (front ++ d ∷ ms) ≤ s.limits.documents = subst (λ (l : List Docs). document_count l ≤ s.limits.documents) (sym whole) few in
    let room : document_count (front ++ empty ∷ emptied_modules ms) + length (entries d) ≤ s.limits.documents =
    omega (arith, count_at front d ms, count_at front empty (emptied_modules ms), count_none ms, len-empty key_cmp Tree, len-entries d) in
    stepped_all (holding s (front ++ empty ∷ emptied_modules ms) n) (holding s ((front ++ d ∷ []) ++ emptied_modules ms) (n + length (entries d)))
    (module_edits (i, d)) rest _
    (module_added s front (emptied_modules ms) i at d n (n + length (entries d)) refl own.0 room (omega arith)
    ∙ ap (λ (l : List Docs). Ok (holding s l (n + length (entries d)))) (passed front d (emptied_modules ms)))
    (modules_added s all ms (front ++ d ∷ []) (i + 1) (n + length (entries d)) k (next_place front d i at) (sym (passed front d ms) ∙ whole)
    (omega arith) own.1 few below)
