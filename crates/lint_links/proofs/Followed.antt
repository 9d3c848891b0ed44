-- How many documents may be followed.
use Rattle.std.proofs.Common.{◌≡◌, ◌∙◌, ◌+◌, ℕ, zero, suc, List, [], ◌∷◌, Some, ap, sym, refl, arith, add-one, get_or, map}
use Rattle.std.specs.Prelude.{min}
use Rattle.std.specs.FinMap.{entries}
use Rattle.std.specs.List.{sum_by}
use Rattle.std.proofs.lemmas.List.Sums.{sum_by-cons}
use Rattle.ent_policy.specs.declared.document.Tree.{Tree}
use Rattle.ent_policy.specs.declared.key.DocKey.{DocKey}
use Rattle.ent_finder.specs.Slots.{Docs}
use Rattle.lint_links.proofs.Flags.{seen_alike}
use Rattle.lint_links.proofs.Settled.{map_twice}
use Rattle.lint_links.specs.Root.{followed}
use Rattle.lint_links.specs.Together.{leads_to}
use Rattle.lint_links.specs.proofs_only.Rows.{counted_row, counts_after, leads, numbered, rows_lead}

-- the count of a document that is there
count_there : (most : ℕ) (f : Tree → ℕ) (es : List (DocKey × Tree)) (number : ℕ) (d : Tree) → numbered es number ≡ Some d → get_or (map (λ e. min (f e.1) most) es) number 0 ≡ min (f d) most
count_there most f [] zero d is = absurd cc
count_there most f [] (suc number) d is = absurd cc
count_there most f (e ∷ es) zero d is = let same : e.1 ≡ d = cc in ap (λ t. min (f t) most) same
count_there most f (e ∷ es) (suc number) d is = count_there most f es number d is

sums : (most a b s t : ℕ) → a ≡ min b most → min s most ≡ min t most → min (suc a + s) most ≡ min (suc b + t) most
sums most a b s t one rest = omega (arith, one, rest)

-- those of the documents of these numbers
pub row_counted : (most : ℕ) (f : Tree → ℕ) (es : List (DocKey × Tree)) (row : List ℕ) (documents : List Tree) → map (numbered es) row ≡ map Some documents
    → counted_row most (map (λ e. min (f e.1) most) es) row ≡ min (sum_by (λ d. suc (f d)) documents) most
row_counted most f es [] [] is = refl
row_counted most f es [] (d ∷ documents) is = absurd cc
row_counted most f es (number ∷ row) [] is = absurd cc
row_counted most f es (number ∷ row) (d ∷ documents) is =
    let head : numbered es number ≡ Some d = cc in
    let tail : map (numbered es) row ≡ map Some documents = cc in
    let counts : List ℕ = map (λ e. min (f e.1) most) es in
    ap (λ n. min n most) (sum_by-cons (λ n. suc (get_or counts n 0)) number row)
    ∙ sums most (get_or counts number 0) (f d) (sum_by (λ n. suc (get_or counts n 0)) row) (sum_by (λ d. suc (f d)) documents) (count_there most f es number d head) (row_counted most f es row documents tail)
    ∙ ap (λ n. min n most) (sym (sum_by-cons (λ d. suc (f d)) d documents))

none_least : (most : ℕ) → 0 ≡ min 0 most
none_least most = omega arith

-- the counts say how many may be followed
pub counts_are : (most : ℕ) (docs : Docs) (rows : List (List ℕ)) (hops : ℕ) → rows_lead docs rows ≡ leads docs → counts_after most rows hops ≡ map (λ e. min (followed docs hops e.1) most) (entries docs)
counts_are most docs rows zero is =
    seen_alike (map (numbered (entries docs))) (λ e. map Some (leads_to docs e.1)) (λ _. 0) (λ _. min 0 most) (λ a b e. none_least most) rows (entries docs) is
counts_are most docs rows (suc hops) is =
    ap (λ counts. map (counted_row most counts) rows) (counts_are most docs rows hops is)
    ∙ seen_alike (map (numbered (entries docs))) (λ e. map Some (leads_to docs e.1)) (counted_row most (map (λ e. min (followed docs hops e.1) most) (entries docs))) (λ e. min (followed docs (suc hops) e.1) most)
    (λ row e. row_counted most (followed docs hops) (entries docs) row (leads_to docs e.1)) rows (entries docs) is

-- before the first reference none is
pub at_none : {A : Type 0} (most : ℕ) (f : A → List ℕ) (rows : List A) (counts : List ℕ) → counts ≡ map (λ _. 0) rows → counts ≡ counts_after most (map f rows) 0
at_none most f rows counts is = is ∙ sym (map_twice f (λ _. 0) rows)

-- one reference more
pub one_further : {A : Type 0} (most : ℕ) (f : A → List ℕ) (rows : List A) (counts next : List ℕ) (hops : ℕ) → counts ≡ counts_after most (map f rows) hops
    → next ≡ map (λ row. counted_row most counts (f row)) rows → next ≡ counts_after most (map f rows) (hops + 1)
one_further most f rows counts next hops before is =
    is ∙ sym (map_twice f (counted_row most counts) rows) ∙ ap (λ ns. map (counted_row most ns) (map f rows)) before ∙ ap (counts_after most (map f rows)) (sym (add-one hops))

-- one number more
pub counted_more : (most old s here new : ℕ) → old ≡ min s most → new ≡ min (old + (1 + here)) most → new ≡ min (s + suc here) most
counted_more most old s here new before is = omega (arith, before, is)
