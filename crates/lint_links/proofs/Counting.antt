-- How many lines are told of documents together.
use Rattle.std.proofs.Common.{◌≡◌, ◌∙◌, ◌+◌, ◌<◌, ◌≤◌, ℕ, List, Bool, false, ap, sym, refl, arith, get_or, length, map, take}
use Rattle.std.specs.FinMap.{entries}
use Rattle.std.specs.List.{sum_by}
use Rattle.std.proofs.lemmas.List.{get_or-map, take_all}
use Rattle.std.proofs.lemmas.List.Sums.{sum_by_more}
use Rattle.ent_policy.specs.declared.document.Tree.{Tree}
use Rattle.ent_policy.specs.declared.key.DocKey.{DocKey}
use Rattle.ent_finder.specs.Slots.{Docs}
use Rattle.lint_links.proofs.Numbers.{entries_past, entry_there}
use Rattle.lint_links.specs.Together.{far, faults_of, faults_together, has_chain, is_endless, is_long, unfound}
use Rattle.lint_links.specs.declared.held.Held.{Held}
use Rattle.lint_links.specs.proofs_only.Rows.{entry_of}

sums : (before between after so_far next here near far : ℕ) → before ≡ so_far → between ≡ before + near → after ≡ between + far → next ≡ so_far + here → here ≡ near + far → after ≡ next
sums before between after so_far next here near far a b c d e = omega (arith, a, b, c, d, e)

-- the flag of a document
flag_is : (test : Tree → Bool) (es : List (DocKey × Tree)) (flags : List Bool) (i : ℕ) (e : DocKey × Tree) → flags ≡ map (λ e. test e.1) es → i < length es → e ≡ get_or es i e
    → get_or flags i false ≡ test e.1
flag_is test es flags i e is within here =
    ap (λ fs. get_or fs i false) is ∙ get_or-map (λ e. test e.1) es i e false within ∙ ap (λ x. test x.1) (sym here)

module _ (docs : Docs) (all : List Held) (i : ℕ) (listed : map entry_of all ≡ entries docs) where
  -- the lines of one document more
  pub told_more : (x : Held) (endless long : List Bool) (before between after : ℕ) → i < length all → x ≡ get_or all i x
      → endless ≡ map (λ e. is_endless docs e.1) (entries docs) → long ≡ map (λ e. has_chain docs 7 e.1) (entries docs)
      → before ≡ sum_by (λ e. faults_of docs e.1) (take i (entries docs)) → between ≡ before + length (unfound docs x.document.now)
      → after ≡ between + far (get_or endless i false) (get_or long i false) → after ≡ sum_by (λ e. faults_of docs e.1) (take (i + 1) (entries docs))
  told_more x endless long before between after within is ends lasts so_far near lines =
      let there = entry_there all (entries docs) i x listed within is in
      let ending = flag_is (is_endless docs) (entries docs) endless i (entry_of x) ends there.0 there.1 in
      let lasting = flag_is (has_chain docs 7) (entries docs) long i (entry_of x) lasts there.0 there.1 in
      let far_is : far (get_or endless i false) (get_or long i false) ≡ far (is_endless docs x.document.now) (is_long docs x.document.now) =
      (λ t. far (ending t) (lasting t)) in
      sums before between after (sum_by (λ e. faults_of docs e.1) (take i (entries docs))) (sum_by (λ e. faults_of docs e.1) (take (i + 1) (entries docs))) (faults_of docs x.document.now)
      (length (unfound docs x.document.now)) (far (is_endless docs x.document.now) (is_long docs x.document.now)) so_far near (lines ∙ ap (λ n. between + n) far_is)
      (sum_by_more (λ e. faults_of docs e.1) (entries docs) i (entry_of x) there.0 ∙ ap (λ e. sum_by (λ e. faults_of docs e.1) (take i (entries docs)) + faults_of docs e.1) (sym there.1)) refl

  -- those of all documents
  pub told_all : (lines : ℕ) → length all ≤ i → lines ≡ sum_by (λ e. faults_of docs e.1) (take i (entries docs)) → lines ≡ faults_together docs
  told_all lines past is = is ∙ ap (sum_by (λ e. faults_of docs e.1)) (take_all i (entries docs) (entries_past all (entries docs) i listed past))
