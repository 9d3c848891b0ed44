-- Another document, or none, under a key of one module.
use Rattle.std.proofs.Common.{◌≡◌, ℕ, zero, suc, ◌+◌, ◌-◌, ◌<◌, ◌≤◌, Bool, true, false, cond, List, length, Option, Some, None, is_some, slice_set as set, refl, sym, ap, ◌∙◌, arith}
use Rattle.std.specs.FinMap.{empty, empty_of_len, get, get-empty, insert, len, len-insert, len-remove, same_map}
use Rattle.std.specs.Ordering.{eq_by_cmp}
use Rattle.std.proofs.lemmas.List.{get_or-set_same, set-get_or, set-set}
use Rattle.std.proofs.lemmas.List.Sums.{sum_by-set}
use Rattle.ent_policy.specs.declared.document.Tree.{Tree}
use Rattle.ent_policy.specs.declared.key.DocKey.{DocKey}
use Rattle.ent_finder.specs.Slots.{Docs, document_count, held, key_cmp, module_at, with_document}
use Rattle.ent_finder.proofs.Totals.{key_cmp_total}
use Rattle.ent_finder.proofs.Keys.{key_cmp_antisymmetric}
use Rattle.ent_finder.proofs.Sorted.{equal}
use Rattle.ent_table.proofs.Replaced.{get-with}
use Rattle.ent_table.specs.State.{State}
use Rattle.ent_eval.specs.Exchange.{document_held}
use Rattle.ent_table.specs.Step.{holds, with_policy}

-- an exchange and then another with what came out
docs-undone : (m : Docs) (k : DocKey) (o : Option Tree) → with_document (with_document m k o) k (get m k) ≡ m
docs-undone m k o = same_map key_cmp_total key_cmp_antisymmetric _ m
    (λ q. get-with (with_document m k o) k (get m k) q ∙ ap (cond (eq_by_cmp key_cmp q k) (get m k)) (get-with m k o q) ∙ by q (eq_by_cmp key_cmp q k) refl)
  where
    by : (q : DocKey) (b : Bool) → eq_by_cmp key_cmp q k ≡ b → cond b (get m k) (cond b o (get m q)) ≡ get m q
    by q true e = ap (get m) (sym (key_cmp_antisymmetric q k (equal _ e)))
    by q false e = refl

pub undone : (s : State) (n : ℕ) (k : DocKey) (o : Option Tree) → n < length s.held.modules → with_policy (with_policy s n k o) n k (document_held s.held n k) ≡ s
undone s n k o h =
    let ms = s.held.modules in
    let m = module_at ms n in
    let back : with_document (module_at (set ms n (with_document m k o)) n) k (get m k) ≡ m =
    ap (λ (d : Docs). with_document d k (get m k)) (get_or-set_same ms n (with_document m k o) empty h) ∙ docs-undone m k o in
    ap (λ (l : List Docs). record s { held = record s.held { modules = l } })
    (set-set ms n _ _ ∙ ap (set ms n) back ∙ set-get_or ms n empty)

-- ---- how many documents are held afterwards

counts : (s : State) (n : ℕ) (k : DocKey) (o : Option Tree) → n < length s.held.modules
    → document_count (with_policy s n k o).held.modules + len (module_at s.held.modules n) ≡ document_count s.held.modules + len (with_document (module_at s.held.modules n) k o)
counts s n k o h = sum_by-set len s.held.modules n (with_document (module_at s.held.modules n) k o) empty h

-- one more, where there was none under the key
pub count_added : (s : State) (n : ℕ) (k : DocKey) (d : Tree) → n < length s.held.modules → holds s n k ≡ false → document_count (with_policy s n k (Some d)).held.modules ≡ document_count s.held.modules + 1
count_added s n k d h free =
    let m = module_at s.held.modules n in
    let more : len (insert m k d) ≡ len m + 1 = len-insert key_cmp_total m k d ∙ ap (λ b. cond b (len m) (len m + 1)) free in
    omega (arith, counts s n k (Some d) h, more)

-- as many, where there was one
pub count_replaced : (s : State) (n : ℕ) (k : DocKey) (d : Tree) → n < length s.held.modules → holds s n k ≡ true → document_count (with_policy s n k (Some d)).held.modules ≡ document_count s.held.modules
count_replaced s n k d h is =
    let m = module_at s.held.modules n in
    let same : len (insert m k d) ≡ len m = len-insert key_cmp_total m k d ∙ ap (λ b. cond b (len m) (len m + 1)) is in
    omega (arith, counts s n k (Some d) h, same)

not_empty : (m : Docs) (k : DocKey) → is_some (get m k) ≡ true → 1 ≤ len m
not_empty m k is = by (len m) refl
  where
    by : (n : ℕ) → len m ≡ n → 1 ≤ n
    by zero e =
        let none : is_some (get m k) ≡ false = ap (λ (d : Docs). is_some (get d k)) (empty_of_len m e) ∙ ap is_some (get-empty key_cmp k) in
        cc
    by (suc n) e = omega arith

-- one less
pub count_withdrawn : (s : State) (n : ℕ) (k : DocKey) → n < length s.held.modules → holds s n k ≡ true → document_count s.held.modules ≡ document_count (with_policy s n k None).held.modules + 1
count_withdrawn s n k h is =
    let m = module_at s.held.modules n in
    let less : len (with_document m k None) ≡ len m - 1 = len-remove key_cmp_total m k ∙ ap (λ b. cond b (len m - 1) (len m)) is in
    omega (arith, counts s n k None h, less, not_empty m k is)
