-- Old answers that are put back, one list after another, and which of them undo a change of a table.
use Rattle.std.proofs.Common.{◌≡◌, ℕ, ◌≤◌, List, [], ◌∷◌, ◌++◌, Bool, true, false, cond, ◌||◌, Option, Some, None, unwrap_or}
use Rattle.std.proofs.Common.{refl, ◌∙◌, ap}
use Rattle.std.proofs.lemmas.List.{map-append}
use Rattle.std.proofs.lemmas.List.Elements.{All-head, All-tail}
use Rattle.std.specs.Cmp.{Equal-is}
use Rattle.std.specs.List.{All, list_any}
use Rattle.std.specs.Ordering.{is_eq}
use Rattle.std.specs.declared.cmp.Ordering.{Ordering}
use Rattle.ent_log.specs.Difference.{Respects}
use Rattle.ent_log.specs.Entries.{answers_of, entries_since, first_answer_or, table_before}
use Rattle.ent_log.specs.Tables.{Undoes, table_at}
use Rattle.ent_log.specs.declared.entry.Logged.{Logged}
use Rattle.ent_log.specs.declared.entry.OldAnswer.{OldAnswer}
use Rattle.ent_log.specs.declared.log.Log.{Log}
use Rattle.ent_log.proofs.Serials.{entries_since-push}

-- ---- one list after another

-- the first of two lists, one after the other
pub first_answer_or-append : {K A : Type 0} (cmp : K → K → Ordering) (os ps : List (OldAnswer K A)) (k : K) (d : Option (Option A))
    → first_answer_or cmp (os ++ ps) k d ≡ first_answer_or cmp os k (first_answer_or cmp ps k d)
first_answer_or-append cmp [] ps k d = refl
first_answer_or-append cmp (o ∷ os) ps k d = ap (cond (is_eq (cmp o.key k)) (Some o.answer)) (first_answer_or-append cmp os ps k d)

-- the default is put in behind the last
pub unwrap_or-first_answer_or : {K A : Type 0} (cmp : K → K → Ordering) (os : List (OldAnswer K A)) (k : K) (d : Option (Option A)) (x : Option A)
    → unwrap_or (first_answer_or cmp os k d) x ≡ unwrap_or (first_answer_or cmp os k None) (unwrap_or d x)
unwrap_or-first_answer_or cmp [] k d x = refl
unwrap_or-first_answer_or {K} {A} cmp (o ∷ os) k d x =
    elim (is_eq (cmp o.key k)) as (λ b.
    unwrap_or (cond b (Some o.answer) (first_answer_or cmp os k d)) x
    ≡ unwrap_or (cond b (Some o.answer) (first_answer_or cmp os k None)) (unwrap_or d x)) [
      | true ↦ refl
      | false ↦ unwrap_or-first_answer_or cmp os k d x
    ]

-- the later list is put back first
pub table_before-append : {K A : Type 0} (cmp : K → K → Ordering) (os ps : List (OldAnswer K A)) (table : K → Option A) (k : K)
    → table_before cmp (os ++ ps) table k ≡ table_before cmp os (table_before cmp ps table) k
table_before-append cmp os ps table k =
    ap (λ o. unwrap_or o (table k)) (first_answer_or-append cmp os ps k None)
    ∙ unwrap_or-first_answer_or cmp os k (first_answer_or cmp ps k None) (table k)

-- an entry put last, over the table that its change made, gives the tables that were given before over the table before
pub table_before-push : {K A : Type 0} (cmp : K → K → Ordering) (n : ℕ) (es : List (Logged K A)) (e : Logged K A) (before after : K → Option A)
    → Undoes cmp (e.old ∷ []) before after → n ≤ e.serial → (k : K)
    → table_before cmp (answers_of (entries_since n (es ++ e ∷ []))) after k ≡ table_before cmp (answers_of (entries_since n es)) before k
table_before-push cmp n es e before after undoes le k =
    let last : answers_of (entries_since n (es ++ e ∷ [])) ≡ answers_of (entries_since n es) ++ e.old ∷ [] =
    ap answers_of (entries_since-push n es e le) ∙ map-append (λ (x : Logged _ _). x.old) (entries_since n es) (e ∷ []) in
    ap (λ os. table_before cmp os after k) last
    ∙ table_before-append cmp (answers_of (entries_since n es)) (e.old ∷ []) after k
    ∙ ap (unwrap_or (first_answer_or cmp (answers_of (entries_since n es)) k None)) (undoes k)

-- ---- which old answers undo a change of a table

-- the right old answers of some keys, where every other key kept its answer
pub undoes-listed : {K A : Type 0} (cmp : K → K → Ordering) (os : List (OldAnswer K A)) (before after : K → Option A) → Respects cmp before
    → All (λ o. o.answer ≡ before o.key) os → ((k : K) → list_any (λ o. is_eq (cmp o.key k)) os ≡ false → after k ≡ before k)
    → Undoes cmp os before after
undoes-listed {K} {A} cmp os before after respects right rest = λ k. go os right k (rest k)
  where
    one : (o : OldAnswer K A) (os : List (OldAnswer K A)) (k : K) → o.answer ≡ before o.key → (b : Bool) → is_eq (cmp o.key k) ≡ b
        → (((b || list_any (λ p. is_eq (cmp p.key k)) os) ≡ false) → after k ≡ before k)
        → ((list_any (λ p. is_eq (cmp p.key k)) os ≡ false → after k ≡ before k) → table_before cmp os after k ≡ before k)
        → unwrap_or (cond b (Some o.answer) (first_answer_or cmp os k None)) (after k) ≡ before k
    one o os k is true same kept later = is ∙ respects o.key k ((Equal-is (cmp o.key k)).0 same)
    one o os k is false same kept later = later kept

    go : (os : List (OldAnswer K A)) → All (λ o. o.answer ≡ before o.key) os → (k : K)
        → (list_any (λ o. is_eq (cmp o.key k)) os ≡ false → after k ≡ before k) → table_before cmp os after k ≡ before k
    go [] right k kept = kept refl
    go (o ∷ os) right k kept =
        one o os k (All-head (λ p. p.answer ≡ before p.key) o os right) (is_eq (cmp o.key k)) refl kept
        (go os (All-tail (λ p. p.answer ≡ before p.key) o os right) k)

-- the right old answer of one key, where every other key kept its answer
pub undoes-one : {K A : Type 0} (cmp : K → K → Ordering) (o : OldAnswer K A) (before after : K → Option A) → Respects cmp before
    → o.answer ≡ before o.key → ((k : K) → is_eq (cmp o.key k) ≡ false → after k ≡ before k) → Undoes cmp (o ∷ []) before after
undoes-one {K} {A} cmp o before after respects is rest = λ k. by k (is_eq (cmp o.key k)) refl
  where
    by : (k : K) (b : Bool) → is_eq (cmp o.key k) ≡ b → unwrap_or (cond b (Some o.answer) None) (after k) ≡ before k
    by k true same = is ∙ respects o.key k ((Equal-is (cmp o.key k)).0 same)
    by k false other = rest k other

-- ---- tables go by what they answer alone

-- logs with the same entries, over tables with the same answers, give tables with the same answers
pub table_at-same : {K A : Type 0} (cmp : K → K → Ordering) (old new : Log K A) → new.entries.items ≡ old.entries.items
    → (before after : K → Option A) → ((k : K) → after k ≡ before k)
    → (n : ℕ) (k : K) → table_at cmp new after n k ≡ table_at cmp old before n k
table_at-same cmp old new entries before after same n k =
    ap (λ es. table_before cmp (answers_of (entries_since n es)) after k) entries
    ∙ ap (unwrap_or (first_answer_or cmp (answers_of (entries_since n old.entries.items)) k None)) (same k)
