-- Tables before as finite maps.
use Rattle.std.proofs.Common.{◌≡◌, List, [], ◌∷◌, true, false, cond, Option, Some, None, unwrap_or, refl, sym, ◌∙◌, ap}
use Rattle.std.proofs.lemmas.Cmp.{eq_by_cmp_equiv}
use Rattle.std.specs.Cmp.{IsTotalOrder}
use Rattle.std.specs.FinMap.{FinMap, get, get-insert, get-remove, same_map}
use Rattle.std.specs.Ordering.{is_eq}
use Rattle.std.specs.declared.cmp.Ordering.{Ordering}
use Rattle.ent_log.specs.Entries.{answers_of, entries_since, first_answer_or, table_before}
use Rattle.ent_log.specs.Law.{MapsAreLeft, MapsStay}
use Rattle.ent_log.specs.Maps.{map_at, map_before, with_answer}
use Rattle.ent_log.specs.declared.entry.OldAnswer.{OldAnswer}

-- ---- what they have at a key

get-with_answer : {K A : Type 0} {cmp : K → K → Ordering} (total : IsTotalOrder cmp) (m : FinMap cmp A) (k : K) (a : Option A) (q : K)
    → get (with_answer m k a) q ≡ cond (is_eq (cmp k q)) a (get m q)
get-with_answer {cmp = cmp} total m k None q = get-remove total m k q ∙ ap (λ b. cond b None (get m q)) ((eq_by_cmp_equiv total).symm q k)
get-with_answer {cmp = cmp} total m k (Some a) q = get-insert total m k a q ∙ ap (λ b. cond b (Some a) (get m q)) ((eq_by_cmp_equiv total).symm q k)

pub get-map_before : {K A : Type 0} {cmp : K → K → Ordering} (total : IsTotalOrder cmp) (os : List (OldAnswer K A)) (m : FinMap cmp A) (q : K)
    → get (map_before cmp os m) q ≡ table_before cmp os (get m) q
get-map_before total [] m q = refl
get-map_before {cmp = cmp} total (o ∷ os) m q =
    get-with_answer total (map_before cmp os m) o.key o.answer q
    ∙ ap (cond (is_eq (cmp o.key q)) o.answer) (get-map_before total os m q)
    ∙ (elim (is_eq (cmp o.key q)) as (λ b.
    cond b o.answer (table_before cmp os (get m) q) ≡ unwrap_or (cond b (Some o.answer) (first_answer_or cmp os q None)) (get m q)) [
      | true ↦ refl
      | false ↦ refl
    ])

-- ---- they stay

pub maps-stay : {K A : Type 0} {cmp : K → K → Ordering} (total : IsTotalOrder cmp) → MapsStay A cmp
maps-stay {cmp = cmp} total exact os old new keeps before after undoes n le =
    same_map total exact (map_at cmp new after n) (map_at cmp old before n)
    (λ q. get-map_before total (answers_of (entries_since n new.entries.items)) after q ∙ keeps (get before) (get after) undoes n le q
    ∙ sym (get-map_before total (answers_of (entries_since n old.entries.items)) before q))

pub maps-are_left : {K A : Type 0} {cmp : K → K → Ordering} (total : IsTotalOrder cmp) → MapsAreLeft A cmp
maps-are_left {cmp = cmp} total exact old new keeps present n le =
    same_map total exact (map_at cmp new present n) (map_at cmp old present n)
    (λ q. get-map_before total (answers_of (entries_since n new.entries.items)) present q ∙ keeps (get present) n le q
    ∙ sym (get-map_before total (answers_of (entries_since n old.entries.items)) present q))
