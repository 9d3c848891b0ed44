-- Shelves of cases: what is found on them, and what is put there.
use Rattle.std.proofs.Common.{◌≡◌, inl, inr, ℕ, zero, suc, ◌+◌, ◌<◌, Bool, true, false, List, [], ◌∷◌, ◌++◌, Option, Some, None, Result, Ok, Err, length, slice_get, refl, sym, ap, subst, ◌∙◌, arith}
use Rattle.std.specs.Prelude.{◌⊎◌, IfNone, IfOk, IfSome, OnOk}
use Rattle.std.specs.Bool.{OnFalse}
use Rattle.std.specs.List.{AllByRecursion}
use Rattle.std.proofs.lemmas.List.{length-append}
use Rattle.std.proofs.lemmas.Option.{slice_get_within}
use Rattle.memo_trie.specs.Tree.{Ends, Leads, LeadsAsBefore, key_at, leaf_at}
use Rattle.ent_values.specs.Bags.{Contents}
use Rattle.ent_evaluator.specs.declared.case.Case.{Case}
use Rattle.ent_evaluator.specs.declared.cases.Cases.{Cases}
use Rattle.ent_eval.specs.declared.pdp.ListedEvaluation.{ListedEvaluation}
use Rattle.ent_request.specs.declared.question.Question.{Question}
use Rattle.ent_request.specs.declared.request.Request.{Request}
use Rattle.ent_evaluator.specs.declared.shelf.Shelf.{Shelf}
use Rattle.ent_request.specs.Looks.{Looks}
use Rattle.ent_evaluator.specs.Memory.{Fits, Gives, HasCaseIn, IsCase, IsIndex, IsShelf, cases_in, most_cases}
use Rattle.memo_bags.specs.Ways.{AsksAbout, FindsWay, Nodes, Way, way_of}
use Rattle.memo_bags.specs.proofs_only.Ready.{Begins}
use Rattle.ent_evaluator.specs.proofs_only.Remembered.{HasPut, NoneFits}
use Rattle.ent_request.proofs.Lists.{all_append}
use Rattle.memo_bags.proofs.Growing.{all_by_place, at_end, get_fewer, get_more, some_same, starts_itself}
use Rattle.memo_bags.proofs.Learning.{finds_way, way_finds}
use Rattle.ent_evaluator.proofs.Remembering.{none_more}

-- ---- what is found on a shelf

module _ (looks : Looks) (questions : List Question) (bags : List Contents) (request : Request) where
  pub found_case : (shelf : Shelf) → IsIndex questions shelf → (way : Way) (i : ℕ) → Leads shelf.tree.nodes.items way i → FindsWay looks questions bags request way
      → (c : Case) × ((slice_get shelf.cases.items i ≡ Some c) × Fits looks questions bags request c)
  found_case shelf index way i led finds =
      let c = index.led way i led in
      (c.0, (c.1.0, (way_finds looks questions bags request [] c.0.found (subst (FindsWay looks questions bags request) c.1.1 finds)).1))

  pub no_case : (shelf : Shelf) → IsIndex questions shelf → ((way : Way) (i : ℕ) → Leads shelf.tree.nodes.items way i → FindsWay looks questions bags request way → ⊥)
      → NoneFits looks questions bags request shelf.cases.items
  no_case shelf index none =
      all_by_place (λ c. Fits looks questions bags request c → ⊥) shelf.cases.items (λ i c at fits. none (way_of c.found) i (index.leads i c at) (finds_way looks questions bags request [] c.found tt fits))

-- ---- a case is put there

below_or : (i n : ℕ) → i < n + 1 → (i < n) ⊎ (i ≡ n)
below_or zero zero h = inr refl
below_or zero (suc n) h = inl (omega arith)
below_or (suc i) zero h = absurd (omega (arith, h))
below_or (suc i) (suc n) h = by (below_or i n (omega (arith, h))) where
  by : (i < n) ⊎ (i ≡ n) → (suc i < suc n) ⊎ (suc i ≡ suc n)
  by (inl below) = inl (omega (arith, below))
  by (inr same) = inr (ap suc same)

-- a tree in which nothing led anywhere else
pub index_same : (questions : List Question) (old new : Shelf) → LeadsAsBefore old.tree.nodes.items new.tree.nodes.items → AsksAbout questions new.tree.nodes.items → new.cases.items ≡ old.cases.items
    → IsIndex questions old → IsIndex questions new
index_same questions old new leads asks same index = record {
  asks = asks;
  led = λ way i led.
      let before = index.led way i ((leads way i).1 led) in
      (before.0, (ap (λ cs. slice_get cs i) same ∙ before.1.0, before.1.1));
  leads = λ i c at. (leads (way_of c.found) i).0 (index.leads i c (ap (λ cs. slice_get cs i) (sym same) ∙ at));
}

pub index_more : (questions : List Question) (old new : Shelf) (nodes : Nodes) (c : Case) → LeadsAsBefore old.tree.nodes.items nodes → AsksAbout questions nodes
    → Ends nodes new.tree.nodes.items (way_of c.found) (length old.cases.items) → new.cases.items ≡ old.cases.items ++ c ∷ [] → IsIndex questions old → IsIndex questions new
index_more questions old new nodes c leads asks ends put index = record {
  asks = λ n k is. asks n k (sym (ends.asks n) ∙ is);
  led = λ way i led. led_by way i (ends.others way i led);
  leads = λ i d at. leads_by i d at;
} where
  led_by : (way : Way) (i : ℕ) → Leads nodes way i ⊎ ((way ≡ way_of c.found) × (i ≡ length old.cases.items)) → (d : Case) × ((slice_get new.cases.items i ≡ Some d) × (way ≡ way_of d.found))
  led_by way i (inl led) =
      let before = index.led way i ((leads way i).1 led) in
      (before.0, (ap (λ cs. slice_get cs i) put ∙ get_more old.cases.items (c ∷ []) i before.0 before.1.0, before.1.1))
  led_by way i (inr this) = (c, (at_end old.cases.items new.cases.items c i put this.1, this.0))

  leads_at : (i : ℕ) (d : Case) → slice_get new.cases.items i ≡ Some d → (i < length old.cases.items) ⊎ (i ≡ length old.cases.items) → Leads new.tree.nodes.items (way_of d.found) i
  leads_at i d at (inl below) =
      ends.stay (way_of d.found) i ((leads (way_of d.found) i).0 (index.leads i d (get_fewer old.cases.items (c ∷ []) i d below (ap (λ cs. slice_get cs i) (sym put) ∙ at))))
  leads_at i d at (inr last) =
      let same : c ≡ d = some_same c d (sym (at_end old.cases.items new.cases.items c i put last) ∙ at) in
      subst (λ e. Leads new.tree.nodes.items (way_of e.found) i) same (subst (Leads new.tree.nodes.items (way_of c.found)) (sym last) ends.there)

  leads_by : (i : ℕ) (d : Case) → slice_get new.cases.items i ≡ Some d → Leads new.tree.nodes.items (way_of d.found) i
  leads_by i d at =
      let long : length new.cases.items ≡ length old.cases.items + 1 = ap (λ cs. length cs) put ∙ length-append old.cases.items (c ∷ []) in
      leads_at i d at (below_or i (length old.cases.items) (omega (arith, slice_get_within new.cases.items i d at, long)))

-- without cases and places
pub index_none : (questions : List Question) (shelf : Shelf) → shelf.cases.items ≡ [] → shelf.tree.nodes.items ≡ [] → IsIndex questions shelf
index_none questions shelf none nothing = record {
  asks = λ n k is. absurd (cc (is, ap (λ nodes. key_at nodes n) nothing));
  led = λ way i led. absurd (cc (led.1.0, ap (λ nodes. leaf_at nodes led.0) nothing));
  leads = λ i c at. absurd (cc (at, ap (λ cs. slice_get cs i) none));
}

-- ---- shelves

pub shelf_none : (looks : Looks) (questions : List Question) (bags : List Contents) (shelf : Shelf) → shelf.cases.items ≡ [] → shelf.tree.nodes.items ≡ [] → IsShelf looks questions bags shelf
shelf_none looks questions bags shelf none nothing = record {
  cases = subst (AllByRecursion (IsCase looks questions bags)) (sym none) tt;
  few = omega (arith, ap (λ cs. length cs) none);
  index = index_none questions shelf none nothing;
}

-- a shelf with as many cases, or one more
pub shelf_same : (looks : Looks) (questions : List Question) (bags : List Contents) (old new : Shelf) → new.cases.items ≡ old.cases.items → (IsIndex questions old → IsIndex questions new)
    → IsShelf looks questions bags old → IsShelf looks questions bags new
shelf_same looks questions bags old new same index is = record {
  cases = subst (AllByRecursion (IsCase looks questions bags)) (sym same) is.cases;
  few = omega (arith, is.few, ap (λ cs. length cs) same);
  index = index is.index;
}

pub shelf_put : (looks : Looks) (questions : List Question) (bags : List Contents) (old new : Shelf) (c : Case) → length old.cases.items < most_cases → new.cases.items ≡ old.cases.items ++ c ∷ []
    → (IsIndex questions old → IsIndex questions new) → IsCase looks questions bags c → IsShelf looks questions bags old → IsShelf looks questions bags new
shelf_put looks questions bags old new c few put index case is = record {
  cases = subst (AllByRecursion (IsCase looks questions bags)) (sym put) (all_append (IsCase looks questions bags) old.cases.items (c ∷ []) is.cases (case, tt));
  few = omega (arith, few, ap (λ cs. length cs) put, length-append old.cases.items (c ∷ []));
  index = index is.index;
}

-- ---- cases of two shelves

get_behind : {A : Type 0} (xs ys : List A) (i n : ℕ) (x : A) → n ≡ length xs + i → slice_get ys i ≡ Some x → slice_get (xs ++ ys) n ≡ Some x
get_behind [] ys i n x is at =
    let same : n ≡ i = omega (arith, is) in
    ap (slice_get ys) same ∙ at
get_behind (y ∷ xs) ys i zero x is at = absurd (omega (arith, is))
get_behind (y ∷ xs) ys i (suc n) x is at = get_behind xs ys i n x (omega (arith, is)) at

pub has_older : (looks : Looks) (questions : List Question) (bags : List Contents) (request : Request) (cases : Cases) (P : Case → Type 0) → HasCaseIn looks questions bags request cases.older.cases.items P
    → HasCaseIn looks questions bags request (cases_in cases) P
has_older looks questions bags request cases P has = (has.0, (has.1.0, (get_more cases.older.cases.items cases.latest.cases.items has.0 has.1.0 has.1.1.0, has.1.1.1)))

pub has_latest : (looks : Looks) (questions : List Question) (bags : List Contents) (request : Request) (cases : Cases) (P : Case → Type 0) → HasCaseIn looks questions bags request cases.latest.cases.items P
    → HasCaseIn looks questions bags request (cases_in cases) P
has_latest looks questions bags request cases P has =
    (length cases.older.cases.items + has.0, (has.1.0, (get_behind cases.older.cases.items cases.latest.cases.items has.0 (length cases.older.cases.items + has.0) has.1.0 refl has.1.1.0, has.1.1.1)))

pub none_of_both : (looks : Looks) (questions : List Question) (bags bigger : List Contents) (request : Request) (cases : Cases) → Begins bigger bags
    → NoneFits looks questions bags request cases.latest.cases.items → NoneFits looks questions bigger request cases.older.cases.items → NoneFits looks questions bags request (cases_in cases)
none_of_both looks questions bags bigger request cases begins latest older =
    all_append (λ c. Fits looks questions bags request c → ⊥) cases.older.cases.items cases.latest.cases.items
    (none_more looks questions questions bags bigger (starts_itself questions questions refl) begins request cases.older.cases.items older) latest

pub put_last : (c : Case) (older latest before : List Case) → latest ≡ before ++ c ∷ [] → (i : ℕ) × (slice_get (older ++ latest) i ≡ Some c)
put_last c older latest before put = (length older + length before, get_behind older latest (length before) (length older + length before) c refl (at_end before latest c (length before) put refl))

pub on_false : (b : Bool) (P : Type 0) → b ≡ false → OnFalse b P → P
on_false true P is h = absurd (cc)
on_false false P is h = h

-- ---- answers of two shelves

module _ {E : Type 0} (r : Result (Option ListedEvaluation) E) (looks : Looks) (questions : List Question) (request : Request) (cases : Cases) where
  pub some_older : (bags : List Contents) → IfOk r (λ o. IfSome o (λ e. HasCaseIn looks questions bags request cases.older.cases.items (Gives e)))
      → IfOk r (λ o. IfSome o (λ e. HasCaseIn looks questions bags request (cases_in cases) (Gives e)))
  some_older bags = by r where
    by : (q : Result (Option ListedEvaluation) E) → IfOk q (λ o. IfSome o (λ e. HasCaseIn looks questions bags request cases.older.cases.items (Gives e)))
        → IfOk q (λ o. IfSome o (λ e. HasCaseIn looks questions bags request (cases_in cases) (Gives e)))
    by (Err e) has = tt
    by (Ok None) has = tt
    by (Ok (Some e)) has = has_older looks questions bags request cases (Gives e) has

  pub none_older : (bags bigger : List Contents) → Begins bigger bags → NoneFits looks questions bags request cases.latest.cases.items
      → IfOk r (λ o. IfNone o (NoneFits looks questions bigger request cases.older.cases.items)) → IfOk r (λ o. IfNone o (NoneFits looks questions bags request (cases_in cases)))
  none_older bags bigger begins latest = by r where
    by : (q : Result (Option ListedEvaluation) E) → IfOk q (λ o. IfNone o (NoneFits looks questions bigger request cases.older.cases.items)) → IfOk q (λ o. IfNone o (NoneFits looks questions bags request (cases_in cases)))
    by (Err e) none = tt
    by (Ok None) none = none_of_both looks questions bags bigger request cases begins latest none
    by (Ok (Some e)) none = tt

-- a case that is put in fits the request for which it was found
pub has_put : {E : Type 0} (r : Result (Unit {0}) E) (c : Case) (cases : Cases) (looks : Looks) (questions : List Question) (bags : List Contents) (request : Request) (e : ListedEvaluation)
    → Fits looks questions bags request c → Gives e c → OnOk r (HasPut c cases) → OnOk r (HasCaseIn looks questions bags request (cases_in cases) (Gives e))
has_put (Err e) c cases looks questions bags request f fits gives there = tt
has_put (Ok u) c cases looks questions bags request f fits gives there = (there.0, (c, (there.1, (fits, gives))))

pub has_same : {E : Type 0} (r : Result (Unit {0}) E) (c d : Case) (cases : Cases) → c ≡ d → OnOk r (HasPut c cases) → OnOk r (HasPut d cases)
has_same (Err e) c d cases same there = tt
has_same (Ok u) c d cases same there = (there.0, there.1 ∙ ap (λ x. Some x) same)
