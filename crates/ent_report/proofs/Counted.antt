-- The notices, and the difference that an edit counts.
use Rattle.std.proofs.Common.{◌≡◌, ℕ, List, length, map, nat_eq, Bool, true, false, refl, sym, ap, subst, ◌∙◌, ⊎_elim}
use Rattle.std.specs.Prelude.{◌&&◌, not}
use Rattle.std.specs.Cmp.{both_ways}
use Rattle.std.specs.Cmp.Lexicographic.{pointwise}
use Rattle.std.specs.FinMap.{get}
use Rattle.std.specs.List.{AllByRecursion, Contains, IsDistinct, filter, list_any}
use Rattle.std.specs.Ordering.{is_eq}
use Rattle.std.specs.declared.cmp.Ordering.TheVariants.{Less}
use Rattle.std.proofs.lemmas.Bool.{false≢true}
use Rattle.std.proofs.lemmas.Cmp.{tied_itself}
use Rattle.std.proofs.lemmas.List.{length-map}
use Rattle.std.proofs.lemmas.List.Elements.{All-contains_itself, Contains-append_cases, Contains-append_left, Contains-append_right, filter_passes, recursion_from_All}
use Rattle.std.proofs.lemmas.Map.Made.{length-from_same_keys}
use Rattle.std.proofs.lemmas.Map.Views.{Contains-from_any, list_any-from_Contains}
use Rattle.ent_cells.specs.Order.{request_order}
use Rattle.ent_cells.proofs.Orders.{requests-total}
use Rattle.ent_table.specs.AnswerMap.{answers_of}
use Rattle.ent_table.specs.Difference.{changes, difference, differs, same_optional}
use Rattle.ent_table.specs.Doubles.{HasNoDoubles}
use Rattle.ent_table.specs.Names.{Names, Triple, all_triples, is_listed, triple_of, triples, with_actions, with_resources}
use Rattle.ent_table.specs.State.{State, answer_at}
use Rattle.ent_table.proofs.AnswerMaps.{get-answers_of}
use Rattle.ent_table.proofs.Listed.{same_request, same_triple}
use Rattle.ent_report.specs.Differing.{NoticesAreTheDifference, request_of}
use Rattle.ent_report.specs.Notices.{decision_in, notices}
use Rattle.ent_report.proofs.Differing.{ascend, contained_listed, difference_told, listed_at, listed_contained}
use Rattle.ent_report.proofs.Differing.{same_none, same_triple_equiv, tells_difference, unlisted_at}
use Rattle.ent_table.proofs.ToldChanges.{not_true}
use Rattle.ent_table.proofs.Members.{from_mapped, mapped, passed, passes}
use Rattle.ent_report.proofs.Pairs.{WithLater, all_in_each, all_mapped, all_passed, all_weaker, distinct, from_ascending, from_distinct}
use Rattle.ent_report.proofs.Pairs.{later_flat, later_joined, later_mapped, later_passed, later_weaker}
use Rattle.ent_table.specs.declared.since.Change.{Change}
use Rattle.ent_combine.specs.declared.outcome.Outcome.{Outcome}

-- ---- no request is listed twice

and_none : (a b : Bool) → (a && (b && false)) ≡ false
and_none true true = refl
and_none true false = refl
and_none false b = refl

and_later : (a b : Bool) → (a && (false && b)) ≡ false
and_later true b = refl
and_later false b = refl

-- two requests that differ
abbrev AreApart : Triple → Triple → Type 0
AreApart x y = same_triple x y ≡ false

-- the requests of three lists, each with every later one
module _ (P : List ℕ → List ℕ → Type 0) (Q : Triple → Triple → Type 0)
    (by_person : (i j : List ℕ) (x y : Triple) → x.person ≡ i → y.person ≡ j → P i j → Q x y)
    (by_action : (p i j : List ℕ) (x y : Triple) → x.person ≡ p → y.person ≡ p → x.action ≡ i → y.action ≡ j → P i j → Q x y)
    (by_resource : (p a i j : List ℕ) → P i j → Q (triple_of p a i) (triple_of p a j)) where
  pub later_triples : (ps as_ rs : List (List ℕ)) → WithLater P ps → WithLater P as_ → WithLater P rs → WithLater Q (all_triples ps as_ rs)
  later_triples ps as_ rs s t u = later_flat P Q (λ p. with_actions p as_ rs) (λ p x. x.person ≡ p) of actions by_person ps s
    where
      actions : (p : List ℕ) → WithLater Q (with_actions p as_ rs)
      actions p = later_flat P Q (λ a. with_resources p a rs) (λ a x. (x.person ≡ p) × (x.action ≡ a))
          (λ a. all_mapped (λ (x : Triple). (x.person ≡ p) × (x.action ≡ a)) (triple_of p a) (λ r. (refl, refl)) rs)
          (λ a. later_mapped P Q (triple_of p a) (by_resource p a) rs u)
          (λ i j x y o q l. by_action p i j x y o.0 q.0 o.1 q.1 l)
          as_ t

      of : (p : List ℕ) → AllByRecursion (λ (x : Triple). x.person ≡ p) (with_actions p as_ rs)
      of p = all_in_each (λ (x : Triple). x.person ≡ p) (λ a. with_resources p a rs)
          (λ a. all_mapped (λ (x : Triple). x.person ≡ p) (triple_of p a) (λ r. refl) rs) as_

listed_once : (n : Names) → HasNoDoubles n → WithLater AreApart (triples n)
listed_once n h = later_triples (λ x y. pointwise nat_eq x y ≡ false) AreApart
    (λ i j x y u v l t. ((λ r. pointwise nat_eq (u r) (v r)) ∙ l) t && (pointwise nat_eq x.action y.action && pointwise nat_eq x.resource y.resource))
    (λ p i j x y u v a b l.
    (λ t. pointwise nat_eq x.person y.person && (((λ r. pointwise nat_eq (a r) (b r)) ∙ l) t && pointwise nat_eq x.resource y.resource))
    ∙ and_later (pointwise nat_eq x.person y.person) (pointwise nat_eq x.resource y.resource))
    (λ p a i j l. (λ t. pointwise nat_eq p p && (pointwise nat_eq a a && l t)) ∙ and_none (pointwise nat_eq p p) (pointwise nat_eq a a))
    n.people n.actions n.resources (from_distinct (pointwise nat_eq) n.people h.0) (from_distinct (pointwise nat_eq) n.actions h.1) (from_distinct (pointwise nat_eq) n.resources h.2)

-- a request stands before another in byte order
abbrev IsBelow : Triple → Triple → Type 0
IsBelow x y = request_order x y ≡ Less

below_apart : (x y : Triple) → request_order x y ≡ Less → same_triple x y ≡ false
below_apart x y l = by (same_triple x y) refl
  where
    by : (b : Bool) → same_triple x y ≡ b → b ≡ false
    by false e = refl
    by true e = absurd (false≢true (ap is_eq (sym l ∙ ap (request_order x) (sym (same_request x y e)) ∙ tied_itself requests-total x)))

-- ---- two states

module _ (s t : State) where
  -- the requests that t lists and that have other answers, and those that s alone lists
  abbrev changed : List Triple
  changed = filter (differs s t) (triples t.names)

  abbrev left : List Triple
  left = filter (λ y. not (is_listed t.names y)) (triples s.names)

  abbrev told : List Triple
  told = map request_of (notices (answers_of s) t)

  -- ---- the same requests

  differ_counted : (x : Triple) → same_optional (answer_at s x) (answer_at t x) ≡ false → Contains (difference s t) x
  differ_counted x d = by (is_listed t.names x) (is_listed s.names x) refl refl
    where
      by : (u v : Bool) → is_listed t.names x ≡ u → is_listed s.names x ≡ v → Contains (difference s t) x
      by true v e g = Contains-append_left changed left x (passed (differs s t) (triples t.names) x (listed_contained t.names x e) (ap not d))
      by false true e g = Contains-append_right changed left x (passed (λ y. not (is_listed t.names y)) (triples s.names) x (listed_contained s.names x g) (ap not e))
      by false false e g = absurd (false≢true (sym d ∙ same_none _ _ (unlisted_at s x g) (unlisted_at t x e)))

  counted_differ : (x : Triple) → Contains (difference s t) x → same_optional (answer_at s x) (answer_at t x) ≡ false
  counted_differ x h = ⊎_elim first second (Contains-append_cases changed left x h)
    where
      first : Contains changed x → same_optional (answer_at s x) (answer_at t x) ≡ false
      first l = not_true (same_optional (answer_at s x) (answer_at t x)) (passes (differs s t) (triples t.names) x l).1

      second : Contains left x → same_optional (answer_at s x) (answer_at t x) ≡ false
      second l =
          let r = passes (λ y. not (is_listed t.names y)) (triples s.names) x l in
          λ i. same_optional (listed_at s x (contained_listed s.names x r.0) i) (unlisted_at t x (not_true (is_listed t.names x) r.1) i)

  told_counted : (x : Triple) → Contains told x → Contains (difference s t) x
  told_counted x h =
      let r = from_mapped request_of (notices (answers_of s) t) x h in
      let d = subst (λ y. same_optional (get (answers_of s) y) (answer_at t y) ≡ false) r.1.1 (tells_difference (answers_of s) t r.0 r.1.0).differ in
      differ_counted x (ap (λ a. same_optional a (answer_at t x)) (sym (get-answers_of s x)) ∙ d)

  counted_told : (x : Triple) → Contains (difference s t) x → Contains told x
  counted_told x h =
      let n : Change Outcome = record {
        person = x.person;
        action = x.action;
        resource = x.resource;
        before = decision_in (get (answers_of s) x);
        after = decision_in (answer_at t x);
      } in
      let d : same_optional (get (answers_of s) x) (answer_at t x) ≡ false = ap (λ a. same_optional a (answer_at t x)) (get-answers_of s x) ∙ counted_differ x h in
      mapped request_of (notices (answers_of s) t) n (difference_told (answers_of s) t n (record { differ = d; before = refl; after = refl }))

  -- ---- each once

  told_once : IsDistinct same_triple told
  told_once = distinct same_triple told (later_weaker IsBelow AreApart below_apart told (from_ascending request_order told (ascend (answers_of s) t)))

  apart : (x y : Triple) → Contains (triples t.names) x → not (is_listed t.names y) ≡ true → same_triple x y ≡ false
  apart x y c n = by (same_triple x y) refl
    where
      by : (b : Bool) → same_triple x y ≡ b → b ≡ false
      by false e = refl
      by true e = absurd (false≢true (sym (not_true (is_listed t.names y) n) ∙ ap (is_listed t.names) (sym (same_request x y e)) ∙ contained_listed t.names x c))

  abbrev IsApart : Triple → Type 0
  IsApart x = AllByRecursion (AreApart x) left

  left_apart : (x : Triple) → Contains (triples t.names) x → IsApart x
  left_apart x c = all_weaker (λ y. not (is_listed t.names y) ≡ true) (AreApart x) (λ y n. apart x y c n) left
      (recursion_from_All (λ y. not (is_listed t.names y) ≡ true) left (filter_passes (λ y. not (is_listed t.names y)) (triples s.names)))

  changed_apart : AllByRecursion IsApart changed
  changed_apart = all_passed IsApart (differs s t) (triples t.names)
      (all_weaker (Contains (triples t.names)) IsApart left_apart (triples t.names) (recursion_from_All (Contains (triples t.names)) (triples t.names) (All-contains_itself (triples t.names))))

  module _ (before : HasNoDoubles s.names) (after : HasNoDoubles t.names) where
    counted_once : IsDistinct same_triple (difference s t)
    counted_once = distinct same_triple (difference s t) (later_joined AreApart changed left
        (later_passed AreApart (differs s t) (triples t.names) (listed_once t.names after))
        (later_passed AreApart (λ y. not (is_listed t.names y)) (triples s.names) (listed_once s.names before))
        changed_apart)

    as_many : length (notices (answers_of s) t) ≡ changes s t
    as_many = sym (length-map (notices (answers_of s) t) request_of) ∙ length-from_same_keys same_triple_equiv told (difference s t) told_once counted_once same
      where
        same : (x : Triple) → list_any (same_triple x) told ≡ list_any (same_triple x) (difference s t)
        same x = both_ways _ _
            (λ e. list_any-from_Contains same_triple_equiv x (difference s t) (told_counted x (Contains-from_any same_request x told e)))
            (λ e. list_any-from_Contains same_triple_equiv x told (counted_told x (Contains-from_any same_request x (difference s t) e)))

-- ---- the law

pub are_the_difference : NoticesAreTheDifference
are_the_difference = (
  λ m s. (λ n. (tells_difference m s n, difference_told m s n), ascend m s),
  λ s t. (λ x. (told_counted s t x, counted_told s t x), as_many s t),
)
