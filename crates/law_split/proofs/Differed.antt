-- How many cells change, over all parts.
use Rattle.std.proofs.Common.{◌≡◌, ℕ, zero, suc, ◌+◌, ◌<◌, List, [], ◌∷◌, length, map, Bool, true, false, cond, Option, Some, None}
use Rattle.std.proofs.Common.{refl, sym, ap, ◌∙◌, arith, length-append}
use Rattle.std.specs.Prelude.{◌&&◌, filter, not, slice_get}
use Rattle.std.specs.List.{AllByRecursion, flat_map, sum, zip}
use Rattle.std.proofs.lemmas.List.{length-map}
use Rattle.ent_table.specs.Names.{Triple, all_triples, has_name, is_listed, triples, with_actions}
use Rattle.ent_table.specs.State.{State, answer_at, answer_by}
use Rattle.ent_request.specs.declared.answer.Answer.{Answer}
use Rattle.ent_request.specs.Held.{looks_in}
use Rattle.ent_table.specs.Difference.{changes, differs, same_optional}
use Rattle.ent_table.proofs.Changes.{same_self}
use Rattle.ent_table.proofs.Counts.{none_left, own_listed, passing}
use Rattle.law_split.specs.Laws.{PartsTellTheChanges}
use Rattle.law_split.specs.Split.{IsPart, IsSplit, is_of}
use Rattle.law_split.proofs.Kept.{own_there}
use Rattle.law_split.proofs.Pieces.{IsShare, pieces, sum_of_all}
use Rattle.law_split.proofs.Summed.{chosen, chosen_additive, chosen_all, sum_additive}
use Rattle.law_split.proofs.Tabled.{all_flat, at_map, of_person}

-- ---- the same answers

module _ (own : List ℕ → Bool) (whole part : State) (is : IsPart own whole part) (x : Triple) (mine : own x.person ≡ true) where
  same_listed : is_listed part.names x ≡ is_listed whole.names x
  same_listed =
      let there = ap (has_name x.person) is.people ∙ own_there own x.person mine whole.names.people in
      λ i. there i && (has_name x.action (is.actions i) && has_name x.resource (is.resources i))

  same_at : answer_at part x ≡ answer_at whole x
  same_at = λ i. cond (same_listed i) (Some (answer_by (looks_in (is.held i)) x)) None

-- ---- the requests of a part

same_requests : (own : List ℕ → Bool) (whole part : State) → IsPart own whole part
    → triples part.names ≡ flat_map (λ person. with_actions person whole.names.actions whole.names.resources) (filter own whole.names.people)
same_requests own whole part is = λ i. all_triples (is.people i) (is.actions i) (is.resources i)

own_requests : (own : List ℕ → Bool) (actions resources people : List (List ℕ))
    → AllByRecursion (λ (x : Triple). own x.person ≡ true) (flat_map (λ person. with_actions person actions resources) (filter own people))
own_requests own actions resources people =
    all_flat (λ (x : Triple). own x.person ≡ true) (λ person. with_actions person actions resources) (filter own people) (each people)
  where
    hers : (person : List ℕ) → own person ≡ true → (xs : List Triple) → AllByRecursion (λ (x : Triple). x.person ≡ person) xs → AllByRecursion (λ (x : Triple). own x.person ≡ true) xs
    hers person h [] a = tt
    hers person h (x ∷ xs) a = (ap own a.0 ∙ h, hers person h xs a.1)

    each : (people : List (List ℕ)) → AllByRecursion (λ person. AllByRecursion (λ (x : Triple). own x.person ≡ true) (with_actions person actions resources)) (filter own people)
    each [] = tt
    each (p ∷ people) = by (own p) refl (each people)
      where
        by : (b : Bool) → own p ≡ b → AllByRecursion (λ person. AllByRecursion (λ (x : Triple). own x.person ≡ true) (with_actions person actions resources)) (filter own people)
            → AllByRecursion (λ person. AllByRecursion (λ (x : Triple). own x.person ≡ true) (with_actions person actions resources)) (cond b (p ∷ filter own people) (filter own people))
        by true e rest = (hers p e (with_actions p actions resources) (of_person actions resources p), rest)
        by false e rest = rest

alike : {X : Type 0} (q f g : X → Bool) → ((x : X) → q x ≡ true → f x ≡ g x) → (xs : List X) → AllByRecursion (λ x. q x ≡ true) xs → filter f xs ≡ filter g xs
alike q f g same [] a = refl
alike q f g same (x ∷ xs) a = let rest = alike q f g same xs a.1 in λ i. cond (same x a.0 i) (x ∷ rest i) (rest i)

-- ---- lists side by side

at_zip : {X Y : Type 0} (xs : List X) (ys : List Y) (i : ℕ) (p : X × Y) → slice_get (zip xs ys) i ≡ Some p → (slice_get xs i ≡ Some p.0) × (slice_get ys i ≡ Some p.1)
at_zip [] ys i p e = cc
at_zip (x ∷ xs) [] i p e = cc
at_zip (x ∷ xs) (y ∷ ys) zero p e = let same : (x, y) ≡ p = cc in (ap (λ q. Some q.0) same, ap (λ q. Some q.1) same)
at_zip (x ∷ xs) (y ∷ ys) (suc i) p e = at_zip xs ys i p e

zip_below : {X Y : Type 0} (xs : List X) (ys : List Y) (n : ℕ) → n < length xs → n < length ys → n < length (zip xs ys)
zip_below [] ys n a b = absurd (omega (arith, a))
zip_below (x ∷ xs) [] n a b = absurd (omega (arith, b))
zip_below (x ∷ xs) (y ∷ ys) zero a b = omega arith
zip_below (x ∷ xs) (y ∷ ys) (suc n) a b = let below = zip_below xs ys n (omega arith) (omega arith) in omega (arith, below)

-- ---- the changes

module _ (part_of : List ℕ → ℕ) (before after : State) (olds news : List State) (old : IsSplit part_of before olds) (new : IsSplit part_of after news) where
  -- the requests of a person before and after
  abbrev earlier : List ℕ → List Triple
  earlier person = with_actions person before.names.actions before.names.resources

  abbrev later : List ℕ → List Triple
  later person = with_actions person after.names.actions after.names.resources

  abbrev gone : Triple → Bool
  gone x = not (is_listed after.names x)

  -- how many change of the people that are chosen
  abbrev changed : (List ℕ → Bool) → ℕ
  changed own = chosen (differs before after) later after.names.people own + chosen gone earlier before.names.people own

  changes_of_part : (number : ℕ) (p q : State) → slice_get olds number ≡ Some p → slice_get news number ≡ Some q → changes p q ≡ changed (is_of part_of number)
  changes_of_part number p q e f =
      let own = is_of part_of number in
      let was = old.each number p e in
      let is = new.each number q f in
      let now = flat_map later (filter own after.names.people) in
      let then = flat_map earlier (filter own before.names.people) in
      let here = alike (λ (x : Triple). own x.person) (differs p q) (differs before after)
      (λ x mine. λ i. not (same_optional (same_at own before p was x mine i) (same_at own after q is x mine i))) now
      (own_requests own after.names.actions after.names.resources after.names.people) in
      let away = alike (λ (x : Triple). own x.person) (λ x. not (is_listed q.names x)) gone
      (λ x mine. ap not (same_listed own after q is x mine)) then
      (own_requests own before.names.actions before.names.resources before.names.people) in
      length-append (filter (differs p q) (triples q.names)) (filter (λ x. not (is_listed q.names x)) (triples p.names))
      ∙ (λ i. passing (differs p q) (same_requests own after q is i) + passing (λ x. not (is_listed q.names x)) (same_requests own before p was i))
      ∙ (λ i. length (here i) + length (away i))

  pub changes_summed : changes before after ≡ sum (map (λ part. changes part.0 part.1) (zip olds news))
  changes_summed =
      let f = λ (part : State × State). changes part.0 part.1 in
      let first = chosen (differs before after) later after.names.people in
      let second = chosen gone earlier before.names.people in
      let additive = sum_additive first second (chosen_additive (differs before after) later after.names.people) (chosen_additive gone earlier before.names.people) in
      length-append (filter (differs before after) (triples after.names)) (filter gone (triples before.names))
      ∙ sym (λ i. chosen_all (differs before after) later after.names.people i + chosen_all gone earlier before.names.people i)
      ∙ sym (sum_of_all part_of changed additive (map f (zip olds news))
      (λ person. let both = zip_below olds news (part_of person) (old.placed person) (new.placed person) in omega (arith, both, length-map (zip olds news) f))
      (pieces (IsShare part_of changed additive) (map f (zip olds news))
      (λ i n e.
      let one = at_map f (zip olds news) i n e in
      let two = at_zip olds news i one.0 one.1.0 in
      one.1.1 ∙ changes_of_part i one.0.0 one.0.1 two.0 two.1)))

-- nothing changes from a state to itself
pub none_changed : (s : State) → changes s s ≡ 0
none_changed s =
    length-append (filter (differs s s) (triples s.names)) (filter (λ x. not (is_listed s.names x)) (triples s.names))
    ∙ (λ i. passing_none (triples s.names) i + none_left (is_listed s.names) (triples s.names) (own_listed s.names) i)
  where
    same : (a : Option Answer) → same_optional a a ≡ true
    same None = refl
    same (Some a) = same_self a

    passing_none : (xs : List Triple) → passing (differs s s) xs ≡ 0
    passing_none [] = refl
    passing_none (x ∷ xs) =
        (λ i. length (cond (not (same (answer_at s x) i)) (x ∷ filter (differs s s) xs) (filter (differs s s) xs))) ∙ passing_none xs

pub changes_told : PartsTellTheChanges
changes_told = (changes_summed, none_changed)
