-- A difference is the only one of its tables.
use Rattle.std.proofs.Common.{◌≡◌, List, [], ◌∷◌, Bool, not, ◌||◌, map, Option, refl, sym, ◌∙◌, ap}
use Rattle.std.proofs.lemmas.List.Elements.{All-head, All-tail, All-weaker}
use Rattle.std.proofs.lemmas.Map.Lookups.{btree_set_from_contains}
use Rattle.std.specs.BTreeSet.{BTreeSet}
use Rattle.std.specs.Cmp.{IsTotalOrder}
use Rattle.std.specs.List.{All, list_any}
use Rattle.std.specs.Ordering.{is_eq}
use Rattle.std.specs.declared.cmp.Ordering.{Ordering}
use Rattle.ent_log.specs.Difference.{HasAnswers, IsDifference, same_optional}
use Rattle.ent_log.specs.Law.{DifferencesAreUnique}
use Rattle.ent_log.specs.declared.change.LoggedChange.{LoggedChange}

-- a difference is one of tables with the same answers
pub difference-same : {K A : Type 0} (cmp : K → K → Ordering) (eq : A → A → Bool) (before after from to : K → Option A) (changes : List (LoggedChange K A))
    → ((k : K) → before k ≡ from k) → ((k : K) → after k ≡ to k) → IsDifference cmp eq before after changes → IsDifference cmp eq from to changes
difference-same cmp eq before after from to changes first last d = record {
  exact = λ k. d.exact k ∙ ap (λ a. not (same_optional eq a (after k))) (first k) ∙ ap (λ b. not (same_optional eq (from k) b)) (last k);
  answers = All-weaker (HasAnswers before after) (HasAnswers from to) (λ c h. (h.0 ∙ first c.key, h.1 ∙ last c.key)) changes d.answers;
  ascending = d.ascending;
}

-- the keys of changes pass a test where the changes do
list_any-keys : {K A : Type 0} (test : K → Bool) (changes : List (LoggedChange K A))
    → list_any test (map (λ c. c.key) changes) ≡ list_any (λ c. test c.key) changes
list_any-keys test [] = refl
list_any-keys test (c ∷ changes) = ap (λ b. test c.key || b) (list_any-keys test changes)

-- changes that have the answers of two tables, by their keys alone
by-keys : {K A : Type 0} (before after : K → Option A) (changes : List (LoggedChange K A)) → All (HasAnswers before after) changes
    → changes ≡ map (λ k. record { key = k; before = before k; after = after k }) (map (λ c. c.key) changes)
by-keys before after [] answers = refl
by-keys {K} {A} before after (c ∷ changes) answers =
    let here = All-head (HasAnswers before after) c changes answers in
    let same : c ≡ record { key = c.key; before = before c.key; after = after c.key } =
    λ i. record { key = c.key; before = here.0 i; after = here.1 i } in
    λ i. same i ∷ by-keys before after changes (All-tail (HasAnswers before after) c changes answers) i

pub differences-unique : {K A : Type 0} (cmp : K → K → Ordering) (total : IsTotalOrder cmp) (eq : A → A → Bool) → DifferencesAreUnique cmp eq
differences-unique {K} {A} cmp total eq exact before after changes others d e =
    let ks : List K = map (λ (c : LoggedChange K A). c.key) changes in
    let ls : List K = map (λ (c : LoggedChange K A). c.key) others in
    let s : BTreeSet K = record { keys = ks } in
    let t : BTreeSet K = record { keys = ls } in
    let alike : (k : K) → list_any (λ q. is_eq (cmp k q)) ks ≡ list_any (λ q. is_eq (cmp k q)) ls =
    λ k. list_any-keys (λ q. is_eq (cmp k q)) changes ∙ d.exact k ∙ sym (e.exact k) ∙ sym (list_any-keys (λ q. is_eq (cmp k q)) others) in
    let keys : ks ≡ ls = btree_set_from_contains total s t d.ascending e.ascending alike exact in
    by-keys before after changes d.answers
    ∙ ap (map (λ k. record { key = k; before = before k; after = after k })) keys
    ∙ sym (by-keys before after others e.answers)
