-- Decisions in a list of the code are those in a list of a line.
use Rattle.std.proofs.Common.{◌≡◌, ◌∙◌, ℕ, suc, ◌+◌, ◌<◌, Bool, true, false, ◌&&◌, ◌||◌, List, [], ◌∷◌, refl, sym, ap, arith, map, drop, drop-cons, get_or, length}
use Rattle.std.specs.List.{list_any}
use Rattle.serde_json.specs.Data.{Data}
use Rattle.serde_json.specs.View.{items_of}
use Rattle.ent_combine.specs.declared.outcome.Outcome.{Outcome}
use Rattle.ent_command.specs.Wanted.{are_decisions, every_decision, has_decision, is_word_of}

-- a list has a decision
pub has_decision_in : {J : Type 0} (content : J → Data) (decision : Outcome) (js : List J)
    → list_any (λ j. is_word_of (content j) decision) js ≡ has_decision decision (items_of (map content js))
has_decision_in content decision [] = refl
has_decision_in content decision (j ∷ js) = ap (λ b. is_word_of (content j) decision || b) (has_decision_in content decision js)

left_of : {J : Type 0} (js : List J) (i : ℕ) (j : J) → i < length js → j ≡ get_or js i j → drop i js ≡ j ∷ drop (i + 1) js
left_of js i j lt here =
    let next : suc i ≡ i + 1 = omega arith in
    drop-cons js i j lt ∙ ap (λ y. y ∷ drop (suc i) js) (sym here) ∙ ap (λ n. j ∷ drop n js) next

-- one more is the word of a decision
pub decision_on : {J : Type 0} (content : J → Data) (js : List J) (i : ℕ) (j : J) (all : Bool) → i < length js → j ≡ get_or js i j
    → list_any (is_word_of (content j)) every_decision ≡ true
    → are_decisions (items_of (map content (drop i js))) ≡ all → are_decisions (items_of (map content (drop (i + 1) js))) ≡ all
decision_on content js i j all lt here is so_far =
    ap (λ b. b && are_decisions (items_of (map content (drop (i + 1) js)))) (sym is)
    ∙ ap (λ ks. are_decisions (items_of (map content ks))) (sym (left_of js i j lt here)) ∙ so_far

-- one is none
pub decision_not : {J : Type 0} (content : J → Data) (js : List J) (i : ℕ) (j : J) (all : Bool) → i < length js → j ≡ get_or js i j
    → list_any (is_word_of (content j)) every_decision ≡ false
    → are_decisions (items_of (map content (drop i js))) ≡ all → false ≡ all
decision_not content js i j all lt here is so_far =
    ap (λ b. b && are_decisions (items_of (map content (drop (i + 1) js)))) (sym is)
    ∙ ap (λ ks. are_decisions (items_of (map content ks))) (sym (left_of js i j lt here)) ∙ so_far
