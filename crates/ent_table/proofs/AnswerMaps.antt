-- What the table has for a request, as a finite map.
use Rattle.std.proofs.Common.{◌≡◌, List, [], ◌∷◌, map, Bool, true, false, cond, ◌||◌, Some, None, refl, sym, ap, subst, ◌∙◌}
use Rattle.std.specs.Prelude.{◌&&◌, if◌then◌else◌}
use Rattle.std.specs.Cmp.Lexicographic.{nat_list_eq_equiv}
use Rattle.std.specs.FinMap.{find, get, get-from_entries}
use Rattle.std.specs.List.{list_any, zip}
use Rattle.std.specs.Ordering.{eq_by_cmp}
use Rattle.std.proofs.lemmas.Cmp.{eq_by_cmp_equiv}
use Rattle.ent_cells.specs.Order.{request_order}
use Rattle.ent_cells.proofs.Orders.{requests-total, same_request as same_by_order}
use Rattle.ent_request.specs.declared.answer.Answer.{Answer}
use Rattle.ent_table.specs.Names.{Triple, triples}
use Rattle.ent_table.specs.State.{State, answer_at, answer_to, table_of}
use Rattle.ent_table.specs.AnswerMap.{answers_of}
use Rattle.ent_table.proofs.Listed.{any_listed, same_request, same_triple}

-- ---- the order is the test of the three names

alike : (a b : Bool) → (a ≡ true → b ≡ true) → (b ≡ true → a ≡ true) → a ≡ b
alike true b to from = sym (to refl)
alike false true to from = from refl
alike false false to from = refl

itself : (x : Triple) → same_triple x x ≡ true
itself x = λ i. nat_list_eq_equiv.refl x.person i && (nat_list_eq_equiv.refl x.action i && nat_list_eq_equiv.refl x.resource i)

pub tests : (x y : Triple) → eq_by_cmp request_order x y ≡ same_triple x y
tests x y =
    alike (eq_by_cmp request_order x y) (same_triple x y)
    (λ e. subst (λ z. same_triple x z ≡ true) (same_by_order x y e) (itself x))
    (λ e. subst (λ z. eq_by_cmp request_order x z ≡ true) (same_request x y e) ((eq_by_cmp_equiv requests-total).refl x))

any_tests : (x : Triple) (ys : List Triple) → list_any (eq_by_cmp request_order x) ys ≡ list_any (same_triple x) ys
any_tests x [] = refl
any_tests x (y ∷ ys) = λ i. tests x y i || any_tests x ys i

-- ---- what is found

found_by : (f : Triple → Answer) (x y : Triple) (ys : List Triple) (b : Bool) → eq_by_cmp request_order x y ≡ b
    → find request_order x (zip ys (map f ys)) ≡ (if list_any (eq_by_cmp request_order x) ys then Some (f x) else None)
    → cond (eq_by_cmp request_order x y) (Some (f y)) (find request_order x (zip ys (map f ys))) ≡ (if eq_by_cmp request_order x y || list_any (eq_by_cmp request_order x) ys then Some (f x) else None)
found_by f x y ys true e rest = rw e (ap (λ (z : Triple). Some (f z)) (sym (same_by_order x y e)))
found_by f x y ys false e rest = rw e rest

found_in : (f : Triple → Answer) (x : Triple) (ys : List Triple) → find request_order x (zip ys (map f ys)) ≡ (if list_any (eq_by_cmp request_order x) ys then Some (f x) else None)
found_in f x [] = refl
found_in f x (y ∷ ys) = found_by f x y ys (eq_by_cmp request_order x y) refl (found_in f x ys)

-- it has the answer of each listed request, and none of any other
pub get-answers_of : (s : State) (x : Triple) → get (answers_of s) x ≡ answer_at s x
get-answers_of s x =
    get-from_entries requests-total (table_of s) x
    ∙ found_in (answer_to s) x (triples s.names)
    ∙ ap (λ (b : Bool). if b then Some (answer_to s x) else None) (any_tests x (triples s.names) ∙ any_listed x s.names)
