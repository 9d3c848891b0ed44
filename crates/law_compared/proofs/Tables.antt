-- The table of a state, as it is read of the reply to `table`.
use Rattle.std.proofs.Common.{◌≡◌, ℕ, List, [], ◌∷◌, map, Bool, true, false, ◌||◌, Some, None, option_map}
use Rattle.std.proofs.Common.{codes, refl, sym, ap, subst, ◌∙◌, arith, IsUtf8}
use Rattle.std.specs.Prelude.{◌&&◌, ◌↔◌, if◌then◌else◌, nat_eq, option_and_then}
use Rattle.std.specs.Cmp.{Equal-is, eq_by_cmp_equiv, tied_itself}
use Rattle.std.specs.Cmp.Lexicographic.{bytes_decides, nat_list_eq_equiv, pointwise}
use Rattle.std.specs.List.{AllByRecursion, Contains, list_any, zip}
use Rattle.std.specs.Ordering.{is_eq}
use Rattle.std.proofs.lemmas.Bool.{false≢true}
use Rattle.std.proofs.lemmas.Str.{is_utf8-from_IsUtf8}
use Rattle.std.proofs.lemmas.Map.Views.{Contains-from_any, list_any-from_Contains}
use Rattle.serde_json.specs.Data as json
use Rattle.serde_json.specs.Data.{Data, Members}
use Rattle.serde_json.specs.Find.{get_member}
use Rattle.serde_json.specs.View.{items_of}
use Rattle.serde_json.specs.Written.{compact_text}
use Rattle.ent_json.specs.Line.{data_of}
use Rattle.ent_polform.proofs.Fitting.{Fits, list_fits, one_fits}
use Rattle.ent_request.specs.Held.{looks_in}
use Rattle.ent_request.specs.Listed.{listed as asked}
use Rattle.ent_request.specs.declared.answer.Answer.{Answer}
use Rattle.ent_table.specs.Names.{Triple, has_name, is_listed, triples}
use Rattle.ent_table.specs.State.{State, answer_to, table_of}
use Rattle.ent_table.proofs.Listed.{any_listed, same_request, same_triple}
use Rattle.ent_line.specs.Cells.{cell_data, reply_data, table_reply}
use Rattle.law_restart.proofs.Texts.{texts_read_back}
use Rattle.law_restart.proofs.Utf8Data.{IsUtf8Data}
use Rattle.law_restart.proofs.Utf8Written.{compact_utf8, list_written, only_utf8}
use Rattle.script_compare.specs.Tables.{by_request, listed, names_text, table_in}
use Rattle.law_compared.specs.Difference.{cell_at}
use Rattle.law_compared.proofs.Cells.{AreUtf8Names, cell_fits, cell_utf8, request_told}
use Rattle.law_compared.proofs.GoodAnswers.{answer_good}
use Rattle.law_compared.proofs.GoodHeld.{IsGoodState, listed_good}
use Rattle.law_compared.proofs.GoodTold.{IsGoodAnswer}
use Rattle.law_compared.proofs.Names.{names_told}
use Rattle.law_compared.proofs.Rows.{among, among_ordered, at_request, by_requests, in_order, members, order, same}
use Rattle.law_compared.proofs.Rows.{total}

-- ---- requests

-- the text of a request's names
abbrev pub text : Triple → List ℕ
text x = names_text x.person x.action x.resource

pub exact : (x y : Triple) → text x ≡ text y → x ≡ y
exact x y h =
    let same = names_told x.person x.action x.resource y.person y.action y.resource h in
    λ i. record { person = same.0 i; action = same.1.0 i; resource = same.1.1 i }

alike : (a b : Bool) → (a ≡ true → b ≡ true) → (b ≡ true → a ≡ true) → a ≡ b
alike true b to from = sym (to refl)
alike false true to from = from refl
alike false false to from = refl

itself : (x : Triple) → same_triple x x ≡ true
itself x = λ i. nat_list_eq_equiv.refl x.person i
    && (nat_list_eq_equiv.refl x.action i && nat_list_eq_equiv.refl x.resource i)

order_itself : (x : Triple) → is_eq (order text x x) ≡ true
order_itself x = ap is_eq (tied_itself (total text) x)

same_by_text : (x y : Triple) → is_eq (order text x y) ≡ true → x ≡ y
same_by_text x y e = same text exact x y ((Equal-is (order text x y)).0 e)

tests : (x y : Triple) → is_eq (order text x y) ≡ same_triple x y
tests x y =
    alike (is_eq (order text x y)) (same_triple x y)
    (λ e. ap (same_triple x) (sym (same_by_text x y e)) ∙ itself x)
    (λ e. ap (λ z. is_eq (order text x z)) (sym (same_request x y e)) ∙ order_itself x)

any_tests : (x : Triple) (ys : List Triple) → among text x ys ≡ list_any (same_triple x) ys
any_tests x [] = refl
any_tests x (y ∷ ys) = λ i. tests x y i || any_tests x ys i

-- the requests of a state in byte order of their texts, each once
abbrev pub requests : State → List Triple
requests s = in_order text (triples s.names)

among_listed : (s : State) (x : Triple) → among text x (requests s) ≡ is_listed s.names x
among_listed s x = among_ordered text exact x (triples s.names) ∙ any_tests x (triples s.names) ∙ any_listed x s.names

pub are_listed : (s : State) (x : Triple) → Contains (requests s) x ↔ (is_listed s.names x ≡ true)
are_listed s x = (
  λ h. sym (among_listed s x) ∙ list_any-from_Contains (eq_by_cmp_equiv (total text)) x (requests s) h,
  λ e. Contains-from_any same_by_text x (requests s) (among_listed s x ∙ e),
)

-- ---- cells

-- the cell of a request that is listed
abbrev pub cell : State → Triple → Data
cell s x = cell_data (x, answer_to s x)

listed_cell : (s : State) (x : Triple) (b : Bool)
    → (if b then Some (cell s x) else None) ≡ option_map (λ (a : Answer). cell_data (x, a))
    (if b then Some (answer_to s x) else None)
listed_cell s x true = refl
listed_cell s x false = refl

-- the table of a state, by the texts of its requests
abbrev pub rows : State → Members
rows s = members text (cell s) (requests s)

pub at_text : (s : State) (x : Triple) → get_member (text x) (rows s) ≡ cell_at s x
at_text s x =
    at_request text exact (cell s) x (requests s)
    ∙ ap (λ (b : Bool). if b then Some (cell s x) else None) (among_listed s x)
    ∙ listed_cell s x (is_listed s.names x)

or_true : (a b : Bool) → b ≡ true → (a || b) ≡ true
or_true true b e = refl
or_true false b e = e

each_among : (xs more : List Triple) → ((x : Triple) → among text x xs ≡ true → among text x more ≡ true)
    → AllByRecursion (λ x. among text x more ≡ true) xs
each_among [] more h = tt
each_among (x ∷ xs) more h = (
  h x (ap (λ b. b || among text x xs) (order_itself x)),
  each_among xs more
      (λ z e. h z (or_true (is_eq (order text z x)) (among text z xs) e)),
)

pub each_cell : (s : State) → AllByRecursion (λ x. cell_at s x ≡ Some (cell s x)) (requests s)
each_cell s = by (requests s) (each_among (requests s) (requests s) (λ x e. e))
  where
    there : (x : Triple) → among text x (requests s) ≡ true → cell_at s x ≡ Some (cell s x)
    there x e = sym (listed_cell s x (is_listed s.names x))
        ∙ ap (λ (b : Bool). if b then Some (cell s x) else None) (sym (among_listed s x) ∙ e)

    by : (xs : List Triple) → AllByRecursion (λ x. among text x (requests s) ≡ true) xs
        → AllByRecursion (λ x. cell_at s x ≡ Some (cell s x)) xs
    by [] h = tt
    by (x ∷ xs) h = (there x h.0, by xs h.1)

-- ---- what is read

-- a listed name is UTF-8
named_utf8 : (name : List ℕ) (names : List (List ℕ)) → AllByRecursion IsUtf8 names → has_name name names ≡ true
    → IsUtf8 name
named_utf8 name [] h e = absurd (false≢true e)
named_utf8 name (x ∷ names) h e = by (named_utf8 name names h.1) (pointwise nat_eq name x) refl e
  where
    by : (has_name name names ≡ true → IsUtf8 name) → (b : Bool) → pointwise nat_eq name x ≡ b
        → (b || has_name name names) ≡ true → IsUtf8 name
    by later true is f = subst IsUtf8 (sym ((bytes_decides name x).0 is)) h.0
    by later false is f = later f

both_true : (a b : Bool) → (a && b) ≡ true → (a ≡ true) × (b ≡ true)
both_true true b h = (refl, h)
both_true false b h = absurd (false≢true h)

listed_utf8 : (s : State) → IsGoodState s → (x : Triple) → is_listed s.names x ≡ true → AreUtf8Names x
listed_utf8 s h x e =
    let person = both_true (has_name x.person s.names.people)
    (has_name x.action s.names.actions && has_name x.resource s.names.resources) e in
    let action = both_true (has_name x.action s.names.actions) (has_name x.resource s.names.resources) person.1 in
    record {
      person = named_utf8 x.person s.names.people h.people person.0;
      action = named_utf8 x.action s.names.actions h.actions action.0;
      resource = named_utf8 x.resource s.names.resources h.resources action.1;
    }

-- the answer to a listed request reads back
pub answers_good : (s : State) → IsGoodState s → (x : Triple) → is_listed s.names x ≡ true
    → IsGoodAnswer (answer_to s x)
answers_good s h x e =
    let names = listed_utf8 s h x e in
    answer_good (looks_in s.held) (asked x.person x.action x.resource) h.looks
    (listed_good x.person x.action x.resource names.person names.action names.resource)

-- each request of the table is listed
all_listed : (s : State) → AllByRecursion (λ x. is_listed s.names x ≡ true) (triples s.names)
all_listed s = by (triples s.names) (each_among (triples s.names) (triples s.names) (λ x e. e))
  where
    by : (xs : List Triple) → AllByRecursion (λ x. among text x (triples s.names) ≡ true) xs
        → AllByRecursion (λ x. is_listed s.names x ≡ true) xs
    by [] h = tt
    by (x ∷ xs) h = (sym (any_tests x (triples s.names) ∙ any_listed x s.names) ∙ h.0, by xs h.1)

zipped : (f : Triple → Answer) (xs : List Triple)
    → map cell_data (zip xs (map f xs)) ≡ map (λ x. cell_data (x, f x)) xs
zipped f [] = refl
zipped f (x ∷ xs) = ap (λ l. cell_data (x, f x) ∷ l) (zipped f xs)

cells_fit : (s : State) → IsGoodState s → (xs : List Triple) → AllByRecursion (λ x. is_listed s.names x ≡ true) xs
    → AllByRecursion (Fits 6) (map (cell s) xs)
cells_fit s h [] e = tt
cells_fit s h (x ∷ xs) e = (cell_fits x (answer_to s x) (answers_good s h x e.0), cells_fit s h xs e.1)

cells_utf8 : (s : State) → IsGoodState s → (xs : List Triple) → AllByRecursion (λ x. is_listed s.names x ≡ true) xs
    → AllByRecursion IsUtf8Data (map (cell s) xs)
cells_utf8 s h [] e = tt
cells_utf8 s h (x ∷ xs) e =
    (cell_utf8 x (answer_to s x) (listed_utf8 s h x e.0) (answers_good s h x e.0), cells_utf8 s h xs e.1)

listed_items : (ds : List Data) → listed (items_of ds) ≡ ds
listed_items [] = refl
listed_items (d ∷ ds) = ap (λ l. d ∷ l) (listed_items ds)

abbrev table_data : State → Data
table_data s = reply_data (codes "table") (json.array (items_of (map (cell s) (triples s.names))))

written : (s : State) → compact_text (table_reply (table_of s)) ≡ compact_text (table_data s)
unfolding table_reply
written s = ap (λ ds. compact_text (reply_data (codes "table") (json.array (items_of ds))))
    (zipped (answer_to s) (triples s.names))

-- the reply to `table` is read as what was written
read_back : (s : State) → IsGoodState s → data_of (compact_text (table_reply (table_of s))) ≡ Some (table_data s)
read_back s h =
    let fits = one_fits 6 (codes "table") _
    (list_fits 5 (map (cell s) (triples s.names)) (cells_fit s h (triples s.names) (all_listed s))) in
    let utf8 = only_utf8 (codes "table") (json.array (items_of (map (cell s) (triples s.names)))) refl
    (list_written (map (cell s) (triples s.names)) (cells_utf8 s h (triples s.names) (all_listed s))) in
    let low = fits.shallow in
    ap data_of (written s)
    ∙ texts_read_back (table_data s) fits.plain (omega arith)
    (is_utf8-from_IsUtf8 (compact_text (table_data s)) (compact_utf8 (table_data s) utf8))

-- and its table is the state's
pub table_read : (s : State) → IsGoodState s
    → option_and_then table_in (data_of (compact_text (table_reply (table_of s)))) ≡ Some (rows s)
table_read s h =
    ap (option_and_then table_in) (read_back s h)
    ∙ ap (by_request json.no_members) (listed_items (map (cell s) (triples s.names)))
    ∙ by_requests text exact (cell s) (λ x. request_told x (answer_to s x)) (triples s.names)
