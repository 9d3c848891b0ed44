-- The lines that are read of a reply.
use Rattle.std.proofs.Common.{◌≡◌, ◌==◌, ◌∙◌, ◌+◌, ◌<◌, ℕ, suc, List, [], ◌∷◌, Bool, true, false, Option, Some, None, ap, arith, drop, drop-cons, get_or, length, map, not, refl, is_some, option_map, sym}
use Rattle.std.specs.Prelude.{codes, if◌then◌else◌, option_and_then}
use Rattle.std.specs.List.{list_any}
use Rattle.serde_json.specs.Data as json
use Rattle.serde_json.specs.Data.{Data, Items}
use Rattle.serde_json.specs.Find.{as_array, as_str, get}
use Rattle.serde_json.specs.View.{items_of}
use Rattle.ent_json.specs.Objects.{has_only}
use Rattle.ent_dump.specs.Reply.{line_in, line_of, lines_in, text_of, told_lines}

-- a line that is read is the text that was there
line_is : (d : Data) (s : List ℕ) → line_in d ≡ Some s → text_of d ≡ s
line_is d s e = by (as_str d) refl e
  where
    some_is : (t : List ℕ) → (b : Bool) → list_any (λ x. x == 10) t ≡ b → line_of t ≡ Some s → t ≡ s
    some_is t true h is = cc
    some_is t false h is = cc

    by : (o : Option (List ℕ)) → as_str d ≡ o → option_and_then line_of o ≡ Some s → text_of d ≡ s
    by None h is = cc
    by (Some t) h is = let same : t ≡ s = some_is t (list_any (λ x. x == 10) t) refl is in cc

-- one more line in front of others
more : (o : Option (List ℕ)) (os : Option (List (List ℕ))) (t : List ℕ) (ts : List (List ℕ)) → ((s : List ℕ) → o ≡ Some s → t ≡ s)
    → (true ≡ is_some os → os ≡ Some ts)
    → true ≡ is_some (option_and_then (λ s. option_map (λ ss. s ∷ ss) os) o) → option_and_then (λ s. option_map (λ ss. s ∷ ss) os) o ≡ Some (t ∷ ts)
more None os t ts here rest h = absurd cc
more (Some s) None t ts here rest h = absurd cc
more (Some s) (Some ss) t ts here rest h =
    let first : t ≡ s = here s refl in
    let others : Some ss ≡ Some ts = rest refl in
    ap (λ q. option_map (λ qs. q ∷ qs) (Some ss)) (sym first) ∙ ap (option_map (λ qs. t ∷ qs)) others

-- so are all of them
pub texts_are : {J : Type 0} (content : J → Data) (js : List J) → true ≡ is_some (lines_in (items_of (map content js)))
    → lines_in (items_of (map content js)) ≡ Some (map (λ j. text_of (content j)) js)
texts_are content [] h = refl
texts_are content (j ∷ js) h =
    more (line_in (content j)) (lines_in (items_of (map content js))) (text_of (content j)) (map (λ k. text_of (content k)) js) (line_is (content j))
    (texts_are content js) h

-- no lines are read where one value is none
pub none_read : (d : Data) (ds : Items) → line_in d ≡ None → lines_in (json.item d ds) ≡ None
none_read d ds e = ap (option_and_then (λ s. option_map (λ ss. s ∷ ss) (lines_in ds))) e

-- a text is a line where it has no newline
line_if : (t : List ℕ) (b : Bool) → list_any (λ x. x == 10) t ≡ b → is_some (line_of t) ≡ not b
line_if t true e = rw e refl
line_if t false e = rw e refl

pub is_line_if : (t : List ℕ) → is_some (line_of t) ≡ not (list_any (λ x. x == 10) t)
is_line_if t = line_if t (list_any (λ x. x == 10) t) refl

-- lines are read behind one that is
pub read_on : (d : Data) (ds : Items) → true ≡ is_some (line_in d) → is_some (lines_in (json.item d ds)) ≡ is_some (lines_in ds)
read_on d ds h = by (line_in d) (lines_in ds) h
  where
    by : (o : Option (List ℕ)) (os : Option (List (List ℕ))) → true ≡ is_some o → is_some (option_and_then (λ s. option_map (λ ss. s ∷ ss) os) o) ≡ is_some os
    by None os h = absurd cc
    by (Some s) None h = refl
    by (Some s) (Some ss) h = refl

-- ---- one after another

none_if : {A : Type 0} (o : Option A) → false ≡ is_some o → o ≡ None
none_if None h = refl
none_if (Some x) h = absurd cc

in_front : {J : Type 0} (js : List J) (i : ℕ) (j : J) → i < length js → j ≡ get_or js i j → j ∷ drop (suc i) js ≡ drop i js
in_front js i j lt here = sym (drop-cons js i j lt ∙ ap (λ k. k ∷ drop (suc i) js) (sym here))

-- one more value is a line
pub one_more : {J : Type 0} (content : J → Data) (js : List J) (i : ℕ) (j : J) (w : Bool) → i < length js → j ≡ get_or js i j
    → true ≡ is_some (line_in (content j))
    → is_some (lines_in (items_of (map content (drop i js)))) ≡ w → is_some (lines_in (items_of (map content (drop (i + 1) js)))) ≡ w
one_more content js i j w lt here line so_far =
    let next : i + 1 ≡ suc i = omega arith in
    ap (λ n. is_some (lines_in (items_of (map content (drop n js))))) next ∙ sym (read_on (content j) (items_of (map content (drop (suc i) js))) line)
    ∙ ap (λ ks. is_some (lines_in (items_of (map content ks)))) (in_front js i j lt here) ∙ so_far

-- one value is none
pub one_stops : {J : Type 0} (content : J → Data) (js : List J) (i : ℕ) (j : J) (w : Bool) → i < length js → j ≡ get_or js i j
    → false ≡ is_some (line_in (content j))
    → is_some (lines_in (items_of (map content (drop i js)))) ≡ w → false ≡ w
one_stops content js i j w lt here line so_far =
    sym (ap is_some (none_read (content j) (items_of (map content (drop (suc i) js))) (none_if (line_in (content j)) line)))
    ∙ ap (λ ks. is_some (lines_in (items_of (map content ks)))) (in_front js i j lt here) ∙ so_far

-- ---- the lines of an object

pub told_is : (d : Data) (ds : Items) (ts : List (List ℕ)) → has_only (codes "dump" ∷ []) d ≡ true → option_and_then as_array (get (codes "dump") d) ≡ Some ds
    → lines_in ds ≡ Some ts
    → Some ts ≡ told_lines d
told_is d ds ts only array lines =
    sym (ap (λ b. if b then option_and_then lines_in (option_and_then as_array (get (codes "dump") d)) else None) only ∙ ap (option_and_then lines_in) array
    ∙ lines)
