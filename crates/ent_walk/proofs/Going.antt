-- A loop over parts that stops at the first whose value says so.
use Rattle.std.proofs.Common.{◌≡◌, ℕ, ◌+◌, ◌<◌, Bool, true, false, List, [], ◌∷◌, ◌++◌, length, take, drop, map, get_or, refl, sym, ap, ◌∙◌, add-one, append_assoc}
use Rattle.std.specs.List.{list_any}
use Rattle.std.proofs.lemmas.List.Folds.{list_any-append}
use Rattle.std.proofs.Math.Seq.{take-suc}
use Rattle.std.proofs.lemmas.List.{append-nil, map-append}
use Rattle.ent_combine.specs.Seen.{up_to_first}
use Rattle.ent_request.specs.Note.{Note}
use Rattle.ent_trace.specs.proofs_only.Noted.{Notes, noting, with_note}
use Rattle.ent_request.specs.Part.{Part, notes_of, values, seen_parts}
use Rattle.ent_request.proofs.Lists.{at_item}

pub noting-append : (keys : Notes) (first more : List Note) → noting keys (first ++ more) ≡ noting (noting keys first) more
noting-append keys [] more = refl
noting-append keys (k ∷ first) more = noting-append (with_note keys k) first more

-- notes of two parts, one after the other
pub noting_both : (keys : Notes) (first more : List Note) → noting (noting keys first) more ≡ noting keys (first ++ more)
noting_both keys first more = sym (noting-append keys first more)

values-append : {A : Type 0} (ps qs : List (Part A)) → values (ps ++ qs) ≡ values ps ++ values qs
values-append [] qs = refl
values-append (p ∷ ps) qs = ap (λ vs. p.value ∷ vs) (values-append ps qs)

-- what the first i parts come to
abbrev pub values_to : {X A : Type 0} → (X → Part A) → List X → ℕ → List A
values_to part xs i = values (map part (take i xs))

pub values_to-next : {X A : Type 0} (part : X → Part A) (xs : List X) (i : ℕ) (x : X) → i < length xs → x ≡ get_or xs i x → values_to part xs (i + 1) ≡ values_to part xs i ++ (part x).value ∷ []
values_to-next part xs i x h is =
    let taken : take (i + 1) xs ≡ take i xs ++ x ∷ [] = rw add-one (take-suc xs i x h ∙ ap (λ y. take i xs ++ y ∷ []) (sym is)) in
    ap (λ ys. values (map part ys)) taken ∙ ap values (map-append part (take i xs) (x ∷ [])) ∙ values-append (map part (take i xs)) (part x ∷ [])

-- none of the first i parts stops, and those left are looked at as they would be from the start
pub record IsGoing {X A : Type 0} (stop : A → Bool) (part : X → Part A) (xs : List X) (i : ℕ) (start now : Notes) : Type 0 where
  pub passed : list_any stop (values_to part xs i) ≡ false
  pub seen : up_to_first stop (values (map part xs)) ≡ values_to part xs i ++ up_to_first stop (values (map part (drop i xs)))
  pub all : values (map part xs) ≡ values_to part xs i ++ values (map part (drop i xs))
  pub notes : noting now (notes_of (seen_parts stop (map part (drop i xs)))) ≡ noting start (notes_of (seen_parts stop (map part xs)))

seen_on : {A : Type 0} (stop : A → Bool) (p : Part A) (ps : List (Part A)) → stop p.value ≡ false → seen_parts stop (p ∷ ps) ≡ p ∷ seen_parts stop ps
seen_on stop p ps not = rw not refl

seen_off : {A : Type 0} (stop : A → Bool) (p : Part A) (ps : List (Part A)) → stop p.value ≡ true → seen_parts stop (p ∷ ps) ≡ p ∷ []
seen_off stop p ps is = rw is refl

first_on : {A : Type 0} (stop : A → Bool) (v : A) (vs : List A) → stop v ≡ false → up_to_first stop (v ∷ vs) ≡ v ∷ up_to_first stop vs
first_on stop v vs not = rw not refl

first_off : {A : Type 0} (stop : A → Bool) (v : A) (vs : List A) → stop v ≡ true → up_to_first stop (v ∷ vs) ≡ v ∷ []
first_off stop v vs is = rw is refl

pub goes_on : {X A : Type 0} (stop : A → Bool) (part : X → Part A) (xs : List X) (i : ℕ) (x : X) (start now next : Notes)
    → i < length xs → x ≡ get_or xs i x → IsGoing stop part xs i start now → stop (part x).value ≡ false → next ≡ noting now (part x).notes
    → IsGoing stop part xs (i + 1) start next
goes_on stop part xs i x start now next h at so_far not is =
    let here : drop i xs ≡ x ∷ drop (i + 1) xs = at_item xs i x h at in
    let left = map part (drop (i + 1) xs) in
    let to = values_to-next part xs i x h at in
    record {
      passed = rw (to, list_any-append stop (values_to part xs i) ((part x).value ∷ []), so_far.passed, not) refl;
      seen = so_far.seen ∙ ap (λ ys. values_to part xs i ++ up_to_first stop (values (map part ys))) here ∙ ap (λ vs. values_to part xs i ++ vs) (first_on stop (part x).value (values left) not)
          ∙ sym (append_assoc (values_to part xs i) ((part x).value ∷ []) (up_to_first stop (values left))) ∙ ap (λ vs. vs ++ up_to_first stop (values left)) (sym to);
      all = so_far.all ∙ ap (λ ys. values_to part xs i ++ values (map part ys)) here ∙ sym (append_assoc (values_to part xs i) ((part x).value ∷ []) (values left)) ∙ ap (λ vs. vs ++ values left) (sym to);
      notes = rw is (sym (noting-append now (part x).notes (notes_of (seen_parts stop left)))) ∙ ap (λ ps. noting now (notes_of ps)) (sym (seen_on stop (part x) left not)) ∙ ap (λ ys. noting now (notes_of (seen_parts stop (map part ys)))) (sym here) ∙ so_far.notes;
    }

-- what a loop has that stops at a part
pub record Stops {X A : Type 0} (stop : A → Bool) (part : X → Part A) (xs : List X) (done : List A) (start now : Notes) : Type 0 where
  pub seen : up_to_first stop (values (map part xs)) ≡ done
  pub notes : now ≡ noting start (notes_of (seen_parts stop (map part xs)))

pub stops_at : {X A : Type 0} (stop : A → Bool) (part : X → Part A) (xs : List X) (i : ℕ) (x : X) (start now next : Notes)
    → i < length xs → x ≡ get_or xs i x → IsGoing stop part xs i start now → stop (part x).value ≡ true → next ≡ noting now (part x).notes
    → Stops stop part xs (values_to part xs i ++ (part x).value ∷ []) start next
stops_at stop part xs i x start now next h at so_far fixed is =
    let here : drop i xs ≡ x ∷ drop (i + 1) xs = at_item xs i x h at in
    let left = map part (drop (i + 1) xs) in
    record {
      seen = so_far.seen ∙ ap (λ ys. values_to part xs i ++ up_to_first stop (values (map part ys))) here ∙ ap (λ vs. values_to part xs i ++ vs) (first_off stop (part x).value (values left) fixed);
      notes = is ∙ ap (λ ks. noting now ks) (sym (append-nil (part x).notes)) ∙ ap (λ ps. noting now (notes_of ps)) (sym (seen_off stop (part x) left fixed)) ∙ ap (λ ys. noting now (notes_of (seen_parts stop (map part ys)))) (sym here) ∙ so_far.notes;
    }
