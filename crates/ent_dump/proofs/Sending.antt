-- Fronts of what is written, and what was read piece by piece.
use Rattle.std.proofs.Common.{◌≡◌, ℕ, zero, suc, ◌+◌, ◌-◌, ◌<◌, List, [], ◌∷◌, ◌++◌, length, take, drop, get_or, Option, Err, Result, Ok, sym, ap, subst, ◌∙◌, arith, append-nil, append_assoc, take-append-drop, drop-cons, map, refl, Some}
use Rattle.std.specs.Prelude.{⊤}
use Rattle.std.specs.List.{flat_map}
use Rattle.std.proofs.lemmas.List.Concat.{flat_map-append}
use Rattle.std.specs.Io.KnownBytes.{Appends}
use Rattle.std.proofs.KnownBytes.{Appends-trans}
use Rattle.ent_dump.specs.Lines.{Sends, WritesTold, ended}
use Rattle.ent_dump.specs.declared.fault.LinesFault.{LinesFault}

-- all of one part was written after the bytes before it
pub sent_on : {A : Type 0} (f : A → List ℕ) (before mid after : Option (List ℕ)) (xs : List A) (i : ℕ) (d : A) → i < length xs
    → Appends before mid (flat_map f (take i xs)) → Appends mid after (f (get_or xs i d)) → Appends before after (flat_map f (take (suc i) xs))
sent_on f before mid after xs i d lt p q =
    let more : flat_map f (take (suc i) xs) ≡ flat_map f (take i xs) ++ f (get_or xs i d) = one_more f xs i d lt in
    subst (Appends before after) (sym more) (Appends-trans before mid after (flat_map f (take i xs)) (f (get_or xs i d)) p q)
  where
    one_more : {A : Type 0} (f : A → List ℕ) (xs : List A) (i : ℕ) (d : A) → i < length xs
        → flat_map f (take (suc i) xs) ≡ flat_map f (take i xs) ++ f (get_or xs i d)
    one_more f [] i d lt = absurd (omega (arith, lt))
    one_more f (x ∷ xs) zero d lt = append-nil (f x)
    one_more f (x ∷ xs) (suc i) d lt =
        ap (λ t. f x ++ t) (one_more f xs i d (omega arith)) ∙ sym (append_assoc (f x) (flat_map f (take i xs)) (f (get_or xs i d)))

-- a front of one part, after the parts before it
front_sent_at : {A : Type 0} (f : A → List ℕ) (before mid after : Option (List ℕ)) (xs : List A) (i : ℕ) (d : A) (e : LinesFault) → i < length xs
    → Appends before mid (flat_map f (take i xs)) → Sends mid after (f (get_or xs i d)) (Err e) → Sends before after (flat_map f xs) (Err e)
front_sent_at f before mid after xs i d e lt p q =
    let done = flat_map f (take i xs) in
    let later = flat_map f (drop (suc i) xs) in
    let split : flat_map f xs ≡ done ++ (f (get_or xs i d) ++ later) =
    ap (flat_map f) (sym (take-append-drop i xs)) ∙ flat_map-append f (take i xs) (drop i xs) ∙ ap (λ ps. done ++ flat_map f ps) (drop-cons xs i d lt) in
    let front = q.1 in
    let rest = q.2 in (
      q.0,
      done ++ front,
      rest ++ later,
      split ∙ ap (λ t. done ++ (t ++ later)) q.3 ∙ ap (λ t. done ++ t) (append_assoc front rest later) ∙ sym (append_assoc done front (rest ++ later)),
      Appends-trans before mid after done front p q.4,
    )

pub front_sent : {A : Type 0} (f : A → List ℕ) (before mid after : Option (List ℕ)) (xs : List A) (i : ℕ) (x : A) (e : LinesFault) → i < length xs
    → x ≡ get_or xs i x
    → Appends before mid (flat_map f (take i xs)) → Sends mid after (f x) (Err e) → Sends before after (flat_map f xs) (Err e)
front_sent f before mid after xs i x e lt here p q = front_sent_at f before mid after xs i x e lt p (subst (λ y. Sends mid after (f y) (Err e)) here q)

-- two parts, of which the second may be written in part
pub both_sent : (before mid after : Option (List ℕ)) (a b : List ℕ) (r : Result ⊤ LinesFault) → Appends before mid a → Sends mid after b r
    → Sends before after (a ++ b) r
both_sent before mid after a b (Ok done) p q = Appends-trans before mid after a b p q
both_sent before mid after a b (Err e) p q =
    (q.0, a ++ q.1, q.2, ap (λ t. a ++ t) q.3 ∙ sym (append_assoc a q.1 q.2), Appends-trans before mid after a q.1 p q.4)

-- a front of the first of two parts
pub first_sent : (before after : Option (List ℕ)) (a b : List ℕ) (e : LinesFault) → Sends before after a (Err e) → Sends before after (a ++ b) (Err e)
first_sent before after a b e q = (q.0, q.1, q.2 ++ b, ap (λ t. t ++ b) q.3 ∙ append_assoc q.1 q.2 b, q.4)

-- what is told is written, line by line
pub told_sent : {A : Type 0} (f : A → List ℕ) (xs : List A) (o : Option (List (List ℕ))) (before after : Option (List ℕ)) (r : Result ⊤ LinesFault)
    → Some (map f xs) ≡ o
    → Sends before after (flat_map (λ x. ended (f x)) xs) r → WritesTold o before after r
told_sent f xs o before after r told sent =
    subst (λ q. WritesTold q before after r) told (subst (λ bytes. Sends before after bytes r) (sym (each f xs)) sent)
  where
    each : {A : Type 0} (f : A → List ℕ) (xs : List A) → flat_map ended (map f xs) ≡ flat_map (λ x. ended (f x)) xs
    each f [] = refl
    each f (x ∷ xs) = ap (λ bytes. ended (f x) ++ bytes) (each f xs)
