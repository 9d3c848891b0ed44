-- Replies that are compared with those that are expected, one after the other.
use Rattle.std.proofs.Common.{◌≡◌, ◌<◌, ◌+◌, ◌++◌, ◌&&◌, ℕ, List, [], ◌∷◌, length, drop, take, map, get_or, Bool, true, false, Option, refl, sym, ap, ◌∙◌, subst, append_assoc, append-nil, codes}
use Rattle.std.specs.List.{after_first, before_first, flat_map}
use Rattle.std.specs.Io.KnownBytes.{Appends}
use Rattle.std.proofs.KnownBytes.{Appends-trans}
use Rattle.std.proofs.lemmas.List.{drop_more, map_push, take_more}
use Rattle.std.proofs.lemmas.List.Concat.{flat_map-append}
use Rattle.script_files.specs.declared.session.Expected.{Expected}
use Rattle.script_files.specs.declared.session.SentLine.{SentLine}
use Rattle.cli_replies.specs.Comparing.{behind, differences, each, is_newline, places_told, told_at, told_of_one, asked}
use Rattle.ent_wire.specs.Lines.{ended}

-- a front of what is told of the replies was written, and what is left is told of these steps and replies
abbrev pub IsTold : Option (List ℕ) → Option (List ℕ) → List ℕ → List SentLine → List ℕ → List SentLine → List ℕ → Type 0
IsTold before now name steps replies others rest =
    (told : List ℕ) × Appends before now told × (told ++ differences name others rest ≡ differences name steps replies)

both_both : (a b c : Bool) → ((a && b) && c) ≡ (a && (b && c))
both_both true b c = refl
both_both false b c = refl

-- one more step of those that are left, with the first reply of those that are left and those behind it
module _ (all : List SentLine) (replies : List ℕ) (i : ℕ) (step : SentLine) (rest reply others : List ℕ)
    (lt : i < length all) (is : step ≡ get_or all i step) (first : reply ≡ before_first is_newline rest) (more : others ≡ after_first is_newline rest) where
  here : drop i all ≡ step ∷ drop (i + 1) all
  here = drop_more all i step lt ∙ ap (λ s. s ∷ drop (i + 1) all) (sym is)

  pub told_more : (name : List ℕ) (before now next : Option (List ℕ)) → IsTold before now name all replies (drop i all) rest
      → Appends now next (told_of_one name step reply) → IsTold before next name all replies (drop (i + 1) all) others
  told_more name before now next told writes =
      let left =
      ap (λ steps. differences name steps rest) here
      ∙ ap (λ r. told_of_one name step r ++ differences name (drop (i + 1) all) (after_first is_newline rest)) (sym first)
      ∙ ap (λ r. told_of_one name step reply ++ differences name (drop (i + 1) all) r) (sym more) in (
        told.0 ++ told_of_one name step reply,
        Appends-trans before now next told.0 (told_of_one name step reply) told.1 writes,
        append_assoc told.0 (told_of_one name step reply) (differences name (drop (i + 1) all) others) ∙ ap (λ bytes. told.0 ++ bytes) (sym left) ∙ told.2,
      )

  each_left : (p : Option Expected → List ℕ → Bool) → each p (drop i all) rest ≡ (p step.expected reply && each p (drop (i + 1) all) others)
  each_left p =
      ap (λ steps. each p steps rest) here
      ∙ ap (λ r. p step.expected r && each p (drop (i + 1) all) (after_first is_newline rest)) (sym first)
      ∙ ap (λ r. p step.expected reply && each p (drop (i + 1) all) r) (sym more)

  pub each_more : (p : Option Expected → List ℕ → Bool) (so met : Bool) → met ≡ p step.expected reply → (so && each p (drop i all) rest) ≡ each p all replies
      → ((so && met) && each p (drop (i + 1) all) others) ≡ each p all replies
  each_more p so met judged is_so =
      both_both so met (each p (drop (i + 1) all) others) ∙ ap (λ b. so && (b && each p (drop (i + 1) all) others)) judged
      ∙ ap (λ b. so && b) (sym (each_left p)) ∙ is_so

  pub each_so : (p : Option Expected → List ℕ → Bool) → p step.expected reply ≡ true → each p (drop i all) rest ≡ each p all replies
      → each p (drop (i + 1) all) others ≡ each p all replies
  each_so p so same = ap (λ b. b && each p (drop (i + 1) all) others) (sym so) ∙ sym (each_left p) ∙ same

  pub behind_more : behind (drop i all) rest ≡ behind all replies → behind (drop (i + 1) all) others ≡ behind all replies
  behind_more same = ap (behind (drop (i + 1) all)) more ∙ sym (ap (λ steps. behind steps rest) here) ∙ same

-- one more place is told
pub places_more : {X : Type 0} (all : List X) (f : X → List ℕ) (name : List ℕ) (number i : ℕ) (x : X) (before now next : Option (List ℕ))
    → i < length all → x ≡ get_or all i x → Appends before now (places_told name number (map f (take i all)))
    → Appends now next (told_at name number (codes ": differs at ") (f x)) → Appends before next (places_told name number (map f (take (i + 1) all)))
places_more all f name number i x before now next lt is told more =
    let line : List ℕ → List ℕ = λ place. told_at name number (codes ": differs at ") place in
    subst (λ bytes. Appends before next bytes)
    (ap (λ bytes. flat_map line (map f (take i all)) ++ bytes) (sym (append-nil (line (f x))))
    ∙ sym (flat_map-append line (map f (take i all)) (f x ∷ []))
    ∙ ap (flat_map line) (sym (map_push f (take i all) x) ∙ ap (map f) (ap (λ y. take i all ++ y ∷ []) is ∙ sym (take_more all i x lt))))
    (Appends-trans before now next (flat_map line (map f (take i all))) (line (f x)) told more)

-- the lines of two lists of steps
pub asked_both : (first second : List SentLine) → asked first ++ asked second ≡ asked (first ++ second)
asked_both first second = sym (flat_map-append (λ step. ended step.line) first second)
