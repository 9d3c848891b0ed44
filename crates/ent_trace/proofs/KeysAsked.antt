-- The keys that are looked up for questions are those of each of them once.
use Rattle.std.proofs.Common.{◌≡◌, ℕ, ◌+◌, ◌<◌, ◌≤◌, Bool, true, false, List, [], ◌∷◌, ◌++◌, length, drop, get_or, refl, sym, ap, subst, ◌∙◌}
use Rattle.std.proofs.Math.ListN.{drop_of_length-le}
use Rattle.std.specs.Prelude.{◌||◌, if◌then◌else◌}
use Rattle.std.specs.List.{AllByRecursion, flat_map}
use Rattle.std.proofs.lemmas.List.{append-nil, get_or_default}
use Rattle.std.proofs.lemmas.Option.{slice_get-get_or}
use Rattle.std.proofs.lemmas.List.Concat.{flat_map-append}
use Rattle.ent_request.specs.declared.key.ReadKey.{ReadKey}
use Rattle.ent_request.specs.declared.question.Question.{Question}
use Rattle.ent_request.specs.declared.request.Request.{Request}
use Rattle.ent_request.specs.Noted.{noted, with_key}
use Rattle.ent_request.specs.Sources.{keys_of}
use Rattle.ent_request.specs.declared.question.Question.TheVariants.{Root}
use Rattle.ent_request.specs.proofs_only.Numbering.{at_numbers}
use Rattle.ent_trace.specs.proofs_only.Noted.{asked_once, is_asked, same_question, with_question}
use Rattle.ent_trace.proofs.Noting.{kept_now, kept_same}
use Rattle.ent_request.proofs.Numbering.{all_at}
use Rattle.ent_request.proofs.Lists.{first_looks, later_looks}
use Rattle.ent_request.proofs.Sames.{question-Decides}
use Rattle.ent_request.proofs.Lists.{at_item}

pub noted-append : (keys first more : List ReadKey) → noted keys (first ++ more) ≡ noted (noted keys first) more
noted-append keys [] more = refl
noted-append keys (k ∷ first) more = noted-append (with_key keys k) first more

module _ (request : Request) where
  -- the keys of several questions
  abbrev pub keys_of_all : List Question → List ReadKey
  keys_of_all questions = flat_map (keys_of request) questions

  -- what holds of the keys of all holds of those of one among them
  among : (P : ReadKey → Type 0) (questions : List Question) (question : Question) → is_asked questions question ≡ true → AllByRecursion P (keys_of_all questions) → AllByRecursion P (keys_of request question)
  among P [] question is h = absurd (cc)
  among P (q ∷ questions) question is h =
      at (same_question question q) refl is (first_looks P (keys_of request q) (keys_of_all questions) h) (λ later. among P questions question later (later_looks P (keys_of request q) (keys_of_all questions) h)) where
        at : (b : Bool) → same_question question q ≡ b → (b || is_asked questions question) ≡ true → AllByRecursion P (keys_of request q) → (is_asked questions question ≡ true → AllByRecursion P (keys_of request question))
            → AllByRecursion P (keys_of request question)
        at true same is first later = subst (λ x. AllByRecursion P (keys_of request x)) (sym ((question-Decides question q).0 same)) first
        at false same is first later = later is

  step_at : (questions : List Question) (question : Question) (b : Bool) → is_asked questions question ≡ b
      → noted [] (keys_of_all (if b then questions else questions ++ question ∷ [])) ≡ noted (noted [] (keys_of_all questions)) (keys_of request question)
  step_at questions question true is =
      sym (kept_same (noted [] (keys_of_all questions)) (keys_of request question)
      (among (λ key. with_key (noted [] (keys_of_all questions)) key ≡ noted [] (keys_of_all questions)) questions question is (kept_now [] (keys_of_all questions))))
  step_at questions question false is =
      ap (noted []) (flat_map-append (keys_of request) questions (question ∷ []) ∙ ap (λ ks. keys_of_all questions ++ ks) (append-nil (keys_of request question)))
      ∙ noted-append [] (keys_of_all questions) (keys_of request question)

  pub asked_keys : (questions more : List Question) → noted [] (keys_of_all (asked_once questions more)) ≡ noted (noted [] (keys_of_all questions)) (keys_of_all more)
  asked_keys questions [] = refl
  asked_keys questions (q ∷ more) =
      asked_keys (with_question questions q) more ∙ ap (λ ks. noted ks (keys_of_all more)) (step_at questions q (is_asked questions q) refl)
      ∙ sym (noted-append (noted [] (keys_of_all questions)) (keys_of request q) (keys_of_all more))

  -- ---- the loop over numbers: what is left is noted as it would be from the start
  module _ (questions : List Question) (numbers : List ℕ) where
    abbrev pub keys_at : List ℕ → List ReadKey
    keys_at ns = keys_of_all (at_numbers questions ns)

    abbrev pub AreGoing : ℕ → List ReadKey → Type 0
    AreGoing i keys = noted keys (keys_at (drop i numbers)) ≡ noted [] (keys_at numbers)

    pub keys_start : (keys : List ReadKey) → keys ≡ [] → AreGoing 0 keys
    keys_start keys is = ap (λ ks. noted ks (keys_at numbers)) is

    keys_on : (i n : ℕ) (question : Question) (keys next : List ReadKey) → i < length numbers → n ≡ get_or numbers i n → question ≡ get_or questions n Root
        → next ≡ noted keys (keys_of request question) → AreGoing i keys → AreGoing (i + 1) next
    keys_on i n question keys next below at same is going =
        let left = keys_at (drop (i + 1) numbers) in
        ap (λ ks. noted ks left) (is ∙ ap (λ q. noted keys (keys_of request q)) same) ∙ sym (noted-append keys (keys_of request (get_or questions n Root)) left)
        ∙ ap (λ ns. noted keys (keys_at ns)) (sym (at_item numbers i n below at)) ∙ going

    pub keys_next : AllByRecursion (λ m. m < length questions) numbers → (i : ℕ) (question : Question) (keys next : List ReadKey) → i < length numbers
        → question ≡ get_or questions (get_or numbers i 0) question → next ≡ noted keys (keys_of request question) → AreGoing i keys → AreGoing (i + 1) next
    keys_next within i question keys next below read is going =
        let n : ℕ = get_or numbers i 0 in
        let here : n < length questions = all_at (λ m. m < length questions) numbers i n within (slice_get-get_or numbers i 0 below) in
        keys_on i n question keys next below (get_or_default numbers i 0 n below) (read ∙ get_or_default questions n question Root here) is going

    pub keys_all : (i : ℕ) (keys : List ReadKey) → length numbers ≤ i → AreGoing i keys → keys ≡ noted [] (keys_at numbers)
    keys_all i keys past going = ap (λ ns. noted keys (keys_at ns)) (sym (drop_of_length-le numbers past)) ∙ going
