-- What is found for all of some questions.
use Rattle.std.proofs.Common.{◌≡◌, inl, inr, ℕ, ◌+◌, ◌<◌, ◌≤◌, List, [], ◌∷◌, ◌++◌, Some, None, length, take, slice_get, get_or, refl, sym, ap, subst, ◌∙◌}
use Rattle.std.specs.List.{AllByRecursion}
use Rattle.std.proofs.lemmas.List.{map-append, take_all, take_more}
use Rattle.std.proofs.lemmas.Option.{get_or_from_slice_get, slice_get-get_or, slice_get_within}
use Rattle.memo_bags.specs.declared.finding.Finding.{Finding}
use Rattle.memo_bags.specs.declared.findings.Findings.{Findings}
use Rattle.ent_request.specs.declared.question.Question.{Question}
use Rattle.ent_request.specs.declared.question.Question.TheVariants.{Root}
use Rattle.ent_request.specs.declared.readers.NamePlace.{NamePlace}
use Rattle.ent_request.specs.declared.request.Request.{Request}
use Rattle.memo_bags.specs.declared.scene.Scene.{Scene}
use Rattle.ent_walk.specs.Law.{FindsSame}
use Rattle.ent_request.specs.Listed.{listed}
use Rattle.ent_request.specs.Looks.{Looks}
use Rattle.memo_bags.specs.Found.{FindsBag, IsAbout, IsAttribute, bag_for, place_of}
use Rattle.memo_bags.specs.Findings.{IsFinding}
use Rattle.ent_request.specs.Questions.{AreNumbers, at_numbers}
use Rattle.memo_bags.specs.proofs_only.Ready.{AreReady, Begins, FindsAll, KeepsReady, NotesFinding, TellsAll, TellsAttributes, request_of}
use Rattle.ent_request.proofs.Lists.{all_append}
use Rattle.memo_bags.proofs.Growing.{all_first, all_later, some_same, starts_itself, starts_then}
use Rattle.memo_bags.proofs.ListedBags.{bags_alike, bags_same, none_alike, none_same}
use Rattle.ent_request.proofs.Numbering.{all_at}
use Rattle.memo_bags.proofs.Learning.{all_back, all_more, are_more}

-- the items before a place, and the one there
pub taken : {A : Type 0} (xs : List A) (i : ℕ) (x : A) → slice_get xs i ≡ Some x → take (i + 1) xs ≡ take i xs ++ x ∷ []
taken xs i x at = take_more xs i x (slice_get_within xs i x at) ∙ ap (λ y. take i xs ++ y ∷ []) (get_or_from_slice_get xs i x x at)

-- ---- findings that stay ready

pub keeps_itself : {L : Type 0} (looks : Looks) (scene : Scene L) (findings : Findings) → AreReady looks scene findings → KeepsReady looks scene findings findings
keeps_itself looks scene findings ready = record { ready = ready; begins = starts_itself findings.bags findings.bags refl }

pub keeps_then : {L : Type 0} (looks : Looks) (scene : Scene L) (old mid new : Findings) → KeepsReady looks scene old mid → KeepsReady looks scene mid new → KeepsReady looks scene old new
keeps_then looks scene old mid new first second = record { ready = second.ready; begins = starts_then old.bags mid.bags new.bags first.begins second.begins }

-- ---- the loop over questions

-- what was found for the questions before the next one tells what they find
pub record IsFound {L : Type 0} (looks : Looks) (scene : Scene L) (old new : Findings) (numbers : List ℕ) (i : ℕ) (found : List Finding) : Type 0 where
  pub keeps : KeepsReady looks scene old new
  pub are : AllByRecursion (IsFinding scene.questions.now new.bags) found
  pub finds : FindsAll looks scene.questions.now new.bags (request_of scene) found
  pub tells : TellsAll looks scene.questions.now new.bags (request_of scene) (take i numbers) found
  pub attributes : TellsAttributes looks scene.questions.now new.bags (request_of scene) (take i numbers) found

module _ {L : Type 0} (looks : Looks) (scene : Scene L) (old : Findings) (numbers : List ℕ) (within : AreNumbers scene.questions.now numbers) (i : ℕ) (n : ℕ) (there : slice_get numbers i ≡ Some n) where
  abbrev questions : List Question
  questions = scene.questions.now

  abbrev request : Request
  request = request_of scene

  abbrev this : Question
  this = get_or questions n Root

  is_there : slice_get questions n ≡ Some this
  is_there = slice_get-get_or questions n Root (all_at (λ m. m < length questions) numbers i n within there)

  one_more : (P : Question → Type 0) → AllByRecursion P (at_numbers questions (take i numbers)) → P this → AllByRecursion P (at_numbers questions (take (i + 1) numbers))
  one_more P before now =
      let same : at_numbers questions (take (i + 1) numbers) ≡ at_numbers questions (take i numbers) ++ this ∷ [] =
      ap (at_numbers questions) (taken numbers i n there) ∙ map-append (λ m. get_or questions m Root) (take i numbers) (n ∷ []) in
      subst (AllByRecursion P) (sym same) (all_append P (at_numbers questions (take i numbers)) (this ∷ []) before (now, tt))

  pub found_skip : (mid new : Findings) (found : List Finding) → ((x : Question) → slice_get questions n ≡ Some x → place_of x ≡ None) → KeepsReady looks scene mid new
      → IsFound looks scene old mid numbers i found → IsFound looks scene old new numbers (i + 1) found
  found_skip mid new found none keeps so_far =
      let begins = keeps.begins in
      let same : Begins questions questions = starts_itself questions questions refl in
      record {
        keeps = keeps_then looks scene old mid new so_far.keeps keeps;
        are = are_more looks questions questions mid.bags new.bags same begins found so_far.are;
        finds = all_more looks questions questions mid.bags new.bags same begins request found so_far.finds;
        tells = λ person action resource all.
            let other = listed person action resource in
            one_more (FindsSame looks request looks other) (so_far.tells person action resource (all_back looks questions questions mid.bags new.bags same begins other found so_far.are all))
            (none_same looks scene.person.now scene.action.now scene.resource.now person action resource this (none this is_there));
        attributes = λ t time person action resource all.
            let other = listed person action resource in
            one_more (λ x. IsAttribute x → FindsSame looks request t other x)
            (so_far.attributes t time person action resource (all_back t questions questions mid.bags new.bags same begins other found so_far.are all))
            (none_alike looks t time scene.person.now scene.action.now scene.resource.now person action resource this (none this is_there));
      }

  pub found_put : (mid new : Findings) (found more : List Finding) (place : NamePlace) (k : ℕ) → IsAbout questions n place → FindsBag looks questions new.bags request n k
      → KeepsReady looks scene mid new → more ≡ found ++ record { question = n; place = place; bag = k } ∷ []
      → IsFound looks scene old mid numbers i found → IsFound looks scene old new numbers (i + 1) more
  found_put mid new found more place k about bag keeps pushed so_far =
      let begins = keeps.begins in
      let f : Finding = record { question = n; place = place; bag = k } in
      let same : Begins questions questions = starts_itself questions questions refl in
      subst (IsFound looks scene old new numbers (i + 1)) (sym pushed) (record {
        keeps = keeps_then looks scene old mid new so_far.keeps keeps;
        are = all_append (IsFinding questions new.bags) found (f ∷ []) (are_more looks questions questions mid.bags new.bags same begins found so_far.are)
            ((slice_get_within new.bags k (bag_for looks request bag.0) bag.1.1, about), tt);
        finds = all_append (λ x. FindsBag looks questions new.bags request x.question x.bag) found (f ∷ []) (all_more looks questions questions mid.bags new.bags same begins request found so_far.finds) (bag, tt);
        tells = λ person action resource all.
            let other = listed person action resource in
            let P : Finding → Type 0 = λ x. FindsBag looks questions new.bags other x.question x.bag in
            let its : FindsBag looks questions new.bags other n k = (all_later P found (f ∷ []) all).0 in
            let mine : bag.0 ≡ this = some_same bag.0 this (sym bag.1.0 ∙ is_there) in
            let theirs : its.0 ≡ this = some_same its.0 this (sym its.1.0 ∙ is_there) in
            let bags : bag_for looks request this ≡ bag_for looks other this =
            some_same (bag_for looks request this) (bag_for looks other this)
            (ap (λ x. Some (bag_for looks request x)) (sym mine) ∙ sym bag.1.1 ∙ its.1.1 ∙ ap (λ x. Some (bag_for looks other x)) theirs) in
            one_more (FindsSame looks request looks other)
            (so_far.tells person action resource (all_back looks questions questions mid.bags new.bags same begins other found so_far.are (all_first P found (f ∷ []) all)))
            (bags_same looks request other this bags);
        attributes = λ t time person action resource all.
            let other = listed person action resource in
            let P : Finding → Type 0 = λ x. FindsBag t questions new.bags other x.question x.bag in
            let its : FindsBag t questions new.bags other n k = (all_later P found (f ∷ []) all).0 in
            let mine : bag.0 ≡ this = some_same bag.0 this (sym bag.1.0 ∙ is_there) in
            let theirs : its.0 ≡ this = some_same its.0 this (sym its.1.0 ∙ is_there) in
            let bags : bag_for looks request this ≡ bag_for t other this =
            some_same (bag_for looks request this) (bag_for t other this)
            (ap (λ x. Some (bag_for looks request x)) (sym mine) ∙ sym bag.1.1 ∙ its.1.1 ∙ ap (λ x. Some (bag_for t other x)) theirs) in
            one_more (λ x. IsAttribute x → FindsSame looks request t other x)
            (so_far.attributes t time person action resource (all_back t questions questions mid.bags new.bags same begins other found so_far.are (all_first P found (f ∷ []) all)))
            (λ attribute. bags_alike looks t request other this attribute bags);
      })

pub found_next : {L : Type 0} (looks : Looks) (scene : Scene L) (old mid new : Findings) (numbers : List ℕ) (i : ℕ) (found more : List Finding) → AreNumbers scene.questions.now numbers → i < length numbers
    → NotesFinding looks scene.questions.now new.bags (request_of scene) (get_or numbers i 0) found more → KeepsReady looks scene mid new
    → IsFound looks scene old mid numbers i found → IsFound looks scene old new numbers (i + 1) more
found_next looks scene old mid new numbers i found more within below notes keeps so_far =
    let n = get_or numbers i 0 in
    let there : slice_get numbers i ≡ Some n = slice_get-get_or numbers i 0 below in
    elim notes [
      | inl p ↦ subst (IsFound looks scene old new numbers (i + 1)) (sym p.0) (found_skip looks scene old numbers within i n there mid new found p.1 keeps so_far)
      | inr p ↦ found_put looks scene old numbers within i n there mid new found more p.0 p.1.0 p.1.1.0 p.1.1.1.0 keeps p.1.1.1.1 so_far
    ]

pub found_all : {L : Type 0} (looks : Looks) (scene : Scene L) (old new : Findings) (numbers : List ℕ) (i : ℕ) (found : List Finding) → length numbers ≤ i → IsFound looks scene old new numbers i found
    → TellsAll looks scene.questions.now new.bags (request_of scene) numbers found
found_all looks scene old new numbers i found past so_far =
    subst (λ ns. TellsAll looks scene.questions.now new.bags (request_of scene) ns found) (take_all i numbers past) so_far.tells

pub attributes_all : {L : Type 0} (looks : Looks) (scene : Scene L) (old new : Findings) (numbers : List ℕ) (i : ℕ) (found : List Finding) → length numbers ≤ i → IsFound looks scene old new numbers i found
    → TellsAttributes looks scene.questions.now new.bags (request_of scene) numbers found
attributes_all looks scene old new numbers i found past so_far =
    subst (λ ns. TellsAttributes looks scene.questions.now new.bags (request_of scene) ns found) (take_all i numbers past) so_far.attributes
