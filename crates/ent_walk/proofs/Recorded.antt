-- A key is recorded exactly where it is looked up.
use Rattle.std.proofs.Common.{List, [], ◌∷◌, ◌≡◌, ap, ◌∙◌}
use Rattle.std.specs.List.{All, Contains}
use Rattle.std.proofs.lemmas.List.Elements.{All-head, All-tail, All-nil, All-contains, All-contains_itself}
use Rattle.std.proofs.lemmas.Map.Views.{All-insert_key}
use Rattle.ent_request.specs.declared.key.ReadKey.{ReadKey}
use Rattle.ent_walk.specs.Answer.{looked_up, recorded, asked}
use Rattle.ent_walk.specs.Law.{WhatIsLookedUpIsRecorded}
use Rattle.ent_request.specs.Noted.{noted, read_cmp, with_key}
use Rattle.ent_request.proofs.Keys.{all_noted, by_recursion}
use Rattle.ent_request.specs.declared.question.Question.{Question}
use Rattle.ent_request.specs.declared.request.Request.{Request}
use Rattle.ent_request.specs.Looks.{Looks}
use Rattle.ent_request.specs.Questions.{asked_once, keys_at}
use Rattle.ent_trace.proofs.KeysAsked.{asked_keys}
use Rattle.ent_request.proofs.Lists.{from_recursion}

-- what holds of the keys of a set and of those that are noted in it holds of all keys after that
pub noted_all : (P : ReadKey → Type 0) (keys more : List ReadKey) → All P keys → All P more → All P (noted keys more)
noted_all P keys [] held rest = held
noted_all P keys (k ∷ more) held rest =
    noted_all P (with_key keys k) more (All-insert_key read_cmp k P keys held (All-head P k more rest)) (All-tail P k more rest)

pub recorded_exactly : WhatIsLookedUpIsRecorded
recorded_exactly looks request key =
    let made = looked_up looks request in
    let kept = recorded looks request in (
      All-contains (Contains made) kept key (noted_all (Contains made) [] made (All-nil (Contains made)) (All-contains_itself made)),
      All-contains (Contains kept) made key (from_recursion (Contains kept) made (all_noted (Contains kept) [] made (by_recursion (Contains kept) kept (All-contains_itself kept))).1),
    )

-- the keys that are looked up for what is asked of a request are those that are recorded for its answer
pub recorded_by : (looks : Looks) (request : Request) (questions : List Question) → questions ≡ asked_once [] (asked looks request) → keys_at request questions ≡ recorded looks request
recorded_by looks request questions is = ap (keys_at request) is ∙ asked_keys request [] (asked looks request)
