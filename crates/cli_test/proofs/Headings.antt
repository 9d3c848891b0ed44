-- The tests that would run, told one after the other.
use Rattle.std.proofs.Common.{◌≡◌, ◌<◌, ◌+◌, ◌++◌, ℕ, List, [], ◌∷◌, length, take, get_or, Bool, true, false, ◌⊎◌, inl, inr, Option, Err, refl, sym, ap, ◌∙◌, subst, append-nil}
use Rattle.std.specs.List.{flat_map}
use Rattle.std.specs.Io.KnownBytes.{Appends}
use Rattle.std.proofs.KnownBytes.{Appends-trans}
use Rattle.std.proofs.lemmas.List.Concat.{flat_map-append}
use Rattle.std.proofs.lemmas.List.{length-append}
use Rattle.script_files.specs.Sessions.{sessions_of}
use Rattle.script_files.specs.declared.fault.Mistake.{Mistake}
use Rattle.script_files.specs.declared.fault.SessionFault.TheVariants as unread
use Rattle.script_files.specs.declared.session.Session.{Session}
use Rattle.cli_test.specs.Listing.{AreListed, ListsAll, ListsSpelled, heading_told}
use Rattle.cli_test.specs.Testing.{chosen, is_chosen, misplaced_line}
use Rattle.cli_test.specs.declared.testing.TestPlan.{TestPlan}
use Rattle.cli_test.specs.declared.tally.Tally.{Tally}
use Rattle.cli_test.proofs.Tests.{chosen_more, one_if}

-- one more of those that would run is told
module _ (plan : TestPlan) (name : List ℕ) (all : List Session) (i : ℕ) (session : Session) (before now next : Option (List ℕ))
    (lt : i < length all) (is : session ≡ get_or all i session) where
  pub listed_more : is_chosen plan.only session ≡ true → Appends now next (heading_told name session)
      → Appends before now (flat_map (heading_told name) (chosen plan (take i all))) → Appends before next (flat_map (heading_told name) (chosen plan (take (i + 1) all)))
  listed_more runs more told =
      subst (λ bytes. Appends before next bytes)
      (ap (λ bytes. flat_map (heading_told name) (chosen plan (take i all)) ++ bytes) (sym (append-nil (heading_told name session)))
      ∙ sym (flat_map-append (heading_told name) (chosen plan (take i all)) (session ∷ []))
      ∙ ap (flat_map (heading_told name)) (sym (chosen_more plan all i session true lt is runs)))
      (Appends-trans before now next (flat_map (heading_told name) (chosen plan (take i all))) (heading_told name session) told more)

  pub listed_same : is_chosen plan.only session ≡ false → Appends before now (flat_map (heading_told name) (chosen plan (take i all)))
      → Appends before now (flat_map (heading_told name) (chosen plan (take (i + 1) all)))
  listed_same runs told =
      subst (λ sessions. Appends before now (flat_map (heading_told name) sessions))
      (sym (append-nil (chosen plan (take i all))) ∙ sym (chosen_more plan all i session false lt is runs)) told

-- one more session is counted, if it would run
pub counted_more : (plan : TestPlan) (all : List Session) (i n : ℕ) (session : Session) (b : Bool) → i < length all → session ≡ get_or all i session
    → is_chosen plan.only session ≡ b → n ≡ length (chosen plan (take i all)) → n + length (one_if b session) ≡ length (chosen plan (take (i + 1) all))
counted_more plan all i n session b lt is runs so =
    ap (λ m. m + length (one_if b session)) so ∙ sym (length-append (chosen plan (take i all)) (one_if b session)) ∙ ap length (sym (chosen_more plan all i session b lt is runs))

-- sessions are told, of which there is one
pub all_listed : (plan : TestPlan) (name : List ℕ) (sessions : List Session) (before after : Option (List ℕ)) (tally : Tally) → (sessions ≡ [] → ⊥)
    → AreListed plan name sessions before after tally → ListsAll plan name sessions before after tally
all_listed plan name [] before after tally some told = absurd (some refl)
all_listed plan name (session ∷ sessions) before after tally some told = told

-- a line that can't stand where it stands is told
pub misplaced_listed : (plan : TestPlan) (name bytes : List ℕ) (before after : Option (List ℕ)) (tally : Tally) (number : ℕ) (why : Mistake)
    → (unread.Form number why ≡ unread.Memory) ⊎ (sessions_of bytes ≡ Err (unread.Form number why))
    → Appends before after (misplaced_line name number why) → tally ≡ record { passed = 0; failed = 1 }
    → ListsSpelled plan name (sessions_of bytes) before after tally
misplaced_listed plan name bytes before after tally number why (inl other) told failed = absurd cc
misplaced_listed plan name bytes before after tally number why (inr is) told failed = rw is (failed, told)
