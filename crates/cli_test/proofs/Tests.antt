-- What a test of sessions tells and counts.
use Rattle.std.proofs.Common.{◌≡◌, ◌≢◌, ◌<◌, ◌+◌, ◌++◌, ℕ, List, [], ◌∷◌, length, take, get_or, map, Bool, true, false, codes, Option, Some, Ok, Err, refl, sym, ap, ◌∙◌, subst, arith, append-nil}
use Rattle.std.specs.List.{filter}
use Rattle.std.specs.Io.KnownBytes.{Appends}
use Rattle.std.proofs.KnownBytes.{Appends-nil, Appends-trans}
use Rattle.std.proofs.lemmas.List.Elements.{All-push, filter-append}
use Rattle.std.proofs.lemmas.List.{map_push, take_more}
use Rattle.std.proofs.lemmas.List.Concat.{flat_map-append}
use Rattle.script_files.specs.declared.session.Session.{Session}
use Rattle.script_junit.specs.declared.result.TestCase.{TestCase}
use Rattle.ent_wire.specs.declared.fault.ServeFault.{ServeFault}
use Rattle.ent_wire.specs.declared.fault.ServeFault.TheVariants as fault
use Rattle.cli_replies.specs.Comparing.{behind, differences, pass, told_at}
use Rattle.cli_serve.specs.Replying.{AreRepliesTo}
use Rattle.cli_test.specs.Testing.{AreTested, Ran, Tests, TestsEach, case_of, chosen, is_chosen, passes, sent_to, sure, told_of, told_of_cases, told_of_test}
use Rattle.cli_test.specs.declared.testing.TestPlan.{TestPlan}

-- what is told of a session that passed
pub passing : (name : List ℕ) (plan : TestPlan) (session : Session) (replies rest : List ℕ) (before mid after : Option (List ℕ)) (a p : Bool)
    → a ≡ pass plan.state.now replies → a ≡ true → rest ≡ behind plan.state.now replies → p ≡ passes session.steps rest → p ≡ true
    → Appends before mid (differences plan.state_name.now plan.state.now replies) → Appends mid after (told_of_test name session rest)
    → Appends before after (told_of name plan (session, replies))
passing name plan session replies rest before mid after a p judged taken left also so first own =
    rw (sym judged ∙ taken, ← left, sym also ∙ so, append-nil (differences plan.state_name.now plan.state.now replies ++ told_of_test name session rest))
    (Appends-trans before mid after _ _ first own)

-- of one that didn't, where the state was accepted
pub failing : (name : List ℕ) (plan : TestPlan) (session : Session) (replies rest : List ℕ) (before mid end after : Option (List ℕ)) (a p : Bool)
    → a ≡ pass plan.state.now replies → a ≡ true → rest ≡ behind plan.state.now replies → p ≡ passes session.steps rest → p ≡ false
    → Appends before mid (differences plan.state_name.now plan.state.now replies) → Appends mid end (told_of_test name session rest)
    → Appends end after (told_at name session.number (codes ": failed ") session.name)
    → Appends before after (told_of name plan (session, replies))
failing name plan session replies rest before mid end after a p judged taken left also so first own last =
    rw (sym judged ∙ taken, ← left, sym also ∙ so) (Appends-trans before end after _ _ (Appends-trans before mid end _ _ first own) last)

-- of one that didn't, where the state was refused
pub refusing : (name : List ℕ) (plan : TestPlan) (session : Session) (replies : List ℕ) (before mid after : Option (List ℕ)) (a : Bool)
    → a ≡ pass plan.state.now replies → a ≡ false
    → Appends before mid (differences plan.state_name.now plan.state.now replies) → Appends mid after (told_at name session.number (codes ": failed ") session.name)
    → Appends before after (told_of name plan (session, replies))
refusing name plan session replies before mid after a judged refused first last =
    rw (sym judged ∙ refused, append-nil (differences plan.state_name.now plan.state.now replies)) (Appends-trans before mid after _ _ first last)

-- what was told of one session, where nothing was before
pub told_alone : (before after : Option (List ℕ)) (told all : List ℕ) → Appends (Some []) (Some all) told → Appends before after all → Appends before after told
told_alone before after told all is wrote = subst (λ bytes. Appends before after bytes) is wrote

-- no session is tested yet
pub tested_none : (plan : TestPlan) (name : List ℕ) (before : Option (List ℕ)) (cases : List TestCase) → cases ≡ []
    → TestsEach plan name [] before before (Ok cases)
tested_none plan name before cases is =
    (([], refl, λ k d lt. absurd (omega (arith, lt)), is), subst (λ tests. Appends before before (told_of_cases tests)) (sym is) (Appends-nil before))

told_push : (cases : List TestCase) (test : TestCase) → told_of_cases cases ++ test.told ≡ told_of_cases (cases ++ test ∷ [])
told_push cases test =
    ap (λ bytes. told_of_cases cases ++ bytes) (sym (append-nil test.told)) ∙ sym (flat_map-append (λ x. x.told) cases (test ∷ []))

abbrev pub one_if : Bool → Session → List Session
one_if true session = session ∷ []
one_if false session = []

filter_one : (p : Session → Bool) (session : Session) (b : Bool) → p session ≡ b → filter p (session ∷ []) ≡ one_if b session
filter_one p session true is = rw is refl
filter_one p session false is = rw is refl

-- the sessions that run of those up to one more
pub chosen_more : (plan : TestPlan) (all : List Session) (i : ℕ) (session : Session) (b : Bool) → i < length all → session ≡ get_or all i session
    → is_chosen plan.only session ≡ b → chosen plan (take (i + 1) all) ≡ chosen plan (take i all) ++ one_if b session
chosen_more plan all i session b lt is runs =
    ap (filter (is_chosen plan.only)) (take_more all i session lt ∙ ap (λ s. take i all ++ s ∷ []) (sym is))
    ∙ filter-append (is_chosen plan.only) (take i all) (session ∷ [])
    ∙ ap (λ more. chosen plan (take i all) ++ more) (filter_one (is_chosen plan.only) session b runs)

-- a session that doesn't run
pub tested_same : (plan : TestPlan) (name : List ℕ) (all : List Session) (i : ℕ) (session : Session) (before now : Option (List ℕ)) (cases : List TestCase)
    → i < length all → session ≡ get_or all i session → is_chosen plan.only session ≡ false
    → TestsEach plan name (take i all) before now (Ok cases) → TestsEach plan name (take (i + 1) all) before now (Ok cases)
tested_same plan name all i session before now cases lt is runs (tested, wrote) =
    let same = chosen_more plan all i session false lt is runs ∙ append-nil (chosen plan (take i all)) in
    (subst (λ sessions. AreTested plan name sessions cases) (sym same) tested, wrote)

-- one more session is tested
pub tested_more : (plan : TestPlan) (name : List ℕ) (all : List Session) (i : ℕ) (session : Session) (before now next : Option (List ℕ))
    (cases after : List TestCase) (test : TestCase) → i < length all → session ≡ get_or all i session → is_chosen plan.only session ≡ true
    → (replies : List ℕ) × AreRepliesTo plan.limits session.modules (sent_to plan.state.now session) replies × (sure plan (session, replies) ≡ true)
    × (test ≡ case_of name plan (session, replies))
    → Appends now next test.told → after ≡ cases ++ test ∷ [] → TestsEach plan name (take i all) before now (Ok cases)
    → TestsEach plan name (take (i + 1) all) before next (Ok after)
tested_more plan name all i session before now next cases after test lt is chosen_so (replies, replied, certain, became) more grown ((runs, ran, each, gave), wrote) =
    let run : Ran = (session, replies) in (
      (
        runs ++ run ∷ [],
        map_push (λ r. r.0) runs run ∙ ap (λ sessions. sessions ++ session ∷ []) ran ∙ sym (chosen_more plan all i session true lt is chosen_so),
        All-push (λ r. AreRepliesTo plan.limits r.0.modules (sent_to plan.state.now r.0) r.1 × (sure plan r ≡ true)) runs run each (replied, certain),
        grown ∙ ap (λ tests. tests ++ test ∷ []) gave ∙ ap (λ x. map (case_of name plan) runs ++ x ∷ []) became ∙ sym (map_push (case_of name plan) runs run),
      ),
      subst (λ bytes. Appends before next bytes) (told_push cases test ∙ ap told_of_cases (sym grown))
          (Appends-trans before now next (told_of_cases cases) test.told wrote more),
    )

-- the reader failed, or memory was wanting before anything was written
pub nothing_told : (plan : TestPlan) (name : List ℕ) (unread before : Option (List ℕ)) (e : ServeFault) → Tests plan name unread before before (Err e)
nothing_told plan name unread before fault.Read = Appends-nil before
nothing_told plan name unread before fault.Write = tt
nothing_told plan name unread before fault.Memory = tt

-- all was read
pub broken_off : (plan : TestPlan) (name : List ℕ) (unread before after : Option (List ℕ)) (e : ServeFault) → e ≢ fault.Read → Tests plan name unread before after (Err e)
broken_off plan name unread before after fault.Read other = absurd (other refl)
broken_off plan name unread before after fault.Write other = tt
broken_off plan name unread before after fault.Memory other = tt
