-- What a way notes of an entry.
use Rattle.std.proofs.Common.{◌≡◌, ℕ, Bool, false, List, [], ◌∷◌, ◌++◌, refl, sym, ap, subst, ◌∙◌}
use Rattle.std.specs.Prelude.{if◌then◌else◌}
use Rattle.memo_plan.specs.Heard.{Came}
use Rattle.memo_plan.specs.Plan.{Scene, constant, entry_came, goes_on, is_test, item_came, item_constant, item_goes_on, item_is_test, skip_of, task_came, task_goes_on}
use Rattle.memo_plan.specs.Run.{passed}
use Rattle.memo_plan.specs.Signed.{IsTested, NotesOne}
use Rattle.memo_plan.specs.declared.task.Entry.{Entry}
use Rattle.memo_plan.specs.declared.task.Item.{Item}
use Rattle.memo_plan.specs.declared.task.Item.TheVariants as item
use Rattle.memo_plan.specs.declared.task.TestTask.{TestTask}

module _ (tells : ℕ → ℕ → Came → Type 0) (place : ℕ) (e : Entry) (w : Scene) where
  -- of what is no test nothing is noted
  pub nothing_noted : (i : Item) (way : List ℕ) → e.item ≡ i → item_is_test i ≡ false → NotesOne constant tells (is_test e) place e (entry_came e w) way way
  nothing_noted i way is none = subst (λ j. NotesOne constant tells (item_is_test j) place e (item_came j w) way way) (sym is) (at i is none) where
    at : (j : Item) → e.item ≡ j → item_is_test j ≡ false → NotesOne constant tells (item_is_test j) place e (item_came j w) way way
    at (item.Named n) same fact = (refl, ap item_constant (sym same))
    at item.Given same fact = (refl, ap item_constant (sym same))
    at (item.Test t) same fact = absurd (cc)

  -- of a test its number is
  pub test_noted : (t : TestTask) (n : ℕ) (before after : List ℕ) → e.item ≡ item.Test t → after ≡ before ++ n ∷ [] → tells place n (task_came t w) → NotesOne constant tells (is_test e) place e (entry_came e w) before after
  test_noted t n before after is pushed tell = subst (λ i. NotesOne constant tells (item_is_test i) place e (item_came i w) before after) (sym is) (n, (pushed, tell))

-- behind what is no test nothing is passed
pub nothing_passed : (e : Entry) (w : Scene) (i : Item) → e.item ≡ i → item_is_test i ≡ false → 0 ≡ passed goes_on skip_of e (entry_came e w)
nothing_passed e w i is none = subst (λ j. 0 ≡ (if item_goes_on j (item_came j w) then 0 else e.skip)) (sym is) (at i none) where
  at : (j : Item) → item_is_test j ≡ false → 0 ≡ (if item_goes_on j (item_came j w) then 0 else e.skip)
  at (item.Named n) fact = refl
  at item.Given fact = refl
  at (item.Test t) fact = absurd (cc)

-- behind a test, what stands below it where this doesn't count
pub test_passed : (e : Entry) (w : Scene) (t : TestTask) (k : ℕ) (b : Bool) → e.item ≡ item.Test t → b ≡ task_goes_on t (task_came t w) → k ≡ (if b then 0 else e.skip) → k ≡ passed goes_on skip_of e (entry_came e w)
test_passed e w t k b is goes passes =
    passes ∙ ap (λ x. if x then 0 else e.skip) goes ∙ ap (λ i. if item_goes_on i (item_came i w) then 0 else e.skip) (sym is)

-- what is known of a test still is
pub tested_still : (has more : ℕ → TestTask → Type 0) → ((place : ℕ) (t : TestTask) → has place t → more place t) → (place : ℕ) (e : Entry) → IsTested has place e.item → IsTested more place e.item
tested_still has more still place e is = record { typed = is.typed; known = λ t same. still place t (is.known t same) }
