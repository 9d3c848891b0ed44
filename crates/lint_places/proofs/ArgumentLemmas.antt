-- The first fault of some arguments, as a loop comes to it.
use Rattle.std.proofs.Common.{◌≡◌, ℕ, suc, ◌+◌, ◌<◌, List, length, get_or, drop, map, add-one, drop-cons, Option, Result, Ok, Err, sym, ◌∙◌}
use Rattle.serde_json.specs.Data.{Data}
use Rattle.ent_policy.specs.declared.fault.CheckFault.{CheckFault}
use Rattle.ent_policy.specs.declared.fault.CheckFault.TheVariants.{Doc, Memory}
use Rattle.ent_policy.specs.declared.fault.DocFault.{DocFault}
use Rattle.ent_policy.specs.First.{earlier, first_of}
use Rattle.ent_policy.proofs.Firsts.{earlier_assoc}
use Rattle.lint_places.specs.Views.{IsFound, Tells}

module _ {J : Type 0} (content : J → Data) (f : Data → Option DocFault) (values : List J) where
  -- the first of a fault and of those of the values from the i-th on
  abbrev pub first_from : Option DocFault → ℕ → Option DocFault
  first_from first i = earlier first (first_of (map f (map content (drop i values))))

  first_next : (first : Option DocFault) (i : ℕ) (v : J) → i < length values → v ≡ get_or values i v → first_from first i ≡ first_from (earlier first (f (content v))) (i + 1)
  first_next first i v lt here =
      rw (add-one, drop-cons values i v, ← here) (sym (earlier_assoc first (f (content v)) (first_of (map f (map content (drop (suc i) values))))))

  -- one more value, of which that is told
  pub first_goes_on : (first : Option DocFault) (i : ℕ) (v : J) (whole : Option DocFault) → i < length values → v ≡ get_or values i v → first_from first i ≡ whole
      → first_from (earlier first (f (content v))) (i + 1) ≡ whole
  first_goes_on first i v whole lt here so_far = let next = first_next first i v lt here in sym next ∙ so_far

-- the fault that was told of an argument is the one that is told
pub found_is : {A : Type 0} (E : Type 0) (judged : Result A CheckFault) (told found : Option DocFault) → Tells judged told → IsFound {A = A} {E = E} judged (Ok found) → found ≡ told
found_is E (Ok x) told found h is = cc
found_is E (Err (Doc fault)) told found h is = cc
found_is E (Err Memory) told found h is = absurd cc
