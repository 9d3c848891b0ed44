-- To which place a fault leads.
use Rattle.std.proofs.Common.{◌≡◌, ℕ, zero, suc, Option, Some, None, refl, sym, subst, ◌∙◌}
use Rattle.std.specs.List.{find}
use Rattle.serde_json.specs.Data.{Data}
use Rattle.ent_policy.specs.declared.fault.DocFault.{DocFault}
use Rattle.lint_places.specs.Faults.{IsFirst, IsLedTo, LeadsTo}
use Rattle.lint_places.specs.Places.{Spot, has_fault, inside, whole}

-- to itself, where nothing inside has it
pub leads_here : (f : DocFault) (s : Spot) → None ≡ find (has_fault f) (inside s) → IsLedTo f s s
leads_here f s none = record { level = 0; leads = (refl, sym none) }

-- on from the first part that has it
pub leads_deeper : (f : DocFault) (s t u : Spot) → Some t ≡ find (has_fault f) (inside s) → IsLedTo f u t → IsLedTo f u s
leads_deeper f s t u some led = record { level = suc led.level; leads = (t, sym some, led.leads) }

same_end : (f : DocFault) (n m : ℕ) (s t from : Spot) → LeadsTo f n s from → LeadsTo f m t from → s ≡ t
same_end f zero zero s t from a b = a.0 ∙ sym b.0
same_end f zero (suc m) s t from a b = absurd (cc (a.1, b.1))
same_end f (suc n) zero s t from a b = absurd (cc (a.1, b.1))
same_end f (suc n) (suc m) s t from a b = let same : a.0 ≡ b.0 = cc (a.1, b.1) in same_end f n m s t b.0 (subst (λ (x : Spot). LeadsTo f n s x) same a.2) b.2

-- to one place alone
pub one_place : (f : DocFault) (s t : Spot) (d : Data) → IsFirst f s d → IsFirst f t d → s ≡ t
one_place f s t d a b = same_end f a.level b.level s t (whole d) a.leads b.leads
