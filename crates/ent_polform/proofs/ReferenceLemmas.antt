-- No fault of form is found in a reference whose form is right.
use Rattle.std.proofs.Common.{◌≡◌, ℕ, List, [], ◌∷◌, Bool, true, false, Option, Some, None, Result, Ok, Err, cond, nat_le, codes, refl}
use Rattle.ent_policy.specs.Check.{reference_checked, unless_fault}
use Rattle.ent_policy.specs.First.{earlier, place}
use Rattle.ent_policy.specs.Names.{name_of}
use Rattle.ent_policy.specs.Patterns.{pattern_of}
use Rattle.ent_policy.specs.Reading.{constraints_read, known, maybe_read, pattern_read, reference_read}
use Rattle.ent_policy.specs.declared.fault.DocFault.{DocFault}
use Rattle.ent_policy.specs.declared.fault.DocFault.TheVariants as faults
use Rattle.ent_policy.specs.declared.pattern.PatternPart.{PatternPart}
use Rattle.ent_policy.specs.declared.pattern.PatternPart.TheVariants.{Any}
use Rattle.ent_policy.specs.declared.raw.RawReference.{RawReference}
use Rattle.ent_polform.specs.Objects.{◌>>=◌}
use Rattle.ent_polform.specs.Reading.{has_form}

module _ {A : Type 0} (x : A) where
  first_formed : (f g : Option DocFault) → has_form (unless_fault f x) ≡ true → has_form (unless_fault g x) ≡ true → has_form (unless_fault (earlier f g) x) ≡ true
  first_formed None g p q = q
  first_formed (Some f) None p q = p
  first_formed (Some f) (Some g) p q = either (nat_le (place f) (place g))
    where
      either : (b : Bool) → has_form (unless_fault (cond b (Some f) (Some g)) x) ≡ true
      either true = p
      either false = q

  id_formed : (o : Option (List ℕ)) → has_form (unless_fault (known (codes "-") faults.Identifier o).fault x) ≡ true
  id_formed None = refl
  id_formed (Some id) = refl

  pattern_formed : (text : Option (List ℕ)) → has_form (unless_fault (maybe_read pattern_read text).fault x) ≡ true
  pattern_formed None = refl
  pattern_formed (Some text) = at (pattern_of text)
    where
      at : (o : Option (List PatternPart)) → has_form (unless_fault (known (Any ∷ []) faults.Version o).fault x) ≡ true
      at None = refl
      at (Some pattern) = refl

pub has_form-checked : (r : RawReference) → has_form (reference_checked r) ≡ true
unfolding reference_checked reference_read constraints_read
has_form-checked r =
    let x = (reference_read r).value in
    let constraints = first_formed x _ _ (pattern_formed x r.version) (first_formed x _ _ (pattern_formed x r.earliest) (first_formed x _ None (pattern_formed x r.latest) refl)) in
    first_formed x _ _ (id_formed x (name_of r.id)) (first_formed x _ None constraints refl)

-- so what is read in the right form keeps it
pub keeps_form : (r : Result RawReference DocFault) → has_form r ≡ true → has_form (r >>= reference_checked) ≡ true
keeps_form (Ok r) h = has_form-checked r
keeps_form (Err faults.Form) h = absurd cc
keeps_form (Err faults.Identifier) h = refl
keeps_form (Err faults.Version) h = refl
keeps_form (Err faults.Algorithm) h = refl
keeps_form (Err faults.Function) h = refl
keeps_form (Err faults.Variable) h = refl
keeps_form (Err faults.Size) h = refl
keeps_form (Err faults.Depth) h = refl
keeps_form (Err faults.«Type») h = refl
