-- The smallest part that has a fault, by what is found inside of a part.
use Rattle.std.proofs.Common.{◌≡◌, suc, true, Option, Some, None, Result, Ok, Err, refl}
use Rattle.std.specs.List.{Contains, find}
use Rattle.serde_json.specs.Data.{Data}
use Rattle.std.specs.Prelude.{◌==◌}
use Rattle.ent_policy.specs.Check.{checked, fault_of, unless_fault}
use Rattle.ent_policy.specs.Fault.{sub_code}
use Rattle.ent_policy.specs.declared.fault.DocFault.TheVariants as fault
use Rattle.ent_policy.specs.declared.document.Tree.{Tree}
use Rattle.ent_policy.specs.declared.fault.DocFault.{DocFault}
use Rattle.ent_policy.specs.declared.raw.RawDocument.{RawDocument}
use Rattle.ent_policy.specs.Reading.{document_read}
use Rattle.ent_polform.specs.Form.{document_of, raw_of}
use Rattle.ent_polform.specs.Objects.{◌>>=◌}
use Rattle.lint_places.specs.Places.{IsSmallest, Spot, has_fault, inside, whole}
use Rattle.lint_places.specs.Told.{first_fault, scope_told, told}
use Rattle.lint_places.proofs.Finding.{found, none_found}

-- nothing inside has it
pub is_last : (f : DocFault) (s : Spot) → has_fault f s ≡ true → None ≡ find (has_fault f) (inside s) → IsSmallest f s s
is_last f s has none = record { level = 0; is_inside = refl; has_it = has; is_smallest = none_found (has_fault f) (inside s) cc }

-- what is found inside has it
pub goes_inside : (f : DocFault) (s t : Spot) → Some t ≡ find (has_fault f) (inside s) → Contains (inside s) t × (has_fault f t ≡ true)
goes_inside f s t some = found (has_fault f) (inside s) t cc

-- the smallest of what was found inside
pub is_deeper : (f : DocFault) (s t u : Spot) → Contains (inside s) t → IsSmallest f u t → IsSmallest f u s
is_deeper f s t u inside smallest = record { level = suc smallest.level; is_inside = (t, inside, smallest.is_inside); has_it = smallest.has_it; is_smallest = smallest.is_smallest }

of_unless : (o : Option DocFault) (t : Tree) (f : DocFault) → unless_fault o t ≡ Err f → o ≡ Some f
of_unless None t f h = absurd cc
of_unless (Some g) t f h = cc

first_of_read : (r : Result RawDocument DocFault) (f : DocFault) → (r >>= checked) ≡ Err f → first_fault r ≡ Some f
unfolding checked
first_of_read (Err g) f h = cc
first_of_read (Ok d) f h = of_unless (fault_of d) (document_read d).value f h

-- what is told of a whole document is its first fault
pub first_told : (d : Data) (f : DocFault) → document_of d ≡ Err f → first_fault (raw_of d) ≡ Some f
unfolding document_of
first_told d f h = first_of_read (raw_of d) f h

pub same_code : (f : DocFault) → (sub_code f == sub_code f) ≡ true
same_code fault.Form = refl
same_code fault.Identifier = refl
same_code fault.Version = refl
same_code fault.Algorithm = refl
same_code fault.Function = refl
same_code fault.Variable = refl
same_code fault.Size = refl
same_code fault.Depth = refl
same_code fault.«Type» = refl

-- a document that has a fault has it as a whole
pub whole_has_it : (d : Data) (f : DocFault) → document_of d ≡ Err f → has_fault f (whole d) ≡ true
unfolding told scope_told
whole_has_it d f h = rw (first_told d f h) (rw (same_code f) refl)
