-- What is read of a reference is what its type says.
use Rattle.std.proofs.Common.{◌≡◌, ℕ, List, [], ◌∷◌, Bool, true, false, IsTrue, Option, Some, None, Ok, codes, cond, refl, subst}
use Rattle.ent_policy.specs.Check.{reference_checked, unless_fault}
use Rattle.ent_policy.specs.Names.{is_bad_name, name_of}
use Rattle.ent_policy.specs.Patterns.{is_pattern, pattern_of}
use Rattle.ent_policy.specs.Reading.{constraints_read, known, maybe_read, pattern_read, reference_read}
use Rattle.ent_policy.specs.declared.fault.DocFault.{DocFault}
use Rattle.ent_policy.specs.declared.fault.DocFault.TheVariants.{Identifier, Version}
use Rattle.ent_policy.specs.declared.key.Reference.{Reference}
use Rattle.ent_policy.specs.declared.pattern.PatternPart.{PatternPart}
use Rattle.ent_policy.specs.declared.pattern.PatternPart.TheVariants.{Any}
use Rattle.ent_policy.specs.declared.raw.RawReference.{RawReference}
use Rattle.ent_policy.proofs.Patterns.{is_pattern_of}
use Rattle.ent_polform.specs.ReadBack.{IsReference, is_maybe_pattern}

id_good : (text : List ℕ) → is_bad_name (known (codes "-") Identifier (name_of text)).value ≡ false
id_good text = at (is_bad_name text) refl
  where
    at : (bad : Bool) → is_bad_name text ≡ bad → is_bad_name (known (codes "-") Identifier (cond bad None (Some text))).value ≡ false
    at true h = refl
    at false h = h

pattern_good : (text : List ℕ) → IsTrue (is_pattern (pattern_read text).value)
pattern_good text = at (pattern_of text) refl
  where
    at : (o : Option (List PatternPart)) → pattern_of text ≡ o → IsTrue (is_pattern (known (Any ∷ []) Version o).value)
    at None h = refl
    at (Some pattern) h = is_pattern_of text pattern h

constraint_good : (text : Option (List ℕ)) → IsTrue (is_maybe_pattern (maybe_read pattern_read text).value)
constraint_good None = refl
constraint_good (Some text) = pattern_good text

reference_good : (raw : RawReference) → IsReference (reference_read raw).value
unfolding reference_read constraints_read
reference_good raw = record {
  name = id_good raw.id;
  version = constraint_good raw.version;
  earliest = constraint_good raw.earliest;
  latest = constraint_good raw.latest;
}

clean : (o : Option DocFault) (x r : Reference) → unless_fault o x ≡ Ok r → x ≡ r
clean None x r h = cc
clean (Some fault) x r h = absurd cc

-- what the checker passes
pub checked_reference : (raw : RawReference) (r : Reference) → reference_checked raw ≡ Ok r → IsReference r
unfolding reference_checked
checked_reference raw r h = subst IsReference (clean (reference_read raw).fault (reference_read raw).value r h) (reference_good raw)
