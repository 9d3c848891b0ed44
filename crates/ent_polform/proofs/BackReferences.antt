-- References that are read, written and read again.
use Rattle.std.proofs.Common.{◌≡◌, ℕ, List, [], ◌∷◌, Bool, true, false, IsTrue, Option, Some, None, option_map, Ok, codes, cond, refl, ap}
use Rattle.ent_policy.specs.Check.{reference_checked}
use Rattle.ent_policy.specs.Names.{is_bad_name, name_of}
use Rattle.ent_policy.specs.Patterns.{pattern_of, pattern_text}
use Rattle.ent_policy.specs.Reading.{constraints_read, done, known, made, maybe_read, pattern_read, reference_read}
use Rattle.ent_policy.specs.declared.fault.DocFault.TheVariants.{Identifier, Version}
use Rattle.ent_policy.specs.declared.key.Kind.{Kind}
use Rattle.ent_policy.specs.declared.key.Kind.TheVariants as kinds
use Rattle.ent_policy.specs.declared.key.Reference.{Reference}
use Rattle.ent_policy.specs.declared.pattern.PatternPart.{PatternPart}
use Rattle.ent_policy.specs.declared.pattern.PatternPart.TheVariants.{Any}
use Rattle.ent_policy.specs.declared.raw.RawReference.{RawReference}
use Rattle.ent_policy.proofs.Patterns.{is_pattern_of}
use Rattle.ent_policy.proofs.Written.{patterns_read_back}
use Rattle.ent_policy.proofs.Wholes.{ReadOf}
use Rattle.ent_polform.specs.ReadBack.{ReferencesReadBack, is_maybe_pattern}
use Rattle.ent_polform.specs.Reference.{kind_of, reference_by, reference_key, reference_of}
use Rattle.ent_polform.specs.Written.{reference_body, reference_written}
use Rattle.ent_polform.proofs.Back.{Back}

pub kind_back : (kind : Kind) → kind_of (reference_key kind) ≡ Some kind
kind_back kinds.Policy = refl
kind_back kinds.PolicySet = refl

abbrev id_read : List ℕ → ReadOf (List ℕ)
id_read text = known (codes "-") Identifier (name_of text)

-- what is read of an id is a name, also where the id is none
id_again : (text : List ℕ) → id_read (id_read text).value ≡ done (id_read text).value
id_again text = at (is_bad_name text) refl
  where
    at : (bad : Bool) → is_bad_name text ≡ bad → id_read (known (codes "-") Identifier (cond bad None (Some text))).value ≡ done (known (codes "-") Identifier (cond bad None (Some text))).value
    at true h = refl
    at false h = rw h refl

-- and of the text of a pattern a pattern
pattern_again : (text : List ℕ) → pattern_read (pattern_text (pattern_read text).value) ≡ done (pattern_read text).value
pattern_again text = at (pattern_of text) refl
  where
    at : (o : Option (List PatternPart)) → pattern_of text ≡ o → pattern_read (pattern_text (known (Any ∷ []) Version o).value) ≡ done (known (Any ∷ []) Version o).value
    at None h = rw (patterns_read_back (Any ∷ []) refl) refl
    at (Some pattern) h = rw (patterns_read_back pattern (is_pattern_of text pattern h)) refl

constraint_again : (text : Option (List ℕ)) → maybe_read pattern_read (option_map pattern_text (maybe_read pattern_read text).value) ≡ done (maybe_read pattern_read text).value
constraint_again None = refl
constraint_again (Some text) = ap (made (λ pattern. Some pattern)) (pattern_again text)

reference_form : (kind : Kind) (id : List ℕ) (version earliest latest : Option (List PatternPart)) →
    reference_by kind (reference_body (record { kind = kind; id = id; constraints = record { version = version; earliest = earliest; latest = latest } }))
    ≡ Ok (record { kind = kind; id = id; version = option_map pattern_text version; earliest = option_map pattern_text earliest; latest = option_map pattern_text latest })
unfolding reference_by
reference_form kind id None None None = refl
reference_form kind id None None (Some latest) = refl
reference_form kind id None (Some earliest) None = refl
reference_form kind id None (Some earliest) (Some latest) = refl
reference_form kind id (Some version) None None = refl
reference_form kind id (Some version) None (Some latest) = refl
reference_form kind id (Some version) (Some earliest) None = refl
reference_form kind id (Some version) (Some earliest) (Some latest) = refl

abbrev pub ReferenceReturns : Reference → Type 0
ReferenceReturns r = Back (reference_by r.kind (reference_body r)) reference_read [] r

-- what is written of what is read of a reference reads back
pub reference_back : (raw : RawReference) → ReferenceReturns (reference_read raw).value
unfolding reference_read constraints_read
reference_back raw =
    let version = (maybe_read pattern_read raw.version).value in
    let earliest = (maybe_read pattern_read raw.earliest).value in
    let latest = (maybe_read pattern_read raw.latest).value in (
      record { kind = raw.kind; id = (id_read raw.id).value; version = option_map pattern_text version; earliest = option_map pattern_text earliest; latest = option_map pattern_text latest },
      (
        reference_form raw.kind (id_read raw.id).value version earliest latest,
        record { same = λ few. rw (id_again raw.id, constraint_again raw.version, constraint_again raw.earliest, constraint_again raw.latest) refl; few = λ clear. tt },
      ),
    )

-- ---- a reference that stands alone

constraint_back : (o : Option (List PatternPart)) → IsTrue (is_maybe_pattern o) → maybe_read pattern_read (option_map pattern_text o) ≡ done o
constraint_back None h = refl
constraint_back (Some parts) h = rw (patterns_read_back parts h) refl

pub references_back : ReferencesReadBack
unfolding reference_of reference_written reference_checked reference_read constraints_read
references_back r is =
    let c = r.constraints in
    rw (kind_back r.kind, reference_form r.kind r.id c.version c.earliest c.latest, is.name, constraint_back c.version is.version, constraint_back c.earliest is.earliest, constraint_back c.latest is.latest) refl
