-- What is noted of a part in which what fails is passed over.
use Rattle.std.proofs.Common.{◌≡◌, List, [], ◌∷◌, Option, Some, None, map, true, refl, sym, ap, ◌∙◌}
use Rattle.std.specs.Prelude.{is_some, option_map}
use Rattle.ent_trace.specs.declared.causes.Causes.{Causes}
use Rattle.ent_trace.specs.proofs_only.Met.{all_passed, with_failing, with_passed}
use Rattle.ent_trace.specs.proofs_only.Noted.{Notes, is_named, noting, passing, passing_unless, with_failure, with_note}
use Rattle.ent_request.specs.Note.{Note, asks, fails, passed, passed_over}
use Rattle.ent_request.specs.declared.cause.Cause.{Cause}

abbrev pass : Causes → Causes
pass k = record k { told = all_passed k.told }

pass_twice : (o : Option Causes) → option_map pass (option_map pass o) ≡ option_map pass o
pass_twice None = refl
pass_twice (Some k) = refl

passing_twice : (n : Notes) → passing (passing n) ≡ passing n
passing_twice n = ap (λ o. record n { causes = o }) (pass_twice n.causes)

-- what is passed over before one more note is passed over behind it
note_passed : (n : Notes) (x : Note) → passing (with_note (passing n) x) ≡ passing (with_note n x)
note_passed n (asks question) = ap (λ o. record (with_note n (asks question)) { causes = o }) (pass_twice n.causes)
note_passed n (fails cause) = ap (λ o. record n { causes = o; failed = true }) (at n.causes) where
  at : (o : Option Causes) → option_map pass (with_failure with_failing (option_map pass o) cause)
      ≡ option_map pass (with_failure with_failing o cause)
  at None = refl
  at (Some k) = refl
note_passed n (passed cause) = ap (λ o. record n { causes = o; failed = true }) (at n.causes) where
  at : (o : Option Causes) → option_map pass (with_failure with_passed (option_map pass o) cause)
      ≡ option_map pass (with_failure with_passed o cause)
  at None = refl
  at (Some k) = refl

-- and before several
notes_passed : (n : Notes) (ns : List Note) → passing (noting (passing n) ns) ≡ passing (noting n ns)
notes_passed n [] = passing_twice n
notes_passed n (x ∷ ns) =
    sym (notes_passed (with_note (passing n) x) ns) ∙ ap (λ m. passing (noting m ns)) (note_passed n x)
    ∙ notes_passed (with_note n x) ns

-- where nothing is named nothing has to be passed over
unnamed : (n : Notes) → n ≡ passing_unless (is_named n) n
unnamed n = at n.causes where
  at : (o : Option Causes) → record n { causes = o }
      ≡ passing_unless (is_named (record n { causes = o })) (record n { causes = o })
  at None = refl
  at (Some k) = of k.told.named where
    of : (named : Option Cause) → record n { causes = Some (record k { told = record k.told { named = named } }) }
        ≡ passing_unless (is_some named)
        (record n { causes = Some (record k { told = record k.told { named = named } }) })
    of None = refl
    of (Some cause) = refl

-- a cause that is passed over names none
named_same : (n : Notes) (cause : Cause) → is_named (with_note n (passed cause)) ≡ is_named n
named_same n cause = at n.causes where
  at : (o : Option Causes) → is_named (record n { causes = with_failure with_passed o cause; failed = true })
      ≡ is_named (record n { causes = o })
  at None = refl
  at (Some k) = refl

-- a cause is as good as passed over, unless one was named before
cause_passed : (n : Notes) (cause : Cause) (ns : List Note)
    → passing_unless (is_named n) (noting (with_note n (passed cause)) ns)
    ≡ passing_unless (is_named n) (noting (with_note n (fails cause)) ns)
cause_passed n cause ns = at n.causes where
  at : (o : Option Causes)
      → passing_unless (is_named (record n { causes = o })) (noting (with_note (record n { causes = o }) (passed cause)) ns)
      ≡ passing_unless (is_named (record n { causes = o })) (noting (with_note (record n { causes = o }) (fails cause)) ns)
  at None = refl
  at (Some k) = of k.told.named where
    with_named : Option Cause → Notes
    with_named named = record n { causes = Some (record k { told = record k.told { named = named } }) }

    of : (named : Option Cause)
        → passing_unless (is_some named) (noting (with_note (with_named named) (passed cause)) ns)
        ≡ passing_unless (is_some named) (noting (with_note (with_named named) (fails cause)) ns)
    of None = notes_passed (with_note (with_named None) (fails cause)) ns
    of (Some first) = refl

-- what is noted of such a part is what is noted of it otherwise, and passed over unless a cause was named before
pub noting_passed : (n : Notes) (ns : List Note)
    → noting n (map passed_over ns) ≡ passing_unless (is_named n) (noting n ns)
noting_passed n [] = unnamed n
noting_passed n (asks question ∷ ns) = noting_passed (with_note n (asks question)) ns
noting_passed n (fails cause ∷ ns) =
    noting_passed (with_note n (passed cause)) ns
    ∙ ap (λ b. passing_unless b (noting (with_note n (passed cause)) ns)) (named_same n cause) ∙ cause_passed n cause ns
noting_passed n (passed cause ∷ ns) =
    noting_passed (with_note n (passed cause)) ns
    ∙ ap (λ b. passing_unless b (noting (with_note n (passed cause)) ns)) (named_same n cause)
