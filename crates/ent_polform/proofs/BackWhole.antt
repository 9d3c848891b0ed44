-- A document that the checker passes is read again of what is written of it.
use Rattle.std.proofs.Common.{◌≡◌, None, Ok, refl, sym, ap, subst, ◌∙◌}
use Rattle.ent_policy.specs.Check.{IsChecked, checked, fault_of, tree_fault, whole_fault}
use Rattle.ent_policy.specs.Children.{as_child}
use Rattle.ent_policy.specs.Limits.{limit_fault}
use Rattle.ent_policy.specs.Reading.{document_read}
use Rattle.ent_policy.specs.Values.{document_values}
use Rattle.ent_policy.specs.declared.document.Tree.{Tree}
use Rattle.ent_policy.proofs.Wholes.{neither, passed, passes}
use Rattle.ent_policy.proofs.Within.{passed_within}
use Rattle.ent_polform.specs.Form.{document_of, raw_of}
use Rattle.ent_polform.specs.Objects.{◌>>=◌}
use Rattle.ent_polform.specs.ReadBack.{DocumentsReadBack}
use Rattle.ent_polform.specs.Written.{written}
use Rattle.ent_polform.proofs.Back.{AreFew, Back}
use Rattle.ent_polform.proofs.BackDocuments.{TreeReturns, document_back}

no_limit : (t : Tree) → tree_fault t ≡ None → limit_fault (as_child t) ≡ None
unfolding tree_fault
no_limit t clean = (neither (limit_fault (as_child t)) (whole_fault (as_child t)) clean).0

-- what reads back as a tree without a fault is that document
checked_again : (t : Tree) → tree_fault t ≡ None → AreFew (document_values t) → Back (raw_of (written t)) document_read (document_values t) t → document_of (written t) ≡ Ok t
unfolding document_of checked fault_of
checked_again t clean few back = rw (back.1.0, back.1.1.same few, clean) refl

written_returns : (t : Tree) → IsChecked t → Back (raw_of (written t)) document_read (document_values t) t
written_returns t by_check =
    let same = (passes by_check.0 t by_check.1).1 in
    subst TreeReturns same (document_back by_check.0) (no_limit t (passed t by_check)) (passed_within t by_check)

pub documents_back : DocumentsReadBack
documents_back t by_check few = checked_again t (passed t by_check) few (written_returns t by_check)

-- and where it is read as any document, its durations have few years
pub document_few : (t read : Tree) → IsChecked t → document_of (written t) ≡ Ok read → AreFew (document_values t)
unfolding document_of fault_of
document_few t read by_check h =
    let back = written_returns t by_check in
    let passing : checked back.0 ≡ Ok read = sym (ap (λ r. r >>= checked) back.1.0) ∙ h in
    back.1.1.few (neither (document_read back.0).fault (tree_fault (document_read back.0).value) (passes back.0 read passing).0).0
