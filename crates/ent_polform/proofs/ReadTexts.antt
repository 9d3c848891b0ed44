-- What the text of a document is read as.
use Rattle.std.proofs.Common.{◌≡◌, ℕ, List, Some, ap, arith, sym, ◌∙◌}
use Rattle.serde_json.specs.Data.{Data}
use Rattle.serde_json.specs.Read.{read}
use Rattle.serde_json.specs.Written.{compact_text}
use Rattle.ent_policy.specs.Check.{IsChecked}
use Rattle.ent_policy.specs.declared.document.Tree.{Tree}
use Rattle.ent_polform.proofs.FittingDocuments.{document_fits}
use Rattle.ent_polform.proofs.Texts.{text_read}
use Rattle.ent_polform.specs.Written.{written}

there_is : {A : Type 0} (x y : A) → Some x ≡ Some y → x ≡ y
there_is x y h = cc

-- the text of a document that the checker passes is read as what is written of it
pub text_is : (t document : Tree) → t ≡ document → IsChecked t → (text : List ℕ) → text ≡ compact_text (written document)
    → (d : Data) → read text ≡ Some d → d ≡ written t
text_is t document same by_check text is d reads =
    let fits = document_fits t by_check in
    let low = fits.shallow in
    there_is d (written t)
    (sym reads ∙ ap read (is ∙ ap (λ x. compact_text (written x)) (sym same)) ∙ text_read (written t) fits.plain (omega (arith, low)))
