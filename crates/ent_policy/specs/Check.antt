-- What the checker answers: the first fault of a document, or its tree.
use Rattle.std.specs.Prelude.{◌≡◌, [], ◌∷◌, Option, Some, None, Result, Ok, Err, not}
use Rattle.ent_policy.specs.declared.document.Child.{Child}
use Rattle.ent_policy.specs.declared.document.Tree.{Tree}
use Rattle.ent_policy.specs.declared.key.Reference.{Reference}
use Rattle.ent_policy.specs.declared.fault.DocFault.{DocFault}
use Rattle.ent_policy.specs.declared.fault.DocFault.TheVariants.{Variable, Size, Depth, «Type»}
use Rattle.ent_policy.specs.declared.raw.RawDocument.{RawDocument}
use Rattle.ent_policy.specs.declared.raw.RawReference.{RawReference}
use Rattle.ent_policy.specs.Children.{as_child}
use Rattle.ent_policy.specs.Depths.{exceeds_depth}
use Rattle.ent_policy.specs.First.{earlier, first_of, if_so}
use Rattle.ent_policy.specs.Limits.{limit_fault}
use Rattle.ent_policy.specs.Reading.{document_read, reference_read}
use Rattle.ent_policy.specs.Sizes.{exceeds_size}
use Rattle.ent_policy.specs.Typing.{is_typed}
use Rattle.ent_policy.specs.Variables.{has_variable_fault}

-- the first fault of a document as a whole
abbrev pub whole_fault : Child → Option DocFault
whole_fault c = first_of (if_so (has_variable_fault c) Variable
    ∷ if_so (exceeds_size c) Size
    ∷ if_so (exceeds_depth c) Depth
    ∷ if_so (not (is_typed c)) «Type»
    ∷ [])

-- the first fault of a document's tree: a limit that a part exceeds, or one of the whole
unfoldable pub tree_fault : Tree → Option DocFault
tree_fault t = earlier (limit_fault (as_child t)) (whole_fault (as_child t))

-- the first fault of a document: one of a name or a value that can't be read, or one of the tree
unfoldable pub fault_of : RawDocument → Option DocFault
fault_of d = earlier (document_read d).fault (tree_fault (document_read d).value)

-- what is read, unless there is a fault
abbrev pub unless_fault : {A : Type 0} → Option DocFault → A → Result A DocFault
unless_fault None read = Ok read
unless_fault (Some fault) read = Err fault

-- what the checker answers of a document: its first fault, or else its tree
unfoldable pub checked : RawDocument → Result Tree DocFault
checked d = unless_fault (fault_of d) (document_read d).value

-- what the checker passes: read of some document that has no fault
abbrev pub IsChecked : Tree → Type 0
IsChecked t = (d : RawDocument) × (checked d ≡ Ok t)

-- what the checker answers of a reference that stands alone
unfoldable pub reference_checked : RawReference → Result Reference DocFault
reference_checked r = unless_fault (reference_read r).fault (reference_read r).value
