-- What stands where a name or a value of a document can't be read.
use Rattle.std.specs.Prelude.{◌≡◌, [], ◌∷◌, Option, Some}
use Rattle.ent_policy.specs.declared.document.Tree.{Tree}
use Rattle.ent_policy.specs.declared.fault.DocFault.{DocFault}
use Rattle.ent_policy.specs.declared.fault.DocFault.TheVariants.{Variable, Size, Depth}
use Rattle.ent_policy.specs.declared.raw.RawDocument.{RawDocument}
use Rattle.ent_policy.specs.Check.{fault_of}
use Rattle.ent_policy.specs.Children.{as_child}
use Rattle.ent_policy.specs.Depths.{exceeds_depth}
use Rattle.ent_policy.specs.First.{earlier, first_of, if_so}
use Rattle.ent_policy.specs.Limits.{limit_fault}
use Rattle.ent_policy.specs.Reading.{document_read}
use Rattle.ent_policy.specs.Sizes.{exceeds_size}
use Rattle.ent_policy.specs.Variables.{has_variable_fault}

-- the first fault of a tree that asks for no type, function or value: of limits, of variables, of size or of depth
abbrev pub untyped_fault : Tree → Option DocFault
untyped_fault t = first_of (limit_fault (as_child t)
    ∷ if_so (has_variable_fault (as_child t)) Variable
    ∷ if_so (exceeds_size (as_child t)) Size
    ∷ if_so (exceeds_depth (as_child t)) Depth
    ∷ [])

-- where something can't be read, the types of what is read don't matter, nor those of what stands in for it
abbrev pub StandInsHaveNoType : Type 0
StandInsHaveNoType = (d : RawDocument) (fault : DocFault) → (document_read d).fault ≡ Some fault → fault_of d ≡ earlier (Some fault) (untyped_fault (document_read d).value)
