-- Where something can't be read, no type matters: a fault of types is told last.
use Rattle.std.proofs.Common.{◌≡◌, List, [], ◌∷◌, ◌++◌, Bool, true, false, Option, Some, None, nat_le, refl, sym, ◌∙◌}
use Rattle.std.specs.Prelude.{if◌then◌else◌, not}
use Rattle.ent_policy.specs.Check.{fault_of, tree_fault}
use Rattle.ent_policy.specs.Children.{as_child}
use Rattle.ent_policy.specs.Depths.{exceeds_depth}
use Rattle.ent_policy.specs.First.{earlier, first_of, if_so, place}
use Rattle.ent_policy.specs.Limits.{limit_fault}
use Rattle.ent_policy.specs.Reading.{document_read}
use Rattle.ent_policy.specs.Sizes.{exceeds_size}
use Rattle.ent_policy.specs.StandIns.{untyped_fault}
use Rattle.ent_policy.specs.Typing.{is_typed}
use Rattle.ent_policy.specs.Variables.{has_variable_fault}
use Rattle.ent_policy.specs.declared.document.Tree.{Tree}
use Rattle.ent_policy.specs.declared.fault.DocFault.{DocFault}
use Rattle.ent_policy.specs.declared.fault.DocFault.TheVariants.{Form, Identifier, Version, Algorithm, Function, Variable, Size, Depth, «Type»}
use Rattle.ent_policy.specs.declared.raw.RawDocument.{RawDocument}
use Rattle.ent_policy.proofs.Firsts.{earlier_assoc}

-- a fault of types is told after every other
type_is_last : (f : DocFault) → earlier (Some f) (Some «Type») ≡ Some f
type_is_last Form = refl
type_is_last Identifier = refl
type_is_last Version = refl
type_is_last Algorithm = refl
type_is_last Function = refl
type_is_last Variable = refl
type_is_last Size = refl
type_is_last Depth = refl
type_is_last «Type» = refl

one_of_two : (f g : DocFault) (b : Bool) → (h : DocFault) × ((if b then Some f else Some g) ≡ Some h)
one_of_two f g true = (f, refl)
one_of_two f g false = (g, refl)

-- where there is a fault, there is a first one
some_earlier : (f : DocFault) (o : Option DocFault) → (h : DocFault) × (earlier (Some f) o ≡ Some h)
some_earlier f None = (f, refl)
some_earlier f (Some g) = one_of_two f g (nat_le (place f) (place g))

-- behind a fault and some more a fault of types changes nothing
last_of : (f : DocFault) (others : List (Option DocFault)) (b : Bool) → earlier (Some f) (first_of (others ++ if_so b «Type» ∷ [])) ≡ earlier (Some f) (first_of others)
last_of f [] true = type_is_last f
last_of f [] false = refl
last_of f (o ∷ others) b =
    let first = some_earlier f o in
    let same : earlier (earlier (Some f) o) (first_of (others ++ if_so b «Type» ∷ [])) ≡ earlier (earlier (Some f) o) (first_of others) =
    rw first.1 (last_of first.0 others b) in
    sym (earlier_assoc (Some f) o (first_of (others ++ if_so b «Type» ∷ []))) ∙ same ∙ earlier_assoc (Some f) o (first_of others)

pub stand_ins : (d : RawDocument) (fault : DocFault) → (document_read d).fault ≡ Some fault → fault_of d ≡ earlier (Some fault) (untyped_fault (document_read d).value)
unfolding fault_of tree_fault
stand_ins d fault is = rw is (of_tree (document_read d).value) where
  of_tree : (t : Tree) → earlier (Some fault) (tree_fault t) ≡ earlier (Some fault) (untyped_fault t)
  of_tree t = last_of fault (limit_fault (as_child t) ∷ if_so (has_variable_fault (as_child t)) Variable ∷ if_so (exceeds_size (as_child t)) Size ∷ if_so (exceeds_depth (as_child t)) Depth ∷ []) (not (is_typed (as_child t)))
