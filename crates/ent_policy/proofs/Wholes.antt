-- The faults of a document as a whole.
use Rattle.std.specs.Prelude.{if◌then◌else◌}
use Rattle.std.proofs.Common.{◌≡◌, ℕ, ◌+◌, [], ◌∷◌, Bool, true, false, not, min, nat_eq, nat_lt, nat_le, Option, Some, None, Ok, refl, sym, ap, subst, ◌∙◌, arith}
use Rattle.std.proofs.lemmas.Bool.Decides.{nat_tests}
use Rattle.ent_policy.specs.Check.{IsChecked, checked, fault_of, tree_fault, unless_fault, whole_fault}
use Rattle.ent_policy.specs.Children.{as_child}
use Rattle.ent_policy.specs.Depths.{exceeds_depth}
use Rattle.ent_policy.specs.First.{earlier, first_of, if_so, place}
use Rattle.ent_policy.specs.Limits.{limit_fault}
use Rattle.ent_policy.specs.Reading.{document_read}
use Rattle.ent_policy.specs.Sizes.{exceeds_size}
use Rattle.ent_policy.specs.Typing.{is_typed}
use Rattle.ent_policy.specs.Variables.{has_variable_fault}
use Rattle.ent_policy.specs.declared.document.Child.{Child}
use Rattle.ent_policy.specs.declared.document.Tree.{Tree}
use Rattle.ent_policy.specs.declared.fault.DocFault.{DocFault}
use Rattle.ent_policy.specs.declared.fault.DocFault.TheVariants.{Variable, Size, Depth, «Type»}
use Rattle.ent_policy.specs.declared.raw.RawDocument.{RawDocument}
use Rattle.ent_policy.specs.declared.read.Read.{Read}

first_bad : (s d t : Bool) → Some Variable ≡ first_of (Some Variable ∷ if_so s Size ∷ if_so d Depth ∷ if_so t «Type» ∷ [])
first_bad true true true = refl
first_bad true true false = refl
first_bad true false true = refl
first_bad true false false = refl
first_bad false true true = refl
first_bad false true false = refl
first_bad false false true = refl
first_bad false false false = refl

-- a bad variable comes before what else is wrong with the whole
pub variable_first : (c : Child) → has_variable_fault c ≡ true → Some Variable ≡ whole_fault c
variable_first c bad = rw bad (first_bad (exceeds_size c) (exceeds_depth c) (not (is_typed c)))

cut_at : (limit n : ℕ) → nat_eq (min (limit + 1) n) (limit + 1) ≡ nat_lt limit n
cut_at limit n = grind (arith, nat_tests)

-- ---- what passes

-- what is read of a part, as the proofs of other crates name it
abbrev pub ReadOf : Type 0 → Type 0
ReadOf A = Read A

-- where the first of two is none, neither is there
pub neither : (a b : Option DocFault) → earlier a b ≡ None → (a ≡ None) × (b ≡ None)
neither None b h = (refl, h)
neither (Some f) None h = absurd cc
neither (Some f) (Some g) h = absurd (some_left (nat_le (place f) (place g)) h)
  where
    some_left : (b : Bool) → (if b then Some f else Some g) ≡ None → ⊥
    some_left true h = absurd cc
    some_left false h = absurd cc

clean : (o : Option DocFault) (x t : Tree) → unless_fault o x ≡ Ok t → (o ≡ None) × (x ≡ t)
clean None x t h = (refl, cc)
clean (Some fault) x t h = absurd cc

-- what is read without a fault passes
pub made : (raw : RawDocument) (read : Read Tree) (found first : Option DocFault) → read ≡ document_read raw → found ≡ tree_fault read.value → first ≡ earlier read.fault found → first ≡ None → checked raw ≡ Ok read.value
unfolding checked fault_of
made raw read found first same a b none =
    let clean : earlier (document_read raw).fault (tree_fault (document_read raw).value) ≡ None =
    subst (λ (r : Read Tree). earlier r.fault (tree_fault r.value) ≡ None) same (ap (earlier read.fault) (sym a) ∙ sym b ∙ none) in
    rw clean (ap (λ (r : Read Tree). Ok r.value) (sym same))

-- what the checker passes is what is read of a document that has no fault
pub passes : (d : RawDocument) (t : Tree) → checked d ≡ Ok t → (fault_of d ≡ None) × ((document_read d).value ≡ t)
unfolding checked
passes d t h = clean (fault_of d) (document_read d).value t h

-- and has no fault
pub passed : (t : Tree) → IsChecked t → tree_fault t ≡ None
unfolding fault_of
passed t (d, h) =
    let c = passes d t h in
    (neither (document_read d).fault (tree_fault t) (ap (λ x. earlier (document_read d).fault (tree_fault x)) (sym c.1) ∙ c.0)).1

not_typed : (v s d t : Bool) → first_of (if_so v Variable ∷ if_so s Size ∷ if_so d Depth ∷ if_so (not t) «Type» ∷ []) ≡ None → t ≡ true
not_typed v s d true h = refl
not_typed true s d false h = let e : Some Variable ≡ None = first_bad s d true ∙ h in absurd cc
not_typed false true true false h = absurd cc
not_typed false true false false h = absurd cc
not_typed false false true false h = absurd cc
not_typed false false false false h = absurd cc

-- and each expression in it has its type
pub passed_typed : (t : Tree) → IsChecked t → is_typed (as_child t) ≡ true
unfolding tree_fault
passed_typed t c =
    let w = as_child t in
    not_typed (has_variable_fault w) (exceeds_size w) (exceeds_depth w) (is_typed w) (neither (limit_fault w) (whole_fault w) (passed t c)).1
