-- Values of one type that lie in one place.
use Rattle.std.proofs.Common.{◌≡◌, true, List, [], ◌++◌, arith, length, subst, sym}
use Rattle.std.specs.Prelude.{◌==◌}
use Rattle.std.proofs.lemmas.Bool.{eqb-true}
use Rattle.std.proofs.lemmas.List.{nil_from_length}
use Rattle.std.proofs.lemmas.List.Elements.{All-append}
use Rattle.ent_values.specs.Bags.{AllOfType}
use Rattle.ent_values.specs.Types.{datatype_of}
use Rattle.ent_values.specs.declared.datatype.DataType.{DataType}
use Rattle.ent_values.specs.declared.value.Value.{Value}

-- none are of any type
pub of_none : (datatype : DataType) → AllOfType datatype []
of_none datatype = λ i d lt. absurd (omega arith)

-- those of two places are
pub of_both : (datatype : DataType) (all xs ys : List Value) → all ≡ xs ++ ys → AllOfType datatype xs → AllOfType datatype ys → AllOfType datatype all
of_both datatype all xs ys is front back = subst (AllOfType datatype) (sym is) (All-append (λ value. datatype_of value ≡ datatype) xs ys front back)

-- where there is none
pub none_there : (vs : List Value) → (length vs == 0) ≡ true → vs ≡ []
none_there vs h = nil_from_length vs (eqb-true (length vs) 0 h)
