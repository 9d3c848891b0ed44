-- What answers tell, and that it reads back.
use Rattle.std.proofs.Common.{◌≡◌, List, [], Bool, true, false, sym, subst, IsUtf8}
use Rattle.std.specs.Prelude.{Result, Ok, Err, if◌then◌else◌}
use Rattle.std.specs.List.{AllByRecursion}
use Rattle.ent_policy.specs.declared.key.DocKey.{DocKey}
use Rattle.ent_request.specs.declared.answer.Answer.{Answer}
use Rattle.ent_request.specs.declared.answer.Status.{Status}
use Rattle.ent_request.specs.declared.answer.WhyEntry.{WhyEntry}
use Rattle.ent_request.specs.declared.given.Assignment.{Assignment}
use Rattle.ent_request.specs.declared.given.Given.{Given}
use Rattle.law_restart.proofs.Utf8Data.{IfThere}
use Rattle.law_compared.proofs.GoodFunctions.{IsGood}

-- what an assignment tells reads back
pub record IsToldAssignment (a : Assignment) : Type 0 where
  pub attribute : IsUtf8 a.attribute
  pub category : IfThere IsUtf8 a.category
  pub issuer : IfThere IsUtf8 a.issuer
  pub value : IsGood a.value

-- and so does an obligation or an advice
pub record IsToldGiven (g : Given) : Type 0 where
  pub id : IsUtf8 g.id
  pub assignments : AllByRecursion IsToldAssignment g.assignments

-- the documents on a path
abbrev pub IsToldPath : List DocKey → Type 0
IsToldPath = AllByRecursion (λ (k : DocKey). IsUtf8 k.id)

-- a rule that gave a decision
pub record IsToldEntry (e : WhyEntry) : Type 0 where
  pub path : IsToldPath e.path
  pub rule : IfThere IsUtf8 e.rule

-- and an answer
pub record IsGoodAnswer (a : Answer) : Type 0 where
  pub why : AllByRecursion IsToldEntry a.why
  pub obligations : AllByRecursion IsToldGiven a.obligations
  pub advice : AllByRecursion IsToldGiven a.advice

pub none_good : (a : Answer) → a.why ≡ [] → a.obligations ≡ [] → a.advice ≡ [] → IsGoodAnswer a
none_good a o p q = record {
  why = subst (AllByRecursion IsToldEntry) (sym o) tt;
  obligations = subst (AllByRecursion IsToldGiven) (sym p) tt;
  advice = subst (AllByRecursion IsToldGiven) (sym q) tt;
}

-- ---- lists, each of which may be Indeterminate

abbrev pub IfAll : {A : Type 0} → (A → Type 0) → Result (List A) Status → Type 0
IfAll P (Ok xs) = AllByRecursion P xs
IfAll P (Err status) = Unit {0}

-- ---- what a test chooses

pub either : {A : Type 0} (P : A → Type 0) (b : Bool) (x y : A) → P x → P y → P (if b then x else y)
either P true x y h g = h
either P false x y h g = g
