-- What the tests of a comparison say of two answers to a request.
use Rattle.std.proofs.Common.{◌≡◌, ◌≢◌, Bool, true, false, not, Option, Some, None, option_map, refl, ap}
use Rattle.std.specs.Prelude.{◌&&◌, is_some}
use Rattle.std.specs.Bool.{Decides}
use Rattle.std.specs.Cmp.Lexicographic.{bytes_decides}
use Rattle.std.proofs.lemmas.Bool.{false≢true}
use Rattle.serde_json.specs.Data.{Data}
use Rattle.ent_combine.specs.declared.outcome.Outcome.{Outcome}
use Rattle.ent_request.specs.declared.answer.Answer.{Answer}
use Rattle.ent_table.specs.Names.{Triple}
use Rattle.ent_polform.specs.Plain.{IsPlain}
use Rattle.script_matching.specs.Matching.{fits}
use Rattle.script_compare.specs.Changes.{same_decision}
use Rattle.ent_line.specs.Cells.{cell_data}
use Rattle.ent_command.specs.Wanted.{decision_text}
use Rattle.law_compared.proofs.Alike.{fits_decides}
use Rattle.law_compared.proofs.Cells.{decisions_told, no_decision, some_decision}
use Rattle.law_compared.proofs.Compared.{tells_other}

-- the cell and the decision of an answer, if there is one
abbrev pub as_cell : Triple → Option Answer → Option Data
as_cell x o = option_map (λ (a : Answer). cell_data (x, a)) o

abbrev pub as_decision : Option Answer → Option Outcome
as_decision o = option_map (λ (a : Answer). a.decision) o

there_is : {A : Type 0} (x y : A) → Some x ≡ Some y → x ≡ y
there_is x y h = cc

pub not_true : (b : Bool) → not b ≡ true → b ≡ false
not_true true e = absurd (false≢true e)
not_true false e = refl

pub is_false : (b : Bool) → (b ≡ true → ⊥) → b ≡ false
is_false true never = absurd (never refl)
is_false false never = refl

-- cells of the same decision are those of answers with the same
pub same_told : (x : Triple) (o p : Option Answer)
    → Decides (same_decision (as_cell x o) (as_cell x p)) (as_decision o ≡ as_decision p)
same_told x None None = (λ e. refl, λ e. refl)
same_told x None (Some b) = (λ e. let other = no_decision b.decision in absurd cc, λ e. absurd cc)
same_told x (Some a) None = (λ e. let other = some_decision a.decision in absurd cc, λ e. absurd cc)
same_told x (Some a) (Some b) = (
  λ e. ap Some
      (decisions_told a.decision b.decision
      ((bytes_decides (decision_text a.decision) (decision_text b.decision)).0 e)),
  λ e. (bytes_decides (decision_text a.decision) (decision_text b.decision)).1
      (ap decision_text (there_is a.decision b.decision e)),
)

-- the cell of an answer, if there is one, is plain
abbrev pub IsPlainCell : Triple → Option Answer → Type 0
IsPlainCell x None = Unit {0}
IsPlainCell x (Some a) = IsPlain (cell_data (x, a))

-- there are answers with the same decision, and their cells are others
pub record IsOther (x : Triple) (o p : Option Answer) : Type 0 where
  pub there : is_some o ≡ true
  pub same : as_decision o ≡ as_decision p
  pub another : as_cell x o ≢ as_cell x p

clash : (b : Bool) → not b ≡ true → b ≡ true → ⊥
clash true e f = false≢true e
clash false e f = false≢true f

both_true : (a b : Bool) → (a && b) ≡ true → (a ≡ true) × (b ≡ true)
both_true true b h = (refl, h)
both_true false b h = absurd cc

telling : (s f : Bool) → s ≡ true → f ≡ false → (s && not f) ≡ true
telling true true e g = absurd cc
telling true false e g = refl
telling false f e g = absurd cc

pub other_told : (x : Triple) (o p : Option Answer) → IsPlainCell x o → IsPlainCell x p
    → Decides (tells_other (as_cell x o) (as_cell x p)) (IsOther x o p)
other_told x None p h g = (λ e. absurd (false≢true e), λ is. absurd (false≢true is.there))
other_told x (Some a) None h g = (λ e. absurd (false≢true e), λ is. let same = is.same in absurd cc)
other_told x (Some a) (Some b) h g = (tells, told)
  where
    c : Data
    c = cell_data (x, a)

    d : Data
    d = cell_data (x, b)

    tells : tells_other (Some c) (Some d) ≡ true → IsOther x (Some a) (Some b)
    tells e =
        let both = both_true (same_decision (Some c) (Some d)) (not (fits true c d)) e in
        record {
          there = refl;
          same = (same_told x (Some a) (Some b)).0 both.0;
          another = λ is. clash (fits true c d) both.1 ((fits_decides c d h g).1 (there_is c d is));
        }

    told : IsOther x (Some a) (Some b) → tells_other (Some c) (Some d) ≡ true
    told is =
        telling (same_decision (Some c) (Some d)) (fits true c d) ((same_told x (Some a) (Some b)).1 is.same)
        (is_false (fits true c d) (λ e. is.another (ap Some ((fits_decides c d h g).0 e))))

-- answers of the same decision whose cells aren't told as others have the same cell
pub same_cells : (x : Triple) (o p : Option Answer) → IsPlainCell x o → IsPlainCell x p
    → same_decision (as_cell x o) (as_cell x p) ≡ true → tells_other (as_cell x o) (as_cell x p) ≡ false
    → as_cell x o ≡ as_cell x p
same_cells x None None h g same nonene = refl
same_cells x None (Some b) h g same nonene = let other = no_decision b.decision in absurd cc
same_cells x (Some a) None h g same nonene = let other = some_decision a.decision in absurd cc
same_cells x (Some a) (Some b) h g same nonene =
    ap Some ((fits_decides c d h g).0 (fitting (same_decision (Some c) (Some d)) (fits true c d) same nonene))
  where
    c : Data
    c = cell_data (x, a)

    d : Data
    d = cell_data (x, b)

    fitting : (s f : Bool) → s ≡ true → (s && not f) ≡ false → f ≡ true
    fitting true true e none = refl
    fitting true false e none = absurd cc
    fitting false f e none = absurd cc
