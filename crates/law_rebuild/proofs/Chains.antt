-- Edits one after the other.
use Rattle.std.proofs.Common.{◌≡◌, List, [], ◌∷◌, ◌++◌, Result, Ok, Err, ap, ◌∙◌}
use Rattle.ent_table.specs.declared.edit.Edit.{Edit}
use Rattle.ent_table.specs.declared.edit.EditFault.{EditFault}
use Rattle.ent_table.specs.State.{State}
use Rattle.ent_table.specs.Step.{step}
use Rattle.law_rebuild.specs.Rebuilding.{and_then, stepped}

-- one edit, and others behind it
pub stepped_one : (s t : State) (e : Edit) (es : List Edit) (r : Result State EditFault) → step s e ≡ Ok t → stepped t es ≡ r → stepped s (e ∷ es) ≡ r
stepped_one s t e es r first rest = ap (λ q. and_then q (λ u. stepped u es)) first ∙ rest

-- some edits, and others behind them
pub stepped_all : (s t : State) (ds es : List Edit) (r : Result State EditFault) → stepped s ds ≡ Ok t → stepped t es ≡ r → stepped s (ds ++ es) ≡ r
stepped_all s t [] es r first rest = (let same : s ≡ t = cc in ap (λ (u : State). stepped u es) same) ∙ rest
stepped_all s t (d ∷ ds) es r first rest = by (step s d) (λ u is. stepped_all u t ds es r is rest) first
  where
    by : (q : Result State EditFault) → ((u : State) → stepped u ds ≡ Ok t → stepped u (ds ++ es) ≡ r) → and_then q (λ u. stepped u ds) ≡ Ok t
        → and_then q (λ u. stepped u (ds ++ es)) ≡ r
    by (Ok u) h is = h u is
    by (Err fault) h is = cc
