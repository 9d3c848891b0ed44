-- Lists as the data of JSON has them.
use Rattle.std.proofs.Common.{◌≡◌, List, [], ◌∷◌, Some, refl, ap, codes}
use Rattle.serde_json.specs.Data.{Data, no_members}
use Rattle.serde_json.specs.Find.{as_array, get}
use Rattle.serde_json.specs.View.{items_of}
use Rattle.script_compare.specs.Tables.{by_request, listed, table_in}

-- the list of the data of a list
pub listed_items : (ds : List Data) → listed (items_of ds) ≡ ds
listed_items [] = refl
listed_items (d ∷ ds) = ap (λ rest. d ∷ rest) (listed_items ds)

-- the table of a reply at whose key `table` this list stands
pub table_of : (reply cells : Data) (ds : List Data) → Some cells ≡ get (codes "table") reply → Some (items_of ds) ≡ as_array cells
    → by_request no_members ds ≡ table_in reply
table_of reply cells ds found is = rw (← found, ← is, listed_items ds) refl
