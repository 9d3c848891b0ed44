use Rattle.std.proofs.Common.{ℕ, List, [], ◌∷◌, ◌++◌, codes, decimal}
use Rattle.json.specs.Token as token
use Rattle.json.specs.Token.{Token}
use Rattle.ent_line.proofs.TextLemmas.{ends, joined}
use Rattle.ent_line.proofs.reports.write_counts.Goals as goal

-- a number at a key
abbrev count_at : List ℕ → ℕ → List Token
count_at name n = token.key name ∷ token.number (decimal n) ∷ []

pub returns : goal.returns
returns c =
    let old = c.args.out.now in
    let start = token.begin_object ∷ [] in
    let deny = count_at (codes "Deny") c.args.counts.deny in
    let indeterminate = count_at (codes "Indeterminate") c.args.counts.indeterminate in
    let inapplicable = count_at (codes "NotApplicable") c.args.counts.not_applicable in
    let permit = count_at (codes "Permit") c.args.counts.permit in
    let one = joined old _ _ start deny c.in_ok-begin_object.ensures.ok c.in_ok-write_count.ensures in
    let two = joined old _ _ (start ++ deny) indeterminate one c.in_ok-write_count-2.ensures in
    let three = joined old _ _ ((start ++ deny) ++ indeterminate) inapplicable two c.in_ok-write_count-3.ensures in
    let four = joined old _ _ (((start ++ deny) ++ indeterminate) ++ inapplicable) permit three c.in_ok-write_count-4.ensures in
    ends _ old _ _ _ (token.end_object ∷ []) four c.end_object.ensures.ok
