use Rattle.std.proofs.Common.{[], ◌∷◌, ◌++◌, List, ap, append_assoc, codes, refl}
use Rattle.json.specs.Lex.{lex, punctuate}
use Rattle.json.specs.Print.{escape_byte, print_from}
use Rattle.json.specs.Text.{content}
use Rattle.json.specs.Token as token
use Rattle.json.specs.Token.{Token}
use Rattle.ent_json.specs.Text.{tokens_of}
use Rattle.ent_line.specs.Reports.{decision_data}
use Rattle.ent_line.proofs.TextLemmas.{ends_as, joined}
use Rattle.ent_line.proofs.reports.write_decisions.Goals as goal

pub raw-requires : goal.raw-requires
unfolding lex punctuate content print_from escape_byte
raw-requires c = refl

pub raw-requires-2 : goal.raw-requires-2
unfolding lex punctuate content print_from escape_byte
raw-requires-2 c = refl

pub raw-requires-3 : goal.raw-requires-3
unfolding lex punctuate content print_from escape_byte
raw-requires-3 c = refl

pub returns : goal.returns
unfolding lex punctuate content
returns c =
    let old = c.args.out.now in
    let start = token.begin_object ∷ token.key (codes "action") ∷ [] in
    let action = token.string c.args.notice.now.action ∷ [] in
    let first = token.key (codes "after") ∷ [] in
    let after = tokens_of (decision_data c.args.notice.now.after) in
    let second = token.key (codes "before") ∷ [] in
    let before = tokens_of (decision_data c.args.notice.now.before) in
    let one = joined old _ _ start action c.in_ok-raw.ensures.ok (rw c.as_str.ensures at c.in_ok-string.ensures.ok) in
    let two = joined old _ _ (start ++ action) first one c.in_ok-raw-2.ensures.ok in
    let three = joined old _ _ ((start ++ action) ++ first) after two c.in_ok-write_decision.ensures in
    let four = joined old _ _ (((start ++ action) ++ first) ++ after) second three c.in_ok-raw-3.ensures.ok in
    ends_as _ old _ _ ((((start ++ action) ++ first) ++ after) ++ second) before _
    (ap (λ (t : List Token). start ++ (action ++ (first ++ t))) (append_assoc after second before)) four c.write_decision-2.ensures
