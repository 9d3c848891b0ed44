use Rattle.std.proofs.Common.{[], ◌∷◌, ◌++◌, List, ap, append_assoc, codes, refl}
use Rattle.json.specs.Lex.{lex, punctuate}
use Rattle.json.specs.Print.{escape_byte, print_from}
use Rattle.json.specs.Text.{content}
use Rattle.json.specs.Token as token
use Rattle.json.specs.Token.{Token}
use Rattle.ent_json.specs.Text.{tokens_of}
use Rattle.ent_line.specs.Reports.{decision_data}
use Rattle.ent_line.proofs.TextLemmas.{ends, ends_as, joined}
use Rattle.ent_line.proofs.reports.write_notice.Goals as goal

pub raw-requires : goal.raw-requires
unfolding lex punctuate content print_from escape_byte
raw-requires c = refl

pub raw-requires-2 : goal.raw-requires-2
unfolding lex punctuate content print_from escape_byte
raw-requires-2 c = refl

pub returns : goal.returns
unfolding lex punctuate content
returns c =
    let n = c.args.notice.now in
    let action = token.begin_object ∷ token.key (codes "action") ∷ token.string n.action ∷ token.key (codes "after") ∷ [] in
    let after = tokens_of (decision_data n.after) in
    let before = token.key (codes "before") ∷ tokens_of (decision_data n.before) in
    let first = token.key (codes "person") ∷ [] in
    let person = token.string n.person ∷ [] in
    let second = token.key (codes "resource") ∷ [] in
    let resource = token.string n.resource ∷ [] in
    let end = token.end_object ∷ [] in
    let one = joined _ _ _ first person c.in_ok-raw.ensures.ok (rw c.as_str.ensures at c.in_ok-string.ensures.ok) in
    let two = joined _ _ _ (first ++ person) second one c.in_ok-raw-2.ensures.ok in
    let three = joined _ _ _ ((first ++ person) ++ second) resource two (rw c.as_str-2.ensures at c.in_ok-string-2.ensures.ok) in
    let rest = ends _ _ _ _ (((first ++ person) ++ second) ++ resource) end three c.end_object.ensures.ok in
    ends_as _ c.args.out.now _ _ (action ++ (after ++ before)) ((((first ++ person) ++ second) ++ resource) ++ end) _
    (ap (λ (t : List Token). action ++ t) (append_assoc after before ((((first ++ person) ++ second) ++ resource) ++ end))) c.in_ok-write_decisions.ensures rest
