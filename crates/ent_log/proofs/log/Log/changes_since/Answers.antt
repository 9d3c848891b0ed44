use Rattle.std.proofs.Common.{◌≡◌, Result, Ok, Err, IfOk, OnOk, unwrap_or, sym, ap, subst}
use Rattle.std.specs.BTreeMap.{IsOrdered}
use Rattle.ent_log.specs.Difference.{IsDifference, changes_among}
use Rattle.ent_log.specs.Tables.{table_at}
use Rattle.ent_log.proofs.Differing.{changes-difference}
use Rattle.ent_log.proofs.log.Log.changes_since.Goals as goal

-- what holds of a value holds of a result that has no other
from-value : {X E : Type 0} (r : Result X E) (x : X) (P : Type 0) (Q : X → Type 0) → IfOk r (λ y. y ≡ x) → OnOk r P → (P → Q x)
    → IfOk r Q
from-value (Ok y) x P Q is p q = subst Q (sym is) (q p)
from-value (Err e) x P Q is p q = tt

pub returns : goal.returns
returns g c =
    let cmp = g.K.Ord.cmp in
    let eq = g.A.PartialEq.eq in
    let now = g.P.Present.answers c.args.present.now in
    let before = table_at cmp c.args.self.now now c.args.serial in
    let old = c.in_ok-old_answers.old_answers in
    from-value c.changes_of.result (changes_among eq now old.entries) (IsOrdered cmp old) (IsDifference cmp eq before now)
    c.changes_of.ensures.changes c.changes_of.ensures.ordered
    (λ ordered. changes-difference g.met.K.Ord.total g.met.A.Eq.laws before now c.requires.respects old.entries ordered
    (λ k. ap (λ o. unwrap_or o (now k)) (sym (c.in_ok-old_answers.ensures k))))
