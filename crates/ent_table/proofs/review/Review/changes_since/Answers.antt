use Rattle.std.proofs.Common.{◌≡◌, map, sym, ap, subst, ◌∙◌}
use Rattle.std.specs.Prelude.{IfOk, Result, Ok, Err}
use Rattle.ent_cells.proofs.Orders.{requests-respected}
use Rattle.ent_cells.specs.Order.{request_order}
use Rattle.ent_request.specs.Same.{same_answer}
use Rattle.ent_log.specs.Difference.{IsDifference}
use Rattle.ent_log.specs.Tables.{table_at}
use Rattle.ent_table.specs.Reviewed.{Reviewed}
use Rattle.ent_table.specs.State.{answer_at}
use Rattle.ent_table.specs.Tables.{AreTheDifference, change_of, changes_from, table_at_serial}
use Rattle.ent_table.proofs.SerialTables.{difference_told}
use Rattle.ent_table.proofs.ToldChanges.{are_the_difference}
use Rattle.ent_table.proofs.review.Review.changes_since.Goals as goal

-- what follows of all that came well
if_ok : {A E : Type 0} (r : Result A E) (P Q : A → Type 0) → ((a : A) → P a → Q a) → IfOk r P → IfOk r Q
if_ok (Ok a) P Q f h = f a h
if_ok (Err e) P Q f h = tt

pub changes_since-requires-clause-respects : goal.changes_since-requires-clause-respects
changes_since-requires-clause-respects g c = requests-respected (answer_at c.args.self.now.state)

pub returns-clause-told : goal.returns-clause-told
returns-clause-told g c =
    let parts = c.self.inside.parts in
    let serial = c.args.serial in
    let logged = c.in_ok-logged.logged in
    let is = subst (λ (r : Reviewed). IsDifference request_order same_answer
    (table_at request_order parts.log (answer_at r.state) serial) (answer_at r.state) logged)
    (sym c.self.view_is) c.in_ok-logged.ensures in
    if_ok c.all_named.result (λ changes. changes ≡ map change_of logged)
    (λ changes. changes ≡ changes_from (table_at_serial c.args.self.now serial) c.args.self.now.state)
    (λ changes told. told
    ∙ ap (map change_of) (difference_told parts serial logged is)
    ∙ ap (λ (r : Reviewed). changes_from (table_at_serial r serial) r.state) c.self.view_is)
    c.all_named.ensures

pub returns-clause-difference : goal.returns-clause-difference
returns-clause-difference g c =
    let s = c.args.self.now.state in
    let m = table_at_serial c.args.self.now c.args.serial in
    if_ok c.all_named.result (λ changes. changes ≡ changes_from m s) (AreTheDifference m s) (are_the_difference m s)
    (returns-clause-told g c)
