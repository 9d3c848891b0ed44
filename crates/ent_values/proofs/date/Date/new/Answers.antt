use Rattle.std.proofs.Common.{rules, arith, ◌≡◌, ◌≤◌, ◌<◌, pos, ◌∙◌, to_z, of_z, w16, w8}
use Rattle.std.proofs.lemmas.Int.{ints}
use Rattle.ent_values.proofs.Civil.{before_year_one, made, not_made, some_value, value_of_ok}
use Rattle.ent_values.proofs.date.Date.new.Goals as goal

pub returns-in_err-civil : goal.returns-in_err-civil
returns-in_err-civil c =
    let year : to_z w16 (of_z w16 c.in_ok-ok.field-0) ≡ pos c.args.year = search rules in
    let month : to_z w8 (of_z w8 c.in_ok-ok-2.field-0) ≡ pos c.args.month = search rules in
    let day : to_z w8 (of_z w8 c.in_ok-ok-3.field-0) ≡ pos c.args.day = search rules in
    c.from_residual-in_err-civil.ensures
    ∙ not_made c.args.year c.args.month c.args.day _ _ _ year month day
    (λ is. some_value c.new.result (c.new.ensures.succeeds.1 is) c.in_err-civil.ensures.value)

pub returns-then-year-ge1 : goal.returns-then-year-ge1
returns-then-year-ge1 c =
    let year : to_z w16 (of_z w16 c.in_ok-ok.field-0) ≡ pos c.args.year = search rules in
    let month : to_z w8 (of_z w8 c.in_ok-ok-2.field-0) ≡ pos c.args.month = search rules in
    let day : to_z w8 (of_z w8 c.in_ok-ok-3.field-0) ≡ pos c.args.day = search rules in
    let is = value_of_ok _ c.new.result c.in_ok-civil.civil c.new.ensures.value c.in_ok-civil.ensures.value in
    let same : c.year.result ≡ pos c.args.year = c.year.ensures ∙ is.0 ∙ year in
    let from : 1 ≤ c.args.year = omega (arith, ints, same, c.if-year-ge1.true) in
    made c.args.year c.args.month c.args.day _ _ _ c.in_ok-civil.civil year month day is from

pub returns-else-year-ge1 : goal.returns-else-year-ge1
returns-else-year-ge1 c =
    let year : to_z w16 (of_z w16 c.in_ok-ok.field-0) ≡ pos c.args.year = search rules in
    let is = value_of_ok _ c.new.result c.in_ok-civil.civil c.new.ensures.value c.in_ok-civil.ensures.value in
    let same : c.year.result ≡ pos c.args.year = c.year.ensures ∙ is.0 ∙ year in
    let none : c.args.year < 1 = omega (arith, ints, same, c.if-year-ge1.false) in
    before_year_one c.args.year c.args.month c.args.day none
