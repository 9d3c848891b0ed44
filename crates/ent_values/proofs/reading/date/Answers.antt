use Rattle.std.proofs.Common.{rules, tests, arith, ◌≡◌, true, false, Some, None, ap, sym, ◌∙◌, take, drop, get_or}
use Rattle.std.proofs.lemmas.List.{take_rest}
use Rattle.std.specs.Prelude.{◌==◌}
use Rattle.ent_values.proofs.Dates.{counted_is, is_zone, no_date, short_no_date}
use Rattle.ent_values.specs.Reading.{count_of}
use Rattle.ent_values.proofs.reading.date.Goals as goal
use Rattle.ent_values.proofs.reading.date.Goals.{then-text-lt10-via-then-text-lt10, then-text-lt10-via-else-text-lt10+then-text-ne45, then-text-lt10-via-else-text-lt10+else-text-ne45+then-text-ne45-2, then-text-lt10-via-else-text-lt10+else-text-ne45+else-text-ne45-2+then-not-is_zone}

pub returns-then-text-lt10 : goal.returns-then-text-lt10
returns-then-text-lt10 c =
    let text = c.args.text.now in
    elim c.then-text-lt10.branch [
      | then-text-lt10-via-then-text-lt10 w ↦ short_no_date text (omega (arith, w.if-text-lt10.true))
      | then-text-lt10-via-else-text-lt10+then-text-ne45 w ↦
          let no : (get_or text 4 0 == 45) ≡ false = search (rules, tests) in
          no_date text w.if-text-lt10.false (rw no (search rules))
      | then-text-lt10-via-else-text-lt10+else-text-ne45+then-text-ne45-2 w ↦
          let no : (get_or text 7 0 == 45) ≡ false = search (rules, tests) in
          no_date text w.if-text-lt10.false (rw (w.if-text-ne45.false, no) (search rules))
      | then-text-lt10-via-else-text-lt10+else-text-ne45+else-text-ne45-2+then-not-is_zone w ↦
          let no : is_zone (drop 10 text) ≡ false = search rules in
          no_date text w.if-text-lt10.false (rw (w.if-text-ne45.false, w.if-text-ne45-2.false, no) (search rules))
    ]

pub returns-in_err-year : goal.returns-in_err-year
returns-in_err-year c =
    let text = c.args.text.now in
    let zone : is_zone (drop 10 text) ≡ true = ap is_zone (sym (take_rest text 10)) ∙ sym c.is_zone.ensures ∙ c.if-not-is_zone.false in
    let year : None ≡ count_of (take 4 text) = search rules in
    c.from_residual.ensures ∙ counted_is text None _ _ c.if-text-lt10.false c.if-text-ne45.false c.if-text-ne45-2.false zone year (λ i. count_of (take 2 (drop 5 text))) (λ i. count_of (take 2 (drop 8 text)))

pub returns-in_err-month : goal.returns-in_err-month
returns-in_err-month c =
    let text = c.args.text.now in
    let zone : is_zone (drop 10 text) ≡ true = ap is_zone (sym (take_rest text 10)) ∙ sym c.is_zone.ensures ∙ c.if-not-is_zone.false in
    let year : Some c.in_ok-year.year ≡ count_of (take 4 text) = search rules in
    let month : None ≡ count_of (take 2 (drop 5 text)) = search rules in
    c.from_residual-in_err-month.ensures ∙ counted_is text _ None _ c.if-text-lt10.false c.if-text-ne45.false c.if-text-ne45-2.false zone year month (λ i. count_of (take 2 (drop 8 text)))

pub returns-in_err-day : goal.returns-in_err-day
returns-in_err-day c =
    let text = c.args.text.now in
    let zone : is_zone (drop 10 text) ≡ true = ap is_zone (sym (take_rest text 10)) ∙ sym c.is_zone.ensures ∙ c.if-not-is_zone.false in
    let year : Some c.in_ok-year.year ≡ count_of (take 4 text) = search rules in
    let month : Some c.in_ok-month.month ≡ count_of (take 2 (drop 5 text)) = search rules in
    let day : None ≡ count_of (take 2 (drop 8 text)) = search rules in
    c.from_residual-in_err-day.ensures ∙ counted_is text _ _ None c.if-text-lt10.false c.if-text-ne45.false c.if-text-ne45-2.false zone year month day

pub returns : goal.returns
returns c =
    let text = c.args.text.now in
    let zone : is_zone (drop 10 text) ≡ true = ap is_zone (sym (take_rest text 10)) ∙ sym c.is_zone.ensures ∙ c.if-not-is_zone.false in
    let year : Some c.in_ok-year.year ≡ count_of (take 4 text) = search rules in
    let month : Some c.in_ok-month.month ≡ count_of (take 2 (drop 5 text)) = search rules in
    let day : Some c.in_ok-day.day ≡ count_of (take 2 (drop 8 text)) = search rules in
    c.new.ensures ∙ counted_is text _ _ _ c.if-text-lt10.false c.if-text-ne45.false c.if-text-ne45-2.false zone year month day
