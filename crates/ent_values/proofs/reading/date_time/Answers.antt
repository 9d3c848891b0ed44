use Rattle.std.proofs.Common.{rules, tests, arith, ◌≡◌, false, Some, None, ap, sym, ◌∙◌, take, drop, get_or}
use Rattle.std.proofs.lemmas.List.{take_rest}
use Rattle.std.specs.Prelude.{◌==◌}
use Rattle.ent_values.proofs.Times.{no_mark, paired_is, short_no_mark}
use Rattle.ent_values.specs.Reading.{date_of, time_of}
use Rattle.ent_values.proofs.reading.date_time.Goals as goal
use Rattle.ent_values.proofs.reading.date_time.Goals.{then-text-lt11-via-then-text-lt11, then-text-lt11-via-else-text-lt11+then-text-ne84}

pub returns-then-text-lt11 : goal.returns-then-text-lt11
returns-then-text-lt11 c =
    let text = c.args.text.now in
    elim c.then-text-lt11.branch [
      | then-text-lt11-via-then-text-lt11 w ↦ short_no_mark text (omega (arith, w.if-text-lt11.true))
      | then-text-lt11-via-else-text-lt11+then-text-ne84 w ↦
          let no : (get_or text 10 0 == 84) ≡ false = search (rules, tests) in
          no_mark text w.if-text-lt11.false no
    ]

pub returns-in_err-date : goal.returns-in_err-date
returns-in_err-date c =
    let text = c.args.text.now in
    let date : None ≡ date_of (take 10 text) = search rules in
    c.from_residual.ensures ∙ paired_is text None _ c.if-text-lt11.false c.if-text-ne84.false date (λ i. time_of (drop 11 text))

pub returns-in_err-time : goal.returns-in_err-time
returns-in_err-time c =
    let text = c.args.text.now in
    let date : Some c.in_ok-date.date ≡ date_of (take 10 text) = search rules in
    let rest : time_of (take _ (drop 11 text)) ≡ time_of (drop 11 text) = ap time_of (take_rest text 11) in
    let time : None ≡ time_of (drop 11 text) = search rules in
    c.from_residual-in_err-time.ensures ∙ paired_is text _ None c.if-text-lt11.false c.if-text-ne84.false date time

pub returns : goal.returns
returns c =
    let text = c.args.text.now in
    let date : Some c.in_ok-date.date ≡ date_of (take 10 text) = search rules in
    let rest : time_of (take _ (drop 11 text)) ≡ time_of (drop 11 text) = ap time_of (take_rest text 11) in
    let time : Some c.in_ok-time.time ≡ time_of (drop 11 text) = search rules in
    ap Some c.new.ensures ∙ paired_is text _ _ c.if-text-lt11.false c.if-text-ne84.false date time
