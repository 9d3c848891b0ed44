use Rattle.std.proofs.Common.{rules, tests, arith, ◌≡◌, true, false, Some, None, ap, sym, ◌∙◌, take, drop, get_or}
use Rattle.std.proofs.lemmas.List.{take_rest}
use Rattle.std.specs.Prelude.{◌==◌}
use Rattle.ent_values.proofs.Dates.{is_zone}
use Rattle.ent_values.proofs.Times.{no_time, short_no_time, timed_is}
use Rattle.ent_values.specs.Reading.{count_of}
use Rattle.ent_values.proofs.reading.time.Goals as goal
use Rattle.ent_values.proofs.reading.time.Goals.{then-text-lt8-via-then-text-lt8, then-text-lt8-via-else-text-lt8+then-text-ne58, then-text-lt8-via-else-text-lt8+else-text-ne58+then-text-ne58-2, then-text-lt8-via-else-text-lt8+else-text-ne58+else-text-ne58-2+then-not-is_zone}

pub returns-then-text-lt8 : goal.returns-then-text-lt8
returns-then-text-lt8 c =
    let text = c.args.text.now in
    elim c.then-text-lt8.branch [
      | then-text-lt8-via-then-text-lt8 w ↦ short_no_time text (omega (arith, w.if-text-lt8.true))
      | then-text-lt8-via-else-text-lt8+then-text-ne58 w ↦
          let no : (get_or text 2 0 == 58) ≡ false = search (rules, tests) in
          no_time text w.if-text-lt8.false (rw no (search rules))
      | then-text-lt8-via-else-text-lt8+else-text-ne58+then-text-ne58-2 w ↦
          let no : (get_or text 5 0 == 58) ≡ false = search (rules, tests) in
          no_time text w.if-text-lt8.false (rw (w.if-text-ne58.false, no) (search rules))
      | then-text-lt8-via-else-text-lt8+else-text-ne58+else-text-ne58-2+then-not-is_zone w ↦
          let no : is_zone (drop 8 text) ≡ false = search rules in
          no_time text w.if-text-lt8.false (rw (w.if-text-ne58.false, w.if-text-ne58-2.false, no) (search rules))
    ]

pub returns-in_err-hour : goal.returns-in_err-hour
returns-in_err-hour c =
    let text = c.args.text.now in
    let zone : is_zone (drop 8 text) ≡ true = ap is_zone (sym (take_rest text 8)) ∙ sym c.is_zone.ensures ∙ c.if-not-is_zone.false in
    let hour : None ≡ count_of (take 2 text) = search rules in
    c.from_residual.ensures ∙ timed_is text None _ _ c.if-text-lt8.false c.if-text-ne58.false c.if-text-ne58-2.false zone hour (λ i. count_of (take 2 (drop 3 text))) (λ i. count_of (take 2 (drop 6 text)))

pub returns-in_err-minute : goal.returns-in_err-minute
returns-in_err-minute c =
    let text = c.args.text.now in
    let zone : is_zone (drop 8 text) ≡ true = ap is_zone (sym (take_rest text 8)) ∙ sym c.is_zone.ensures ∙ c.if-not-is_zone.false in
    let hour : Some c.in_ok-hour.hour ≡ count_of (take 2 text) = search rules in
    let minute : None ≡ count_of (take 2 (drop 3 text)) = search rules in
    c.from_residual-in_err-minute.ensures ∙ timed_is text _ None _ c.if-text-lt8.false c.if-text-ne58.false c.if-text-ne58-2.false zone hour minute (λ i. count_of (take 2 (drop 6 text)))

pub returns-in_err-second : goal.returns-in_err-second
returns-in_err-second c =
    let text = c.args.text.now in
    let zone : is_zone (drop 8 text) ≡ true = ap is_zone (sym (take_rest text 8)) ∙ sym c.is_zone.ensures ∙ c.if-not-is_zone.false in
    let hour : Some c.in_ok-hour.hour ≡ count_of (take 2 text) = search rules in
    let minute : Some c.in_ok-minute.minute ≡ count_of (take 2 (drop 3 text)) = search rules in
    let second : None ≡ count_of (take 2 (drop 6 text)) = search rules in
    c.from_residual-in_err-second.ensures ∙ timed_is text _ _ None c.if-text-lt8.false c.if-text-ne58.false c.if-text-ne58-2.false zone hour minute second

pub returns : goal.returns
returns c =
    let text = c.args.text.now in
    let zone : is_zone (drop 8 text) ≡ true = ap is_zone (sym (take_rest text 8)) ∙ sym c.is_zone.ensures ∙ c.if-not-is_zone.false in
    let hour : Some c.in_ok-hour.hour ≡ count_of (take 2 text) = search rules in
    let minute : Some c.in_ok-minute.minute ≡ count_of (take 2 (drop 3 text)) = search rules in
    let second : Some c.in_ok-second.second ≡ count_of (take 2 (drop 6 text)) = search rules in
    c.new.ensures ∙ timed_is text _ _ _ c.if-text-lt8.false c.if-text-ne58.false c.if-text-ne58-2.false zone hour minute second
