use Rattle.std.proofs.Common.{rules, tests, ◌≡◌, true, Some, None, sym, ap, ◌∙◌, ◌+◌, drop, take}
use Rattle.std.proofs.lemmas.Iterator.{YieldsList-from_slice}
use Rattle.std.proofs.lemmas.Iterator.Search.{position_from_yields_List}
use Rattle.std.proofs.lemmas.List.{take_rest}
use Rattle.std.specs.Prelude.{bytes_eq, codes, position, ◌==◌}
use Rattle.ent_values.specs.Reading.{period_of, years_part_of}
use Rattle.ent_values.proofs.reading.period.Goals as goal

pub returns-in-Some-clause-value : goal.returns-in-Some-clause-value
unfolding period_of
returns-in-Some-clause-value c =
    let text = c.args.text.now in
    let parts = c.in_ok-parts.parts.now in
    let start : bytes_eq (take 1 text) (codes "P") ≡ true = search rules in
    let rest : parts ≡ drop 1 text = search rules in
    let found : c.position.result ≡ position (λ byte. byte == 89) parts =
    position_from_yields_List _ _ _ _ c.position.ensures.ran (YieldsList-from_slice parts cc) (λ x b q k. search (rules, tests)) in
    let place : position (λ byte. byte == 89) (drop 1 text) ≡ Some c.in-Some.place = rw (← rest) (sym found ∙ c.in-Some.is) in
    rw (start, place, ← rest) (c.years_part.ensures.value ∙ ap (years_part_of (take c.in-Some.place parts)) (take_rest parts (c.in-Some.place + 1)))

pub returns-in-None-clause-value : goal.returns-in-None-clause-value
unfolding period_of
returns-in-None-clause-value c =
    let text = c.args.text.now in
    let parts = c.in_ok-parts.parts.now in
    let start : bytes_eq (take 1 text) (codes "P") ≡ true = search rules in
    let rest : parts ≡ drop 1 text = search rules in
    let found : c.position.result ≡ position (λ byte. byte == 89) parts =
    position_from_yields_List _ _ _ _ c.position.ensures.ran (YieldsList-from_slice parts cc) (λ x b q k. search (rules, tests)) in
    let place : position (λ byte. byte == 89) (drop 1 text) ≡ None = rw (← rest) (sym found ∙ c.in-None.is) in
    rw (start, place, ← rest) (search rules)
