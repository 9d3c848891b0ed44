use Rattle.std.proofs.Common.{◌≡◌, List, Some, length, slice_get, refl, sym, ap, ◌∙◌}
use Rattle.std.proofs.lemmas.Option.{slice_get_read}
use Rattle.memo_tests.specs.declared.outcome.TestOutcome.{TestOutcome}
use Rattle.memo_replay.proofs.Cursor.{next_is}
use Rattle.memo_replay.proofs.over.Over.next.Goals as goal

pub returns-in-Test : goal.returns-in-Test
returns-in-Test g c = λ came cs stands.
    let over = c.args.self.now in
    let s = c.args.state.now in
    let e = c.in_ok-entry.entry.now in
    let n = c.in_ok-number.field-0.now in
    let x = c.in_ok-get.field-0.now in
    let o = c.in_ok-outcome.outcome.now in
    let outcomes : List TestOutcome = c.deref.result.now in
    let first = c.in_ok-entry.ensures.lookup in
    let second = c.in_ok-number.ensures.lookup in
    let third = c.in_ok-get.ensures.lookup in
    let fourth = c.in_ok-outcome.ensures.lookup in
    let entry : slice_get over.entries.now s.place ≡ Some e = slice_get_read over.entries.now (length over.entries.now) s.place e refl first.3.0 first.1 in
    let number : slice_get over.way.now s.at ≡ Some n = slice_get_read over.way.now (length over.way.now) s.at n refl second.3.0 second.1 in
    let known : slice_get over.tests.now s.place ≡ Some x = slice_get_read over.tests.now (length over.tests.now) s.place x refl third.3.0 third.1 in
    let outcome : slice_get x.outcomes.items n ≡ Some o =
    ap (λ l. slice_get l n) (sym c.deref.ensures.value) ∙ slice_get_read outcomes (length outcomes) n o refl fourth.3.0 fourth.1 in
    next_is {L = g.row.L.Denot} over s.place s.at n e c.in-Test.task x o (record { outcome = c.in_ok-outcome.outcome; passed = c.passed.result }) came cs
    entry c.in-Test.is number known outcome refl c.passed.ensures stands
