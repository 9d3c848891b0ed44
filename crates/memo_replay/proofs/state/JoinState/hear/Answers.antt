use Rattle.std.proofs.Common.{◌≡◌, List, [], ℕ, ◌||◌, drop, sym, ap, ◌∙◌, arith}
use Rattle.std.proofs.lemmas.List.{drop_all}
use Rattle.memo_replay.proofs.Hearing.{either_first, either_second, hears_outcome, noted_all}
use Rattle.memo_replay.proofs.state.JoinState.hear.Goals as goal
use Rattle.memo_replay.proofs.state.JoinState.hear.Goals.{then-self, else-self}

pub returns-clause-heard : goal.returns-clause-heard
returns-clause-heard c = λ questions distinct numbers.
    let s = c.args.self.now in
    let o = c.args.outcome.now in
    let items : List ℕ = c.as_slice-number-items.result.now in
    let left : drop c.loop-number.number-index items ≡ [] = drop_all c.loop-number.number-index items (omega (arith, c.loop-number-test.false)) in
    let noted : c.loop-number.self.asked ≡ noted_all s.asked o.asked =
    ap (noted_all c.loop-number.self.asked) (sym left) ∙ c.loop-number.invariant.noted ∙ ap (noted_all s.asked) c.as_slice-number-items.ensures in
    let failed : c.if-self.self ≡ (s.failed || o.failed) = elim c.if-self.branch [
      | then-self w ↦ either_first s.failed o.failed c.if-self.self (sym c.loop-number.invariant.failed ∙ w.if-self.true) (w.self-is ∙ w.if-self.true)
      | else-self w ↦ either_second s.failed o.failed c.if-self.self (sym c.loop-number.invariant.failed ∙ w.if-self.false) w.self-is
    ] in
    hears_outcome questions o s (record c.loop-number.self { failed = c.if-self.self }) distinct numbers noted failed
