use Rattle.std.proofs.Common.{◌≡◌, ◌-◌, None, suc, drop, arith, ap, subst, sym, ◌∙◌}
use Rattle.ent_log.specs.Entries.{answers_of, entries_since, first_answer_or}
use Rattle.ent_log.proofs.Gathered.{entries_since-skip}
use Rattle.ent_log.proofs.log.Log.old_answers.Goals as goal
use Rattle.ent_log.proofs.log.Log.old_answers.Goals.{else-loop-place-test, then-loop-place-test+then-entry-serial}

pub returns : goal.returns
returns g c = λ k. c.loop-place.invariant.first k ∙ ap (λ es. first_answer_or g.K.Ord.cmp (answers_of es) k None) (sym whole)
  where
    whole : entries_since c.args.serial c.args.self.now.entries.items ≡ drop c.loop-place.place c.args.self.now.entries.items
    whole =
        let s = c.args.self.now in
        let n = c.args.serial in
        let p = c.loop-place.place in
        elim c.loop-place-test.branch [
          | else-loop-place-test w ↦
              let none : p ≡ 0 = omega arith in
              subst (λ i. entries_since n (drop i s.entries.items) ≡ drop p s.entries.items) none c.loop-place.invariant.later
          | then-loop-place-test+then-entry-serial w ↦
              let next : suc (p - 1) ≡ p = omega arith in
              let entry = w.index-entry.result.now in
              entries_since-skip n s.from s.entries.items s.serial (p - 1) entry s.in_order (omega arith) w.index-entry.ensures w.if-entry-serial.true
              ∙ ap (λ i. entries_since n (drop i s.entries.items)) next ∙ c.loop-place.invariant.later
        ]
