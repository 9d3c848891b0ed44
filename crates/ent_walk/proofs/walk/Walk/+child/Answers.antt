use Rattle.std.proofs.Common.{◌∙◌, ap, arith, subst, sym}
use Rattle.std.proofs.lemmas.Result.{IfOk-weaker}
use Rattle.std.specs.Prelude.{OnOk}
use Rattle.ent_walk.specs.Judged.{has_failed}
use Rattle.ent_walk.specs.declared.opened.Opened.TheVariants.{Passed}
use Rattle.ent_walk.specs.proofs_only.Comes.{Settles}
use Rattle.ent_walk.specs.Node.{set_key}
use Rattle.ent_walk.specs.proofs_only.Judged.{or_nothing}
use Rattle.ent_walk.specs.proofs_only.Hops.{child_part, children_combined, in_set, set_children, settled_child}
use Rattle.ent_walk.specs.proofs_only.Gathered.{Gathers, Tells}
use Rattle.ent_trace.specs.proofs_only.Noted.{noting, settling}
use Rattle.ent_walk.specs.proofs_only.Opened.{IsLeft, is_fit_left, left_part, worth}
use Rattle.ent_trace.specs.proofs_only.Path.{keys_of}
use Rattle.ent_walk.proofs.Children.{all_children, all_notes, last_child, last_notes, next_child}
use Rattle.ent_walk.proofs.Left.{gathers_equal, tells_equal}
use Rattle.ent_walk.proofs.Parts.{came_behind, comes, comes_equal, comes_left, kept, keeps_on, on_ok}
use Rattle.ent_walk.proofs.PathKeys.{keys_of_below}
use Rattle.ent_walk.proofs.Sets.{only-part, set-fit, shared-part}
use Rattle.ent_walk.proofs.Settled.{adds_settled, asks_settled, came_settled}
use Rattle.ent_walk.proofs.Within.{came_within}
use Rattle.ent_walk.proofs.walk.Walk.+child.Goals as goal

pub children-returns-in-Stop : goal.children-returns-in-Stop
children-returns-in-Stop g t c =
    let same = kept g.L.LookUps.looks (λ looks request. settled_child looks request c.args.hops (keys_of c.args.path.now) c.child-item.result) c.args.self.now c.loop-child.self c.loop-child.invariant.keeps in
    let keeps = keeps_on c.args.self.now c.loop-child.self c.next_child.new.self c.loop-child.invariant.keeps c.in_ok-progress.ensures.notes.keeps in
    record {
      comes = comes or_nothing c.finish.result (children_combined (g.L.LookUps.looks c.args.self.now.lender.held) c.args.self.now.lender.request c.args.hops (keys_of c.args.path.now) c.args.algorithm c.args.children.now) c.args.self.now _
          (IfOk-weaker c.finish.result _ _ (λ a is. last_child (keys_of c.args.path.now) c.args.algorithm (settled_child (g.L.LookUps.looks c.args.self.now.lender.held) c.args.self.now.lender.request c.args.hops (keys_of c.args.path.now)) c.args.children.now c.loop-child.child-index c.child-item.result _ c.in_ok-progress.progress
          c.loop-child.gathering c.next_child.new.gathering c.args.self.now.notes c.loop-child.self.notes c.next_child.new.self.notes
          c.loop-child-test.true c.child-item.is c.loop-child.invariant.going c.loop-child.invariant.gathered (ap (λ p. p.value) same) (c.in_ok-progress.ensures.notes.notes ∙ ap (λ p. noting c.loop-child.self.notes p.notes) same)
          c.in_ok-progress.ensures.gathered c.in_ok-progress.ensures.progress c.in-Stop.is (or_nothing a) is) c.finish.ensures.value)
          (on_ok c.finish.result _ (record {
            notes = c.finish.ensures.notes ∙ last_notes (keys_of c.args.path.now) c.args.algorithm (settled_child (g.L.LookUps.looks c.args.self.now.lender.held) c.args.self.now.lender.request c.args.hops (keys_of c.args.path.now)) c.args.children.now c.loop-child.child-index c.child-item.result _ c.in_ok-progress.progress
                c.loop-child.gathering c.next_child.new.gathering c.args.self.now.notes c.loop-child.self.notes c.next_child.new.self.notes
                c.loop-child-test.true c.child-item.is c.loop-child.invariant.going c.loop-child.invariant.gathered (ap (λ p. p.value) same) (c.in_ok-progress.ensures.notes.notes ∙ ap (λ p. noting c.loop-child.self.notes p.notes) same)
                c.in_ok-progress.ensures.gathered c.in_ok-progress.ensures.progress c.in-Stop.is;
            keeps = record { held = keeps.held; request = keeps.request };
          }));
    }

pub children-loop-child-preserved : goal.children-loop-child-preserved
children-loop-child-preserved g t c =
    let same = kept g.L.LookUps.looks (λ looks request. settled_child looks request c.args.hops (keys_of c.args.path.now) c.child-item.result) c.args.self.now c.loop-child.self c.loop-child.invariant.keeps in
    let keeps = keeps_on c.args.self.now c.loop-child.self c.next_child.new.self c.loop-child.invariant.keeps c.in_ok-progress.ensures.notes.keeps in
    let next = next_child c.args.algorithm (settled_child (g.L.LookUps.looks c.args.self.now.lender.held) c.args.self.now.lender.request c.args.hops (keys_of c.args.path.now)) c.args.children.now c.loop-child.child-index c.child-item.result _ c.in_ok-progress.progress
    c.loop-child.gathering c.next_child.new.gathering c.args.self.now.notes c.loop-child.self.notes c.next_child.new.self.notes
    c.loop-child-test.true c.child-item.is c.loop-child.invariant.going c.loop-child.invariant.gathered (ap (λ p. p.value) same) (c.in_ok-progress.ensures.notes.notes ∙ ap (λ p. noting c.loop-child.self.notes p.notes) same)
    c.in_ok-progress.ensures.gathered c.in_ok-progress.ensures.progress c.in_default.is in
    record { going = next.going; gathered = next.gathered; keeps = keeps }

pub children-returns : goal.children-returns
children-returns g t c =
    record {
      comes = comes or_nothing c.finish-2.result (children_combined (g.L.LookUps.looks c.args.self.now.lender.held) c.args.self.now.lender.request c.args.hops (keys_of c.args.path.now) c.args.algorithm c.args.children.now) c.args.self.now _
          (IfOk-weaker c.finish-2.result _ _ (λ a is. all_children c.args.algorithm (settled_child (g.L.LookUps.looks c.args.self.now.lender.held) c.args.self.now.lender.request c.args.hops (keys_of c.args.path.now)) c.args.children.now c.loop-child.child-index c.args.self.now.notes c.loop-child.self.notes c.loop-child.invariant.going
          (omega (arith, c.loop-child-test.false)) (keys_of c.args.path.now) c.loop-child.gathering (or_nothing a) c.loop-child.invariant.gathered is) c.finish-2.ensures.value)
          (on_ok c.finish-2.result _ (record {
            notes = c.finish-2.ensures.notes ∙ all_notes c.args.algorithm (settled_child (g.L.LookUps.looks c.args.self.now.lender.held) c.args.self.now.lender.request c.args.hops (keys_of c.args.path.now)) c.args.children.now c.loop-child.child-index c.args.self.now.notes c.loop-child.self.notes c.loop-child.invariant.going
                (omega (arith, c.loop-child-test.false));
            keeps = record { held = c.loop-child.invariant.keeps.held; request = c.loop-child.invariant.keeps.request };
          }));
    }

pub children_under-returns-in-Shared : goal.children_under-returns-in-Shared
children_under-returns-in-Shared g t c =
    record {
      comes = comes_equal or_nothing c.children.result c.args.self.now c.children.new.self _ _ (shared-part (g.L.LookUps.looks c.args.self.now.lender.held) c.args.self.now.lender.request c.args.hops (keys_of c.args.path.now) c.args.set.now c.in-Shared.algorithm _
          c.as_slice.result.now c.in-Shared.is (keys_of_below _ _ _ _) c.as_slice.ensures) c.children.ensures.comes;
    }

pub children_under-returns-in-OnlyOne : goal.children_under-returns-in-OnlyOne
children_under-returns-in-OnlyOne g t c =
    record {
      comes = comes_equal or_nothing c.only_one.result c.args.self.now c.only_one.new.self _ _ (only-part (g.L.LookUps.looks c.args.self.now.lender.held) c.args.self.now.lender.request c.args.hops (keys_of c.args.path.now) c.args.set.now _
          c.as_slice-in-OnlyOne.result.now c.in-OnlyOne.is (keys_of_below _ _ _ _) c.as_slice-in-OnlyOne.ensures) c.only_one.ensures.comes;
    }

pub settled_children-returns : goal.settled_children-returns
settled_children-returns g t c =
    let children = set_children (g.L.LookUps.looks c.args.self.now.lender.held) c.args.self.now.lender.request c.args.hops (keys_of c.args.path.now) c.args.set.now in
    record {
      comes = came_settled has_failed children c.args.self.now c.children_under.new.self c.settle.new.self (or_nothing c.in_ok-answer.answer) c.is_named-was_named.result c.has_failed.result c.is_named-was_named.ensures c.has_failed.ensures
          c.in_ok-answer.ensures.comes c.settle.ensures.notes c.settle.ensures.keeps;
    }

pub judge-set_after-requires : goal.judge-set_after-requires
judge-set_after-requires g t c κs within =
    let fit = (set-fit c.in-Set.set.now (ap is_fit_left (sym c.in-Set.is) ∙ c.requires.fit)).1 in
    let worth-is = ap worth c.in-Set.is in
    (omega (arith, worth-is), (within, (fit.1.0, (fit.0, fit.1.1))))

pub child-judge-requires : goal.child-judge-requires
child-judge-requires g t c κs within = (omega (arith, c.in_ok-opened.ensures.worth), (within, c.in_ok-opened.ensures.fit))

pub child-returns : goal.child-returns
child-returns g t c =
    let came = came_behind or_nothing g.L.LookUps.looks (λ looks request. left_part looks request (keys_of c.args.path.now) c.in_ok-opened.opened) c.judge.result c.args.self.now c.open.new.self c.judge.new.self c.in_ok-opened.ensures.keeps c.judge.ensures.comes in
    record { comes = comes_left or_nothing c.judge.result _ _ c.args.self.now c.open.new.self c.judge.new.self (c.in_ok-opened.ensures.left (keys_of c.args.path.now)) c.in_ok-opened.ensures.keeps came }

pub next_child-returns-in-Passed-clause-gathered : goal.next_child-returns-in-Passed-clause-gathered
next_child-returns-in-Passed-clause-gathered g t c =
    let left = left_part (g.L.LookUps.looks c.args.self.now.lender.held) c.args.self.now.lender.request (keys_of c.args.path.now) in
    subst (Gathers c.args.gathering.now c.pass.new.self) (ap (λ o. (left o).value) (sym c.in-Passed.is) ∙ (c.in_ok-opened.ensures.left (keys_of c.args.path.now)).0) c.pass.ensures.gathered

pub next_child-returns-in-Passed-clause-progress : goal.next_child-returns-in-Passed-clause-progress
next_child-returns-in-Passed-clause-progress g t c =
    let left = left_part (g.L.LookUps.looks c.args.self.now.lender.held) c.args.self.now.lender.request (keys_of c.args.path.now) in
    subst (λ j. Tells c.args.gathering.now j c.pass.result) (ap (λ o. (left o).value) (sym c.in-Passed.is) ∙ (c.in_ok-opened.ensures.left (keys_of c.args.path.now)).0) c.pass.ensures.progress

pub next_child-returns-in-Passed-clause-notes : goal.next_child-returns-in-Passed-clause-notes
next_child-returns-in-Passed-clause-notes g t c =
    let left = left_part (g.L.LookUps.looks c.args.self.now.lender.held) c.args.self.now.lender.request (keys_of c.args.path.now) in
    let whole = child_part (g.L.LookUps.looks c.args.self.now.lender.held) c.args.self.now.lender.request c.args.hops (keys_of c.args.path.now) c.args.child.now in
    let is = subst (λ o. IsLeft whole (left o) c.args.self.now.notes c.open.new.self.notes) c.in-Passed.is (c.in_ok-opened.ensures.left (keys_of c.args.path.now)) in
    adds_settled (left Passed) whole c.is_named-was_named.result c.args.self.now c.open.new.self c.is_named-was_named.ensures is c.in_ok-opened.ensures.keeps c.settle.new.self
    (record { notes = c.settle.ensures.notes; keeps = c.settle.ensures.keeps })

pub next_child-next_left-requires : goal.next_child-next_left-requires
next_child-next_left-requires g t c κs within = (omega (arith, c.in_ok-opened.ensures.worth), (within, c.in_ok-opened.ensures.fit))

pub next_child-returns-clause-gathered : goal.next_child-returns-clause-gathered
next_child-returns-clause-gathered g t c =
    let same = kept g.L.LookUps.looks (λ looks request. left_part looks request (keys_of c.args.path.now) c.in_ok-opened.opened) c.args.self.now c.open.new.self c.in_ok-opened.ensures.keeps in
    gathers_equal c.next_left.result c.args.gathering.now c.next_left.new.gathering _ _ (ap (λ p. p.value) same ∙ (c.in_ok-opened.ensures.left (keys_of c.args.path.now)).0) c.next_left.ensures.gathered

pub next_child-returns-clause-progress : goal.next_child-returns-clause-progress
next_child-returns-clause-progress g t c =
    let same = kept g.L.LookUps.looks (λ looks request. left_part looks request (keys_of c.args.path.now) c.in_ok-opened.opened) c.args.self.now c.open.new.self c.in_ok-opened.ensures.keeps in
    tells_equal c.next_left.result c.args.gathering.now _ _ (ap (λ p. p.value) same ∙ (c.in_ok-opened.ensures.left (keys_of c.args.path.now)).0) c.next_left.ensures.progress

pub next_child-returns-clause-notes : goal.next_child-returns-clause-notes
next_child-returns-clause-notes g t c =
    let same = kept g.L.LookUps.looks (λ looks request. left_part looks request (keys_of c.args.path.now) c.in_ok-opened.opened) c.args.self.now c.open.new.self c.in_ok-opened.ensures.keeps in
    let left = left_part (g.L.LookUps.looks c.args.self.now.lender.held) c.args.self.now.lender.request (keys_of c.args.path.now) c.in_ok-opened.opened in
    let whole = child_part (g.L.LookUps.looks c.args.self.now.lender.held) c.args.self.now.lender.request c.args.hops (keys_of c.args.path.now) c.args.child.now in
    asks_settled left whole c.is_named-was_named.result c.args.self.now c.open.new.self c.is_named-was_named.ensures (c.in_ok-opened.ensures.left (keys_of c.args.path.now)) c.in_ok-opened.ensures.keeps c.next_left.result c.next_left.new.self
    (subst (λ p. OnOk c.next_left.result (Settles c.is_named-was_named.result p c.open.new.self c.next_left.new.self)) same c.next_left.ensures.notes)

pub next_left-returns-clause-gathered : goal.next_left-returns-clause-gathered
next_left-returns-clause-gathered g t c = gathers_equal c.take.result c.args.gathering.now c.take.new.self _ _ c.in_ok-answer.ensures.comes.value c.take.ensures.gathered

pub next_left-returns-clause-progress : goal.next_left-returns-clause-progress
next_left-returns-clause-progress g t c = tells_equal c.take.result c.args.gathering.now _ _ c.in_ok-answer.ensures.comes.value c.take.ensures.progress

pub next_left-returns-clause-notes : goal.next_left-returns-clause-notes
next_left-returns-clause-notes g t c =
    let came = c.in_ok-answer.ensures.comes in
    on_ok c.take.result _ (record {
      notes = c.settle.ensures.notes ∙ ap (λ b. settling c.args.was_named b c.judge.new.self.notes) (c.has_failed.ensures ∙ ap has_failed came.value)
          ∙ ap (settling c.args.was_named _) came.notes;
      keeps = keeps_on c.args.self.now c.judge.new.self c.settle.new.self came.keeps c.settle.ensures.keeps;
    })

pub judge-returns-in-Set : goal.judge-returns-in-Set
judge-returns-in-Set g t c =
    record { comes = comes_equal or_nothing c.set_after.result c.args.self.now c.set_after.new.self _ _ (ap (left_part (g.L.LookUps.looks c.args.self.now.lender.held) c.args.self.now.lender.request (keys_of c.args.path.now)) (sym c.in-Set.is)) c.set_after.ensures.comes }

pub set_after-returns : goal.set_after-returns
set_after-returns g t c =
    let set = c.args.set.now in
    record {
      comes = came_within g.L.LookUps.looks (set_key set.id set.version) (λ looks request. in_set looks request c.args.hops (keys_of c.args.path.now) set c.args.targeted) c.args.self.now c.enter.new.self c.in_set.new.self c.leave.new.self
          (or_nothing c.in_ok-answer.answer) c.in_ok-enter.ensures.notes c.in_ok-enter.ensures.keeps c.in_ok-answer.ensures.comes c.leave.ensures.notes c.leave.ensures.keeps;
    }
