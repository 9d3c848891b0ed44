use Rattle.std.proofs.Common.{◌≡◌, ◌<◌, map, ap, arith, rules, subst}
use Rattle.serde_json.specs.Data.{depth}
use Rattle.lint_places.specs.Faults.{faulty}
use Rattle.lint_places.specs.Places.{inside}
use Rattle.lint_places.specs.Views.{fault_at, faults_in, spot_of}
use Rattle.lint_places.specs.proofs_only.Walk.{Keeps, TellsMore}
use Rattle.lint_places.proofs.Each.{all_told, at_part, below_more, nothing_below, past_parts, still_cut, stopped}
use Rattle.lint_places.proofs.Inside.{depth-inside}
use Rattle.lint_places.proofs.OwnLemmas.{one_noted}
use Rattle.lint_places.proofs.Telling.{within_inside}
use Rattle.lint_places.proofs.faults.+walk.Goals as goal

pub walk-requires : goal.walk-requires
walk-requires g t c κs within =
    let content = g.J.JsonTree.content in
    let s = spot_of content c.args.place.now in
    let part = c.part-item.result in
    let parts = c.deref-part-items.result.now in
    let are : map (fault_at content) parts ≡ faulty (inside s) = rw c.deref-part-items.ensures.value c.in_ok-parts.ensures in
    let one = one_noted (fault_at content) parts (inside s) c.loop-part.part-index part are c.loop-part-test.true c.part-item.is in
    let less : depth (content part.place.json.now) < depth (content c.args.place.now.json.now) = depth-inside s (spot_of content part.place) one.0 in
    (omega (arith, less), (within, one.1))

pub loop-part-init : goal.loop-part-init
loop-part-init g t c =
    let content = g.J.JsonTree.content in
    let s = spot_of content c.args.place.now in
    let now = faults_in content c.tell_here.new.self in
    let same : faults_in content c.may_judge.new.self ≡ faults_in content c.args.faults.now = ap (λ p. map (fault_at content) p.items) c.in_ok-may_judge.ensures.places in
    let told = c.in_ok-tell_here.ensures in (
      subst (λ all. Keeps s all now) same told.right,
      subst (λ all. TellsMore all now) same told.more,
      told.here,
      still_cut c.args.faults.now.is_cut c.may_judge.new.self.is_cut c.tell_here.new.self.is_cut _ c.in_ok-may_judge.ensures.cut told.cut,
      nothing_below _ _ _,
    )

pub loop-part-preserved : goal.loop-part-preserved
loop-part-preserved g t c =
    let content = g.J.JsonTree.content in
    let s = spot_of content c.args.place.now in
    let part = c.part-item.result in
    let parts = c.deref-part-items.result.now in
    let are : map (fault_at content) parts ≡ faulty (inside s) = rw c.deref-part-items.ensures.value c.in_ok-parts.ensures in
    let one = one_noted (fault_at content) parts (inside s) c.loop-part.part-index part are c.loop-part-test.true c.part-item.is in
    let told = c.in_ok-walk.ensures in
    let so_far = c.loop-part.invariant in (
      λ f d within right. told.right f d (within_inside s (spot_of content part.place) d within one.0) (so_far.0 f d within right),
      λ pointer h. told.more pointer (so_far.1 pointer h),
      λ no. told.more s.pointer (so_far.2 no),
      λ h. told.cut (so_far.3 h),
      below_more c.loop-part.part-index (map (fault_at content) parts) (fault_at content part) _ _ _ _ (at_part (fault_at content) parts c.loop-part.part-index part c.loop-part-test.true c.part-item.is)
          told.cut told.more told.each so_far.4,
    )

pub returns-clause-each : goal.returns-clause-each
returns-clause-each g t c =
    let content = g.J.JsonTree.content in
    let s = spot_of content c.args.place.now in
    let parts = c.deref-part-items.result.now in
    let are : map (fault_at content) parts ≡ faulty (inside s) = rw c.deref-part-items.ensures.value c.in_ok-parts.ensures in
    let so_far = c.loop-part.invariant in
    λ uncut. all_told (c.args.fault, s) (map (fault_at content) parts) c.loop-part.part-index _ _ are (past_parts (fault_at content) parts c.loop-part.part-index c.loop-part-test.false) so_far.2 so_far.4 uncut

pub returns-then-not-branch-2-clause-each : goal.returns-then-not-branch-2-clause-each
returns-then-not-branch-2-clause-each g t c =
    let s = spot_of g.J.JsonTree.content c.args.place.now in
    λ uncut. stopped (c.args.fault, s) (faults_in g.J.JsonTree.content c.tell_here.new.self) (search rules) (search rules)
