use Rattle.std.proofs.Common.{◌≡◌, ◌∙◌, arith, false, of_calls, true}
use Rattle.std.proofs.lemmas.List.Elements.{AllWithin-more, AllWithin-none, at_read}
use Rattle.ent_finder.proofs.Fronts.{answered, ends_here, ends_in_rest, rest_parted}
use Rattle.ent_finder.proofs.passing.count_passing.Goals as goal

pub loop-index-init : goal.loop-index-init
loop-index-init g c = record {
  callable = c.requires;
  passed = λ p by. (by, AllWithin-none (λ x. p x ≡ true) c.args.items.now 0);
}

pub returns-then-not-passes-clause-partitioned : goal.returns-then-not-passes-clause-partitioned
returns-then-not-passes-clause-partitioned g c p by parted =
    let xs = c.args.items.now in
    let index = c.loop-index.index in
    let before = c.loop-index.invariant.passed p by in
    let answer = answered p before.0 c.passes.ensures in
    ends_here p xs index parted before.1 (at_read xs (λ x. p x ≡ false) index _ (omega arith) c.index-items-index.is (answer.0 ∙ c.if-not-passes.true))

pub loop-index-preserved : goal.loop-index-preserved
loop-index-preserved g c = record {
  callable = search of_calls;
  passed = λ p by.
      let xs = c.args.items.now in
      let index = c.loop-index.index in
      let before = c.loop-index.invariant.passed p by in
      let answer = answered p before.0 c.passes.ensures in
      (answer.1, AllWithin-more (λ x. p x ≡ true) xs 0 index before.1 (at_read xs (λ x. p x ≡ true) index _ (omega arith) c.index-items-index.is (answer.0 ∙ c.if-not-passes.false)));
}

pub returns-clause-partitioned : goal.returns-clause-partitioned
returns-clause-partitioned g c p by parted =
    let xs = c.args.items.now in
    let near = c.min-near.result in
    let before = c.loop-index.invariant.passed p by in
    ends_in_rest p xs near (omega arith) _ (λ k d lo hi. before.1 k d lo (omega arith)) (c.partition_point.ensures.partitioned p before.0 (rest_parted p xs near (omega arith) parted))
