use Rattle.std.proofs.Common.{◌∙◌, ap, not}
use Rattle.std.specs.List.{filter}
use Rattle.std.proofs.lemmas.List.{take_all}
use Rattle.lint_reach.specs.Reached.{has_place}
use Rattle.lint_links.specs.proofs_only.Root.{place_of}
use Rattle.lint_links.proofs.Steps.{filter_more}
use Rattle.lint_links.proofs.root.keys_outside.Goals as goal

pub loop-key-preserved : goal.loop-key-preserved
loop-key-preserved c =
    filter_more (λ k. not (has_place (place_of k) c.args.reached.now)) c.args.keys.now c.loop-key.key-index c.key-item.result c.loop-key.left c.put_outside.new.left
    c.loop-key-test.true c.key-item.is c.loop-key.invariant c.in_ok-put_outside.ensures

pub returns : goal.returns
returns c =
    c.loop-key.invariant ∙ ap (filter (λ k. not (has_place (place_of k) c.args.reached.now))) (take_all c.loop-key.key-index c.args.keys.now c.loop-key-test.false)
