use Rattle.std.proofs.Common.{◌≡◌, ◌∙◌, ◌+◌, ap, map}
use Rattle.std.specs.Prelude.{vec_len}
use Rattle.ent_finder.specs.Slots.{held}
use Rattle.lint_links.proofs.Counting.{told_all, told_more}
use Rattle.lint_links.specs.Root.{root_faults}
use Rattle.lint_links.specs.Together.{faults_together}
use Rattle.lint_links.specs.proofs_only.Rows.{entry_of}
use Rattle.lint_links.proofs.together.Together.faults.Goals as goal

pub loop-number-preserved : goal.loop-number-preserved
loop-number-preserved c =
    told_more (held c.args.self.now.state.docs) c.as_slice-all.result.now c.loop-number.number (ap (map entry_of) c.as_slice-all.ensures.value ∙ c.in_ok-held.ensures)
    c.index-all-number.result c.args.links.now.endless.items c.args.links.now.long.items (vec_len c.loop-number.lines) (vec_len c.tell_unfound.new.lines) (vec_len c.tell_far.new.lines)
    c.loop-number-test.true c.index-all-number.is c.requires.endless c.requires.long c.loop-number.invariant c.in_ok-tell_unfound.ensures c.in_ok-tell_far.ensures

pub returns : goal.returns
returns c =
    let docs = held c.args.self.now.state.docs in
    let told : vec_len c.loop-number.lines ≡ faults_together docs =
    told_all docs c.as_slice-all.result.now c.loop-number.number (ap (map entry_of) c.as_slice-all.ensures.value ∙ c.in_ok-held.ensures)
    (vec_len c.loop-number.lines) c.loop-number-test.false c.loop-number.invariant in
    c.in_ok-tell_root.ensures ∙ ap (λ n. n + root_faults docs c.args.self.now.state.root) told
