use Rattle.std.proofs.Common.{ap, sym, ◌∙◌}
use Rattle.memo_trie.specs.Tree.{key_in}
use Rattle.memo_trie.proofs.Places.{asks_then, key_within, on_err, stays_then, stood, tree_then}
use Rattle.memo_trie.proofs.tree.Trie.branch.Goals as goal

pub invariant_of-self-2 : goal.invariant_of-self-2
invariant_of-self-2 g c =
    let old = c.args.self.now.nodes.items in
    let there = stood old c.push.new.self.items c.args.place c.index_mut.result.now c.in_ok-push.ensures.items (key_within old c.args.place c.requires.asks) c.index_mut.ensures.value in
    record {
      tree = tree_then old c.push.new.self.items c.args.place c.args.number c.in_ok-below.below c.index_mut.result.now c.add_branch.new.node c.args.self.now.tree c.in_ok-push.ensures.items c.in_ok-below.ensures there
          c.add_branch.result c.requires.asks c.add_branch.ensures.ok c.add_branch.ensures.err;
    }

pub returns-in_err-add_branch-clause-err : goal.returns-in_err-add_branch-clause-err
returns-in_err-add_branch-clause-err g c =
    let old = c.args.self.now.nodes.items in
    let there = stood old c.push.new.self.items c.args.place c.index_mut.result.now c.in_ok-push.ensures.items (key_within old c.args.place c.requires.asks) c.index_mut.ensures.value in
    on_err c.from_residual-in_err-add_branch.result
    (stays_then old c.push.new.self.items c.args.place c.args.number c.in_ok-below.below c.index_mut.result.now c.add_branch.new.node c.args.self.now.tree c.in_ok-push.ensures.items c.in_ok-below.ensures there
    c.in_err-add_branch.ensures.err).1

pub returns-clause-ok : goal.returns-clause-ok
returns-clause-ok g c = λ key is.
    let old = c.args.self.now.nodes.items in
    let there = stood old c.push.new.self.items c.args.place c.index_mut.result.now c.in_ok-push.ensures.items (key_within old c.args.place c.requires.asks) c.index_mut.ensures.value in
    (asks_then old c.push.new.self.items c.args.place c.args.number c.in_ok-below.below c.index_mut.result.now c.add_branch.new.node c.args.self.now.tree c.in_ok-push.ensures.items c.in_ok-below.ensures there
    key (c.in_ok-add_branch.ensures.ok key (ap key_in (sym there) ∙ is))).1
