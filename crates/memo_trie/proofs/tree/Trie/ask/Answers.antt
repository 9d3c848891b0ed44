use Rattle.memo_trie.specs.declared.node.Node.TheVariants.{Ask, Nothing}
use Rattle.memo_trie.proofs.Places.{asks_first, asks_then}
use Rattle.memo_trie.proofs.tree.Trie.ask.Goals as goal

pub invariant_of-self-2 : goal.invariant_of-self-2
invariant_of-self-2 g c = record {
  tree = (asks_then c.args.self.now.nodes.items c.push.new.self.items c.args.place c.args.number c.in_ok-below.below Nothing (Ask c.new.result) c.args.self.now.tree c.in_ok-push.ensures.items c.in_ok-below.ensures c.requires
      c.args.key (asks_first c.new.result c.args.key c.args.number c.in_ok-below.below c.new.ensures.key c.new.ensures.branch)).0;
}

pub returns-clause-ok : goal.returns-clause-ok
returns-clause-ok g c =
    (asks_then c.args.self.now.nodes.items c.push.new.self.items c.args.place c.args.number c.in_ok-below.below Nothing (Ask c.new.result) c.args.self.now.tree c.in_ok-push.ensures.items c.in_ok-below.ensures c.requires
    c.args.key (asks_first c.new.result c.args.key c.args.number c.in_ok-below.below c.new.ensures.key c.new.ensures.branch)).1
