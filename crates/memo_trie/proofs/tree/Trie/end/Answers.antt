use Rattle.std.proofs.Common.{refl}
use Rattle.memo_trie.proofs.Places.{ends}
use Rattle.memo_trie.proofs.tree.Trie.end.Goals as goal

pub returns : goal.returns
returns g c = λ way reaches. ends c.args.self.now.nodes.items _ c.args.place c.args.leaf c.requires refl c.args.self.now.tree way reaches
