use Rattle.memo_trie.proofs.Places.{on_err, same_others}
use Rattle.memo_trie.proofs.fork.Fork.add.Goals as goal

pub returns-in_err-insert-clause-err : goal.returns-in_err-insert-clause-err
returns-in_err-insert-clause-err g c = on_err c.from_residual.result (same_others c.args.self.now c.insert.new.self c.in_err-insert.ensures.err)
