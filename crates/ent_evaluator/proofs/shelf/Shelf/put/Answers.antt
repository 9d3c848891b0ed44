use Rattle.std.proofs.Common.{◌≡◌, arith, length, refl, sym, subst}
use Rattle.std.proofs.lemmas.Bool.{false≢true}
use Rattle.std.specs.Prelude.{IfSome, IsSome}
use Rattle.memo_trie.specs.Tree.{Ends}
use Rattle.memo_bags.specs.Ways.{way_of}
use Rattle.memo_bags.specs.proofs_only.Led.{AreAbout, IsMade}
use Rattle.ent_evaluator.proofs.Shelved.{index_more, index_same}
use Rattle.ent_evaluator.proofs.shelf.Shelf.put.Goals as goal

pub returns-in_err-make_way-clause-index : goal.returns-in_err-make_way-clause-index
returns-in_err-make_way-clause-index c = λ questions about index.
    index_same questions c.args.self.now _ c.in_err-make_way.ensures.leads (c.in_err-make_way.ensures.asks questions (subst (AreAbout questions) (sym c.as_slice.ensures) about) index.asks) refl index

pub returns-in-None-clause-free : goal.returns-in-None-clause-free
returns-in-None-clause-free c = λ none. absurd (false≢true (subst IsSome c.in-None.is (c.in_ok-make_way.ensures.free none)))

pub returns-in-None-clause-index : goal.returns-in-None-clause-index
returns-in-None-clause-index c = λ questions about index.
    index_same questions c.args.self.now _ c.in_ok-make_way.ensures.leads (c.in_ok-make_way.ensures.asks questions (subst (AreAbout questions) (sym c.as_slice.ensures) about) index.asks) refl index

pub returns-in_err-push-in-Some-clause-index : goal.returns-in_err-push-in-Some-clause-index
returns-in_err-push-in-Some-clause-index c = λ questions about index.
    index_same questions c.args.self.now _ c.in_ok-make_way.ensures.leads (c.in_ok-make_way.ensures.asks questions (subst (AreAbout questions) (sym c.as_slice.ensures) about) index.asks) c.in_err-push-in-Some.ensures.items
    index

pub end-requires : goal.end-requires
end-requires c = (subst (λ o. IfSome o (IsMade c.make_way.new.tree.nodes.items c.as_slice.result.now)) c.in-Some.is c.in_ok-make_way.ensures.made).0

pub returns-in_ok-push-in-Some-clause-index : goal.returns-in_ok-push-in-Some-clause-index
returns-in_ok-push-in-Some-clause-index c = λ questions about index.
    let made = subst (λ o. IfSome o (IsMade c.make_way.new.tree.nodes.items c.as_slice.result.now)) c.in-Some.is c.in_ok-make_way.ensures.made in
    let ends = c.end.ensures (way_of c.as_slice.result.now) made.1 in
    let number : c.len-number.result ≡ length c.args.self.now.cases.items = omega (arith, c.len-number.ensures, c.args.self.now.cases.ok.0) in
    index_more questions c.args.self.now _ c.make_way.new.tree.nodes.items c.args.case c.in_ok-make_way.ensures.leads
    (c.in_ok-make_way.ensures.asks questions (subst (AreAbout questions) (sym c.as_slice.ensures) about) index.asks)
    (subst (λ n. Ends c.make_way.new.tree.nodes.items c.end.new.self.nodes.items (way_of c.args.case.found) n) number
    (subst (λ fs. Ends c.make_way.new.tree.nodes.items c.end.new.self.nodes.items (way_of fs) c.len-number.result) c.as_slice.ensures ends)) c.in_ok-push-in-Some.ensures.items index
