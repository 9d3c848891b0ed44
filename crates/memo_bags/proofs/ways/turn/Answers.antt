use Rattle.std.proofs.Common.{Some, refl, sym, subst}
use Rattle.std.specs.Prelude.{IsSome}
use Rattle.memo_trie.specs.Tree.{AsksAtMost, Grows, LeadsAsBefore}
use Rattle.memo_bags.specs.Ways.{about_of}
use Rattle.memo_bags.proofs.MakingWays.{as_before, asks_same, leads_further, not_free}
use Rattle.memo_bags.proofs.ways.turn.Goals as goal

pub returns-in-Other-clause-free : goal.returns-in-Other-clause-free
returns-in-Other-clause-free c = λ nothing. absurd (c.in-Other.ensures nothing)

pub returns-in-Other-clause-leads : goal.returns-in-Other-clause-leads
returns-in-Other-clause-leads c = as_before c.args.tree.now.nodes.items

pub returns-in-Other-clause-asks : goal.returns-in-Other-clause-asks
returns-in-Other-clause-asks c = asks_same (about_of c.args.finding) c.args.tree.now.nodes.items c.args.tree.now.nodes.items (λ n. refl)

pub returns-in-Leads-clause-further : goal.returns-in-Leads-clause-further
returns-in-Leads-clause-further c = leads_further c.args.tree.now.nodes.items c.args.place c.args.finding c.in-Leads.next c.in-Leads.ensures.0 c.in-Leads.ensures.1

pub returns-in-Leads-clause-free : goal.returns-in-Leads-clause-free
returns-in-Leads-clause-free c = not_free c.args.tree.now.nodes.items c.args.tree.now.nodes.items c.args.place (Some c.in-Leads.next) (about_of c.args.finding) c.in-Leads.ensures.0

pub returns-in-Leads-clause-leads : goal.returns-in-Leads-clause-leads
returns-in-Leads-clause-leads c = as_before c.args.tree.now.nodes.items

pub returns-in-Leads-clause-asks : goal.returns-in-Leads-clause-asks
returns-in-Leads-clause-asks c = asks_same (about_of c.args.finding) c.args.tree.now.nodes.items c.args.tree.now.nodes.items (λ n. refl)

pub branch-tree-requires-clause-asks : goal.branch-tree-requires-clause-asks
branch-tree-requires-clause-asks c = subst IsSome (sym c.in-Free.ensures.0) refl

pub branch-tree-requires-clause-free : goal.branch-tree-requires-clause-free
branch-tree-requires-clause-free c = c.in-Free.ensures.1

pub returns-in_err-branch-in-Free-clause-leads : goal.returns-in_err-branch-in-Free-clause-leads
returns-in_err-branch-in-Free-clause-leads c = c.in_err-branch-in-Free.ensures.err.leads

pub returns-in_err-branch-in-Free-clause-asks : goal.returns-in_err-branch-in-Free-clause-asks
returns-in_err-branch-in-Free-clause-asks c = asks_same (about_of c.args.finding) c.args.tree.now.nodes.items c.branch-tree.new.self.nodes.items c.in_err-branch-in-Free.ensures.err.asks

pub returns-in_ok-branch-in-Free-clause-further : goal.returns-in_ok-branch-in-Free-clause-further
returns-in_ok-branch-in-Free-clause-further c = (c.in_ok-branch-in-Free.ensures.ok (about_of c.args.finding) c.in-Free.ensures.0).reaches

pub returns-in_ok-branch-in-Free-clause-free : goal.returns-in_ok-branch-in-Free-clause-free
returns-in_ok-branch-in-Free-clause-free c = not_free c.args.tree.now.nodes.items c.branch-tree.new.self.nodes.items c.args.place (Some c.in_ok-branch-in-Free.field-0) (about_of c.args.finding) c.in-Free.ensures.0

pub returns-in_ok-branch-in-Free-clause-leads : goal.returns-in_ok-branch-in-Free-clause-leads
returns-in_ok-branch-in-Free-clause-leads c = (c.in_ok-branch-in-Free.ensures.ok (about_of c.args.finding) c.in-Free.ensures.0).leads

pub returns-in_ok-branch-in-Free-clause-asks : goal.returns-in_ok-branch-in-Free-clause-asks
returns-in_ok-branch-in-Free-clause-asks c = (c.in_ok-branch-in-Free.ensures.ok (about_of c.args.finding) c.in-Free.ensures.0).asks

pub ask-requires : goal.ask-requires
ask-requires c = c.in-Nothing.ensures

pub returns-in_err-ask-in-Nothing-clause-leads : goal.returns-in_err-ask-in-Nothing-clause-leads
returns-in_err-ask-in-Nothing-clause-leads c = subst (LeadsAsBefore c.args.tree.now.nodes.items) (sym c.in_err-ask-in-Nothing.ensures.err) (as_before c.args.tree.now.nodes.items)

pub returns-in_err-ask-in-Nothing-clause-asks : goal.returns-in_err-ask-in-Nothing-clause-asks
returns-in_err-ask-in-Nothing-clause-asks c =
    subst (AsksAtMost (about_of c.args.finding) c.args.tree.now.nodes.items) (sym c.in_err-ask-in-Nothing.ensures.err) (asks_same (about_of c.args.finding) c.args.tree.now.nodes.items c.args.tree.now.nodes.items (λ n. refl))

pub returns-in_ok-ask-in-Nothing-clause-further : goal.returns-in_ok-ask-in-Nothing-clause-further
returns-in_ok-ask-in-Nothing-clause-further c =
    (subst (λ k. Grows c.args.tree.now.nodes.items c.ask.new.self.nodes.items c.args.place (record { key = k; number = c.args.finding.bag }) c.in_ok-ask-in-Nothing.field-0) c.about.ensures c.in_ok-ask-in-Nothing.ensures.ok).reaches

pub returns-in_ok-ask-in-Nothing-clause-free : goal.returns-in_ok-ask-in-Nothing-clause-free
returns-in_ok-ask-in-Nothing-clause-free c = λ nothing. (c.in_ok-ask-in-Nothing.field-0, (refl, c.in_ok-ask-in-Nothing.ensures.ok.nothing))

pub returns-in_ok-ask-in-Nothing-clause-leads : goal.returns-in_ok-ask-in-Nothing-clause-leads
returns-in_ok-ask-in-Nothing-clause-leads c = c.in_ok-ask-in-Nothing.ensures.ok.leads

pub returns-in_ok-ask-in-Nothing-clause-asks : goal.returns-in_ok-ask-in-Nothing-clause-asks
returns-in_ok-ask-in-Nothing-clause-asks c =
    (subst (λ k. Grows c.args.tree.now.nodes.items c.ask.new.self.nodes.items c.args.place (record { key = k; number = c.args.finding.bag }) c.in_ok-ask-in-Nothing.field-0) c.about.ensures c.in_ok-ask-in-Nothing.ensures.ok).asks
