use Rattle.std.proofs.Common.{ap, sym, ◌∙◌}
use Rattle.ent_index.proofs.Views.{get-index_of}
use Rattle.ent_index.specs.Index.{has, has_in}
use Rattle.ent_index.proofs.index.Index.has.Goals as goal

pub returns-in-Some : goal.returns-in-Some
returns-in-Some c =
    c.contains.ensures ∙ ap (λ o. has_in o c.args.cell) (c.in-Some.ensures.value ∙ sym (get-index_of c.self.inside.readers c.args.key.now)) ∙ ap (λ i. has i c.args.key.now c.args.cell) c.self.view_is

pub returns-in-None : goal.returns-in-None
returns-in-None c =
    ap (λ o. has_in o c.args.cell) (c.in-None.ensures.value ∙ sym (get-index_of c.self.inside.readers c.args.key.now)) ∙ ap (λ i. has i c.args.key.now c.args.cell) c.self.view_is
