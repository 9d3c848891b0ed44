use Rattle.std.proofs.Common.{◌∷◌, ◌++◌, [], ap, append-nil, if◌then◌else◌, is_some, sym, ◌∙◌}
use Rattle.ent_index.proofs.Views.{get-index_of}
use Rattle.ent_index.specs.proofs_only.Steps.{is_read}
use Rattle.ent_index.proofs.index.Index.push_read.Goals as goal

pub returns-in_ok-push : goal.returns-in_ok-push
returns-in_ok-push c =
    let read = ap (λ i. is_read i c.args.key) (sym c.self.view_is) ∙ ap is_some (get-index_of c.self.inside.readers c.args.key) ∙ sym c.contains_key.ensures ∙ c.if-contains_key.true in
    c.in_ok-push.ensures.ok ∙ ap (λ b. c.args.keys.now ++ (if b then c.args.key ∷ [] else [])) (sym read)

pub returns-else-contains_key : goal.returns-else-contains_key
returns-else-contains_key c =
    let read = ap (λ i. is_read i c.args.key) (sym c.self.view_is) ∙ ap is_some (get-index_of c.self.inside.readers c.args.key) ∙ sym c.contains_key.ensures ∙ c.if-contains_key.false in
    sym (append-nil c.args.keys.now) ∙ ap (λ b. c.args.keys.now ++ (if b then c.args.key ∷ [] else [])) (sym read)
