use Rattle.std.proofs.Common.{◌≡◌, ap, ◌∙◌}
use Rattle.std.specs.Prelude.{filter_map}
use Rattle.std.proofs.lemmas.Result.{IfOk-weaker}
use Rattle.slab.specs.Slab.{get}
use Rattle.ent_request.proofs.ReadersAre.{listed_look_ups}
use Rattle.ent_request.specs.Noted.{has_key}
use Rattle.ent_index.specs.Asked.{asks_policy}
use Rattle.ent_cells.proofs.ReadKeys.{read_asked, references_there}
use Rattle.ent_cells.specs.proofs_only.Asked.{HasKeysOf, reads_at, reference_of}
use Rattle.ent_cells.proofs.store.Store.keys_of_policy.Goals as goal

pub returns : goal.returns
returns g c =
    let s = c.args.self.now.cells in
    let q = (g.E.Evaluates.evaluator c.self.inside.evaluator).questions in
    let kind = c.args.kind in
    let id = c.args.id.now in
    IfOk-weaker c.references.result (λ keys. keys ≡ filter_map (reference_of kind id) c.as_slice.result.now) (HasKeysOf (asks_policy kind id) s)
    (λ keys is k x asked reads.
    ap (λ xs. has_key xs k) (is ∙ ap (filter_map (reference_of kind id)) (c.as_slice.ensures ∙ c.questions.ensures))
    ∙ references_there kind id q k asked (read_asked listed_look_ups q c.self.inside.groups c.self.inside.slab c.self.invariant k x (ap (λ z. reads_at (get z.cells x) k) c.self.view_is ∙ reads)))
    c.references.ensures
