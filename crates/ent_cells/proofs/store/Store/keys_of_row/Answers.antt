use Rattle.std.proofs.Common.{◌≡◌, ap, ◌∙◌, true}
use Rattle.std.proofs.lemmas.Result.{IfOk-weaker}
use Rattle.slab.specs.Slab.{get}
use Rattle.ent_request.proofs.ReadersAre.{listed_look_ups}
use Rattle.ent_request.specs.Noted.{has_key}
use Rattle.ent_request.specs.QuestionOf.{question_of}
use Rattle.ent_request.specs.Questions.{is_asked}
use Rattle.ent_request.specs.declared.key.ReadKey.{ReadKey}
use Rattle.ent_index.specs.Asked.{asks_row}
use Rattle.ent_cells.proofs.ReadKeys.{read_asked}
use Rattle.ent_cells.specs.proofs_only.Asked.{HasKeysOf, reads_at}
use Rattle.ent_cells.proofs.store.Store.keys_of_row.Goals as goal

pub returns : goal.returns
returns g c =
    let s = c.args.self.now.cells in
    let q = (g.E.Evaluates.evaluator c.self.inside.evaluator).questions in
    let asks = asks_row c.args.row.now in
    IfOk-weaker c.keys_of_row.result (λ keys. (k : ReadKey) → asks k ≡ true → is_asked q (question_of k) ≡ true → has_key keys k ≡ true) (HasKeysOf asks s)
    (λ keys there k x passes reads. there k passes
    (read_asked listed_look_ups q c.self.inside.groups c.self.inside.slab c.self.invariant k x (ap (λ z. reads_at (get z.cells x) k) c.self.view_is ∙ reads)))
    (rw c.questions.ensures at c.keys_of_row.ensures)
