use Rattle.std.proofs.Common.{◌∙◌, ap, map, sym}
use Rattle.std.proofs.lemmas.Result.{IfOk-weaker}
use Rattle.serde_json.specs.Find.{as_array}
use Rattle.serde_json.specs.View.{view}
use Rattle.serde_json.proofs.Views.{view-Array}
use Rattle.script_compare.proofs.Lists.{table_of}
use Rattle.script_compare.proofs.table.table_in.Goals as goal

pub returns-in-Array : goal.returns-in-Array
returns-in-Array c =
    IfOk-weaker c.by_request.result _ _
    (λ o h. h ∙ table_of (view c.args.reply) (view c.in-Some.cells.now) (map view c.in-Array.cells.items) c.in-Some.ensures
    (ap as_array (sym (view-Array c.in-Array.cells)) ∙ ap (λ v. as_array (view v)) c.in-Array.ensures.taken)) c.by_request.ensures
