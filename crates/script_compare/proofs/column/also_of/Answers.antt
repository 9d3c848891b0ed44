use Rattle.std.proofs.Common.{◌∙◌, ℕ, List, ap, codes}
use Rattle.serde_json.specs.View.{view}
use Rattle.script_compare.specs.Shown.{also_at}
use Rattle.script_compare.proofs.column.also_of.Goals as goal

pub returns : goal.returns
returns c =
    let also : List ℕ → List ℕ → List ℕ = λ key. also_at key (view c.args.before.now) (view c.args.after.now) in
    c.in_ok-push_also-3.ensures
    ∙ ap (also (codes "advice")) (c.in_ok-push_also-2.ensures ∙ ap (also (codes "obligations")) (c.in_ok-push_also.ensures ∙ ap (also (codes "status")) c.new-keys.ensures.items))
