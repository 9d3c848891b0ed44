use Rattle.std.proofs.Common.{◌≡◌, slice_set as set, List, is_some, ap, ◌∙◌}
use Rattle.std.specs.FinMap.{get}
use Rattle.ent_finder.specs.Rows.{Source, source_at, values_at}
use Rattle.ent_eval.specs.LooksOf.{held_by}
use Rattle.ent_eval.proofs.RowsSwapped.{all_filled, filled_within, filled-swapped, filled-taken, row_there, with_values_put}
use Rattle.ent_evaluator.proofs.parts.EvaluatorParts.exchange_row.Goals as goal

pub returns-clause-swapped : goal.returns-clause-swapped
returns-clause-swapped g c =
    let h = held_by c.args.self.now.pdp in
    let ss = c.args.self.now.pdp.sources in
    let n = c.args.number in
    let k = c.args.key.now in
    let vs = c.args.values.now in
    let within = filled_within ss n c.requires.number in
    let lent = c.attributes_mut.ensures.value in
    let swapped : g.A.Attributes.sources c.swap_row.new.self ≡ set ss n (with_values_put k vs (source_at ss n)) =
    c.in_ok-swap_row.ensures.swapped ∙ (λ t. set (lent t) n (with_values_put k vs (source_at (lent t) n))) in
    let all = ap (λ (l : List Source). all_filled l) swapped ∙ filled-swapped ss n k vs within in
    λ t. record h { sources = all t }

pub returns-clause-taken : goal.returns-clause-taken
returns-clause-taken g c =
    c.in_ok-swap_row.ensures.taken
    ∙ (λ t. values_at (source_at (c.attributes_mut.ensures.value t) c.args.number).rows c.args.key.now)
    ∙ filled-taken c.args.self.now.pdp.sources c.args.number c.args.key.now (filled_within c.args.self.now.pdp.sources c.args.number c.requires.number)

pub returns-clause-there : goal.returns-clause-there
returns-clause-there g c =
    let ss = c.args.self.now.pdp.sources in
    let n = c.args.number in
    let k = c.args.key.now in
    let vs = c.args.values.now in
    let within = filled_within ss n c.requires.number in
    let lent = c.attributes_mut.ensures.value in
    let swapped : g.A.Attributes.sources c.swap_row.new.self ≡ set ss n (with_values_put k vs (source_at ss n)) =
    c.in_ok-swap_row.ensures.swapped ∙ (λ t. set (lent t) n (with_values_put k vs (source_at (lent t) n))) in
    ap (λ (l : List Source). is_some (get (source_at l n).rows k)) swapped ∙ row_there ss n k vs within
