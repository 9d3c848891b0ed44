use Rattle.std.proofs.Common.{◌++◌, ◌∙◌, ap, arith, map, sym}
use Rattle.std.specs.Prelude.{is_some}
use Rattle.std.specs.FinMap.{empty}
use Rattle.std.specs.Option.{option_copied}
use Rattle.ent_finder.specs.Slots.{held}
use Rattle.lint_reach.specs.Reached.{has_place}
use Rattle.ent_telling.specs.Documents.{document_data, module_documents}
use Rattle.ent_telling.specs.proofs_only.Walk.{each_tokens}
use Rattle.ent_telling.proofs.Walks.{module_on, modules_all, numbered}
use Rattle.ent_telling.proofs.documents.write_modules.Goals as goal

pub loop-number-preserved : goal.loop-number-preserved
loop-number-preserved g c =
    let modules = g.P.Policies.slots c.args.policies.now in
    module_on (λ m. map (document_data (λ p. has_place p c.args.reached.now) (is_some (option_copied c.args.id))) (module_documents (option_copied c.args.id) (m.0, held m.1)))
    modules c.loop-number.number empty _ _ _ (omega arith) c.in_ok-write_slots.ensures c.loop-number.invariant

pub returns : goal.returns
returns g c =
    let modules = g.P.Policies.slots c.args.policies.now in
    let told = document_data (λ p. has_place p c.args.reached.now) (is_some (option_copied c.args.id)) in
    let documents = module_documents (option_copied c.args.id) in
    modules_all (λ m. map told (documents (m.0, held m.1))) modules c.loop-number.number _ _ (omega arith) c.loop-number.invariant
    ∙ ap (λ ds. c.args.out.now ++ each_tokens ds) (sym (numbered told documents held 0 modules))
