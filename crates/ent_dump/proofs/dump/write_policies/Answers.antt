use Rattle.std.proofs.Common.{◌++◌, ◌∙◌, ap, arith, sym}
use Rattle.std.specs.FinMap.{empty}
use Rattle.ent_finder.specs.Slots.{held}
use Rattle.law_rebuild.specs.Rebuilding.{module_edits}
use Rattle.ent_dump.specs.proofs_only.Walk.{line_tokens}
use Rattle.ent_dump.proofs.Walks.{module_on, modules_all, numbered-map}
use Rattle.ent_dump.proofs.dump.write_policies.Goals as goal

pub loop-number-preserved : goal.loop-number-preserved
loop-number-preserved g c =
    let modules = g.P.Policies.slots c.args.policies.now in
    module_on (λ m. module_edits (m.0, held m.1)) modules c.loop-number.number empty _ _ _ (omega arith) c.in_ok-write_module.ensures c.loop-number.invariant

pub returns : goal.returns
returns g c =
    let modules = g.P.Policies.slots c.args.policies.now in
    modules_all (λ m. module_edits (m.0, held m.1)) modules c.loop-number.number _ _ (omega arith) c.loop-number.invariant
    ∙ ap (λ es. c.args.out.now ++ line_tokens es) (sym (numbered-map module_edits held 0 modules))
