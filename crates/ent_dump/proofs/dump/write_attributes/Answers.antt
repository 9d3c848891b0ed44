use Rattle.std.proofs.Common.{[], ◌++◌, ◌∙◌, ap, arith, sym}
use Rattle.std.specs.FinMap.{empty}
use Rattle.ent_finder.specs.Rows.{filled_source}
use Rattle.law_rebuild.specs.Rebuilding.{source_edits}
use Rattle.ent_dump.specs.proofs_only.Walk.{line_tokens}
use Rattle.ent_dump.proofs.Walks.{module_on, modules_all, numbered-map}
use Rattle.ent_dump.proofs.dump.write_attributes.Goals as goal

pub loop-number-preserved : goal.loop-number-preserved
loop-number-preserved g c =
    let modules = g.A.Attributes.sources c.args.attributes.now in
    module_on (λ m. source_edits (m.0, filled_source m.1)) modules c.loop-number.number (record { categories = []; rows = empty }) _ _ _ (omega arith)
    c.in_ok-write_source.ensures c.loop-number.invariant

pub returns : goal.returns
returns g c =
    let modules = g.A.Attributes.sources c.args.attributes.now in
    modules_all (λ m. source_edits (m.0, filled_source m.1)) modules c.loop-number.number _ _ (omega arith) c.loop-number.invariant
    ∙ ap (λ es. c.args.out.now ++ line_tokens es) (sym (numbered-map source_edits filled_source 0 modules))
