use Rattle.std.proofs.Common.{◌∙◌, map}
use Rattle.ent_finder.specs.Rows.{filled_source}
use Rattle.ent_telling.specs.Attributes.{attributes_data, attributes_text}
use Rattle.ent_telling.proofs.Told.{text_written}
use Rattle.ent_telling.proofs.attributes.attributes_text.Goals as goal

pub returns : goal.returns
unfolding attributes_text
returns g c =
    let sources = map filled_source (g.A.Attributes.sources c.args.attributes.now) in
    c.into_string.ensures
    ∙ text_written (attributes_data sources c.args.category.now c.args.entity.now) _ _ c.in_ok-out.ensures c.in_ok-write_attributes.ensures
