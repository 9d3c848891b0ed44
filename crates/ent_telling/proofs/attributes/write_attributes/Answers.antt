use Rattle.std.proofs.Common.{[], ◌∷◌, codes, map}
use Rattle.json.specs.Token as token
use Rattle.ent_finder.specs.Rows.{filled_source}
use Rattle.ent_polform.proofs.TextLemmas.{ends}
use Rattle.ent_telling.specs.Attributes.{row_data, rows_of}
use Rattle.ent_telling.specs.proofs_only.Walk.{each_tokens}
use Rattle.ent_telling.proofs.Told.{reply_tokens}
use Rattle.ent_telling.proofs.attributes.write_attributes.Goals as goal

pub returns : goal.returns
returns g c =
    let sources = map filled_source (g.A.Attributes.sources c.args.attributes.now) in
    let told = map row_data (rows_of c.args.category.now c.args.entity.now sources) in
    rw (reply_tokens (codes "attributes") told)
    (ends _ _ _ _ (token.begin_object ∷ token.key (codes "attributes") ∷ token.begin_array ∷ []) _ c.in_ok-begin_list.ensures
    (ends _ _ _ _ (each_tokens told) _ c.in_ok-write_rows.ensures c.end_list.ensures))
