use Rattle.std.proofs.Common.{[], ◌∷◌, codes, map}
use Rattle.std.specs.Prelude.{filter}
use Rattle.json.specs.Token as token
use Rattle.ent_json.specs.proofs_only.Text.{items_tokens_of}
use Rattle.ent_table.specs.Left.{cells_left}
use Rattle.ent_line.specs.Cells.{cell_data}
use Rattle.ent_line.specs.proofs_only.Selecting.{selects}
use Rattle.ent_line.proofs.TextLemmas.{ends}
use Rattle.ent_line.proofs.selecting.write_reply.Goals as goal

pub returns : goal.returns
returns g c =
    let cells = filter (selects c.args.selection) (cells_left c.args.cells) in
    ends _ _ _ _ (token.begin_object ∷ []) _ c.in_ok-begin_object.ensures.ok
    (ends _ _ _ _ (token.key (codes "cells") ∷ []) _ c.in_ok-key.ensures.ok
    (ends _ _ _ _ (token.begin_array ∷ []) _ c.in_ok-begin_array.ensures.ok
    (ends _ _ _ _ (items_tokens_of (map cell_data cells)) _ c.in_ok-write_selected.ensures c.end_object.ensures.ok)))
