use Rattle.std.proofs.Common.{[], ◌∷◌, codes}
use Rattle.json.specs.Token as token
use Rattle.serde_json.specs.Written.{compact_text}
use Rattle.ent_polform.proofs.TextLemmas.{ends}
use Rattle.law_rebuild.specs.Rebuilding.{rebuilding}
use Rattle.ent_dump.specs.Dumped.{format_data}
use Rattle.ent_dump.specs.proofs_only.Walk.{line_tokens}
use Rattle.ent_dump.proofs.Walks.{dump_tokens}
use Rattle.ent_dump.proofs.dump.write_dump.Goals as goal

pub returns : goal.returns
returns g c =
    let state = c.args.review.now.state in
    rw (dump_tokens c.args.version state)
    (ends _ _ _ _ (token.begin_object ∷ []) _ c.in_ok-begin_object.ensures.ok
    (ends _ _ _ _ (token.key (codes "dump") ∷ []) _ c.in_ok-key.ensures.ok
    (ends _ _ _ _ (token.begin_array ∷ []) _ c.in_ok-begin_array.ensures.ok
    (ends _ _ _ _ (token.string (compact_text (format_data c.args.version)) ∷ []) _ c.in_ok-write_format_line.ensures
    (ends _ _ _ _ (line_tokens (rebuilding state)) _ c.in_ok-write_edits.ensures
    (ends _ _ _ _ (token.end_array ∷ []) _ c.in_ok-end_array.ensures.ok c.end_object.ensures.ok))))))
