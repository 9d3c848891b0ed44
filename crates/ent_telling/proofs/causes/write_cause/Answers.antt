use Rattle.std.proofs.Common.{List, Some, [], codes, ◌∷◌}
use Rattle.json.specs.Token as token
use Rattle.serde_json.specs.Data as json
use Rattle.ent_json.specs.Text.{tokens_of}
use Rattle.ent_polform.proofs.TextLemmas.{ends, object_tokens}
use Rattle.ent_polform.specs.proofs_only.Texts.{Part}
use Rattle.ent_telling.specs.Causes.{what_data}
use Rattle.ent_telling.specs.Paths.{path_data, rule_data, status_text}
use Rattle.ent_telling.proofs.causes.write_cause.Goals as goal

pub returns : goal.returns
returns c =
    let cause = c.args.cause.now in
    let members : List Part =
    (codes "path", Some (path_data cause.path)) ∷ (codes "rule", Some (rule_data cause.rule))
    ∷ (codes "status", Some (json.string (status_text cause.status))) ∷ (codes "what", Some (what_data cause.what)) ∷ [] in
    rw (object_tokens members, ← c.as_slice.ensures, ← c.status_text.ensures)
    (ends _ _ _ _ (token.begin_object ∷ []) _ c.in_ok-begin_object.ensures.ok
    (ends _ _ _ _ (token.key (codes "path") ∷ []) _ c.in_ok-key.ensures.ok
    (ends _ _ _ _ (tokens_of (path_data c.as_slice.result.now)) _ c.in_ok-write_path.ensures
    (ends _ _ _ _ (token.key (codes "rule") ∷ []) _ c.in_ok-key-2.ensures.ok
    (ends _ _ _ _ (tokens_of (rule_data cause.rule)) _ c.in_ok-write_rule.ensures
    (ends _ _ _ _ (token.key (codes "status") ∷ token.string c.status_text.result.now ∷ []) _ c.in_ok-write_text.ensures
    (ends _ _ _ _ (token.key (codes "what") ∷ []) _ c.in_ok-key-3.ensures.ok
    (ends _ _ _ _ (tokens_of (what_data cause.what)) _ c.in_ok-write_what.ensures c.end_object.ensures.ok))))))))
