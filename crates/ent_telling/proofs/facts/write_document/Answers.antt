use Rattle.std.proofs.Common.{List, Some, None, [], codes, decimal, ◌∷◌}
use Rattle.std.specs.Prelude.{if◌then◌else◌}
use Rattle.json.specs.Token as token
use Rattle.serde_json.specs.Data as json
use Rattle.ent_policy.specs.Key.{key_of, kind_word}
use Rattle.ent_policy.specs.Versions.{version_text}
use Rattle.ent_polform.proofs.TextLemmas.{ends, object_tokens}
use Rattle.ent_polform.specs.Written.{written}
use Rattle.ent_polform.specs.proofs_only.Texts.{Part}
use Rattle.ent_json.specs.proofs_only.Keyed.{optional_tokens}
use Rattle.ent_telling.proofs.facts.write_document.Goals as goal

pub returns : goal.returns
returns c =
    let key = key_of c.args.document.now in
    let whole = if c.args.whole then Some (written c.args.document.now) else None in
    let members : List Part =
    (codes "document", whole) ∷ (codes "id", Some (json.string key.id)) ∷ (codes "kind", Some (json.string (kind_word key.kind)))
    ∷ (codes "module", Some (json.number (json.unsigned c.args.number)))
    ∷ (codes "version", Some (json.string (version_text key.version))) ∷ [] in
    rw (object_tokens members, ← c.in_ok-key.ensures, ← c.as_str.ensures, ← c.word.ensures, ← c.in_ok-version.ensures, ← c.as_str-2.ensures)
    (ends _ _ _ _ (token.begin_object ∷ []) _ c.in_ok-begin_object.ensures.ok
    (ends _ _ _ _ (optional_tokens (codes "document") whole) _ c.in_ok-write_whole.ensures
    (ends _ _ _ _ (token.key (codes "id") ∷ token.string c.as_str.result.now ∷ []) _ c.in_ok-write_text.ensures
    (ends _ _ _ _ (token.key (codes "kind") ∷ token.string c.word.result.now ∷ []) _ c.in_ok-write_text-2.ensures
    (ends _ _ _ _ (token.key (codes "module") ∷ token.number (decimal c.args.number) ∷ []) _ c.in_ok-write_module.ensures
    (ends _ _ _ _ (token.key (codes "version") ∷ token.string c.as_str-2.result.now ∷ []) _ c.in_ok-write_text-3.ensures c.end_object.ensures.ok))))))
