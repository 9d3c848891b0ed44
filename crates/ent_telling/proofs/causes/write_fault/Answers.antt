use Rattle.std.proofs.Common.{List, Some, [], codes, ◌∷◌}
use Rattle.json.specs.Token as token
use Rattle.serde_json.specs.Data as json
use Rattle.ent_functions.specs.Identifiers.{id_of}
use Rattle.ent_polform.proofs.TextLemmas.{ends, object_tokens}
use Rattle.ent_polform.specs.proofs_only.Texts.{Part}
use Rattle.ent_telling.specs.Causes.{fault_word}
use Rattle.ent_telling.proofs.causes.write_fault.Goals as goal

pub returns : goal.returns
returns c =
    let members : List Part =
    (codes "fault", Some (json.string (fault_word c.args.fault))) ∷ (codes "function", Some (json.string (id_of c.args.function))) ∷ [] in
    rw (object_tokens members, ← c.in_ok-id.ensures, ← c.as_str.ensures, ← c.fault_word.ensures)
    (ends _ _ _ _ (token.begin_object ∷ []) _ c.in_ok-begin_object.ensures.ok
    (ends _ _ _ _ (token.key (codes "fault") ∷ token.string c.fault_word.result.now ∷ []) _ c.in_ok-write_text.ensures
    (ends _ _ _ _ (token.key (codes "function") ∷ token.string c.as_str.result.now ∷ []) _ c.in_ok-write_text-2.ensures c.end_object.ensures.ok)))
