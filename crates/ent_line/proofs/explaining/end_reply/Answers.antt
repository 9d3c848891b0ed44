use Rattle.std.proofs.Common.{[], ◌∷◌, codes, decimal}
use Rattle.json.specs.Token as token
use Rattle.ent_eval.specs.LooksOf.{held_by}
use Rattle.ent_telling.specs.Causes.{causes_data, untold}
use Rattle.ent_telling.specs.Facts.{facts_data}
use Rattle.ent_json.specs.Text.{tokens_of}
use Rattle.ent_line.proofs.TextLemmas.{ends}
use Rattle.ent_line.proofs.explaining.end_reply.Goals as goal

pub returns : goal.returns
returns g c =
    let causes = c.args.causes.now in
    let told = facts_data c.args.whole (held_by c.args.pdp.now) c.args.reads in
    rw (← c.untold.ensures)
    (ends _ _ _ _ (token.key (codes "causes") ∷ []) _ c.in_ok-key.ensures.ok
    (ends _ _ _ _ (tokens_of (causes_data causes)) _ c.in_ok-write_causes.ensures
    (ends _ _ _ _ (token.key (codes "facts") ∷ []) _ c.in_ok-key-2.ensures.ok
    (ends _ _ _ _ (tokens_of told) _ c.in_ok-write_facts.ensures
    (ends _ _ _ _ (token.key (codes "more") ∷ token.number (decimal c.untold.result) ∷ []) _ c.in_ok-write_count.ensures
    (ends _ _ _ _ (token.end_object ∷ []) _ c.in_ok-end_object.ensures.ok c.end_object-2.ensures.ok))))))
