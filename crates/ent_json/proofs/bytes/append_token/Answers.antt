use Rattle.std.proofs.Common.{[], ◌∷◌, ◌++◌, ap, ◌∙◌}
use Rattle.json.specs.Reads.{token_of}
use Rattle.ent_json.proofs.WrittenLemmas.{printed_alone}
use Rattle.ent_json.proofs.bytes.append_token.Goals as goal

pub returns-clause-ok : goal.returns-clause-ok
returns-clause-ok c =
    let writer = c.token.new.self in
    let none = c.in_ok-token.ensures.room.0 ∙ c.new-writer.ensures.before ∙ c.new.ensures.items in
    let alone = c.in_ok-token.ensures.ok ∙ ap (λ ts. ts ++ token_of c.args.token ∷ []) c.new-writer.ensures.tokens in
    let text = c.as_slice.ensures.value ∙ printed_alone _ writer.before writer.tokens (token_of c.args.token) none alone c.into_inner-text.ensures.items in
    rw text at c.append.ensures.ok
