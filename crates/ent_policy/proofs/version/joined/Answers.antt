use Rattle.std.proofs.Common.{◌∙◌, ap, string_bytes, ◌++◌}
use Rattle.ent_policy.proofs.Dotted.{grows}
use Rattle.ent_policy.specs.proofs_only.Versions.{behind_dot}
use Rattle.ent_policy.proofs.version.joined.Goals as goal

pub loop-place-preserved : goal.loop-place-preserved
loop-place-preserved g c =
    let piece = c.as_str.ensures.value ∙ c.in_ok-piece.ensures in
    let put = c.in_ok-push_piece.ensures ∙ ap (λ p. string_bytes c.loop-place.text ++ behind_dot c.loop-place.place p) piece in
    grows g.P.VersionPiece.spelling c.args.parts.now c.loop-place.place c.index-parts-place.result (string_bytes c.loop-place.text)
    (string_bytes c.push_piece.new.text) c.loop-place-test.true c.index-parts-place.is c.loop-place.invariant put
