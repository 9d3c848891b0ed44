use Rattle.std.proofs.Common.{◌≡◌, ◌∙◌, ap, false, true}
use Rattle.std.specs.Prelude.{is_some}
use Rattle.lint_links.specs.Filed.{file_keys}
use Rattle.lint_links.specs.Stored.{has_key}
use Rattle.lint_links.proofs.Filing.{adds_new, adds_twice, key_there, one_key}
use Rattle.lint_links.proofs.together.Together.add_document.Goals as goal

pub returns-in-Some : goal.returns-in-Some
returns-in-Some c =
    let there : has_key (file_keys c.args.self.now) c.args.document ≡ true =
    key_there c.args.self.now c.args.document c.in_ok-key.key (is_some c.origin.result) c.in_ok-key.ensures c.origin.ensures ∙ ap is_some c.in-Some.is in
    adds_twice c.args.self.now c.args.document there

pub returns : goal.returns
returns c =
    let t = c.args.self.now in
    let absent : has_key (file_keys t) c.args.document ≡ false =
    key_there t c.args.document c.in_ok-key.key (is_some c.origin.result) c.in_ok-key.ensures c.origin.ensures ∙ ap is_some c.in_default.is in
    adds_new t _ c.args.document absent (λ i. record { slots = c.in_ok-put.ensures i; root = t.state.root })
    (one_key t c.push.new.self.items _ c.args.document c.in_ok-push.ensures.items c.in_ok-key.ensures)
