use Rattle.std.proofs.Common.{rules, ◌≡◌, ◌∙◌, ap, ◌++◌}
use Rattle.std.proofs.lemmas.Result.{IfOk-weaker}
use Rattle.std.specs.Prelude.{string_bytes, unsigned_abs}
use Rattle.ent_values.proofs.Texts.{months_alone, years_alone, years_and_months}
use Rattle.ent_values.specs.Writing.{duration_text, sign_text}
use Rattle.ent_values.proofs.writing.written_duration.Goals as goal

pub returns-in-0-default : goal.returns-in-0-default
unfolding duration_text
returns-in-0-default c =
    let sign : c.sign-sign.result.now ≡ sign_text c.args.duration = search rules in
    let months : c.unsigned_abs-months.result ≡ unsigned_abs c.args.duration = search rules in
    IfOk-weaker c.format.result _ (λ s. string_bytes s ≡ duration_text c.args.duration)
    (λ s wrote. wrote ∙ rw (sign, ← months) (ap (λ text. sign_text c.args.duration ++ text) (months_alone c.unsigned_abs-months.result c.in-0-default.is-0)))
    c.format.ensures.ok

pub returns-in_default-eq0 : goal.returns-in_default-eq0
unfolding duration_text
returns-in_default-eq0 c =
    let sign : c.sign-sign.result.now ≡ sign_text c.args.duration = search rules in
    let months : c.unsigned_abs-months.result ≡ unsigned_abs c.args.duration = search rules in
    IfOk-weaker c.format-in_default-eq0.result _ (λ s. string_bytes s ≡ duration_text c.args.duration)
    (λ s wrote. wrote ∙ rw (sign, ← months) (ap (λ text. sign_text c.args.duration ++ text) (years_alone c.unsigned_abs-months.result c.in_default-eq0.is-0.1 c.in_default-eq0.is-1)))
    c.format-in_default-eq0.ensures.ok

pub returns-in_default : goal.returns-in_default
unfolding duration_text
returns-in_default c =
    let sign : c.sign-sign.result.now ≡ sign_text c.args.duration = search rules in
    let months : c.unsigned_abs-months.result ≡ unsigned_abs c.args.duration = search rules in
    IfOk-weaker c.format-in_default.result _ (λ s. string_bytes s ≡ duration_text c.args.duration)
    (λ s wrote. wrote ∙ rw (sign, ← months) (ap (λ text. sign_text c.args.duration ++ text) (years_and_months c.unsigned_abs-months.result c.in_default.is-0.1 c.in_default.is-1.1)))
    c.format-in_default.ensures.ok
