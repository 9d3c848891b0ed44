use Rattle.std.proofs.Common.{rules, ◌≡◌, ◌∙◌, refl}
use Rattle.std.proofs.lemmas.Result.{IfOk-weaker}
use Rattle.std.specs.Prelude.{string_bytes}
use Rattle.ent_values.specs.Writing.{date_text, date_time_text, time_text}
use Rattle.ent_values.proofs.writing.written_date_time.Goals as goal

pub returns : goal.returns
unfolding date_text date_time_text time_text
returns c =
    let moment = c.args.moment.now in
    let date : string_bytes c.in_ok-date.date ≡ date_text moment.date = search rules in
    let time : string_bytes c.in_ok-time.time ≡ time_text moment.time = search rules in
    IfOk-weaker c.format.result _ (λ s. string_bytes s ≡ date_time_text moment) (λ s wrote. wrote ∙ rw (date, time) refl) c.format.ensures.ok
