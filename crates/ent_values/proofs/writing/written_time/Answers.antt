use Rattle.std.proofs.Common.{◌≡◌, ◌∙◌, ap, refl}
use Rattle.std.proofs.lemmas.Result.{IfOk-weaker}
use Rattle.std.specs.Fmt.{styled_decimal}
use Rattle.std.specs.Prelude.{string_bytes}
use Rattle.ent_values.proofs.Texts.{styled_two, time_small}
use Rattle.ent_values.specs.Writing.{time_text}
use Rattle.ent_values.proofs.writing.written_time.Goals as goal

pub returns : goal.returns
unfolding time_text
returns c =
    let time = c.args.time in
    let small = time_small time.hour time.minute time.second c.hour-hour.ensures.real in
    let hour = ap (λ style. styled_decimal style c.hour-hour.result) c.laid_out.ensures ∙ styled_two c.hour-hour.result time.hour c.hour-hour.ensures.value small.0 in
    let minute = ap (λ style. styled_decimal style c.minute-minute.result) c.laid_out-2.ensures ∙ styled_two c.minute-minute.result time.minute c.minute-minute.ensures.value small.1 in
    let second = ap (λ style. styled_decimal style c.second-second.result) c.laid_out-3.ensures ∙ styled_two c.second-second.result time.second c.second-second.ensures.value small.2 in
    IfOk-weaker c.format.result _ (λ s. string_bytes s ≡ time_text c.args.time) (λ s wrote. wrote ∙ rw (hour, minute, second) refl) c.format.ensures.ok
