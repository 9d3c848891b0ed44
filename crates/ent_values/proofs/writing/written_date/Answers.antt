use Rattle.std.proofs.Common.{◌≡◌, ◌∙◌, ap, refl}
use Rattle.std.proofs.lemmas.Result.{IfOk-weaker}
use Rattle.std.specs.Fmt.{styled_decimal}
use Rattle.std.specs.Prelude.{string_bytes}
use Rattle.ent_values.proofs.Texts.{date_small, styled_two, styled_four}
use Rattle.ent_values.specs.Writing.{date_text}
use Rattle.ent_values.proofs.writing.written_date.Goals as goal

pub returns : goal.returns
unfolding date_text
returns c =
    let date = c.args.date in
    let small = date_small date.year date.month date.day c.year-year.ensures.real in
    let year = ap (λ style. styled_decimal style c.year-year.result) c.laid_out.ensures ∙ styled_four c.year-year.result date.year c.year-year.ensures.value small.0 in
    let month = ap (λ style. styled_decimal style c.month-month.result) c.laid_out-2.ensures ∙ styled_two c.month-month.result date.month c.month-month.ensures.value small.1 in
    let day = ap (λ style. styled_decimal style c.day-day.result) c.laid_out-3.ensures ∙ styled_two c.day-day.result date.day c.day-day.ensures.value small.2 in
    IfOk-weaker c.format.result _ (λ s. string_bytes s ≡ date_text c.args.date) (λ s wrote. wrote ∙ rw (year, month, day) refl) c.format.ensures.ok
