use Rattle.std.proofs.Common.{inr, refl}
use Rattle.std.proofs.KnownBytes.{Keeps-refl}
use Rattle.std.proofs.lemmas.Result.{err_from_is_err_and}
use Rattle.json.specs.Value.{value_view}
use Rattle.ent_json.specs.Content.{content_of}
use Rattle.ent_dump.proofs.Reading.{all_told, no_json, none_there, not_read, some_there}
use Rattle.ent_dump.specs.Lines.{Streams}
use Rattle.ent_dump.specs.declared.fault.LinesFault.TheVariants.{Memory}
use Rattle.ent_dump.proofs.lines.dump_lines_within.Goals as goal

pub returns-in_err-all-clause-lines : goal.returns-in_err-all-clause-lines
returns-in_err-all-clause-lines g c =
    let p = err_from_is_err_and c.from_residual.result c.from_residual.ensures.1 in
    rw (p.1, p.2) (not_read _ c.in_err-all.field-0.0 c.in_err-all.ensures.fault (Keeps-refl _))

pub returns-in_err-read_json-clause-lines : goal.returns-in_err-read_json-clause-lines
returns-in_err-read_json-clause-lines g c =
    let p = err_from_is_err_and c.from_residual-in_err-read_json.result c.from_residual-in_err-read_json.ensures.1 in
    let remaining = g.R.Read.remaining in
    let before = g.W.Write.contents c.args.writer.now in
    let streams : Streams = record { unread = remaining c.args.reader.now; left = remaining c.read_all.new.reader; wrote = before; holds = before } in
    rw (p.1, p.2) (not_read streams Memory (inr refl) (Keeps-refl before))

pub returns-in-None-clause-lines : goal.returns-in-None-clause-lines
returns-in-None-clause-lines g c =
    no_json _ c.in_ok-all.all.items (none_there (λ v. content_of (value_view v)) _ _ _ c.as_slice.ensures.value c.in_ok-read_json.ensures.read c.in-None.is)
    c.in_ok-all.ensures.all (Keeps-refl _)

pub returns-clause-lines : goal.returns-clause-lines
returns-clause-lines g c =
    all_told _ c.in_ok-all.all.items (content_of (value_view c.in-Some.value)) _ _ refl
    (some_there (λ v. content_of (value_view v)) _ c.in-Some.value _ _ c.as_slice.ensures.value c.in_ok-read_json.ensures.read c.in-Some.is)
    c.in_ok-all.ensures.all c.write_told.ensures
