use Rattle.lint_places.proofs.NotedLemmas.{noted_one, refers_variable}
use Rattle.lint_places.proofs.led.+note.Goals as goal

pub note-returns-in_ok-insert-in-Variable : goal.note-returns-in_ok-insert-in-Variable
note-returns-in_ok-insert-in-Variable t c q =
    let one = noted_one c.args.ids.now c.insert.new.self c.as_str.result c.in-Variable.id c.as_str.ensures c.in_ok-insert-in-Variable.ensures.updates q in
    rw (c.in-Variable.is, refers_variable q c.in-Variable.id) one
