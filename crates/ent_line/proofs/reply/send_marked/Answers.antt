use Rattle.ent_line.proofs.reply.send_marked.Goals as goal

pub returns : goal.returns
returns g c = rw (c.as_bytes-start.ensures.value, c.as_bytes-serial_text.ensures.value, c.format.ensures.text, c.as_bytes-end.ensures.value) at c.send_all.ensures
