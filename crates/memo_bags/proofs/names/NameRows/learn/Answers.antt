use Rattle.std.proofs.Common.{length, refl}
use Rattle.std.proofs.lemmas.Option.{slice_get_read}
use Rattle.memo_bags.proofs.names.NameRows.learn.Goals as goal

pub returns : goal.returns
returns c =
    let rows = c.args.self.now.rows.items in
    let row = c.index_mut.result.now in
    (row, (c.learn.new.self, (refl, (slice_get_read rows (length rows) c.args.self.now.latest row refl c.requires c.index_mut.ensures.value, (refl, c.learn.ensures)))))
