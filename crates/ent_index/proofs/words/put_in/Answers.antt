use Rattle.std.proofs.Common.{ap, length, subst, sym, ◌∙◌}
use Rattle.ent_index.proofs.Rolled.{new_count, new_words}
use Rattle.ent_index.proofs.WordCells.{insert_members}
use Rattle.ent_index.specs.Groups.{is_member}
use Rattle.ent_index.specs.Rolls.{cells_of}
use Rattle.ent_index.specs.proofs_only.Rolls.{AreWords, IsSeat}
use Rattle.ent_index.proofs.words.put_in.Goals as goal

pub returns-clause-words : goal.returns-clause-words
returns-clause-words c =
    let ws = c.args.words.now.items in
    let i = c.seat-seat.result in
    let seat : IsSeat c.args.word.place ws i = subst (λ xs. IsSeat c.args.word.place xs i) c.deref.ensures.value c.seat-seat.ensures in
    subst (AreWords 0) (sym c.in_ok-insert.ensures.items) (new_words c.args.word ws i c.requires.words seat (rw c.deref-2.ensures.value at c.if-is_at.ensures.absent) c.requires.word)

pub returns-clause-cells : goal.returns-clause-cells
returns-clause-cells c =
    let ws = c.args.words.now.items in
    let i = c.seat-seat.result in
    let seat : IsSeat c.args.word.place ws i = subst (λ xs. IsSeat c.args.word.place xs i) c.deref.ensures.value c.seat-seat.ensures in
    λ q. ap (λ xs. is_member (cells_of xs) q) c.in_ok-insert.ensures.items ∙ insert_members q ws i c.args.word seat.within

pub returns-clause-count : goal.returns-clause-count
returns-clause-count c =
    let ws = c.args.words.now.items in
    let i = c.seat-seat.result in
    let seat : IsSeat c.args.word.place ws i = subst (λ xs. IsSeat c.args.word.place xs i) c.deref.ensures.value c.seat-seat.ensures in
    ap (λ xs. length (cells_of xs)) c.in_ok-insert.ensures.items ∙ new_count c.args.word ws i c.requires.words seat (rw c.deref-2.ensures.value at c.if-is_at.ensures.absent) c.requires.word
