use Rattle.std.proofs.Common.{◌+◌, ◌*◌, ◌++◌, ◌∙◌, Ok, ap, arith, drop, length, length-append, length-drop, length-take-le, subst}
use Rattle.std.proofs.lemmas.Nat.{mul-le}
use Rattle.ent_dump.proofs.Reading.{one_read_more, read_last, read_more, takes_within}
use Rattle.ent_dump.specs.Lines.{ReadsMore}
use Rattle.ent_dump.proofs.input.read_pieces.Goals as goal

pub loop-preserved : goal.loop-preserved
loop-preserved g c =
    let remaining = g.R.Read.remaining in
    let more = subst (λ b. ReadsMore (remaining c.loop.reader) (remaining c.read_piece.new.reader)
    (length c.as_mut_slice.result.now) c.loop.all.items c.read_piece.new.all.items (Ok b))
    c.if-not-branch.false c.in_ok-read_piece.ensures.more in
    record {
      read = read_more (remaining c.args.reader.now) (remaining c.loop.reader) (remaining c.read_piece.new.reader)
          (length c.as_mut_slice.result.now) c.loop.all.items c.read_piece.new.all.items c.loop.invariant.read more;
      room = length-take-le c.loop.piece.len (c.read_piece.new.piece ++ drop (length c.read_piece.new.piece) c.loop.piece.items)
          (omega (
            arith,
            length-append c.read_piece.new.piece (drop (length c.read_piece.new.piece) c.loop.piece.items),
            length-drop
                (length c.read_piece.new.piece) c.loop.piece.items,
            c.loop.piece.ok.0,
          ))
          ∙ omega (arith, c.loop.piece.ok.0, c.loop.invariant.room);
      few = one_read_more (remaining c.args.reader.now) (remaining c.loop.reader) (remaining c.read_piece.new.reader) c.args.room c.loop.counter c.loop.invariant.few
          (takes_within (remaining c.loop.reader) (remaining c.read_piece.new.reader) (length c.as_mut_slice.result.now) c.args.room c.read_piece.ensures.few
          (omega (arith, ap length c.as_mut_slice.ensures.value, c.loop.invariant.room)));
      left = omega (arith, c.loop.invariant.left, c.read_piece.ensures.left);
    }

pub returns-then-not-branch-clause-all : goal.returns-then-not-branch-clause-all
returns-then-not-branch-clause-all g c =
    let remaining = g.R.Read.remaining in
    let last = subst (λ b. ReadsMore (remaining c.loop.reader) (remaining c.read_piece.new.reader)
    (length c.as_mut_slice.result.now) c.loop.all.items c.read_piece.new.all.items (Ok b))
    c.if-not-branch.true c.in_ok-read_piece.ensures.more in
    read_last (remaining c.args.reader.now) (remaining c.loop.reader) (remaining c.read_piece.new.reader)
    (length c.as_mut_slice.result.now) c.loop.all.items c.read_piece.new.all.items
    (omega (arith, ap length c.as_mut_slice.ensures.value, c.loop.invariant.room, c.requires)) c.loop.invariant.read last

pub returns-in_err-read_piece-clause-few : goal.returns-in_err-read_piece-clause-few
returns-in_err-read_piece-clause-few g c =
    let remaining = g.R.Read.remaining in
    takes_within (remaining c.args.reader.now) (remaining c.read_piece.new.reader) (c.args.room * (c.loop.counter + 1)) (c.args.room * c.args.left.now)
    (one_read_more (remaining c.args.reader.now) (remaining c.loop.reader) (remaining c.read_piece.new.reader) c.args.room c.loop.counter c.loop.invariant.few
    (takes_within (remaining c.loop.reader) (remaining c.read_piece.new.reader) (length c.as_mut_slice.result.now) c.args.room c.read_piece.ensures.few
    (omega (arith, ap length c.as_mut_slice.ensures.value, c.loop.invariant.room))))
    (mul-le c.args.room (c.loop.counter + 1) c.args.room c.args.left.now (omega arith) (omega (arith, c.loop.invariant.left, c.read_piece.ensures.left)))

pub returns-then-not-branch-clause-few : goal.returns-then-not-branch-clause-few
returns-then-not-branch-clause-few g c =
    let remaining = g.R.Read.remaining in
    takes_within (remaining c.args.reader.now) (remaining c.read_piece.new.reader) (c.args.room * (c.loop.counter + 1)) (c.args.room * c.args.left.now)
    (one_read_more (remaining c.args.reader.now) (remaining c.loop.reader) (remaining c.read_piece.new.reader) c.args.room c.loop.counter c.loop.invariant.few
    (takes_within (remaining c.loop.reader) (remaining c.read_piece.new.reader) (length c.as_mut_slice.result.now) c.args.room c.read_piece.ensures.few
    (omega (arith, ap length c.as_mut_slice.ensures.value, c.loop.invariant.room))))
    (mul-le c.args.room (c.loop.counter + 1) c.args.room c.args.left.now (omega arith) (omega (arith, c.loop.invariant.left, c.read_piece.ensures.left)))

pub returns-clause-few : goal.returns-clause-few
returns-clause-few g c =
    let remaining = g.R.Read.remaining in
    takes_within (remaining c.args.reader.now) (remaining c.loop.reader) (c.args.room * c.loop.counter) (c.args.room * c.args.left.now) c.loop.invariant.few
    (mul-le c.args.room c.loop.counter c.args.room c.args.left.now (omega arith) (omega (arith, c.loop.invariant.left)))
