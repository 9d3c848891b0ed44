use Rattle.std.proofs.Common.{ℕ, ◌-◌, [], refl, subst, sym, take, length, drop, arith, take-append-drop, append-nil}
use Rattle.std.specs.Io.KnownBytes.{Appends}
use Rattle.std.proofs.KnownBytes.{Appends-kept, Appends-trans}
use Rattle.ent_wire.proofs.PieceLemmas.{Appends-more}
use Rattle.ent_wire.proofs.output.send.Goals.{in-Ok+else-n-eq0, in-Err+else-ne}
use Rattle.ent_wire.proofs.output.send.Goals as goal

pub loop-preserved : goal.loop-preserved
loop-preserved g c =
    let contents = g.W.Write.contents in
    let bytes = c.args.bytes.now in
    elim c.match-write.branch [
      | in-Ok+else-n-eq0 w ↦ (
        omega (arith, w.in-Ok.ensures.bound, w.sent-is),
        subst (λ n. Appends (contents c.args.writer.now) (contents c.write.new.self) (take n bytes)) (sym w.sent-is)
            (Appends-more (contents c.args.writer.now) (contents c.loop.writer)
            (contents c.write.new.self) bytes c.loop.sent w.in-Ok.n c.loop.invariant.1 w.in-Ok.ensures.bytes),
      )
      | in-Err+else-ne w ↦ (
        omega (arith, w.sent-is),
        subst (λ n. Appends (contents c.args.writer.now) (contents c.write.new.self) (take n bytes)) (sym w.sent-is)
            (Appends-kept (contents c.args.writer.now) (contents c.loop.writer) (contents c.write.new.self)
            (take c.loop.sent bytes) c.loop.invariant.1 w.in-Err.ensures.bytes),
      )
    ]

pub returns-then-n-eq0 : goal.returns-then-n-eq0
returns-then-n-eq0 g c =
    let bytes = c.args.bytes.now in
    let contents = g.W.Write.contents in
    let taken = subst (λ (n : ℕ). Appends (contents c.loop.writer) (contents c.write.new.self)
    (take n (take (length bytes - c.loop.sent) (drop c.loop.sent bytes)))) c.if-n-eq0.true c.in-Ok.ensures.bytes in
    let none = Appends-trans (contents c.args.writer.now) (contents c.loop.writer) (contents c.write.new.self)
    (take c.loop.sent bytes) [] c.loop.invariant.1 taken in (
      refl,
      take c.loop.sent bytes,
      drop c.loop.sent bytes,
      sym (take-append-drop c.loop.sent bytes),
      subst
          (Appends (contents c.args.writer.now) (contents c.write.new.self)) (append-nil (take c.loop.sent bytes)) none,
    )

pub returns-then-ne : goal.returns-then-ne
returns-then-ne g c =
    let bytes = c.args.bytes.now in
    let contents = g.W.Write.contents in (
      refl,
      take c.loop.sent bytes,
      drop c.loop.sent bytes,
      sym (take-append-drop c.loop.sent bytes),
      Appends-kept (contents c.args.writer.now)
          (contents c.loop.writer) (contents c.write.new.self) (take c.loop.sent bytes) c.loop.invariant.1 c.in-Err.ensures.bytes,
    )

pub returns : goal.returns
returns g c =
    let bytes = c.args.bytes.now in
    (refl, take c.loop.sent bytes, drop c.loop.sent bytes, sym (take-append-drop c.loop.sent bytes), c.loop.invariant.1)
