use Rattle.std.proofs.Common.{◌≡◌, ◌≤◌, ◌+◌, ◌-◌, ◌++◌, min, [], take, length, refl, subst, ◌∙◌, arith}
use Rattle.std.proofs.lemmas.List.Elements.{All-nil}
use Rattle.std.specs.Io.KnownBytes.{Consumes}
use Rattle.std.specs.Io.BufRead.{FillKeeps}
use Rattle.std.proofs.KnownBytes.{Consumes-nil, Consumes-kept}
use Rattle.std.proofs.BufReadLemmas.{Consumes_shown}
use Rattle.ent_wire.specs.Lines.{line_limit}
use Rattle.ent_line.proofs.PieceLemmas.{kept_line, kept_same, through_newline, at_end}
use Rattle.ent_line.proofs.input.take_piece.Goals as goal

pub returns-in-Err-clause-piece : goal.returns-in-Err-clause-piece
returns-in-Err-clause-piece g c =
    ([], All-nil (λ b. b ≡ 10 → ⊥), Consumes-kept _ _ _ [] (Consumes-nil _) c.fill_buf.follows.holds-at-none.0, kept_same c.args.line.now.items (omega (arith, c.requires.room, c.args.line.now.ok.0)))

pub returns-then-shown-eq0-clause-piece : goal.returns-then-shown-eq0-clause-piece
returns-then-shown-eq0-clause-piece g c =
    let rested = c.fill_buf.follows.lender-at-none in
    let before = g.R.Read.remaining c.args.reader.now in
    let filled = subst (FillKeeps before (g.R.Read.remaining rested) (g.R.BufRead.consumable_len rested)) c.in-Ok.is c.fill_buf.follows.holds-at-none in
    (Consumes-kept _ _ _ [] (Consumes-nil _) filled.0, at_end before (g.R.Read.remaining rested) c.in-Ok.available.now c.if-shown-eq0.true c.in-Ok.ensures.end filled.0, refl)

pub returns-then-end-shown-clause-piece : goal.returns-then-end-shown-clause-piece
returns-then-end-shown-clause-piece g c =
    let rested = c.fill_buf.follows.lender-at-none in
    let before = g.R.Read.remaining c.args.reader.now in
    let after = g.R.Read.remaining c.consume.new.self in
    let shown = c.in-Ok.available.now in
    let end = c.newline_at-end.result in
    let filled = subst (FillKeeps before (g.R.Read.remaining rested) (g.R.BufRead.consumable_len rested)) c.in-Ok.is c.fill_buf.follows.holds-at-none in
    let moved = Consumes_shown before (g.R.Read.remaining rested) after (g.R.BufRead.consumable_len rested) shown (end + 1) (omega (arith, c.if-end-shown.true)) c.in-Ok.ensures.front c.in-Ok.ensures.end filled.0 filled.1 c.consume.ensures.bytes in
    let old = c.args.line.now.items in
    let le : length old ≤ line_limit + 1 = omega (arith, c.requires.room, c.args.line.now.ok.0) in
    let kept : c.min-kept.result ≡ min (line_limit + 1 - length old) end = omega (arith, c.min-kept.ensures, c.len.ensures, c.args.line.now.ok.0) in
    let grown : c.extend_from_slice.new.self.items ≡ old ++ take c.min-kept.result shown = rw c.unwrap.ensures at c.extend_from_slice.ensures.items in
    (take end shown, c.newline_at-end.ensures.before, subst (Consumes before after) (through_newline shown end c.if-end-shown.true (c.newline_at-end.ensures.at c.if-end-shown.true)) moved.0, grown ∙ kept_line old shown end c.min-kept.result le kept)

pub returns-else-end-shown-clause-piece : goal.returns-else-end-shown-clause-piece
returns-else-end-shown-clause-piece g c =
    let rested = c.fill_buf.follows.lender-at-none in
    let before = g.R.Read.remaining c.args.reader.now in
    let after = g.R.Read.remaining c.consume-else-end-shown.new.self in
    let shown = c.in-Ok.available.now in
    let end = c.newline_at-end.result in
    let filled = subst (FillKeeps before (g.R.Read.remaining rested) (g.R.BufRead.consumable_len rested)) c.in-Ok.is c.fill_buf.follows.holds-at-none in
    let moved = Consumes_shown before (g.R.Read.remaining rested) after (g.R.BufRead.consumable_len rested) shown end c.newline_at-end.ensures.bound c.in-Ok.ensures.front c.in-Ok.ensures.end filled.0 filled.1 c.consume-else-end-shown.ensures.bytes in
    let old = c.args.line.now.items in
    let le : length old ≤ line_limit + 1 = omega (arith, c.requires.room, c.args.line.now.ok.0) in
    let kept : c.min-kept.result ≡ min (line_limit + 1 - length old) end = omega (arith, c.min-kept.ensures, c.len.ensures, c.args.line.now.ok.0) in
    let grown : c.extend_from_slice.new.self.items ≡ old ++ take c.min-kept.result shown = rw c.unwrap.ensures at c.extend_from_slice.ensures.items in
    (take end shown, c.newline_at-end.ensures.before, moved.0, grown ∙ kept_line old shown end c.min-kept.result le kept)
