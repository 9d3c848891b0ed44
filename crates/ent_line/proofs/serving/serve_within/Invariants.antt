use Rattle.std.proofs.Common.{◌+◌, ◌≤◌, vec_len, vec_capacity}
use Rattle.ent_wire.specs.Lines.{line_limit}
use Rattle.ent_line.proofs.ServeLemmas.{Progress, ends}
use Rattle.ent_line.proofs.serving.serve_within.Given as goal

abbrev pub invariant-loop-look : goal.invariant-loop-look
invariant-loop-look g l = record {
  ready : g.S.Answering.is_ready l.service;
  so_far : Progress g.S.Answering.answers (ends (g.S.Answering.world l.fn.service) (g.S.Answering.world l.service) (g.R.Read.remaining l.fn.reader) (g.R.Read.remaining l.reader) (g.W.Write.contents l.fn.writer) (g.W.Write.contents l.writer)) l.line.items l.count;
  room : vec_len l.line ≤ line_limit + 1;
  taken : line_limit + 1 ≤ vec_capacity l.line;
  few : l.count ≤ l.look;
}
