use Rattle.std.proofs.Common.{◌≡◌, drop}
use Rattle.memo_replay.proofs.Hearing.{noted_all}
use Rattle.memo_replay.proofs.state.JoinState.hear.Given as goal

abbrev pub invariant-loop-number : goal.invariant-loop-number
invariant-loop-number l = record {
  place : l.self.place ≡ l.initial.self.place;
  at : l.self.at ≡ l.initial.self.at;
  failed : l.self.failed ≡ l.initial.self.failed;
  noted : noted_all l.self.asked (drop l.number-index l.number-items) ≡ noted_all l.initial.self.asked l.number-items;
}
