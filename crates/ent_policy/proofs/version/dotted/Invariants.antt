use Rattle.std.proofs.Common.{◌≡◌, ◌≤◌, length, map, take, Some}
use Rattle.ent_policy.specs.Versions.{all_there, pieces}
use Rattle.ent_policy.proofs.version.dotted.Given as goal

abbrev pub invariant-loop-piece : goal.invariant-loop-piece
invariant-loop-piece g l = record {
  counted : l.count ≡ length l.yielded;
  room : length l.parts ≡ 8;
  few : l.count ≤ 8;
  read : all_there (map g.P.VersionPiece.spelled (take l.count (pieces l.text))) ≡ Some (take l.count l.parts);
}
