use Rattle.std.proofs.Common.{◌≡◌, drop, map}
use Rattle.serde_json.specs.View.{view}
use Rattle.script_coverage.specs.Seen.{last_of}
use Rattle.script_coverage.proofs.seen.document_of.Given as goal

-- the last so far, and the others are left
abbrev pub invariant-loop-document : goal.invariant-loop-document
invariant-loop-document l = last_of (view l.last) (map view (drop l.document-index l.path)) ≡ last_of (view l.entry) (map view l.path)
