use Rattle.std.proofs.Common.{◌≡◌, ◌++◌, map, take}
use Rattle.std.specs.List.{flat_map}
use Rattle.serde_json.specs.View.{view}
use Rattle.script_compare.specs.Shown.{document_text}
use Rattle.script_compare.proofs.column.push_documents.Given as goal

-- the documents so far
abbrev pub invariant-loop-document : goal.invariant-loop-document
invariant-loop-document l = l.text.items ≡ l.fn.text.items ++ flat_map document_text (map view (take l.document-index l.documents))
