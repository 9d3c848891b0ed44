-- What the checker has read: a word of the code's own contracts.
use Rattle.std.specs.Prelude.{◌≡◌}
use Rattle.ent_policy.specs.declared.document.Tree.{Tree}
use Rattle.ent_policy.specs.declared.raw.RawDocument.{RawDocument}
use Rattle.ent_policy.specs.declared.read.Read.{Read}
use Rattle.ent_policy.specs.Reading.{document_read}

-- what was read of some document
abbrev pub WasRead : Read Tree → Type 0
WasRead r = (d : RawDocument) × (r ≡ document_read d)
