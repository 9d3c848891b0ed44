-- Parts of the written JSON of documents.
use Rattle.std.specs.Prelude.{map}
use Rattle.serde_json.specs.Data.{Data}
use Rattle.ent_policy.specs.declared.document.PolicySet.{PolicySet}
use Rattle.ent_polform.specs.Written.{child_written, set_with}

-- a PolicySet
unfoldable pub set_written : PolicySet → Data
set_written s = set_with (record { id = s.id; version = s.version; algorithm = s.algorithm; target = s.target; children = map child_written s.children; given = s.given })
