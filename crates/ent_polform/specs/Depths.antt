-- How deep what is written nests.
use Rattle.std.specs.Prelude.{◌≤◌}
use Rattle.serde_json.specs.Data.{depth}
use Rattle.ent_policy.specs.Check.{IsChecked}
use Rattle.ent_policy.specs.declared.document.Tree.{Tree}
use Rattle.ent_polform.specs.Written.{written}

-- what is written of a document that the checker passes nests at most 100 deep
abbrev pub DocumentsAreShallow : Type 0
DocumentsAreShallow = (document : Tree) → IsChecked document → depth (written document) ≤ 100
