-- What a file adds to documents that are stored together.
use Rattle.std.specs.Prelude.{◌≡◌, List, Bool, Option, map}
use Rattle.ent_policy.specs.declared.document.Tree.{Tree}
use Rattle.ent_policy.specs.declared.key.DocKey.{DocKey}
use Rattle.lint_links.specs.Stored.{after_file, is_twice, keys_after, stored_in}
use Rattle.lint_links.specs.declared.together.Together.{Together}

-- the keys of the documents that come from files
abbrev pub file_keys : Together → List DocKey
file_keys together = map (λ file. file.key) together.files.items

-- the document of a file is added, if it has one; one that another file has already isn't, and something is told of it
pub record Adds (document : Option Tree) (is_told : Bool) (old new : Together) : Type 0 where
  pub stored : stored_in new.state ≡ after_file (file_keys old) (stored_in old.state) document
  pub keys : file_keys new ≡ keys_after (file_keys old) document
  pub told : is_told ≡ is_twice (file_keys old) document
