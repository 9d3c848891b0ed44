-- The keys from the root on to an element.
use Rattle.std.specs.Prelude.{List, [], ◌∷◌, ◌++◌}
use Rattle.ent_policy.specs.declared.key.DocKey.{DocKey}
use Rattle.ent_trace.specs.declared.path.Path.{Path, fold-Path}
use Rattle.ent_trace.specs.declared.path.Path.TheOpen.{Path-F}

-- one level, where the keys of the path above are known: they are followed by that of the element
abbrev pub keys_step : Path-F (List DocKey) → List DocKey
keys_step Path-F.Root = []
keys_step (Path-F.Below above kind id version) = above.now ++ record { kind = kind; id = id.now; version = version.now } ∷ []

-- the keys of a path, from the root on
abbrev pub keys_of : Path → List DocKey
keys_of = fold-Path (List DocKey) keys_step
