-- Which keys a reference is of.
use Rattle.std.specs.Prelude.{Bool, ◌&&◌, bytes_eq}
use Rattle.ent_policy.specs.Same.{same_kind}
use Rattle.ent_policy.specs.declared.key.DocKey.{DocKey}
use Rattle.ent_policy.specs.declared.key.Reference.{Reference}

-- a key has the kind and the id of the reference
abbrev pub is_of : Reference → DocKey → Bool
is_of reference key = same_kind reference.kind key.kind && bytes_eq reference.id key.id
