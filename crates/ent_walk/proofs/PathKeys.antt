-- The keys of a path, level by level.
use Rattle.std.proofs.Common.{◌≡◌, ℕ, List, [], ◌∷◌, ◌++◌, rules}
use Rattle.std.specs.Borrow.{Bor}
use Rattle.ent_policy.specs.declared.key.Kind.{Kind}
use Rattle.ent_trace.specs.declared.path.Path.{Path, Below, Root, the_lemmas}
use Rattle.ent_trace.specs.proofs_only.Path.{keys_of}

pub keys_of_root : keys_of Root ≡ []
keys_of_root = search (rules, the_lemmas)

pub keys_of_below : (above : Bor Path) (kind : Kind) (id : Bor (List ℕ)) (version : Bor (List ℕ)) → keys_of (Below above kind id version) ≡ keys_of above.now ++ record { kind = kind; id = id.now; version = version.now } ∷ []
keys_of_below above kind id version = search (rules, the_lemmas)
