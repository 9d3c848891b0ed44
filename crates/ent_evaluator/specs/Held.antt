-- What stays of what is held.
use Rattle.std.specs.Prelude.{◌≡◌, ℕ, List}
use Rattle.ent_finder.specs.declared.row.AttrKey.{AttrKey}
use Rattle.ent_policy.specs.declared.key.Reference.{Reference}
use Rattle.ent_request.specs.Looks.{Looks}
use Rattle.memo_bags.specs.Found.{HaveSameOthers}

-- the root, the documents and what is known of the time are the same
pub record HaveSameDocuments (s t : Looks) : Type 0 where
  pub root : t.root ≡ s.root
  pub documents : (reference : Reference) → t.document reference ≡ s.document reference
  pub date : t.date ≡ s.date
  pub time : t.time ≡ s.time
  pub date_time : t.date_time ≡ s.date_time

-- each key names the same values
abbrev pub HaveSameValues : Looks → Looks → Type 0
HaveSameValues s t = (key : AttrKey) → t.values key ≡ s.values key

-- all is the same but what keys of one name name
pub record DifferAtMost (name : List ℕ) (s t : Looks) : Type 0 where
  pub documents : HaveSameDocuments s t
  pub values : HaveSameOthers name s t
