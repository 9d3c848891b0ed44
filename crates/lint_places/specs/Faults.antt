-- All faults that are told of a document: each where it stands, before them the first, none twice, and none left out.
use Rattle.std.specs.Prelude.{◌≡◌, ℕ, zero, suc, List, [], ◌∷◌, Bool, true, false, not, ◌||◌, Option, Some, None, bytes_eq, find, if◌then◌else◌, map}
use Rattle.std.specs.List.{All, Contains, IsDistinct, flat_map, list_any}
use Rattle.serde_json.specs.Data.{Data}
use Rattle.ent_policy.specs.declared.fault.DocFault.{DocFault}
use Rattle.ent_policy.specs.declared.fault.DocFault.TheVariants as fault
use Rattle.lint_places.specs.Places.{Spot, StandsAt, has_fault, inside, is_fault, whole}
use Rattle.lint_places.specs.Told.{scope_told, told}

-- ---- the one place that is told of a fault

-- from a spot to the first part inside of it that has the fault, from that to the first inside of that one, and so on to the last
abbrev pub LeadsTo : DocFault → ℕ → Spot → Spot → Type 0
LeadsTo f zero spot from = (spot ≡ from) × (find (has_fault f) (inside from) ≡ None)
LeadsTo f (suc n) spot from = (s : Spot) × (find (has_fault f) (inside from) ≡ Some s) × LeadsTo f n spot s

-- one of them is the last
pub record IsLedTo (f : DocFault) (spot from : Spot) : Type 0 where
  pub level : ℕ
  pub leads : LeadsTo f level spot from

-- where the first fault of a document is told: at the last of those to which the whole document leads
abbrev pub IsFirst : DocFault → Spot → Data → Type 0
IsFirst f spot d = IsLedTo f spot (whole d)

-- a fault leads to one place, and to no other
abbrev pub LeadsToOne : Type 0
LeadsToOne = (f : DocFault) (s t : Spot) (d : Data) → IsFirst f s d → IsFirst f t d → s ≡ t

-- ---- what a part has by itself

-- the fault that is told of a part, unless the same is told of the definitions around it alone
abbrev pub own_by : Option DocFault → Option DocFault → Option DocFault
own_by None around = None
own_by (Some f) around = if is_fault f around then None else Some f

-- a part's own fault
abbrev pub own_fault : Spot → Option DocFault
own_fault s = own_by (told s.part s.scope s.json) (scope_told s.scope)

-- ---- all faults

-- a fault, and the place at which it stands
abbrev pub FaultAt : Type 0
FaultAt = DocFault × Spot

-- a part and its own fault, if it has one
abbrev pub with_fault : Option DocFault → Spot → List FaultAt
with_fault None s = []
with_fault (Some f) s = (f, s) ∷ []

-- those of some parts that have a fault of their own
abbrev pub faulty : List Spot → List FaultAt
faulty ss = flat_map (λ s. with_fault (own_fault s) s) ss

-- what is told of a document by its first fault and all others that are found: the first as it is told alone, each where it stands, and
-- no two at one place
pub record AreFaults (f : DocFault) (d : Data) (all : List FaultAt) : Type 0 where
  pub first : Spot
  pub others : List FaultAt
  pub begins : all ≡ (f, first) ∷ others
  pub is_first : IsFirst f first d
  pub stand : All (λ t. StandsAt t.0 t.1 d) all
  pub apart : IsDistinct bytes_eq (map (λ t. t.1.pointer) all)

-- ---- none is left out

-- a part one level inside of a part has the same fault by itself
abbrev pub has_inside : FaultAt → Bool
has_inside t = list_any (λ u. is_fault t.0 (Some u.0)) (faulty (inside t.1))

-- a part with a fault is looked into, unless it can't be read
abbrev pub is_looked_into : FaultAt → Bool
is_looked_into t = has_inside t || not (is_fault fault.Form (Some t.0))

-- from a part with a fault one comes to the parts inside of it that have one by themselves, and so on, so many levels down
abbrev pub LooksAt : ℕ → FaultAt → FaultAt → Type 0
LooksAt zero t from = t ≡ from
LooksAt (suc n) t from = (is_looked_into from ≡ true) × ((u : FaultAt) × Contains (faulty (inside from.1)) u × LooksAt n t u)

-- a fault is told at a pointer
abbrev pub is_told_at : List FaultAt → List ℕ → Bool
is_told_at all pointer = list_any (λ t. bytes_eq t.1.pointer pointer) all

-- of each part to which one comes, and whose fault no part inside of it has, a fault is told
abbrev pub TellsEach : FaultAt → List FaultAt → Type 0
TellsEach from all = (n : ℕ) (t : FaultAt) → LooksAt n t from → has_inside t ≡ false → is_told_at all t.1.pointer ≡ true
