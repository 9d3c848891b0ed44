-- A state in which nothing was ever held.
use Rattle.std.proofs.Common.{◌≡◌, ℕ, zero, suc, sym, arith}
use Rattle.std.specs.Prelude.{length, replicate}
use Rattle.law_rebuild.proofs.Started.{emptied_new}
use Rattle.law_restart.specs.Restart.{NewServicesAreEmpty}

length_repeated : {A : Type 0} (n : ℕ) (x : A) → length (replicate n x) ≡ n
length_repeated zero x = omega arith
length_repeated (suc n) x = omega (arith, length_repeated n x)

pub new_services_are_empty : NewServicesAreEmpty
new_services_are_empty policies attributes categories limits few small = (
  sym (emptied_new policies attributes categories limits),
  record { policies = rw (length_repeated policies _) few; attributes = rw (length_repeated attributes _) small },
)
