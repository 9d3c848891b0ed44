-- JSON that is plain: its numbers are whole, and the keys of its objects stand in byte order.
use Rattle.std.specs.Prelude.{◌≡◌, ℕ, ◌<◌, ◌^◌, pos, negsuc, List}
use Rattle.std.specs.Cmp.Lexicographic.{slice_cmp}
use Rattle.std.specs.Ordering.{nat_cmp}
use Rattle.std.specs.declared.cmp.Ordering.TheVariants.{Greater}
use Rattle.serde_json.specs.Data as json
use Rattle.serde_json.specs.Data.{Data, Items, Members, Num}

-- a whole number of 64 bits, with a sign or without one
abbrev pub IsWholeNumber : Num → Type 0
IsWholeNumber (json.unsigned n) = n < 2 ^ 64
IsWholeNumber (json.negative (pos n)) = ⊥
IsWholeNumber (json.negative (negsuc n)) = n < 2 ^ 63
IsWholeNumber (json.float x) = ⊥

-- each key comes behind this one in byte order
abbrev pub AreBehind : List ℕ → Members → Type 0
AreBehind key json.no_members = Unit {0}
AreBehind key (json.member k d ms) = (slice_cmp nat_cmp k key ≡ Greater) × AreBehind key ms

-- each number is whole, and the keys of each object stand in byte order, none twice
abbrev mutual
  pub IsPlain : Data → Type 0
  IsPlain json.null = Unit {0}
  IsPlain (json.boolean b) = Unit {0}
  IsPlain (json.number n) = IsWholeNumber n
  IsPlain (json.string s) = Unit {0}
  IsPlain (json.array ds) = ArePlainItems ds
  IsPlain (json.object ms) = ArePlainMembers ms

  pub ArePlainItems : Items → Type 0
  ArePlainItems json.no_items = Unit {0}
  ArePlainItems (json.item d ds) = IsPlain d × ArePlainItems ds

  pub ArePlainMembers : Members → Type 0
  ArePlainMembers json.no_members = Unit {0}
  ArePlainMembers (json.member k d ms) = IsPlain d × AreBehind k ms × ArePlainMembers ms
