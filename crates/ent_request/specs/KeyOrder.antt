-- How keys of look-ups order, and which of them hold texts.
use Rattle.std.specs.Prelude.{◌≡◌, ℕ, Bool, true, false}
use Rattle.std.specs.Ordering.{nat_cmp}
use Rattle.std.specs.declared.cmp.Ordering.{Ordering}
use Rattle.ent_finder.specs.contracts.row.AttrKeyOrd.TheImpl as attributes
use Rattle.ent_finder.specs.declared.row.AttrKey.{AttrKey}
use Rattle.ent_policy.specs.contracts.key.ReferenceOrd.TheImpl as references
use Rattle.ent_policy.specs.declared.key.Reference.{Reference}
use Rattle.ent_request.specs.Noted.{read_cmp}
use Rattle.ent_request.specs.declared.key.ReadKey.{ReadKey}
use Rattle.ent_request.specs.declared.key.ReadKey.TheVariants.{Root, Ref, Attr, CurrentDate, CurrentTime, CurrentDateTime}

-- what `cmp` of two references answers
abbrev pub reference_cmp : Reference → Reference → Ordering
reference_cmp = (references.ghosts).cmp

-- what `cmp` of two keys of attributes answers
abbrev pub attribute_cmp : AttrKey → AttrKey → Ordering
attribute_cmp = (attributes.ghosts).cmp

-- the place of a kind of look-up among the kinds
abbrev pub place_of : ReadKey → ℕ
place_of Root = 0
place_of (Ref reference) = 1
place_of (Attr key) = 2
place_of CurrentDate = 3
place_of CurrentTime = 4
place_of CurrentDateTime = 5

-- the root, then references as they order, then keys of attributes as they do, then the date, the time, and both together
abbrev pub key_order : ReadKey → ReadKey → Ordering
key_order (Ref a) (Ref b) = reference_cmp a b
key_order (Attr a) (Attr b) = attribute_cmp a b
key_order a b = nat_cmp (place_of a) (place_of b)

-- `cmp` of two keys answers by this order
abbrev pub KeysOrderByKind : Type 0
KeysOrderByKind = (a b : ReadKey) → read_cmp a b ≡ key_order a b

-- whether a key holds texts: a reference or a key of attributes does
abbrev pub has_texts : ReadKey → Bool
has_texts (Ref reference) = true
has_texts (Attr key) = true
has_texts _ = false
