-- How many cells an edit of names touches.
use Rattle.std.proofs.Common.{◌≡◌, ℕ, List, [], ◌∷◌, Bool, true, false, ◌||◌, not, length, refl, sym, ap, ◌∙◌}
use Rattle.std.specs.List.{list_any}
use Rattle.ent_walk.specs.Answer.{recorded}
use Rattle.ent_request.specs.Held.{looks_in}
use Rattle.ent_request.specs.SameLook.{IsSameLook}
use Rattle.ent_request.specs.Listed.{listed}
use Rattle.ent_request.specs.Looks.{Looks}
use Rattle.ent_request.specs.SameLook.{same_look}
use Rattle.ent_request.specs.declared.key.ReadKey.{ReadKey}
use Rattle.ent_request.specs.declared.key.ReadKey.TheVariants as keys
use Rattle.ent_request.proofs.SameLooks.{same_look-Decides}
use Rattle.ent_table.specs.declared.edit.List.{List as Which}
use Rattle.ent_table.specs.Counted.{touched, touched_count}
use Rattle.ent_table.specs.Names.{Triple, has_name, is_listed, list_of, triples}
use Rattle.ent_table.specs.State.{State}
use Rattle.ent_table.specs.proofs_only.Table.{requests_with}
use Rattle.ent_table.proofs.Changes.{less_names, more_names, new_among, was_listed}
use Rattle.ent_table.proofs.Counts.{none_left, own_listed, passing-same}

same_itself : (l : Looks) (k : ReadKey) → IsSameLook l l k
same_itself l keys.Root = refl
same_itself l (keys.Ref reference) = refl
same_itself l (keys.Attr key) = refl
same_itself l keys.CurrentDate = refl
same_itself l keys.CurrentTime = refl
same_itself l keys.CurrentDateTime = refl

itself : (l : Looks) (k : ReadKey) → same_look l l k ≡ true
itself l k = (same_look-Decides l l k).1 (same_itself l k)

none_another : (s : State) (ks : List ReadKey) → list_any (λ k. not (same_look (looks_in s.held) (looks_in s.held) k)) ks ≡ false
none_another s [] = refl
none_another s (k ∷ ks) = ap (λ b. not b || list_any (λ q. not (same_look (looks_in s.held) (looks_in s.held) q)) ks) (itself (looks_in s.held) k) ∙ none_another s ks

or_none : (a b : Bool) → b ≡ false → (a || b) ≡ a
or_none true b h = refl
or_none false b h = h

-- where all look-ups stay, the new requests alone are touched
touched_new : (s : State) (x : Triple) → touched s s x ≡ not (is_listed s.names x)
touched_new s x = or_none (not (is_listed s.names x)) _ (none_another s (recorded (looks_in s.held) (listed x.person x.action x.resource)))

-- with a name more those of the name
pub touched_more : (s : State) (list : Which) (name : List ℕ) → has_name name (list_of list s.names) ≡ false → touched_count s (more_names s list name) ≡ length (requests_with list name s.names)
touched_more s list name h =
    let t = more_names s list name in
    passing-same (is_listed t.names) (touched s t) (λ x. not (is_listed s.names x)) (λ x _. touched_new s x) (triples t.names) (own_listed t.names) ∙ new_among s list name h

-- with a name less none
pub touched_less : (s : State) (list : Which) (name : List ℕ) → touched_count s (less_names s list name) ≡ 0
touched_less s list name =
    let t = less_names s list name in
    passing-same (is_listed t.names) (touched s t) (λ x. not (is_listed t.names x)) (λ x h. touched_new s x ∙ ap not (was_listed s.names list name x h ∙ sym h)) (triples t.names) (own_listed t.names)
    ∙ none_left (is_listed t.names) (triples t.names) (own_listed t.names)
