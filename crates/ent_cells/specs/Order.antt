-- The order of requests.
use Rattle.std.specs.Cmp.Lexicographic.{slice_cmp}
use Rattle.std.specs.Ordering.{nat_cmp, ordering_then}
use Rattle.std.specs.declared.cmp.Ordering.{Ordering}
use Rattle.ent_eval.specs.declared.who.Who.{Who}

-- the byte order of requests: by person, then action, then resource
abbrev pub request_order : Who → Who → Ordering
request_order x y =
    ordering_then (slice_cmp nat_cmp x.person y.person) (ordering_then (slice_cmp nat_cmp x.action y.action) (slice_cmp nat_cmp x.resource y.resource))
