-- Slices of a set: the versions of the objects from one bound (inclusive) to another (exclusive). An own rule of this
-- project.
use Rattle.std.specs.Prelude.{◌≡◌, Bool, true, not, ◌&&◌, List, [], ◌∷◌, map}
use Rattle.std.specs.Prelude.{Option, Some, None}
use Rattle.std.specs.Ordering.{is_lt}
use Rattle.osm_model.specs.declared.object.Object.{Object}
use Rattle.osm_model.specs.Data.{VersionData}
use Rattle.osm_model.specs.Order.{object_of, object_order}
use Rattle.osm_model.specs.VersionSet.{VersionSet}
use Rattle.osm_merge.specs.declared.span.Span.{Span}
use Rattle.osm_merge.specs.Members.{retain}

-- the object of a version is not below the lower bound, if there is one
abbrev pub reaches : Option Object → VersionData → Bool
reaches None v = true
reaches (Some bound) v = not (is_lt (object_order (object_of v) bound))

-- the object of a version is below the upper bound, if there is one
abbrev pub is_under : Option Object → VersionData → Bool
is_under None v = true
is_under (Some bound) v = is_lt (object_order (object_of v) bound)

abbrev pub is_within : (from to : Option Object) → VersionData → Bool
is_within from to v = reaches from v && is_under to v

-- the versions of a set whose object is within the bounds
abbrev pub slice_of : (from to : Option Object) → VersionSet → VersionSet
slice_of from to s = retain s (is_within from to)

-- the span from a lower bound to an upper bound, of which either may be missing
abbrev pub span_of : (from to : Option Object) → Span
span_of from to = record { from = from; to = to }

-- the spans from a lower bound on: each ends at the next bound, and the last one has no upper bound
abbrev pub spans_from : Option Object → List Object → List Span
spans_from from [] = span_of from None ∷ []
spans_from from (bound ∷ bounds) = span_of from (Some bound) ∷ spans_from (Some bound) bounds

-- the spans of a list of bounds: one more than there are bounds
abbrev pub spans : List Object → List Span
spans bounds = spans_from None bounds

-- the slices of a set, one for each span
abbrev pub slices : List Object → VersionSet → List VersionSet
slices bounds s = map (λ span. slice_of span.from span.to s) (spans bounds)

-- the objects of all members are within a span
abbrev pub IsWithin : Span → VersionSet → Type 0
IsWithin span s = slice_of span.from span.to s ≡ s

-- the upper bound isn't below the lower one, if there are both
abbrev pub is_ascending_between : (from to : Option Object) → Bool
is_ascending_between None to = true
is_ascending_between (Some from) None = true
is_ascending_between (Some from) (Some to) = not (is_lt (object_order to from))

abbrev pub is_ascending : Span → Bool
is_ascending span = is_ascending_between span.from span.to
