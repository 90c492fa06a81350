-- The span of a shard in terms of its two bounds.
use Rattle.std.specs.Prelude.{ℕ, ◌-◌, ◌==◌, nat_lt, List, Option, Some, None, if◌then◌else◌}
use Rattle.osm_model.specs.declared.object.Object.{Object}
use Rattle.osm_merge.specs.declared.span.Span.{Span}
use Rattle.osm_merge.specs.Slice.{span_of}
use Rattle.osm_mirror.specs.declared.run.bounds.Found.{Found}
use Rattle.osm_mirror.specs.run.Bounds.{bound_of}

-- the upper bound of a shard; none for the last one
abbrev pub bound_after : ℕ → ℕ → List Found → Option Object
bound_after number count found = if nat_lt number count then bound_of number count found else None

-- the span from a lower bound that has to be there
abbrev pub span_from : Option Object → Option Object → Option Span
span_from None to = None
span_from (Some from) to = Some (span_of (Some from) to)

-- the span between the two bounds of a shard; none if the lower one is missing
abbrev pub span_of_number : ℕ → ℕ → List Found → Option Span
span_of_number number count found =
    if number == 1 then Some (span_of None (bound_after number count found))
    else span_from (bound_of (number - 1) count found) (bound_after number count found)
