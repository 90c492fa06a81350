-- The bounds of shards: objects that the bytes of the OPL files and the number of shards determine, whatever the order
-- of the files. An own rule of this project.
use Rattle.std.specs.Prelude.{ℕ, zero, suc, ◌+◌, ◌-◌, ◌*◌, ◌/◌, ◌==◌, min, max, nat_le, Bool, true, not, List, [], ◌∷◌}
use Rattle.std.specs.Prelude.{◌++◌, length, map, sum_by, Option, Some, None, if◌then◌else◌}
use Rattle.std.specs.List.{filter, flat_map}
use Rattle.std.specs.Ordering.{is_lt}
use Rattle.osm_model.specs.declared.object.Object.{Object}
use Rattle.osm_model.specs.Order.{object_order}
use Rattle.osm_files.specs.Lines.{lines_from, first_named}
use Rattle.osm_files.specs.O5.{reset_byte}
use Rattle.osm_merge.specs.declared.span.Span.{Span}
use Rattle.osm_merge.specs.Slice.{spans}
use Rattle.osm_mirror.specs.declared.run.bounds.Found.{Found}

-- ---- the objects that are found in files
-- is the file an OPL file?
abbrev pub is_opl : List ℕ → Bool
is_opl [] = true
is_opl (byte ∷ bytes) = not (byte == reset_byte)

-- the size of a file if it is an OPL file; otherwise 0
abbrev pub opl_size : List ℕ → ℕ
opl_size bytes = if is_opl bytes then length bytes else 0

-- the number of bytes between two probes of an OPL file, for `count` shards of these files
abbrev pub step_of : ℕ → List (List ℕ) → ℕ
step_of count all = max (sum_by opl_size all / (16 * count)) 1

-- the object that the first of the lines names that begin at an offset or after it and aren't skipped
abbrev pub first_object : ℕ → List ℕ → Option Object
first_object offset bytes = first_named (lines_from offset bytes)

-- an object that was found, with its weight; or nothing
abbrev pub found_once : ℕ → Option Object → List Found
found_once weight None = []
found_once weight (Some object) = record { object = object; weight = weight } ∷ []

-- The object that a probe at an offset finds. Its weight is the number of bytes up to the next probe, or up to the end.
abbrev pub found_at : ℕ → List ℕ → ℕ → List Found
found_at step bytes offset = found_once (min step (length bytes - offset)) (first_object offset bytes)

-- The objects that the first probes find, at 0, the step, twice the step and so on. The last argument is the number of
-- these probes. The object of the last one comes first.
abbrev pub found_by : ℕ → List ℕ → ℕ → List Found
found_by step bytes zero = []
found_by step bytes (suc number) = found_at step bytes (number * step) ++ found_by step bytes number

-- the number of multiples of the step that are below a size
abbrev pub probe_count : ℕ → ℕ → ℕ
probe_count step size = if size == 0 then 0 else (size - 1) / step + 1

-- the objects that are found in a file, if it is an OPL file
abbrev pub found_in : ℕ → List ℕ → List Found
found_in step bytes = if is_opl bytes then found_by step bytes (probe_count step (length bytes)) else []

-- the objects that are found in all files
abbrev pub found_in_all : ℕ → List (List ℕ) → List Found
found_in_all step all = flat_map (found_in step) all

-- ---- the bounds between the objects
abbrev pub total_weight : List Found → ℕ
total_weight found = sum_by (λ f. f.weight) found

-- the weight of a found object, if it is below `object`; otherwise 0
abbrev pub weight_if_below : Object → Found → ℕ
weight_if_below object f = if is_lt (object_order f.object object) then f.weight else 0

-- the weight of the found objects below `object`
abbrev pub weight_below : List Found → Object → ℕ
weight_below found object = sum_by (weight_if_below object) found

-- is the weight of the found objects below `object` at least `number` of `count` shares of the whole weight?
abbrev pub is_past : ℕ → ℕ → List Found → Object → Bool
is_past number count found object =
    nat_le (total_weight found * number) (weight_below found object * count)

-- the lower one of two objects, if there are both
abbrev pub lower : Object → Option Object → Object
lower x None = x
lower x (Some y) = if is_lt (object_order y x) then y else x

-- the least of some objects
abbrev pub least : List Object → Option Object
least [] = None
least (x ∷ xs) = Some (lower x (least xs))

-- The bound between the shards `number` and `number + 1` of `count`: the least found object with at least `number` of
-- `count` shares of the whole weight below it.
abbrev pub bound_of : ℕ → ℕ → List Found → Option Object
bound_of number count found = least (filter (is_past number count found) (map (λ f. f.object) found))

-- a bound and those after it; if there is no bound, there is none after it
abbrev pub bound_then : Option Object → List Object → List Object
bound_then None bounds = []
bound_then (Some bound) bounds = bound ∷ bounds

-- the first `most` bounds from the bound `number` on
abbrev pub bounds_from : ℕ → ℕ → ℕ → List Found → List Object
bounds_from zero number count found = []
bounds_from (suc most) number count found =
    bound_then (bound_of number count found) (bounds_from most (number + 1) count found)

-- the bounds between `count` shards of these files, ascending
abbrev pub bounds_of : ℕ → List (List ℕ) → List Object
bounds_of count all = bounds_from (count - 1) 1 count (found_in_all (step_of count all) all)

-- the span with this index, if there is one
abbrev pub span_at : List Span → ℕ → Option Span
span_at [] index = None
span_at (span ∷ spans) zero = Some span
span_at (span ∷ spans) (suc index) = span_at spans index

-- the span of the shard `number` of `count`, counted from 1; none if there are fewer spans
abbrev pub shard_span : ℕ → ℕ → List (List ℕ) → Option Span
shard_span number count all = span_at (spans (bounds_of count all)) (number - 1)
