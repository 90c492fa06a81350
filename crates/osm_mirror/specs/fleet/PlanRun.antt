-- The run of a plan, for `PlanRun`: how many events were refused, and which write lines are run.
use Rattle.std.specs.Prelude.{ℕ, Bool, true, false, ◌&&◌, if◌then◌else◌, List, [], length, filter, nat_lt}
use Rattle.osm_mirror.specs.declared.fleet.event.Reply.{Reply}
use Rattle.osm_mirror.specs.declared.fleet.event.Reply.TheVariants.{Taken, Refused}
use Rattle.osm_mirror.specs.declared.fleet.plan_line.PlanWrite.{PlanWrite}

-- whether an event was refused
abbrev pub is_refused : Reply → Bool
is_refused Taken = false
is_refused (Refused fault) = true

-- the number of events that were refused
abbrev pub refused_count : List Reply → ℕ
refused_count replies = length (filter is_refused replies)

-- the write lines that are run after these replies: all; none after a refused event of a strict plan
abbrev pub lines_to_write : Bool → List Reply → List PlanWrite → List PlanWrite
lines_to_write strict replies writes = if strict && nat_lt 0 (refused_count replies) then [] else writes
