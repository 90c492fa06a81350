-- Events of mirrors: those of a fleet, where a file is its bytes, and the steps of a plan, where a file is its name.
use Rattle.std.specs.Prelude.{ℕ, ◌<◌, List, [], ◌∷◌}
use Rattle.std.specs.Borrow.{Bor}
use Rattle.osm_mirror.specs.declared.fleet.event.MirrorEvent.{MirrorEvent}
use Rattle.osm_mirror.specs.declared.fleet.event.MirrorEvent.TheVariants.{Take, Pass, Restart}

-- an event of a fleet
abbrev pub Event : Type 0
Event = MirrorEvent (Bor (List ℕ))

-- a step of a plan
abbrev pub Step : Type 0
Step = MirrorEvent (List ℕ)

-- the mirrors that an event names have numbers below this one
abbrev pub IsWithin : {F : Type 0} → ℕ → MirrorEvent F → Type 0
IsWithin count (Take m file) = m < count
IsWithin count (Pass from to format) = (from < count) × (to < count)
IsWithin count (Restart m format) = m < count

-- the event of a step; its file has these bytes, if it takes one
abbrev pub event_of : Step → Bor (List ℕ) → Event
event_of (Take m name) file = Take m file
event_of (Pass from to format) file = Pass from to format
event_of (Restart m format) file = Restart m format

-- the events of steps, one for each, whose files have these bytes
abbrev pub events_of : List Step → List (Bor (List ℕ)) → List Event
events_of [] files = []
events_of (step ∷ steps) [] = []
events_of (step ∷ steps) (file ∷ files) = event_of step file ∷ events_of steps files
