-- Outputs of which the last bytes are removed, so that they can be written again, and outputs that collect bytes: an
-- own rule of this project.
use Rattle.std.specs.Prelude.{◌≡◌, ℕ, List, ◌++◌, length, take, Option, Some, IfSome}
use Rattle.osm_files.specs.Output.{Content}

-- a writer that reports its bytes has this number of them
abbrev pub HasKnownLength : Option (List ℕ) → ℕ → Type 0
HasKnownLength known count = IfSome known (λ held. length held ≡ count)

-- the first `count` bytes of a writer were kept and the others were removed, if it reports its bytes
abbrev pub IsCutBackIfKnown : Option (List ℕ) → Option (List ℕ) → ℕ → Type 0
IsCutBackIfKnown before after count = IfSome before (λ held. after ≡ Some (take count held))

-- whatever an output may hold, it is this number of bytes
abbrev pub HasLength : Content → ℕ → Type 0
HasLength holds count = (held : List ℕ) → holds held → length held ≡ count

-- The first `count` bytes of an output were kept and the others were removed: whatever it might hold before, it may
-- hold a front of that after.
abbrev pub IsCutBack : Content → Content → ℕ → Type 0
IsCutBack before after count = (held : List ℕ) → before held → after (take count held)

-- an output that hands its bytes to another one holds that one's bytes and then those that it has collected
abbrev pub HoldsBefore : Content → List ℕ → Content
HoldsBefore holds collected held = (front : List ℕ) × holds front × (held ≡ front ++ collected)
