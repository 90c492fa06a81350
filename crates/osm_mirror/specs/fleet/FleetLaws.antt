-- Laws of fleets: mirrors of one kind that the same files reached are equal, and so are their files.
use Rattle.std.specs.Prelude.{◌≡◌, ◌↔◌, ℕ, ◌<◌, true, List, length}
use Rattle.std.specs.List.{Contains}
use Rattle.osm_model.specs.Sets.{empty}
use Rattle.osm_files.specs.declared.format.Format.{Format}
use Rattle.osm_files.specs.Spell.{spell}
use Rattle.osm_mirror.specs.declared.fleet.keep.Keep.TheVariants.{Latest}
use Rattle.osm_mirror.specs.fleet.Event.{Event}
use Rattle.osm_mirror.specs.declared.fleet.event.Reply.{Reply}
use Rattle.osm_mirror.specs.fleet.Mirror.{MirrorData}
use Rattle.osm_mirror.specs.fleet.Fleet.{Source, File, mirror_at, tracks, Converges}

-- the two lists of sources have the same files
abbrev pub SameFilesAmong : List Source → List Source → Type 0
SameFilesAmong some others = (bytes : List ℕ) → Contains some (File bytes) ↔ Contains others (File bytes)

-- mirrors of a new fleet hold nothing
abbrev pub AreEmpty : List MirrorData → Type 0
AreEmpty mirrors = (m : ℕ) → (mirror_at mirrors m).held ≡ empty

-- If the same files reached two latest mirrors of a new fleet, through any mirrors and with any repetitions, the two
-- hold the same history after the events, and write the same bytes in each format.
abbrev pub LatestMirrorsAgree : Type 0
LatestMirrorsAgree =
    (old new : List MirrorData) (events : List Event) (replies : List Reply) → Converges old events replies new →
    AreEmpty old
    → (m n : ℕ) → m < length new → n < length new → (mirror_at new m).keep ≡ Latest → (mirror_at new n).keep ≡ Latest
    → SameFilesAmong (tracks old events replies m).reach (tracks old events replies n).reach
    → ((mirror_at new m).held ≡ (mirror_at new n).held) × ((format : Format) →
    spell format (mirror_at new m).held ≡ spell format (mirror_at new n).held)

-- If the same files reached two full mirrors of a new fleet, through full mirrors only, the two hold the same history
-- after the events, and write the same bytes in each format.
abbrev pub FullMirrorsAgree : Type 0
FullMirrorsAgree =
    (old new : List MirrorData) (events : List Event) (replies : List Reply) → Converges old events replies new →
    AreEmpty old
    → (m n : ℕ) → m < length new → n < length new → (tracks old events replies m).pure ≡ true →
    (tracks old events replies n).pure ≡ true
    → SameFilesAmong (tracks old events replies m).reach (tracks old events replies n).reach
    → ((mirror_at new m).held ≡ (mirror_at new n).held) × ((format : Format) →
    spell format (mirror_at new m).held ≡ spell format (mirror_at new n).held)
