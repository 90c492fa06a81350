-- Fleets: the mirrors after an event, the sources that reached each of them, and the history of each after several
-- events.
use Rattle.std.specs.Prelude.{◌≡◌, ℕ, ◌<◌, ◌^◌, Bool, true, false, ◌&&◌, cond, nat_eq, List, [], ◌∷◌, ◌++◌, length, map}
use Rattle.std.specs.Prelude.{slice_index_or, slice_set}
use Rattle.osm_model.specs.Data.{VersionData}
use Rattle.osm_model.specs.VersionSet.{VersionSet}
use Rattle.osm_model.specs.Sets.{contains, empty, union}
use Rattle.osm_files.specs.declared.format.Format.{Format}
use Rattle.osm_files.specs.Held.{Holds}
use Rattle.osm_files.specs.Spell.{spell}
use Rattle.osm_files.specs.Verdict.{held_by}
use Rattle.osm_merge.specs.Selected.{snapshot}
use Rattle.osm_mirror.specs.declared.fleet.keep.Keep.{Keep}
use Rattle.osm_mirror.specs.declared.fleet.keep.Keep.TheVariants.{Full, Latest}
use Rattle.osm_mirror.specs.fleet.Event.{Event}
use Rattle.osm_mirror.specs.declared.fleet.event.MirrorEvent.TheVariants.{Take, Pass, Restart}
use Rattle.osm_mirror.specs.declared.fleet.event.Reply.{Reply}
use Rattle.osm_mirror.specs.declared.fleet.event.Reply.TheVariants.{Taken, Refused}
use Rattle.osm_mirror.specs.fleet.Mirror.{MirrorData, new_mirror, after_taking, IsOwnSnapshot, WhyNotTaken}
use Rattle.osm_mirror.specs.fleet.Mirror.{WhyNotSpelled}

-- the mirror with this number
abbrev pub mirror_at : List MirrorData → ℕ → MirrorData
mirror_at mirrors m = slice_index_or mirrors m (new_mirror Full)

-- each latest mirror holds its own snapshot
abbrev pub AreOwnSnapshots : List MirrorData → Type 0
AreOwnSnapshots mirrors = (m : ℕ) → m < length mirrors → IsOwnSnapshot (mirror_at mirrors m)

-- ---- one event
-- The mirrors after an event with this reply: one took a file; or one took the file of another mirror; or a new one
-- took the file of the old one, and replaces the old one. A refused event changes no mirror.
abbrev pub mirrors_after : List MirrorData → Event → Reply → List MirrorData
mirrors_after mirrors (Take m file) Taken = slice_set mirrors m (after_taking (mirror_at mirrors m) (held_by file.now))
mirrors_after mirrors (Pass from to format) Taken =
    slice_set mirrors to (after_taking (mirror_at mirrors to) (mirror_at mirrors from).held)
mirrors_after mirrors (Restart m format) Taken =
    slice_set mirrors m (after_taking (new_mirror (mirror_at mirrors m).keep) (mirror_at mirrors m).held)
mirrors_after mirrors (Take m file) (Refused fault) = mirrors
mirrors_after mirrors (Pass from to format) (Refused fault) = mirrors
mirrors_after mirrors (Restart m format) (Refused fault) = mirrors

-- the file of a set can be taken: it is shorter than 2^62 bytes
abbrev pub IsShort : Format → VersionSet → Type 0
IsShort format set = length (spell format set) < 2 ^ 62

-- The reply to an event, from mirrors with these histories. A file is taken only if it is accepted, and refused only
-- with its verdict or for memory. A file that a mirror writes is refused only for memory, or because it is too long.
abbrev pub IsReplyTo : List MirrorData → Event → Reply → Type 0
IsReplyTo mirrors (Take m file) Taken = Holds file.now (held_by file.now)
IsReplyTo mirrors (Take m file) (Refused fault) = WhyNotTaken file.now fault
IsReplyTo mirrors (Pass from to format) Taken = IsShort format (mirror_at mirrors from).held
IsReplyTo mirrors (Pass from to format) (Refused fault) = WhyNotSpelled format (mirror_at mirrors from).held fault
IsReplyTo mirrors (Restart m format) Taken = IsShort format (mirror_at mirrors m).held
IsReplyTo mirrors (Restart m format) (Refused fault) = WhyNotSpelled format (mirror_at mirrors m).held fault

-- ---- events in sequence
abbrev pub mirrors_after_all : List MirrorData → List Event → List Reply → List MirrorData
mirrors_after_all mirrors [] [] = mirrors
mirrors_after_all mirrors [] (r ∷ rs) = mirrors
mirrors_after_all mirrors (e ∷ es) [] = mirrors
mirrors_after_all mirrors (e ∷ es) (r ∷ rs) = mirrors_after_all (mirrors_after mirrors e r) es rs

-- one reply for each event, in order, each by the histories of the mirrors at that time
abbrev pub AreRepliesTo : List MirrorData → List Event → List Reply → Type 0
AreRepliesTo mirrors [] [] = Unit {0}
AreRepliesTo mirrors [] (r ∷ rs) = ⊥
AreRepliesTo mirrors (e ∷ es) [] = ⊥
AreRepliesTo mirrors (e ∷ es) (r ∷ rs) = IsReplyTo mirrors e r × AreRepliesTo (mirrors_after mirrors e r) es rs

-- ---- the sources that reached a mirror
-- a source of versions: the history of a mirror before the first event, its opening; or a file
pub data Source : Type 0 where
  Opening : (mirror : ℕ) → Source
  File : (bytes : List ℕ) → Source

-- The sources that reached a mirror, and whether the mirror is purely full: it is full, and each Pass to it came from a
-- mirror that was purely full then.
pub record Track : Type 0 where
  pub reach : List Source
  pub pure : Bool

abbrev pub is_full : Keep → Bool
is_full Full = true
is_full Latest = false

-- the track of each mirror before the first event: only the mirror's own opening has reached it
abbrev pub first_track : List MirrorData → ℕ → Track
first_track openings m = record { reach = Opening m ∷ []; pure = is_full (mirror_at openings m).keep }

-- the tracks after the track of one mirror was replaced
abbrev pub with_track : (ℕ → Track) → ℕ → Track → ℕ → Track
with_track tracks m track k = cond (nat_eq k m) track (tracks k)

-- The tracks after an event: a file that is taken reaches the mirror, and a Pass that is taken brings all sources that
-- reached the sender. Other events change no track.
abbrev pub tracks_after : (ℕ → Track) → Event → Reply → ℕ → Track
tracks_after tracks (Take m file) Taken = with_track tracks m
    (record { reach = File file.now ∷ (tracks m).reach; pure = (tracks m).pure })
tracks_after tracks (Pass from to format) Taken =
    with_track tracks to (record {
      reach = (tracks from).reach ++ (tracks to).reach;
      pure =
          (tracks from).pure && (tracks to).pure;
    })
tracks_after tracks (Restart m format) Taken = tracks
tracks_after tracks (Take m file) (Refused fault) = tracks
tracks_after tracks (Pass from to format) (Refused fault) = tracks
tracks_after tracks (Restart m format) (Refused fault) = tracks

abbrev pub tracks_after_all : (ℕ → Track) → List Event → List Reply → ℕ → Track
tracks_after_all tracks [] [] = tracks
tracks_after_all tracks [] (r ∷ rs) = tracks
tracks_after_all tracks (e ∷ es) [] = tracks
tracks_after_all tracks (e ∷ es) (r ∷ rs) = tracks_after_all (tracks_after tracks e r) es rs

-- the sources that reached each mirror by events with these replies
abbrev pub tracks : List MirrorData → List Event → List Reply → ℕ → Track
tracks openings = tracks_after_all (first_track openings)

-- the set of a source: the history of the mirror before the first event, or the file's set
abbrev pub set_of : List MirrorData → Source → VersionSet
set_of openings (Opening m) = (mirror_at openings m).held
set_of openings (File bytes) = held_by bytes

-- the union of the sets of some sources
abbrev pub union_of_sources : List MirrorData → List Source → VersionSet
union_of_sources openings [] = empty
union_of_sources openings (s ∷ ss) = union (set_of openings s) (union_of_sources openings ss)

-- ---- the part of what reached it that a mirror holds
-- the members of one set are members of another one
abbrev pub IsPart : VersionSet → VersionSet → Type 0
IsPart s t = (v : VersionData) → contains s v ≡ true → contains t v ≡ true

-- A mirror holds a part of the union of all that reached it, with the same snapshot. A latest mirror holds exactly the
-- snapshot, and a purely full mirror holds the whole union.
pub record HoldsOf (all : VersionSet) (pure : Bool) (m : MirrorData) : Type 0 where
  pub holds_no_more : IsPart m.held all
  pub same_snapshot : snapshot m.held ≡ snapshot all
  pub latest_exact : m.keep ≡ Latest → m.held ≡ snapshot all
  pub full_exact : pure ≡ true → (m.keep ≡ Full) × (m.held ≡ all)

-- Events that mirrors went through. There is one reply for each event, as `IsReplyTo` requires. The mirrors have the
-- histories that the events lead to, and keep their number and kinds. Each mirror holds, of all that reached it, the
-- part that `HoldsOf` requires.
pub record Converges (old : List MirrorData) (events : List Event) (replies : List Reply)
    (new : List MirrorData) : Type 0 where
  pub replied : AreRepliesTo old events replies
  pub mirrors : new ≡ mirrors_after_all old events replies
  pub kinds : map (λ m. m.keep) new ≡ map (λ m. m.keep) old
  pub each : (m : ℕ) → m < length new → HoldsOf (union_of_sources old (tracks old events replies m).reach)
      (tracks old events replies m).pure (mirror_at new m)
