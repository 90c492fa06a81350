-- Laws of the one spelling of a set, and of the bytes that a sink writes.
use Rattle.std.specs.Prelude.{◌≡◌, ◌↔◌, ℕ, ◌<◌, ◌^◌, List, [], ◌∷◌, ◌++◌, length, None, Result, Ok, Err}
use Rattle.std.specs.List.{All}
use Rattle.std.specs.List.Sorted.{IsStrictlySortedBy}
use Rattle.osm_model.specs.Data.{VersionData}
use Rattle.osm_model.specs.Order.{version_cmp}
use Rattle.osm_model.specs.Valid.{IsVersion}
use Rattle.osm_model.specs.VersionSet.{VersionSet}
use Rattle.osm_model.specs.Sets.{to_list, from_list, union, empty}
use Rattle.o5_codec.specs.Encoder.{initial_writer}
use Rattle.osm_files.specs.declared.fault.Fault.{Fault}
use Rattle.osm_files.specs.declared.format.Format.{Format}
use Rattle.osm_files.specs.Held.{IsFile, Holds, HoldsSorted}
use Rattle.osm_files.specs.Output.{Change}
use Rattle.osm_files.specs.Change.{change_of}
use Rattle.osm_files.specs.declared.output.Output.{Ghosts}
use Rattle.osm_files.specs.Verdict.{verdict, held_by}
use Rattle.osm_files.specs.Spell.{file_start, file_end, version_bytes, writer_with_all, open_file_bytes, spell_list}
use Rattle.osm_files.specs.Spell.{spell}
use Rattle.osm_files.specs.Sink.{SinkState, new_sink, MayFollow, Calls, CutShort, WritesFile, after_begin, after_put}
use Rattle.osm_files.specs.Sink.{after_end, same_sink}
use Rattle.osm_files.specs.Sink.{HasPut}

-- each member is within the ranges of versions
abbrev pub AreVersions : VersionSet → Type 0
AreVersions set = All IsVersion (to_list set)

-- the file of a set of versions, if it is shorter than 2^62 bytes, is sorted and holds the set
abbrev pub SpellHoldsItsSet : Type 0
SpellHoldsItsSet =
    (format : Format) (set : VersionSet) → AreVersions set → length (spell format set) < 2 ^ 62
    → HoldsSorted (spell format set) set

-- a file holds at most one set
abbrev pub HeldIsOneSet : Type 0
HeldIsOneSet = (bytes : List ℕ) (one other : VersionSet) → Holds bytes one → Holds bytes other → one ≡ other

-- the file of a set of versions holds no other set
abbrev pub SpelledIsHeld : Type 0
SpelledIsHeld = (format : Format) (set held : VersionSet) → AreVersions set → Holds (spell format set) held → held ≡ set

-- the file of the union of two sets
abbrev pub joined_file : Format → VersionSet → VersionSet → List ℕ
joined_file format a b = spell format (union a b)

-- the union of two sets has the same file in either order
abbrev pub JoinInAnyOrder : Type 0
JoinInAnyOrder = (format : Format) (a b : VersionSet) → joined_file format a b ≡ joined_file format b a

-- the union of a set with itself has the same file as its union with the empty set
abbrev pub JoinRepeated : Type 0
JoinRepeated = (format : Format) (a : VersionSet) → joined_file format a a ≡ joined_file format a empty

-- the union of three sets has the same file, whichever two are joined and written first, in whichever formats, to a
-- file shorter than 2^62 bytes
abbrev pub JoinInAnyGrouping : Type 0
JoinInAnyGrouping =
    (format left right : Format) (a b c ab bc : VersionSet) → AreVersions a → AreVersions b → AreVersions c →
    Holds (joined_file left a b) ab → Holds (joined_file right b c) bc →
    joined_file format ab c ≡ joined_file format a bc

-- in a strictly ascending list, each version may follow those before it: no kind is below the kind before
abbrev pub EachMayFollow : Type 0
EachMayFollow =
    (format : Format) (versions others : List VersionData) (v : VersionData)
    → IsStrictlySortedBy version_cmp (versions ++ v ∷ others) →
    MayFollow v (writer_with_all format initial_writer versions)

-- the file of a strictly ascending list is the file of its set
abbrev pub ListIsSpelledAsItsSet : Type 0
ListIsSpelledAsItsSet =
    (format : Format) (versions : List VersionData) → IsStrictlySortedBy version_cmp versions
    → spell_list format versions ≡ spell format (from_list versions)

-- the file of a list's first versions, without the end mark, is a front of the file of the whole list
abbrev pub FirstVersionsAreAFront : Type 0
FirstVersionsAreAFront =
    (format : Format) (versions others : List VersionData)
    → (rest : List ℕ) × (spell_list format (versions ++ others) ≡ open_file_bytes format versions ++ rest)

-- the effect of the calls so far: the sink has put these versions, or only a front of their file was appended
abbrev pub Puts : {A : Type 0} → Format → ℕ → List VersionData → Change → SinkState → Result A Fault → Type 0
Puts format number versions change s (Ok done) = HasPut format number versions change s
Puts format number versions change s (Err fault) = CutShort number change (open_file_bytes format versions) fault

-- The calls of a sink, in sequence. The bytes that they append are the file of the versions put, up to its end mark,
-- and after `end` with the end mark. After a refused call they are a front of the file that the call would have led to.
-- After a failure of the output their number is the fault's `place`.
pub record CallsAreSpelled {O : Type 0} (output : Ghosts O) : Type 0 where
  pub begin : (format : Format) (number : ℕ) (s : SinkState) (before now : O) (result : Result (Unit {0}) Fault) →
      Calls (after_begin (new_sink format number)) s same_sink (change_of output before now)
      (file_start format) result →
      Puts format number [] (change_of output before now) s result
  pub put : (format : Format) (number : ℕ) (versions : List VersionData) (v : VersionData) (s t : SinkState)
      (before mid now : O) (result : Result (Unit {0}) Fault) →
      HasPut format number versions (change_of output before mid) s →
      Calls s t (after_put v) (change_of output mid now) (version_bytes s.format s.encoder v) result →
      Puts format number (versions ++ v ∷ []) (change_of output before now) t result
  pub end : (format : Format) (number : ℕ) (versions : List VersionData) (s t : SinkState)
      (before mid now : O) (result : Result (Unit {0}) Fault) →
      HasPut format number versions (change_of output before mid) s →
      Calls (after_end s) t same_sink (change_of output mid now) (file_end s.format) result →
      WritesFile number (change_of output before now) (spell_list format versions) result

-- the versions that a file spells are within the ranges of versions
abbrev pub FilesHoldVersions : Type 0
FilesHoldVersions = (bytes : List ℕ) (versions : List VersionData) → IsFile bytes versions → All IsVersion versions

-- the members of a set that a file holds are within the ranges of versions
abbrev pub HeldAreVersions : Type 0
HeldAreVersions = (bytes : List ℕ) (set : VersionSet) → Holds bytes set → AreVersions set

-- the union of two sets within the ranges of versions is within them
abbrev pub UnionsAreVersions : Type 0
UnionsAreVersions = (a b : VersionSet) → AreVersions a → AreVersions b → AreVersions (union a b)

-- the union of what three files hold has the same file, whether the first two or the last two files are joined first
abbrev pub FilesJoinInAnyGrouping : Type 0
FilesJoinInAnyGrouping =
    (format left right : Format) (first second third : List ℕ) (a b c ab bc : VersionSet) → Holds first a
    → Holds second b → Holds third c →
    Holds (joined_file left a b) ab → Holds (joined_file right b c) bc →
    joined_file format ab c ≡ joined_file format a bc

-- bytes hold a set exactly if they have no verdict and the set has the versions of their units
abbrev pub HeldWithoutVerdict : Type 0
HeldWithoutVerdict =
    (bytes : List ℕ) (set : VersionSet) → Holds bytes set ↔ ((verdict bytes ≡ None) × (set ≡ held_by bytes))

-- the file of a set of versions, if it is shorter than 2^62 bytes, has no verdict, and holds the set
abbrev pub SpellHasNoVerdict : Type 0
SpellHasNoVerdict =
    (format : Format) (set : VersionSet) → AreVersions set → length (spell format set) < 2 ^ 62
    → (verdict (spell format set) ≡ None) × (held_by (spell format set) ≡ set)
