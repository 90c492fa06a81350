-- The versions that the source of a file can still give.
use Rattle.std.proofs.Common.{refl}
use Rattle.std.specs.Prelude.{◌≡◌, ℕ, Bool, false}
use Rattle.osm_model.specs.Data.{VersionData}
use Rattle.osm_model.specs.Sets.{size}
use Rattle.osm_files.specs.declared.fault.Fault.{Fault}
use Rattle.osm_files.specs.Groups.{FileSourceData, FileCanGive, known_or_whole, given_at, one_given, versions_left}
use Rattle.osm_files.specs.Groups.{file_ascends}
use Rattle.osm_files.specs.Groups.{set_given}
use Rattle.osm_files.specs.Groups.{given_set_ascends}
use Rattle.osm_files.specs.Input.{InputRest}
use Rattle.osm_files.specs.Source.{Ascends}
use Rattle.osm_files.specs.Stream.{SourceRest}
use Rattle.osm_merge.specs.Within.{WithinCanGive, still_within, has_failed, within_ascends}
use Rattle.osm_mirror.specs.declared.run.source.InputSource.{InputSource}
use Rattle.osm_mirror.specs.declared.run.source.InputSource.TheVariants.{Streamed, Held, Sliced}

module _ {R : Type 0} (can : R → InputRest → Type 0) where
  -- the versions that a sorted file can still give, or those within a span; or the rest of a history, which is given
  -- whole
  abbrev pub SourceCanGive : InputSource R → SourceRest VersionData Fault → Type 0
  SourceCanGive (Streamed source) still = FileCanGive can source still
  SourceCanGive (Held rest) still = still ≡ set_given rest
  SourceCanGive (Sliced source) still = WithinCanGive (FileCanGive can) source still

  pub source_ascends : (s : InputSource R) (still : SourceRest VersionData Fault) → SourceCanGive s still
      → Ascends still
  source_ascends (Streamed source) still h = file_ascends can source still h
  source_ascends (Held rest) still h = given_set_ascends rest still h
  source_ascends (Sliced source) still h = within_ascends (FileCanGive can) (file_ascends can) source still h

module _ {R : Type 0} (one : R → InputRest) where
  -- one list that the source of a sorted file can give
  abbrev pub file_one : FileSourceData R → SourceRest VersionData Fault
  file_one source = known_or_whole (given_at source (one source.units.rest))

  -- one list that the source can give
  abbrev pub source_one : InputSource R → SourceRest VersionData Fault
  source_one (Streamed source) = file_one source
  source_one (Held rest) = set_given rest
  source_one (Sliced source) = still_within source (file_one source.source)

  module _ (can : R → InputRest → Type 0) (possible : (r : R) → can r (one r)) where
    file_possible : (s : FileSourceData R) → FileCanGive can s (file_one s)
    file_possible s = (one s.units.rest, possible s.units.rest, one_given s (one s.units.rest))

    pub source_possible : (s : InputSource R) → SourceCanGive can s (source_one s)
    source_possible (Streamed source) = file_possible source
    source_possible (Held rest) = refl
    source_possible (Sliced source) = (file_one source.source, file_possible source.source, refl)

-- a bound on the number of versions still to come
abbrev pub left_of : {R : Type 0} → InputSource R → ℕ
left_of (Streamed source) = versions_left source
left_of (Held rest) = size rest
left_of (Sliced source) = versions_left source.source

-- the number that the source's fault has after an earlier refused call; a source that holds a history refuses no call
abbrev pub input_of : {R : Type 0} → InputSource R → ℕ
input_of (Streamed source) = source.units.input
input_of (Held rest) = 0
input_of (Sliced source) = source.input

-- whether a call of the source was refused
abbrev pub failed_of : {R : Type 0} → InputSource R → Bool
failed_of (Streamed source) = source.units.failed
failed_of (Held rest) = false
failed_of (Sliced source) = has_failed source.state
