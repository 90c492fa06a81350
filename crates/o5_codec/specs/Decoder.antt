-- The state of a decoder between two data sets.
use Rattle.std.specs.Prelude.{◌≡◌, ◌⊎◌, ℕ, pos, Bool, true, false, List, [], Result, Ok, Err, MatchResult}
use Rattle.osm_model.specs.declared.kind.Kind.{Kind}
use Rattle.osm_model.specs.Data.{VersionData}
use Rattle.o5_codec.specs.declared.reason.O5Reason.{O5Reason}
use Rattle.o5_codec.specs.declared.reason.O5Reason.TheVariants.{Memory, Failed}
use Rattle.o5_codec.specs.declared.read.segment.Segment.{Segment}
use Rattle.o5_codec.specs.declared.read.segment.ListsSeen.TheVariants.{Neither}
use Rattle.o5_codec.specs.declared.base.Bases.{Bases}
use Rattle.o5_codec.specs.Body.{set_at}

-- the bases at the start of a segment
abbrev pub no_bases : Bases
no_bases = record {
  id = pos 0;
  time = 0;
  changeset = 0;
  lon = pos 0;
  lat = pos 0;
  reference = pos 0;
  node_member = pos 0;
  way_member = pos 0;
  relation_member = pos 0;
}

-- a segment without any data sets
abbrev pub new_segment : Segment
new_segment = record { bases = no_bases; table = []; seen = Neither }

-- the segment so far, and whether a data set was refused
pub record DecoderState : Type 0 where
  pub segment : Segment
  pub failed : Bool

abbrev pub reading_in : Segment → DecoderState
reading_in s = record { segment = s; failed = false }

-- the result of reading the content of a data set, with the state before and the state after
pub record Reads (k : Kind) (content : List ℕ) (old new : DecoderState)
    (result : Result VersionData O5Reason) : Type 0 where
  pub read : MatchResult result
      (λ v. (old.failed ≡ false) × (new.failed ≡ false) × (set_at k old.segment content ≡ Ok (v, new.segment)))
      (λ reason. (new.failed ≡ true) ×
      (old.failed ≡ false → (reason ≡ Memory) ⊎ (set_at k old.segment content ≡ Err reason)))
  pub failed : old.failed ≡ true → result ≡ Err Failed
