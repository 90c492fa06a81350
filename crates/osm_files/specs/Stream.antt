-- The rest of a stream: its items and its end.
use Rattle.std.specs.Prelude.{ℕ, List, [], ◌∷◌, Option, Some, None}
use Rattle.osm_model.specs.Data.{VersionData}
use Rattle.osm_files.specs.declared.reason.Reason.{Reason}
-- a version, and the offset at which its unit begins: its line's first byte, or the type byte of its data set
pub use Rattle.osm_files.specs.declared.placed.Placed.{Placed}

-- the offset and the reason of the first faulty unit of a file; an accepted file has no verdict
pub record Verdict : Type 0 where
  pub place : ℕ
  pub reason : Reason

abbrev pub verdict_at : ℕ → Reason → Verdict
verdict_at place reason = record { place = place; reason = reason }

abbrev pub new_placed : ℕ → VersionData → Placed
new_placed offset v = record { offset = offset; version = v }

-- the rest of a stream: its items, and then its end or a refusal
pub record SourceRest (A E : Type 0) : Type 0 where
  pub list : List A
  pub refusal : Option E

module _ {A E : Type 0} where
  -- the end of a whole stream
  abbrev pub end_whole : SourceRest A E
  end_whole = record { list = []; refusal = None }

  -- no item, and then a refusal
  abbrev pub end_refused : E → SourceRest A E
  end_refused reason = record { list = []; refusal = Some reason }

  -- the rest with one more item at its front
  abbrev pub front : A → SourceRest A E → SourceRest A E
  front x still = record { list = x ∷ still.list; refusal = still.refusal }
