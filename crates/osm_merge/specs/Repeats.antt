-- Known equal heads, so that none is compared again with an equal version that was taken (own definitions of this
-- project).
use Rattle.std.specs.Prelude.{◌≡◌, ℕ, ◌+◌, ◌==◌, ◌≤◌, false, List, slice_index_or, Option, Some, None, if◌then◌else◌}
use Rattle.osm_model.specs.Data.{VersionData}
use Rattle.osm_merge.specs.declared.repeats.Tie.{Tie}
use Rattle.osm_merge.specs.declared.repeats.Repeats.{Repeats}
use Rattle.osm_merge.specs.declared.selection.Selection.{Selection}
use Rattle.osm_merge.specs.Pass.{is_met}
use Rattle.osm_merge.specs.Union.{capped_count}

-- the other index of a tie, if exactly one of the two is `index`
abbrev pub other_index : Tie → ℕ → Option ℕ
other_index tie index =
    if tie.one == index then (if tie.other == index then None else Some tie.other)
    else (if tie.other == index then Some tie.one else None)

-- the known equal heads after a head was taken, by the other index of the tie
abbrev pub repeats_after : Option ℕ → Tie → Repeats
repeats_after None tie = record { tie = Some tie; taken = None }
repeats_after (Some other) tie = record { tie = None; taken = Some other }

-- the known equal heads after the head of the source `index` was taken, by the tie before
abbrev pub repeats_after_taking : Option Tie → ℕ → Repeats
repeats_after_taking None index = record { tie = None; taken = None }
repeats_after_taking (Some tie) index = repeats_after (other_index tie index) tie

-- the heads of the sources that tie are equal
abbrev pub IsTied : List (Option VersionData) → Option Tie → Type 0
IsTied heads None = Unit {0}
IsTied heads (Some tie) = slice_index_or heads tie.one None ≡ slice_index_or heads tie.other None

-- a version, if there is one, is not met after the pending one
abbrev pub IsPast : Selection → Option VersionData → Option VersionData → Type 0
IsPast selection pending None = Unit {0}
IsPast selection pending (Some v) = is_met selection pending v ≡ false

-- the head of the source at an index is not met after the pending version
abbrev pub IsPastAt : Selection → Option VersionData → List (Option VersionData) → Option ℕ → Type 0
IsPastAt selection pending heads None = Unit {0}
IsPastAt selection pending heads (Some index) = IsPast selection pending (slice_index_or heads index None)

-- the known equal heads are equal
pub record AreTrueRepeats (selection : Selection) (pending : Option VersionData) (heads : List (Option VersionData))
    (repeats : Repeats) : Type 0 where
  pub tied : IsTied heads repeats.tie
  pub past : IsPastAt selection pending heads repeats.taken

-- 1 for a tie that a comparison found, 0 for none
abbrev pub one_if : {A : Type 0} → Option A → ℕ
one_if None = 0
one_if (Some x) = 1

-- the number of comparisons that found the known equal heads
abbrev pub comparison_count : Repeats → ℕ
comparison_count repeats = one_if repeats.tie + one_if repeats.taken

-- if there were enough comparisons for the tie before and `n` more, there are enough for the tie after and `n` more
abbrev pub SavesComparison : Option Tie → ℕ → Option Tie → ℕ → Type 0
SavesComparison before compared after now = (n : ℕ) → capped_count (n + one_if before) ≤ compared →
    capped_count (n + one_if after) ≤ now
