-- The names of the reasons (own rule of this project).
use Rattle.std.specs.Prelude.{ℕ, Bool, true, false, List, codes}
use Rattle.o5_codec.specs.declared.reason.O5Reason.{O5Reason}
use Rattle.o5_codec.specs.declared.reason.O5Reason.TheVariants.{BadNumber, OutOfRange, NoVersion, BadReference, BadText}
use Rattle.o5_codec.specs.declared.reason.O5Reason.TheVariants.{NotUtf8, BadSection, BadMemberType, MixedSegment}
use Rattle.o5_codec.specs.declared.reason.O5Reason.TheVariants.{Truncated, Memory, Failed}

abbrev pub o5_reason_name : O5Reason → List ℕ
o5_reason_name BadNumber = codes "BadNumber"
o5_reason_name OutOfRange = codes "OutOfRange"
o5_reason_name NoVersion = codes "NoVersion"
o5_reason_name BadReference = codes "BadReference"
o5_reason_name BadText = codes "BadText"
o5_reason_name NotUtf8 = codes "NotUtf8"
o5_reason_name BadSection = codes "BadSection"
o5_reason_name BadMemberType = codes "BadMemberType"
o5_reason_name MixedSegment = codes "MixedSegment"
o5_reason_name Truncated = codes "Truncated"
o5_reason_name Memory = codes "Memory"
o5_reason_name Failed = codes "Failed"

-- whether a reason is that of a step; the others are out of memory, an earlier refusal, and a file that ends within a
-- data set
abbrev pub is_step_reason : O5Reason → Bool
is_step_reason BadNumber = true
is_step_reason OutOfRange = true
is_step_reason NoVersion = true
is_step_reason BadReference = true
is_step_reason BadText = true
is_step_reason NotUtf8 = true
is_step_reason BadSection = true
is_step_reason BadMemberType = true
is_step_reason MixedSegment = true
is_step_reason Truncated = false
is_step_reason Memory = false
is_step_reason Failed = false
