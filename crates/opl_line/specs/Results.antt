-- Readings of texts, and the results of calls that need memory for a reading.
use Rattle.std.specs.Prelude.{◌≡◌, ◌⊎◌, Result, Ok, Err, MatchResult}
use Rattle.opl_line.specs.declared.reason.OplReason.{OplReason}
use Rattle.opl_line.specs.declared.reason.OplReason.TheVariants.{Memory}

-- a reading, and then a reading of its result
abbrev pub and_then : {X Y : Type 0} → Result X OplReason → (X → Result Y OplReason) → Result Y OplReason
and_then (Ok x) next = next x
and_then (Err reason) next = Err reason

-- a reading with `f` applied to its value
abbrev pub as_value : {X Y : Type 0} → (X → Y) → Result X OplReason → Result Y OplReason
as_value f (Ok x) = Ok (f x)
as_value f (Err reason) = Err reason

-- a reading with `f` applied to its reason
abbrev pub with_reason : {X : Type 0} → (OplReason → OplReason) → Result X OplReason → Result X OplReason
with_reason f (Ok x) = Ok x
with_reason f (Err reason) = Err (f reason)

-- the result is the reading, or out of memory
abbrev pub OplReads : {X : Type 0} → Result X OplReason → Result X OplReason → Type 0
OplReads reading result = MatchResult result (λ x. reading ≡ Ok x)
    (λ reason. (reason ≡ Memory) ⊎ (reading ≡ Err reason))
