-- Readings of bytes, and the results of calls that need memory for a reading.
use Rattle.std.specs.Prelude.{◌≡◌, ◌⊎◌, List, [], ◌∷◌, ◌++◌, Result, Ok, Err, MatchResult}
use Rattle.o5_codec.specs.declared.reason.O5Reason.{O5Reason}
use Rattle.o5_codec.specs.declared.reason.O5Reason.TheVariants.{Memory}

-- two readings in sequence: the second one takes the value of the first one
abbrev pub and_then : {X Y : Type 0} → Result X O5Reason → (X → Result Y O5Reason) → Result Y O5Reason
and_then (Ok x) next = next x
and_then (Err reason) next = Err reason

-- a list, followed by the value that is read
abbrev pub and_added : {X : Type 0} → List X → Result X O5Reason → Result (List X) O5Reason
and_added done reading = and_then reading (λ x. Ok (done ++ x ∷ []))

-- the result of a call is the reading; `view` maps the value of the call to that of the reading
abbrev pub O5Gives : {X Y : Type 0} → (X → Y) → Result Y O5Reason → Result X O5Reason → Type 0
O5Gives view reading result = MatchResult result (λ x. reading ≡ Ok (view x)) (λ reason. reading ≡ Err reason)

-- the result of a call is the reading, or the call runs out of memory
abbrev pub O5Reads : {X Y : Type 0} → (X → Y) → Result Y O5Reason → Result X O5Reason → Type 0
O5Reads view reading result =
    MatchResult result (λ x. reading ≡ Ok (view x)) (λ reason. (reason ≡ Memory) ⊎ (reading ≡ Err reason))
