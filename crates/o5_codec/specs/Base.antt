-- Numbers as differences to the base of their field (the OSM wiki's page on o5m).
-- Their ranges are own rules of this project.
use Rattle.std.specs.Prelude.{ℕ, ℤ, pos, negsuc, ◌+ℤ◌, ◌^◌, nat_lt, unsigned_abs, List, Result, Ok, Err, if◌then◌else◌}
use Rattle.std.specs.Int.{w32, int_wrap}
use Rattle.osm_model.specs.Id.{is_id}
use Rattle.o5_codec.specs.declared.reason.O5Reason.{O5Reason}
use Rattle.o5_codec.specs.declared.reason.O5Reason.TheVariants.{OutOfRange}
use Rattle.o5_codec.specs.Results.{and_then}
use Rattle.o5_codec.specs.Number.{signed_at}

-- the value whose difference is at the front, and the bytes after it
abbrev pub read_difference : {X : Type 0} → (ℤ → Result X O5Reason) → List ℕ → Result (X × List ℕ) O5Reason
read_difference moved bytes = and_then (signed_at bytes) (λ x. and_then (moved x.0) (λ v. Ok (v, x.1)))

-- the sum of a base and a difference: an id, a reference or the id of a member
abbrev pub moved_id : ℤ → ℤ → Result ℤ O5Reason
moved_id base difference = if is_id (base +ℤ difference) then Ok (base +ℤ difference) else Err OutOfRange

-- a number below 2^32
abbrev pub within_range : ℕ → Result ℕ O5Reason
within_range n = if nat_lt n (2 ^ 32) then Ok n else Err OutOfRange

abbrev pub number_within : ℤ → Result ℕ O5Reason
number_within (pos n) = within_range n
number_within (negsuc n) = Err OutOfRange

-- the sum of a base and a difference: a time or a changeset
abbrev pub moved_number : ℕ → ℤ → Result ℕ O5Reason
moved_number base difference = number_within (pos base +ℤ difference)

-- a longitude or a latitude: the sum, reduced modulo 2^32 to a number of 32 bits
abbrev pub moved_coordinate : ℤ → ℤ → Result ℤ O5Reason
moved_coordinate base difference =
    if nat_lt (unsigned_abs difference) (2 ^ 32) then Ok (int_wrap w32 (base +ℤ difference)) else Err OutOfRange
