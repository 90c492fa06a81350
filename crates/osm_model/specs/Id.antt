-- Ids of objects, as references and members have them too (own rule of this project).
use Rattle.std.specs.Prelude.{ℤ, ◌^◌, Bool, nat_lt, unsigned_abs}

-- the absolute value of an id is below 2^62
abbrev pub is_id : ℤ → Bool
is_id n = nat_lt (unsigned_abs n) (2 ^ 62)
