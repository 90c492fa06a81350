-- Files whose bytes can be read at any offset (pread of POSIX): an own rule of this project.
use Rattle.std.specs.Prelude.{◌≡◌, ℕ, List, [], ◌++◌, drop, Option, Some, None, IfSome}

-- the bytes are at this offset of a file, if the file's bytes are known
abbrev pub AreAt : Option (List ℕ) → ℕ → List ℕ → Type 0
AreAt known offset bytes = IfSome known (λ all. (rest : List ℕ) × (drop offset all ≡ bytes ++ rest))

-- the bytes are all that a file has from this offset on, if the file's bytes are known
abbrev pub AreLast : Option (List ℕ) → ℕ → List ℕ → Type 0
AreLast known offset bytes = IfSome known (λ all. drop offset all ≡ bytes)

-- the bytes of a file; none if they aren't known
abbrev pub known_bytes : Option (List ℕ) → List ℕ
known_bytes None = []
known_bytes (Some all) = all
