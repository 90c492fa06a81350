-- The hash of an entry's bytes.
use Rattle.std.specs.Prelude.{ℕ, List}
use Rattle.std.specs.Hash.DefaultHasher as sip

-- SipHash-1-3 with the key 0
unfoldable pub entry_hash : List ℕ → ℕ
entry_hash bytes = sip.finish (sip.write sip.initial bytes)
