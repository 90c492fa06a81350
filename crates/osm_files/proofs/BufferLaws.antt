-- The bytes held in a buffer: those from one offset on and before another.
use Rattle.std.proofs.Common.{◌≡◌, ℕ, ◌+◌, ◌-◌, ◌≤◌, List, ◌++◌, length, take, drop, sym, ap, ◌∙◌, arith, drop-drop, take-take}
use Rattle.std.proofs.lemmas.List.{drop-take, drop-append-le, take-append-le, length-take-le}
use Rattle.std.proofs.Math.Seq.{take-append-add}

module _ (from end : ℕ) (buffer : List ℕ) (ordered : from ≤ end) where
  -- the bytes held come after those before the first offset
  pub held_after : take (end - from) (drop from buffer) ≡ drop from (take end buffer)
  held_after = sym (ap (λ n. drop from (take n buffer)) (let sum : end ≡ from + (end - from) = omega (arith, ordered) in sum)
      ∙ drop-take from (end - from) buffer)

  -- the bytes held after `count` of them were skipped
  pub held_skipped : (count : ℕ) → from + count ≤ end →
      take (end - (from + count)) (drop (from + count) buffer) ≡ drop count (take (end - from) (drop from buffer))
  held_skipped count within =
      let size : end - from ≡ count + (end - (from + count)) = omega (arith, within) in
      ap (λ xs. take (end - (from + count)) xs) (sym (drop-drop count from buffer))
      ∙ sym (ap (λ n. drop count (take n (drop from buffer))) size ∙ drop-take count (end - (from + count)) (drop from buffer))

  -- the same bytes are held in another buffer that has the same bytes up to `end`
  pub held_kept : (other : List ℕ) → take end other ≡ take end buffer →
      take (end - from) (drop from other) ≡ take (end - from) (drop from buffer)
  held_kept other same =
      sym (ap (λ n. drop from (take n other)) (let sum : end ≡ from + (end - from) = omega (arith, ordered) in sum)
      ∙ drop-take from (end - from) other)
      ∙ ap (drop from) same ∙ sym held_after

-- `count` more bytes came
pub held_grown : (from end : ℕ) (buffer : List ℕ) → from ≤ end → (count : ℕ) (other front : List ℕ) → end ≤ length buffer →
    take (end + count) other ≡ take end buffer ++ front →
    take (end + count - from) (drop from other) ≡ take (end - from) (drop from buffer) ++ front
held_grown from end buffer ordered count other front within came =
    held_after from (end + count) other (omega (arith, ordered)) ∙ ap (drop from) came
    ∙ drop-append-le from (take end buffer) front (omega (arith, ordered, length-take-le end buffer within))
    ∙ ap (λ xs. xs ++ front) (sym (held_after from end buffer ordered))

-- `count` bytes were read after others
pub came_after : (end count : ℕ) (buffer came after : List ℕ) → end ≤ length buffer → count ≤ length came →
    take (end + count) (take end buffer ++ (came ++ after)) ≡ take end buffer ++ take count came
came_after end count buffer came after within some =
    ap (λ n. take (n + count) (take end buffer ++ (came ++ after))) (sym (length-take-le end buffer within))
    ∙ take-append-add (take end buffer) (came ++ after) count
    ∙ ap (λ xs. take end buffer ++ xs) (take-append-le count came after some)

-- the front of a vector whose first bytes were written
pub written_front : (n size : ℕ) (written rest : List ℕ) → n ≤ size → n ≤ length written →
    take n (take size (written ++ rest)) ≡ take n written
written_front n size written rest small within =
    take-take n size (written ++ rest) small ∙ take-append-le n written rest within
