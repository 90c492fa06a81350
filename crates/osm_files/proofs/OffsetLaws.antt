-- The offsets of units: each unit begins after the one before it, and a refusal comes after them all.
use Rattle.std.proofs.Common.{◌≡◌, ℕ, zero, suc, ◌+◌, ◌-◌, ◌≤◌, true, false, cond, List, [], ◌∷◌, length, take, drop, refl, sym, subst}
use Rattle.std.proofs.Common.{arith, Option, Some, None, option_map, IfSome, Ok, Err, length-drop, length-take, nat_lt}
use Rattle.std.proofs.lemmas.Option.{IfSome_then}
use Rattle.osm_files.specs.Input.{InputRest}
use Rattle.osm_files.specs.Position.{closing_verdict, state_or_start, units_from, window}
use Rattle.osm_files.specs.Stream.{Placed, SourceRest, Verdict, verdict_at}
use Rattle.osm_files.specs.Units.{FileUnit, UnitResult, FileStateData, final_units, found_then, last_at, unit_at, unit_then, units}
use Rattle.osm_files.specs.Units.{units_within}
use Rattle.osm_files.specs.Verdict.{length_limit, too_long_verdict}
use Rattle.osm_files.proofs.PositionLaws.{from_is}
use Rattle.osm_files.proofs.StepLaws.{unit_sized}

-- the first unit begins at this offset or later
abbrev pub Follow : ℕ → List Placed → Option Verdict → Type 0
Follow from [] None = Unit {0}
Follow from [] (Some v) = from ≤ v.place
Follow from (u ∷ us) refusal = (from ≤ u.offset) × Follow (u.offset + 1) us refusal

abbrev pub Follows : ℕ → SourceRest Placed Verdict → Type 0
Follows from still = Follow from still.list still.refusal

follow_earlier : (from to : ℕ) (us : List Placed) (refusal : Option Verdict) → from ≤ to → Follow to us refusal → Follow from us refusal
follow_earlier from to [] None le h = tt
follow_earlier from to [] (Some v) le h = omega (arith, le, h)
follow_earlier from to (u ∷ us) refusal le h = (omega (arith, le, h.0), h.1)

-- the close of a file, if there is one, has this offset or a later one
abbrev ClosesFrom : ℕ → Option Verdict → Type 0
ClosesFrom from close = IfSome close (λ v. from ≤ v.place)

closes_earlier : (from to : ℕ) (close : Option Verdict) → from ≤ to → ClosesFrom to close → ClosesFrom from close
closes_earlier from to close le h = IfSome_then close h (λ v k. omega (arith, le, k))

closed_follows : (close : Option Verdict) (offset : ℕ) (last : UnitResult) → ClosesFrom offset close →
    Follows offset (final_units close offset last)
closed_follows None offset (Err reason) h = omega arith
closed_follows None offset (Ok (None, next)) h = tt
closed_follows None offset (Ok (Some v, next)) h = (omega arith, tt)
closed_follows (Some verdict) offset last h = h

found_follows : (offset size : ℕ) (found : UnitResult) (more : FileStateData → SourceRest Placed Verdict) → 1 ≤ size
    → ((next : FileStateData) → Follows (offset + size) (more next)) → Follows offset (found_then offset found more)
found_follows offset size (Err reason) more some on = omega arith
found_follows offset size (Ok (None, next)) more some on =
    follow_earlier offset (offset + size) (more next).list (more next).refusal (omega arith) (on next)
found_follows offset size (Ok (Some v, next)) more some on =
    (omega arith, follow_earlier (offset + 1) (offset + size) (more next).list (more next).refusal (omega (arith, some)) (on next))

module _ (close : Option Verdict) where
  abbrev WithinFollow : ℕ → Type 0
  WithinFollow n =
      (stage : FileStateData) (offset : ℕ) (bytes : List ℕ) → ClosesFrom (offset + length bytes) close
      → Follows offset (units_within n close stage offset bytes)

  unit_follows : (n : ℕ) → WithinFollow n → (stage : FileStateData) (offset : ℕ) (bytes : List ℕ) → ClosesFrom (offset + length bytes) close
      → (found : Option FileUnit) → unit_at stage bytes ≡ found
      → Follows offset (unit_then close stage offset bytes (units_within n close) found)
  unit_follows n on stage offset bytes h None e =
      closed_follows close offset (last_at stage bytes) (closes_earlier offset (offset + length bytes) close (omega arith) h)
  unit_follows n on stage offset bytes h (Some u) e =
      let sized = unit_sized stage bytes u e in
      let rest : List ℕ = drop u.size bytes in
      let within : (offset + u.size) + length rest ≤ offset + length bytes = omega (arith, length-drop u.size bytes, sized.within) in
      found_follows offset u.size u.found (λ next. units_within n close next (offset + u.size) rest) sized.some
      (λ next. on next (offset + u.size) rest (closes_earlier _ _ close within h))

  within_follow : (n : ℕ) → WithinFollow n
  within_follow zero stage offset bytes h =
      closed_follows close offset (last_at stage bytes) (closes_earlier offset (offset + length bytes) close (omega arith) h)
  within_follow (suc n) stage offset bytes h = unit_follows n (within_follow n) stage offset bytes h (unit_at stage bytes) refl

  units_follow : (stage : FileStateData) (offset : ℕ) (bytes : List ℕ) → ClosesFrom (offset + length bytes) close
      → Follows offset (units close stage offset bytes)
  unfolding units
  units_follow stage offset bytes h = within_follow (length bytes) stage offset bytes h

-- a refusal of the end comes after the last byte, and the limit after all bytes that count
window_closes : (c : InputRest) → ClosesFrom (0 + length (window 0 c)) (closing_verdict 0 c)
window_closes c =
    let front : List ℕ = take (length_limit - 1 - 0) c.bytes in
    elim (nat_lt (0 + length c.bytes) length_limit) as (λ t.
    ClosesFrom (0 + length (cond t c.bytes front))
    (cond t (option_map (verdict_at (0 + length c.bytes)) c.failure) (Some too_long_verdict))) [
      | true ↦ elim c.failure as (λ f. ClosesFrom (0 + length c.bytes) (option_map (verdict_at (0 + length c.bytes)) f)) [
        | Some reason ↦ omega arith
        | None ↦ tt
      ]
      | false ↦ omega (arith, length-take (length_limit - 1 - 0) c.bytes)
    ]

-- The units of an input are at rising offsets, and its refusal comes after them.
pub input_follows : (c : InputRest) → Follows 0 (units_from None 0 c)
input_follows c =
    subst (Follows 0) (sym (from_is None 0 c))
    (units_follow (closing_verdict 0 c) (state_or_start None c.bytes) 0 (window 0 c) (window_closes c))
