-- An extent of a file can give something.
use Rattle.std.proofs.Common.{inr, ℕ, ◌-◌, ◌<◌, List, length, take, drop, Option, Some, None, arith, refl}
use Rattle.std.proofs.Common.{sym}
use Rattle.std.proofs.lemmas.List.{take-append-drop, take_all, length-take}
use Rattle.osm_files.specs.ReadAt.{AreAt, AreLast, known_bytes}
use Rattle.osm_files.specs.Extent.{ExtentCanGive, extent_rest}

at_known : (known : Option (List ℕ)) (next n : ℕ) → AreAt known next (take n (drop next (known_bytes known)))
at_known None next n = tt
at_known (Some all) next n = (drop n (drop next all), sym (take-append-drop n (drop next all)))

last_known : (known : Option (List ℕ)) (next n : ℕ) → length (take n (drop next (known_bytes known))) < n
    → AreLast known next (take n (drop next (known_bytes known)))
last_known None next n few = tt
last_known (Some all) next n few = sym (take_all n (drop next all) (omega (arith, length-take n (drop next all), few)))

pub extent_given : (Fails : Type 0) (known : Option (List ℕ)) (next end : ℕ)
    → ExtentCanGive Fails known next end (extent_rest next end (known_bytes known))
extent_given Fails known next end = record {
  within = omega (arith, length-take (end - next) (drop next (known_bytes known)));
  failure = refl;
  bytes = at_known known next (end - next);
  why = λ few. inr (last_known known next (end - next) few);
}
