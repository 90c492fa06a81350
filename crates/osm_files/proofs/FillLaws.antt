-- Reading more bytes.
use Rattle.std.proofs.Common.{◌≡◌, inr, ℕ, ◌+◌, ◌<◌, ◌^◌, false, List, [], ◌∷◌, ◌++◌, length, refl, sym, ap, ◌∙◌, subst, arith, Option}
use Rattle.std.proofs.Common.{Some, None, option_map, IfSome}
use Rattle.osm_files.specs.declared.fault.Fault.{Fault}
use Rattle.osm_files.specs.Fault.{too_long_fault}
use Rattle.osm_files.specs.EndRule.{by_test}
use Rattle.osm_files.specs.Input.{InputRest, with_front}
use Rattle.osm_files.specs.Verdict.{too_long_verdict, length_limit}
use Rattle.osm_files.specs.Position.{KnownPosition, rest_of_bytes, fault_of, Keeps, Halts, StopsFilling}

-- A property of the image of an option's value is one of the value of the mapped option.
pub mapped : {A B : Type 0} (o : Option A) (f : A → B) (P : B → Type 0) → IfSome o (λ x. P (f x)) → IfSome (option_map f o) P
mapped None f P h = tt
mapped (Some x) f P h = h

-- A known value keeps itself.
pub kept : {A : Type 0} (o : Option A) → Keeps o o
kept None = tt
kept (Some x) = refl

-- Keeping a known value twice is keeping it.
pub keeps_on : {A : Type 0} (a b c : Option A) → Keeps a b → Keeps b c → Keeps a c
keeps_on None b c h k = tt
keeps_on {A} (Some x) b c h k = let P : Option A → Type 0 = λ o. IfSome o (λ y. c ≡ Some y) in subst P h k

-- Before the end of input the bytes ahead are those held and those to come.
pub ahead_open : (p : KnownPosition) → p.ended ≡ false
    → rest_of_bytes p ≡ option_map (λ c. with_front p.held (by_test p.end c)) p.rest
ahead_open p unended = rw unended refl

too_long_is : (input : ℕ) → too_long_fault input ≡ fault_of input too_long_verdict
unfolding length_limit
too_long_is input = refl

-- there is one byte more than those held
more_there : (held front : List ℕ) (t : InputRest) → 0 < length front →
    (b : ℕ) × (more : List ℕ) × (held ++ (front ++ t.bytes) ≡ held ++ b ∷ more)
more_there held [] t some = absurd (omega (arith, some))
more_there held (b ∷ front) t some = (b, front ++ t.bytes, refl)

from_mapped : (p : KnownPosition) (fault : Fault) (front : List ℕ) (rest : Option InputRest) → 0 < length front →
    p.offset + length p.held + 1 ≡ 2 ^ 62 → fault ≡ too_long_fault p.input
    → IfSome (option_map (λ c. with_front p.held (by_test p.end c)) (option_map (with_front front) rest)) (λ c. Halts p c fault)
from_mapped p fault front None some full is = tt
from_mapped p fault front (Some t) some full is = inr (full, more_there p.held front t some, is ∙ too_long_is p.input)

-- A file with one byte more than the limit allows is TooLong.
pub fill_full : (p : KnownPosition) (rest : Option InputRest) (front : List ℕ) (fault : Fault) → p.ended ≡ false →
    p.rest ≡ option_map (with_front front) rest → 0 < length front → p.offset + length p.held + 1 ≡ 2 ^ 62 →
    fault ≡ too_long_fault p.input → StopsFilling p fault
fill_full p rest front fault unended gave some full is =
    inr (subst (λ (o : Option InputRest). IfSome o (λ c. Halts p c fault))
    (sym (ahead_open p unended ∙ ap (option_map (λ c. with_front p.held (by_test p.end c))) gave))
    (from_mapped p fault front rest some full is))
