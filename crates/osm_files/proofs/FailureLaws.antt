-- The failures of inputs at their ends.
use Rattle.std.proofs.Common.{◌≡◌, Bool, true, false, Option, Some, None, refl}
use Rattle.osm_files.specs.declared.reason.Reason.{Reason}
use Rattle.osm_files.specs.declared.reason.Reason.TheVariants.{ReadFault, NoEnd}
use Rattle.osm_files.specs.EndRule.{failure_if}
use Rattle.osm_files.specs.Extent.{read_fault_if}

-- An extent fails only with an error, and only if it gave too few bytes.
pub failed_short : (short : Bool) (reason : Reason) → read_fault_if short ≡ Some reason → (short ≡ true) × (reason ≡ ReadFault)
failed_short true reason e = (refl, (let f : Some ReadFault ≡ Some reason = e in cc))
failed_short false reason e = absurd (let f : None ≡ Some reason = e in cc)

-- An extent that doesn't fail gave all of its bytes.
pub unfailed_long : (short : Bool) → read_fault_if short ≡ None → short ≡ false
unfailed_long true e = absurd (let f : Some ReadFault ≡ None = e in cc)
unfailed_long false e = refl

-- An input that fails isn't refused for a missing end.
pub failure_stays : (cut : Bool) (reason : Reason) → failure_if cut (Some reason) ≡ Some reason
failure_stays true reason = refl
failure_stays false reason = refl

-- An input that isn't refused at its end doesn't fail there, and its end isn't missing.
pub no_failure : (cut : Bool) (failure : Option Reason) → failure_if cut failure ≡ None → (cut ≡ false) × (failure ≡ None)
no_failure false failure e = (refl, e)
no_failure true None e = absurd (let f : Some NoEnd ≡ None = e in cc)
no_failure true (Some reason) e = absurd (let f : Some reason ≡ None = e in cc)

-- An input that doesn't fail for any reason ends well.
pub never_failed : (failure : Option Reason) → ((reason : Reason) → failure ≡ Some reason → ⊥) → failure ≡ None
never_failed None never = refl
never_failed (Some reason) never = absurd (never reason refl)
