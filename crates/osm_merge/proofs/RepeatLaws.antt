-- Known equal heads, from turn to turn.
use Rattle.std.proofs.Common.{◌≡◌, ℕ, ◌==◌, true, false, cond, ◌&&◌, List, get_or, refl, sym, ap, ◌∙◌, subst, Option, Some, None}
use Rattle.std.proofs.Common.{get_or-set_other}
use Rattle.std.proofs.Math.ListN.{set}
use Rattle.std.specs.Ordering.{is_lt}
use Rattle.std.specs.Cmp.{tied_itself}
use Rattle.std.proofs.lemmas.Bool.{eqb-true, eqb-false}
use Rattle.osm_model.specs.Data.{VersionData}
use Rattle.osm_model.specs.Order.{version_cmp_total}
use Rattle.osm_merge.specs.declared.selection.Selection.{Selection}
use Rattle.osm_merge.specs.declared.repeats.Tie.{Tie}
use Rattle.osm_merge.specs.declared.repeats.Repeats.{Repeats}
use Rattle.osm_merge.specs.Pass.{passes, is_met, pending_next}
use Rattle.osm_merge.specs.Repeats.{other_index, repeats_after, repeats_after_taking, IsTied, IsPast, IsPastAt, AreTrueRepeats, one_if}
use Rattle.osm_merge.specs.Repeats.{comparison_count}

-- a version is not met after itself
pub past_itself : (selection : Selection) (pending : Option VersionData) (v : VersionData) →
    is_met selection (pending_next selection pending v) v ≡ false
past_itself selection pending v =
    elim (is_met selection pending v) as (λ b. is_met selection pending v ≡ b → is_met selection (cond b (Some v) pending) v ≡ false) [
      | true ↦ λ h. ap (λ r. is_lt r && passes selection v) (tied_itself version_cmp_total v)
      | false ↦ λ h. h
    ] refl

-- no equal heads are known at first
pub nothing_known : (selection : Selection) (heads : List (Option VersionData)) →
    AreTrueRepeats selection None heads (record { tie = None; taken = None })
nothing_known selection heads = record { tied = tt; past = tt }

-- a head that is known to repeat the version taken last is not met
pub known_past : {selection : Selection} {pending : Option VersionData} {heads : List (Option VersionData)} {repeats : Repeats} (index : ℕ)
    (v : VersionData) → AreTrueRepeats selection pending heads repeats → repeats.taken ≡ Some index → get_or heads index None ≡ Some v
    → is_met selection pending v ≡ false
known_past {selection} {pending} {heads} index v known is at =
    subst (IsPast selection pending) at (subst (IsPastAt selection pending heads) is known.past)

known_with : (tie : Tie) (o : Option ℕ) → comparison_count (repeats_after o tie) ≡ 1
known_with tie None = refl
known_with tie (Some other) = refl

-- after a head was taken, the known equal heads count as many comparisons as the tie before
pub known_then : (tie : Option Tie) (index : ℕ) → comparison_count (repeats_after_taking tie index) ≡ one_if tie
known_then None index = refl
known_then (Some tie) index = known_with tie (other_index tie index)

-- the head of the source `w` is taken
module _ (selection : Selection) (pending : Option VersionData) (heads : List (Option VersionData)) (w : ℕ) (v : VersionData)
    (given : Option VersionData) (at_w : get_or heads w None ≡ Some v) where
  abbrev heads2 : List (Option VersionData)
  heads2 = set heads w given

  -- the known equal heads once the head was taken
  abbrev IsKnownNow : Repeats → Type 0
  IsKnownNow repeats = IsTied heads2 repeats.tie × IsPastAt selection (pending_next selection pending v) heads2 repeats.taken

  stays_at : (index : ℕ) → (index == w) ≡ false → get_or heads2 index None ≡ get_or heads index None
  stays_at index h = get_or-set_other heads w index given None (eqb-false index w h)

  past_at : (index : ℕ) → (index == w) ≡ false → get_or heads index None ≡ get_or heads w None →
      IsPastAt selection (pending_next selection pending v) heads2 (Some index)
  past_at index h same = subst (IsPast selection (pending_next selection pending v)) (sym (stays_at index h ∙ same ∙ at_w))
      (past_itself selection pending v)

  -- The known equal heads are still equal after a head was taken.
  pub known_after : (tie : Option Tie) → IsTied heads tie → IsKnownNow (repeats_after_taking tie w)
  known_after None tied = (tt, tt)
  known_after (Some tie) tied =
      elim (tie.one == w) as (λ b. (tie.one == w) ≡ b →
      IsKnownNow (repeats_after (cond b (cond (tie.other == w) None (Some tie.other)) (cond (tie.other == w) (Some tie.one) None)) tie)) [
        | true ↦ λ h.
            let one_is : tie.one ≡ w = eqb-true tie.one w h in
            elim (tie.other == w) as (λ b. (tie.other == w) ≡ b → IsKnownNow (repeats_after (cond b None (Some tie.other)) tie)) [
              | true ↦ λ k. (ap (λ i. get_or heads2 i None) (one_is ∙ sym (eqb-true tie.other w k)), tt)
              | false ↦ λ k. (tt, past_at tie.other k (sym tied ∙ ap (λ i. get_or heads i None) one_is))
            ] refl
        | false ↦ λ h.
            elim (tie.other == w) as (λ b. (tie.other == w) ≡ b → IsKnownNow (repeats_after (cond b (Some tie.one) None) tie)) [
              | true ↦ λ k. (tt, past_at tie.one h (tied ∙ ap (λ i. get_or heads i None) (eqb-true tie.other w k)))
              | false ↦ λ k. (stays_at tie.one h ∙ tied ∙ sym (stays_at tie.other k), tt)
            ] refl
      ] refl
