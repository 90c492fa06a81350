-- The least number of comparisons: after a version is met, after the games are played again, and at the end.
use Rattle.std.proofs.Common.{◌≡◌, ℕ, ◌+◌, ◌-◌, ◌^◌, ◌≤◌, min, Bool, true, false, cond, refl, subst, arith, Option, Some, None, IfSome}
use Rattle.osm_model.specs.Data.{VersionData}
use Rattle.osm_merge.specs.Union.{capped_count}
use Rattle.osm_merge.specs.declared.selection.Selection.{Selection}
use Rattle.osm_merge.specs.Pass.{passes_all}
use Rattle.std.specs.Bool.{OnTrue}
use Rattle.osm_merge.specs.declared.repeats.Tie.{Tie}
use Rattle.osm_merge.specs.declared.repeats.Repeats.{Repeats}
use Rattle.osm_merge.specs.Repeats.{repeats_after_taking, SavesComparison, one_if, comparison_count}
use Rattle.osm_merge.proofs.RepeatLaws.{known_then}
use Rattle.osm_merge.specs.Merged.{few_of}

-- ---- a version is met
-- `t` versions were taken before, `o` and `p` comparisons were saved, and the count of comparisons was `c0` and is `c1`.
least_more : (M t o c0 c1 : ℕ) → min ((t - 1) + o) M ≤ c0 → min (c0 + 1) M ≤ c1 → min (((t + 1) - 1) + o) M ≤ c1
least_more M t o c0 c1 a b = omega arith

least_first : (M t o c0 c1 : ℕ) → t ≡ 0 → min ((t - 1) + o) M ≤ c0 → c0 ≤ c1 → min (((t + 1) - 1) + o) M ≤ c1
least_first M t o c0 c1 h a d = omega arith

least_known : (M t o c0 c1 : ℕ) → min ((t - 1) + (o + 1)) M ≤ c0 → c0 ≤ c1 → min (((t + 1) - 1) + o) M ≤ c1
least_known M t o c0 c1 a d = omega arith

-- The least number of comparisons without those that were saved.
pub least_single : (M t o c : ℕ) → min ((t - 1) + o) M ≤ c → min (t - 1) M ≤ c
least_single M t o c a = omega arith

least_fewer : (M t o p c : ℕ) → min ((t - 1) + (o + p)) M ≤ c → min ((t - 1) + o) M ≤ c
least_fewer M t o p c a = omega arith

least_after : (last : Option VersionData) (t o p c0 c1 : ℕ) → capped_count ((t - 1) + (o + p)) ≤ c0 → (last ≡ None → t ≡ 0)
    → IfSome last (λ _. capped_count (c0 + 1) ≤ c1) → c0 ≤ c1 → capped_count (((t + 1) - 1) + o) ≤ c1
least_after None t o p c0 c1 a f b d = least_first (2 ^ 64 - 1) t o c0 c1 (f refl) (least_fewer (2 ^ 64 - 1) t o p c0 a) d
least_after (Some l) t o p c0 c1 a f b d = least_more (2 ^ 64 - 1) t o c0 c1 (least_fewer (2 ^ 64 - 1) t o p c0 a) b

-- The least number of comparisons after a version is compared with the pending one, or is a known repeat.
pub least_turn : (repeats : Repeats) (w : ℕ) (last : Option VersionData) (is_repeated : Bool) (t c0 c1 : ℕ)
    → capped_count ((t - 1) + comparison_count repeats) ≤ c0 → (last ≡ None → t ≡ 0) → OnTrue is_repeated (repeats.taken ≡ Some w)
    → (is_repeated ≡ false → IfSome last (λ _. capped_count (c0 + 1) ≤ c1)) → c0 ≤ c1 →
    capped_count (((t + 1) - 1) + one_if repeats.tie) ≤ c1
least_turn repeats w last is_repeated t c0 c1 a f on b d =
    elim is_repeated as (λ r. OnTrue r (repeats.taken ≡ Some w) → (r ≡ false → IfSome last (λ _. capped_count (c0 + 1) ≤ c1)) → capped_count
    (((t + 1) - 1) + one_if repeats.tie) ≤ c1) [
      | true ↦ λ on b. least_known (2 ^ 64 - 1) t (one_if repeats.tie) c0 c1
          (subst (λ (o : Option ℕ). capped_count ((t - 1) + (one_if repeats.tie + one_if o)) ≤ c0) on a) d
      | false ↦ λ on b. least_after last t (one_if repeats.tie) (one_if repeats.taken) c0 c1 a f (b refl) d
    ] on b

-- ---- the games are played again
least_ties : (M t q o p c : ℕ) → q + p ≡ o → min (t + o) M ≤ c → min ((t + p) + q) M ≤ c
least_ties M t q o p c e a = omega (arith, e)

least_sum : (M t q p c : ℕ) → min ((t + p) + q) M ≤ c → min (t + (q + p)) M ≤ c
least_sum M t q p c a = omega arith

-- The least number of comparisons after the games are played again.
pub least_next : (tie : Option Tie) (w : ℕ) (t c1 : ℕ) (tie2 : Option Tie) (c2 : ℕ) → capped_count (t + one_if tie) ≤ c1
    → SavesComparison (repeats_after_taking tie w).tie c1 tie2 c2 →
    capped_count (t + comparison_count (record { tie = tie2; taken = (repeats_after_taking tie w).taken })) ≤ c2
least_next tie w t c1 tie2 c2 a shown =
    let after = repeats_after_taking tie w in
    let taken : ℕ = one_if after.taken in
    least_sum (2 ^ 64 - 1) t (one_if tie2) taken c2
    (shown (t + taken) (least_ties (2 ^ 64 - 1) t (one_if after.tie) (one_if tie) taken c1 (known_then tie w) a))

-- ---- the counts
-- A count that stops at `M` grows by one like a count without an end that is cut to `M`.
pub capped_more : (M n r : ℕ) → r ≡ min n M → min (r + 1) M ≡ min (n + 1) M
capped_more M n r h = omega arith

-- The least number of comparisons of a merge holds if it holds for the selections that pass all versions.
pub few_least : (selection : Selection) (t c : ℕ) → (passes_all selection ≡ true → capped_count (t - 1) ≤ c) →
    capped_count (few_of selection t) ≤ c
few_least selection t c f =
    elim (passes_all selection) as (λ b. (b ≡ true → capped_count (t - 1) ≤ c) → capped_count (cond b (t - 1) 0) ≤ c) [
      | true ↦ λ f. f refl
      | false ↦ λ f. omega arith
    ] f
