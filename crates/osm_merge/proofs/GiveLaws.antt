-- The lists of rests that sources can give: before and after a step of one source, and before the first version was asked.
use Rattle.std.proofs.Common.{◌≡◌, ℕ, zero, suc, ◌<◌, List, [], ◌∷◌, map, length, get_or, refl, sym, ap, subst, arith, Option, Some}
use Rattle.std.proofs.Math.ListN.{set}
use Rattle.osm_model.specs.Data.{VersionData}
use Rattle.osm_model.specs.Order.{version_cmp}
use Rattle.osm_files.specs.Input.{Explained}
use Rattle.osm_files.specs.Source.{Ascends}
use Rattle.osm_merge.specs.ToCome.{VersionsToCome, AllAscend, AreHeadsOf}
use Rattle.osm_merge.specs.Giving.{AllGive, SomeInputsGive, SomePendingGive}
use Rattle.osm_merge.proofs.AscendingLaws.{nothing_ascends}

-- a value that was replaced is set again
pub set_again : {C : Type 0} (xs : List C) (i : ℕ) (b d : C) → set (set xs i b) i (get_or xs i d) ≡ xs
set_again [] i b d = refl
set_again (x ∷ xs) zero b d = refl
set_again (x ∷ xs) (suc i) b d = ap (λ t. x ∷ t) (set_again xs i b d)

module _ {S C : Type 0} (can : S → C → Type 0) where
  -- A list of rests has one rest for each source.
  pub give_size : (sources : List S) (all : List C) → AllGive can sources all → length all ≡ length sources
  give_size [] [] g = refl
  give_size [] (c ∷ all) g = absurd g
  give_size (s ∷ sources) [] g = absurd g
  give_size (s ∷ sources) (c ∷ all) g = ap suc (give_size sources all g.1)

  -- if each source can give some rest, the sources can give some list of rests
  pub give_one : (one : S → C) → ((s : S) → can s (one s)) → (sources : List S) → AllGive can sources (map one sources)
  give_one one h [] = tt
  give_one one h (s ∷ sources) = (h s, give_one one h sources)

  -- each list of rests that is possible after a step of one source comes from one that was possible before the step
  pub give_back : (step : C → C → Type 0) (sources : List S) (i : ℕ) (new d : S) (e : C) (later : List C) → i < length sources →
      Explained (can (get_or sources i d)) (can new) step → AllGive can (set sources i new) later
      → (before : C) × AllGive can sources (set later i before) × step before (get_or later i e)
  give_back step [] i new d e later low x g = absurd (omega arith)
  give_back step (s ∷ sources) zero new d e [] low x g = absurd g
  give_back step (s ∷ sources) zero new d e (c ∷ later) low x g =
      let p = x c g.0 in
      (p.0, (p.1, g.1), p.2)
  give_back step (s ∷ sources) (suc i) new d e [] low x g = absurd g
  give_back step (s ∷ sources) (suc i) new d e (c ∷ later) low x g =
      let p = give_back step sources i new d e later (omega arith) x g.1 in
      (p.0, (g.0, p.1), p.2)

give_ascend : {S : Type 0} (can : S → VersionsToCome → Type 0) → ((s : S) (c : VersionsToCome) → can s c → Ascends c)
    → (sources : List S) (all : List VersionsToCome) → AllGive can sources all → AllAscend all
give_ascend can h [] [] g i = nothing_ascends version_cmp
give_ascend can h [] (c ∷ cs) g i = absurd g
give_ascend can h (s ∷ sources) [] g i = absurd g
give_ascend can h (s ∷ sources) (c ∷ cs) g zero = h s c g.0
give_ascend can h (s ∷ sources) (c ∷ cs) g (suc i) = give_ascend can h sources cs g.1 i

-- A property of some rests that the sources can give after each was asked once holds for some rests that they could give
-- before.
pub from_first : {S : Type 0} (can : S → VersionsToCome → Type 0) → ((s : S) (c : VersionsToCome) → can s c → Ascends c)
    → (sources first asked : List S) (heads0 heads : List (Option VersionData)) (P : List VersionsToCome → Type 0) → first ≡ sources
    → heads ≡ heads0
    → Explained (AllGive can first) (AllGive can asked) (λ all later. AreHeadsOf all heads0 (map Some later)) →
    SomePendingGive can asked heads P
    → SomeInputsGive can sources P
from_first can ascends sources first asked heads0 heads P same is spelled h =
    let x = spelled h.0 h.1 in
    let g = subst (λ (ss : List _). AllGive can ss x.0) same x.1 in (
      x.0,
      g,
      h.2 x.0 (give_ascend can ascends sources x.0 g)
          (subst (λ (hs : List (Option VersionData)). AreHeadsOf x.0 hs (map Some h.0)) (sym is) x.2),
    )
