-- The heads of the sources and the rests after them: the least head, and the heads after one was taken.
use Rattle.std.proofs.Common.{◌≡◌, ℕ, zero, suc, ◌<◌, ◌≤◌, List, [], ◌∷◌, map, length, get_or, refl, sym, ap, ◌∙◌, subst, Option, Some}
use Rattle.std.proofs.Common.{None, Ok, inl, inr, get_or-set_other, get_or-set_same}
use Rattle.std.proofs.Math.ListN.{set, length-set}
use Rattle.std.proofs.lemmas.Bool.{cases_eq, cases_lt}
use Rattle.std.proofs.lemmas.List.{get_or_past, map-set, length-map}
use Rattle.osm_model.specs.Data.{VersionData}
use Rattle.osm_files.specs.Source.{SourceStep}
use Rattle.osm_files.specs.Stream.{end_whole}
use Rattle.osm_merge.specs.ToCome.{VersionsToCome, head, after_head, rest_at, AreHeadsOf}
use Rattle.osm_merge.specs.Tree.{IsHeadUpTo, IsTree}
use Rattle.osm_merge.proofs.TreeLaws.{winner_is_least}
use Rattle.osm_merge.proofs.Asking.{known_gives, known_at, map_set_some}
use Rattle.osm_merge.proofs.MergeLaws.{without_head}

at_map : (states : List VersionsToCome) (i : ℕ) → get_or (map head states) i None ≡ head (rest_at states i)
at_map [] i = refl
at_map (c ∷ cs) zero = refl
at_map (c ∷ cs) (suc i) = at_map cs i

-- The head of the source `i` is the first version of its rest.
pub head_at : (states : List VersionsToCome) (heads : List (Option VersionData)) (i : ℕ) → heads ≡ map head states
    → get_or heads i None ≡ head (rest_at states i)
head_at states heads i e = ap (λ h. get_or h i None) e ∙ at_map states i

-- There are as many heads as rests.
pub length_heads : (states : List VersionsToCome) (heads : List (Option VersionData)) → heads ≡ map head states
    → length heads ≡ length states
length_heads states heads e = ap length e ∙ length-map states head

-- The leader's head is not greater than the head of any source.
pub least_head : (states : List VersionsToCome) (heads : List (Option VersionData)) (nodes : List ℕ) (w : ℕ) (x : Option VersionData)
    → heads ≡ map head states → IsTree heads nodes 1 0 → w ≡ get_or nodes 1 0 → get_or heads w None ≡ x → (i : ℕ)
    → IsHeadUpTo x (head (rest_at states i))
least_head states heads nodes w x e t is at_w i =
    elim (cases_lt i (length heads)) [
      | inl less ↦
          subst (λ u. IsHeadUpTo u (head (rest_at states i))) (ap (λ q. get_or heads q None) (sym is) ∙ at_w)
          (subst (λ u. IsHeadUpTo (get_or heads (get_or nodes 1 0) None) u) (head_at states heads i e)
          (winner_is_least heads nodes t i less))
      | inr more ↦ subst (λ c. IsHeadUpTo x (head c))
          (sym (get_or_past states i end_whole (subst (λ n. n ≤ i) (length_heads states heads e) more))) tt
    ]

-- The rest after the head of the source `w`.
pub after_at : (states : List VersionsToCome) (w : ℕ) → rest_at (map after_head states) w ≡ after_head (rest_at states w)
after_at [] w = refl
after_at (c ∷ cs) zero = refl
after_at (c ∷ cs) (suc w) = after_at cs w

-- After a head is taken, the next version of its source is the new head.
pub heads_more : (states : List VersionsToCome) (heads : List (Option VersionData)) (shown : List (Option VersionsToCome)) (w : ℕ)
    (given : Option VersionData) (after : Option VersionsToCome)
    → AreHeadsOf states heads shown → w < length heads → w < length shown → SourceStep (get_or shown w None) (Ok given) after
    → AreHeadsOf (without_head states w) (set heads w given) (set shown w after)
heads_more states heads shown w given after s inside low step =
    let here : VersionsToCome = rest_at states w in
    let less : w < length states = subst (λ n. w < n) (length_heads states heads s.heads_are) inside in
    let determines : get_or shown w None ≡ Some (after_head here) =
    known_at shown (map after_head states) w s.rests_known low ∙ ap Some (after_at states w) in
    let t = known_gives (after_head here) given after (subst (λ o. SourceStep o (Ok given) after) determines step) in
    let same_place : rest_at (without_head states w) w ≡ after_head here = get_or-set_same states w (after_head here) end_whole less in
    record {
      heads_are = (λ i. set (s.heads_are i) w (t.0 i)) ∙ sym (map-set head states w (after_head here));
      rests_known =
          (λ i. set (s.rests_known i) w (t.1 i)) ∙ map_set_some (map after_head states) w (after_head (after_head here))
          ∙ ap (map Some) (sym (map-set after_head states w (after_head here)));
      settled = λ i near none. elim (cases_eq i w) [
        | inl is ↦ ap (λ j. (rest_at (without_head states w) j).refusal) is ∙ ap (λ c. c.refusal) same_place
            ∙ t.2 (t.0 ∙ ap head (sym same_place) ∙ ap (λ j. head (rest_at (without_head states w) j)) (sym is) ∙ none)
        | inr n ↦ (
            let other : rest_at (without_head states w) i ≡ rest_at states i = get_or-set_other states w i (after_head here) end_whole n in
            ap (λ c. c.refusal) other
            ∙ s.settled i (subst (λ m. i < m) (length-set states w (after_head here)) near) (ap head (sym other) ∙ none))
      ];
    }
