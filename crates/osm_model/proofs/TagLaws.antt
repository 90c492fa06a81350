-- Tags that tie are equal, and the texts of tags.
use Rattle.std.proofs.Common.{arith, ◌≡◌, ◌↔◌, ℕ, zero, suc, ◌+◌, ◌<◌, length, slice_index_or, Bool, true, false, not, ◌||◌, ◌&&◌, List, []}
use Rattle.std.proofs.Common.{◌∷◌, refl, sym, ap, ◌∙◌, subst}
use Rattle.std.specs.declared.cmp.Ordering.{Ordering}
use Rattle.std.specs.declared.cmp.Ordering.TheVariants.{Less, Equal, Greater}
use Rattle.std.specs.Bool.{IsTrue}
use Rattle.std.proofs.lemmas.Bool.{false≢true}
use Rattle.std.specs.Ordering.{ordering_then, is_lt}
use Rattle.std.specs.List.{list_any, list_all, IsAllAdjacentAnswer}
use Rattle.std.specs.List.Sorted.{IsStrictlySortedBy}
use Rattle.std.specs.FinMap.{IsAntisymmetric}
use Rattle.std.proofs.Math.Bool.{and_assoc}
use Rattle.osm_model.specs.declared.tags.Tag.{Tag}
use Rattle.osm_model.specs.Tags.{tag_cmp, tag_cmp_total, normal_tags, texts_of_tags}
use Rattle.osm_model.specs.Sets.{from_list}
use Rattle.osm_model.proofs.SetLaws.{list_any-listed, to_list-from_list, strict-listed, strict_from_neighbours}
use Rattle.osm_model.proofs.TextLaws.{text_cmp-IsAntisymmetric}
use Rattle.osm_model.specs.declared.body.Body.{Body}
use Rattle.osm_model.specs.declared.body.Body.TheVariants.{Deleted, Node, Way, Relation}
use Rattle.osm_model.specs.Data.{tags_of, normal_body}

pub first_equal : (a b : Ordering) → ordering_then a b ≡ Equal → a ≡ Equal
first_equal Less b e = cc
first_equal Equal b e = refl
first_equal Greater b e = cc

pub second_equal : (a b : Ordering) → ordering_then a b ≡ Equal → b ≡ Equal
second_equal Less b e = cc
second_equal Equal b e = e
second_equal Greater b e = cc

-- Tags that tie are equal.
pub tag_cmp-IsAntisymmetric : IsAntisymmetric tag_cmp
tag_cmp-IsAntisymmetric x y e =
    let key = text_cmp-IsAntisymmetric _ _ (first_equal _ _ e) in
    let value = text_cmp-IsAntisymmetric _ _ (second_equal _ _ e) in
    λ i. record { key = key i; value = value i }

-- Tags in order, each once, are normal.
pub tags_again : (tags : List Tag) → IsStrictlySortedBy tag_cmp tags → normal_tags tags ≡ tags
tags_again tags sorted = to_list-from_list tag_cmp_total tag_cmp-IsAntisymmetric tags sorted

-- A body with such tags is normal.
pub body_again : (body : Body) → IsStrictlySortedBy tag_cmp (tags_of body) → normal_body body ≡ body
body_again (Deleted k) sorted = refl
body_again (Node lon lat tags) sorted = ap (Node lon lat) (tags_again tags sorted)
body_again (Way refs tags) sorted = ap (Way refs) (tags_again tags sorted)
body_again (Relation members tags) sorted = ap (Relation members) (tags_again tags sorted)

-- a test of all texts of tags, tag by tag
pub list_all-texts_of_tags : (p : List ℕ → Bool) (ts : List Tag) → list_all p (texts_of_tags ts) ≡ list_all (λ t. p t.key && p t.value) ts
list_all-texts_of_tags p [] = refl
list_all-texts_of_tags p (t ∷ ts) = ap (λ b. p t.key && (p t.value && b)) (list_all-texts_of_tags p ts)
    ∙ sym (and_assoc (p t.key) (p t.value) _)

not_both : (a b : Bool) → (a && not b) ≡ not (not a || b)
not_both true b = refl
not_both false b = refl

-- all items pass a test if none fails it
list_all-none : {X : Type 0} (p : X → Bool) (xs : List X) → list_all p xs ≡ not (list_any (λ x. not (p x)) xs)
list_all-none p [] = refl
list_all-none p (x ∷ xs) = ap (λ b. p x && b) (list_all-none p xs) ∙ not_both (p x) _

-- a test of all texts of tags gives the same result after the tags are sorted and repeats are dropped
pub list_all-normal : (p : List ℕ → Bool) (ts : List Tag) → list_all p (texts_of_tags (normal_tags ts)) ≡ list_all p (texts_of_tags ts)
list_all-normal p ts =
    list_all-texts_of_tags p (normal_tags ts) ∙ list_all-none _ (normal_tags ts)
    ∙ ap not (list_any-listed tag_cmp_total tag_cmp-IsAntisymmetric (λ t. not (p t.key && p t.value)) ts)
    ∙ sym (list_all-texts_of_tags p ts ∙ list_all-none _ ts)

-- in a list that ascends, each tag is below the next one
below_next : (ts : List Tag) → IsStrictlySortedBy tag_cmp ts → (k : ℕ) (d : Tag) → k + 1 < length ts →
    is_lt (tag_cmp (slice_index_or ts k d) (slice_index_or ts (k + 1) d)) ≡ true
unfolding IsStrictlySortedBy
below_next [] up k d low = absurd (omega arith)
below_next (t ∷ []) up k d low = absurd (omega arith)
below_next (t ∷ u ∷ ts) up zero d low = ap is_lt up.0.0
below_next (t ∷ u ∷ ts) up (suc k) d low = let next : suc k + 1 ≡ suc (k + 1) = omega arith in
    rw next (below_next (u ∷ ts) up.1 k d (omega arith))

-- a strictly ascending list has no two neighbours that don't ascend
descends : (ts : List Tag) → IsStrictlySortedBy tag_cmp ts → (k : ℕ) → k + 1 < length ts →
    ((d : Tag) → false ≡ is_lt (tag_cmp (slice_index_or ts k d) (slice_index_or ts (k + 1) d))) → ⊥
descends [] up k low h = absurd (omega arith)
descends (t ∷ ts) up k low h = false≢true (h t ∙ below_next (t ∷ ts) up k t low)

-- a test of each two neighbours shows whether the tags are the list of their set
pub normal_test : (b : Bool) (xs ts : List Tag) → xs ≡ ts → IsAllAdjacentAnswer (λ x y a. a ≡ is_lt (tag_cmp x y)) xs b →
    IsTrue b ↔ (normal_tags ts ≡ ts)
normal_test true xs ts e h = (
  λ _. to_list-from_list tag_cmp_total tag_cmp-IsAntisymmetric ts
      (subst (IsStrictlySortedBy tag_cmp) e (strict_from_neighbours tag_cmp_total xs h)),
  λ _. refl,
)
normal_test false xs ts e h = (
  λ holds. absurd (false≢true holds),
  λ same. absurd (descends xs (subst (IsStrictlySortedBy tag_cmp) (same ∙ sym e) (strict-listed (from_list {R = tag_cmp} ts))) h.0 h.1 h.2),
)

-- fewer than two tags are the list of their set
pub few_normal : (ts : List Tag) → length ts < 2 → normal_tags ts ≡ ts
few_normal ts few = (normal_test true ts ts refl (λ k d below. absurd (omega (arith, few, below)))).0 refl
