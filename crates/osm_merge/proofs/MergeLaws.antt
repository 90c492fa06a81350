-- One turn of the merge: the least head is taken, and met if it is new and passes.
use Rattle.std.proofs.Common.{◌≡◌, ◌≢◌, ◌⊎◌, ◌&&◌, ℕ, zero, suc, ◌+◌, ◌<◌, Bool, true, false, ◌||◌, cond, List, [], ◌∷◌, ◌++◌, length, refl}
use Rattle.std.proofs.Common.{sym, ap, ◌∙◌, subst, arith, Option, Some, None, append_assoc, inl, inr, length-append, get_or-set_other}
use Rattle.std.proofs.Common.{get_or-set_same}
use Rattle.std.proofs.Math.ListN.{set, length-set}
use Rattle.std.specs.Ordering.{eq_by_cmp, is_gt}
use Rattle.std.specs.Cmp.{upto, tied_itself}
use Rattle.std.specs.List.{list_any}
use Rattle.std.specs.List.Sorted.{IsStrictlySortedBy}
use Rattle.std.proofs.lemmas.List.Folds.{list_any-append}
use Rattle.std.proofs.lemmas.Bool.{false≢true, cases_eq, and_parts, and_cases, and_right}
use Rattle.std.proofs.Math.Bool.{or-true}
use Rattle.osm_model.specs.Data.{VersionData}
use Rattle.osm_model.specs.Order.{version_cmp, version_cmp_total}
use Rattle.osm_model.proofs.SetLaws.{is_less}
use Rattle.osm_files.specs.Stream.{end_whole}
use Rattle.osm_merge.specs.ToCome.{VersionsToCome, rest, head, after_head, rest_at}
use Rattle.osm_merge.specs.Members.{first}
use Rattle.osm_merge.specs.Union.{versions_of}
use Rattle.osm_merge.specs.declared.selection.Selection.{Selection}
use Rattle.osm_merge.specs.Pass.{is_new}
use Rattle.osm_merge.specs.Pass.{passes, is_met, pending_next, met_next}
use Rattle.osm_merge.specs.Tree.{IsHeadUpTo}
use Rattle.osm_merge.proofs.OrderLaws.{same_unless_greater, equal_versions}
use Rattle.osm_merge.proofs.AscendingLaws.{one_ascends, rest_ascends, floor_first, floor_rest, ascends_on, among}
use Rattle.osm_merge.proofs.State.{Ends, Floor, IsUnder, IsMerging}

-- ---- the members of the lists
or_swap : (a b c : Bool) → (a || (b || c)) ≡ (b || (a || c))
or_swap true true c = refl
or_swap true false c = refl
or_swap false b c = refl

-- the sources without the head of one of them
abbrev pub without_head : List VersionsToCome → ℕ → List VersionsToCome
without_head states w = set states w (after_head (rest_at states w))

-- A test applies to the head of one of the sources, or to the other versions to come.
pub any_taken : (p : VersionData → Bool) (states : List VersionsToCome) (w : ℕ) (v : VersionData) (vs : List VersionData) →
    (rest_at states w).list ≡ v ∷ vs → list_any p (versions_of states) ≡ (p v || list_any p (versions_of (without_head states w)))
any_taken p [] w v vs e = absurd cc
any_taken p (c ∷ cs) zero v vs e = ap (λ t. list_any p (t ++ versions_of cs)) e
    ∙ sym (ap (λ t. p v || list_any p (rest t ++ versions_of cs)) e)
any_taken p (c ∷ cs) (suc w) v vs e =
    list_any-append p c.list (versions_of cs)
    ∙ ap (λ t. list_any p c.list || t) (any_taken p cs w v vs e)
    ∙ or_swap (list_any p c.list) (p v) (list_any p (versions_of (without_head cs w)))
    ∙ sym (ap (λ t. p v || t) (list_any-append p c.list (versions_of (without_head cs w))))

length_taken : (states : List VersionsToCome) (w : ℕ) (v : VersionData) (vs : List VersionData) → (rest_at states w).list ≡ v ∷ vs →
    length (versions_of states) ≡ length (versions_of (without_head states w)) + 1
length_taken [] w v vs e = absurd cc
length_taken (c ∷ cs) zero v vs e =
    let a : length (c.list ++ versions_of cs) ≡ length (v ∷ vs ++ versions_of cs) = ap (λ t. length (t ++ versions_of cs)) e in
    let b : length (rest c.list ++ versions_of cs) ≡ length (vs ++ versions_of cs) = ap (λ t. length (rest t ++ versions_of cs)) e in
    omega (arith, a, b)
length_taken (c ∷ cs) (suc w) v vs e =
    let a = length_taken cs w v vs e in
    let b = length-append c.list (versions_of cs) in
    let d = length-append c.list (versions_of (without_head cs w)) in
    omega (arith, a, b, d)

-- A list with a first item is that item and the rest.
pub split_first : (v : VersionData) (vs : List VersionData) → first vs ≡ Some v → vs ≡ v ∷ rest vs
split_first v [] h = absurd cc
split_first v (w ∷ vs) h = let e : w ≡ v = cc in ap (λ t. t ∷ vs) e

-- ---- the versions met, with one more
floor_of : (v : VersionData) (vs : List VersionData) → IsHeadUpTo (Some v) (first vs) → IsStrictlySortedBy version_cmp vs →
    Floor (Some v) vs
floor_of v [] h k = tt
floor_of v (w ∷ vs) h k = floor_first version_cmp_total v w vs h k

-- The floor of a list is a floor of its first version.
pub floor_one : (last : Option VersionData) (v : VersionData) (vs : List VersionData) → Floor last (v ∷ vs) → Floor last (v ∷ [])
floor_one None v vs h = tt
floor_one (Some l) v vs h = (h.0, tt)

-- a version that is not new is the pending one
old_is_last : (last : Option VersionData) (v : VersionData) → Floor last (v ∷ []) → is_new last v ≡ false → last ≡ Some v
old_is_last None v f h = absurd (false≢true (sym h))
old_is_last (Some l) v f h = ap Some (same_unless_greater l v f.0 h)

-- A version that is greater than the last one extends a strictly ascending list.
pub ascends_with : (last : Option VersionData) (v : VersionData) (put : List VersionData) → Ends last put → is_new last v ≡ true →
    IsStrictlySortedBy version_cmp put → IsStrictlySortedBy version_cmp (put ++ v ∷ [])
ascends_with None v put e is h = subst (λ t. IsStrictlySortedBy version_cmp (t ++ v ∷ [])) (sym e) (one_ascends version_cmp v)
ascends_with (Some l) v put e is h =
    subst (λ t. IsStrictlySortedBy version_cmp (t ++ v ∷ [])) (sym e.1)
    (ascends_on version_cmp_total (e.0) l (v ∷ []) (subst (IsStrictlySortedBy version_cmp) e.1 h) (one_ascends version_cmp v)
    (is_less (version_cmp l v) is, tt))

-- a version that is met is greater than the pending one
pub met_is_new : (selection : Selection) (pending : Option VersionData) (v : VersionData) → is_met selection pending v ≡ true →
    is_new pending v ≡ true
met_is_new selection pending v is = (and_parts (is_new pending v) (passes selection v) is).0

-- The versions that were met still ascend strictly with the next one.
pub ascends_next : (selection : Selection) (pending : Option VersionData) (v : VersionData) (met : List VersionData) → Ends pending met →
    IsStrictlySortedBy version_cmp met → IsStrictlySortedBy version_cmp (met_next selection pending v met)
ascends_next selection pending v met e h =
    elim (is_met selection pending v) as (λ b. is_met selection pending v ≡ b
    → IsStrictlySortedBy version_cmp (cond b (met ++ v ∷ []) met)) [
      | true ↦ λ is. ascends_with pending v met e (met_is_new selection pending v is) h
      | false ↦ λ is. h
    ] refl

-- after a version is taken, the pending version is still the last of those met
pub ends_next : (selection : Selection) (pending : Option VersionData) (v : VersionData) (met : List VersionData) → Ends pending met →
    Ends (pending_next selection pending v) (met_next selection pending v met)
ends_next selection pending v met e =
    elim (is_met selection pending v) as (λ b. Ends (cond b (Some v) pending) (cond b (met ++ v ∷ []) met)) [
      | true ↦ (met, refl)
      | false ↦ e
    ]

under_floor : (pending top : Option VersionData) (v : VersionData) → IsUnder pending top → Floor top (v ∷ []) → Floor pending (v ∷ [])
under_floor None top v u f = tt
under_floor (Some h) None v u f = absurd u
under_floor (Some h) (Some t) v u f = (upto version_cmp_total h t v u f.0, tt)

under_it : (pending : Option VersionData) (v : VersionData) → Floor pending (v ∷ []) → IsUnder pending (Some v)
under_it None v f = tt
under_it (Some h) v f = f.0

under_next : (selection : Selection) (pending : Option VersionData) (v : VersionData) → Floor pending (v ∷ []) →
    IsUnder (pending_next selection pending v) (Some v)
under_next selection pending v f =
    elim (is_met selection pending v) as (λ b. IsUnder (cond b (Some v) pending) (Some v)) [
      | true ↦ ap is_gt (tied_itself version_cmp_total v)
      | false ↦ under_it pending v f
    ]

reached_next : (selection : Selection) (pending : Option VersionData) (v : VersionData) → Floor pending (v ∷ []) → passes selection v ≡ true
    →
    pending_next selection pending v ≡ Some v
reached_next selection pending v f pass =
    elim (is_met selection pending v) as (λ b. is_met selection pending v ≡ b → cond b (Some v) pending ≡ Some v) [
      | true ↦ λ is. refl
      | false ↦ λ is. elim (and_cases (is_new pending v) (passes selection v) is) [
        | inl old ↦ old_is_last pending v f old
        | inr out ↦ absurd (false≢true (sym out ∙ pass))
      ]
    ] refl

join_new : (a e c p : Bool) → (e ≡ true → p ≡ true) → (a || ((e || c) && p)) ≡ ((a || (e || false)) || (c && p))
join_new true e c p h = refl
join_new false true c p h = h refl
join_new false false c p h = refl

join_old : (a e c p : Bool) → (e ≡ true → (a ≡ true) ⊎ (p ≡ false)) → (a || ((e || c) && p)) ≡ (a || (c && p))
join_old true e c p h = refl
join_old false true c p h =
    elim (h refl) [
      | inl here ↦ absurd (false≢true here)
      | inr out ↦ out ∙ sym (and_right c p out)
    ]
join_old false false c p h = refl

pub among_end : (q v : VersionData) (front : List VersionData) → eq_by_cmp version_cmp q v ≡ true → among q (front ++ v ∷ []) ≡ true
among_end q v [] h = λ i. h i || false
among_end q v (w ∷ ws) h = ap (λ t. eq_by_cmp version_cmp q w || t) (among_end q v ws h) ∙ or-true (eq_by_cmp version_cmp q w)

-- A version that ties with the last version of a list is among the versions of the list.
pub among_ends : (q v : VersionData) (put : List VersionData) → Ends (Some v) put → eq_by_cmp version_cmp q v ≡ true → among q put ≡ true
among_ends q v put e h = ap (among q) e.1 ∙ among_end q v (e.0) h

same_next : (selection : Selection) (pending : Option VersionData) (v : VersionData) (met : List VersionData) (q : VersionData)
    (more : Bool) →
    Ends pending met → Floor pending (v ∷ []) → (among q met || ((eq_by_cmp version_cmp q v || more) && passes selection q))
    ≡ (among q (met_next selection pending v met) || (more && passes selection q))
same_next selection pending v met q more e f =
    elim (is_met selection pending v) as (λ b. is_met selection pending v ≡ b →
    (among q met || ((eq_by_cmp version_cmp q v || more) && passes selection q))
    ≡ (among q (cond b (met ++ v ∷ []) met) || (more && passes selection q))) [
      | true ↦ λ is.
          join_new (among q met) (eq_by_cmp version_cmp q v) more (passes selection q)
          (λ tied. ap (passes selection) (equal_versions q v tied) ∙ (and_parts (is_new pending v) (passes selection v) is).1)
          ∙ ap (λ t. t || (more && passes selection q)) (sym (list_any-append (eq_by_cmp version_cmp q) met (v ∷ [])))
      | false ↦ λ is.
          join_old (among q met) (eq_by_cmp version_cmp q v) more (passes selection q)
          (λ tied. elim (and_cases (is_new pending v) (passes selection v) is) [
            | inl old ↦ inl (among_ends q v met (subst (λ l. Ends l met) (old_is_last pending v f old) e) tied)
            | inr out ↦ inr (ap (passes selection) (equal_versions q v tied) ∙ out)
          ])
    ] refl

-- ---- the turn
-- After the least head is taken, the merge is one version further.
pub merge_more : (selection : Selection) (all states : List VersionsToCome) (met : List VersionData) (pending top : Option VersionData)
    (taken w : ℕ) (v : VersionData)
    → IsMerging selection all states met pending top taken → w < length states → head (rest_at states w) ≡ Some v
    → ((i : ℕ) → IsHeadUpTo (Some v) (head (rest_at states i)))
    → IsMerging selection all (without_head states w) (met_next selection pending v met) (pending_next selection pending v) (Some v)
    (taken + 1)
merge_more selection all states met pending top taken w v m less is least =
    let here : VersionsToCome = rest_at states w in
    let e : here.list ≡ v ∷ rest here.list = split_first v here.list is in
    let f : Floor pending (v ∷ []) = under_floor pending top v m.under (floor_one top v (rest here.list) (subst (Floor top) e (m.floor w)))
    in
    let same_place : rest_at (without_head states w) w ≡ after_head here = get_or-set_same states w (after_head here) end_whole less in
    let other : (i : ℕ) → i ≢ w → rest_at (without_head states w) i ≡ rest_at states i =
    λ i n. get_or-set_other states w i (after_head here) end_whole n in
    record {
      size = length-set states w (after_head here) ∙ m.size;
      ascends = ascends_next selection pending v met m.ends m.ascends;
      queues = λ i. elim (cases_eq i w) [
        | inl at_w ↦ subst (λ j. IsStrictlySortedBy version_cmp (rest_at (without_head states w) j).list) (sym at_w)
            (subst (λ s. IsStrictlySortedBy version_cmp s.list) (sym same_place)
            (rest_ascends version_cmp v (rest here.list) (subst (IsStrictlySortedBy version_cmp) e (m.queues w))))
        | inr n ↦ subst (λ s. IsStrictlySortedBy version_cmp s.list) (sym (other i n)) (m.queues i)
      ];
      came = λ i. elim (cases_eq i w) [
        | inl at_w ↦ (
          (m.came w).0 ++ v ∷ [],
          ap (λ j. (rest_at all j).list) at_w ∙ (m.came w).1 ∙ ap (λ t. (m.came w).0 ++ t) e
              ∙ sym (append_assoc ((m.came w).0) (v ∷ []) (rest here.list))
              ∙ sym (ap (λ s. ((m.came w).0 ++ v ∷ []) ++ s.list) same_place)
              ∙ sym (ap (λ j. ((m.came w).0 ++ v ∷ []) ++ (rest_at (without_head states w) j).list) at_w),
        )
        | inr n ↦ ((m.came i).0, (m.came i).1 ∙ sym (ap (λ s. (m.came i).0 ++ s.list) (other i n)))
      ];
      refusals = λ i. elim (cases_eq i w) [
        | inl at_w ↦ m.refusals i ∙ ap (λ j. (rest_at states j).refusal) at_w ∙ sym (ap (λ s. s.refusal) same_place)
            ∙ sym (ap (λ j. (rest_at (without_head states w) j).refusal) at_w)
        | inr n ↦ m.refusals i ∙ sym (ap (λ s. s.refusal) (other i n))
      ];
      same = λ q. m.same q
          ∙ ap (λ t. among q met || (t && passes selection q)) (any_taken (eq_by_cmp version_cmp q) states w v (rest here.list) e)
          ∙ same_next selection pending v met q (among q (versions_of (without_head states w))) m.ends f;
      ends = ends_next selection pending v met m.ends;
      under = under_next selection pending v f;
      reached = reached_next selection pending v f;
      floor = λ i.
          elim (cases_eq i w) [
            | inl at_w ↦ subst (λ j. Floor (Some v) (rest_at (without_head states w) j).list) (sym at_w)
                (subst (λ s. Floor (Some v) s.list) (sym same_place)
                (floor_rest version_cmp_total v (rest here.list) (subst (IsStrictlySortedBy version_cmp) e (m.queues w))))
            | inr n ↦ subst (λ s. Floor (Some v) s.list) (sym (other i n)) (floor_of v (rest_at states i).list (least i) (m.queues i))
          ];
      count = omega (arith, m.count, length_taken states w v (rest here.list) e);
    }
