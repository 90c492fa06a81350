-- The tally of clashes counts the keys with a visible and a deleted version.
use Rattle.std.proofs.Common.{◌≡◌, ℕ, ◌+◌, ◌<◌, Bool, true, false, not, ◌&&◌, ◌||◌, cond, List, [], ◌∷◌, ◌++◌, map, length, refl, sym, ap}
use Rattle.std.proofs.Common.{◌∙◌, subst, arith, Option, Some, None, length-append}
use Rattle.std.proofs.lemmas.Bool.{false≢true}
use Rattle.std.proofs.lemmas.List.Folds.{list_any-append}
use Rattle.std.proofs.Math.Bool.{or-false}
use Rattle.std.specs.declared.cmp.Ordering.{Ordering}
use Rattle.std.specs.declared.cmp.Ordering.TheVariants.{Less, Equal, Greater}
use Rattle.std.specs.Cmp.{tied_itself, Equal-is}
use Rattle.std.specs.Ordering.{eq_by_cmp, is_eq, is_gt, ordering_reverse}
use Rattle.std.specs.List.{list_any, filter, AllByRecursion}
use Rattle.std.specs.List.Sorted.{IsStrictlySortedBy}
use Rattle.osm_model.specs.declared.object.Key.{Key}
use Rattle.osm_model.specs.Data.{VersionData}
use Rattle.osm_model.specs.Order.{key_of, key_order, key_order_total, version_cmp_total}
use Rattle.osm_model.specs.Sets.{to_list, from_list, contains}
use Rattle.osm_model.specs.VersionSet.{VersionSet}
use Rattle.osm_model.proofs.SetLaws.{same_set, contains-from_list, to_list-from_list, list_any-listed}
use Rattle.osm_model.proofs.VersionLaws.{version_cmp-IsAntisymmetric}
use Rattle.osm_files.proofs.GroupLaws.{all_append}
use Rattle.osm_merge.specs.declared.clash_tally.ClashTally.{ClashTally}
use Rattle.osm_merge.specs.Clashes.{is_deletion, deletions, keys_of, clashes_of, clash_count}
use Rattle.osm_merge.specs.ClashTally.{no_clashes, is_at, begin_key, at_key, begins_clash, with_version, tally_after}
use Rattle.osm_merge.specs.Members.{retain}
use Rattle.osm_merge.specs.Selected.{is_visible, visible}
use Rattle.osm_merge.specs.ToCome.{VersionsToCome, rest, head, rest_at}
use Rattle.osm_merge.specs.Union.{versions_of, union_given, capped_count}
use Rattle.osm_merge.proofs.AscendingLaws.{one_ascends}
use Rattle.osm_merge.proofs.KeyLaws.{key_order-IsAntisymmetric, key_rises}
use Rattle.osm_merge.proofs.MergeLaws.{without_head, split_first, any_taken, floor_one}
use Rattle.osm_merge.proofs.SnapLaws.{any_filter, contains-retain}
use Rattle.osm_merge.proofs.State.{Floor}
use Rattle.osm_merge.proofs.UnionLaws.{none_to_come}

-- ---- the tally of a list of versions
-- a version of a list has a key and passes a test
abbrev pub has : (VersionData → Bool) → List VersionData → Key → Bool
has p versions key = list_any (λ v. eq_by_cmp key_order key (key_of v) && p v) versions

-- a count is the number of clashes in a list of versions
pub record CountsClashes (count : ℕ) (taken : List VersionData) : Type 0 where
  pub clashing : List Key
  pub ascends : IsStrictlySortedBy key_order clashing
  pub members : (key : Key) →
      list_any (eq_by_cmp key_order key) clashing ≡ (has is_visible taken key && has is_deletion taken key)
  pub count_is : count ≡ capped_count (length clashing)

-- no version of a list has a greater key
abbrev pub KeysUpTo : Key → List VersionData → Type 0
KeysUpTo key versions = AllByRecursion (λ v. is_gt (key_order (key_of v) key) ≡ false) versions

-- no key of a list is greater
abbrev pub AreUpTo : Key → List Key → Type 0
AreUpTo key keys = AllByRecursion (λ k. is_gt (key_order k key) ≡ false) keys

-- a tally of a list of versions, before or after versions of this key, which is the greatest one
pub record TalliesKey (key : Key) (tally : ClashTally) (taken : List VersionData) : Type 0 where
  pub key_is : tally.key ≡ Some key
  pub visible_is : tally.has_visible ≡ has is_visible taken key
  pub deletion_is : tally.has_deletion ≡ has is_deletion taken key
  pub up_to : KeysUpTo key taken
  pub counts : CountsClashes tally.count taken
  pub clashing_up_to : AreUpTo key counts.clashing

-- a tally of a list of versions of which the last one, if there is one, is `top`
abbrev pub IsTally : ClashTally → Option VersionData → List VersionData → Type 0
IsTally tally None taken = (tally ≡ no_clashes) × (taken ≡ [])
IsTally tally (Some top) taken = TalliesKey (key_of top) tally taken

-- ---- the order of keys
less_after : (x k y : Key) → is_gt (key_order x k) ≡ false → key_order k y ≡ Less → key_order x y ≡ Less
less_after x k y h less = elim (key_order x k) as (λ o. key_order x k ≡ o → is_gt o ≡ false → key_order x y ≡ Less) [
  | Less ↦ λ e h. key_order_total.trans x k y e less
  | Equal ↦ λ e h. key_order_total.congr x k y e ∙ less
  | Greater ↦ λ e h. absurd (false≢true (sym h))
] refl h

less_unless : (o : Ordering) → is_gt o ≡ false → is_eq o ≡ false → o ≡ Less
less_unless Less h k = refl
less_unless Equal h k = absurd (false≢true (sym k))
less_unless Greater h k = absurd (false≢true (sym h))

other_back : (x y : Key) → key_order x y ≡ Less → eq_by_cmp key_order y x ≡ false
other_back x y less = ap is_eq (key_order_total.antisymm y x) ∙ ap (λ o. is_eq (ordering_reverse o)) less

reverse_eq : (o : Ordering) → is_eq (ordering_reverse o) ≡ is_eq o
reverse_eq Less = refl
reverse_eq Equal = refl
reverse_eq Greater = refl

eq_back : (x y : Key) → eq_by_cmp key_order x y ≡ eq_by_cmp key_order y x
eq_back x y = ap is_eq (key_order_total.antisymm x y) ∙ reverse_eq (key_order y x)

equal_keys : (x y : Key) → eq_by_cmp key_order x y ≡ true → x ≡ y
equal_keys x y h = key_order-IsAntisymmetric x y ((Equal-is (key_order x y)).0 h)

-- ---- one more version of the key
member_of_key : (visible deletion deleted : Bool) →
    cond (begins_clash visible deletion deleted) ((visible && deletion) || (true || false)) (visible && deletion)
    ≡ ((visible || ((true && not deleted) || false)) && (deletion || ((true && deleted) || false)))
member_of_key true true true = refl
member_of_key true true false = refl
member_of_key true false true = refl
member_of_key true false false = refl
member_of_key false true true = refl
member_of_key false true false = refl
member_of_key false false true = refl
member_of_key false false false = refl

member_of_other : (begins member visible deletion deleted : Bool) → member ≡ (visible && deletion) →
    cond begins (member || (false || false)) member
    ≡ ((visible || ((false && not deleted) || false)) && (deletion || ((false && deleted) || false)))
member_of_other true member visible deletion deleted e =
    or-false member ∙ e ∙ (λ i. sym (or-false visible) i && sym (or-false deletion) i)
member_of_other false member visible deletion deleted e = e ∙ (λ i. sym (or-false visible) i && sym (or-false deletion) i)

-- the clashes with one more version of the key
abbrev clashing_next : Bool → List Key → Key → List Key
clashing_next begins clashing key = cond begins (clashing ++ key ∷ []) clashing

any_next : (p : Key → Bool) (begins : Bool) (clashing : List Key) (key : Key) →
    list_any p (clashing_next begins clashing key) ≡ cond begins (list_any p clashing || (p key || false)) (list_any p clashing)
any_next p true clashing key = list_any-append p clashing (key ∷ [])
any_next p false clashing key = refl

count_next : (begins : Bool) (clashing : List Key) (key : Key) (count : ℕ) → count ≡ capped_count (length clashing) →
    cond begins (capped_count (count + 1)) count ≡ capped_count (length (clashing_next begins clashing key))
count_next true clashing key count e = omega (arith, e, length-append clashing (key ∷ []))
count_next false clashing key count e = e

below_unless : (keys : List Key) (key : Key) → AreUpTo key keys → list_any (eq_by_cmp key_order key) keys ≡ false →
    AllByRecursion (λ k. key_order k key ≡ Less) keys
below_unless [] key h none = tt
below_unless (k ∷ keys) key h none =
    elim (eq_by_cmp key_order key k) as (λ b. eq_by_cmp key_order key k ≡ b → (b || list_any (eq_by_cmp key_order key) keys) ≡ false →
    AllByRecursion (λ k. key_order k key ≡ Less) (k ∷ keys)) [
      | true ↦ λ e none. absurd (false≢true (sym none))
      | false ↦ λ e none. (less_unless (key_order k key) h.0 (eq_back k key ∙ e), below_unless keys key h.1 none)
    ] refl none

ascends_end : (keys : List Key) (key : Key) → IsStrictlySortedBy key_order keys → AllByRecursion (λ k. key_order k key ≡ Less) keys →
    IsStrictlySortedBy key_order (keys ++ key ∷ [])
unfolding IsStrictlySortedBy
ascends_end [] key h below = one_ascends key_order key
ascends_end (k ∷ keys) key h below =
    (all_append (λ x. key_order k x ≡ Less) keys (key ∷ []) h.0 (below.0, tt), ascends_end keys key h.1 below.1)

not_yet : (visible deletion deleted : Bool) → begins_clash visible deletion deleted ≡ true → (visible && deletion) ≡ false
not_yet true true deleted h = absurd (false≢true h)
not_yet true false deleted h = refl
not_yet false deletion deleted h = refl

ascends_next : (begins : Bool) (keys : List Key) (key : Key) → IsStrictlySortedBy key_order keys → AreUpTo key keys →
    (begins ≡ true → list_any (eq_by_cmp key_order key) keys ≡ false) →
    IsStrictlySortedBy key_order (clashing_next begins keys key)
ascends_next true keys key h up_to new = ascends_end keys key h (below_unless keys key up_to (new refl))
ascends_next false keys key h up_to new = h

up_to_next : (begins : Bool) (keys : List Key) (key : Key) → AreUpTo key keys → AreUpTo key (clashing_next begins keys key)
up_to_next true keys key h =
    all_append (λ k. is_gt (key_order k key) ≡ false) keys (key ∷ []) h (ap is_gt (tied_itself key_order_total key), tt)
up_to_next false keys key h = h

has_next : (p : VersionData → Bool) (taken : List VersionData) (v : VersionData) (key : Key) →
    has p (taken ++ v ∷ []) key ≡ (has p taken key || ((eq_by_cmp key_order key (key_of v) && p v) || false))
has_next p taken v key = list_any-append (λ w. eq_by_cmp key_order key (key_of w) && p w) taken (v ∷ [])

of_key : (v : VersionData) (b : Bool) → (eq_by_cmp key_order (key_of v) (key_of v) && b) ≡ b
of_key v b = ap (λ o. is_eq o && b) (tied_itself key_order_total (key_of v))

own_next : (p : VersionData → Bool) (taken : List VersionData) (v : VersionData) →
    has p (taken ++ v ∷ []) (key_of v) ≡ (has p taken (key_of v) || p v)
own_next p taken v = has_next p taken v (key_of v)
    ∙ ap (λ b. has p taken (key_of v) || (b || false)) (of_key v (p v)) ∙ ap (λ b. has p taken (key_of v) || b) (or-false (p v))

members_next : (visible deletion : Bool) (clashing : List Key) (taken : List VersionData) (v : VersionData)
    → ((key : Key) → list_any (eq_by_cmp key_order key) clashing ≡ (has is_visible taken key && has is_deletion taken key))
    → visible ≡ has is_visible taken (key_of v) → deletion ≡ has is_deletion taken (key_of v) → (key : Key)
    → list_any (eq_by_cmp key_order key) (clashing_next (begins_clash visible deletion (is_deletion v)) clashing (key_of v))
    ≡ (has is_visible (taken ++ v ∷ []) key && has is_deletion (taken ++ v ∷ []) key)
members_next visible deletion clashing taken v members seen gone key =
    let begins : Bool = begins_clash visible deletion (is_deletion v) in
    any_next (eq_by_cmp key_order key) begins clashing (key_of v)
    ∙ elim (eq_by_cmp key_order key (key_of v)) as (λ b. eq_by_cmp key_order key (key_of v) ≡ b →
    cond begins (list_any (eq_by_cmp key_order key) clashing || (b || false)) (list_any (eq_by_cmp key_order key) clashing)
    ≡ ((has is_visible taken key || ((b && is_visible v) || false)) && (has is_deletion taken key || ((b && is_deletion v) || false)))) [
      | true ↦ λ e.
          let same : key ≡ key_of v = equal_keys key (key_of v) e in
          let before : list_any (eq_by_cmp key_order key) clashing ≡ (visible && deletion) =
          members key ∙ (λ i. has is_visible taken (same i) && has is_deletion taken (same i)) ∙ (λ i. sym seen i && sym gone i) in
          ap (λ b. cond begins (b || (true || false)) b) before
          ∙ member_of_key visible deletion (is_deletion v)
          ∙ (λ i. (seen i || ((true && is_visible v) || false)) && (gone i || ((true && is_deletion v) || false)))
          ∙ (λ i. (has is_visible taken (sym same i) || ((true && is_visible v) || false))
          && (has is_deletion taken (sym same i) || ((true && is_deletion v) || false)))
      | false ↦ λ e.
          member_of_other begins (list_any (eq_by_cmp key_order key) clashing) (has is_visible taken key) (has is_deletion taken key)
          (is_deletion v) (members key)
    ] refl
    ∙ (λ i. sym (has_next is_visible taken v key) i && sym (has_next is_deletion taken v key) i)

-- the tally with one more version of the key
with_one : (v : VersionData) (tally : ClashTally) (taken : List VersionData) → TalliesKey (key_of v) tally taken →
    TalliesKey (key_of v) (with_version tally (is_deletion v)) (taken ++ v ∷ [])
with_one v tally taken t =
    let begins : Bool = begins_clash tally.has_visible tally.has_deletion (is_deletion v) in
    let clashing : List Key = t.counts.clashing in record {
      key_is = t.key_is;
      visible_is = ap (λ b. b || is_visible v) t.visible_is ∙ sym (own_next is_visible taken v);
      deletion_is = ap (λ b. b || is_deletion v) t.deletion_is ∙ sym (own_next is_deletion taken v);
      up_to =
          all_append (λ w. is_gt (key_order (key_of w) (key_of v)) ≡ false) taken (v ∷ []) t.up_to
          (ap is_gt (tied_itself key_order_total (key_of v)), tt);
      counts = record {
        clashing = clashing_next begins clashing (key_of v);
        ascends = ascends_next begins clashing (key_of v) t.counts.ascends t.clashing_up_to
            (λ b. t.counts.members (key_of v) ∙ (λ i. sym t.visible_is i && sym t.deletion_is i)
            ∙ not_yet tally.has_visible tally.has_deletion (is_deletion v) b);
        members = members_next tally.has_visible tally.has_deletion clashing taken v t.counts.members t.visible_is t.deletion_is;
        count_is = count_next begins clashing (key_of v) tally.count t.counts.count_is;
      };
      clashing_up_to = up_to_next begins clashing (key_of v) t.clashing_up_to;
    }

-- ---- the first version of a key
none_has : (p : VersionData → Bool) (taken : List VersionData) (last key : Key) → KeysUpTo last taken → key_order last key ≡ Less →
    has p taken key ≡ false
none_has p [] last key h less = refl
none_has p (v ∷ taken) last key h less =
    ap (λ b. (b && p v) || has p taken key) (other_back (key_of v) key (less_after (key_of v) last key h.0 less))
    ∙ none_has p taken last key h.1 less

versions_up : (taken : List VersionData) (last key : Key) → KeysUpTo last taken → key_order last key ≡ Less → KeysUpTo key taken
versions_up [] last key h less = tt
versions_up (v ∷ taken) last key h less =
    (ap is_gt (less_after (key_of v) last key h.0 less), versions_up taken last key h.1 less)

keys_up : (keys : List Key) (last key : Key) → AreUpTo last keys → key_order last key ≡ Less → AreUpTo key keys
keys_up [] last key h less = tt
keys_up (k ∷ keys) last key h less = (ap is_gt (less_after k last key h.0 less), keys_up keys last key h.1 less)

begun : (last key : Key) (tally : ClashTally) (taken : List VersionData) → TalliesKey last tally taken → key_order last key ≡ Less →
    TalliesKey key (begin_key key tally.count) taken
begun last key tally taken t less = record {
  key_is = refl;
  visible_is = sym (none_has is_visible taken last key t.up_to less);
  deletion_is = sym (none_has is_deletion taken last key t.up_to less);
  up_to = versions_up taken last key t.up_to less;
  counts = t.counts;
  clashing_up_to = keys_up t.counts.clashing last key t.clashing_up_to less;
}

at_next : (last key : Key) (tally : ClashTally) (taken : List VersionData) → TalliesKey last tally taken →
    is_gt (key_order last key) ≡ false → TalliesKey key (at_key tally key) taken
at_next last key tally taken t rises =
    subst (λ (k : Option Key). TalliesKey key (cond (is_at k key) tally (begin_key key tally.count)) taken) (sym t.key_is)
    (elim (is_eq (key_order last key)) as (λ b. is_eq (key_order last key) ≡ b →
    TalliesKey key (cond b tally (begin_key key tally.count)) taken) [
      | true ↦ λ e. subst (λ (k : Key). TalliesKey k tally taken) (equal_keys last key e) t
      | false ↦ λ e. begun last key tally taken t (less_unless (key_order last key) rises e)
    ] refl)

-- Before a version is taken there is no clash.
pub nothing_counted : CountsClashes 0 []
unfolding IsStrictlySortedBy
nothing_counted = record { clashing = []; ascends = tt; members = λ key. refl; count_is = omega arith }

at_first : (key : Key) → TalliesKey key (begin_key key 0) []
unfolding nothing_counted
at_first key = record {
  key_is = refl;
  visible_is = refl;
  deletion_is = refl;
  up_to = tt;
  counts = nothing_counted;
  clashing_up_to = tt;
}

-- ---- a version that isn't less than the one before it
one_more : (tally : ClashTally) (top : Option VersionData) (taken : List VersionData) (v : VersionData) → IsTally tally top taken →
    Floor top (v ∷ []) → TalliesKey (key_of v) (tally_after tally v) (taken ++ v ∷ [])
one_more tally None taken v h floor =
    subst (λ (t : ClashTally). TalliesKey (key_of v) (tally_after t v) (taken ++ v ∷ [])) (sym h.0)
    (subst (λ (vs : List VersionData). TalliesKey (key_of v) (tally_after no_clashes v) (vs ++ v ∷ [])) (sym h.1)
    (with_one v (begin_key (key_of v) 0) [] (at_first (key_of v))))
one_more tally (Some top) taken v h floor =
    with_one v (at_key tally (key_of v)) taken
    (at_next (key_of top) (key_of v) tally taken h (key_rises top v floor.0))

-- the count of a tally
counted : (tally : ClashTally) (top : Option VersionData) (taken : List VersionData) → IsTally tally top taken →
    CountsClashes tally.count taken
counted tally None taken h =
    subst (λ (t : ClashTally). CountsClashes t.count taken) (sym h.0) (subst (CountsClashes 0) (sym h.1) nothing_counted)
counted tally (Some top) taken h = h.counts

-- ---- the clashes of a set
any_map : (p : Key → Bool) (vs : List VersionData) → list_any p (map key_of vs) ≡ list_any (λ v. p (key_of v)) vs
any_map p [] = refl
any_map p (v ∷ vs) = ap (λ b. p (key_of v) || b) (any_map p vs)

has_key : (set : VersionSet) (p : VersionData → Bool) (key : Key) →
    contains (keys_of (retain set p)) key ≡ has p (to_list set) key
has_key set p key =
    contains-from_list key_order_total (map key_of (to_list (retain set p))) key
    ∙ any_map (eq_by_cmp key_order key) (to_list (retain set p))
    ∙ list_any-listed version_cmp_total version_cmp-IsAntisymmetric (λ v. eq_by_cmp key_order key (key_of v)) (filter p (to_list set))
    ∙ any_filter (λ v. eq_by_cmp key_order key (key_of v)) p (to_list set)

-- A count of clashes in a list with the members of a set is the number of the set's clashes.
count_of_set : (set : VersionSet) (taken : List VersionData) (count : ℕ)
    → ((p : VersionData → Bool) → list_any p (to_list set) ≡ list_any p taken)
    → CountsClashes count taken → count ≡ capped_count (clash_count set)
unfolding clash_count
count_of_set set taken count same c =
    let clashing_is : to_list (clashes_of set) ≡ c.clashing =
    ap to_list (same_set key_order_total key_order-IsAntisymmetric (clashes_of set) (from_list c.clashing)
    (λ key. contains-retain key_order_total key_order-IsAntisymmetric (keys_of (visible set)) (contains (keys_of (deletions set))) key
    ∙ (λ i. has_key set is_visible key i && has_key set is_deletion key i)
    ∙ (λ i. same (λ v. eq_by_cmp key_order key (key_of v) && is_visible v) i
    && same (λ v. eq_by_cmp key_order key (key_of v) && is_deletion v) i)
    ∙ sym (c.members key)
    ∙ sym (contains-from_list key_order_total c.clashing key)))
    ∙ to_list-from_list key_order_total key_order-IsAntisymmetric c.clashing c.ascends in
    c.count_is ∙ ap (λ keys. capped_count (length keys)) (sym clashing_is)

-- ---- the tally of a merge
-- The tally of the versions that a merge has taken from the sources `all`; `states` are the rests that are still to come, and
-- `top` is the version taken last.
pub record IsTallying (all states : List VersionsToCome) (top : Option VersionData) (tally : ClashTally) : Type 0 where
  pub taken : List VersionData
  pub came : (p : VersionData → Bool) → list_any p (versions_of all) ≡ (list_any p taken || list_any p (versions_of states))
  pub is_tally : IsTally tally top taken

-- Before the first turn no version was taken.
pub none_tallied : (all : List VersionsToCome) → IsTallying all all None no_clashes
none_tallied all = record { taken = []; came = λ p. refl; is_tally = (refl, refl) }

or_over : (a b c : Bool) → (a || (b || c)) ≡ ((a || (b || false)) || c)
or_over true b c = refl
or_over false true c = refl
or_over false false c = refl

-- After the head of a source is taken, the tally has one more version.
pub tally_more : (all states : List VersionsToCome) (top : Option VersionData) (tally : ClashTally) (w : ℕ) (v : VersionData)
    → IsTallying all states top tally → head (rest_at states w) ≡ Some v → Floor top (rest_at states w).list
    → IsTallying all (without_head states w) (Some v) (tally_after tally v)
tally_more all states top tally w v t is floor =
    let here : VersionsToCome = rest_at states w in
    let e : here.list ≡ v ∷ rest here.list = split_first v here.list is in record {
      taken = t.taken ++ v ∷ [];
      came = λ p. t.came p
          ∙ ap (λ b. list_any p t.taken || b) (any_taken p states w v (rest here.list) e)
          ∙ or_over (list_any p t.taken) (p v) (list_any p (versions_of (without_head states w)))
          ∙ ap (λ b. b || list_any p (versions_of (without_head states w))) (sym (list_any-append p t.taken (v ∷ [])));
      is_tally = one_more tally top t.taken v t.is_tally (floor_one top v (rest here.list) (subst (Floor top) e floor));
    }

-- If no head is left, the count of the tally is the number of clashes of the union.
pub all_tallied : (all states : List VersionsToCome) (top : Option VersionData) (tally : ClashTally) → IsTallying all states top tally →
    ((i : ℕ) → i < length states → head (rest_at states i) ≡ None) → tally.count ≡ capped_count (clash_count (union_given all))
unfolding union_given
all_tallied all states top tally t none =
    count_of_set (union_given all) t.taken tally.count
    (λ p. list_any-listed version_cmp_total version_cmp-IsAntisymmetric p (versions_of all) ∙ t.came p
    ∙ ap (λ vs. list_any p t.taken || list_any p vs) (none_to_come states none) ∙ or-false (list_any p t.taken))
    (counted tally top t.taken t.is_tally)
