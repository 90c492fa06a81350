-- The list of a history, while the newest versions of its objects are moved to its front.
use Rattle.std.proofs.Common.{◌≡◌, ℕ, zero, suc, ◌+◌, ◌<◌, ◌≤◌, Bool, true, false, List, [], ◌∷◌, ◌++◌, length, take, drop, get_or, set}
use Rattle.std.proofs.Common.{refl, sym, ap, ◌∙◌, subst, arith, append_assoc, length-drop}
use Rattle.std.specs.Prelude.{slice_get}
use Rattle.std.specs.List.{SwappedAt}
use Rattle.std.specs.List.Sorted.{IsStrictlySortedBy}
use Rattle.std.proofs.lemmas.List.{take_more, take-set-le, drop-set-lt, drop_more, length-set, append-nil, nil_from_length}
use Rattle.osm_model.specs.Data.{VersionData}
use Rattle.osm_model.specs.Order.{version_cmp}
use Rattle.osm_model.specs.VersionSet.{VersionSet}
use Rattle.osm_model.specs.Sets.{to_list, from_list}
use Rattle.osm_model.proofs.SetLaws.{strict-listed}
use Rattle.osm_merge.specs.declared.selection.Selection.TheVariants.{Newest}
use Rattle.osm_merge.specs.Members.{first}
use Rattle.osm_merge.specs.Pass.{singleton_if, keeps, versions_that_stay}
use Rattle.osm_merge.specs.Selected.{snapshot}
use Rattle.osm_merge.proofs.SelectedLaws.{pass_of_set}
use Rattle.osm_files.proofs.HoldLaws.{set_listed}

-- The versions of a list that are the newest ones of their objects.
abbrev pub newest_of : List VersionData → List VersionData
newest_of = versions_that_stay (keeps Newest)

-- The first `index` versions of a list were decided, and those of them that stay were moved to its front.
pub record IsSettling (list items : List VersionData) (index count : ℕ) : Type 0 where
  pub same_length : length items ≡ length list
  pub within : count ≤ index
  pub rest : drop index items ≡ drop index list
  pub chosen : take count items ++ newest_of (drop index list) ≡ newest_of list

-- At first no version was decided.
pub settling_begins : (list items : List VersionData) → items ≡ list → IsSettling list items 0 0
settling_begins list items is = record { same_length = ap length is; within = omega arith; rest = is; chosen = refl }

-- the item of a list at an index
pub some_item : (xs : List VersionData) (n : ℕ) → n < length xs → VersionData
some_item [] n h = absurd (omega (arith, h))
some_item (x ∷ xs) n h = x

first_left : (xs : List VersionData) (n : ℕ) → first (drop n xs) ≡ slice_get xs n
first_left [] zero = refl
first_left [] (suc n) = refl
first_left (x ∷ xs) zero = refl
first_left (x ∷ xs) (suc n) = first_left xs n

module _ (list items : List VersionData) (index count : ℕ) (h : IsSettling list items index count) (inside : index < length items)
    (d : VersionData) (stays : Bool) (is : stays ≡ keeps Newest (get_or items index d) (slice_get items (index + 1))) where
  abbrev v : VersionData
  v = get_or items index d

  from_here : v ∷ drop (index + 1) items ≡ drop index list
  from_here = sym (drop_more items index d inside) ∙ h.rest

  rest_next : drop (index + 1) items ≡ drop (index + 1) list
  rest_next = ap (drop 1) (from_here ∙ drop_more list index d (omega (arith, inside, h.same_length)))

  stays_is : keeps Newest v (first (drop (index + 1) items)) ≡ stays
  stays_is = ap (keeps Newest v) (first_left items (index + 1)) ∙ sym is

  newest_here : newest_of (drop index list) ≡ singleton_if stays v ++ newest_of (drop (index + 1) list)
  newest_here =
      ap newest_of (sym from_here)
      ∙ (λ i. singleton_if (stays_is i) v ++ newest_of (rest_next i))

  -- A version that doesn't stay changes nothing.
  pub settling_skips : (items2 : List VersionData) (count2 : ℕ) → stays ≡ false → items2 ≡ items → count2 ≡ count →
      IsSettling list items2 (index + 1) count2
  settling_skips items2 count2 out same fixed = rw (same, fixed) (record {
    same_length = h.same_length;
    within = omega (arith, h.within);
    rest = rest_next;
    chosen = ap (λ (t : List VersionData). take count items ++ t)
        (sym (newest_here ∙ ap (λ (b : Bool). singleton_if b v ++ newest_of (drop (index + 1) list)) out)) ∙ h.chosen;
  })

  -- A version that stays is swapped to the end of those that stay.
  pub settling_moves : (items2 items3 : List VersionData) (count2 : ℕ) → stays ≡ true → SwappedAt items items2 count index →
      items3 ≡ items2 → count2 ≡ count + 1 → IsSettling list items3 (index + 1) count2
  settling_moves items2 items3 count2 stayed swapped same more =
      let sets = swapped.3 d in
      let long : length items2 ≡ length items = ap length sets ∙ length-set _ index _ ∙ length-set items count _ in
      let front : take count items2 ≡ take count items = ap (take count) sets ∙ take-set-le count _ index _ h.within
      ∙ take-set-le count items count _ (omega arith) in
      let back : drop (index + 1) items2 ≡ drop (index + 1) items = ap (drop (index + 1)) sets
      ∙ drop-set-lt (index + 1) _ index _ (omega arith) ∙ drop-set-lt (index + 1) items count _ (omega (arith, h.within)) in
      let taken : take (count + 1) items2 ≡ take count items ++ v ∷ [] =
      take_more items2 count d (omega (arith, long, inside, h.within)) ∙ (λ i. front i ++ swapped.0 d i ∷ []) in
      rw (same, more) (record {
        same_length = long ∙ h.same_length;
        within = omega (arith, h.within);
        rest = back ∙ rest_next;
        chosen =
            ap (λ (t : List VersionData). t ++ newest_of (drop (index + 1) list)) taken
            ∙ append_assoc (take count items) (v ∷ []) (newest_of (drop (index + 1) list))
            ∙ ap (λ (t : List VersionData). take count items ++ t)
            (sym (newest_here ∙ ap (λ (b : Bool). singleton_if b v ++ newest_of (drop (index + 1) list)) stayed))
            ∙ h.chosen;
      })

-- Once all versions were decided, the first `count` versions are the snapshot.
pub settled_list : (set : VersionSet) (items : List VersionData) (index count : ℕ) → IsSettling (to_list set) items index count →
    length (to_list set) ≤ index → take count items ≡ to_list (snapshot set)
settled_list set items index count h end =
    let none : drop index (to_list set) ≡ [] = nil_from_length _ (omega (arith, end, length-drop index (to_list set))) in
    sym (append-nil (take count items)) ∙ ap (λ (t : List VersionData). take count items ++ newest_of t) (sym none) ∙ h.chosen
    ∙ pass_of_set Newest set

-- The list of a snapshot ascends strictly.
pub settled_ascends : (set : VersionSet) (items : List VersionData) → items ≡ to_list (snapshot set) → IsStrictlySortedBy version_cmp items
settled_ascends set items is = subst (IsStrictlySortedBy version_cmp) (sym is) (strict-listed (snapshot set))

-- The set of a snapshot's list is the snapshot.
pub settled_set : (set : VersionSet) (items : List VersionData) → items ≡ to_list (snapshot set) →
    from_list {R = version_cmp} items ≡ snapshot set
settled_set set items is = ap (from_list {R = version_cmp}) is ∙ set_listed (snapshot set)
