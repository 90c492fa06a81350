-- The pass over the list of a history: the versions chosen after the first `index` versions were read.
use Rattle.std.proofs.Common.{◌≡◌, ℕ, ◌+◌, ◌<◌, ◌≤◌, true, false, List, [], ◌∷◌, ◌++◌, length, take, get_or, sym, ap, ◌∙◌, subst}
use Rattle.std.proofs.Common.{Option, Some, None}
use Rattle.std.proofs.lemmas.List.{take_more, take_all, append-nil, get_or_default}
use Rattle.std.proofs.lemmas.List.Elements.{filter-append}
use Rattle.std.specs.List.{filter}
use Rattle.osm_model.specs.Data.{VersionData}
use Rattle.osm_model.specs.Order.{version_cmp}
use Rattle.osm_model.specs.Sets.{to_list, from_list}
use Rattle.osm_model.specs.VersionSet.{VersionSet}
use Rattle.osm_merge.specs.declared.selection.Selection.{Selection}
use Rattle.osm_merge.specs.Selected.{selection_of}
use Rattle.osm_merge.specs.Pass.{passes, keeps, stays, singleton_if, versions_that_stay, settled_versions}
use Rattle.osm_merge.proofs.PassLaws.{kept_end, settled_next}
use Rattle.osm_merge.proofs.SelectedLaws.{passing_is, pass_of_set}
use Rattle.osm_files.proofs.HoldLaws.{set_listed}

-- those of the first `index` versions of a list that pass
abbrev pub met_of : Selection → List VersionData → ℕ → List VersionData
met_of selection list index = filter (passes selection) (take index list)

-- the last of the versions that passed is at `index`
pub record HoldsAt (list : List VersionData) (index : ℕ) (met : List VersionData) : Type 0 where
  pub inside : index < length list
  pub front : List VersionData
  pub ends : (d : VersionData) → met ≡ front ++ get_or list index d ∷ []

abbrev pub IsPending : List VersionData → Option ℕ → List VersionData → Type 0
IsPending list None met = met ≡ []
IsPending list (Some index) met = HoldsAt list index met

-- The first `index` versions were read; the last of them that passes is pending, and the others that are decided to
-- stay were chosen.
pub record IsChoosing (selection : Selection) (list : List VersionData) (index : ℕ) (pending : Option ℕ)
    (chosen : List VersionData) : Type 0 where
  pub pending_is : IsPending list pending (met_of selection list index)
  pub chosen_is : chosen ≡ settled_versions (keeps selection) (met_of selection list index)

-- the step for the version at `index`
module _ (selection : Selection) (list : List VersionData) (index : ℕ) (w : VersionData) (inside : index < length list)
    (here : w ≡ get_or list index w) where
  met_more : met_of selection list (index + 1) ≡ met_of selection list index ++ singleton_if (passes selection w) w
  met_more =
      ap (filter (passes selection)) (take_more list index w inside ∙ ap (λ (v : VersionData). take index list ++ v ∷ []) (sym here))
      ∙ filter-append (passes selection) (take index list) (w ∷ [])

  met_skip : passes selection w ≡ false → met_of selection list (index + 1) ≡ met_of selection list index
  met_skip out = met_more ∙ ap (λ b. met_of selection list index ++ singleton_if b w) out ∙ append-nil (met_of selection list index)

  met_pass : passes selection w ≡ true → met_of selection list (index + 1) ≡ met_of selection list index ++ w ∷ []
  met_pass pass = met_more ∙ ap (λ b. met_of selection list index ++ singleton_if b w) pass

  held_now : passes selection w ≡ true → HoldsAt list index (met_of selection list (index + 1))
  held_now pass = record {
    inside = inside;
    front = met_of selection list index;
    ends = λ e. met_pass pass ∙ ap (λ v. met_of selection list index ++ v ∷ []) (here ∙ get_or_default list index w e inside);
  }

  -- A version that doesn't pass changes nothing.
  pub choose_skip : (pending pending2 : Option ℕ) (chosen chosen2 : List VersionData) → IsChoosing selection list index pending chosen
      → passes selection w ≡ false →
      pending2 ≡ pending → chosen2 ≡ chosen → IsChoosing selection list (index + 1) pending2 chosen2
  choose_skip pending pending2 chosen chosen2 i out same_pending same_chosen = record {
    pending_is =
        subst (λ (h : Option ℕ). IsPending list h (met_of selection list (index + 1))) (sym same_pending)
        (subst (λ (met : List VersionData). IsPending list pending met) (sym (met_skip out)) i.pending_is);
    chosen_is = same_chosen ∙ i.chosen_is ∙ ap (settled_versions (keeps selection)) (sym (met_skip out));
  }

  -- the first version that passes
  first_passes : (chosen : List VersionData) → IsChoosing selection list index None chosen → passes selection w ≡ true
      → IsChoosing selection list (index + 1) (Some index) chosen
  first_passes chosen i pass = record {
    pending_is = held_now pass;
    chosen_is =
        i.chosen_is ∙ ap (settled_versions (keeps selection)) i.pending_is
        ∙ sym (ap (settled_versions (keeps selection)) (met_pass pass ∙ ap (λ (met : List VersionData). met ++ w ∷ []) i.pending_is));
  }

  -- a version that passes after the pending one
  next_passes : (before : ℕ) (v : VersionData) (chosen : List VersionData) → IsChoosing selection list index (Some before) chosen
      → passes selection w ≡ true → v ≡ get_or list before v →
      IsChoosing selection list (index + 1) (Some index) (chosen ++ singleton_if (keeps selection v (Some w)) v)
  next_passes before v chosen i pass is =
      let front = i.pending_is.front in
      let met : met_of selection list index ≡ front ++ v ∷ [] = i.pending_is.ends v ∙ ap (λ u. front ++ u ∷ []) (sym is) in
      record {
        pending_is = held_now pass;
        chosen_is =
            ap (λ t. t ++ singleton_if (keeps selection v (Some w)) v) (i.chosen_is ∙ ap (settled_versions (keeps selection)) met)
            ∙ sym (settled_next (keeps selection) front v w)
            ∙ sym (ap (settled_versions (keeps selection)) (met_pass pass ∙ ap (λ (t : List VersionData). t ++ w ∷ []) met));
      }

  -- The first version that passes becomes the pending one.
  pub choose_first : (pending pending2 : Option ℕ) (chosen chosen2 : List VersionData) → IsChoosing selection list index pending chosen
      → passes selection w ≡ true →
      pending ≡ None → pending2 ≡ Some index → chosen2 ≡ chosen → IsChoosing selection list (index + 1) pending2 chosen2
  choose_first pending pending2 chosen chosen2 i pass none now same =
      rw (now, same) (first_passes chosen (subst (λ (h : Option ℕ). IsChoosing selection list index h chosen) none i) pass)

  -- The next version that passes decides the pending one.
  pub choose_next : (pending pending2 : Option ℕ) (before : ℕ) (v : VersionData) (chosen chosen2 : List VersionData)
      → IsChoosing selection list index pending chosen → passes selection w ≡ true →
      pending ≡ Some before → v ≡ get_or list before v → pending2 ≡ Some index
      → chosen2 ≡ chosen ++ singleton_if (keeps selection v (Some w)) v
      → IsChoosing selection list (index + 1) pending2 chosen2
  choose_next pending pending2 before v chosen chosen2 i pass some is now more =
      rw (now, more) (next_passes before v chosen (subst (λ (h : Option ℕ). IsChoosing selection list index h chosen) some i) pass is)

-- all versions were read
module _ (selection : Selection) (s : VersionSet) (index : ℕ) (whole : length (to_list s) ≤ index) where
  done : (chosen : List VersionData) → chosen ≡ versions_that_stay (keeps selection) (met_of selection (to_list s) index)
      → from_list {R = version_cmp} chosen ≡ selection_of selection s
  done chosen is =
      let all : met_of selection (to_list s) index ≡ filter (passes selection) (to_list s) =
      ap (filter (passes selection)) (take_all index (to_list s) whole) in
      ap (from_list {R = version_cmp})
      (is ∙ ap (versions_that_stay (keeps selection)) (all ∙ sym (passing_is selection (to_list s))) ∙ pass_of_set selection s)
      ∙ set_listed (selection_of selection s)

  -- no version passed
  pub choose_none : (pending : Option ℕ) (chosen chosen2 : List VersionData) → IsChoosing selection (to_list s) index pending chosen
      → pending ≡ None
      → chosen2 ≡ chosen → from_list {R = version_cmp} chosen2 ≡ selection_of selection s
  choose_none pending chosen chosen2 i none same =
      let j : IsChoosing selection (to_list s) index None chosen =
      subst (λ (h : Option ℕ). IsChoosing selection (to_list s) index h chosen) none i in
      done chosen2 (same ∙ j.chosen_is ∙ ap (settled_versions (keeps selection)) j.pending_is
      ∙ sym (ap (versions_that_stay (keeps selection)) j.pending_is))

  -- the last version that passed is decided
  pub choose_last : (pending : Option ℕ) (last : ℕ) (v : VersionData) (chosen chosen2 : List VersionData)
      → IsChoosing selection (to_list s) index pending chosen → pending ≡ Some last → v ≡ get_or (to_list s) last v →
      chosen2 ≡ chosen ++ singleton_if (stays selection v None) v → from_list {R = version_cmp} chosen2 ≡ selection_of selection s
  choose_last pending last v chosen chosen2 i some is more =
      let j : IsChoosing selection (to_list s) index (Some last) chosen =
      subst (λ (h : Option ℕ). IsChoosing selection (to_list s) index h chosen) some i in
      let met : met_of selection (to_list s) index ≡ j.pending_is.front ++ v ∷ [] =
      j.pending_is.ends v ∙ ap (λ u. j.pending_is.front ++ u ∷ []) (sym is) in
      done chosen2
      (more ∙ ap (λ t. t ++ singleton_if (keeps selection v None) v) (j.chosen_is ∙ ap (settled_versions (keeps selection)) met) ∙ sym
      (kept_end (keeps selection) (j.pending_is.front) v) ∙ sym (ap (versions_that_stay (keeps selection)) met))
