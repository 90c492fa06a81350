-- The extent of a sorted OPL file within a span holds the slice of what the file holds.
use Rattle.std.proofs.Common.{◌≡◌, ◌⊎◌, inl, inr, ⊎_elim, ℕ, zero, suc, ◌-◌, ◌≤◌, Bool, true, false, ◌&&◌, ◌||◌, cond}
use Rattle.std.proofs.Common.{List, [], ◌∷◌, ◌++◌, length, take, drop, Option, Some, None, refl, sym, ap, ◌∙◌, subst, arith, append-nil}
use Rattle.std.specs.Cmp.{Equal-is}
use Rattle.std.specs.Ordering.{is_lt, eq_by_cmp}
use Rattle.std.specs.List.{list_any, filter, AllByRecursion}
use Rattle.std.proofs.lemmas.Bool.{false≢true, cases_lt, not-true}
use Rattle.std.proofs.lemmas.List.{length-take, length-drop, nil_from_length, append_cancel_right}
use Rattle.std.proofs.lemmas.List.Elements.{filter-append}
use Rattle.std.proofs.lemmas.List.Kept.{IsSortedBy-filter}
use Rattle.std.proofs.lemmas.List.Sorted.{ranks_by}
use Rattle.osm_model.specs.Data.{VersionData}
use Rattle.osm_model.specs.Order.{key_cmp, key_cmp_total, version_cmp, version_cmp_total}
use Rattle.osm_model.specs.VersionSet.{VersionSet}
use Rattle.osm_model.specs.Sets.{from_list}
use Rattle.osm_model.proofs.SetLaws.{contains-from_list}
use Rattle.osm_model.proofs.VersionLaws.{version_cmp-IsAntisymmetric}
use Rattle.osm_files.specs.Held.{HoldsSorted, IsFileOf}
use Rattle.osm_files.specs.Opl.{OplFile}
use Rattle.osm_files.specs.Units.{InOpl, start_of}
use Rattle.osm_files.proofs.FirstLaws.{one_opl}
use Rattle.osm_files.proofs.JoinLaws.{Ended}
use Rattle.osm_files.proofs.LineStarts.{end_begins}
use Rattle.osm_merge.specs.declared.span.Span.{Span}
use Rattle.osm_merge.specs.Members.{retain}
use Rattle.std.specs.List.Sorted.{IsSorted}
use Rattle.std.proofs.Math.Bool.{and-false}
use Rattle.osm_model.specs.declared.object.Object.{Object}
use Rattle.osm_merge.specs.Slice.{slice_of, is_ascending, is_ascending_between, is_within, is_under, reaches}
use Rattle.osm_merge.proofs.SliceLaws.{kept_in}
use Rattle.osm_merge.proofs.SelectedLaws.{pass_all}
use Rattle.osm_files.proofs.SpellLaws.{equal_sets as equal}
use Rattle.osm_mirror.specs.run.Cut.{IsUnderBefore}
use Rattle.osm_mirror.specs.run.ShardExtent.{BeginsAt, EndsAt, IsPartWithin}
use Rattle.osm_mirror.proofs.run_laws.CutLaws.{cuts_rise}
use Rattle.osm_mirror.proofs.run_laws.SplitLineLaws.{SplitLines, split_versions, part_ends, part_whole}

-- ---- the versions of a list that pass
module _ (p q : VersionData → Bool) (same : (v : VersionData) → p v ≡ q v) (v : VersionData) where
  abbrev is : VersionData → Bool
  is = eq_by_cmp version_cmp v

  passes : (x : VersionData) → is x ≡ true → q x ≡ p v
  passes x e = ap q (sym (version_cmp-IsAntisymmetric v x ((Equal-is (version_cmp v x)).0 e))) ∙ sym (same v)

  one_more : (x : VersionData) (versions : List VersionData) → list_any is versions && p v ≡ list_any is (filter q versions)
      → (is x || list_any is versions) && p v ≡ list_any is (filter q (x ∷ versions))
  one_more x versions rest =
      elim (is x) as (λ t. is x ≡ t → (t || list_any is versions) && p v ≡ list_any is (filter q (x ∷ versions))) [
        | true ↦ λ e. (elim (q x) as (λ t. q x ≡ t → p v ≡ list_any is (cond t (x ∷ filter q versions) (filter q versions))) [
          | true ↦ λ k. sym (passes x e) ∙ k ∙ ap (λ t. t || list_any is (filter q versions)) (sym e)
          | false ↦ λ k. (let none : p v ≡ false = sym (passes x e) ∙ k in
              none ∙ sym (and-false (list_any is versions)) ∙ ap (λ t. list_any is versions && t) (sym none) ∙ rest)
        ] refl)
        | false ↦ λ e. rest ∙ (elim (q x) as (λ t. list_any is (filter q versions) ≡ list_any is (cond t (x ∷ filter q versions)
            (filter q versions))) [
              | true ↦ ap (λ t. t || list_any is (filter q versions)) (sym e)
              | false ↦ refl
            ])
      ] refl

  any_passes : (versions : List VersionData) → list_any is versions && p v ≡ list_any is (filter q versions)
  any_passes [] = refl
  any_passes (x ∷ versions) = one_more x versions (any_passes versions)

-- the members of a list's set that pass are those of the filtered list
retained : (p q : VersionData → Bool) → ((v : VersionData) → p v ≡ q v) → (versions : List VersionData)
    → retain (from_list {R = version_cmp} versions) p ≡ from_list {R = version_cmp} (filter q versions)
retained p q same versions = equal _ _ (λ v.
    kept_in (from_list versions) p v
    ∙ ap (λ t. t && p v) (contains-from_list version_cmp_total versions v)
    ∙ any_passes p q same v versions
    ∙ sym (contains-from_list version_cmp_total (filter q versions) v))

front_starts : (n : ℕ) (bytes : List ℕ) → start_of bytes ≡ InOpl → start_of (take n bytes) ≡ InOpl
front_starts zero bytes e = refl
front_starts (suc n) [] e = refl
front_starts (suc n) (b ∷ bytes) e = e

-- ---- filtered lists
-- all versions of a filtered list pass
all_pass : (p : VersionData → Bool) (versions : List VersionData) → AllByRecursion (λ v. p v ≡ true) (filter p versions)
all_pass p [] = tt
all_pass p (v ∷ versions) =
    elim (p v) as (λ t. p v ≡ t → AllByRecursion (λ w. p w ≡ true) (cond t (v ∷ filter p versions) (filter p versions))) [
      | true ↦ λ e. (e, all_pass p versions)
      | false ↦ λ e. all_pass p versions
    ] refl

later_pass : (p : VersionData → Bool) (earlier later : List VersionData) → AllByRecursion (λ v. p v ≡ true) (earlier ++ later) →
    AllByRecursion (λ v. p v ≡ true) later
later_pass p [] later h = h
later_pass p (v ∷ earlier) later h = later_pass p earlier later h.1

passing : (p : VersionData → Bool) (versions : List VersionData) → AllByRecursion (λ v. p v ≡ true) versions →
    filter p versions ≡ versions
passing p [] h = refl
passing p (v ∷ versions) h = rw h.0 (ap (λ vs. v ∷ vs) (passing p versions h.1))

passing_both : (p q : VersionData → Bool) (versions : List VersionData) →
    filter p (filter q versions) ≡ filter (λ v. p v && q v) versions
passing_both p q [] = refl
passing_both p q (v ∷ versions) =
    let more = passing_both p q versions in
    elim (q v) as (λ t. filter p (cond t (v ∷ filter q versions) (filter q versions))
    ≡ cond (p v && t) (v ∷ filter (λ w. p w && q w) versions) (filter (λ w. p w && q w) versions)) [
      | true ↦ (elim (p v) as (λ t. cond t (v ∷ filter p (filter q versions)) (filter p (filter q versions))
          ≡ cond (t && true) (v ∷ filter (λ w. p w && q w) versions) (filter (λ w. p w && q w) versions)) [
            | true ↦ ap (λ vs. v ∷ vs) more
            | false ↦ more
          ])
      | false ↦ more ∙ ap (λ t. cond t (v ∷ filter (λ w. p w && q w) versions) (filter (λ w. p w && q w) versions))
          (sym (and-false (p v)))
    ]

-- ---- where a file is cut
-- a file isn't cut after its end
cut_within : (all : List ℕ) (bound : Object) (start : ℕ) → IsUnderBefore all bound start → start ≤ length all
cut_within all bound start under = ⊎_elim
    (λ later. absurd (
    let none : drop (length all) all ≡ [] = nil_from_length (drop (length all) all) (omega (arith, length-drop (length all) all)) in
    false≢true (under (length all) later (end_begins all) [] (subst (λ (b : List ℕ). OplFile b []) (sym none) tt))))
    (λ fine. fine) (cases_lt (length all) start)

-- ---- one file
module _ (all : List ℕ) (held : VersionSet) (h : HoldsSorted all held) (opl : start_of all ≡ InOpl) where
  lines : OplFile all h.versions
  lines = subst (λ s. IsFileOf s all h.versions) opl h.file

  -- bytes that spell some of the versions
  piece : (bytes : List ℕ) (p q : VersionData → Bool) → ((v : VersionData) → p v ≡ q v) → start_of bytes ≡ InOpl → length bytes ≤ length all
      → OplFile bytes (filter q h.versions) → HoldsSorted bytes (retain held p)
  piece bytes p q same starts few file = record {
    short = omega (arith, few, h.short);
    versions = filter q h.versions;
    file = subst (λ s. IsFileOf s bytes (filter q h.versions)) (sym starts) file;
    sorted = IsSortedBy-filter (λ x y. is_lt (key_cmp x y)) (ranks_by key_cmp_total (λ v. v)) q h.versions h.sorted;
    members = ap (λ (s : VersionSet). retain s p) h.members ∙ retained p q same h.versions;
  }

  -- the lines from the lower bound on
  record From (from : Option Object) (start : ℕ) : Type 0 where
    rest : OplFile (drop start all) (filter (reaches from) h.versions)
    starts : start_of (drop start all) ≡ InOpl

  from_at : (from : Option Object) (start : ℕ) → BeginsAt all from start → From from start
  from_at None start is = record {
    rest = subst (λ n. OplFile (drop n all) (filter (reaches None) h.versions)) (sym is)
        (subst (OplFile all) (sym (pass_all h.versions)) lines);
    starts = ap (λ n. start_of (drop n all)) is ∙ opl;
  }
  from_at (Some bound) start at = record { rest = (at.0 h.versions lines h.sorted).1; starts = at.1.start }

  -- the lines from the upper bound on, and how the lines before them end
  record To (to : Option Object) (end : ℕ) : Type 0 where
    later : List VersionData
    rest : OplFile (drop end all) later
    whole : h.versions ≡ filter (is_under to) h.versions ++ later
    ends : (start : ℕ) → start ≤ end →
        (take (end - start) (drop start all) ≡ []) ⊎ (drop end all ≡ []) ⊎ Ended (take (end - start) (drop start all))

  -- a file in two extents
  to_at : (to : Option Object) (end : ℕ) → EndsAt all to end → To to end
  to_at None end is =
      let none : drop end all ≡ [] = nil_from_length (drop end all) (omega (arith, is, length-drop end all)) in
      record {
        later = [];
        rest = subst (λ (b : List ℕ). OplFile b []) (sym none) tt;
        whole = sym (append-nil (filter (is_under None) h.versions) ∙ pass_all h.versions);
        ends = λ start up. inr (inl none);
      }
  to_at (Some bound) end at =
      let cut = at.0 h.versions lines h.sorted in
      let ends : (start : ℕ) → start ≤ end → (take (end - start) (drop start all) ≡ []) ⊎ (drop end all ≡ [])
      ⊎ Ended (take (end - start) (drop start all)) = λ start up. part_ends all start end up at.1.line in
      let s : SplitLines all (drop end all) = record {
        front = take (end - 0) (drop 0 all);
        whole = part_whole all 0 end (omega arith);
        ends = ends 0 (omega arith);
      } in
      let v = split_versions all (drop end all) s h.versions lines in
      let same : end - 0 ≡ end = omega arith in
      let front : v.earlier ≡ filter (is_under (Some bound)) h.versions =
      one_opl (take end all) v.earlier (filter (is_under (Some bound)) h.versions)
      (subst (λ n. OplFile (take n all) v.earlier) same v.first) cut.0 in
      record { later = v.later; rest = v.second; whole = v.are ∙ ap (λ vs. vs ++ v.later) front; ends = ends }

  -- the lines from the lower bound up to the upper one
  middle : (from to : Option Object) (start end : ℕ) → start ≤ end → From from start → To to end →
      OplFile (take (end - start) (drop start all)) (filter (is_within from to) h.versions)
  middle from to start end up f t =
      let extent : List ℕ = take (end - start) (drop start all) in
      let s : SplitLines (drop start all) (drop end all) =
      record { front = extent; whole = part_whole all start end up; ends = t.ends start up } in
      let v = split_versions (drop start all) (drop end all) s (filter (reaches from) h.versions) f.rest in
      let last : v.later ≡ t.later = one_opl (drop end all) v.later t.later v.second t.rest in
      let reach : filter (reaches from) v.later ≡ v.later = passing (reaches from) v.later
      (later_pass (reaches from) v.earlier v.later
      (subst (AllByRecursion (λ w. reaches from w ≡ true)) v.are (all_pass (reaches from) h.versions))) in
      let both : v.earlier ++ v.later ≡ filter (is_within from to) h.versions ++ v.later =
      sym v.are ∙ ap (filter (reaches from)) t.whole
      ∙ filter-append (reaches from) (filter (is_under to) h.versions) t.later
      ∙ (λ i. passing_both (reaches from) (is_under to) h.versions i ++ filter (reaches from) (sym last i))
      ∙ ap (λ vs. filter (is_within from to) h.versions ++ vs) reach in
      subst (OplFile extent) (append_cancel_right v.earlier (filter (is_within from to) h.versions) v.later both) v.first

-- The extent of a sorted OPL file within a span is a sorted file, and holds the slice of what the file holds.
pub part_holds : (span : Span) (all : List ℕ) (start end : ℕ) (held : VersionSet) → start_of all ≡ InOpl → HoldsSorted all held →
    IsPartWithin span all start end → HoldsSorted (take (end - start) (drop start all)) (slice_of span.from span.to held)
part_holds span all start end held opl h within =
    let f = from_at all held h opl span.from start within.begins in
    let t = to_at all held h opl span.to end within.ends in
    piece all held h opl (take (end - start) (drop start all)) (is_within span.from span.to) (is_within span.from span.to) (λ v. refl)
    (front_starts (end - start) (drop start all) f.starts)
    (omega (arith, length-take (end - start) (drop start all), length-drop start all))
    (middle all held h opl span.from span.to start end within.ascends f t)

rises_between : (from to : Option Object) (all : List ℕ) (start end : ℕ) (versions : List VersionData) → OplFile all versions →
    IsSorted key_cmp versions → is_ascending_between from to ≡ true → BeginsAt all from start → EndsAt all to end → start ≤ end
rises_between None to all start end versions file sorted rises begins ends = omega (arith, begins)
rises_between (Some a) None all start end versions file sorted rises begins ends =
    let within = cut_within all a start (begins.0 versions file sorted).2 in omega (arith, within, ends)
rises_between (Some a) (Some b) all start end versions file sorted rises begins ends =
    cuts_rise a b (not-true _ rises) all start end versions file sorted begins.0 ends.0 ends.1.line

-- The extent of a sorted OPL file within a span doesn't end before it begins.
pub part_rises : (span : Span) (all : List ℕ) (start end : ℕ) (held : VersionSet) → is_ascending span ≡ true → start_of all ≡ InOpl →
    HoldsSorted all held → BeginsAt all span.from start → EndsAt all span.to end → start ≤ end
part_rises span all start end held rises opl h begins ends =
    rises_between span.from span.to all start end h.versions (subst (λ s. IsFileOf s all h.versions) opl h.file) h.sorted rises begins ends
