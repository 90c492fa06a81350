-- What a source gives of the front of a sorted file, if its input fails after the front.
use Rattle.std.proofs.Common.{◌≡◌, ℕ, ◌<◌, ◌^◌, true, false, cond, List, [], ◌∷◌, ◌++◌, length, refl, sym, ap, ◌∙◌}
use Rattle.std.proofs.Common.{arith, Some, None, option_map, append_assoc, length-append, inl, inr}
use Rattle.osm_model.specs.Data.{VersionData}
use Rattle.osm_model.specs.Sets.{to_list}
use Rattle.osm_model.specs.VersionSet.{VersionSet}
use Rattle.osm_files.specs.declared.fault.Fault.{Fault}
use Rattle.osm_files.specs.declared.reason.Reason.{Reason}
use Rattle.osm_files.specs.declared.reason.Reason.TheVariants.{Unsorted}
use Rattle.osm_files.specs.Groups.{to_ascending, is_in_group, is_after_group, versions_then, groups, sorted_source}
use Rattle.osm_files.specs.Held.{HoldsSorted}
use Rattle.osm_files.specs.Input.{failed_after}
use Rattle.osm_files.specs.Position.{fault_of}
use Rattle.osm_files.specs.Stream.{Verdict, verdict_at, Placed, SourceRest, end_refused}
use Rattle.osm_files.specs.Units.{units, start_of}
use Rattle.osm_files.specs.Verdict.{file_units}
use Rattle.osm_files.proofs.FaultyLaws.{Units, Splits, splits, nothing_closes}
use Rattle.osm_files.proofs.FileLaws.{files_are_read, short_units}
use Rattle.osm_files.proofs.HoldLaws.{source_whole, source_gives_held}
use Rattle.osm_files.proofs.RiseLaws.{source_is}
use Rattle.osm_files.proofs.LoadFaults.{failed_units}

-- The versions that units give before a fault are the first ones that they and more units give.
groups_front : (input : ℕ) (fault : Fault) (us more : List Placed) (group : List VersionData) → (rest : List VersionData)
    × ((groups input None (us ++ more) group).list ≡ (groups input (Some fault) us group).list ++ rest)
groups_front input fault [] more group = ((groups input None more group).list, refl)
groups_front input fault (u ∷ us) more group =
    elim (is_in_group group u.version) as (λ t. (rest : List VersionData)
    × ((cond t (groups input None (us ++ more) (group ++ u.version ∷ []))
    (cond (is_after_group group u.version) (versions_then (to_ascending group) (groups input None (us ++ more) (u.version ∷ [])))
    (end_refused (fault_of input (verdict_at u.offset Unsorted))))).list
    ≡ (cond t (groups input (Some fault) us (group ++ u.version ∷ []))
    (cond (is_after_group group u.version) (versions_then (to_ascending group) (groups input (Some fault) us (u.version ∷ [])))
    (end_refused (fault_of input (verdict_at u.offset Unsorted))))).list ++ rest)) [
      | true ↦ groups_front input fault us more (group ++ u.version ∷ [])
      | false ↦ (elim (is_after_group group u.version) as (λ t. (rest : List VersionData)
          × ((cond t (versions_then (to_ascending group) (groups input None (us ++ more) (u.version ∷ [])))
          (end_refused (fault_of input (verdict_at u.offset Unsorted)))).list
          ≡ (cond t (versions_then (to_ascending group) (groups input (Some fault) us (u.version ∷ [])))
          (end_refused (fault_of input (verdict_at u.offset Unsorted)))).list ++ rest)) [
            | true ↦ (let h = groups_front input fault us more (u.version ∷ []) in (
              h.0,
              ap (λ vs. to_ascending group ++ vs) h.1
                  ∙ sym (append_assoc (to_ascending group) (groups input (Some fault) us (u.version ∷ [])).list h.0),
            ))
            | false ↦ ([], refl)
          ])
    ]

-- a source of bytes that are refused at their end, by the units of the bytes
failed_source : (reason : Reason) (input : ℕ) (bytes : List ℕ) → length bytes < 2 ^ 62 → sorted_source input (failed_after reason bytes)
    ≡ (let us = units (Some (verdict_at (length bytes) reason)) (start_of bytes) 0 bytes in
    groups input (option_map (fault_of input) us.refusal) us.list [])
failed_source reason input bytes short =
    source_is input (failed_after reason bytes)
    ∙ ap (λ (us : Units). groups input (option_map (fault_of input) us.refusal) us.list []) (failed_units reason bytes short)

no_bytes : (reason : Reason) (input : ℕ) → (sorted_source input (failed_after reason [])).list ≡ []
no_bytes reason input =
    ap (λ s. s.list) (failed_source reason input [] (omega arith)
    ∙ ap (λ (us : Units). groups input (option_map (fault_of input) us.refusal) us.list [])
    (nothing_closes (verdict_at 0 reason)))

module _ (reason : Reason) (input : ℕ) (b : ℕ) (bs more : List ℕ) (held : VersionSet) (h : HoldsSorted ((b ∷ bs) ++ more) held) where
  abbrev bytes : List ℕ
  bytes = b ∷ bs

  abbrev close : Verdict
  close = verdict_at (length bytes) reason

  short : length bytes < 2 ^ 62
  short = let all = h.short in omega (arith, all, length-append bytes more)

  whole_units : file_units (bytes ++ more) ≡ units None (start_of bytes) 0 (bytes ++ more)
  whole_units = short_units (bytes ++ more) h.short

  none : (units None (start_of bytes) 0 (bytes ++ more)).refusal ≡ None
  none = ap (λ us. us.refusal) (sym whole_units) ∙ (files_are_read (bytes ++ more) h.versions h.short h.file).0

  listed : to_list held ≡ (groups input None (units None (start_of bytes) 0 (bytes ++ more)).list []).list
  listed =
      ap (λ s. s.list) (sym (source_gives_held input (bytes ++ more) held h) ∙ source_whole input (bytes ++ more)
      ∙ ap (λ (us : Units). groups input (option_map (fault_of input) us.refusal) us.list []) whole_units
      ∙ ap (λ r. groups input (option_map (fault_of input) r) (units None (start_of bytes) 0 (bytes ++ more)).list []) none)

  from_front : Splits (start_of bytes) 0 bytes → (rest : List VersionData)
      × (to_list held ≡ (sorted_source input (failed_after reason bytes)).list ++ rest)
  from_front (inl c) =
      let whole = c.longer more None in
      let front = groups_front input (fault_of input close) c.list whole.0.list [] in (
        front.0,
        listed ∙ ap (λ (us : Units). (groups input None us.list []).list) whole.1 ∙ front.1
            ∙ ap (λ (s : SourceRest VersionData Fault). s.list ++ front.0)
            (sym (failed_source reason input bytes short
            ∙ ap (λ (us : Units). groups input (option_map (fault_of input) us.refusal) us.list []) (c.closes close))),
      )
  from_front (inr r) =
      absurd (let no : Some r.fault ≡ None = sym (ap (λ us. us.refusal) (r.stays more None)) ∙ none in cc)

-- The versions that a source gives of the front of a sorted file, after which its input fails, are the first ones that the
-- file holds.
pub front_given : (reason : Reason) (input : ℕ) (bytes more : List ℕ) (held : VersionSet) → HoldsSorted (bytes ++ more) held →
    (rest : List VersionData) × (to_list held ≡ (sorted_source input (failed_after reason bytes)).list ++ rest)
front_given reason input [] more held h = (to_list held, ap (λ vs. vs ++ to_list held) (sym (no_bytes reason input)))
front_given reason input (b ∷ bs) more held h =
    from_front reason input b bs more held h (splits (length (b ∷ bs)) (start_of (b ∷ bs)) 0 (b ∷ bs) (omega arith))
