-- Sources of files that have to end by a rule.
use Rattle.std.proofs.Common.{◌≡◌, ◌∙◌, sym, ap, true, ℕ, List, [], Option, Some, None, refl}
use Rattle.osm_model.specs.Data.{VersionData}
use Rattle.osm_files.specs.declared.end_rule.EndRule.{EndRule}
use Rattle.osm_files.specs.declared.reason.Reason.{Reason}
use Rattle.osm_files.specs.EndRule.{ends_well, lacks_its_end, new_test, cut_if, by_rule, by_test}
use Rattle.osm_files.specs.Groups.{ended_source, given_at, sorted_source}
use Rattle.osm_files.specs.Input.{InputRest}
use Rattle.osm_files.specs.Position.{with_rest}
use Rattle.osm_files.specs.SourceLaws.{EndedSourceGives, EndedSourceEndsWell}
use Rattle.osm_files.specs.Stream.{SourceRest}
use Rattle.osm_files.specs.declared.fault.Fault.{Fault}
use Rattle.osm_files.proofs.EndRuleLaws.{from_start, not_lacking}
use Rattle.osm_files.proofs.FailureLaws.{no_failure}
use Rattle.osm_files.proofs.FaultyLaws.{failed_is_refused}
use Rattle.osm_files.proofs.RiseLaws.{source_begins_known}

-- The test of a whole input asks for what its rule asks.
pub rest_by_rule : (end : EndRule) (c : InputRest) → by_test (new_test end) c ≡ by_rule end c
rest_by_rule end c = ap (λ t. cut_if t c) (from_start end c.bytes)

-- the list that a source gives of a whole input
ended_given : {R : Type 0} (end : EndRule) (input : ℕ) (reader : R) (c : InputRest)
    → given_at (ended_source end input reader) c ≡ Some (sorted_source input (by_rule end c))
ended_given end input reader c =
    source_begins_known (new_test end) (with_rest (ended_source end input reader).units c) [] input (Some c) refl refl
    ∙ ap (λ d. Some (sorted_source input d)) (rest_by_rule end c)

-- a source that isn't refused has an input that ends well
unfailed : (input : ℕ) (bytes : List ℕ) (failure : Option Reason)
    → (sorted_source input (record { bytes = bytes; failure = failure })).refusal ≡ None → failure ≡ None
unfailed input bytes None none = refl
unfailed input bytes (Some reason) none = absurd (failed_is_refused reason input bytes none)

-- An input isn't refused at its end only if that end isn't missing.
pub ends_by_rule : (end : EndRule) (c : InputRest) → (by_rule end c).failure ≡ None
    → (ends_well end c.bytes ≡ true) × (c.failure ≡ None) × (by_rule end c ≡ c)
ends_by_rule end c none =
    let two = no_failure (lacks_its_end end c.bytes) c.failure none in
    (not_lacking (ends_well end c.bytes) two.0, two.1, ap (λ t. cut_if t c) two.0)

module _ {R : Type 0} (can : R → InputRest → Type 0) where
  pub ended_gives : EndedSourceGives can
  ended_gives end input reader still (c, could, is) =
      let same : Some (sorted_source input (by_rule end c)) ≡ Some still = sym (ended_given end input reader c) ∙ is in
      (c, could, (let e : still ≡ sorted_source input (by_rule end c) = cc in e))

  pub ended_well : EndedSourceEndsWell can
  ended_well end input reader still gives none =
      let (c, could, is) = ended_gives end input reader still gives in
      let whole = ends_by_rule end c (unfailed input c.bytes (by_rule end c).failure
      (ap (λ (s : SourceRest VersionData Fault). s.refusal) (sym is) ∙ none)) in
      (c, could, (whole.0, is ∙ ap (sorted_source input) whole.2))
