-- Each content has one result: the version that it spells, or the reason why it spells none.
use Rattle.std.proofs.Common.{◌≡◌, ◌∙◌, ◌⊎◌, inl, inr, ap, sym, refl, subst, ℕ, true, List, Result, Ok, Err}
use Rattle.osm_model.specs.declared.kind.Kind.{Kind}
use Rattle.osm_model.specs.Data.{VersionData}
use Rattle.o5_codec.specs.declared.reason.O5Reason.{O5Reason}
use Rattle.o5_codec.specs.declared.reason.O5Reason.TheVariants.{Memory}
use Rattle.o5_codec.specs.declared.read.segment.Segment.{Segment}
use Rattle.o5_codec.specs.Reason.{is_step_reason}
use Rattle.o5_codec.specs.Body.{set_at}
use Rattle.o5_codec.specs.Spelling.{SpellsSet}
use Rattle.o5_codec.specs.Refusal.{SetReason}
use Rattle.o5_codec.specs.Laws.{IsTheOnlyReason}
use Rattle.o5_codec.proofs.ResultSteps.{not_refused}
use Rattle.o5_codec.proofs.StepLaws.{set_found, set_only}
use Rattle.o5_codec.proofs.RefusalLaws.{same_reason, set_refused}
use Rattle.o5_codec.proofs.RefusalNames.{Named, set_named}

by_reading : (k : Kind) (s : Segment) (content : List ℕ) (r : Result (VersionData × Segment) O5Reason) → set_at k s content ≡ r →
    ((x : VersionData × Segment) × SpellsSet k s content x) ⊎ ((reason : O5Reason) × SetReason k s content reason)
by_reading k s content (Ok x) h = inl (x, set_found k s content x h)
by_reading k s content (Err reason) h = inr (reason, (set_refused k s content reason).0 h)

-- Each content spells a version or has a reason why it spells none.
pub either_result : (k : Kind) (s : Segment) (content : List ℕ) →
    ((x : VersionData × Segment) × SpellsSet k s content x) ⊎ ((reason : O5Reason) × SetReason k s content reason)
either_result k s content = by_reading k s content (set_at k s content) refl

not_both : (k : Kind) (s : Segment) (content : List ℕ) (reason : O5Reason) → SetReason k s content reason → (x : VersionData × Segment) →
    SpellsSet k s content x → ⊥
not_both k s content reason refused x spells = not_refused (set_at k s content) x reason (set_only k s content x spells)
    ((set_refused k s content reason).1 refused)

step_reason : (k : Kind) (s : Segment) (content : List ℕ) (reason : O5Reason) → SetReason k s content reason → is_step_reason reason ≡ true
step_reason k s content reason refused =
    let P : Result (VersionData × Segment) O5Reason → Type 0 = λ r. Named r in
    subst P ((set_refused k s content reason).1 refused) (set_named k s content)

-- A content that has a reason spells no version and has no other reason.
pub only_reason : (k : Kind) (s : Segment) (content : List ℕ) (reason : O5Reason) → SetReason k s content reason →
    IsTheOnlyReason k s content reason
only_reason k s content reason refused = record {
  spells_none = not_both k s content reason refused;
  only = λ other second. same_reason other reason (sym ((set_refused k s content other).1 second)
      ∙ (set_refused k s content reason).1 refused);
  of_a_step = step_reason k s content reason refused;
}

-- ---- a reading from a segment, and from an equal one
pub spelled_in : (k : Kind) (s other : Segment) (content : List ℕ) (x : VersionData × Segment) → s ≡ other → set_at k s content ≡ Ok x →
    SpellsSet k other content x
spelled_in k s other content x same read = set_found k other content x (ap (λ z. set_at k z content) (sym same) ∙ read)

-- A content that is refused for another reason than Memory has that reason.
pub refused_in : (k : Kind) (s other : Segment) (content : List ℕ) (reason : O5Reason) → s ≡ other →
    (reason ≡ Memory) ⊎ (set_at k s content ≡ Err reason) →
    (reason ≡ Memory) ⊎ SetReason k other content reason
refused_in k s other content reason same (inl memory) = inl memory
refused_in k s other content reason same (inr refused) =
    inr ((set_refused k other content reason).0 (ap (λ z. set_at k z content) (sym same) ∙ refused))
