-- The versions that a selection passes and puts, that the sink takes them, and the bytes written before a fault.
use Rattle.std.proofs.Common.{◌≡◌, ℕ, true, false, cond, List, [], ◌∷◌, ◌++◌, refl, sym, subst, Option, Some, None}
use Rattle.std.proofs.lemmas.Bool.{false≢true}
use Rattle.osm_model.specs.Data.{VersionData}
use Rattle.osm_files.specs.declared.format.Format.{Format}
use Rattle.osm_files.specs.Output.{Change}
use Rattle.osm_files.specs.Spell.{open_file_bytes}
use Rattle.osm_files.specs.Sink.{SinkState, HasPut, MayFollow}
use Rattle.osm_files.proofs.SpellLaws.{each_may_follow}
use Rattle.osm_merge.specs.declared.selection.Selection.{Selection}
use Rattle.osm_merge.specs.declared.selection.Selection.TheVariants as selections
use Rattle.osm_merge.specs.Pass.{passes, passing_versions, passes_all, put_of, puts_at_once, is_met, pending_next}
use Rattle.osm_merge.specs.Put.{TakesEach}
use Rattle.osm_merge.specs.Merged.{versions_up_to, written_so_far, written_before}
use Rattle.osm_merge.proofs.Settling.{AscendAfter}

-- A selection that passes all versions passes each.
pub all_pass : (selection : Selection) → passes_all selection ≡ true → (v : VersionData) → passes selection v ≡ true
all_pass selections.All h v = refl
all_pass selections.Visible h v = absurd (false≢true h)
all_pass selections.Newest h v = refl
all_pass selections.NewestVisible h v = refl
all_pass (selections.State t) h v = absurd (false≢true h)
all_pass (selections.StateVisible t) h v = absurd (false≢true h)
all_pass (selections.Between from to) h v = refl

-- A selection that puts versions at once passes each.
pub at_once_pass : (selection : Selection) → puts_at_once selection ≡ true → (v : VersionData) → passes selection v ≡ true
at_once_pass selections.All h v = refl
at_once_pass selections.Visible h v = absurd (false≢true h)
at_once_pass selections.Newest h v = absurd (false≢true h)
at_once_pass selections.NewestVisible h v = absurd (false≢true h)
at_once_pass (selections.State t) h v = absurd (false≢true h)
at_once_pass (selections.StateVisible t) h v = absurd (false≢true h)
at_once_pass (selections.Between from to) h v = absurd (false≢true h)

-- After a version that passes there is a pending version.
pub some_pending : (selection : Selection) (last : Option VersionData) (v : VersionData) → passes selection v ≡ true
    → pending_next selection last v ≡ None → ⊥
some_pending selection None v pass e =
    elim (passes selection v) as (λ b. b ≡ true → cond b (Some v) None ≡ None → ⊥) [
      | true ↦ λ h e. cc
      | false ↦ λ h e. absurd (false≢true h)
    ] pass e
some_pending selection (Some l) v pass e =
    elim (is_met selection (Some l) v) as (λ b. cond b (Some v) (Some l) ≡ None → ⊥) [
      | true ↦ λ e. cc
      | false ↦ λ e. cc
    ] e

-- The sink takes versions that ascend after those it has put.
pub takes_each : (format : Format) (number : ℕ) (put : List VersionData) (change : Change) (sink : SinkState)
    → HasPut format number put change sink → (versions : List VersionData) → AscendAfter put versions → TakesEach versions sink
takes_each format number put change sink has [] h = tt
takes_each format number put change sink has (v ∷ vs) h = (
  (λ going. subst (λ (s : SinkState). MayFollow v s.encoder) (sym has.state) (each_may_follow format put [] v h.0)),
  takes_each format number put change sink has vs h.1,
)

-- A list isn't empty.
abbrev pub IsFull : List VersionData → Type 0
IsFull [] = ⊥
IsFull (v ∷ vs) = Unit {0}

-- A list that doesn't equal the empty list isn't empty.
pub is_full : (versions : List VersionData) → (versions ≡ [] → ⊥) → IsFull versions
is_full [] h = h refl
is_full (v ∷ vs) h = tt

so_far : (format : Format) (versions : List VersionData) → IsFull versions →
    written_so_far format versions ≡ open_file_bytes format versions
so_far format [] h = absurd h
so_far format (v ∷ vs) h = refl

-- The bytes written before a source fails after the version `v` are those of an unended file of the versions put so far.
pub before_is : (selection : Selection) (format : Format) (v : VersionData) (versions : List VersionData)
    → (puts_at_once selection ≡ true → IsFull (versions_up_to (Some v) versions))
    → written_before selection format (Some v) versions ≡ open_file_bytes format
    (put_of selection (passing_versions selection (versions_up_to (Some v) versions)))
before_is selections.All format v versions f = so_far format (versions_up_to (Some v) versions) (f refl)
before_is selections.Visible format v versions f = refl
before_is selections.Newest format v versions f = refl
before_is selections.NewestVisible format v versions f = refl
before_is (selections.State t) format v versions f = refl
before_is (selections.StateVisible t) format v versions f = refl
before_is (selections.Between from to) format v versions f = refl

-- A list with a last version isn't empty.
pub not_nothing : (front : List VersionData) (v : VersionData) → front ++ v ∷ [] ≡ [] → ⊥
not_nothing [] v e = cc
not_nothing (u ∷ us) v e = cc
