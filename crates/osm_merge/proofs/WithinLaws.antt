-- Calls of a source within a span.
use Rattle.std.proofs.Common.{◌≡◌, inl, inr, ⊎_elim, ◌≤◌, ℕ, Bool, true, false, refl, ap, ◌∙◌, Some, None, Ok, Err}
use Rattle.std.proofs.Common.{if◌then◌else◌}
use Rattle.osm_model.specs.Data.{VersionData}
use Rattle.osm_files.specs.declared.fault.Fault.{Fault}
use Rattle.osm_files.specs.Fault.{failed_fault}
use Rattle.osm_files.specs.Input.{Explained}
use Rattle.osm_files.specs.Source.{SourceStep, SourceSteps}
use Rattle.osm_files.specs.Stream.{end_whole, front, end_refused}
use Rattle.osm_merge.specs.declared.span.Span.{Span}
use Rattle.osm_merge.specs.declared.within.Outside.TheVariants as outside
use Rattle.osm_merge.specs.declared.within.State.{State}
use Rattle.osm_merge.specs.declared.within.State.TheVariants as state
use Rattle.osm_merge.specs.declared.within.Within.{Within}
use Rattle.osm_merge.specs.Slice.{is_under, is_within}
use Rattle.osm_merge.specs.ToCome.{VersionsToCome}
use Rattle.osm_merge.specs.Within.{from_bound, up_to, dropped_outside, refused_outside, stray_fault, still_in, still_within}
use Rattle.osm_merge.specs.Within.{WithinCanGive}

-- between two states of a source, only versions below the span were dropped
pub record Skipping {S : Type 0} (can : S → VersionsToCome → Type 0) (left : S → ℕ) (span : Span) (before now : S) : Type 0 where
  pub keeps : Explained (can before) (can now) (λ earlier later. from_bound span earlier ≡ from_bound span later)
  pub fewer : left now ≤ left before

-- a source within a span after a call, which changes its source and its state
abbrev pub moved : {S : Type 0} → Within S → S → State → Within S
moved w s state = record { source = s; input = w.input; span = w.span; outside = w.outside; state = state }

module _ {S : Type 0} (can : S → VersionsToCome → Type 0) (w : Within S) (s : S) (opened : w.state ≡ state.Open) where
  module _ (is : w.outside ≡ outside.Dropped) where
    dropping : (c : VersionsToCome) → still_within (moved w s w.state) c ≡ dropped_outside w.span c
    dropping c = λ i. still_in (opened i) (is i) w.input w.span c

    -- the next version is below the upper bound
    pub drop_gives : (v : VersionData) → is_under w.span.to v ≡ true → Explained (can w.source) (can s) (λ a b.
        SourceStep (Some (from_bound w.span a)) (Ok (Some v)) (Some (from_bound w.span b))) → Explained (can w.source) (can s) (λ a b.
        SourceStep (Some (dropped_outside w.span a)) (Ok (Some v)) (Some (still_within (moved w s w.state) b)))
    drop_gives v under step b can_give =
        let y = step b can_give in
        let t = y.2.0 in
        let others : t ≡ from_bound w.span b = cc in
        let below : VersionData → Bool = is_under w.span.to in (
          y.0,
          y.1,
          (
            dropped_outside w.span b,
            ap (λ f. up_to below end_whole f.refusal f.list) y.2.1
                ∙ ap (λ u. if u then front v (up_to below end_whole t.refusal t.list) else end_whole) under
                ∙ ap (λ f. front v (up_to below end_whole f.refusal f.list)) others,
            ap Some (dropping b),
          ),
        )

    -- the source has ended
    pub drop_ends : Explained (can w.source) (can s) (λ a b.
        SourceStep (Some (from_bound w.span a)) (Ok None) (Some (from_bound w.span b))) → Explained (can w.source) (can s) (λ a b.
        SourceStep (Some (dropped_outside w.span a)) (Ok None) (Some (still_within (moved w s w.state) b)))
    drop_ends step b can_give =
        let y = step b can_give in
        let none : from_bound w.span b ≡ end_whole = cc in
        let below : VersionData → Bool = is_under w.span.to in (
          y.0,
          y.1,
          (
            ap (λ f. up_to below end_whole f.refusal f.list) y.2.0,
            ap Some (dropping b ∙ ap (λ f. up_to below end_whole f.refusal f.list) none),
          ),
        )

  -- the source was refused
  pub drop_refused : (fault : Fault) → Explained (can w.source) (can s) (λ a b.
      SourceStep (Some (from_bound w.span a)) (Err fault) (Some (from_bound w.span b))) → Explained (can w.source) (can s) (λ a b.
      SourceStep (Some (dropped_outside w.span a)) (Err fault) (Some (still_within (moved w s state.Failed) b)))
  drop_refused fault step b can_give =
      let y = step b can_give in (
        y.0,
        y.1,
        (
          ⊎_elim (λ e. inl e) (λ e. inr (ap (λ f. up_to (is_under w.span.to) end_whole f.refusal f.list) e)) y.2.0,
          (w.input, refl),
        ),
      )

  module _ (is : w.outside ≡ outside.Refused) where
    refusing : (c : VersionsToCome) → still_within (moved w s w.state) c ≡ refused_outside w.input w.span c
    refusing c = λ i. still_in (opened i) (is i) w.input w.span c

    -- the next version is within the span
    pub piece_gives : (v : VersionData) → is_within w.span.from w.span.to v ≡ true →
        Explained (can w.source) (can s) (λ a b. SourceStep (Some a) (Ok (Some v)) (Some b)) → Explained (can w.source) (can s) (λ a b.
        SourceStep (Some (refused_outside w.input w.span a)) (Ok (Some v)) (Some (still_within (moved w s w.state) b)))
    piece_gives v inside step b can_give =
        let y = step b can_give in
        let t = y.2.0 in
        let others : t ≡ b = cc in
        let p : VersionData → Bool = is_within w.span.from w.span.to in
        let end : VersionsToCome = end_refused (stray_fault w.input) in (
          y.0,
          y.1,
          (
            refused_outside w.input w.span b,
            ap (λ f. up_to p end f.refusal f.list) y.2.1
                ∙ ap (λ u. if u then front v (up_to p end t.refusal t.list) else end) inside
                ∙ ap (λ f. front v (up_to p end f.refusal f.list)) others,
            ap Some (refusing b),
          ),
        )

  -- the next version is outside
  pub piece_strays : (v : VersionData) → is_within w.span.from w.span.to v ≡ false →
      Explained (can w.source) (can s) (λ a b. SourceStep (Some a) (Ok (Some v)) (Some b)) → Explained (can w.source) (can s) (λ a b.
      SourceStep {A = VersionData} (Some (refused_outside w.input w.span a)) (Err (stray_fault w.input))
      (Some (still_within (moved w s state.Failed) b)))
  piece_strays v outside step b can_give =
      let y = step b can_give in
      let t = y.2.0 in
      let p : VersionData → Bool = is_within w.span.from w.span.to in
      let end : VersionsToCome = end_refused (stray_fault w.input) in (
        y.0,
        y.1,
        (
          inr (ap (λ f. up_to p end f.refusal f.list) y.2.1
              ∙ ap (λ u. if u then front v (up_to p end t.refusal t.list) else end) outside),
          (w.input, refl),
        ),
      )

  -- A source that refuses a call refuses it also within a span.
  pub piece_refused : (fault : Fault) → Explained (can w.source) (can s) (λ a b. SourceStep (Some a) (Err fault) (Some b)) →
      Explained (can w.source) (can s) (λ a b.
      SourceStep (Some (refused_outside w.input w.span a)) (Err fault) (Some (still_within (moved w s state.Failed) b)))
  piece_refused fault step b can_give =
      let y = step b can_give in
      let p : VersionData → Bool = is_within w.span.from w.span.to in
      let end : VersionsToCome = end_refused (stray_fault w.input) in (
        y.0,
        y.1,
        (
          ⊎_elim (λ e. inl e) (λ e. inr (ap (λ f. up_to p end f.refusal f.list) e)) y.2.0,
          (w.input, refl),
        ),
      )

-- after a refusal each call is refused as Failed
pub stays_failed : {S : Type 0} (can : S → VersionsToCome → Type 0) (w : Within S) → w.state ≡ state.Failed →
    SourceSteps {A = VersionData} (WithinCanGive can) w (Err (failed_fault w.input)) w
stays_failed can w failed later (c, can_give, is) =
    let now : later ≡ end_refused (failed_fault w.input) = is ∙ ap (λ t. still_in t w.outside w.input w.span c) failed in
    (later, (c, can_give, is), (inr now, (w.input, ap Some now)))
