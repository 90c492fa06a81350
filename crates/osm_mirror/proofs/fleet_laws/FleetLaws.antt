-- The histories of mirrors, compared with what reached them, event by event.
use Rattle.std.proofs.Common.{◌≡◌, ◌≢◌, ℕ, suc, ◌+◌, ◌<◌, ◌≤◌, Bool, true, false, not, ◌&&◌, ◌||◌, nat_eq, List, [], ◌∷◌, ◌++◌, map, length}
use Rattle.std.proofs.Common.{get_or, set, take, refl, sym, ap, ◌∙◌, subst, arith, inl, inr, All, Result, Ok, Err, IfOk, OnErr}
use Rattle.std.proofs.lemmas.Bool.{false≢true, cases_Bool, cases_lt, cond-true, cond-false, eqb-true, eqb-false, eq-eqb}
use Rattle.std.proofs.lemmas.List.{get_or-set_same, get_or-set_other, length-set, get_or_default, length-map, get_or-map, get_or-take}
use Rattle.std.proofs.lemmas.List.{length-take-le, take_more, take_all}
use Rattle.std.proofs.Math.Seq.{map-set_same}
use Rattle.std.specs.Cmp.{first_so, second_so}
use Rattle.std.specs.List.{list_any}
use Rattle.std.proofs.Math.Bool.{or_comm}
use Rattle.osm_model.specs.Data.{VersionData}
use Rattle.osm_model.specs.Order.{version_cmp, version_cmp_total}
use Rattle.osm_model.specs.VersionSet.{VersionSet}
use Rattle.osm_model.specs.Sets.{contains, empty, union, to_list}
use Rattle.osm_model.proofs.VersionLaws.{version_cmp-IsAntisymmetric}
use Rattle.osm_files.specs.declared.fault.Fault.{Fault}
use Rattle.osm_files.specs.Verdict.{held_by}
use Rattle.osm_merge.specs.Selected.{snapshot, beats}
use Rattle.osm_merge.proofs.SnapLaws.{contains-retain, snapshot_of_union, snapshot_of_snapshot}
use Rattle.osm_mirror.specs.declared.fleet.keep.Keep.{Keep}
use Rattle.osm_mirror.specs.declared.fleet.keep.Keep.TheVariants.{Full, Latest}
use Rattle.osm_mirror.specs.fleet.Event.{Event, IsWithin}
use Rattle.osm_mirror.specs.declared.fleet.event.MirrorEvent.TheVariants.{Take, Pass, Restart}
use Rattle.osm_mirror.specs.declared.fleet.event.Reply.{Reply}
use Rattle.osm_mirror.specs.declared.fleet.event.Reply.TheVariants.{Taken, Refused}
use Rattle.osm_mirror.specs.declared.fleet.keep.Taken.{Taken as Taken_of}
use Rattle.osm_mirror.specs.fleet.Mirror.{MirrorData, kept_part, new_mirror, after_taking, IsOwnSnapshot, TakesFile}
use Rattle.osm_mirror.specs.fleet.Fleet.{mirror_at, AreOwnSnapshots, mirrors_after, IsReplyTo, mirrors_after_all, AreRepliesTo, Source}
use Rattle.osm_mirror.specs.fleet.Fleet.{Track}
use Rattle.osm_mirror.specs.fleet.Fleet.{is_full, first_track}
use Rattle.osm_mirror.specs.fleet.Fleet.{with_track, tracks_after, tracks_after_all, set_of, union_of_sources, IsPart, HoldsOf, Converges}
use Rattle.osm_files.proofs.SpellLaws.{equal_sets, grouped, in_union, in_none}

-- ---- sets
turned_union : (s t : VersionSet) → union s t ≡ union t s
turned_union s t = equal_sets _ _ (λ v. in_union s t v ∙ or_comm (contains s v) (contains t v) ∙ sym (in_union t s v))

none_and : (s : VersionSet) → union empty s ≡ s
none_and s = equal_sets _ _ (λ v. in_union empty s v ∙ ap (λ (b : Bool). b || contains s v) (in_none v))

and_none : (s : VersionSet) → union s empty ≡ s
and_none s = turned_union s empty ∙ none_and s

-- ---- parts
or_parts : (a b c d : Bool) → (a ≡ true → c ≡ true) → (b ≡ true → d ≡ true) → (a || b) ≡ true → (d || c) ≡ true
or_parts true true c d f g e = ap (λ x. x || c) (g refl)
or_parts true false c true f g e = refl
or_parts true false c false f g e = f refl
or_parts false b c d f g e = ap (λ x. x || c) (g e)

part_union : (s t u w : VersionSet) → IsPart s u → IsPart t w → IsPart (union s t) (union w u)
part_union s t u w f g v e = in_union w u v ∙ or_parts _ _ _ _ (f v) (g v) (sym (in_union s t v) ∙ e)

-- A snapshot is a part of its set.
pub snapshot_part : (s : VersionSet) → IsPart (snapshot s) s
snapshot_part s v e =
    first_so _ _ (sym (contains-retain version_cmp_total version_cmp-IsAntisymmetric s (λ w. not (list_any (beats w) (to_list s))) v) ∙ e)

equal_part : (s t : VersionSet) → s ≡ t → IsPart s t
equal_part s t e v h = ap (λ u. contains u v) (sym e) ∙ h

-- ---- one mirror
latest_full : Latest ≡ Full → ⊥
latest_full e = cc

pub full_latest : Full ≡ Latest → ⊥
full_latest e = cc

-- A mirror that holds its part of u takes a set that is a part of w with the same snapshot. If the set came from a purely full mirror, it
-- is the whole of w.
module _ (u w held more : VersionSet) (p q : Bool) (part : IsPart more w) (newest : snapshot more ≡ snapshot w)
    (whole : q ≡ true → more ≡ w) where
  newest_of_both : snapshot held ≡ snapshot u → snapshot (union held more) ≡ snapshot (union w u)
  newest_of_both h =
      snapshot_of_union held more ∙ (λ i. snapshot (union (h i) (newest i))) ∙ sym (snapshot_of_union u w) ∙ ap snapshot (turned_union u w)

  pub took_holds : (keep : Keep) → HoldsOf u p (record { keep = keep; held = held })
      → HoldsOf (union w u) (q && p) (after_taking (record { keep = keep; held = held }) more)
  took_holds Full h = record {
    holds_no_more = part_union held more u w h.holds_no_more part;
    same_snapshot = newest_of_both h.same_snapshot;
    latest_exact = λ e. absurd (full_latest e);
    full_exact = λ e. (refl, (λ i. union ((h.full_exact (second_so q p e)).1 i) (whole (first_so q p e) i)) ∙ turned_union u w);
  }
  took_holds Latest h = record {
    holds_no_more = λ v e. part_union held more u w h.holds_no_more part v (snapshot_part (union held more) v e);
    same_snapshot = snapshot_of_snapshot (union held more) ∙ newest_of_both h.same_snapshot;
    latest_exact = λ _. newest_of_both h.same_snapshot;
    full_exact = λ e. absurd (latest_full (h.full_exact (second_so q p e)).0);
  }

-- a new mirror that took the history of the old one
restarted_holds : (keep : Keep) (held u : VersionSet) (p : Bool) → HoldsOf u p (record { keep = keep; held = held })
    → HoldsOf u p (after_taking (new_mirror keep) held)
restarted_holds Full held u p h = subst (λ (s : VersionSet). HoldsOf u p (record { keep = Full; held = s })) (sym (none_and held)) h
restarted_holds Latest held u p h =
    let is : snapshot (union empty held) ≡ snapshot held = ap snapshot (none_and held) in
    record {
      holds_no_more = λ v e. h.holds_no_more v (snapshot_part held v (ap (λ s. contains s v) (sym is) ∙ e));
      same_snapshot = ap snapshot is ∙ snapshot_of_snapshot held ∙ h.same_snapshot;
      latest_exact = λ _. is ∙ h.same_snapshot;
      full_exact = λ e. absurd (latest_full (h.full_exact e).0);
    }

-- a mirror before the first event
begun_holds : (keep : Keep) (held : VersionSet) → IsOwnSnapshot (record { keep = keep; held = held })
    → HoldsOf (union held empty) (is_full keep) (record { keep = keep; held = held })
begun_holds Full held h = record {
  holds_no_more = equal_part _ _ (sym (and_none held));
  same_snapshot = ap snapshot (sym (and_none held));
  latest_exact = λ e. absurd (full_latest e);
  full_exact = λ _. (refl, sym (and_none held));
}
begun_holds Latest held h = record {
  holds_no_more = equal_part _ _ (sym (and_none held));
  same_snapshot = ap snapshot (sym (and_none held));
  latest_exact = λ _. h refl ∙ ap snapshot (sym (and_none held));
  full_exact = λ e. absurd (false≢true e);
}

-- ---- kept mirrors
kept_is : (keep : Keep) (s : VersionSet) → IsOwnSnapshot (record { keep = keep; held = kept_part keep s })
kept_is Full s = λ e. absurd (full_latest e)
kept_is Latest s = λ _. sym (snapshot_of_snapshot s)

-- A mirror that took a set holds what it keeps.
pub took_kept : (m : MirrorData) (s : VersionSet) → IsOwnSnapshot (after_taking m s)
took_kept m s = kept_is m.keep (union m.held s)

none_of_none : (v : VersionData) (b : Bool) → contains {R = version_cmp} (snapshot empty) v ≡ b
    → contains {R = version_cmp} (snapshot empty) v ≡ contains {R = version_cmp} empty v
none_of_none v true e = absurd (false≢true (sym (in_none v) ∙ snapshot_part empty v e))
none_of_none v false e = e ∙ sym (in_none v)

none_newest : snapshot (empty {R = version_cmp}) ≡ empty
none_newest = equal_sets _ _ (λ v. none_of_none v (contains {R = version_cmp} (snapshot empty) v) refl)

-- A new mirror holds what it keeps.
pub fresh_kept : (keep : Keep) → IsOwnSnapshot (new_mirror keep)
fresh_kept keep = λ _. sym none_newest

pub set_kept : (mirrors : List MirrorData) (to : ℕ) (x : MirrorData) → AreOwnSnapshots mirrors → to < length mirrors → IsOwnSnapshot x
    → AreOwnSnapshots (set mirrors to x)
set_kept mirrors to x h within is = λ m below. elim (cases_Bool (nat_eq m to)) [
  | inl same ↦ subst (λ (k : ℕ). IsOwnSnapshot (mirror_at (set mirrors to x) k)) (sym (eqb-true m to same))
      (subst IsOwnSnapshot (sym (get_or-set_same mirrors to x (new_mirror Full) within)) is)
  | inr other ↦ (let apart : m ≢ to = eqb-false m to other in
      subst IsOwnSnapshot (sym (get_or-set_other mirrors to m x (new_mirror Full) apart))
      (h m (omega (arith, below, length-set mirrors to x))))
]

-- New mirrors hold what they keep.
pub all_fresh : (kinds : List Keep) → AreOwnSnapshots (map new_mirror kinds)
all_fresh kinds m below =
    subst IsOwnSnapshot (sym (get_or-map new_mirror kinds m Full (new_mirror Full) (omega (arith, below, length-map kinds new_mirror))))
    (fresh_kept (get_or kinds m Full))

-- a mirror to which a file was passed took it, or is unchanged
pub handed_kept : (mirrors : List MirrorData) (m : ℕ) (x y : MirrorData) (bytes : List ℕ) (r : Result Taken_of Fault) →
    AreOwnSnapshots mirrors
    → m < length mirrors → x ≡ get_or mirrors m x → IfOk r (TakesFile bytes x y) → OnErr r (y ≡ x) → AreOwnSnapshots (set mirrors m y)
handed_kept mirrors m x y bytes (Ok taken) h within at_m ok err =
    set_kept mirrors m y h within (subst IsOwnSnapshot (sym ok.holds) (took_kept x (held_by bytes)))
handed_kept mirrors m x y bytes (Err fault) h within at_m ok err =
    set_kept mirrors m y h within (subst IsOwnSnapshot (sym (err ∙ at_m ∙ get_or_default mirrors m x (new_mirror Full) within))
    (h m within))

-- The mirror at an index of the list is the mirror of that number.
pub here : (mirrors : List MirrorData) (m : ℕ) (x : MirrorData) → m < length mirrors → x ≡ get_or mirrors m x → x ≡ mirror_at mirrors m
here mirrors m x within at_m = at_m ∙ get_or_default mirrors m x (new_mirror Full) within

-- ---- all mirrors
pub record Each (openings : List MirrorData) (t : ℕ → Track) (mirrors : List MirrorData) : Type 0 where
  pub each : (m : ℕ) → m < length mirrors → HoldsOf (union_of_sources openings (t m).reach) (t m).pure (mirror_at mirrors m)

united_both : (openings : List MirrorData) (r s : List Source) →
    union_of_sources openings (r ++ s) ≡ union (union_of_sources openings r) (union_of_sources openings s)
united_both openings [] s = sym (none_and (union_of_sources openings s))
united_both openings (x ∷ r) s =
    ap (union (set_of openings x)) (united_both openings r s)
    ∙ sym (grouped (set_of openings x) (union_of_sources openings r) (union_of_sources openings s))

-- one mirror changes, and at most its track
changed_each : (openings mirrors : List MirrorData) (t t2 : ℕ → Track) (to : ℕ) (x : MirrorData) → Each openings t mirrors
    → to < length mirrors → HoldsOf (union_of_sources openings (t2 to).reach) (t2 to).pure x → ((k : ℕ) → nat_eq k to ≡ false → t2 k ≡ t k)
    → Each openings t2 (set mirrors to x)
changed_each openings mirrors t t2 to x h within new others = record {
  each = λ m below. elim (cases_Bool (nat_eq m to)) [
    | inl is ↦ subst (λ (k : ℕ). HoldsOf (union_of_sources openings (t2 k).reach) (t2 k).pure (mirror_at (set mirrors to x) k))
        (sym (eqb-true m to is))
        (subst (λ (y : MirrorData). HoldsOf (union_of_sources openings (t2 to).reach) (t2 to).pure y)
        (sym (get_or-set_same mirrors to x (new_mirror Full) within)) new)
    | inr not ↦ (let apart : m ≢ to = eqb-false m to not in
        subst (λ (y : MirrorData). HoldsOf (union_of_sources openings (t2 m).reach) (t2 m).pure y)
        (sym (get_or-set_other mirrors to m x (new_mirror Full) apart))
        (subst (λ (y : Track). HoldsOf (union_of_sources openings y.reach) y.pure (mirror_at mirrors m)) (sym (others m not))
        (h.each m (omega (arith, below, length-set mirrors to x)))))
  ];
}

retracked_here : (t : ℕ → Track) (m : ℕ) (x : Track) → with_track t m x m ≡ x
retracked_here t m x = cond-true (nat_eq m m) x (t m) (eq-eqb m m refl)

retracked_each : (openings mirrors : List MirrorData) (t : ℕ → Track) (to : ℕ) (x : MirrorData) (track : Track) → Each openings t mirrors
    → to < length mirrors → HoldsOf (union_of_sources openings track.reach) track.pure x →
    Each openings (with_track t to track) (set mirrors to x)
retracked_each openings mirrors t to x track h within new =
    changed_each openings mirrors t (with_track t to track) to x h within
    (subst (λ (y : Track). HoldsOf (union_of_sources openings y.reach) y.pure x) (sym (retracked_here t to track)) new)
    (λ k other. cond-false (nat_eq k to) track (t k) other)

-- ---- one event
after_each : (openings mirrors : List MirrorData) (t : ℕ → Track) (e : Event) (r : Reply) → IsWithin (length mirrors) e
    → Each openings t mirrors → Each openings (tracks_after t e r) (mirrors_after mirrors e r)
after_each openings mirrors t (Take m file) Taken within h =
    retracked_each openings mirrors t m _ _ h within
    (took_holds (union_of_sources openings (t m).reach) (held_by file.now) (mirror_at mirrors m).held (held_by file.now) (t m).pure true
    (λ v e. e) refl
    (λ _. refl) (mirror_at mirrors m).keep (h.each m within))
after_each openings mirrors t (Pass from to format) Taken within h =
    let sent = h.each from within.0 in
    retracked_each openings mirrors t to _ _ h within.1
    (subst (λ (u : VersionSet). HoldsOf u ((t from).pure && (t to).pure)
    (after_taking (mirror_at mirrors to) (mirror_at mirrors from).held))
    (sym (united_both openings (t from).reach (t to).reach))
    (took_holds (union_of_sources openings (t to).reach) (union_of_sources openings (t from).reach) (mirror_at mirrors to).held
    (mirror_at mirrors from).held (t to).pure
    (t from).pure sent.holds_no_more sent.same_snapshot (λ e. (sent.full_exact e).1) (mirror_at mirrors to).keep (h.each to within.1)))
after_each openings mirrors t (Restart m format) Taken within h =
    changed_each openings mirrors t t m _ h within
    (restarted_holds (mirror_at mirrors m).keep (mirror_at mirrors m).held (union_of_sources openings (t m).reach) (t m).pure
    (h.each m within)) (λ k _. refl)
after_each openings mirrors t (Take m file) (Refused fault) within h = h
after_each openings mirrors t (Pass from to format) (Refused fault) within h = h
after_each openings mirrors t (Restart m format) (Refused fault) within h = h

abbrev kinds_of : List MirrorData → List Keep
kinds_of mirrors = map (λ m. m.keep) mirrors

pub set_kinds : (mirrors : List MirrorData) (m : ℕ) (x : MirrorData) → m < length mirrors → x.keep ≡ (mirror_at mirrors m).keep
    → kinds_of (set mirrors m x) ≡ kinds_of mirrors
set_kinds mirrors m x within same = map-set_same (λ y. y.keep) mirrors m x (new_mirror Full) same

after_kinds : (mirrors : List MirrorData) (e : Event) (r : Reply) → IsWithin (length mirrors) e
    → kinds_of (mirrors_after mirrors e r) ≡ kinds_of mirrors
after_kinds mirrors (Take m file) Taken within = set_kinds mirrors m _ within refl
after_kinds mirrors (Pass from to format) Taken within = set_kinds mirrors to _ within.1 refl
after_kinds mirrors (Restart m format) Taken within = set_kinds mirrors m _ within refl
after_kinds mirrors (Take m file) (Refused fault) within = refl
after_kinds mirrors (Pass from to format) (Refused fault) within = refl
after_kinds mirrors (Restart m format) (Refused fault) within = refl

after_number : (mirrors : List MirrorData) (e : Event) (r : Reply) → length (mirrors_after mirrors e r) ≡ length mirrors
after_number mirrors (Take m file) Taken = length-set mirrors m _
after_number mirrors (Pass from to format) Taken = length-set mirrors to _
after_number mirrors (Restart m format) Taken = length-set mirrors m _
after_number mirrors (Take m file) (Refused fault) = refl
after_number mirrors (Pass from to format) (Refused fault) = refl
after_number mirrors (Restart m format) (Refused fault) = refl

-- ---- all events
first_within : (count : ℕ) (e : Event) (es : List Event) → All (IsWithin count) (e ∷ es) → IsWithin count e
first_within count e es h = h 0 e (omega arith)

rest_within : (count : ℕ) (e : Event) (es : List Event) → All (IsWithin count) (e ∷ es) → All (IsWithin count) es
rest_within count e es h = λ k d inside. h (suc k) d (omega (arith, inside))

same_within : (count count2 : ℕ) (es : List Event) → count2 ≡ count → All (IsWithin count) es → All (IsWithin count2) es
same_within count count2 es e h = subst (λ (n : ℕ). All (IsWithin n) es) (sym e) h

all_each : (openings mirrors : List MirrorData) (t : ℕ → Track) (es : List Event) (rs : List Reply) → All (IsWithin (length mirrors)) es
    → Each openings t mirrors → Each openings (tracks_after_all t es rs) (mirrors_after_all mirrors es rs)
all_each openings mirrors t [] [] within h = h
all_each openings mirrors t [] (r ∷ rs) within h = h
all_each openings mirrors t (e ∷ es) [] within h = h
all_each openings mirrors t (e ∷ es) (r ∷ rs) within h =
    all_each openings (mirrors_after mirrors e r) (tracks_after t e r) es rs
    (same_within (length mirrors) (length (mirrors_after mirrors e r)) es (after_number mirrors e r)
    (rest_within (length mirrors) e es within))
    (after_each openings mirrors t e r (first_within (length mirrors) e es within) h)

all_kinds : (mirrors : List MirrorData) (es : List Event) (rs : List Reply) → All (IsWithin (length mirrors)) es
    → kinds_of (mirrors_after_all mirrors es rs) ≡ kinds_of mirrors
all_kinds mirrors [] [] within = refl
all_kinds mirrors [] (r ∷ rs) within = refl
all_kinds mirrors (e ∷ es) [] within = refl
all_kinds mirrors (e ∷ es) (r ∷ rs) within =
    all_kinds (mirrors_after mirrors e r) es rs
    (same_within (length mirrors) (length (mirrors_after mirrors e r)) es (after_number mirrors e r)
    (rest_within (length mirrors) e es within))
    ∙ after_kinds mirrors e r (first_within (length mirrors) e es within)

begun_each : (mirrors : List MirrorData) → AreOwnSnapshots mirrors → Each mirrors (first_track mirrors) mirrors
begun_each mirrors h = record { each = λ m below. begun_holds (mirror_at mirrors m).keep (mirror_at mirrors m).held (h m below) }

-- mirrors with the histories that the events lead to converge
pub converges : (old : List MirrorData) (events : List Event) (replies : List Reply) (new : List MirrorData) → AreOwnSnapshots old
    → All (IsWithin (length old)) events → AreRepliesTo old events replies → new ≡ mirrors_after_all old events replies
    → Converges old events replies new
converges old events replies new h within replied is =
    subst (Converges old events replies) (sym is)
    (record {
      replied = replied;
      mirrors = refl;
      kinds = all_kinds old events replies within;
      each = (all_each old old (first_track old) events replies within (begun_each old h)).each;
    })

-- ---- one more event
mirrors_more : (mirrors : List MirrorData) (es : List Event) (rs : List Reply) (e : Event) (r : Reply) → AreRepliesTo mirrors es rs
    → mirrors_after_all mirrors (es ++ e ∷ []) (rs ++ r ∷ []) ≡ mirrors_after (mirrors_after_all mirrors es rs) e r
mirrors_more mirrors [] [] e r h = refl
mirrors_more mirrors [] (x ∷ rs) e r h = absurd h
mirrors_more mirrors (x ∷ es) [] e r h = absurd h
mirrors_more mirrors (x ∷ es) (y ∷ rs) e r h = mirrors_more (mirrors_after mirrors x y) es rs e r h.1

replies_more : (mirrors : List MirrorData) (es : List Event) (rs : List Reply) (e : Event) (r : Reply) → AreRepliesTo mirrors es rs
    → IsReplyTo (mirrors_after_all mirrors es rs) e r → AreRepliesTo mirrors (es ++ e ∷ []) (rs ++ r ∷ [])
replies_more mirrors [] [] e r h a = (a, tt)
replies_more mirrors [] (y ∷ rs) e r h a = absurd h
replies_more mirrors (x ∷ es) [] e r h a = absurd h
replies_more mirrors (x ∷ es) (y ∷ rs) e r h a = (h.0, replies_more (mirrors_after mirrors x y) es rs e r h.1 a)

all_number : (mirrors : List MirrorData) (es : List Event) (rs : List Reply) → length (mirrors_after_all mirrors es rs) ≡ length mirrors
all_number mirrors [] [] = refl
all_number mirrors [] (r ∷ rs) = refl
all_number mirrors (e ∷ es) [] = refl
all_number mirrors (e ∷ es) (r ∷ rs) = all_number (mirrors_after mirrors e r) es rs ∙ after_number mirrors e r

-- ---- whether events may be run
pub within_more : (count : ℕ) (es : List Event) (i : ℕ) (d : Event) → All (IsWithin count) (take i es) → i < length es
    → IsWithin count (get_or es i d) → All (IsWithin count) (take (i + 1) es)
within_more count es i d all below here = λ k e inside.
    let low : k < i + 1 = omega (arith, inside, length-take-le (i + 1) es (omega (arith, below))) in
    subst (IsWithin count) (sym (get_or-take (i + 1) es k e low)) (elim (cases_lt k i) [
      | inl less ↦ subst (IsWithin count) (get_or-take i es k e less)
          (all k e (omega (arith, less, length-take-le i es (omega (arith, below)))))
      | inr more ↦ (let same : k ≡ i = omega (arith, low, more) in
          subst (λ (n : ℕ). IsWithin count (get_or es n e)) (sym same) (subst (IsWithin count) (get_or_default es i d e below) here))
    ])

-- ---- the loop over events
-- the first `i` events ran, each with its reply, and there is room for all replies
pub record IsRunning (old : List MirrorData) (events : List Event) (i : ℕ) (replies : List Reply) (count space : ℕ)
    (mid : List MirrorData) : Type 0 where
  pub replied : AreRepliesTo old (take i events) replies
  pub mirrors : mid ≡ mirrors_after_all old (take i events) replies
  pub filled : count ≡ i
  pub enough : length events ≤ space

module _ (old mid : List MirrorData) (events : List Event) (i : ℕ) (replies : List Reply) (count space : ℕ)
    (h : IsRunning old events i replies count space mid) where
  -- An event of a list names mirrors of the fleet.
  pub event_within : (d : Event) → i < length events → All (IsWithin (length old)) events → IsWithin (length mid) (get_or events i d)
  event_within d below all =
      subst (λ (n : ℕ). IsWithin n (get_or events i d)) (sym (ap length h.mirrors ∙ all_number old (take i events) replies)) (all i d below)

  -- One more event got its reply.
  pub run_goes_on : (new : List MirrorData) (d : Event) (r : Reply) (replies2 : List Reply) (count2 space2 : ℕ) → i < length events
      → IsReplyTo mid (get_or events i d) r → new ≡ mirrors_after mid (get_or events i d) r →
      replies2 ≡ replies ++ r ∷ [] → count2 ≡ count + 1 → space2 ≡ space → IsRunning old events (i + 1) replies2 count2 space2 new
  run_goes_on new d r replies2 count2 space2 below result is more longer same =
      let now : IsReplyTo (mirrors_after_all old (take i events) replies) (get_or events i d) r =
      subst (λ (ms : List MirrorData). IsReplyTo ms (get_or events i d) r) h.mirrors result in
      let P : List Event → List Reply → Type 0 = λ es rs. AreRepliesTo old es rs × (new ≡ mirrors_after_all old es rs) in
      let next : P (take i events ++ get_or events i d ∷ []) (replies ++ r ∷ []) = (
        replies_more old (take i events) replies (get_or events i d) r h.replied now,
        is ∙ ap (λ ms. mirrors_after ms (get_or events i d) r) h.mirrors
            ∙ sym (mirrors_more old (take i events) replies (get_or events i d) r h.replied),
      ) in
      let both : P (take (i + 1) events) replies2 =
      subst (λ (es : List Event). P es replies2) (sym (take_more events i d below))
      (subst (λ (rs : List Reply). P (take i events ++ get_or events i d ∷ []) rs) (sym more) next) in
      record { replied = both.0; mirrors = both.1; filled = omega (arith, h.filled, longer); enough = omega (arith, h.enough, same) }

  -- Once each event got its reply, the mirrors converge.
  pub run_ends : AreOwnSnapshots old → All (IsWithin (length old)) events → length events ≤ i → Converges old events replies mid
  run_ends kept_part within end =
      let all : take i events ≡ events = take_all i events end in
      converges old events replies mid kept_part within (subst (λ (es : List Event). AreRepliesTo old es replies) all h.replied)
      (h.mirrors ∙ ap (λ es. mirrors_after_all old es replies) all)
