-- The versions put once some versions were met, and one more.
use Rattle.std.proofs.Common.{◌≡◌, Bool, true, false, cond, List, [], ◌∷◌, ◌++◌, refl, sym, ap, ◌∙◌, subst, Option, Some, None}
use Rattle.std.proofs.Common.{append_assoc}
use Rattle.std.proofs.lemmas.List.{append-nil}
use Rattle.std.specs.declared.cmp.Ordering.{Ordering}
use Rattle.std.specs.declared.cmp.Ordering.TheVariants.{Less}
use Rattle.std.specs.List.{AllByRecursion}
use Rattle.std.specs.List.Sorted.{IsStrictlySortedBy}
use Rattle.osm_model.specs.Data.{VersionData}
use Rattle.osm_merge.specs.declared.selection.Selection.{Selection}
use Rattle.osm_merge.specs.declared.selection.Selection.TheVariants.{All, Visible, Newest, NewestVisible, State, StateVisible, Between}
use Rattle.osm_model.specs.Order.{version_cmp}
use Rattle.osm_files.proofs.GroupLaws.{all_append}
use Rattle.osm_merge.specs.Members.{first}
use Rattle.osm_merge.specs.Pass.{keeps, singleton_if, versions_that_stay, decided_versions, settled_versions, puts_at_once, put_of}
use Rattle.osm_merge.specs.Pass.{pending_if_kept, put_at, put_at_end, versions_put, is_met}
use Rattle.osm_merge.specs.Pass.{met_next}
use Rattle.osm_merge.proofs.State.{Ends}
use Rattle.osm_merge.proofs.AscendingLaws.{one_ascends, first_below, rest_ascends}
use Rattle.osm_merge.proofs.PassLaws.{keep_all, kept_end, settled_next}

-- ---- the output of a pass ascends
all_only : {K : Type 0} (P : K → Type 0) (b : Bool) (x : K) → P x → AllByRecursion P (singleton_if b x)
all_only P true x h = (h, tt)
all_only P false x h = tt

all_decided : {K : Type 0} (keeps : K → Option K → Bool) (P : K → Type 0) (x : K) (rest : Option K) → P x →
    AllByRecursion P (decided_versions keeps x rest)
all_decided keeps P x None h = tt
all_decided keeps P x (Some w) h = all_only P (keeps x (Some w)) x h

all_settled : {K : Type 0} (keeps : K → Option K → Bool) (P : K → Type 0) (xs : List K) → AllByRecursion P xs →
    AllByRecursion P (settled_versions keeps xs)
all_settled keeps P [] h = tt
all_settled keeps P (x ∷ xs) h = all_append P (decided_versions keeps x (first xs)) (settled_versions keeps xs)
    (all_decided keeps P x (first xs) h.0)
    (all_settled keeps P xs h.1)

all_front : {K : Type 0} (P : K → Type 0) (front : List K) (l : K) → AllByRecursion P (front ++ l ∷ []) → P l
all_front P [] l h = h.0
all_front P (x ∷ front) l h = all_front P front l h.1

-- an ascending list after a version that is below all of its items
module _ {K : Type 0} (R : K → K → Ordering) where
  ascends_after : (xs ys : List K) (x : K) → AllByRecursion (λ y. R x y ≡ Less) ys → IsStrictlySortedBy R ys →
      IsStrictlySortedBy R (x ∷ ys)
  unfolding IsStrictlySortedBy
  ascends_after xs ys x h k = (h, k)

  decided_ascends : (keeps : K → Option K → Bool) (x : K) (rest : Option K) (ys : List K) → AllByRecursion (λ y. R x y ≡ Less) ys →
      IsStrictlySortedBy R ys → IsStrictlySortedBy R (decided_versions keeps x rest ++ ys)
  decided_ascends keeps x None ys h k = k
  decided_ascends keeps x (Some w) ys h k =
      elim (keeps x (Some w)) as (λ b. IsStrictlySortedBy R (singleton_if b x ++ ys)) [
        | true ↦ ascends_after ys ys x h k
        | false ↦ k
      ]

  -- the settled versions, and the pending one after them
  pub settled_ascends : (keeps : K → Option K → Bool) (front : List K) (l : K) → IsStrictlySortedBy R (front ++ l ∷ []) →
      IsStrictlySortedBy R (settled_versions keeps (front ++ l ∷ []) ++ l ∷ [])
  settled_ascends keeps [] l h = one_ascends R l
  settled_ascends keeps (x ∷ front) l h =
      let below = first_below R x (front ++ l ∷ []) h in
      subst (IsStrictlySortedBy R) (sym (append_assoc (decided_versions keeps x (first (front ++ l ∷ [])))
      (settled_versions keeps (front ++ l ∷ []))
      (l ∷ [])))
      (decided_ascends keeps x (first (front ++ l ∷ [])) (settled_versions keeps (front ++ l ∷ []) ++ l ∷ [])
      (all_append (λ y. R x y ≡ Less) (settled_versions keeps (front ++ l ∷ [])) (l ∷ [])
      (all_settled keeps (λ y. R x y ≡ Less) (front ++ l ∷ []) below) (all_front (λ y. R x y ≡ Less) front l below, tt))
      (settled_ascends keeps front l (rest_ascends R x (front ++ l ∷ []) h)))

-- ---- a turn
-- each of some versions ascends after the versions that were put
abbrev pub AscendAfter : List VersionData → List VersionData → Type 0
AscendAfter put versions = AllByRecursion (λ v. IsStrictlySortedBy version_cmp (put ++ v ∷ [])) versions

pending_may_follow : (selection : Selection) (pending rest : Option VersionData) (met : List VersionData) → Ends pending met →
    IsStrictlySortedBy version_cmp met → AscendAfter (settled_versions (keeps selection) met) (pending_if_kept selection pending rest)
pending_may_follow selection None rest met e h = tt
pending_may_follow selection (Some l) rest met e h =
    all_only (λ v. IsStrictlySortedBy version_cmp (settled_versions (keeps selection) met ++ v ∷ [])) (keeps selection l rest) l
    (subst (λ t. IsStrictlySortedBy version_cmp (settled_versions (keeps selection) t ++ l ∷ [])) (sym e.1)
    (settled_ascends version_cmp (keeps selection) (e.0) l (subst (IsStrictlySortedBy version_cmp) e.1 h)))

-- The versions put when a version is met ascend after those put before.
pub may_put : (selection : Selection) (pending : Option VersionData) (v : VersionData) (met : List VersionData) → Ends pending met →
    IsStrictlySortedBy version_cmp met → IsStrictlySortedBy version_cmp (met ++ v ∷ []) →
    AscendAfter (put_of selection met) (put_at selection pending v)
may_put selection pending v met e h up =
    elim (puts_at_once selection) as (λ b. AscendAfter (cond b met (settled_versions (keeps selection) met))
    (cond b (v ∷ []) (pending_if_kept selection pending (Some v)))) [
      | true ↦ (up, tt)
      | false ↦ pending_may_follow selection pending (Some v) met e h
    ]

-- The versions put at the end ascend after those put before.
pub may_end : (selection : Selection) (pending : Option VersionData) (met : List VersionData) → Ends pending met →
    IsStrictlySortedBy version_cmp met → AscendAfter (put_of selection met) (put_at_end selection pending)
may_end selection pending met e h =
    elim (puts_at_once selection) as (λ b. AscendAfter (cond b met (settled_versions (keeps selection) met))
    (cond b [] (pending_if_kept selection pending None))) [
      | true ↦ tt
      | false ↦ pending_may_follow selection pending None met e h
    ]

settled_more : (selection : Selection) (pending : Option VersionData) (v : VersionData) (met : List VersionData) → Ends pending met →
    settled_versions (keeps selection) met ++ pending_if_kept selection pending (Some v) ≡ settled_versions (keeps selection)
    (met ++ v ∷ [])
settled_more selection None v met e = subst (λ t. settled_versions (keeps selection) t
    ++ [] ≡ settled_versions (keeps selection) (t ++ v ∷ [])) (sym e) refl
settled_more selection (Some l) v met e = subst (λ t. settled_versions (keeps selection) t ++ singleton_if (keeps selection l (Some v)) l
    ≡ settled_versions (keeps selection) (t ++ v ∷ [])) (sym e.1) (sym (settled_next (keeps selection) (e.0) l v))

-- the versions put before a version is met, and when it is met, are those put for one more version
pub put_more : (selection : Selection) (pending : Option VersionData) (v : VersionData) (met : List VersionData) → Ends pending met →
    put_of selection met ++ put_at selection pending v ≡ put_of selection (met ++ v ∷ [])
put_more selection pending v met e =
    elim (puts_at_once selection) as (λ b. cond b met (settled_versions (keeps selection) met)
    ++ cond b (v ∷ []) (pending_if_kept selection pending (Some v))
    ≡ cond b (met ++ v ∷ []) (settled_versions (keeps selection) (met ++ v ∷ []))) [
      | true ↦ refl
      | false ↦ settled_more selection pending v met e
    ]

settled_all : (selection : Selection) (pending : Option VersionData) (met : List VersionData) → Ends pending met →
    settled_versions (keeps selection) met ++ pending_if_kept selection pending None ≡ versions_that_stay (keeps selection) met
settled_all selection None met e = subst (λ t. settled_versions (keeps selection) t ++ [] ≡ versions_that_stay (keeps selection) t)
    (sym e) refl
settled_all selection (Some l) met e = subst (λ t. settled_versions (keeps selection) t ++ singleton_if (keeps selection l None) l
    ≡ versions_that_stay (keeps selection) t) (sym e.1) (sym (kept_end (keeps selection) (e.0) l))

-- at the end all versions that the pass keeps were put
pub put_all : (selection : Selection) (pending : Option VersionData) (met : List VersionData) → Ends pending met →
    put_of selection met ++ put_at_end selection pending ≡ versions_that_stay (keeps selection) met
put_all All pending met e = append-nil met ∙ sym (keep_all met)
put_all Visible pending met e = settled_all Visible pending met e
put_all Newest pending met e = settled_all Newest pending met e
put_all NewestVisible pending met e = settled_all NewestVisible pending met e
put_all (State t) pending met e = settled_all (State t) pending met e
put_all (StateVisible t) pending met e = settled_all (StateVisible t) pending met e
put_all (Between from to) pending met e = settled_all (Between from to) pending met e

-- Nothing is put before a version is met.
pub put_nothing : (selection : Selection) → put_of selection [] ≡ []
put_nothing selection = elim (puts_at_once selection) as (λ b. cond b [] (settled_versions (keeps selection) []) ≡ []) [
  | true ↦ refl
  | false ↦ refl
]

-- the versions put once a version was met
pub put_next : (selection : Selection) (pending : Option VersionData) (v : VersionData) (met : List VersionData) → Ends pending met →
    put_of selection met ++ versions_put selection pending v ≡ put_of selection (met_next selection pending v met)
put_next selection pending v met e =
    elim (is_met selection pending v) as (λ b. put_of selection met ++ cond b (put_at selection pending v) []
    ≡ put_of selection (cond b (met ++ v ∷ []) met)) [
      | true ↦ put_more selection pending v met e
      | false ↦ append-nil (put_of selection met)
    ]

settled_front : {K : Type 0} (keeps : K → Option K → Bool) (xs more : List K) →
    (rest : List K) × (versions_that_stay keeps (xs ++ more) ≡ settled_versions keeps xs ++ rest)
settled_front keeps [] more = (versions_that_stay keeps more, refl)
settled_front keeps (x ∷ []) more = (versions_that_stay keeps (x ∷ more), refl)
settled_front keeps (x ∷ y ∷ ys) more =
    let part = settled_front keeps (y ∷ ys) more in (
      part.0,
      ap (λ t. singleton_if (keeps x (Some y)) x ++ t) part.1
          ∙ sym (append_assoc (singleton_if (keeps x (Some y)) x) (settled_versions keeps (y ∷ ys)) (part.0)),
    )

-- the versions put for the front of a list are a front of those that the pass keeps
pub put_front : (selection : Selection) (xs more : List VersionData) →
    (rest : List VersionData) × (versions_that_stay (keeps selection) (xs ++ more) ≡ put_of selection xs ++ rest)
put_front All xs more = (more, keep_all (xs ++ more))
put_front Visible xs more = settled_front (keeps Visible) xs more
put_front Newest xs more = settled_front (keeps Newest) xs more
put_front NewestVisible xs more = settled_front (keeps NewestVisible) xs more
put_front (State t) xs more = settled_front (keeps (State t)) xs more
put_front (StateVisible t) xs more = settled_front (keeps (StateVisible t)) xs more
put_front (Between from to) xs more = settled_front (keeps (Between from to)) xs more

all_kept : {K : Type 0} (keeps : K → Option K → Bool) (P : K → Type 0) (xs : List K) → AllByRecursion P xs →
    AllByRecursion P (versions_that_stay keeps xs)
all_kept keeps P [] h = tt
all_kept keeps P (x ∷ xs) h = all_append P (singleton_if (keeps x (first xs)) x) (versions_that_stay keeps xs)
    (all_only P (keeps x (first xs)) x h.0)
    (all_kept keeps P xs h.1)

only_ascends : (b : Bool) (x : VersionData) (ys : List VersionData) → AllByRecursion (λ y. version_cmp x y ≡ Less) ys →
    IsStrictlySortedBy version_cmp ys → IsStrictlySortedBy version_cmp (singleton_if b x ++ ys)
only_ascends true x ys h k = ascends_after version_cmp ys ys x h k
only_ascends false x ys h k = k

-- The versions that are kept of a strictly ascending list ascend strictly.
pub kept_ascends : (keeps : VersionData → Option VersionData → Bool) (xs : List VersionData) → IsStrictlySortedBy version_cmp xs →
    IsStrictlySortedBy version_cmp (versions_that_stay keeps xs)
kept_ascends keeps [] h = h
kept_ascends keeps (x ∷ xs) h =
    only_ascends (keeps x (first xs)) x (versions_that_stay keeps xs)
    (all_kept keeps (λ y. version_cmp x y ≡ Less) xs (first_below version_cmp x xs h))
    (kept_ascends keeps xs (rest_ascends version_cmp x xs h))
