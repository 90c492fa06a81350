-- The values that the steps of a data set read are those that the bytes spell.
use Rattle.std.proofs.Common.{◌≡◌, ℕ, ℤ, zero, suc, ◌+◌, ◌<◌, ◌≤◌, inl, inr, true, false, eqb, leb, List, [], ◌∷◌, ◌++◌, length, take, drop}
use Rattle.std.proofs.Common.{refl, ap, sym, ◌∙◌, arith, Result, Ok, Err, subst, length-append, if◌then◌else◌}
use Rattle.std.proofs.lemmas.List.{take-append-drop, length-take}
use Rattle.std.proofs.lemmas.Bool.Decides.{nat_tests}
use Rattle.std.proofs.Math.Seq.{take-append_seam, drop-append_seam}
use Rattle.std.proofs.lemmas.Bool.{leb-true}
use Rattle.osm_model.specs.declared.kind.Kind.{Kind}
use Rattle.osm_model.specs.declared.kind.Kind.TheVariants as kind
use Rattle.osm_model.specs.declared.tags.Tag.{Tag}
use Rattle.osm_model.specs.declared.members.Member.{Member}
use Rattle.osm_model.specs.declared.meta.Meta.{Meta}
use Rattle.osm_model.specs.declared.body.Body.{Body}
use Rattle.osm_model.specs.declared.body.Body.TheVariants.{Node, Way, Relation}
use Rattle.osm_model.specs.Data.{VersionData}
use Rattle.o5_codec.specs.declared.reason.O5Reason.{O5Reason}
use Rattle.o5_codec.specs.declared.reason.O5Reason.TheVariants.{BadSection, NoVersion}
use Rattle.o5_codec.specs.declared.read.segment.Segment.{Segment}
use Rattle.o5_codec.specs.Author.{Author}
use Rattle.o5_codec.specs.declared.strings.Form.TheVariants.{Pair, Single}
use Rattle.o5_codec.specs.Results.{and_then}
use Rattle.o5_codec.specs.Number.{number_at, signed_at}
use Rattle.o5_codec.specs.Base.{moved_id, within_range, moved_number, moved_coordinate}
use Rattle.o5_codec.specs.StringPair.{strings_at}
use Rattle.o5_codec.specs.Text.{text_of, tag_of, user_of}
use Rattle.o5_codec.specs.Segment.{ReadStep, with_bases, with_table, id_at, nonzero_version, version_at, time_at, changeset_at, user_at}
use Rattle.o5_codec.specs.Segment.{author}
use Rattle.o5_codec.specs.Segment.{author_after_changeset, author_at, meta_at}
use Rattle.o5_codec.specs.Items.{items_up_to, items_at}
use Rattle.o5_codec.specs.Body.{with_seen, tag_at, longitude_at, latitude_at, node_at, cut_at, section_at, with_section, reference_at}
use Rattle.o5_codec.specs.Body.{way_at, kind_and_role, with_member, moved_member, member_at, relation_at, body_at, set_at}
use Rattle.o5_codec.specs.Spelling.{NumberAtFront, MovedAtFront, ReferenceAtFront, VersionAtFront, UserAtFront, AuthorAfterChangeset}
use Rattle.o5_codec.specs.Spelling.{AuthorAtFront}
use Rattle.o5_codec.specs.Spelling.{MetaAtFront, TagAtFront, ItemsInAll, NodeInAll, SectionAtFront, WayInAll, MemberAtFront, RelationInAll}
use Rattle.o5_codec.specs.Spelling.{BodyInAll, SpellsSet}
use Rattle.o5_codec.proofs.ResultSteps.{read_next, one_value}
use Rattle.o5_codec.proofs.SoundStrings.{first_ok, tested_ok, same_value}
use Rattle.o5_codec.proofs.NumberLaws.{number_found, number_only, signed_found, signed_only, signed_shorter}
use Rattle.o5_codec.proofs.StringLaws.{strings_found, strings_only, strings_shorter}

-- ---- a value by its difference
module _ {X : Type 0} (moved : ℤ → Result X O5Reason) (after : X → Segment) where
  abbrev moved_at : List ℕ → ReadStep X
  moved_at bytes = and_then (signed_at bytes) (λ x. and_then (moved x.0) (λ v. Ok (v, after v, x.1)))

  -- If a value is read by its difference, the bytes spell it.
  pub moved_found : (bytes : List ℕ) (x : X × Segment × List ℕ) → moved_at bytes ≡ Ok x → MovedAtFront moved after bytes x
  moved_found bytes x h =
      let f = first_ok (signed_at bytes) _ x h in
      let g = first_ok (moved f.0.0) _ x f.2 in
      let same : (g.0, after g.0, f.0.1) ≡ x = same_value _ _ g.2 in
      let P : X × Segment × List ℕ → Type 0 = λ y. MovedAtFront moved after bytes y in
      subst P same (f.0.0, signed_found bytes f.0 f.1, g.1, refl)

  -- A value that is spelled by its difference is read.
  pub moved_only : (bytes : List ℕ) (x : X × Segment × List ℕ) → MovedAtFront moved after bytes x → moved_at bytes ≡ Ok x
  moved_only bytes x s =
      read_next (signed_at bytes) _ _ (signed_only bytes (s.0, x.2) s.1) ∙ read_next (moved s.0) _ _ s.2
      ∙ ap (λ z. Ok (x.0, z, x.2)) (sym s.3)

  moved_shorter : (bytes : List ℕ) (x : X × Segment × List ℕ) → MovedAtFront moved after bytes x → length x.2 < length bytes
  moved_shorter bytes x s = signed_shorter bytes (s.0, x.2) s.1

-- ---- metadata
numbered_rest : (x y : ℕ × List ℕ) → nonzero_version x ≡ Ok y → x.1 ≡ y.1
numbered_rest x y h =
    elim (eqb x.0 0) as (λ t. (if t then Err NoVersion else and_then (within_range x.0) (λ n. Ok (n, x.1))) ≡ Ok y → x.1 ≡ y.1) [
      | true ↦ λ e. cc
      | false ↦ λ e. (let f = first_ok (within_range x.0) _ y e in let same : (f.0, x.1) ≡ y = same_value _ _ f.2 in ap (λ z. z.1) same)
    ] h

-- If a version number is read, the bytes spell it.
pub version_found : (bytes : List ℕ) (x : ℕ × List ℕ) → version_at bytes ≡ Ok x → VersionAtFront bytes x
unfolding version_at
version_found bytes x h =
    let f = first_ok (number_at bytes) nonzero_version x h in
    let rest : f.0.1 ≡ x.1 = numbered_rest f.0 x f.2 in
    let P : List ℕ → Type 0 = λ r. NumberAtFront bytes (f.0.0, r) × (nonzero_version (f.0.0, r) ≡ Ok x) in
    let both = subst P rest (number_found bytes f.0 f.1, f.2) in
    (f.0.0, both.0, both.1)

-- A version number that is spelled is read.
pub version_only : (bytes : List ℕ) (x : ℕ × List ℕ) → VersionAtFront bytes x → version_at bytes ≡ Ok x
unfolding version_at
version_only bytes x s = read_next (number_at bytes) nonzero_version _ (number_only bytes (s.0, x.1) s.1) ∙ s.2

user_found : (s : Segment) (bytes : List ℕ) (x : (ℕ × List ℕ) × Segment × List ℕ) → user_at s bytes ≡ Ok x → UserAtFront s bytes x
unfolding user_at
user_found s bytes x h =
    let f = first_ok (strings_at Pair s.table bytes) _ x h in
    let g = first_ok (user_of f.0.0) _ x f.2 in
    let same : (g.0, with_table s f.0.1, f.0.2) ≡ x = same_value _ _ g.2 in
    let P : (ℕ × List ℕ) × Segment × List ℕ → Type 0 = λ y. UserAtFront s bytes y in
    subst P same (f.0.0, f.0.1, strings_found Pair s.table bytes f.0 f.1, g.1, refl)

user_only : (s : Segment) (bytes : List ℕ) (x : (ℕ × List ℕ) × Segment × List ℕ) → UserAtFront s bytes x → user_at s bytes ≡ Ok x
unfolding user_at
user_only s bytes x u =
    read_next (strings_at Pair s.table bytes) _ _ (strings_only Pair s.table bytes (u.0, u.1, x.2) u.2) ∙ read_next (user_of u.0) _ _ u.3
    ∙ ap (λ z. Ok (x.0, z, x.2)) (sym u.4)

after_found : (changeset : ℕ) (s : Segment) (bytes : List ℕ) (x : Author × Segment × List ℕ) →
    author_after_changeset (changeset, s, bytes) ≡ Ok x →
    AuthorAfterChangeset changeset s bytes x
unfolding author_after_changeset
after_found changeset s [] x h = sym (same_value _ _ h)
after_found changeset s (b ∷ bytes) x h =
    let f = first_ok (user_at s (b ∷ bytes)) _ x h in
    let same : (author changeset f.0.0.0 f.0.0.1, f.0.1, f.0.2) ≡ x = same_value _ _ f.2 in
    let P : Author × Segment × List ℕ → Type 0 = λ y. AuthorAfterChangeset changeset s (b ∷ bytes) y in
    subst P same (f.0.0, user_found s (b ∷ bytes) f.0 f.1, refl)

after_only : (changeset : ℕ) (s : Segment) (bytes : List ℕ) (x : Author × Segment × List ℕ) → AuthorAfterChangeset changeset s bytes x →
    author_after_changeset (changeset, s, bytes) ≡ Ok x
unfolding author_after_changeset
after_only changeset s [] x e = ap (λ y. Ok y) (sym e)
after_only changeset s (b ∷ bytes) x u =
    read_next (user_at s (b ∷ bytes)) _ _ (user_only s (b ∷ bytes) (u.0, x.1, x.2) u.1) ∙ ap (λ a. Ok (a, x.1, x.2)) (sym u.2)

author_found : (time : ℕ) (s : Segment) (bytes : List ℕ) (x : Author × Segment × List ℕ) → author_at time s bytes ≡ Ok x →
    AuthorAtFront time s bytes x
unfolding author_at changeset_at
author_found time s bytes x h =
    elim (eqb time 0) as (λ t. eqb time 0 ≡ t → (if t then Ok (author 0 0 [], s, bytes)
    else and_then (changeset_at s bytes) author_after_changeset)
    ≡ Ok x → AuthorAtFront time s bytes x) [
      | true ↦ λ t e. inl (t, sym (same_value _ _ e))
      | false ↦ λ t e. (let f = first_ok (changeset_at s bytes) author_after_changeset x e in
          inr (
            t,
            (
              f.0,
              moved_found (moved_number s.bases.changeset) (λ c. with_bases s (record s.bases { changeset = c })) bytes f.0 f.1,
              after_found f.0.0 f.0.1 f.0.2 x f.2,
            ),
          ))
    ] refl h

author_only : (time : ℕ) (s : Segment) (bytes : List ℕ) (x : Author × Segment × List ℕ) → AuthorAtFront time s bytes x →
    author_at time s bytes ≡ Ok x
unfolding author_at changeset_at
author_only time s bytes x (inl a) = rw a.0 (ap (λ y. Ok y) (sym a.1))
author_only time s bytes x (inr a) =
    rw a.0 (read_next (changeset_at s bytes) author_after_changeset _
    (moved_only (moved_number s.bases.changeset) (λ c. with_bases s (record s.bases { changeset = c })) bytes a.1.0 a.1.1)
    ∙ after_only a.1.0.0 a.1.0.1 a.1.0.2 x a.1.2)

-- If metadata is read, the bytes spell it.
pub meta_found : (s : Segment) (bytes : List ℕ) (x : Meta × Segment × List ℕ) → meta_at s bytes ≡ Ok x → MetaAtFront s bytes x
unfolding meta_at time_at
meta_found s bytes x h =
    let v = first_ok (version_at bytes) _ x h in
    let t = first_ok (time_at s v.0.1) _ x v.2 in
    let a = first_ok (author_at t.0.0 t.0.1 t.0.2) _ x t.2 in (
      v.0,
      t.0,
      a.0,
      version_found bytes v.0 v.1,
      moved_found (moved_number s.bases.time) (λ time. with_bases s (record s.bases { time = time })) v.0.1 t.0 t.1,
      author_found t.0.0 t.0.1 t.0.2 a.0 a.1,
      sym (same_value _ _ a.2),
    )

-- Metadata that is spelled is read.
pub meta_only : (s : Segment) (bytes : List ℕ) (x : Meta × Segment × List ℕ) → MetaAtFront s bytes x → meta_at s bytes ≡ Ok x
unfolding meta_at time_at
meta_only s bytes x m =
    read_next (version_at bytes) _ _ (version_only bytes m.0 m.3)
    ∙ read_next (time_at s m.0.1) _ _ (moved_only (moved_number s.bases.time)
    (λ time. with_bases s (record s.bases { time = time })) m.0.1 m.1 m.4)
    ∙ read_next (author_at m.1.0 m.1.1 m.1.2) _ _ (author_only m.1.0 m.1.1 m.1.2 m.2 m.5) ∙ ap (λ y. Ok y) (sym m.6)

-- ---- items
pub tag_found : (s : Segment) (bytes : List ℕ) (x : Tag × Segment × List ℕ) → tag_at s bytes ≡ Ok x → TagAtFront s bytes x
unfolding tag_at
tag_found s bytes x h =
    let f = first_ok (strings_at Pair s.table bytes) _ x h in
    let g = first_ok (tag_of f.0.0) _ x f.2 in
    let same : (g.0, with_table s f.0.1, f.0.2) ≡ x = same_value _ _ g.2 in
    let P : Tag × Segment × List ℕ → Type 0 = λ y. TagAtFront s bytes y in
    subst P same (f.0.0, f.0.1, strings_found Pair s.table bytes f.0 f.1, g.1, refl)

-- A tag that is spelled is read, and takes at least one byte.
pub tag_only : (s : Segment) (bytes : List ℕ) (x : Tag × Segment × List ℕ) → TagAtFront s bytes x →
    (tag_at s bytes ≡ Ok x) × (length x.2 < length bytes)
unfolding tag_at
tag_only s bytes x u = (
  read_next (strings_at Pair s.table bytes) _ _ (strings_only Pair s.table bytes (u.0, u.1, x.2) u.2) ∙ read_next (tag_of u.0) _ _ u.3
      ∙ ap (λ z. Ok (x.0, z, x.2)) (sym u.4),
  strings_shorter Pair s.table bytes (u.0, u.1, x.2) u.2,
)

-- If a reference is read, the bytes spell it.
pub reference_found : (s : Segment) (bytes : List ℕ) (x : ℤ × Segment × List ℕ) → reference_at s bytes ≡ Ok x → ReferenceAtFront s bytes x
unfolding reference_at
reference_found s bytes x h = moved_found (moved_id s.bases.reference) (λ id. with_bases s (record s.bases { reference = id })) bytes x h

-- A reference that is spelled is read, and takes at least one byte.
pub reference_only : (s : Segment) (bytes : List ℕ) (x : ℤ × Segment × List ℕ) → ReferenceAtFront s bytes x →
    (reference_at s bytes ≡ Ok x) × (length x.2 < length bytes)
unfolding reference_at
reference_only s bytes x r = (
  moved_only (moved_id s.bases.reference) (λ id. with_bases s (record s.bases { reference = id })) bytes x r,
  moved_shorter (moved_id s.bases.reference) (λ id. with_bases s (record s.bases { reference = id })) bytes x r,
)

-- If a member is read, the bytes spell it.
pub member_found : (s : Segment) (bytes : List ℕ) (x : Member × Segment × List ℕ) → member_at s bytes ≡ Ok x → MemberAtFront s bytes x
unfolding member_at
member_found s bytes x h =
    let d = first_ok (signed_at bytes) _ x h in
    let y = first_ok (strings_at Single s.table d.0.1) _ x d.2 in
    let m = first_ok (kind_and_role y.0.0.first) _ x y.2 in
    let l = first_ok (with_member s.seen m.0.0) _ x m.2 in
    let id = first_ok (moved_member s.bases m.0.0 d.0.0) _ x l.2 in
    let role = first_ok (text_of m.0.1) _ x id.2 in
    let made : Member = record { kind = m.0.0; id = id.0.0; role = role.0 } in
    let after : Segment = record { bases = id.0.1; table = y.0.1; seen = l.0 } in
    let same : (made, after, y.0.2) ≡ x = same_value _ _ role.2 in
    let P : Member × Segment × List ℕ → Type 0 = λ z. MemberAtFront s bytes z in
    subst P same (
      d.0,
      (y.0.0, y.0.1),
      m.0,
      l.0,
      id.0,
      signed_found bytes d.0 d.1,
      strings_found Single s.table d.0.1 y.0 y.1,
      m.1,
      l.1,
      id.1,
      role.1,
      refl,
      refl,
      refl,
    )

-- A member that is spelled is read, and takes at least one byte.
pub member_only : (s : Segment) (bytes : List ℕ) (x : Member × Segment × List ℕ) → MemberAtFront s bytes x →
    (member_at s bytes ≡ Ok x) × (length x.2 < length bytes)
unfolding member_at
member_only s bytes x (d, e, m, seen, id, ds, es, ms, sees, ids, role, kind_is, id_is, after) =
    let made : Member = record { kind = m.0; id = id.0; role = x.0.role } in
    let end : Segment = record { bases = id.1; table = e.1; seen = seen } in
    let member : made ≡ x.0 = (λ i. record { kind = sym kind_is i; id = sym id_is i; role = x.0.role }) in (
      read_next (signed_at bytes) _ _ (signed_only bytes d ds)
          ∙ read_next (strings_at Single s.table d.1) _ _ (strings_only Single s.table d.1 (e.0, e.1, x.2) es)
          ∙ read_next (kind_and_role e.0.first) _ _ ms ∙ read_next (with_member s.seen m.0) _ _ sees
          ∙ read_next (moved_member s.bases m.0 d.0) _ _ ids ∙ read_next (text_of m.1) _ _ role
          ∙ ap (λ z. Ok (z, end, x.2)) member ∙ ap (λ z. Ok (x.0, z, x.2)) (sym after),
      (let a = signed_shorter bytes d ds in let b = strings_shorter Single s.table d.1 (e.0, e.1, x.2) es in omega arith),
    )

module _ {X : Type 0} (item_at : Segment → List ℕ → ReadStep X) (AtFront : Segment → List ℕ → X × Segment × List ℕ → Type 0) where
  up_to_found : ((s : Segment) (bytes : List ℕ) (x : X × Segment × List ℕ) → item_at s bytes ≡ Ok x → AtFront s bytes x) →
      (most : ℕ) (s : Segment) (bytes : List ℕ) (xs : List X) (end : Segment) → items_up_to item_at most s bytes ≡ Ok (xs, end) →
      ItemsInAll AtFront s bytes xs end
  unfolding items_up_to
  up_to_found found most s [] xs end h =
      let same : ([], s) ≡ (xs, end) = same_value _ _ h in
      let P : List X × Segment → Type 0 = λ y. ItemsInAll AtFront s [] y.0 y.1 in subst P same (refl, refl)
  up_to_found found zero s (b ∷ bytes) xs end h = cc
  up_to_found found (suc most) s (b ∷ bytes) xs end h =
      let f = first_ok (item_at s (b ∷ bytes)) _ (xs, end) h in
      let g = first_ok (items_up_to item_at most f.0.1 f.0.2) _ (xs, end) f.2 in
      let same : (f.0.0 ∷ g.0.0, g.0.1) ≡ (xs, end) = same_value _ _ g.2 in
      let P : List X × Segment → Type 0 = λ y. ItemsInAll AtFront s (b ∷ bytes) y.0 y.1 in
      subst P same (f.0.1, f.0.2, found s (b ∷ bytes) f.0 f.1, up_to_found found most f.0.1 f.0.2 g.0.0 g.0.1 g.1)

  -- If items are read, the bytes spell them, provided that this holds for one item.
  pub items_found : ((s : Segment) (bytes : List ℕ) (x : X × Segment × List ℕ) → item_at s bytes ≡ Ok x → AtFront s bytes x) →
      (s : Segment) (bytes : List ℕ) (x : List X × Segment) → items_at item_at s bytes ≡ Ok x → ItemsInAll AtFront s bytes x.0 x.1
  unfolding items_at
  items_found found s bytes x h = up_to_found found (length bytes) s bytes x.0 x.1 h

  none_left : (most : ℕ) (s : Segment) → items_up_to item_at most s [] ≡ Ok ([], s)
  unfolding items_up_to
  none_left zero s = refl
  none_left (suc most) s = refl

  up_to_only : ((s : Segment) (bytes : List ℕ) (x : X × Segment × List ℕ) → AtFront s bytes x →
      (item_at s bytes ≡ Ok x) × (length x.2 < length bytes)) →
      (most : ℕ) (s : Segment) (bytes : List ℕ) (xs : List X) (end : Segment) → length bytes ≤ most → ItemsInAll AtFront s bytes xs end →
      items_up_to item_at most s bytes ≡ Ok (xs, end)
  unfolding items_up_to
  up_to_only only most s bytes [] end room h = ap (λ b. items_up_to item_at most s b) h.0 ∙ none_left most s ∙ ap (λ z. Ok ([], z)) h.1
  up_to_only only most s [] (x ∷ xs) end room h = absurd (let one = only s [] (x, h.0, h.1) h.2 in omega (arith, one.1))
  up_to_only only zero s (b ∷ bytes) (x ∷ xs) end room h = absurd (omega arith)
  up_to_only only (suc most) s (b ∷ bytes) (x ∷ xs) end room h =
      let one = only s (b ∷ bytes) (x, h.0, h.1) h.2 in
      let less = one.1 in
      read_next (item_at s (b ∷ bytes)) _ _ one.0 ∙ read_next (items_up_to item_at most h.0 h.1) _ _
      (up_to_only only most h.0 h.1 xs end (omega arith) h.3)

  -- Items that are spelled are read, provided that one item that is spelled is read and takes at least one byte.
  pub items_only : ((s : Segment) (bytes : List ℕ) (x : X × Segment × List ℕ) → AtFront s bytes x →
      (item_at s bytes ≡ Ok x) × (length x.2 < length bytes)) →
      (s : Segment) (bytes : List ℕ) (xs : List X) (end : Segment) → ItemsInAll AtFront s bytes xs end →
      items_at item_at s bytes ≡ Ok (xs, end)
  unfolding items_at
  items_only only s bytes xs end h = up_to_only only (length bytes) s bytes xs end (omega arith) h

-- ---- bodies
-- If a section is read, the bytes spell it.
pub section_found : (bytes : List ℕ) (x : List ℕ × List ℕ) → section_at bytes ≡ Ok x → SectionAtFront bytes x
unfolding section_at
section_found bytes x h =
    let f = first_ok (number_at bytes) cut_at x h in
    let n : ℕ = f.0.0 in
    let t = tested_ok (leb n (length f.0.1)) (take n f.0.1, drop n f.0.1) x BadSection f.2 in
    let inside : n ≤ length f.0.1 = leb-true n (length f.0.1) t.0 in
    let long : length (take n f.0.1) ≡ n = length-take n f.0.1 ∙ omega arith in
    let P : List ℕ × List ℕ → Type 0 = λ y. SectionAtFront bytes y in
    let Q : ℕ × List ℕ → Type 0 = λ y. NumberAtFront bytes y in
    let both : f.0 ≡ (length (take n f.0.1), take n f.0.1 ++ drop n f.0.1) = (λ i. (sym long i, sym (take-append-drop n f.0.1) i)) in
    subst P t.1 (subst Q both (number_found bytes f.0 f.1))

-- A section that is spelled is read.
pub section_only : (bytes : List ℕ) (x : List ℕ × List ℕ) → SectionAtFront bytes x → section_at bytes ≡ Ok x
unfolding section_at
section_only bytes x s =
    let inside : leb (length x.0) (length (x.0 ++ x.1)) ≡ true =
    (let lengths : length (x.0 ++ x.1) ≡ length x.0 + length x.1 = length-append x.0 x.1 in grind (arith, nat_tests)) in
    read_next (number_at bytes) cut_at _ (number_only bytes (length x.0, x.0 ++ x.1) s)
    ∙ rw (inside, take-append_seam x.0 x.1, drop-append_seam x.0 x.1) refl

node_found : (s : Segment) (bytes : List ℕ) (x : Body × Segment) → node_at s bytes ≡ Ok x → NodeInAll s bytes x
unfolding node_at longitude_at latitude_at
node_found s bytes x h =
    let lon = first_ok (longitude_at s bytes) _ x h in
    let lat = first_ok (latitude_at lon.0.1 lon.0.2) _ x lon.2 in
    let tags = first_ok (items_at tag_at lat.0.1 lat.0.2) _ x lat.2 in
    let same : (Node lon.0.0 lat.0.0 tags.0.0, tags.0.1) ≡ x = same_value _ _ tags.2 in
    let P : Body × Segment → Type 0 = λ y. NodeInAll s bytes y in
    subst P same (
      lon.0,
      lat.0,
      tags.0.0,
      moved_found (moved_coordinate s.bases.lon) (λ v. with_bases s (record s.bases { lon = v })) bytes lon.0 lon.1,
      moved_found (moved_coordinate lon.0.1.bases.lat) (λ v. with_bases lon.0.1 (record lon.0.1.bases { lat = v })) lon.0.2 lat.0 lat.1,
      items_found tag_at TagAtFront tag_found lat.0.1 lat.0.2 tags.0 tags.1,
      refl,
    )

node_only : (s : Segment) (bytes : List ℕ) (x : Body × Segment) → NodeInAll s bytes x → node_at s bytes ≡ Ok x
unfolding node_at longitude_at latitude_at
node_only s bytes x (lon, lat, tags, lons, lats, all, made) =
    read_next (longitude_at s bytes) _ _ (moved_only (moved_coordinate s.bases.lon)
    (λ v. with_bases s (record s.bases { lon = v })) bytes lon lons)
    ∙ read_next (latitude_at lon.1 lon.2) _ _ (moved_only (moved_coordinate lon.1.bases.lat)
    (λ v. with_bases lon.1 (record lon.1.bases { lat = v })) lon.2 lat lats)
    ∙ read_next (items_at tag_at lat.1 lat.2) _ _ (items_only tag_at TagAtFront tag_only lat.1 lat.2 tags x.1 all)
    ∙ ap (λ b. Ok (b, x.1)) (sym made)

way_found : (s : Segment) (bytes : List ℕ) (x : Body × Segment) → way_at s bytes ≡ Ok x → WayInAll s bytes x
unfolding way_at
way_found s bytes x h =
    let c = first_ok (section_at bytes) _ x h in
    let l = first_ok (with_section s.seen c.0.0) _ x c.2 in
    let ids = first_ok (items_at reference_at (with_seen s l.0) c.0.0) _ x l.2 in
    let tags = first_ok (items_at tag_at ids.0.1 c.0.1) _ x ids.2 in
    let same : (Way ids.0.0 tags.0.0, tags.0.1) ≡ x = same_value _ _ tags.2 in
    let P : Body × Segment → Type 0 = λ y. WayInAll s bytes y in
    subst P same (
      c.0,
      l.0,
      ids.0,
      tags.0.0,
      section_found bytes c.0 c.1,
      l.1,
      items_found reference_at ReferenceAtFront reference_found (with_seen s l.0) c.0.0 ids.0 ids.1,
      items_found tag_at TagAtFront tag_found ids.0.1 c.0.1 tags.0 tags.1,
      refl,
    )

way_only : (s : Segment) (bytes : List ℕ) (x : Body × Segment) → WayInAll s bytes x → way_at s bytes ≡ Ok x
unfolding way_at
way_only s bytes x (section, seen, ids, tags, cut, sees, references, all, made) =
    read_next (section_at bytes) _ _ (section_only bytes section cut) ∙ read_next (with_section s.seen section.0) _ _ sees
    ∙ read_next (items_at reference_at (with_seen s seen) section.0) _ _
    (items_only reference_at ReferenceAtFront reference_only (with_seen s seen) section.0 ids.0 ids.1 references)
    ∙ read_next (items_at tag_at ids.1 section.1) _ _ (items_only tag_at TagAtFront tag_only ids.1 section.1 tags x.1 all)
    ∙ ap (λ b. Ok (b, x.1)) (sym made)

relation_found : (s : Segment) (bytes : List ℕ) (x : Body × Segment) → relation_at s bytes ≡ Ok x → RelationInAll s bytes x
unfolding relation_at
relation_found s bytes x h =
    let c = first_ok (section_at bytes) _ x h in
    let m = first_ok (items_at member_at s c.0.0) _ x c.2 in
    let tags = first_ok (items_at tag_at m.0.1 c.0.1) _ x m.2 in
    let same : (Relation m.0.0 tags.0.0, tags.0.1) ≡ x = same_value _ _ tags.2 in
    let P : Body × Segment → Type 0 = λ y. RelationInAll s bytes y in
    subst P same (
      c.0,
      m.0,
      tags.0.0,
      section_found bytes c.0 c.1,
      items_found member_at MemberAtFront member_found s c.0.0 m.0 m.1,
      items_found tag_at TagAtFront tag_found m.0.1 c.0.1 tags.0 tags.1,
      refl,
    )

relation_only : (s : Segment) (bytes : List ℕ) (x : Body × Segment) → RelationInAll s bytes x → relation_at s bytes ≡ Ok x
unfolding relation_at
relation_only s bytes x (section, members, tags, cut, ms, all, made) =
    read_next (section_at bytes) _ _ (section_only bytes section cut)
    ∙ read_next (items_at member_at s section.0) _ _ (items_only member_at MemberAtFront member_only s section.0 members.0 members.1 ms)
    ∙ read_next (items_at tag_at members.1 section.1) _ _ (items_only tag_at TagAtFront tag_only members.1 section.1 tags x.1 all)
    ∙ ap (λ b. Ok (b, x.1)) (sym made)

body_found : (k : Kind) (s : Segment) (bytes : List ℕ) (x : Body × Segment) → body_at k s bytes ≡ Ok x → BodyInAll k s bytes x
unfolding body_at
body_found k s [] x h = sym (same_value _ _ h)
body_found kind.Node s (b ∷ bytes) x h = node_found s (b ∷ bytes) x h
body_found kind.Way s (b ∷ bytes) x h = way_found s (b ∷ bytes) x h
body_found kind.Relation s (b ∷ bytes) x h = relation_found s (b ∷ bytes) x h

body_only : (k : Kind) (s : Segment) (bytes : List ℕ) (x : Body × Segment) → BodyInAll k s bytes x → body_at k s bytes ≡ Ok x
unfolding body_at
body_only k s [] x e = ap (λ y. Ok y) (sym e)
body_only kind.Node s (b ∷ bytes) x h = node_only s (b ∷ bytes) x h
body_only kind.Way s (b ∷ bytes) x h = way_only s (b ∷ bytes) x h
body_only kind.Relation s (b ∷ bytes) x h = relation_only s (b ∷ bytes) x h

-- ---- whole data sets
pub set_found : (k : Kind) (s : Segment) (content : List ℕ) (x : VersionData × Segment) → set_at k s content ≡ Ok x →
    SpellsSet k s content x
unfolding set_at id_at
set_found k s content x h =
    let id = first_ok (id_at s content) _ x h in
    let meta = first_ok (meta_at id.0.1 id.0.2) _ x id.2 in
    let body = first_ok (body_at k meta.0.1 meta.0.2) _ x meta.2 in
    record {
      id = id.0;
      meta = meta.0;
      body = body.0;
      id_at_front = moved_found (moved_id s.bases.id) (λ v. with_bases s (record s.bases { id = v })) content id.0 id.1;
      meta_at_front = meta_found id.0.1 id.0.2 meta.0 meta.1;
      body_at_front = body_found k meta.0.1 meta.0.2 body.0 body.1;
      made = sym (same_value _ _ body.2);
    }

-- A version that a content spells is read.
pub set_only : (k : Kind) (s : Segment) (content : List ℕ) (x : VersionData × Segment) → SpellsSet k s content x → set_at k s content ≡ Ok x
unfolding set_at id_at
set_only k s content x h =
    read_next (id_at s content) _ _ (moved_only (moved_id s.bases.id)
    (λ v. with_bases s (record s.bases { id = v })) content h.id h.id_at_front)
    ∙ read_next (meta_at h.id.1 h.id.2) _ _ (meta_only h.id.1 h.id.2 h.meta h.meta_at_front)
    ∙ read_next (body_at k h.meta.1 h.meta.2) _ _ (body_only k h.meta.1 h.meta.2 h.body h.body_at_front) ∙ ap (λ y. Ok y) (sym h.made)

-- A content spells at most one version.
pub one_version : (k : Kind) (s : Segment) (content : List ℕ) (x y : VersionData × Segment) → SpellsSet k s content x →
    SpellsSet k s content y → x ≡ y
one_version k s content x y first second = one_value (set_at k s content) x y (set_only k s content x first) (set_only k s content y second)
