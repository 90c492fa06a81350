-- The values that the steps of a data set in a sound segment read are in range, and the segment after them is sound.
use Rattle.std.proofs.Common.{◌≡◌, ℕ, ℤ, pos, negsuc, zero, suc, ◌^◌, Bool, true, false, not, eqb, ltb, ◌&&◌, List, [], ◌∷◌, length, refl}
use Rattle.std.proofs.Common.{ap, sym, ◌∙◌, subst, arith, Ok, Err, Some, None, if◌then◌else◌}
use lib.IntN.{◌+ℤ◌}
use Rattle.std.specs.Prelude.{FitsSigned, unsigned_abs}
use Rattle.std.specs.Int.{w32, int_wrap}
use Rattle.std.proofs.lemmas.Int.{SFits-int_wrap}
use Rattle.std.specs.List.{list_all}
use Rattle.std.proofs.lemmas.Bool.Decides.{nat_tests}
use Rattle.std.proofs.lemmas.Bool.{and_parts, and_from}
use Rattle.osm_model.specs.declared.kind.Kind.{Kind}
use Rattle.osm_model.specs.declared.kind.Kind.TheVariants as kind
use Rattle.osm_model.specs.declared.tags.Tag.{Tag}
use Rattle.osm_model.specs.declared.members.Member.{Member}
use Rattle.osm_model.specs.declared.meta.Meta.{Meta}
use Rattle.osm_model.specs.Id.{is_id}
use Rattle.osm_model.specs.Text.{is_text}
use Rattle.osm_model.specs.New.{is_number, is_time, is_dated}
use Rattle.o5_codec.specs.declared.reason.O5Reason.TheVariants.{OutOfRange, NoVersion}
use Rattle.o5_codec.specs.declared.base.Bases.{Bases}
use Rattle.o5_codec.specs.declared.read.segment.Segment.{Segment}
use Rattle.o5_codec.specs.Author.{Author}
use Rattle.o5_codec.specs.declared.strings.Form.TheVariants.{Pair, Single}
use Rattle.o5_codec.specs.Results.{and_then}
use Rattle.o5_codec.specs.Entry.{EntryStrings}
use Rattle.o5_codec.specs.Number.{number_at, signed_at}
use Rattle.o5_codec.specs.Base.{moved_id, within_range, number_within, moved_number, moved_coordinate}
use Rattle.o5_codec.specs.StringPair.{strings_at}
use Rattle.o5_codec.specs.Text.{text_of, tag_of, whole_number, uid_of, user_of}
use Rattle.o5_codec.specs.Segment.{ReadStep, with_bases, with_table, id_at, nonzero_version, version_at, time_at, changeset_at, user_at}
use Rattle.o5_codec.specs.Segment.{author}
use Rattle.o5_codec.specs.Segment.{author_after_changeset, author_at, time_of, meta_of, meta_at}
use Rattle.o5_codec.specs.Items.{items_up_to, items_at}
use Rattle.o5_codec.specs.Body.{tag_at, kind_and_role, moved_member, with_member, member_at, reference_at, longitude_at, latitude_at}
use Rattle.o5_codec.specs.Sound.{has_no_zero, is_entry, is_sound}
use Rattle.o5_codec.proofs.SoundStrings.{first_ok, same_value, tested_ok, strings_ok, text_ok}

-- ---- numbers
pub within_ok : (n m : ℕ) → within_range n ≡ Ok m → is_number m ≡ true
within_ok n m h = let t = tested_ok (ltb n (2 ^ 32)) n m OutOfRange h in ap is_number (sym t.1) ∙ t.0

pub moved_id_ok : (base difference id : ℤ) → moved_id base difference ≡ Ok id → is_id id ≡ true
moved_id_ok base difference id h = let t = tested_ok (is_id (base +ℤ difference)) (base +ℤ difference) id OutOfRange h in ap is_id (sym t.1)
    ∙ t.0

number_within_ok : (z : ℤ) (m : ℕ) → number_within z ≡ Ok m → is_number m ≡ true
number_within_ok (pos n) m h = within_ok n m h
number_within_ok (negsuc n) m h = cc

-- ---- steps
pub id_ok : (s : Segment) (bytes : List ℕ) (x : ℤ × Segment × List ℕ) → is_sound s ≡ true → id_at s bytes ≡ Ok x →
    (is_id x.0 ≡ true) × (is_sound x.1 ≡ true)
unfolding id_at
id_ok s bytes x sound h =
    let f = first_ok (signed_at bytes) _ x h in
    let g = first_ok (moved_id s.bases.id f.0.0) _ x f.2 in
    let same : (g.0, with_bases s (record s.bases { id = g.0 }), f.0.1) ≡ x = cc in
    (ap (λ y. is_id y.0) (sym same) ∙ moved_id_ok s.bases.id f.0.0 g.0 g.1, ap (λ y. is_sound y.1) (sym same) ∙ sound)

-- A reference that is read is an id, and the segment stays sound.
pub reference_ok : (s : Segment) (bytes : List ℕ) (x : ℤ × Segment × List ℕ) → is_sound s ≡ true → reference_at s bytes ≡ Ok x →
    (is_id x.0 ≡ true) × (is_sound x.1 ≡ true)
unfolding reference_at
reference_ok s bytes x sound h =
    let f = first_ok (signed_at bytes) _ x h in
    let g = first_ok (moved_id s.bases.reference f.0.0) _ x f.2 in
    let same : (g.0, with_bases s (record s.bases { reference = g.0 }), f.0.1) ≡ x = cc in
    (ap (λ y. is_id y.0) (sym same) ∙ moved_id_ok s.bases.reference f.0.0 g.0 g.1, ap (λ y. is_sound y.1) (sym same) ∙ sound)

-- A longitude that is read leaves the segment sound.
pub longitude_ok : (s : Segment) (bytes : List ℕ) (x : ℤ × Segment × List ℕ) → is_sound s ≡ true → longitude_at s bytes ≡ Ok x →
    is_sound x.1 ≡ true
unfolding longitude_at
longitude_ok s bytes x sound h =
    let f = first_ok (signed_at bytes) _ x h in
    let g = first_ok (moved_coordinate s.bases.lon f.0.0) _ x f.2 in
    let same : (g.0, with_bases s (record s.bases { lon = g.0 }), f.0.1) ≡ x = cc in ap (λ y. is_sound y.1) (sym same) ∙ sound

-- A latitude that is read leaves the segment sound.
pub latitude_ok : (s : Segment) (bytes : List ℕ) (x : ℤ × Segment × List ℕ) → is_sound s ≡ true → latitude_at s bytes ≡ Ok x →
    is_sound x.1 ≡ true
unfolding latitude_at
latitude_ok s bytes x sound h =
    let f = first_ok (signed_at bytes) _ x h in
    let g = first_ok (moved_coordinate s.bases.lat f.0.0) _ x f.2 in
    let same : (g.0, with_bases s (record s.bases { lat = g.0 }), f.0.1) ≡ x = cc in ap (λ y. is_sound y.1) (sym same) ∙ sound

-- A version number is above 0 and below 2^32.
abbrev pub is_version : ℕ → Bool
is_version n = not (eqb n 0) && is_number n

version_ok : (bytes : List ℕ) (x : ℕ × List ℕ) → version_at bytes ≡ Ok x → is_version x.0 ≡ true
unfolding version_at
version_ok bytes x h =
    let f = first_ok (number_at bytes) nonzero_version x h in
    elim (eqb f.0.0 0) as (λ b. eqb f.0.0 0 ≡ b → (if b then Err NoVersion else and_then (within_range f.0.0) (λ n. Ok (n, f.0.1))) ≡ Ok x →
    is_version x.0 ≡ true) [
      | true ↦ λ e is. cc
      | false ↦ λ e is. (let g = first_ok (within_range f.0.0) _ x is in
          let same : (g.0, f.0.1) ≡ x = cc in
          let t = tested_ok (ltb f.0.0 (2 ^ 32)) f.0.0 g.0 OutOfRange g.1 in
          ap (λ y. is_version y.0) (sym same) ∙ and_from _ _ (ap (λ n. not (eqb n 0)) (sym t.1) ∙ ap not e) (within_ok f.0.0 g.0 g.1))
    ] refl f.2

time_ok : (s : Segment) (bytes : List ℕ) (x : ℕ × Segment × List ℕ) → is_sound s ≡ true → time_at s bytes ≡ Ok x →
    (is_number x.0 ≡ true) × (is_sound x.1 ≡ true)
unfolding time_at
time_ok s bytes x sound h =
    let f = first_ok (signed_at bytes) _ x h in
    let g = first_ok (moved_number s.bases.time f.0.0) _ x f.2 in
    let same : (g.0, with_bases s (record s.bases { time = g.0 }), f.0.1) ≡ x = cc in
    (ap (λ y. is_number y.0) (sym same) ∙ number_within_ok (pos s.bases.time +ℤ f.0.0) g.0 g.1, ap (λ y. is_sound y.1) (sym same) ∙ sound)

changeset_ok : (s : Segment) (bytes : List ℕ) (x : ℕ × Segment × List ℕ) → is_sound s ≡ true → changeset_at s bytes ≡ Ok x →
    (is_number x.0 ≡ true) × (is_sound x.1 ≡ true)
unfolding changeset_at
changeset_ok s bytes x sound h =
    let f = first_ok (signed_at bytes) _ x h in
    let g = first_ok (moved_number s.bases.changeset f.0.0) _ x f.2 in
    let same : (g.0, with_bases s (record s.bases { changeset = g.0 }), f.0.1) ≡ x = cc in (
      ap (λ y. is_number y.0) (sym same) ∙ number_within_ok (pos s.bases.changeset +ℤ f.0.0) g.0 g.1,
      ap (λ y. is_sound y.1) (sym same)
          ∙ sound,
    )

whole_ok : (x : ℕ × List ℕ) (n : ℕ) → whole_number x ≡ Ok n → is_number n ≡ true
whole_ok (m, []) n h = within_ok m n h
whole_ok (m, b ∷ bytes) n h = cc

uid_ok : (bytes : List ℕ) (n : ℕ) → uid_of bytes ≡ Ok n → is_number n ≡ true
unfolding uid_of
uid_ok [] n h = let same : 0 ≡ n = cc in ap is_number (sym same)
uid_ok (b ∷ bytes) n h = let f = first_ok (number_at (b ∷ bytes)) whole_number n h in whole_ok f.0 n f.2

user_of_ok : (e : EntryStrings) (x : ℕ × List ℕ) → is_entry e ≡ true → user_of e ≡ Ok x → (is_number x.0 ≡ true) × (is_text x.1 ≡ true)
unfolding user_of
user_of_ok e x sound h =
    let f = first_ok (uid_of e.first) _ x h in
    let g = first_ok (text_of e.second) _ x f.2 in
    let same : (f.0, g.0) ≡ x = cc in
    let strings = and_parts (has_no_zero e.first) _ sound in
    (ap (λ y. is_number y.0) (sym same) ∙ uid_ok e.first f.0 f.1, ap (λ y. is_text y.1) (sym same) ∙ text_ok e.second g.0 strings.1 g.1)

user_ok : (s : Segment) (bytes : List ℕ) (x : (ℕ × List ℕ) × Segment × List ℕ) → is_sound s ≡ true → user_at s bytes ≡ Ok x →
    ((is_number x.0.0 ≡ true) × (is_text x.0.1 ≡ true)) × (is_sound x.1 ≡ true)
unfolding user_at
user_ok s bytes x sound h =
    let f = first_ok (strings_at Pair s.table bytes) _ x h in
    let g = first_ok (user_of f.0.0) _ x f.2 in
    let same : (g.0, with_table s f.0.1, f.0.2) ≡ x = cc in
    let strings = strings_ok Pair s.table bytes f.0 sound f.1 in
    let user = user_of_ok f.0.0 g.0 strings.0 g.1 in (
      (ap (λ y. is_number y.0.0) (sym same) ∙ user.0, ap (λ y. is_text y.0.1) (sym same) ∙ user.1),
      ap (λ y. is_sound y.1) (sym same)
          ∙ strings.1,
    )

-- changeset, user id and user name are in range
abbrev is_author : Author → Bool
is_author a = is_number a.changeset && (is_number a.uid && is_text a.user)

after_ok : (x : ℕ × Segment × List ℕ) (y : Author × Segment × List ℕ) → is_number x.0 ≡ true → is_sound x.1 ≡ true →
    author_after_changeset x ≡ Ok y →
    (is_author y.0 ≡ true) × (is_sound y.1 ≡ true)
unfolding author_after_changeset
after_ok (changeset, s, []) y number sound h =
    let same : (author changeset 0 [], s, []) ≡ y = cc in
    (ap (λ z. is_author z.0) (sym same) ∙ and_from _ _ number refl, ap (λ z. is_sound z.1) (sym same) ∙ sound)
after_ok (changeset, s, b ∷ bytes) y number sound h =
    let f = first_ok (user_at s (b ∷ bytes)) _ y h in
    let same : (author changeset f.0.0.0 f.0.0.1, f.0.1, f.0.2) ≡ y = cc in
    let user = user_ok s (b ∷ bytes) f.0 sound f.1 in
    (ap (λ z. is_author z.0) (sym same) ∙ and_from _ _ number (and_from _ _ user.0.0 user.0.1), ap (λ z. is_sound z.1) (sym same) ∙ user.1)

-- Metadata is within its ranges.
abbrev pub is_meta : Meta → Bool
is_meta m = (is_version m.version && (is_number m.changeset && is_number m.uid)) && (is_time m.time && (is_dated m && is_text m.user))

timed_ok : (version time : ℕ) (a : Author) → is_version version ≡ true → is_number time ≡ true → eqb time 0 ≡ false → is_author a ≡ true →
    is_meta (meta_of version time a) ≡ true
timed_ok version time a v t some h =
    let c = and_parts (is_number a.changeset) _ h in
    let u = and_parts (is_number a.uid) _ c.1 in
    let when : time_of time ≡ Some time = rw some refl in
    let above : ltb 0 time ≡ true = grind (arith, nat_tests) in
    rw when (and_from _ _ (and_from _ _ v (and_from _ _ c.0 u.0)) (and_from _ _ (and_from _ _ above t) u.1))

untimed_ok : (version time : ℕ) → is_version version ≡ true → eqb time 0 ≡ true → is_meta (meta_of version time (author 0 0 [])) ≡ true
untimed_ok version time v none =
    let when : time_of time ≡ None = rw none refl in
    rw when (and_from _ _ (and_from _ _ v refl) refl)

-- Metadata that is read is within its ranges, and the segment stays sound.
pub meta_ok : (s : Segment) (bytes : List ℕ) (x : Meta × Segment × List ℕ) → is_sound s ≡ true → meta_at s bytes ≡ Ok x →
    (is_meta x.0 ≡ true) × (is_sound x.1 ≡ true)
unfolding meta_at author_at
meta_ok s bytes x sound h =
    let v = first_ok (version_at bytes) _ x h in
    let t = first_ok (time_at s v.0.1) _ x v.2 in
    let a = first_ok (author_at t.0.0 t.0.1 t.0.2) _ x t.2 in
    let version : is_version v.0.0 ≡ true = version_ok bytes v.0 v.1 in
    let time = time_ok s v.0.1 t.0 sound t.1 in
    let same : (meta_of v.0.0 t.0.0 a.0.0, a.0.1, a.0.2) ≡ x = cc in
    elim (eqb t.0.0 0) as (λ b. eqb t.0.0 0 ≡ b → (if b then Ok (author 0 0 [], t.0.1, t.0.2)
    else and_then (changeset_at t.0.1 t.0.2) author_after_changeset) ≡ Ok a.0 →
    (is_meta x.0 ≡ true) × (is_sound x.1 ≡ true)) [
      | true ↦ λ none is. (let made : (author 0 0 [], t.0.1, t.0.2) ≡ a.0 = cc in (
        ap (λ y. is_meta y.0) (sym same) ∙ ap (λ y. is_meta (meta_of v.0.0 t.0.0 y.0)) (sym made) ∙ untimed_ok v.0.0 t.0.0 version none,
        ap (λ y. is_sound y.1) (sym same) ∙ ap (λ y. is_sound y.1) (sym made) ∙ time.1,
      ))
      | false ↦ λ some is. (let c = first_ok (changeset_at t.0.1 t.0.2) author_after_changeset a.0 is in
          let changeset = changeset_ok t.0.1 t.0.2 c.0 time.1 c.1 in
          let made = after_ok c.0 a.0 changeset.0 changeset.1 c.2 in (
            ap (λ y. is_meta y.0) (sym same) ∙ timed_ok v.0.0 t.0.0 a.0.0 version time.0 some made.0,
            ap (λ y. is_sound y.1) (sym same)
                ∙ made.1,
          ))
    ] refl a.1

coordinate_range : (base difference lon : ℤ) → moved_coordinate base difference ≡ Ok lon → FitsSigned w32 lon
coordinate_range base difference lon h =
    let t = tested_ok (ltb (unsigned_abs difference) (2 ^ 32)) (int_wrap w32 (base +ℤ difference)) lon OutOfRange h in
    let P : ℤ → Type 0 = λ z. FitsSigned w32 z in
    subst P t.1 (SFits-int_wrap w32 (base +ℤ difference))

-- A longitude that is read has 32 bits.
pub longitude_range : (s : Segment) (bytes : List ℕ) (x : ℤ × Segment × List ℕ) → longitude_at s bytes ≡ Ok x → FitsSigned w32 x.0
unfolding longitude_at
longitude_range s bytes x h =
    let f = first_ok (signed_at bytes) _ x h in
    let g = first_ok (moved_coordinate s.bases.lon f.0.0) _ x f.2 in
    let same : (g.0, with_bases s (record s.bases { lon = g.0 }), f.0.1) ≡ x = same_value _ _ g.2 in
    let P : ℤ → Type 0 = λ z. FitsSigned w32 z in
    subst P (ap (λ y. y.0) same) (coordinate_range s.bases.lon f.0.0 g.0 g.1)

-- A latitude that is read has 32 bits.
pub latitude_range : (s : Segment) (bytes : List ℕ) (x : ℤ × Segment × List ℕ) → latitude_at s bytes ≡ Ok x → FitsSigned w32 x.0
unfolding latitude_at
latitude_range s bytes x h =
    let f = first_ok (signed_at bytes) _ x h in
    let g = first_ok (moved_coordinate s.bases.lat f.0.0) _ x f.2 in
    let same : (g.0, with_bases s (record s.bases { lat = g.0 }), f.0.1) ≡ x = same_value _ _ g.2 in
    let P : ℤ → Type 0 = λ z. FitsSigned w32 z in
    subst P (ap (λ y. y.0) same) (coordinate_range s.bases.lat f.0.0 g.0 g.1)

-- ---- tags and members
abbrev pub is_tag : Tag → Bool
is_tag t = is_text t.key && is_text t.value

tag_of_ok : (e : EntryStrings) (t : Tag) → is_entry e ≡ true → tag_of e ≡ Ok t → is_tag t ≡ true
unfolding tag_of
tag_of_ok e t sound h =
    let f = first_ok (text_of e.first) _ t h in
    let g = first_ok (text_of e.second) _ t f.2 in
    let strings = and_parts (has_no_zero e.first) _ sound in
    let made : Tag = record { key = f.0; value = g.0 } in
    let same : made ≡ t = cc in
    ap is_tag (sym same) ∙ and_from _ _ (text_ok e.first f.0 strings.0 f.1) (text_ok e.second g.0 strings.1 g.1)

-- The texts of a tag that is read have no U+0000, and the segment stays sound.
pub tag_ok : (s : Segment) (bytes : List ℕ) (x : Tag × Segment × List ℕ) → is_sound s ≡ true → tag_at s bytes ≡ Ok x →
    (is_tag x.0 ≡ true) × (is_sound x.1 ≡ true)
unfolding tag_at
tag_ok s bytes x sound h =
    let f = first_ok (strings_at Pair s.table bytes) _ x h in
    let g = first_ok (tag_of f.0.0) _ x f.2 in
    let same : (g.0, with_table s f.0.1, f.0.2) ≡ x = cc in
    let strings = strings_ok Pair s.table bytes f.0 sound f.1 in
    (ap (λ y. is_tag y.0) (sym same) ∙ tag_of_ok f.0.0 g.0 strings.0 g.1, ap (λ y. is_sound y.1) (sym same) ∙ strings.1)

-- A member has an id and a role without U+0000.
abbrev pub is_member : Member → Bool
is_member m = is_id m.id && is_text m.role

role_ok : (text : List ℕ) (x : Kind × List ℕ) → has_no_zero text ≡ true → kind_and_role text ≡ Ok x → has_no_zero x.1 ≡ true
role_ok [] x h is = cc
role_ok (b ∷ role) x h is =
    let f = first_ok _ (λ k. Ok (k, role)) x is in
    let same : (f.0, role) ≡ x = cc in
    ap (λ y. has_no_zero y.1) (sym same) ∙ (and_parts (not (eqb b 0)) (has_no_zero role) h).1

moved_member_ok : (bases : Bases) (k : Kind) (difference : ℤ) (x : ℤ × Bases) → moved_member bases k difference ≡ Ok x → is_id x.0 ≡ true
moved_member_ok bases kind.Node difference x h =
    let f = first_ok (moved_id bases.node_member difference) _ x h in
    let same : (f.0, record bases { node_member = f.0 }) ≡ x = cc in ap (λ y. is_id y.0) (sym same)
    ∙ moved_id_ok bases.node_member difference f.0 f.1
moved_member_ok bases kind.Way difference x h =
    let f = first_ok (moved_id bases.way_member difference) _ x h in
    let same : (f.0, record bases { way_member = f.0 }) ≡ x = cc in ap (λ y. is_id y.0) (sym same)
    ∙ moved_id_ok bases.way_member difference f.0 f.1
moved_member_ok bases kind.Relation difference x h =
    let f = first_ok (moved_id bases.relation_member difference) _ x h in
    let same : (f.0, record bases { relation_member = f.0 }) ≡ x = cc in ap (λ y. is_id y.0) (sym same)
    ∙ moved_id_ok bases.relation_member difference f.0 f.1

-- A member that is read is within its ranges, and the segment stays sound.
pub member_ok : (s : Segment) (bytes : List ℕ) (x : Member × Segment × List ℕ) → is_sound s ≡ true → member_at s bytes ≡ Ok x →
    (is_member x.0 ≡ true) × (is_sound x.1 ≡ true)
unfolding member_at
member_ok s bytes x sound h =
    let d = first_ok (signed_at bytes) _ x h in
    let y = first_ok (strings_at Single s.table d.0.1) _ x d.2 in
    let m = first_ok (kind_and_role y.0.0.first) _ x y.2 in
    let l = first_ok (with_member s.seen m.0.0) _ x m.2 in
    let id = first_ok (moved_member s.bases m.0.0 d.0.0) _ x l.2 in
    let role = first_ok (text_of m.0.1) _ x id.2 in
    let made : Member = record { kind = m.0.0; id = id.0.0; role = role.0 } in
    let after : Segment = record { bases = id.0.1; table = y.0.1; seen = l.0 } in
    let same : (made, after, y.0.2) ≡ x = same_value _ _ role.2 in
    let strings = strings_ok Single s.table d.0.1 y.0 sound y.1 in
    let first = and_parts (has_no_zero y.0.0.first) _ strings.0 in (
      ap (λ z. is_member z.0) (sym same) ∙ and_from _ _ (moved_member_ok s.bases m.0.0 d.0.0 id.0 id.1)
          (text_ok m.0.1 role.0 (role_ok y.0.0.first m.0 first.0 m.1) role.1),
      ap (λ z. is_sound z.1) (sym same) ∙ strings.1,
    )

-- ---- lists
module _ {X : Type 0} (item_at : Segment → List ℕ → ReadStep X) (passes : X → Bool)
    (step : (s : Segment) (bytes : List ℕ) (x : X × Segment × List ℕ) → is_sound s ≡ true → item_at s bytes ≡ Ok x →
    (passes x.0 ≡ true) × (is_sound x.1 ≡ true)) where
  up_to_ok : (most : ℕ) (s : Segment) (bytes : List ℕ) (x : List X × Segment) → is_sound s ≡ true →
      items_up_to item_at most s bytes ≡ Ok x →
      (list_all passes x.0 ≡ true) × (is_sound x.1 ≡ true)
  unfolding items_up_to
  up_to_ok most s [] x sound h =
      let same : ([], s) ≡ x = cc in (ap (λ y. list_all passes y.0) (sym same), ap (λ y. is_sound y.1) (sym same) ∙ sound)
  up_to_ok zero s (b ∷ bytes) x sound h = cc
  up_to_ok (suc most) s (b ∷ bytes) x sound h =
      let f = first_ok (item_at s (b ∷ bytes)) _ x h in
      let g = first_ok (items_up_to item_at most f.0.1 f.0.2) _ x f.2 in
      let same : (f.0.0 ∷ g.0.0, g.0.1) ≡ x = cc in
      let one = step s (b ∷ bytes) f.0 sound f.1 in
      let more = up_to_ok most f.0.1 f.0.2 g.0 one.1 g.1 in
      (ap (λ y. list_all passes y.0) (sym same) ∙ and_from _ _ one.0 more.0, ap (λ y. is_sound y.1) (sym same) ∙ more.1)

  -- Items that are read pass the test that each item passes, and the segment stays sound.
  pub items_ok : (s : Segment) (bytes : List ℕ) (x : List X × Segment) → is_sound s ≡ true → items_at item_at s bytes ≡ Ok x →
      (list_all passes x.0 ≡ true) × (is_sound x.1 ≡ true)
  unfolding items_at
  items_ok s bytes x sound h = up_to_ok (length bytes) s bytes x sound h
