-- The canonical line determines all the data of a version.
use Rattle.std.proofs.Common.{◌≡◌, ◌≢◌, ℕ, ◌<◌, List, [], ◌∷◌, refl, ap, arith, codes, ℤ}
use Rattle.std.proofs.Math.Nat.{ne_of_gt}
use Rattle.osm_model.specs.declared.kind.Kind.{Kind}
use Rattle.osm_model.specs.declared.kind.Kind.TheVariants.{Node, Way, Relation}
use Rattle.osm_model.specs.declared.tags.Tag.{Tag}
use Rattle.osm_model.specs.declared.members.Member.{Member}
use Rattle.osm_model.specs.declared.body.Body.{Body}
use Rattle.osm_model.specs.declared.body.Body.TheVariants as body
use Rattle.osm_model.specs.Kind.{kind_letter}
use Rattle.osm_model.specs.Decimal.{number_text, integer_text}
use Rattle.osm_model.specs.Coordinate.{coordinate_text}
use Rattle.osm_model.specs.Time.{time_text}
use Rattle.osm_model.specs.Escape.{escape}
use Rattle.osm_model.specs.Data.{VersionData, kind_of, tags_of}
use Rattle.osm_model.specs.Line.{tag_text, reference_text, member_text, list_text, visible_text, empty_fields, kind_fields, fields, line}
use Rattle.osm_model.proofs.Separators.{Lacks, AllLack, IsSeparator, space, comma, equals, at, split_same, lacks_append}
use Rattle.osm_model.proofs.DecimalLaws.{number_lacks, integer_lacks, number_injective, integer_injective}
use Rattle.osm_model.proofs.CoordinateLaws.{coordinate_lacks, coordinate_injective}
use Rattle.osm_model.proofs.TimeLaws.{time_lacks, time_injective}
use Rattle.osm_model.proofs.EscapeLaws.{escape_lacks, escape_injective}
use Rattle.osm_model.proofs.JoinedLaws.{IsItemText, full_append, items_injective, items_lack, joined_injective}

letter_injective : (k l : Kind) → kind_letter k ≡ kind_letter l → k ≡ l
letter_injective Node Node e = refl
letter_injective Node Way e = absurd (omega (arith, e))
letter_injective Node Relation e = absurd (omega (arith, e))
letter_injective Way Node e = absurd (omega (arith, e))
letter_injective Way Way e = refl
letter_injective Way Relation e = absurd (omega (arith, e))
letter_injective Relation Node e = absurd (omega (arith, e))
letter_injective Relation Way e = absurd (omega (arith, e))
letter_injective Relation Relation e = refl

-- no letter of a field is a separator
pub letter_apart : {c : ℕ} (b : ℕ) → IsSeparator c → 64 < b → b ≢ c
letter_apart b space h = ne_of_gt (omega arith)
letter_apart b comma h = ne_of_gt (omega arith)
letter_apart b equals h = ne_of_gt (omega arith)
letter_apart b at h = ne_of_gt h

pub kind_apart : {c : ℕ} (k : Kind) → IsSeparator c → kind_letter k ≢ c
kind_apart Node s = letter_apart 110 s (omega arith)
kind_apart Way s = letter_apart 119 s (omega arith)
kind_apart Relation s = letter_apart 114 s (omega arith)

-- ---- tags
pub tag_lacks : {c : ℕ} → IsSeparator c → 61 ≢ c → (t : Tag) → Lacks c (tag_text t)
tag_lacks s n t = lacks_append _ (escape t.key) (61 ∷ escape t.value) (escape_lacks t.key s) (n, escape_lacks t.value s)

tag_text_determines : (t u : Tag) → tag_text t ≡ tag_text u → t ≡ u
tag_text_determines t u e =
    let both = split_same 61 (escape t.key) (escape u.key) _ _ (escape_lacks t.key equals) (escape_lacks u.key equals) e in
    let key = escape_injective t.key u.key both.0 in
    let value = escape_injective t.value u.value both.1 in
    λ i. record { key = key i; value = value i }

tag_text-IsItemText : IsItemText 44 tag_text
tag_text-IsItemText = record {
  lacks = tag_lacks comma (ne_of_gt (omega arith));
  full = λ t. full_append (escape t.key) 61 (escape t.value);
  determines = tag_text_determines;
}

comma_no_space : ◌≢◌ {A = ℕ} 44 32
comma_no_space = ne_of_gt (omega arith)

pub tags_lack : (ts : List Tag) → Lacks 32 (list_text tag_text ts)
tags_lack ts = items_lack 44 32 tag_text comma_no_space (tag_lacks space (ne_of_gt (omega arith))) ts

-- ---- references
pub reference_lacks : {c : ℕ} → IsSeparator c → (r : ℤ) → Lacks c (reference_text r)
reference_lacks s r = (letter_apart 110 s (omega arith), integer_lacks r s)

reference_text_determines : (x y : ℤ) → reference_text x ≡ reference_text y → x ≡ y
reference_text_determines x y e = let same : integer_text x ≡ integer_text y = cc in integer_injective x y same

reference_text-IsItemText : IsItemText 44 reference_text
reference_text-IsItemText = record { lacks = reference_lacks comma; full = λ r. tt; determines = reference_text_determines }

pub references_lack : (rs : List ℤ) → Lacks 32 (list_text reference_text rs)
references_lack rs = items_lack 44 32 reference_text comma_no_space (reference_lacks space) rs

-- ---- members
pub object_lacks : {c : ℕ} → IsSeparator c → (k : Kind) (id : ℤ) → Lacks c (kind_letter k ∷ integer_text id)
object_lacks s k id = (kind_apart k s, integer_lacks id s)

-- The text of a member has no separator but the at sign.
pub member_lacks : {c : ℕ} → IsSeparator c → 64 ≢ c → (m : Member) → Lacks c (member_text m)
member_lacks s n m =
    lacks_append _ (kind_letter m.kind ∷ integer_text m.id) (64 ∷ escape m.role) (object_lacks s m.kind m.id) (n, escape_lacks m.role s)

member_text_determines : (m n : Member) → member_text m ≡ member_text n → m ≡ n
member_text_determines m n e =
    let both = split_same 64 (kind_letter m.kind ∷ integer_text m.id) (kind_letter n.kind ∷ integer_text n.id) (escape m.role)
    (escape n.role)
    (object_lacks at m.kind m.id) (object_lacks at n.kind n.id) e in
    let object = both.0 in
    let letter : kind_letter m.kind ≡ kind_letter n.kind = cc in
    let number : integer_text m.id ≡ integer_text n.id = cc in
    let kind = letter_injective m.kind n.kind letter in
    let id = integer_injective m.id n.id number in
    let role = escape_injective m.role n.role both.1 in
    λ i. record { kind = kind i; id = id i; role = role i }

member_text-IsItemText : IsItemText 44 member_text
member_text-IsItemText = record {
  lacks = member_lacks comma (ne_of_gt (omega arith));
  full = λ m. tt;
  determines = member_text_determines;
}

pub members_lack : (ms : List Member) → Lacks 32 (list_text member_text ms)
members_lack ms = items_lack 44 32 member_text comma_no_space (member_lacks space (ne_of_gt (omega arith))) ms

-- ---- fields
pub letter_lacks : (b : ℕ) (text : List ℕ) → 64 < b → Lacks 32 text → Lacks 32 (b ∷ text)
letter_lacks b text h lacks = (letter_apart b space h, lacks)

pub empty_lack : (k : Kind) → AllLack 32 (empty_fields k)
empty_lack Node = (letter_lacks 120 [] (omega arith) tt, (letter_lacks 121 [] (omega arith) tt, tt))
empty_lack Way = (letter_lacks 78 [] (omega arith) tt, tt)
empty_lack Relation = (letter_lacks 77 [] (omega arith) tt, tt)

pub kind_lack : (b : Body) → AllLack 32 (kind_fields b)
kind_lack (body.Deleted k) = empty_lack k
kind_lack (body.Node lon lat tags) = (
  letter_lacks 120 _ (omega arith) (coordinate_lacks lon space),
  (letter_lacks 121 _ (omega arith) (coordinate_lacks lat space), tt),
)
kind_lack (body.Way refs tags) = (letter_lacks 78 _ (omega arith) (references_lack refs), tt)
kind_lack (body.Relation members tags) = (letter_lacks 77 _ (omega arith) (members_lack members), tt)

pub visible_lacks : (b : Body) → Lacks 32 (visible_text b)
visible_lacks (body.Deleted k) = letter_lacks 68 [] (omega arith) tt
visible_lacks (body.Node lon lat tags) = letter_lacks 86 [] (omega arith) tt
visible_lacks (body.Way refs tags) = letter_lacks 86 [] (omega arith) tt
visible_lacks (body.Relation members tags) = letter_lacks 86 [] (omega arith) tt

pub fields_lack : (v : VersionData) → AllLack 32 (fields v)
fields_lack v = (
  object_lacks space (kind_of v.body) v.id,
  (
    letter_lacks 118 _ (omega arith) (number_lacks v.number space),
    (
      letter_lacks 100 _ (omega arith) (visible_lacks v.body),
      (
        letter_lacks 99 _ (omega arith) (number_lacks v.changeset space),
        (
          letter_lacks 116 _ (omega arith) (time_lacks v.time space),
          (
            letter_lacks 105 _ (omega arith) (number_lacks v.uid space),
            (
              letter_lacks 117 _ (omega arith) (escape_lacks v.user space),
              (letter_lacks 84 _ (omega arith) (tags_lack (tags_of v.body)), kind_lack v.body),
            ),
          ),
        ),
      ),
    ),
  ),
)

no_D : {P : Type 0} → codes "D" ≡ codes "V" → P
no_D e = let bad : ◌≡◌ {A = ℕ} 68 86 = cc in absurd (omega (arith, bad))

no_V : {P : Type 0} → codes "V" ≡ codes "D" → P
no_V e = let bad : ◌≡◌ {A = ℕ} 86 68 = cc in absurd (omega (arith, bad))

same_body : (a b : Body) → kind_letter (kind_of a) ≡ kind_letter (kind_of b) → visible_text a ≡ visible_text b → tags_of a ≡ tags_of b →
    kind_fields a ≡ kind_fields b → a ≡ b
same_body (body.Deleted k) (body.Deleted l) h s t e = ap body.Deleted (letter_injective k l h)
same_body (body.Deleted k) (body.Node lon lat tags) h s t e = no_D s
same_body (body.Deleted k) (body.Way refs tags) h s t e = no_D s
same_body (body.Deleted k) (body.Relation members tags) h s t e = no_D s
same_body (body.Node lon lat tags) (body.Deleted k) h s t e = no_V s
same_body (body.Way refs tags) (body.Deleted k) h s t e = no_V s
same_body (body.Relation members tags) (body.Deleted k) h s t e = no_V s
same_body (body.Node lon lat tags) (body.Way refs tags') h s t e = absurd (omega (arith, h))
same_body (body.Node lon lat tags) (body.Relation members tags') h s t e = absurd (omega (arith, h))
same_body (body.Way refs tags) (body.Node lon lat tags') h s t e = absurd (omega (arith, h))
same_body (body.Way refs tags) (body.Relation members tags') h s t e = absurd (omega (arith, h))
same_body (body.Relation members tags) (body.Node lon lat tags') h s t e = absurd (omega (arith, h))
same_body (body.Relation members tags) (body.Way refs tags') h s t e = absurd (omega (arith, h))
same_body (body.Node lon lat tags) (body.Node lon' lat' tags') h s t e =
    let x : coordinate_text lon ≡ coordinate_text lon' = cc in
    let y : coordinate_text lat ≡ coordinate_text lat' = cc in
    let same_lon = coordinate_injective lon lon' x in
    let same_lat = coordinate_injective lat lat' y in
    λ i. body.Node (same_lon i) (same_lat i) (t i)
same_body (body.Way refs tags) (body.Way refs' tags') h s t e =
    let r : list_text reference_text refs ≡ list_text reference_text refs' = cc in
    let same_refs = items_injective 44 reference_text reference_text-IsItemText refs refs' r in
    λ i. body.Way (same_refs i) (t i)
same_body (body.Relation members tags) (body.Relation members' tags') h s t e =
    let m : list_text member_text members ≡ list_text member_text members' = cc in
    let same_members = items_injective 44 member_text member_text-IsItemText members members' m in
    λ i. body.Relation (same_members i) (t i)

same_fields : (v w : VersionData) → fields v ≡ fields w → v ≡ w
same_fields v w e =
    let letter : kind_letter (kind_of v.body) ≡ kind_letter (kind_of w.body) = cc in
    let i : integer_text v.id ≡ integer_text w.id = cc in
    let n : number_text v.number ≡ number_text w.number = cc in
    let visible : visible_text v.body ≡ visible_text w.body = cc in
    let c : number_text v.changeset ≡ number_text w.changeset = cc in
    let t : time_text v.time ≡ time_text w.time = cc in
    let u : number_text v.uid ≡ number_text w.uid = cc in
    let s : escape v.user ≡ escape w.user = cc in
    let g : list_text tag_text (tags_of v.body) ≡ list_text tag_text (tags_of w.body) = cc in
    let b : kind_fields v.body ≡ kind_fields w.body = cc in
    let id = integer_injective v.id w.id i in
    let number = number_injective v.number w.number n in
    let changeset = number_injective v.changeset w.changeset c in
    let time = time_injective v.time w.time t in
    let uid = number_injective v.uid w.uid u in
    let user = escape_injective v.user w.user s in
    let tags = items_injective 44 tag_text tag_text-IsItemText (tags_of v.body) (tags_of w.body) g in
    let body = same_body v.body w.body letter visible tags b in
    λ j. record { id = id j; number = number j; time = time j; changeset = changeset j; uid = uid j; user = user j; body = body j }

-- Two versions with one canonical line are equal.
pub line_injective : (v w : VersionData) → line v ≡ line w → v ≡ w
unfolding line
line_injective v w e = same_fields v w (joined_injective 32 _ _ _ _ (fields_lack v) (fields_lack w) e)
