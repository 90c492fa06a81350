-- The key in a line of the usual form is the key of the version that the line spells.
use Rattle.std.proofs.Common.{◌≡◌, ℕ, ℤ, pos, neg_ℤ, ◌<◌, ◌^◌, eqb, Bool, true, false, not, ◌&&◌, cond}
use Rattle.std.proofs.Common.{List, [], ◌∷◌, ◌++◌, length, drop, map, fold, filter, nat_eq, get_or, Option, Some, None, unwrap_or}
use Rattle.std.proofs.Common.{Ok, refl, sym, ap, ◌∙◌, subst, arith, append-nil, append_assoc}
use Rattle.std.specs.List.{list_all, IsDistinct, AllByRecursion}
use Rattle.std.specs.Char.{is_ascii_digit}
use Rattle.std.proofs.lemmas.Bool.{and_parts, eqb-true, not-true, true≢false}
use Rattle.std.proofs.lemmas.Bool.Decides.{nat_tests}
use Rattle.osm_model.specs.declared.object.Key.{Key}
use Rattle.osm_model.specs.declared.kind.Kind.{Kind}
use Rattle.osm_model.specs.declared.kind.Kind.TheVariants as kind
use Rattle.osm_model.specs.declared.body.Body.{Body}
use Rattle.osm_model.specs.declared.body.Body.TheVariants.{Deleted, Node, Way, Relation}
use Rattle.osm_model.specs.declared.fault.ValueFault.{ValueFault}
use Rattle.osm_model.specs.declared.tags.Tag.{Tag}
use Rattle.osm_model.specs.Data.{VersionData, kind_of, normal_body, version_of}
use Rattle.osm_model.specs.Kind.{kind_letter}
use Rattle.osm_model.specs.New.{first_fault, unless_faulty}
use Rattle.osm_model.specs.Order.{key_of, object_of}
use Rattle.osm_model.specs.Pairwise.{Pairwise}
use Rattle.opl_line.specs.Content.{SpellsNumeral, SpellsId, plain_id, minus_id, SpellsObject}
use Rattle.opl_line.specs.Delimiter.{is_blank, is_line_end, with_byte, split_first, split_all, pieces_of}
use Rattle.opl_line.specs.Field.{no_fields}
use Rattle.opl_line.specs.Number.{is_numeral, decimal_value}
use Rattle.opl_line.specs.Part.{LinePart, letter_of, SpellsPart, with_part}
use Rattle.opl_line.specs.Part as part
use Rattle.opl_line.specs.Reading.{is_skipped, meta_of, reading_location, reading_visible, reading_body, reading_object}
use Rattle.opl_line.specs.Spells.{is_full, fields_of_parts, Spells}
use Rattle.opl_line.proofs.ContentLaws.{all_weaker}
use Rattle.opl_line.proofs.CutLaws.{cut_split, split_front, split_never}
use Rattle.opl_line.proofs.SpellsLaws.{object_read, first_and_rest, one_reading}
use Rattle.o5_codec.proofs.WrittenLists.{heads}
use Rattle.osm_files.specs.LineKey.{object_if_read, named_object, IsKeyOf, IsKeyOfFront, first_line}
use Rattle.osm_files.specs.LineKey.{BeginsWithNumeral, BeginsWithId, BeginsAsVersion, is_field_end}

-- ---- the version number
-- a field that begins with `v` and a numeral is the version number
number_part : (k : Kind) (digits : List ℕ) (n : ℕ) (p : LinePart) → SpellsNumeral digits n → SpellsPart k (118 ∷ digits) p
    → p ≡ part.Number n
number_part k digits n (part.Number m) spelled s =
    let same : digits ≡ s.content = ap (drop 1) s.lettered in
    let value : m ≡ n = sym s.spelled.digits_spell.value ∙ ap decimal_value (sym same) ∙ spelled.value in
    ap part.Number value
number_part k digits n (part.Deleted d) spelled s = absurd (let f = heads 118 100 _ _ s.lettered in omega (arith, f))
number_part k digits n (part.Changeset m) spelled s = absurd (let f = heads 118 99 _ _ s.lettered in omega (arith, f))
number_part k digits n (part.Time t) spelled s = absurd (let f = heads 118 116 _ _ s.lettered in omega (arith, f))
number_part k digits n (part.UserId m) spelled s = absurd (let f = heads 118 105 _ _ s.lettered in omega (arith, f))
number_part k digits n (part.User t) spelled s = absurd (let f = heads 118 117 _ _ s.lettered in omega (arith, f))
number_part k digits n (part.Tags ts) spelled s = absurd (let f = heads 118 84 _ _ s.lettered in omega (arith, f))
number_part k digits n (part.Longitude x) spelled s = absurd (let f = heads 118 120 _ _ s.lettered in omega (arith, f))
number_part k digits n (part.Latitude y) spelled s = absurd (let f = heads 118 121 _ _ s.lettered in omega (arith, f))
number_part k digits n (part.References ids) spelled s = absurd (let f = heads 118 78 _ _ s.lettered in omega (arith, f))
number_part k digits n (part.Members ms) spelled s = absurd (let f = heads 118 77 _ _ s.lettered in omega (arith, f))

-- a part with another letter keeps the version number
keeps : (p : LinePart) (fields : _) → nat_eq 118 (letter_of p) ≡ false → (with_part fields p).number ≡ fields.number
keeps (part.Number m) fields e = absurd (true≢false e)
keeps (part.Deleted d) fields e = refl
keeps (part.Changeset m) fields e = refl
keeps (part.Time t) fields e = refl
keeps (part.UserId m) fields e = refl
keeps (part.User t) fields e = refl
keeps (part.Tags ts) fields e = refl
keeps (part.Longitude x) fields e = refl
keeps (part.Latitude y) fields e = refl
keeps (part.References ids) fields e = refl
keeps (part.Members ms) fields e = refl

all_keep : (parts : List LinePart) (fields : _) → AllByRecursion (λ l. nat_eq 118 l ≡ false) (map letter_of parts)
    → (fold with_part fields parts).number ≡ fields.number
all_keep [] fields h = refl
all_keep (p ∷ parts) fields h = all_keep parts (with_part fields p) h.1 ∙ keeps p fields h.0

first_number : (parts : List LinePart) (n : ℕ) → IsDistinct nat_eq (map letter_of (part.Number n ∷ parts))
    → (fields_of_parts (part.Number n ∷ parts)).number ≡ Some n
unfolding IsDistinct
first_number parts n d = all_keep parts (with_part no_fields (part.Number n)) d.0

-- the version number of a line is that of its first field after the object
numbered : (k : Kind) (digits : List ℕ) (n : ℕ) (more : List (List ℕ)) (parts : List LinePart) → SpellsNumeral digits n
    → Pairwise (SpellsPart k) ((118 ∷ digits) ∷ more) parts → IsDistinct nat_eq (map letter_of parts)
    → (fields_of_parts parts).number ≡ Some n
numbered k digits n more [] spelled h d = absurd h
numbered k digits n more (p ∷ parts) spelled h d =
    let is : p ≡ part.Number n = number_part k digits n p spelled h.0 in
    ap (λ q. (fields_of_parts (q ∷ parts)).number) is
    ∙ first_number parts n (subst (λ q. IsDistinct nat_eq (map letter_of (q ∷ parts))) is d)

-- ---- the kind
location_kind : (lon lat : Option ℤ) (tags : List Tag) (body : Body) → reading_location lon lat tags ≡ Ok body → kind_of body ≡ kind.Node
location_kind None lat tags body e = cc
location_kind (Some lon) None tags body e = cc
location_kind (Some lon) (Some lat) tags body e = let same : Node lon lat tags ≡ body = cc in ap kind_of (sym same)

visible_kind : (k : Kind) (fields : _) (body : Body) → reading_visible k fields ≡ Ok body → kind_of body ≡ k
visible_kind kind.Node fields body e = location_kind _ _ _ body e
visible_kind kind.Way fields body e =
    let same : Way (unwrap_or fields.references []) (unwrap_or fields.tags []) ≡ body = cc in ap kind_of (sym same)
visible_kind kind.Relation fields body e =
    let same : Relation (unwrap_or fields.members []) (unwrap_or fields.tags []) ≡ body = cc in ap kind_of (sym same)

body_kind : (k : Kind) (fields : _) (body : Body) → reading_body k fields ≡ Ok body → kind_of body ≡ k
body_kind k fields body =
    elim (unwrap_or fields.deleted false) as (λ t. cond t (Ok (Deleted k)) (reading_visible k fields) ≡ Ok body → kind_of body ≡ k) [
      | true ↦ λ e. let same : Deleted k ≡ body = cc in ap kind_of (sym same)
      | false ↦ λ e. visible_kind k fields body e
    ]

normal_kind : (body : Body) → kind_of (normal_body body) ≡ kind_of body
normal_kind (Deleted k) = refl
normal_kind (Node lon lat tags) = refl
normal_kind (Way refs tags) = refl
normal_kind (Relation members tags) = refl

-- ---- the key of a version
made_of : (fault : Option ValueFault) (w v : VersionData) → unless_faulty fault w ≡ Ok v → w ≡ v
made_of None w v e = cc
made_of (Some f) w v e = cc

-- a field names one object
one_object : (field : List ℕ) (k l : Kind) (a b : ℤ) → SpellsObject field k a → SpellsObject field l b → (k ≡ l) × (a ≡ b)
one_object field k l a b s t =
    let here : Kind × ℤ = (k, a) in
    let there : Kind × ℤ = (l, b) in
    let both : Ok here ≡ Ok there = sym (object_read field k a s) ∙ object_read field l b t in
    let same : here ≡ there = cc in (
      ap (λ p. p.0) same,
      ap (λ p. p.1) same,
    )

-- the version that a line spells, from the object and the parts of the line
made_version : (line : List ℕ) (v : VersionData) (s : Spells line v) →
    version_of s.id (meta_of (fields_of_parts s.parts)) s.version.body ≡ v
made_version line v s = made_of (first_fault s.id (meta_of (fields_of_parts s.parts)) s.version.body) _ v s.version.made

-- the object of the version that a line spells
spelled_object : (line : List ℕ) (v : VersionData) (s : Spells line v) → object_of v ≡ record { kind = s.kind; id = s.id }
spelled_object line v s =
    let kinds : kind_of (normal_body s.version.body) ≡ s.kind =
    normal_kind s.version.body ∙ body_kind s.kind (fields_of_parts s.parts) s.version.body s.version.has_body in
    sym (ap object_of (made_version line v s)) ∙ (λ i. record { kind = kinds i; id = s.id })

-- A line whose first fields are an object and a version number spells only versions of their key.
spelled_key : (line : List ℕ) (key : Key) (field digits : List ℕ) (more : List (List ℕ))
    → split_all is_blank line ≡ (kind_letter key.object.kind ∷ field) ∷ (118 ∷ digits) ∷ more → SpellsId field key.object.id
    → SpellsNumeral digits key.number → (v : VersionData) → Spells line v → key_of v ≡ key
spelled_key line key field digits more pieces id number v s =
    let l = s.line_parts in
    let both : (kind_letter key.object.kind ∷ field) ∷ (118 ∷ digits) ∷ more ≡ l.object ∷ l.others = sym pieces ∙ l.fields in
    let object : kind_letter key.object.kind ∷ field ≡ l.object = ap (λ xs. get_or xs 0 []) both in
    let others : (118 ∷ digits) ∷ more ≡ l.others = ap (drop 1) both in
    let names : SpellsObject (kind_letter key.object.kind ∷ field) key.object.kind key.object.id =
    record { digits = field; lettered = refl; spelled = id } in
    let same = one_object (kind_letter key.object.kind ∷ field) key.object.kind s.kind key.object.id s.id names
    (subst (λ xs. SpellsObject xs s.kind s.id) (sym object) l.names) in
    let count : (fields_of_parts s.parts).number ≡ Some key.number =
    numbered s.kind digits key.number (filter is_full more) s.parts number
    (subst (λ xs. Pairwise (SpellsPart s.kind) (filter is_full xs) s.parts) (sym others) l.spelled) l.different in
    let named : object_of v ≡ key.object =
    spelled_object line v s ∙ (λ i. record { kind = sym same.0 i; id = sym same.1 i }) in
    let numbers : v.number ≡ key.number =
    sym (ap (λ w. w.number) (made_version line v s)) ∙ ap (λ o. unwrap_or o 0) count in
    (λ i. record { object = named i; number = numbers i })

-- ---- the pieces of a line of the usual form
abbrev is_free : ℕ → Bool
is_free b = not (is_blank b)

-- neither a field nor a line ends at the byte
abbrev is_inner : ℕ → Bool
is_inner b = not (is_line_end b) && is_free b

digit_inner : (b : ℕ) → is_ascii_digit b ≡ true → is_inner b ≡ true
digit_inner b e = grind (arith, nat_tests)

numeral_inner : (digits : List ℕ) → is_numeral digits ≡ true → list_all is_inner digits ≡ true
numeral_inner digits is =
    all_weaker is_ascii_digit is_inner digit_inner digits (and_parts (not (eqb (length digits) 0)) (list_all is_ascii_digit digits) is).1

id_inner : (field : List ℕ) (id : ℤ) → SpellsId field id → list_all is_inner field ≡ true
id_inner field id (plain_id digits n s) = numeral_inner digits s.digits_spell.numeral
id_inner field id (minus_id digits n s) = numeral_inner digits s.digits_spell.numeral

letter_inner : (k : Kind) (field : List ℕ) → list_all is_inner field ≡ true → list_all is_inner (kind_letter k ∷ field) ≡ true
letter_inner kind.Node field h = h
letter_inner kind.Way field h = h
letter_inner kind.Relation field h = h

inner_free : (field : List ℕ) → list_all is_inner field ≡ true → list_all is_free field ≡ true
inner_free field inner = all_weaker is_inner is_free (λ b is. (and_parts (not (is_line_end b)) (is_free b) is).1) field inner

first_piece : (front rest : List ℕ) → list_all is_free front ≡ true
    → split_all is_blank (front ++ 32 ∷ rest) ≡ front ∷ split_all is_blank rest
first_piece front rest free =
    cut_split is_blank (front ++ 32 ∷ rest) ∙ ap (λ s. s.0 ∷ pieces_of is_blank s.1) (split_front is_blank front rest 32 free refl)

only_piece : (front : List ℕ) → list_all is_free front ≡ true → split_all is_blank front ≡ front ∷ []
only_piece front free = cut_split is_blank front ∙ ap (λ s. s.0 ∷ pieces_of is_blank s.1) (split_never is_blank front free)

-- the first piece, and the pieces after it
abbrev BeginsWithPiece : List ℕ → List ℕ → Type 0
BeginsWithPiece front bytes = (more : List (List ℕ)) × (split_all is_blank bytes ≡ front ∷ more)

ended_piece : (front rest : List ℕ) → list_all is_free front ≡ true → is_field_end rest ≡ true → BeginsWithPiece front (front ++ rest)
ended_piece front [] free ends = ([], ap (split_all is_blank) (append-nil front) ∙ only_piece front free)
ended_piece front (b ∷ rest) free ends = (
  split_all is_blank rest,
  ap (λ c. split_all is_blank (front ++ c ∷ rest)) (eqb-true b 32 ends) ∙ first_piece front rest free,
)

-- the first line of bytes at whose front no line ends
inner_front : (front rest : List ℕ) → list_all is_inner front ≡ true → first_line (front ++ rest) ≡ front ++ first_line rest
inner_front [] rest inner = refl
inner_front (b ∷ front) rest inner =
    let parts = and_parts (is_inner b) (list_all is_inner front) inner in
    let stays = not-true (is_line_end b) (and_parts (not (is_line_end b)) (is_free b) parts.0).0 in
    ap (λ t. (cond t ([], Some (front ++ rest)) (with_byte b (split_first is_line_end (front ++ rest)))).0) stays
    ∙ ap (λ xs. b ∷ xs) (inner_front front rest parts.1)

not_comment : (k : Kind) (bytes : List ℕ) → is_skipped (kind_letter k ∷ bytes) ≡ false
not_comment kind.Node bytes = refl
not_comment kind.Way bytes = refl
not_comment kind.Relation bytes = refl

-- A text that begins with an object, a space, `v` and a number begins with a key.
pub begins_with_key : (text : List ℕ) (key : Key) (after_letter after_id after_space after_v rest : List ℕ)
    → text ≡ kind_letter key.object.kind ∷ after_letter → BeginsWithId after_letter key.object.id after_id → after_id ≡ 32 ∷ after_space
    → after_space ≡ 118 ∷ after_v → BeginsWithNumeral after_v key.number rest → BeginsAsVersion text key rest
begins_with_key text key after_letter after_id after_space after_v rest letter (field, id_is, id) space v (digits, number_is, number) =
    record {
      id = field;
      number = digits;
      is = letter ∙ ap (λ xs. kind_letter key.object.kind ∷ xs)
          (id_is ∙ ap (λ xs. field ++ xs) (space ∙ ap (λ xs. 32 ∷ xs) (v ∙ ap (λ xs. 118 ∷ xs) number_is)));
      spells_id = id;
      spells_number = number;
    }

module _ (key : Key) where
  -- A line whose first field is an object names it.
  front_names : (line field rest : List ℕ) → line ≡ kind_letter key.object.kind ∷ (field ++ 32 ∷ rest) → SpellsId field key.object.id
      → named_object line ≡ Some key.object
  unfolding named_object
  front_names line field rest is id =
      let object : List ℕ = kind_letter key.object.kind ∷ field in
      let free : list_all is_free object ≡ true =
      inner_free object (letter_inner key.object.kind field (id_inner field key.object.id id)) in
      let names : SpellsObject object key.object.kind key.object.id = record { digits = field; lettered = refl; spelled = id } in
      ap (λ xs. object_if_read (reading_object (split_first is_blank xs).0)) is
      ∙ ap (λ s. object_if_read (reading_object s.0)) (split_front is_blank object rest 32 free refl)
      ∙ ap object_if_read (object_read object key.object.kind key.object.id names)

  -- A line of the usual form has its key.
  pub usual_line : (line rest : List ℕ) → BeginsAsVersion line key rest → is_field_end rest ≡ true → IsKeyOf line key
  usual_line line rest h ends =
      let object : List ℕ = kind_letter key.object.kind ∷ h.id in
      let free : list_all is_free object ≡ true =
      inner_free object (letter_inner key.object.kind h.id (id_inner h.id key.object.id h.spells_id)) in
      let piece = ended_piece (118 ∷ h.number) rest (inner_free h.number (numeral_inner h.number h.spells_number.numeral)) ends in
      let pieces : split_all is_blank line ≡ object ∷ (118 ∷ h.number) ∷ piece.0 =
      ap (split_all is_blank) h.is ∙ first_piece object (118 ∷ (h.number ++ rest)) free ∙ ap (λ ps. object ∷ ps) piece.1 in
      record {
        kept = ap is_skipped h.is ∙ not_comment key.object.kind (h.id ++ 32 ∷ 118 ∷ (h.number ++ rest));
        spelled = spelled_key line key h.id h.number piece.0 pieces h.spells_id h.spells_number;
        names = front_names line h.id (118 ∷ (h.number ++ rest)) h.is h.spells_id;
      }

  -- A line of the usual form has its key, also if its end isn't known.
  pub usual_front : (bytes rest after : List ℕ) → BeginsAsVersion bytes key rest → rest ≡ 32 ∷ after → IsKeyOfFront bytes key
  usual_front bytes rest after h space more =
      let object : List ℕ = kind_letter key.object.kind ∷ h.id in
      let later : List ℕ = first_line (after ++ more) in
      let whole : bytes ++ more ≡ object ++ 32 ∷ 118 ∷ (h.number ++ 32 ∷ (after ++ more)) =
      ap (λ xs. xs ++ more) (h.is ∙ ap (λ xs. object ++ 32 ∷ 118 ∷ (h.number ++ xs)) space)
      ∙ append_assoc object (32 ∷ 118 ∷ (h.number ++ 32 ∷ after)) more
      ∙ ap (λ xs. object ++ 32 ∷ 118 ∷ xs) (append_assoc h.number (32 ∷ after) more) in
      let line : first_line (bytes ++ more) ≡ object ++ 32 ∷ 118 ∷ (h.number ++ 32 ∷ later) =
      ap first_line whole
      ∙ inner_front object (32 ∷ 118 ∷ (h.number ++ 32 ∷ (after ++ more)))
      (letter_inner key.object.kind h.id (id_inner h.id key.object.id h.spells_id))
      ∙ ap (λ xs. object ++ 32 ∷ 118 ∷ xs)
      (inner_front h.number (32 ∷ (after ++ more)) (numeral_inner h.number h.spells_number.numeral)) in
      usual_line (first_line (bytes ++ more)) (32 ∷ later)
      (record { id = h.id; number = h.number; is = line; spells_id = h.spells_id; spells_number = h.spells_number }) refl

-- ---- numerals and ids at the front of a text
-- A number of at most 18 digits is an id.
pub id_front : (text rest : List ℕ) (n : ℕ) → BeginsWithNumeral text n rest → n < 10 ^ 18 → BeginsWithId text (pos n) rest
id_front text rest n (digits, is, spelled) small =
    (digits, is, plain_id digits n (record { digits_spell = spelled; bound = omega (arith, small) }))

-- A minus sign and a number of at most 18 digits are an id.
pub minus_front : (text after rest : List ℕ) (n : ℕ) → text ≡ 45 ∷ after → BeginsWithNumeral after n rest → n < 10 ^ 18
    → BeginsWithId text (neg_ℤ (pos n)) rest
minus_front text after rest n minus (digits, is, spelled) small = (
  45 ∷ digits,
  minus ∙ ap (λ xs. 45 ∷ xs) is,
  minus_id digits n (record { digits_spell = spelled; bound = omega (arith, small) }),
)

-- ---- a line that is read whole
-- A line that spells a version names its object.
pub spelled_names : (line : List ℕ) (v : VersionData) → Spells line v → named_object line ≡ Some (object_of v)
unfolding named_object
spelled_names line v s =
    let l = s.line_parts in
    ap (λ field. object_if_read (reading_object field)) (first_and_rest line l.object l.others l.fields).0
    ∙ ap object_if_read (object_read l.object s.kind s.id l.names)
    ∙ ap Some (sym (spelled_object line v s))

-- The key of the version that a line spells is the line's key.
pub whole_key : (line : List ℕ) (v : VersionData) (key : Key) → Spells line v → key ≡ key_of v → IsKeyOf line key
whole_key line v key s is = record {
  kept = s.line_parts.not_skipped;
  spelled = λ w t. ap key_of (one_reading line w v t s) ∙ sym is;
  names = spelled_names line v s ∙ ap (λ k. Some k.object) (sym is);
}
