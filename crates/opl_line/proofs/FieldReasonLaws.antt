-- Fields that are refused are faulty, and conversely.
use Rattle.std.proofs.Common.{◌≡◌, ◌⊎◌, ℕ, Bool, true, false, cond, eqb, ◌||◌, List, [], ◌∷◌, ◌++◌, map, fold, Some, Result, Ok, Err, refl}
use Rattle.std.proofs.Common.{sym, ap, ◌∙◌, subst, inl, inr, ⊎_elim}
use Rattle.std.proofs.lemmas.Bool.{or_parts}
use Rattle.std.proofs.Math.Bool.{or-false}
use Rattle.osm_model.specs.declared.kind.Kind.{Kind}
use Rattle.osm_model.specs.declared.kind.Kind.TheVariants as kind
use Rattle.opl_line.specs.declared.general.field.Fields.{Fields}
use Rattle.opl_line.specs.declared.reason.OplReason.{OplReason}
use Rattle.opl_line.specs.declared.reason.OplReason.TheVariants.{UnknownField, RepeatedField}
use Rattle.opl_line.specs.Results.{and_then, as_value}
use Rattle.opl_line.specs.Number.{reading_coordinate}
use Rattle.opl_line.specs.Time.{reading_time}
use Rattle.opl_line.specs.Text.{reading_text}
use Rattle.opl_line.specs.Item.{reading_list, reading_tag, reading_reference, reading_member}
use Rattle.opl_line.specs.Field.{no_fields, reading_number_32, reading_count, reading_deleted, reading_optional, has_field}
use Rattle.opl_line.specs.Field.{with_body_field, with_field, reading_field, reading_fields}
use Rattle.opl_line.specs.Part.{LinePart, letter_of, with_part}
use Rattle.opl_line.specs.LineReason.{ContentReason, number, deleted, changeset, time, uid, user, tags, longitude, latitude, references}
use Rattle.opl_line.specs.LineReason.{members, body_letters, letters_of, is_among, FieldReason, repeated, unknown, ill_formed, FieldsReason}
use Rattle.opl_line.proofs.PartLaws.{choose, met, unmet, parts_of, read_of}
use Rattle.opl_line.proofs.ReasonLaws.{still_refused, user_refused, no_text_read, tags_refused, tags_reported, references_refused}
use Rattle.opl_line.proofs.ReasonLaws.{references_reported, members_refused, members_reported}

-- ---- a field of one letter
-- the letter is among `letters` and the content is faulty, or the letter isn't among `letters`
abbrev Refusal : List ℕ → ℕ → List ℕ → OplReason → Type 0
Refusal letters letter content reason = ((is_among letter letters ≡ true) × ContentReason letter content reason)
    ⊎ ((is_among letter letters ≡ false) × (UnknownField ≡ reason))

refused_at : (letters : List ℕ) (at letter : ℕ) (content : List ℕ) (reason : OplReason) → letter ≡ at → is_among at letters ≡ true →
    ContentReason at content reason → Refusal letters letter content reason
refused_at letters at letter content reason is among faulty =
    let P : ℕ → Type 0 = λ l. Refusal letters l content reason in
    subst P (sym is) (inl (among, faulty))

body_refused : (k : Kind) (letter : ℕ) (content : List ℕ) (fields : Fields) (reason : OplReason) →
    with_body_field k letter content fields ≡ Err reason → Refusal (body_letters k) letter content reason
body_refused kind.Node letter content fields reason =
    choose letter 120 _ _ (Err reason) (λ is e. refused_at (body_letters kind.Node) 120 letter content reason is refl
    (longitude content reason (still_refused _ (reading_optional reading_coordinate content) reason e)))
    (λ no_x. choose letter 121 _ _ (Err reason) (λ is e.
    refused_at (body_letters kind.Node) 121 letter content reason is refl
    (latitude content reason (still_refused _ (reading_optional reading_coordinate content) reason e)))
    (λ no_y e. inr ((λ i. no_x i || (no_y i || false)), (let same : UnknownField ≡ reason = cc in same))))
body_refused kind.Way letter content fields reason =
    choose letter 78 _ _ (Err reason) (λ is e. refused_at (body_letters kind.Way) 78 letter content reason is refl
    (references content reason (references_refused content reason (still_refused _ (reading_list reading_reference content) reason e))))
    (λ other e. inr ((λ i. other i || false), (let same : UnknownField ≡ reason = cc in same)))
body_refused kind.Relation letter content fields reason =
    choose letter 77 _ _ (Err reason) (λ is e. refused_at (body_letters kind.Relation) 77 letter content reason is refl
    (members content reason (members_refused content reason (still_refused _ (reading_list reading_member content) reason e))))
    (λ other e. inr ((λ i. other i || false), (let same : UnknownField ≡ reason = cc in same)))

content_refused : (k : Kind) (letter : ℕ) (content : List ℕ) (fields : Fields) (reason : OplReason) →
    with_field k letter content fields ≡ Err reason → Refusal (letters_of k) letter content reason
content_refused k letter content fields reason =
    let P : OplReason → Type 0 = ContentReason 117 content in
    choose letter 118 _ _ (Err reason) (λ is e. refused_at (letters_of k) 118 letter content reason is refl
    (number content reason (still_refused _ (reading_number_32 content) reason e)))
    (λ v. choose letter 100 _ _ (Err reason) (λ is e.
    refused_at (letters_of k) 100 letter content reason is refl
    (deleted content reason (still_refused _ (reading_deleted content) reason e)))
    (λ d. choose letter 99 _ _ (Err reason) (λ is e.
    refused_at (letters_of k) 99 letter content reason is refl
    (changeset content reason (still_refused _ (reading_count content) reason e)))
    (λ c. choose letter 116 _ _ (Err reason) (λ is e.
    refused_at (letters_of k) 116 letter content reason is refl
    (time content reason (still_refused _ (reading_optional reading_time content) reason e)))
    (λ t. choose letter 105 _ _ (Err reason) (λ is e.
    refused_at (letters_of k) 105 letter content reason is refl (uid content reason (still_refused _ (reading_count content) reason e)))
    (λ n. choose letter 117 _ _ (Err reason) (λ is e. let r =
    user_refused content reason (still_refused _ (reading_text content) reason e) in
    refused_at (letters_of k) 117 letter content reason is refl (subst P (sym r.0) (user content r.1)))
    (λ u. choose letter 84 _ _ (Err reason) (λ is e.
    refused_at (letters_of k) 84 letter content reason is refl
    (tags content reason (tags_refused content reason (still_refused _ (reading_list reading_tag content) reason e))))
    (λ g e.
    let more : (b : Bool) → is_among letter (body_letters k) ≡ b →
    is_among letter (letters_of k) ≡ b = λ b at. λ i. v i || (d i || (c i || (t i || (n i || (u i || (g i || at i)))))) in
    ⊎_elim (λ known. inl (more true known.0, known.1)) (λ other. inr (more false other.0, other.1))
    (body_refused k letter content fields reason e))))))))

field_refused : (k : Kind) (fields : Fields) (met_letters : List ℕ) → ((l : ℕ) → has_field fields l ≡ is_among l met_letters) →
    (field : List ℕ) (reason : OplReason) → reading_field k field fields ≡ Err reason → FieldReason k met_letters field reason
field_refused k fields met_letters has [] reason e = cc
field_refused k fields met_letters has (letter ∷ content) reason refused =
    let P : OplReason → Type 0 = FieldReason k met_letters (letter ∷ content) in
    elim (has_field fields letter) as (λ t. has_field fields letter ≡ t →
    cond t (Err RepeatedField) (with_field k letter content fields) ≡ Err reason →
    FieldReason k met_letters (letter ∷ content) reason) [
      | true ↦ λ again e. let same : RepeatedField ≡ reason = cc in subst P same (repeated letter content (sym (has letter) ∙ again))
      | false ↦ λ fresh e.
          let new = sym (has letter) ∙ fresh in
          ⊎_elim (λ known. ill_formed letter content reason new known.0 known.1)
          (λ other. subst P other.1 (unknown letter content new other.0)) (content_refused k letter content fields reason e)
    ] refl refused

-- ---- faulty fields are refused
pass : (letter at : ℕ) (here there out : Result Fields OplReason) → eqb letter at ≡ false → there ≡ out →
    cond (eqb letter at) here there ≡ out
pass letter at here there out other e = ap (λ t. cond t here there) other ∙ e

unknown_body : (k : Kind) (letter : ℕ) (content : List ℕ) (fields : Fields) → is_among letter (body_letters k) ≡ false →
    with_body_field k letter content fields ≡ Err UnknownField
unknown_body kind.Node letter content fields none =
    let x = or_parts (eqb letter 120) _ none in
    let y = or_parts (eqb letter 121) _ x.1 in
    pass letter 120 _ _ _ x.0 (pass letter 121 _ _ _ y.0 refl)
unknown_body kind.Way letter content fields none = pass letter 78 _ _ _ (or_parts (eqb letter 78) _ none).0 refl
unknown_body kind.Relation letter content fields none = pass letter 77 _ _ _ (or_parts (eqb letter 77) _ none).0 refl

unknown_reported : (k : Kind) (letter : ℕ) (content : List ℕ) (fields : Fields) → is_among letter (letters_of k) ≡ false →
    with_field k letter content fields ≡ Err UnknownField
unknown_reported k letter content fields none =
    let v = or_parts (eqb letter 118) _ none in
    let d = or_parts (eqb letter 100) _ v.1 in
    let c = or_parts (eqb letter 99) _ d.1 in
    let t = or_parts (eqb letter 116) _ c.1 in
    let i = or_parts (eqb letter 105) _ t.1 in
    let u = or_parts (eqb letter 117) _ i.1 in
    let g = or_parts (eqb letter 84) _ u.1 in
    pass letter 118 _ _ _ v.0 (pass letter 100 _ _ _ d.0
    (pass letter 99 _ _ _ c.0 (pass letter 116 _ _ _ t.0 (pass letter 105 _ _ _ i.0 (pass letter 117 _ _ _ u.0 (pass letter 84 _ _ _ g.0
    (unknown_body k letter content fields g.1)))))))

longitude_reported : (k : Kind) (content : List ℕ) (fields : Fields) (reason : OplReason) → is_among 120 (letters_of k) ≡ true →
    reading_optional reading_coordinate content ≡ Err reason → with_field k 120 content fields ≡ Err reason
longitude_reported kind.Node content fields reason known e = ap (as_value (λ x. record fields { longitude = Some x })) e
longitude_reported kind.Way content fields reason known e = cc
longitude_reported kind.Relation content fields reason known e = cc

latitude_reported : (k : Kind) (content : List ℕ) (fields : Fields) (reason : OplReason) → is_among 121 (letters_of k) ≡ true →
    reading_optional reading_coordinate content ≡ Err reason → with_field k 121 content fields ≡ Err reason
latitude_reported kind.Node content fields reason known e = ap (as_value (λ x. record fields { latitude = Some x })) e
latitude_reported kind.Way content fields reason known e = cc
latitude_reported kind.Relation content fields reason known e = cc

ids_reported : (k : Kind) (content : List ℕ) (fields : Fields) (reason : OplReason) → is_among 78 (letters_of k) ≡ true →
    reading_list reading_reference content ≡ Err reason → with_field k 78 content fields ≡ Err reason
ids_reported kind.Node content fields reason known e = cc
ids_reported kind.Way content fields reason known e = ap (as_value (λ x. record fields { references = Some x })) e
ids_reported kind.Relation content fields reason known e = cc

relation_reported : (k : Kind) (content : List ℕ) (fields : Fields) (reason : OplReason) → is_among 77 (letters_of k) ≡ true →
    reading_list reading_member content ≡ Err reason → with_field k 77 content fields ≡ Err reason
relation_reported kind.Node content fields reason known e = cc
relation_reported kind.Way content fields reason known e = cc
relation_reported kind.Relation content fields reason known e = ap (as_value (λ x. record fields { members = Some x })) e

content_reported : (k : Kind) (fields : Fields) (letter : ℕ) (content : List ℕ) (reason : OplReason) →
    is_among letter (letters_of k) ≡ true →
    ContentReason letter content reason → with_field k letter content fields ≡ Err reason
content_reported k fields letter content reason known (number content' reason' e) = ap (as_value (λ x. record fields { number = Some x })) e
content_reported k fields letter content reason known (deleted content' reason' e) =
    ap (as_value (λ x. record fields { deleted = Some x })) e
content_reported k fields letter content reason known (changeset content' reason' e) =
    ap (as_value (λ x. record fields { changeset = Some x })) e
content_reported k fields letter content reason known (time content' reason' e) = ap (as_value (λ x. record fields { time = Some x })) e
content_reported k fields letter content reason known (uid content' reason' e) = ap (as_value (λ x. record fields { uid = Some x })) e
content_reported k fields letter content reason known (user content' none) =
    ap (as_value (λ x. record fields { user = Some x })) (no_text_read content' none)
content_reported k fields letter content reason known (tags content' reason' r) =
    ap (as_value (λ x. record fields { tags = Some x })) (tags_reported content' reason' r)
content_reported k fields letter content reason known (longitude content' reason' e) = longitude_reported k content' fields reason' known e
content_reported k fields letter content reason known (latitude content' reason' e) = latitude_reported k content' fields reason' known e
content_reported k fields letter content reason known (references content' reason' r) =
    ids_reported k content' fields reason' known (references_reported content' reason' r)
content_reported k fields letter content reason known (members content' reason' r) =
    relation_reported k content' fields reason' known (members_reported content' reason' r)

field_reported : (k : Kind) (fields : Fields) (met_letters : List ℕ) → ((l : ℕ) → has_field fields l ≡ is_among l met_letters) →
    (field : List ℕ) (reason : OplReason) → FieldReason k met_letters field reason → reading_field k field fields ≡ Err reason
field_reported k fields met_letters has field reason (repeated letter content again) =
    ap (λ t. cond t (Err RepeatedField) (with_field k letter content fields)) (has letter ∙ again)
field_reported k fields met_letters has field reason (unknown letter content fresh other) =
    ap (λ t. cond t (Err RepeatedField) (with_field k letter content fields)) (has letter ∙ fresh)
    ∙ unknown_reported k letter content fields other
field_reported k fields met_letters has field reason (ill_formed letter content reason' fresh known faulty) =
    ap (λ t. cond t (Err RepeatedField) (with_field k letter content fields)) (has letter ∙ fresh)
    ∙ content_reported k fields letter content reason' known faulty

-- ---- the letters met
shuffled : (a b c : Bool) → (b || (a || c)) ≡ ((a || b) || c)
shuffled true true c = refl
shuffled true false c = refl
shuffled false true c = refl
shuffled false false c = refl

met_from : (fields : Fields) (parts : List LinePart) (l : ℕ) →
    has_field (fold with_part fields parts) l ≡ (is_among l (map letter_of parts) || has_field fields l)
met_from fields [] l = refl
met_from fields (p ∷ ps) l =
    met_from (with_part fields p) ps l ∙ ap (λ t. is_among l (map letter_of ps) || t) (met fields p l)
    ∙ shuffled (eqb l (letter_of p)) (is_among l (map letter_of ps)) (has_field fields l)

met_by : (parts : List LinePart) (l : ℕ) → has_field (fold with_part no_fields parts) l ≡ is_among l (map letter_of parts)
met_by parts l = met_from no_fields parts l ∙ ap (λ t. is_among l (map letter_of parts) || t) (unmet l)
    ∙ or-false (is_among l (map letter_of parts))

-- ---- the first faulty field
record Split (k : Kind) (fields : Fields) (pieces : List (List ℕ)) (reason : OplReason) : Type 0 where
  front : List (List ℕ)
  field : List ℕ
  later : List (List ℕ)
  parted : pieces ≡ front ++ field ∷ later
  next : Fields
  read : reading_fields k front fields ≡ Ok next
  refused : reading_field k field next ≡ Err reason

split : (k : Kind) (pieces : List (List ℕ)) (fields : Fields) (reason : OplReason) → reading_fields k pieces fields ≡ Err reason →
    Split k fields pieces reason
unfolding reading_fields
split k [] fields reason e = cc
split k (field ∷ more) fields reason refused =
    elim (reading_field k field fields) as (λ r. reading_field k field fields ≡ r → and_then r (reading_fields k more) ≡ Err reason →
    Split k fields (field ∷ more) reason) [
      | Err bad ↦ λ at e.
          let same : bad ≡ reason = cc in
          record {
            front = [];
            field = field;
            later = more;
            parted = refl;
            next = fields;
            read = refl;
            refused = at
                ∙ ap (λ r. Err r) same;
          }
      | Ok between ↦ λ at e.
          let rest = split k more between reason e in
          record {
            front = field ∷ rest.front;
            field = rest.field;
            later = rest.later;
            parted = ap (λ ps. field ∷ ps) rest.parted;
            next = rest.next;
            read = ap (λ r. and_then r (reading_fields k rest.front)) at ∙ rest.read;
            refused = rest.refused;
          }
    ] refl refused

unsplit : (k : Kind) (front : List (List ℕ)) (field : List ℕ) (later : List (List ℕ)) (fields next : Fields) (reason : OplReason) →
    reading_fields k front fields ≡ Ok next → reading_field k field next ≡ Err reason →
    reading_fields k (front ++ field ∷ later) fields ≡ Err reason
unfolding reading_fields
unsplit k [] field later fields next reason read refused =
    let same : fields ≡ next = cc in
    ap (λ r. and_then r (reading_fields k later)) (ap (reading_field k field) same ∙ refused)
unsplit k (f ∷ fs) field later fields next reason read refused =
    elim (reading_field k f fields) as (λ r. and_then r (reading_fields k fs) ≡ Ok next →
    and_then r (reading_fields k (fs ++ field ∷ later)) ≡ Err reason) [
      | Ok between ↦ λ e. unsplit k fs field later between next reason e refused
      | Err bad ↦ λ e. cc
    ] read

-- Fields that are refused have the reason of their leftmost faulty field.
pub fields_refused : (k : Kind) (pieces : List (List ℕ)) (reason : OplReason) → reading_fields k pieces no_fields ≡ Err reason →
    FieldsReason k pieces reason
fields_refused k pieces reason e =
    let s = split k pieces no_fields reason e in
    let said = parts_of k s.front s.next s.read in
    record {
      front = s.front;
      parts = said.parts;
      fine = said.spelled;
      different = said.different;
      field = s.field;
      later = s.later;
      parted = s.parted;
      faulty = field_refused k s.next (map letter_of said.parts)
          (λ l. ap (λ f. has_field f l) said.together ∙ met_by said.parts l) s.field reason s.refused;
    }

-- Fields whose leftmost faulty field has a reason are refused with it.
pub fields_reported : (k : Kind) (pieces : List (List ℕ)) (reason : OplReason) → FieldsReason k pieces reason →
    reading_fields k pieces no_fields ≡ Err reason
fields_reported k pieces reason r =
    ap (λ ps. reading_fields k ps no_fields) r.parted
    ∙ unsplit k r.front r.field r.later no_fields (fold with_part no_fields r.parts) reason
    (read_of k r.front r.parts r.fine r.different)
    (field_reported k (fold with_part no_fields r.parts) (map letter_of r.parts) (met_by r.parts) r.field reason r.faulty)
