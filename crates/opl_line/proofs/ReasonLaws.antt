-- Contents that are refused are faulty, and conversely.
use Rattle.std.proofs.Common.{◌≡◌, ℕ, ℤ, true, false, cond, eqb, List, [], ◌∷◌, ◌++◌, Option, Some, None, Result, Ok, Err, refl, sym, ap}
use Rattle.std.proofs.Common.{◌∙◌, subst, inl, inr, ⊎_elim}
use Rattle.std.proofs.lemmas.Bool.{eqb-true, eqb-false}
use Rattle.std.specs.Option.{option_map, ok_or}
use Rattle.std.specs.Str.{chars}
use Rattle.osm_model.specs.declared.kind.Kind.{Kind}
use Rattle.osm_model.specs.declared.tags.Tag.{Tag}
use Rattle.osm_model.specs.declared.members.Member.{Member}
use Rattle.osm_model.specs.Kind.{kind_letter}
use Rattle.osm_model.specs.Pairwise.{Pairwise}
use Rattle.opl_line.specs.declared.bytes.cut.Delimiter.TheVariants.{Commas, Equals, Ats}
use Rattle.opl_line.specs.declared.reason.OplReason.{OplReason}
use Rattle.opl_line.specs.declared.reason.OplReason.TheVariants.{UnknownKind, BadText, BadList}
use Rattle.opl_line.specs.Results.{and_then, as_value, with_reason}
use Rattle.opl_line.specs.Delimiter.{is_end, split_first, split_all}
use Rattle.opl_line.specs.Number.{reading_id}
use Rattle.opl_line.specs.Item.{reading_items, reading_list, tag_of_pieces, reading_tag, item_reason, reading_item_id, reading_reference}
use Rattle.opl_line.specs.Item.{kind_of_letter, reading_named, reading_object_name, member_of_parts, reading_member}
use Rattle.opl_line.specs.Text.{text_of, reading_text}
use Rattle.opl_line.specs.Content.{SpellsTag, SpellsReference, SpellsMember}
use Rattle.opl_line.specs.Reading.{reading_kind_and_id, reading_object}
use Rattle.opl_line.specs.LineReason.{SpellsNoText, ObjectReason, no_kind, no_id, TagReason, uneven, no_text, ReferenceReason, no_letter}
use Rattle.opl_line.specs.LineReason.{no_number, MemberReason, no_at, no_name, no_role, FirstReason, ListReason}
use Rattle.opl_line.proofs.ContentLaws.{characters_sound, characters_complete, tag_sound, tag_complete, reference_sound, reference_complete}
use Rattle.opl_line.proofs.ContentLaws.{member_sound, member_complete, name_sound, name_complete, kind_of_its_letter, letter_of_kind}

-- If a reading with `f` applied to its value is refused, so is the reading, for the same reason.
pub still_refused : {X Y : Type 0} (f : X → Y) (said : Result X OplReason) (reason : OplReason) → as_value f said ≡ Err reason →
    said ≡ Err reason
still_refused f (Ok x) reason e = cc
still_refused f (Err bad) reason e = let same : bad ≡ reason = cc in ap (λ r. Err r) same

-- `reason` is `f` of the reason of a reading
record FromReason {X : Type 0} (f : OplReason → OplReason) (said : Result X OplReason) (reason : OplReason) : Type 0 where
  from : OplReason
  said_so : said ≡ Err from
  became : f from ≡ reason

from_reason : {X : Type 0} (f : OplReason → OplReason) (said : Result X OplReason) (reason : OplReason) → with_reason f said ≡ Err reason →
    FromReason f said reason
from_reason f (Ok x) reason e = cc
from_reason f (Err bad) reason e = record { from = bad; said_so = refl; became = (let same : f bad ≡ reason = cc in same) }

-- ---- texts
text_reason : (bytes : List ℕ) (reason : OplReason) → reading_text bytes ≡ Err reason → reason ≡ BadText
text_reason bytes reason =
    elim (text_of bytes) as (λ o. ok_or (option_map chars o) BadText ≡ Err reason → reason ≡ BadText) [
      | None ↦ λ e. cc
      | Some out ↦ λ e. cc
    ]

text_refused : (bytes : List ℕ) (reason : OplReason) → reading_text bytes ≡ Err reason → SpellsNoText bytes
text_refused bytes reason e cs s = let clash = sym e ∙ characters_complete bytes cs s in cc

-- Bytes that spell no text are refused as BadText.
pub no_text_read : (bytes : List ℕ) → SpellsNoText bytes → reading_text bytes ≡ Err BadText
no_text_read bytes none =
    elim (reading_text bytes) as (λ r. reading_text bytes ≡ r → r ≡ Err BadText) [
      | Ok cs ↦ λ e. absurd (none cs (characters_sound bytes cs e))
      | Err reason ↦ λ e. ap (λ r. Err r) (text_reason bytes reason e)
    ] refl

-- ---- tags
tag_pieces_refused : (bytes : List ℕ) (pieces : List (List ℕ)) (reason : OplReason) → split_all (is_end Equals) bytes ≡ pieces →
    tag_of_pieces pieces ≡ Err reason → TagReason bytes reason
tag_pieces_refused bytes [] reason is e =
    let P : OplReason → Type 0 = TagReason bytes in
    let same : BadList ≡ reason = cc in
    subst P same (uneven bytes (λ key value at. let clash = sym is ∙ at in cc))
tag_pieces_refused bytes (key ∷ []) reason is e =
    let P : OplReason → Type 0 = TagReason bytes in
    let same : BadList ≡ reason = cc in
    subst P same (uneven bytes (λ key' value at. let clash = sym is ∙ at in cc))
tag_pieces_refused bytes (key ∷ value ∷ other ∷ more) reason is e =
    let P : OplReason → Type 0 = TagReason bytes in
    let same : BadList ≡ reason = cc in
    subst P same (uneven bytes (λ key' value' at. let clash = sym is ∙ at in cc))
tag_pieces_refused bytes (key ∷ value ∷ []) reason is refused =
    let P : OplReason → Type 0 = TagReason bytes in
    let tag : List ℕ → List ℕ → Tag = λ k v. record { key = k; value = v } in
    elim (reading_text key) as (λ r. reading_text key ≡ r → and_then r (λ k. as_value (tag k) (reading_text value)) ≡ Err reason →
    TagReason bytes reason) [
      | Err bad ↦ λ at e.
          let same : bad ≡ reason = cc in
          subst P (sym (text_reason key bad at) ∙ same) (no_text bytes key value is (inl (text_refused key bad at)))
      | Ok k ↦ λ at e.
          let at_value = still_refused (tag k) (reading_text value) reason e in
          subst P (sym (text_reason value reason at_value)) (no_text bytes key value is (inr (text_refused value reason at_value)))
    ] refl refused

tag_refused : (bytes : List ℕ) (reason : OplReason) → reading_tag bytes ≡ Err reason → TagReason bytes reason
tag_refused bytes reason e = tag_pieces_refused bytes (split_all (is_end Equals) bytes) reason refl e

uneven_read : (bytes : List ℕ) (pieces : List (List ℕ)) → split_all (is_end Equals) bytes ≡ pieces →
    ((key value : List ℕ) → split_all (is_end Equals) bytes ≡ key ∷ value ∷ [] → ⊥) → tag_of_pieces pieces ≡ Err BadList
uneven_read bytes [] is none = refl
uneven_read bytes (key ∷ []) is none = refl
uneven_read bytes (key ∷ value ∷ []) is none = absurd (none key value is)
uneven_read bytes (key ∷ value ∷ other ∷ more) is none = refl

no_value_read : (key value : List ℕ) → SpellsNoText value → tag_of_pieces (key ∷ value ∷ []) ≡ Err BadText
no_value_read key value none =
    let tag : List ℕ → List ℕ → Tag = λ k v. record { key = k; value = v } in
    elim (reading_text key) as (λ r. reading_text key ≡ r → and_then r (λ k. as_value (tag k) (reading_text value)) ≡ Err BadText) [
      | Err bad ↦ λ at. ap (λ r. Err r) (text_reason key bad at)
      | Ok k ↦ λ at. ap (as_value (tag k)) (no_text_read value none)
    ] refl

tag_reason_reported : (bytes : List ℕ) (reason : OplReason) → TagReason bytes reason → reading_tag bytes ≡ Err reason
tag_reason_reported bytes reason (uneven bytes' none) = uneven_read bytes' (split_all (is_end Equals) bytes') refl none
tag_reason_reported bytes reason (no_text bytes' key value is which) =
    let tag : List ℕ → List ℕ → Tag = λ k v. record { key = k; value = v } in
    ap tag_of_pieces is ∙ ⊎_elim (λ none. ap (λ r. and_then r (λ k. as_value (tag k) (reading_text value))) (no_text_read key none))
    (no_value_read key value) which

-- ---- references
reference_refused : (bytes : List ℕ) (reason : OplReason) → reading_reference bytes ≡ Err reason → ReferenceReason bytes reason
reference_refused [] reason e =
    let P : OplReason → Type 0 = ReferenceReason [] in
    let same : BadList ≡ reason = cc in
    subst P same (no_letter [] (λ digits at. cc))
reference_refused (letter ∷ digits) reason refused =
    elim (eqb letter 110) as (λ t. eqb letter 110 ≡ t → cond t (reading_item_id digits) (Err BadList) ≡ Err reason →
    ReferenceReason (letter ∷ digits) reason) [
      | true ↦ λ is e.
          let f = from_reason item_reason (reading_id digits) reason e in
          let P : OplReason → Type 0 = ReferenceReason (letter ∷ digits) in
          let Q : ℕ → Type 0 = λ l. ReferenceReason (l ∷ digits) (item_reason f.from) in
          subst P f.became (subst Q (sym (eqb-true letter 110 is)) (no_number digits f.from f.said_so))
      | false ↦ λ is e.
          let P : OplReason → Type 0 = ReferenceReason (letter ∷ digits) in
          let same : BadList ≡ reason = cc in
          subst P same (no_letter (letter ∷ digits) (λ ds at. let l : letter ≡ 110 = cc in eqb-false letter 110 is l))
    ] refl refused

no_letter_read : (bytes : List ℕ) → ((digits : List ℕ) → bytes ≡ 110 ∷ digits → ⊥) → reading_reference bytes ≡ Err BadList
no_letter_read [] none = refl
no_letter_read (letter ∷ digits) none =
    elim (eqb letter 110) as (λ t. eqb letter 110 ≡ t → cond t (reading_item_id digits) (Err BadList) ≡ Err BadList) [
      | true ↦ λ is. absurd (none digits (ap (λ l. l ∷ digits) (eqb-true letter 110 is)))
      | false ↦ λ is. refl
    ] refl

reference_reason_reported : (bytes : List ℕ) (reason : OplReason) → ReferenceReason bytes reason → reading_reference bytes ≡ Err reason
reference_reason_reported bytes reason (no_letter bytes' none) = no_letter_read bytes' none
reference_reason_reported bytes reason (no_number digits bad e) = ap (with_reason item_reason) e

-- ---- objects
module _ (other : OplReason) (of_id : OplReason → OplReason) (read : List ℕ → Result ℤ OplReason)
    (named : Option Kind → List ℕ → Result (Kind × ℤ) OplReason)
    (none_is : (digits : List ℕ) → named None digits ≡ Err other)
    (some_is : (k : Kind) (digits : List ℕ) → named (Some k) digits ≡ as_value (λ id. (k, id)) (read digits))
    (reason_from : (digits : List ℕ) (reason : OplReason) → read digits ≡ Err reason → FromReason of_id (reading_id digits) reason)
    (reason_to : (digits : List ℕ) (reason : OplReason) → reading_id digits ≡ Err reason → read digits ≡ Err (of_id reason)) where
  named_refused : (letter : ℕ) (digits : List ℕ) (reason : OplReason) → named (kind_of_letter letter) digits ≡ Err reason →
      ObjectReason other of_id (letter ∷ digits) reason
  named_refused letter digits reason refused =
      let P : OplReason → Type 0 = ObjectReason other of_id (letter ∷ digits) in
      elim (kind_of_letter letter) as (λ o. kind_of_letter letter ≡ o → named o digits ≡ Err reason →
      ObjectReason other of_id (letter ∷ digits) reason) [
        | None ↦ λ is e.
            let known = sym (none_is digits) ∙ e in
            let same : other ≡ reason = cc in
            subst P same (no_kind (letter ∷ digits) (λ k ds at. let l : letter ≡ kind_letter k = cc in let clash = sym is
            ∙ ap kind_of_letter l ∙ kind_of_its_letter k in cc))
        | Some k ↦ λ is e.
            let f = reason_from digits reason (still_refused (λ (id : ℤ). (k, id)) (read digits) reason (sym (some_is k digits) ∙ e)) in
            let Q : ℕ → Type 0 = λ l. ObjectReason other of_id (l ∷ digits) (of_id f.from) in
            subst P f.became (subst Q (sym (letter_of_kind letter k is)) (no_id k digits f.from f.said_so))
      ] refl refused

  no_kind_reported : (letter : ℕ) (digits : List ℕ) → ((k : Kind) (ds : List ℕ) → letter ∷ digits ≡ kind_letter k ∷ ds → ⊥) →
      named (kind_of_letter letter) digits ≡ Err other
  no_kind_reported letter digits none =
      elim (kind_of_letter letter) as (λ o. kind_of_letter letter ≡ o → named o digits ≡ Err other) [
        | None ↦ λ is. none_is digits
        | Some k ↦ λ is. absurd (none k digits (ap (λ l. l ∷ digits) (letter_of_kind letter k is)))
      ] refl

  no_id_reported : (k : Kind) (digits : List ℕ) (reason : OplReason) → reading_id digits ≡ Err reason →
      named (kind_of_letter (kind_letter k)) digits ≡ Err (of_id reason)
  no_id_reported k digits reason e = ap (λ o. named o digits) (kind_of_its_letter k) ∙ some_is k digits
      ∙ ap (as_value (λ id. (k, id))) (reason_to digits reason e)

-- An object that is refused has the reason that is returned.
pub object_refused : (bytes : List ℕ) (reason : OplReason) → reading_object bytes ≡ Err reason →
    ObjectReason UnknownKind (λ r. r) bytes reason
object_refused [] reason e =
    let P : OplReason → Type 0 = ObjectReason UnknownKind (λ r. r) [] in
    let same : UnknownKind ≡ reason = cc in
    subst P same (no_kind [] (λ k digits at. cc))
object_refused (letter ∷ digits) reason e =
    named_refused UnknownKind (λ r. r) reading_id reading_kind_and_id (λ ds. refl) (λ k ds. refl)
    (λ ds r at. record { from = r; said_so = at; became = refl }) (λ ds r at. at) letter digits reason e

-- An object that has a reason is refused with it.
pub object_reason_reported : (bytes : List ℕ) (reason : OplReason) → ObjectReason UnknownKind (λ r. r) bytes reason →
    reading_object bytes ≡ Err reason
object_reason_reported bytes reason (no_kind [] none) = refl
object_reason_reported bytes reason (no_kind (letter ∷ digits) none) =
    no_kind_reported UnknownKind (λ r. r) reading_id reading_kind_and_id (λ ds. refl) (λ k ds. refl)
    (λ ds r at. record { from = r; said_so = at; became = refl }) (λ ds r at. at) letter digits none
object_reason_reported bytes reason (no_id k digits bad e) =
    no_id_reported UnknownKind (λ r. r) reading_id reading_kind_and_id (λ ds. refl) (λ k ds. refl)
    (λ ds r at. record { from = r; said_so = at; became = refl }) (λ ds r at. at) k digits bad e

name_refused : (bytes : List ℕ) (reason : OplReason) → reading_object_name bytes ≡ Err reason →
    ObjectReason BadList item_reason bytes reason
name_refused [] reason e =
    let P : OplReason → Type 0 = ObjectReason BadList item_reason [] in
    let same : BadList ≡ reason = cc in
    subst P same (no_kind [] (λ k digits at. cc))
name_refused (letter ∷ digits) reason e =
    named_refused BadList item_reason reading_item_id reading_named (λ ds. refl) (λ k ds. refl)
    (λ ds r at. from_reason item_reason (reading_id ds) r at) (λ ds r at. ap (with_reason item_reason) at) letter digits reason e

name_reason_reported : (bytes : List ℕ) (reason : OplReason) → ObjectReason BadList item_reason bytes reason →
    reading_object_name bytes ≡ Err reason
name_reason_reported bytes reason (no_kind [] none) = refl
name_reason_reported bytes reason (no_kind (letter ∷ digits) none) =
    no_kind_reported BadList item_reason reading_item_id reading_named (λ ds. refl) (λ k ds. refl)
    (λ ds r at. from_reason item_reason (reading_id ds) r at) (λ ds r at. ap (with_reason item_reason) at) letter digits none
name_reason_reported bytes reason (no_id k digits bad e) =
    no_id_reported BadList item_reason reading_item_id reading_named (λ ds. refl) (λ k ds. refl)
    (λ ds r at. from_reason item_reason (reading_id ds) r at) (λ ds r at. ap (with_reason item_reason) at) k digits bad e

-- ---- members
member_parts_refused : (bytes object : List ℕ) (later : Option (List ℕ)) (reason : OplReason) →
    split_first (is_end Ats) bytes ≡ (object, later) → member_of_parts (object, later) ≡ Err reason → MemberReason bytes reason
member_parts_refused bytes object None reason is e =
    let P : OplReason → Type 0 = MemberReason bytes in
    let same : BadList ≡ reason = cc in
    subst P same (no_at bytes object is)
member_parts_refused bytes object (Some role) reason is refused =
    let member : Kind × ℤ → List ℕ → Member = λ o r. record { kind = o.0; id = o.1; role = r } in
    elim (reading_object_name object) as (λ r. reading_object_name object ≡ r →
    and_then r (λ o. as_value (member o) (reading_text role)) ≡ Err reason → MemberReason bytes reason) [
      | Err bad ↦ λ at e. let same : bad ≡ reason = cc in
          no_name bytes object role reason is (name_refused object reason (at ∙ ap (λ r. Err r) same))
      | Ok named ↦ λ at e.
          let at_role = still_refused (member named) (reading_text role) reason e in
          let P : OplReason → Type 0 = MemberReason bytes in
          subst P (sym (text_reason role reason at_role))
          (no_role bytes object role named.0 named.1 is (name_sound object named.0 named.1 at) (text_refused role reason at_role))
    ] refl refused

member_refused : (bytes : List ℕ) (reason : OplReason) → reading_member bytes ≡ Err reason → MemberReason bytes reason
member_refused bytes reason e = member_parts_refused bytes (split_first (is_end Ats) bytes).0
    (split_first (is_end Ats) bytes).1 reason refl e

member_reason_reported : (bytes : List ℕ) (reason : OplReason) → MemberReason bytes reason → reading_member bytes ≡ Err reason
member_reason_reported bytes reason (no_at bytes' object is) = ap member_of_parts is
member_reason_reported bytes reason (no_name bytes' object role bad is faulty) =
    let member : Kind × ℤ → List ℕ → Member = λ o r. record { kind = o.0; id = o.1; role = r } in
    ap member_of_parts is ∙ ap (λ r. and_then r (λ o. as_value (member o) (reading_text role))) (name_reason_reported object bad faulty)
member_reason_reported bytes reason (no_role bytes' object role k id is names none) =
    let member : Kind × ℤ → List ℕ → Member = λ o r. record { kind = o.0; id = o.1; role = r } in
    ap member_of_parts is ∙ ap (λ r. and_then r (λ o. as_value (member o) (reading_text role))) (name_complete object k id names)
    ∙ ap (as_value (member (k, id))) (no_text_read role none)

-- ---- lists
module _ {X : Type 0} (reading : List ℕ → Result X OplReason) (SpellsItem : List ℕ → X → Type 0) (ItemReason : List ℕ → OplReason → Type 0)
    (sound : (bytes : List ℕ) (x : X) → reading bytes ≡ Ok x → SpellsItem bytes x)
    (complete : (bytes : List ℕ) (x : X) → SpellsItem bytes x → reading bytes ≡ Ok x)
    (refused : (bytes : List ℕ) (reason : OplReason) → reading bytes ≡ Err reason → ItemReason bytes reason)
    (known : (bytes : List ℕ) (reason : OplReason) → ItemReason bytes reason → reading bytes ≡ Err reason) where
  items_refused : (pieces : List (List ℕ)) (reason : OplReason) → reading_items reading pieces ≡ Err reason →
      FirstReason SpellsItem ItemReason pieces reason
  unfolding reading_items
  items_refused [] reason e = cc
  items_refused (piece ∷ pieces) reason e =
      elim (reading piece) as (λ r. reading piece ≡ r →
      and_then r (λ x. as_value (λ xs. x ∷ xs) (reading_items reading pieces)) ≡ Err reason →
      FirstReason SpellsItem ItemReason (piece ∷ pieces) reason) [
        | Err bad ↦ λ at here.
            let same : bad ≡ reason = cc in
            record {
              front = [];
              items = [];
              fine = tt;
              piece = piece;
              later = pieces;
              parted = refl;
              faulty =
                  refused piece reason (at ∙ ap (λ r. Err r) same);
            }
        | Ok x ↦ λ at later.
            let rest = items_refused pieces reason (still_refused (λ (xs : List X). x ∷ xs) (reading_items reading pieces) reason later) in
            record {
              front = piece ∷ rest.front;
              items = x ∷ rest.items;
              fine = (sound piece x at, rest.fine);
              piece = rest.piece;
              later = rest.later;
              parted = ap (λ ps. piece ∷ ps) rest.parted;
              faulty = rest.faulty;
            }
      ] refl e

  items_reported : (front : List (List ℕ)) (items : List X) (piece : List ℕ) (later : List (List ℕ)) (reason : OplReason) →
      Pairwise SpellsItem front items → reading piece ≡ Err reason →
      reading_items reading (front ++ piece ∷ later) ≡ Err reason
  unfolding reading_items
  items_reported [] [] piece later reason fine e = ap (λ r. and_then r (λ x. as_value (λ xs. x ∷ xs) (reading_items reading later))) e
  items_reported [] (x ∷ xs) piece later reason fine e = absurd fine
  items_reported (f ∷ fs) [] piece later reason fine e = absurd fine
  items_reported (f ∷ fs) (x ∷ xs) piece later reason fine e =
      ap (λ r. and_then r (λ y. as_value (λ ys. y ∷ ys) (reading_items reading (fs ++ piece ∷ later)))) (complete f x fine.0)
      ∙ ap (as_value (λ ys. x ∷ ys)) (items_reported fs xs piece later reason fine.1 e)

  list_refused : (content : List ℕ) (reason : OplReason) → reading_list reading content ≡ Err reason →
      ListReason SpellsItem ItemReason content reason
  list_refused [] reason e = cc
  list_refused (b ∷ bs) reason e = items_refused (split_all (is_end Commas) (b ∷ bs)) reason e

  list_reported : (content : List ℕ) (reason : OplReason) → ListReason SpellsItem ItemReason content reason →
      reading_list reading content ≡ Err reason
  list_reported [] reason r = absurd r
  list_reported (b ∷ bs) reason r = ap (reading_items reading) r.parted
      ∙ items_reported r.front r.items r.piece r.later reason r.fine (known r.piece reason r.faulty)

-- A list of tags that is refused has the reason that is returned.
pub tags_refused : (content : List ℕ) (reason : OplReason) → reading_list reading_tag content ≡ Err reason →
    ListReason SpellsTag TagReason content reason
tags_refused = list_refused reading_tag SpellsTag TagReason tag_sound tag_complete tag_refused tag_reason_reported

-- A list of tags that has a reason is refused with it.
pub tags_reported : (content : List ℕ) (reason : OplReason) → ListReason SpellsTag TagReason content reason →
    reading_list reading_tag content ≡ Err reason
tags_reported = list_reported reading_tag SpellsTag TagReason tag_sound tag_complete tag_refused tag_reason_reported

-- A list of references that is refused has the reason that is returned.
pub references_refused : (content : List ℕ) (reason : OplReason) → reading_list reading_reference content ≡ Err reason →
    ListReason SpellsReference ReferenceReason content reason
references_refused = list_refused reading_reference SpellsReference ReferenceReason reference_sound reference_complete reference_refused
    reference_reason_reported

-- A list of references that has a reason is refused with it.
pub references_reported : (content : List ℕ) (reason : OplReason) → ListReason SpellsReference ReferenceReason content reason →
    reading_list reading_reference content ≡ Err reason
references_reported = list_reported reading_reference SpellsReference ReferenceReason reference_sound reference_complete reference_refused
    reference_reason_reported

-- A list of members that is refused has the reason that is returned.
pub members_refused : (content : List ℕ) (reason : OplReason) → reading_list reading_member content ≡ Err reason →
    ListReason SpellsMember MemberReason content reason
members_refused = list_refused reading_member SpellsMember MemberReason member_sound member_complete member_refused member_reason_reported

-- A list of members that has a reason is refused with it.
pub members_reported : (content : List ℕ) (reason : OplReason) → ListReason SpellsMember MemberReason content reason →
    reading_list reading_member content ≡ Err reason
members_reported = list_reported reading_member SpellsMember MemberReason member_sound member_complete member_refused member_reason_reported

-- A user name that is refused is BadText and spells no text.
pub user_refused : (content : List ℕ) (reason : OplReason) → reading_text content ≡ Err reason → (reason ≡ BadText) × SpellsNoText content
user_refused content reason e = (text_reason content reason e, text_refused content reason e)
