-- Texts and lists that are read are spelled by their bytes, and conversely.
use Rattle.std.proofs.Common.{◌≡◌, ℕ, ℤ, Bool, true, false, not, cond, eqb, leb, ltb, ◌&&◌, List, [], ◌∷◌, ◌++◌, length, Option, Some, None}
use Rattle.std.proofs.Common.{Result, Ok, Err, refl, sym, ap, ◌∙◌, subst, append_assoc, append-nil, arith}
use Rattle.std.proofs.lemmas.Bool.{and_parts, eqb-true}
use Rattle.std.proofs.lemmas.Bool.Decides.{nat_tests}
use Rattle.std.specs.List.{list_all}
use Rattle.std.specs.Option.{option_map, option_and_then, ok_or}
use Rattle.std.specs.Str.{chars}
use lib.Utf8.{encode, scalar}
use Rattle.osm_model.specs.declared.kind.Kind.{Kind}
use Rattle.osm_model.specs.declared.kind.Kind.TheVariants as kind
use Rattle.osm_model.specs.declared.tags.Tag.{Tag}
use Rattle.osm_model.specs.declared.members.Member.{Member}
use Rattle.osm_model.specs.Kind.{kind_letter}
use Rattle.osm_model.specs.Pairwise.{Pairwise}
use Rattle.opl_line.specs.declared.bytes.cut.Delimiter.TheVariants.{Percents, Commas, Equals, Ats}
use Rattle.opl_line.specs.declared.reason.OplReason.{OplReason}
use Rattle.opl_line.specs.declared.reason.OplReason.TheVariants.{BadText, BadList}
use Rattle.opl_line.specs.Results.{and_then, as_value, with_reason}
use Rattle.opl_line.specs.Number.{reading_id}
use Rattle.opl_line.specs.Item.{reading_items, reading_list, tag_of_pieces, reading_tag, item_reason, reading_item_id, reading_reference}
use Rattle.opl_line.specs.Item.{kind_of_letter, reading_named, reading_object_name, member_of_parts, reading_member}
use Rattle.opl_line.specs.Delimiter.{is_end, split_first, with_first_byte, split_all, pieces_of}
use Rattle.opl_line.specs.Text.{is_literal, is_hex_digit, hex_value, is_hex, scalar_of, with_escape, text_from, text_of_pieces}
use Rattle.opl_line.specs.Text.{text_of, reading_text}
use Rattle.opl_line.specs.Content.{SpellsText, raw, escaped, SpellsCharacters, SpellsTag, SpellsReference, SpellsObject, SpellsMember}
use Rattle.opl_line.specs.Content.{SpellsList}
use Rattle.opl_line.proofs.NumeralLaws.{id_sound, id_complete}
use Rattle.opl_line.proofs.ResultLaws.{both, became, same_success}
use Rattle.opl_line.proofs.CutLaws.{cut_split, split_front, split_never}
use Rattle.opl_line.proofs.TextLaws.{one_escape}

-- Bytes that all pass a test all pass a weaker one.
pub all_weaker : (p q : ℕ → Bool) → ((x : ℕ) → p x ≡ true → q x ≡ true) → (xs : List ℕ) → list_all p xs ≡ true → list_all q xs ≡ true
all_weaker p q h [] all = refl
all_weaker p q h (x ∷ xs) all =
    let parts = and_parts (p x) (list_all p xs) all in
    ap (λ t. t && list_all q xs) (h x parts.0) ∙ all_weaker p q h xs parts.1

-- A byte that stands for itself is no percent sign.
pub raw_no_percent : (b : ℕ) → is_literal b ≡ true → not (eqb b 37) ≡ true
raw_no_percent b e = grind (arith, nat_tests)

hex_no_percent : (b : ℕ) → is_hex_digit b ≡ true → not (eqb b 37) ≡ true
hex_no_percent b e = grind (arith, nat_tests)

scalar_digits : (digits : List ℕ) (c : ℕ) → scalar_of digits ≡ Some c → list_all is_hex_digit digits ≡ true
scalar_digits digits c =
    let value = hex_value digits in
    let named = scalar value && not (eqb value 0) in
    elim (is_hex digits && named) as (λ t. (is_hex digits && named) ≡ t → cond t (Some value) None ≡ Some c →
    list_all is_hex_digit digits ≡ true) [
      | true ↦ λ is e. (and_parts (ltb 0 (length digits) && leb (length digits) 8) (list_all is_hex_digit digits)
          (and_parts (is_hex digits) named is).0).1
      | false ↦ λ is e. cc
    ] refl

-- the text that was read before remains at the front
from_rest : (start done : List ℕ) (pieces : List (List ℕ)) →
    text_from (start ++ done) pieces ≡ option_map (λ t. start ++ t) (text_from done pieces)
unfolding text_from
from_rest start done [] = refl
from_rest start done (escape ∷ []) = refl
from_rest start done (escape ∷ piece ∷ more) =
    elim (scalar_of escape) as (λ s. option_and_then (λ text. text_from text more) (with_escape (start ++ done) piece s)
    ≡ option_map (λ t. start ++ t) (option_and_then (λ text. text_from text more) (with_escape done piece s))) [
      | None ↦ refl
      | Some c ↦ elim (list_all is_literal piece) as
          (λ b. option_and_then (λ text. text_from text more) (cond b (Some (start ++ done ++ encode c ++ piece)) None)
          ≡ option_map (λ t. start ++ t) (option_and_then (λ text. text_from text more) (cond b (Some (done ++ encode c ++ piece)) None))) [
            | true ↦ ap (λ t. text_from t more) (ap (λ t. t ++ piece) (append_assoc start done (encode c))
                ∙ append_assoc start (done ++ encode c) piece) ∙ from_rest start (done ++ encode c ++ piece) more
            | false ↦ refl
          ]
    ]

-- ---- texts that are spelled are read
text_complete_after : (front digits rest text : List ℕ) (c : ℕ) → list_all is_literal front ≡ true → scalar_of digits ≡ Some c →
    text_of rest ≡ Some text → text_of (front ++ 37 ∷ (digits ++ 37 ∷ rest)) ≡ Some (front ++ (encode c ++ text))
text_complete_after front digits rest text c all some read =
    let percent = is_end Percents in
    let at = split_front percent front (digits ++ 37 ∷ rest) 37
    (all_weaker is_literal (λ b. not (eqb b 37)) raw_no_percent front all) refl in
    let escape = split_front percent digits rest 37 (all_weaker is_hex_digit (λ b. not (eqb b 37)) hex_no_percent digits
    (scalar_digits digits c some)) refl in
    let parts = split_first percent rest in
    let pieces : split_all percent (digits ++ 37 ∷ rest) ≡ digits ∷ split_all percent rest = cut_split percent (digits ++ 37 ∷ rest)
    ∙ ap (λ s. s.0 ∷ pieces_of percent s.1) escape in
    ap text_of_pieces at
    ∙ ap (λ t. cond t (text_from front (split_all percent (digits ++ 37 ∷ rest))) None) all
    ∙ (elim (list_all is_literal parts.0) as (λ b. list_all is_literal parts.0 ≡ b →
    cond b (text_from parts.0 (pieces_of percent parts.1)) None ≡ Some text →
    text_from front (split_all percent (digits ++ 37 ∷ rest)) ≡ Some (front ++ (encode c ++ text))) [
      | true ↦ λ is e.
          one_escape front digits parts.0 c _ _ _ pieces (cut_split percent rest) some is
          ∙ from_rest (front ++ encode c) parts.0 (pieces_of percent parts.1)
          ∙ ap (option_map (λ t. front ++ encode c ++ t)) e
          ∙ ap (λ t. Some t) (append_assoc front (encode c) text)
      | false ↦ λ is e. cc
    ] refl read)

text_complete : (bytes out : List ℕ) → SpellsText bytes out → text_of bytes ≡ Some out
unfolding text_from
text_complete bytes out (raw text all) =
    ap text_of_pieces (split_never (is_end Percents) text (all_weaker is_literal (λ b. not (eqb b 37)) raw_no_percent text all))
    ∙ ap (λ t. cond t (Some text) None) all
text_complete bytes out (escaped front digits rest text c all some spelled) =
    text_complete_after front digits rest text c all some (text_complete rest text spelled)

-- ---- texts that are read are spelled
after_percents : List (List ℕ) → List ℕ
after_percents [] = []
after_percents (piece ∷ pieces) = 37 ∷ (piece ++ after_percents pieces)

uncut : (bytes : List ℕ) → after_percents (split_all (is_end Percents) bytes) ≡ 37 ∷ bytes
unfolding after_percents
uncut [] = refl
uncut (b ∷ bs) =
    elim (eqb b 37) as (λ t. eqb b 37 ≡ t → after_percents
    (cond t ([] ∷ split_all (is_end Percents) bs) (with_first_byte b (split_all (is_end Percents) bs))) ≡ 37 ∷ b ∷ bs) [
      | true ↦ λ is. ap (λ r. 37 ∷ r) (uncut bs) ∙ ap (λ x. 37 ∷ x ∷ bs) (sym (eqb-true b 37 is))
      | false ↦ λ other.
          let parts = split_first (is_end Percents) bs in
          let first = cut_split (is_end Percents) bs in
          let rest : 37 ∷ (parts.0 ++ after_percents (pieces_of (is_end Percents) parts.1)) ≡ 37 ∷ bs = sym (ap after_percents first)
          ∙ uncut bs in
          let same : parts.0 ++ after_percents (pieces_of (is_end Percents) parts.1) ≡ bs = cc in
          ap (λ ps. after_percents (with_first_byte b ps)) first ∙ ap (λ r. 37 ∷ b ∷ r) same
    ] refl

rejoined : (bytes : List ℕ) → let parts = split_first (is_end Percents) bytes in
    parts.0 ++ after_percents (pieces_of (is_end Percents) parts.1) ≡ bytes
unfolding after_percents
rejoined bytes =
    let parts = split_first (is_end Percents) bytes in
    let rest : 37 ∷ (parts.0 ++ after_percents (pieces_of (is_end Percents) parts.1)) ≡ 37 ∷ bytes =
    sym (ap after_percents (cut_split (is_end Percents) bytes)) ∙ uncut bytes in
    cc

record AfterText (start bytes out : List ℕ) : Type 0 where
  text : List ℕ
  known : out ≡ start ++ text
  spelled : SpellsText bytes text

spelled_from : (pieces : List (List ℕ)) (start front out : List ℕ) → list_all is_literal front ≡ true →
    text_from (start ++ front) pieces ≡ Some out → AfterText start (front ++ after_percents pieces) out
unfolding text_from after_percents
spelled_from [] start front out all e =
    let P : List ℕ → Type 0 = λ bytes. SpellsText bytes front in
    record {
      text = front;
      known = (let same : start ++ front ≡ out = cc in sym same);
      spelled =
          subst P (sym (append-nil front)) (raw front all);
    }
spelled_from (escape ∷ []) start front out all e = cc
spelled_from (escape ∷ piece ∷ more) start front out all read =
    elim (scalar_of escape) as (λ s. scalar_of escape ≡ s →
    option_and_then (λ text. text_from text more) (with_escape (start ++ front) piece s) ≡ Some out →
    AfterText start (front ++ 37 ∷ (escape ++ 37 ∷ (piece ++ after_percents more))) out) [
      | None ↦ λ none e. cc
      | Some c ↦ λ some. elim (list_all is_literal piece) as
          (λ b. list_all is_literal piece ≡ b → option_and_then (λ text. text_from text more)
          (cond b (Some (start ++ front ++ encode c ++ piece)) None) ≡ Some out →
          AfterText start (front ++ 37 ∷ (escape ++ 37 ∷ (piece ++ after_percents more))) out) [
            | true ↦ λ is e.
                let rest = spelled_from more (start ++ front ++ encode c) piece out is e in
                record {
                  text = front ++ (encode c ++ rest.text);
                  known = rest.known ∙ append_assoc (start ++ front) (encode c) rest.text
                      ∙ append_assoc start front (encode c ++ rest.text);
                  spelled = escaped front escape (piece ++ after_percents more) rest.text c all some rest.spelled;
                }
            | false ↦ λ is e. cc
          ] refl
    ] refl read

text_sound : (bytes out : List ℕ) → text_of bytes ≡ Some out → SpellsText bytes out
text_sound bytes out =
    let parts = split_first (is_end Percents) bytes in
    elim (list_all is_literal parts.0) as (λ b. list_all is_literal parts.0 ≡ b →
    cond b (text_from parts.0 (pieces_of (is_end Percents) parts.1)) None ≡ Some out → SpellsText bytes out) [
      | true ↦ λ all e.
          let found = spelled_from (pieces_of (is_end Percents) parts.1) [] parts.0 out all e in
          let P : List ℕ → Type 0 = λ b. SpellsText b out in
          let Q : List ℕ → Type 0 = SpellsText (parts.0 ++ after_percents (pieces_of (is_end Percents) parts.1)) in
          subst P (rejoined bytes) (subst Q (sym found.known) found.spelled)
      | false ↦ λ all e. cc
    ] refl

-- ---- characters
pub characters_sound : (bytes cs : List ℕ) → reading_text bytes ≡ Ok cs → SpellsCharacters bytes cs
characters_sound bytes cs =
    elim (text_of bytes) as (λ o. text_of bytes ≡ o → ok_or (option_map chars o) BadText ≡ Ok cs → SpellsCharacters bytes cs) [
      | None ↦ λ none e. cc
      | Some out ↦ λ is e. record {
        text = out;
        spelled = text_sound bytes out is;
        characters =
            (let same : chars out ≡ cs = cc in sym same);
      }
    ] refl

-- A text that is spelled is read.
pub characters_complete : (bytes cs : List ℕ) → SpellsCharacters bytes cs → reading_text bytes ≡ Ok cs
characters_complete bytes cs s = ap (λ o. ok_or (option_map chars o) BadText) (text_complete bytes s.text s.spelled)
    ∙ ap (λ t. Ok t) (sym s.characters)

-- ---- tags
tag_pieces : (bytes : List ℕ) (tag : Tag) (pieces : List (List ℕ)) → split_all (is_end Equals) bytes ≡ pieces →
    tag_of_pieces pieces ≡ Ok tag →
    SpellsTag bytes tag
tag_pieces bytes tag [] is e = cc
tag_pieces bytes tag (key ∷ []) is e = cc
tag_pieces bytes tag (key ∷ value ∷ other ∷ more) is e = cc
tag_pieces bytes tag (key ∷ value ∷ []) is e =
    let k = both (reading_text key) (λ (k : List ℕ).
    as_value (λ (v : List ℕ). let t : Tag = record { key = k; value = v } in t) (reading_text value)) tag e in
    let v = became (λ (v : List ℕ). let t : Tag = record { key = k.between; value = v } in t) (reading_text value) tag k.then_done in
    let same_key : k.between ≡ tag.key = ap (λ t. t.key) v.became in
    let same_value : v.from ≡ tag.value = ap (λ t. t.value) v.became in
    record {
      key = key;
      value = value;
      parted = is;
      spells_key = characters_sound key tag.key (k.done ∙ ap (λ t. Ok t) same_key);
      spells_value = characters_sound value tag.value (v.said_so ∙ ap (λ t. Ok t) same_value);
    }

-- A tag that is read is spelled.
pub tag_sound : (bytes : List ℕ) (tag : Tag) → reading_tag bytes ≡ Ok tag → SpellsTag bytes tag
tag_sound bytes tag e = tag_pieces bytes tag (split_all (is_end Equals) bytes) refl e

-- A tag that is spelled is read.
pub tag_complete : (bytes : List ℕ) (tag : Tag) → SpellsTag bytes tag → reading_tag bytes ≡ Ok tag
tag_complete bytes tag s =
    ap tag_of_pieces s.parted
    ∙ ap (λ r. and_then r (λ k. as_value (λ v. record { key = k; value = v }) (reading_text s.value)))
    (characters_complete s.key tag.key s.spells_key)
    ∙ ap (as_value (λ v. record { key = tag.key; value = v })) (characters_complete s.value tag.value s.spells_value)

-- ---- references
pub reference_sound : (bytes : List ℕ) (id : ℤ) → reading_reference bytes ≡ Ok id → SpellsReference bytes id
reference_sound [] id e = cc
reference_sound (letter ∷ digits) id e =
    elim (eqb letter 110) as (λ t. eqb letter 110 ≡ t → cond t (reading_item_id digits) (Err BadList) ≡ Ok id →
    SpellsReference (letter ∷ digits) id) [
      | true ↦ λ is read. record {
        digits = digits;
        lettered = ap (λ l. l ∷ digits) (eqb-true letter 110 is);
        spelled =
            id_sound digits id (same_success item_reason (reading_id digits) id read);
      }
      | false ↦ λ is read. cc
    ] refl e

-- A reference that is spelled is read.
pub reference_complete : (bytes : List ℕ) (id : ℤ) → SpellsReference bytes id → reading_reference bytes ≡ Ok id
reference_complete bytes id s = ap reading_reference s.lettered ∙ ap (with_reason item_reason) (id_complete s.digits id s.spelled)

-- ---- members
pub letter_of_kind : (letter : ℕ) (k : Kind) → kind_of_letter letter ≡ Some k → letter ≡ kind_letter k
letter_of_kind letter k =
    elim (eqb letter 110) as (λ t. eqb letter 110 ≡ t →
    cond t (Some kind.Node) (cond (eqb letter 119) (Some kind.Way) (cond (eqb letter 114) (Some kind.Relation) None)) ≡ Some k →
    letter ≡ kind_letter k) [
      | true ↦ λ is e. let same : kind.Node ≡ k = cc in eqb-true letter 110 is ∙ ap kind_letter same
      | false ↦ λ n. elim (eqb letter 119) as (λ t. eqb letter 119 ≡ t →
          cond t (Some kind.Way) (cond (eqb letter 114) (Some kind.Relation) None) ≡ Some k → letter ≡ kind_letter k) [
            | true ↦ λ is e. let same : kind.Way ≡ k = cc in eqb-true letter 119 is ∙ ap kind_letter same
            | false ↦ λ w. elim (eqb letter 114) as (λ t. eqb letter 114 ≡ t → cond t (Some kind.Relation) None ≡ Some k →
                letter ≡ kind_letter k) [
                  | true ↦ λ is e. let same : kind.Relation ≡ k = cc in eqb-true letter 114 is ∙ ap kind_letter same
                  | false ↦ λ r e. cc
                ] refl
          ] refl
    ] refl

-- The letter of a kind names the kind.
pub kind_of_its_letter : (k : Kind) → kind_of_letter (kind_letter k) ≡ Some k
kind_of_its_letter kind.Node = refl
kind_of_its_letter kind.Way = refl
kind_of_its_letter kind.Relation = refl

-- An object's name that is read is spelled.
pub name_sound : (bytes : List ℕ) (k : Kind) (id : ℤ) → reading_object_name bytes ≡ Ok (k, id) → SpellsObject bytes k id
name_sound [] k id e = cc
name_sound (letter ∷ digits) k id e =
    elim (kind_of_letter letter) as (λ o. kind_of_letter letter ≡ o → reading_named o digits ≡ Ok (k, id) →
    SpellsObject (letter ∷ digits) k id) [
      | None ↦ λ none read. cc
      | Some l ↦ λ is read.
          let b = became (λ (z : ℤ). (l, z)) (reading_item_id digits) (k, id) read in
          let same : l ≡ k = ap (λ p. p.0) b.became in
          let same_id : b.from ≡ id = ap (λ p. p.1) b.became in
          record {
            digits = digits;
            lettered = ap (λ c. c ∷ digits) (letter_of_kind letter l is ∙ ap kind_letter same);
            spelled = id_sound digits id (same_success item_reason (reading_id digits) id (b.said_so ∙ ap (λ z. Ok z) same_id));
          }
    ] refl e

-- An object's name that is spelled is read.
pub name_complete : (bytes : List ℕ) (k : Kind) (id : ℤ) → SpellsObject bytes k id → reading_object_name bytes ≡ Ok (k, id)
name_complete bytes k id s =
    ap reading_object_name s.lettered
    ∙ ap (λ o. reading_named o s.digits) (kind_of_its_letter k)
    ∙ ap (λ r. as_value (λ z. (k, z)) (with_reason item_reason r)) (id_complete s.digits id s.spelled)

member_parts : (bytes object : List ℕ) (after : Option (List ℕ)) (member : Member) → split_first (is_end Ats) bytes ≡ (object, after) →
    member_of_parts (object, after) ≡ Ok member → SpellsMember bytes member
member_parts bytes object None member is e = cc
member_parts bytes object (Some role) member is e =
    let o = both (reading_object_name object) (λ (o : Kind × ℤ).
    as_value (λ (r : List ℕ). let m : Member = record { kind = o.0; id = o.1; role = r } in m) (reading_text role)) member e in
    let r = became (λ (r : List ℕ). let m : Member = record { kind = o.between.0; id = o.between.1; role = r } in m)
    (reading_text role) member o.then_done in
    let same : o.between ≡ (member.kind, member.id) = (λ i. ((r.became i).kind, (r.became i).id)) in
    let same_role : r.from ≡ member.role = ap (λ m. m.role) r.became in
    record {
      object = object;
      role = role;
      parted = is;
      names = name_sound object member.kind member.id (o.done ∙ ap (λ p. Ok p) same);
      spells_role = characters_sound role member.role (r.said_so ∙ ap (λ t. Ok t) same_role);
    }

-- A member that is read is spelled.
pub member_sound : (bytes : List ℕ) (member : Member) → reading_member bytes ≡ Ok member → SpellsMember bytes member
member_sound bytes member e = member_parts bytes _ _ member refl e

-- A member that is spelled is read.
pub member_complete : (bytes : List ℕ) (member : Member) → SpellsMember bytes member → reading_member bytes ≡ Ok member
member_complete bytes member s =
    ap member_of_parts s.parted
    ∙ ap (λ r. and_then r (λ o. as_value (λ t. record { kind = o.0; id = o.1; role = t }) (reading_text s.role)))
    (name_complete s.object member.kind member.id s.names)
    ∙ ap (as_value (λ t. record { kind = member.kind; id = member.id; role = t })) (characters_complete s.role member.role s.spells_role)

-- ---- lists
module _ {X : Type 0} (reading : List ℕ → Result X OplReason) (Spells : List ℕ → X → Type 0) where
  items_sound : ((bytes : List ℕ) (x : X) → reading bytes ≡ Ok x → Spells bytes x) → (pieces : List (List ℕ)) (xs : List X) →
      reading_items reading pieces ≡ Ok xs → Pairwise Spells pieces xs
  unfolding reading_items
  items_sound sound [] [] e = tt
  items_sound sound [] (x ∷ xs) e = cc
  items_sound sound (piece ∷ pieces) [] e =
      let b = both (reading piece) (λ (y : X). as_value (λ (ys : List X). y ∷ ys) (reading_items reading pieces)) [] e in
      let r = became (λ (ys : List X). b.between ∷ ys) (reading_items reading pieces) [] b.then_done in
      let clash = r.became in cc
  items_sound sound (piece ∷ pieces) (x ∷ xs) e =
      let b = both (reading piece) (λ (y : X). as_value (λ (ys : List X). y ∷ ys) (reading_items reading pieces)) (x ∷ xs) e in
      let r = became (λ (ys : List X). b.between ∷ ys) (reading_items reading pieces) (x ∷ xs) b.then_done in
      let both_same = r.became in
      let same : b.between ≡ x = cc in
      let rest : r.from ≡ xs = cc in
      (sound piece x (b.done ∙ ap (λ y. Ok y) same), items_sound sound pieces xs (r.said_so ∙ ap (λ ys. Ok ys) rest))

  items_complete : ((bytes : List ℕ) (x : X) → Spells bytes x → reading bytes ≡ Ok x) → (pieces : List (List ℕ)) (xs : List X) →
      Pairwise Spells pieces xs → reading_items reading pieces ≡ Ok xs
  unfolding reading_items
  items_complete complete [] [] s = refl
  items_complete complete [] (x ∷ xs) s = absurd s
  items_complete complete (piece ∷ pieces) [] s = absurd s
  items_complete complete (piece ∷ pieces) (x ∷ xs) s =
      ap (λ r. and_then r (λ y. as_value (λ ys. y ∷ ys) (reading_items reading pieces))) (complete piece x s.0)
      ∙ ap (as_value (λ ys. x ∷ ys)) (items_complete complete pieces xs s.1)

  list_sound : ((bytes : List ℕ) (x : X) → reading bytes ≡ Ok x → Spells bytes x) → (content : List ℕ) (xs : List X) →
      reading_list reading content ≡ Ok xs → SpellsList Spells content xs
  list_sound sound [] xs e = let same : [] ≡ xs = cc in sym same
  list_sound sound (b ∷ bs) xs e = items_sound sound (split_all (is_end Commas) (b ∷ bs)) xs e

  list_complete : ((bytes : List ℕ) (x : X) → Spells bytes x → reading bytes ≡ Ok x) → (content : List ℕ) (xs : List X) →
      SpellsList Spells content xs → reading_list reading content ≡ Ok xs
  list_complete complete [] xs s = ap (λ ys. Ok ys) (sym s)
  list_complete complete (b ∷ bs) xs s = items_complete complete (split_all (is_end Commas) (b ∷ bs)) xs s

-- A list of tags that is read is spelled.
pub tags_sound : (content : List ℕ) (tags : List Tag) → reading_list reading_tag content ≡ Ok tags → SpellsList SpellsTag content tags
tags_sound = list_sound reading_tag SpellsTag tag_sound

-- A list of tags that is spelled is read.
pub tags_complete : (content : List ℕ) (tags : List Tag) → SpellsList SpellsTag content tags → reading_list reading_tag content ≡ Ok tags
tags_complete = list_complete reading_tag SpellsTag tag_complete

-- A list of references that is read is spelled.
pub references_sound : (content : List ℕ) (ids : List ℤ) → reading_list reading_reference content ≡ Ok ids →
    SpellsList SpellsReference content ids
references_sound = list_sound reading_reference SpellsReference reference_sound

-- A list of references that is spelled is read.
pub references_complete : (content : List ℕ) (ids : List ℤ) → SpellsList SpellsReference content ids →
    reading_list reading_reference content ≡ Ok ids
references_complete = list_complete reading_reference SpellsReference reference_complete

-- A list of members that is read is spelled.
pub members_sound : (content : List ℕ) (members : List Member) → reading_list reading_member content ≡ Ok members →
    SpellsList SpellsMember content members
members_sound = list_sound reading_member SpellsMember member_sound

-- A list of members that is spelled is read.
pub members_complete : (content : List ℕ) (members : List Member) → SpellsList SpellsMember content members →
    reading_list reading_member content ≡ Ok members
members_complete = list_complete reading_member SpellsMember member_complete
