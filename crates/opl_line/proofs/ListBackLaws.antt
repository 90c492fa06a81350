-- Canonical lists spell their items.
use Rattle.std.proofs.Common.{◌≡◌, ◌≢◌, ℕ, ℤ, ◌<◌, Bool, true, false, not, eqb, ◌&&◌, List, [], ◌∷◌, ◌++◌, length, map, refl, sym, ap, ◌∙◌}
use Rattle.std.proofs.Common.{subst, arith}
use Rattle.std.proofs.lemmas.Bool.{and_parts, eqb-true}
use Rattle.std.proofs.lemmas.List.{length-append}
use Rattle.std.specs.List.{list_all}
use Rattle.std.proofs.Math.Nat.{ne_of_gt}
use Rattle.osm_model.specs.declared.tags.Tag.{Tag}
use Rattle.osm_model.specs.declared.members.Member.{Member}
use Rattle.osm_model.specs.Kind.{kind_letter}
use Rattle.osm_model.specs.Id.{is_id}
use Rattle.osm_model.specs.Text.{is_text}
use Rattle.osm_model.specs.Tags.{texts_of_tags}
use Rattle.osm_model.specs.Members.{ids_of_members, roles_of}
use Rattle.osm_model.specs.Decimal.{integer_text}
use Rattle.osm_model.specs.Escape.{escape}
use Rattle.osm_model.specs.Joined.{join_with}
use Rattle.osm_model.specs.Line.{tag_text, reference_text, member_text, list_text}
use Rattle.osm_model.specs.Pairwise.{Pairwise}
use Rattle.osm_model.proofs.Separators.{Lacks, comma, equals, at}
use Rattle.osm_model.proofs.EscapeLaws.{escape_lacks}
use Rattle.osm_model.proofs.LineLaws.{tag_lacks, reference_lacks, member_lacks, object_lacks}
use Rattle.opl_line.specs.declared.bytes.cut.Delimiter.TheVariants.{Commas, Equals, Ats}
use Rattle.opl_line.specs.Delimiter.{is_end, split_all, pieces_of}
use Rattle.opl_line.specs.Content.{SpellsCharacters, SpellsTag, SpellsReference, SpellsMember, SpellsList}
use Rattle.opl_line.specs.Canonical.{ListsAreSpelled}
use Rattle.opl_line.proofs.NumeralLaws.{id_sound}
use Rattle.opl_line.proofs.CutLaws.{cut_split, split_front, split_never}
use Rattle.opl_line.proofs.CanonicalLaws.{id_is_read_back}
use Rattle.opl_line.proofs.EscapedLaws.{text_is_read_back}

apart : (b c : ℕ) → b ≢ c → not (eqb b c) ≡ true
apart b c n = elim (eqb b c) as (λ t. eqb b c ≡ t → not t ≡ true) [ true ↦ λ e. absurd (n (eqb-true b c e)) | false ↦ λ e. refl ] refl

-- a text that lacks a byte passes the test for it
pub lacking : (c : ℕ) (xs : List ℕ) → Lacks c xs → list_all (λ b. not (eqb b c)) xs ≡ true
lacking c [] l = refl
lacking c (x ∷ xs) l = ap (λ t. t && list_all (λ b. not (eqb b c)) xs) (apart x c l.0) ∙ lacking c xs l.1

-- texts without the separator are the pieces that they are joined from
pub cut_joined : (p : ℕ → Bool) (c : ℕ) → p c ≡ true → (text : List ℕ) (texts : List (List ℕ)) →
    list_all (λ t. list_all (λ b. not (p b)) t) (text ∷ texts) ≡ true → split_all p (join_with c (text ∷ texts)) ≡ text ∷ texts
cut_joined p c is text [] all =
    let here = and_parts (list_all (λ b. not (p b)) text) true all in
    cut_split p text ∙ ap (λ s. s.0 ∷ pieces_of p s.1) (split_never p text here.0)
cut_joined p c is text (next ∷ more) all =
    let here = and_parts (list_all (λ b. not (p b)) text) (list_all (λ t. list_all (λ b. not (p b)) t) (next ∷ more)) all in
    cut_split p (text ++ c ∷ join_with c (next ∷ more))
    ∙ ap (λ s. s.0 ∷ pieces_of p s.1) (split_front p text (join_with c (next ∷ more)) c here.0 is)
    ∙ ap (λ ps. text ∷ ps) (cut_joined p c is next more here.1)

some_list : {X : Type 0} (Spells : List ℕ → X → Type 0) (content : List ℕ) (xs : List X) → 0 < length content →
    Pairwise Spells (split_all (is_end Commas) content) xs → SpellsList Spells content xs
some_list Spells [] xs some h = absurd (omega arith)
some_list Spells (b ∷ bs) xs some h = h

some_joined : (c : ℕ) (text : List ℕ) (texts : List (List ℕ)) → 0 < length text → 0 < length (join_with c (text ∷ texts))
some_joined c text [] some = some
some_joined c text (next ∷ more) some = omega (arith, length-append text (c ∷ join_with c (next ∷ more)))

module _ {X : Type 0} (text : X → List ℕ) (lacks : (x : X) → Lacks 44 (text x)) (some : (x : X) → 0 < length (text x))
    (Spells : List ℕ → X → Type 0) where
  lacking_all : (xs : List X) → list_all (λ t. list_all (λ b. not (is_end Commas b)) t) (map text xs) ≡ true
  lacking_all [] = refl
  lacking_all (x ∷ xs) = λ i. lacking 44 (text x) (lacks x) i && lacking_all xs i

  -- texts that spell items, one for one, are joined to a text that spells the list
  list_spelled : (xs : List X) → Pairwise Spells (map text xs) xs → SpellsList Spells (list_text text xs) xs
  list_spelled [] h = refl
  list_spelled (x ∷ xs) h =
      let P : List (List ℕ) → Type 0 = λ ps. Pairwise Spells ps (x ∷ xs) in
      some_list Spells (list_text text (x ∷ xs)) (x ∷ xs) (some_joined 44 (text x) (map text xs) (some x))
      (subst P (sym (cut_joined (is_end Commas) 44 refl (text x) (map text xs) (lacking_all (x ∷ xs)))) h)

-- ---- tags
tag_spelled : (t : Tag) → SpellsCharacters (escape t.key) t.key → SpellsCharacters (escape t.value) t.value → SpellsTag (tag_text t) t
tag_spelled t key value =
    let lacks_key = lacking 61 (escape t.key) (escape_lacks t.key equals) in
    let lacks_value = lacking 61 (escape t.value) (escape_lacks t.value equals) in
    record {
      key = escape t.key;
      value = escape t.value;
      parted =
          cut_split (is_end Equals) (tag_text t)
          ∙ ap (λ s. s.0 ∷ pieces_of (is_end Equals) s.1) (split_front (is_end Equals) (escape t.key) (escape t.value) 61 lacks_key refl)
          ∙ ap (λ ps. escape t.key ∷ ps) (cut_split (is_end Equals) (escape t.value)
          ∙ ap (λ s. s.0 ∷ pieces_of (is_end Equals) s.1) (split_never (is_end Equals) (escape t.value) lacks_value));
      spells_key = key;
      spells_value = value;
    }

tags_spelled : (tags : List Tag) → list_all is_text (texts_of_tags tags) ≡ true → Pairwise SpellsTag (map tag_text tags) tags
tags_spelled [] all = tt
tags_spelled (t ∷ ts) all =
    let key = and_parts (is_text t.key) (is_text t.value && list_all is_text (texts_of_tags ts)) all in
    let value = and_parts (is_text t.value) (list_all is_text (texts_of_tags ts)) key.1 in
    (tag_spelled t (text_is_read_back t.key key.0) (text_is_read_back t.value value.0), tags_spelled ts value.1)

some_tag : (t : Tag) → 0 < length (tag_text t)
some_tag t = omega (arith, length-append (escape t.key) (61 ∷ escape t.value))

-- ---- references
references_spelled : (ids : List ℤ) → list_all is_id ids ≡ true → Pairwise SpellsReference (map reference_text ids) ids
references_spelled [] all = tt
references_spelled (id ∷ ids) all =
    let parts = and_parts (is_id id) (list_all is_id ids) all in (
      record { digits = integer_text id; lettered = refl; spelled = id_sound (integer_text id) id (id_is_read_back id parts.0) },
      references_spelled ids parts.1,
    )

-- ---- members
member_spelled : (m : Member) → is_id m.id ≡ true → SpellsCharacters (escape m.role) m.role → SpellsMember (member_text m) m
member_spelled m is role = record {
  object = kind_letter m.kind ∷ integer_text m.id;
  role = escape m.role;
  parted = split_front (is_end Ats) (kind_letter m.kind ∷ integer_text m.id) (escape m.role) 64
      (lacking 64 (kind_letter m.kind ∷ integer_text m.id) (object_lacks at m.kind m.id)) refl;
  names = record { digits = integer_text m.id; lettered = refl; spelled = id_sound (integer_text m.id) m.id (id_is_read_back m.id is) };
  spells_role = role;
}

members_spelled : (ms : List Member) → list_all is_id (ids_of_members ms) ≡ true → list_all is_text (roles_of ms) ≡ true →
    Pairwise SpellsMember (map member_text ms) ms
members_spelled [] ids texts = tt
members_spelled (m ∷ ms) ids texts =
    let id = and_parts (is_id m.id) (list_all is_id (ids_of_members ms)) ids in
    let role = and_parts (is_text m.role) (list_all is_text (roles_of ms)) texts in
    (member_spelled m id.0 (text_is_read_back m.role role.0), members_spelled ms id.1 role.1)

-- The lists of a canonical line spell their items.
pub lists_are_spelled : ListsAreSpelled
lists_are_spelled = (
  (λ tags texts. list_spelled tag_text (tag_lacks comma (ne_of_gt (omega arith))) some_tag SpellsTag tags (tags_spelled tags texts)),
  (λ ids all. list_spelled reference_text (reference_lacks comma) (λ id. omega arith) SpellsReference ids (references_spelled ids all)),
  (λ ms ids texts. list_spelled member_text (member_lacks comma (ne_of_gt (omega arith))) (λ m. omega arith) SpellsMember ms
      (members_spelled ms ids texts)),
)
