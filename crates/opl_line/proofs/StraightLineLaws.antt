-- A line that was parsed from left to right is read as its version.
use Rattle.std.proofs.Common.{◌≡◌, ℕ, ℤ, Bool, true, false, eqb, ◌&&◌, List, [], ◌∷◌, ◌++◌, None, Some, Ok, refl, sym, ap, ◌∙◌, subst}
use Rattle.std.proofs.Common.{append_assoc}
use Rattle.std.proofs.lemmas.Bool.{and_parts}
use Rattle.std.proofs.lemmas.List.Folds.{list_all-append}
use Rattle.std.specs.List.{list_all}
use Rattle.osm_model.specs.declared.kind.Kind.{Kind}
use Rattle.osm_model.specs.declared.kind.Kind.TheVariants as kind
use Rattle.osm_model.specs.declared.meta.Meta.{Meta}
use Rattle.osm_model.specs.declared.tags.Tag.{Tag}
use Rattle.osm_model.specs.declared.members.Member.{Member}
use Rattle.osm_model.specs.declared.body.Body.{Body}
use Rattle.osm_model.specs.declared.body.Body.TheVariants.{Deleted, Node, Way, Relation}
use Rattle.osm_model.specs.Id.{is_id}
use Rattle.osm_model.specs.Text.{is_text}
use Rattle.osm_model.specs.Tags.{texts_of_tags}
use Rattle.osm_model.specs.Members.{ids_of_members, roles_of}
use Rattle.osm_model.specs.New.{is_dated, first_fault}
use Rattle.osm_model.specs.Data.{VersionData, kind_of, is_deleted, normal_body, version_of}
use Rattle.osm_model.specs.Valid.{IsInRange, IsVersion}
use Rattle.osm_model.specs.Line.{list_text, tag_text, reference_text, member_text, line}
use Rattle.osm_model.specs.Append.{location_text}
use Rattle.osm_model.proofs.AppendLaws.{line-parts}
use Rattle.opl_line.specs.Reading.{reading_line}
use Rattle.opl_line.specs.Straight.{head_text, tail_text, IsHead, IsTail}
use Rattle.opl_line.proofs.MadeLaws.{Passes, without_fault, made}
use Rattle.opl_line.proofs.WholeLineLaws.{data_is_read}

-- tags that are valid have texts that are valid
valid_tags : (tags : List Tag) → list_all (λ tag. is_text tag.key && is_text tag.value) tags ≡ true →
    list_all is_text (texts_of_tags tags) ≡ true
valid_tags [] all = refl
valid_tags (t ∷ ts) all =
    let parts = and_parts (is_text t.key && is_text t.value) (list_all (λ tag. is_text tag.key && is_text tag.value) ts) all in
    let texts = and_parts (is_text t.key) (is_text t.value) parts.0 in
    λ i. texts.0 i && (texts.1 i && valid_tags ts parts.1 i)

valid_ids : (members : List Member) → list_all (λ member. is_id member.id && is_text member.role) members ≡ true →
    list_all is_id (ids_of_members members) ≡ true
valid_ids [] all = refl
valid_ids (m ∷ ms) all =
    let parts = and_parts (is_id m.id && is_text m.role) (list_all (λ member. is_id member.id && is_text member.role) ms) all in
    λ i. (and_parts (is_id m.id) (is_text m.role) parts.0).0 i && valid_ids ms parts.1 i

valid_roles : (members : List Member) → list_all (λ member. is_id member.id && is_text member.role) members ≡ true →
    list_all is_text (roles_of members) ≡ true
valid_roles [] all = refl
valid_roles (m ∷ ms) all =
    let parts = and_parts (is_id m.id && is_text m.role) (list_all (λ member. is_id member.id && is_text member.role) ms) all in
    λ i. (and_parts (is_id m.id) (is_text m.role) parts.0).1 i && valid_roles ms parts.1 i

-- the tags, and the text after them
module _ (text from_tags after : List ℕ) (k : Kind) (deleted : Bool) (tags : List Tag) (marked : text ≡ 32 ∷ 84 ∷ from_tags)
    (listed : from_tags ≡ list_text tag_text tags ++ after) (visible : deleted ≡ false)
    (all : list_all (λ tag. is_text tag.key && is_text tag.value) tags ≡ true) where
  spelled_after : (rest : List ℕ) → after ≡ rest → text ≡ 32 ∷ 84 ∷ (list_text tag_text tags ++ rest)
  spelled_after rest is = marked ∙ ap (λ t. 32 ∷ 84 ∷ t) (listed ∙ ap (λ t. list_text tag_text tags ++ t) is)

  -- Tags and then a location are the tail of a node's line.
  pub node_tail : (lon lat : ℤ) → k ≡ kind.Node → after ≡ location_text lon lat → IsTail text k deleted (Node lon lat tags)
  node_tail lon lat is located =
      record {
        spelled = spelled_after (location_text lon lat) located;
        same_kind = sym is;
        same_deleted = sym visible;
        ids = refl;
        texts =
            valid_tags tags all;
      }

  -- Tags and then references are the tail of a way's line.
  pub way_tail : (refs : List ℤ) (rest : List ℕ) → k ≡ kind.Way → after ≡ 32 ∷ 78 ∷ rest → rest ≡ list_text reference_text refs →
      list_all is_id refs ≡ true → IsTail text k deleted (Way refs tags)
  way_tail refs rest is mark list valid =
      record {
        spelled = spelled_after (32 ∷ 78 ∷ list_text reference_text refs) (mark ∙ ap (λ t. 32 ∷ 78 ∷ t) list);
        same_kind = sym is;
        same_deleted = sym visible;
        ids = valid;
        texts = valid_tags tags all;
      }

  -- Tags and then members are the tail of a relation's line.
  pub relation_tail : (members : List Member) (rest : List ℕ) → k ≡ kind.Relation → after ≡ 32 ∷ 77 ∷ rest →
      rest ≡ list_text member_text members → list_all (λ member. is_id member.id && is_text member.role) members ≡ true →
      IsTail text k deleted (Relation members tags)
  relation_tail members rest is mark list valid =
      record {
        spelled = spelled_after (32 ∷ 77 ∷ list_text member_text members) (mark ∙ ap (λ t. 32 ∷ 77 ∷ t) list);
        same_kind = sym is;
        same_deleted = sym visible;
        ids = valid_ids members valid;
        texts = list_all-append is_text (roles_of members) (texts_of_tags tags)
            ∙ (λ i. valid_roles members valid i && valid_tags tags all i);
      }

-- the data of a line, with its tags in their order in the line
abbrev data_of_line : ℤ → Meta → Body → VersionData
data_of_line id meta b = record {
  id = id;
  number = meta.version;
  time = meta.time;
  changeset = meta.changeset;
  uid = meta.uid;
  user =
      meta.user;
  body = b;
}

whole_text : (id : ℤ) (meta : Meta) (b : Body) → head_text (kind_of b) id (is_deleted b) meta ++ tail_text b ≡ line (data_of_line id meta b)
whole_text id meta b = sym (line-parts (data_of_line id meta b) ∙ simp append_assoc)

in_range : (b : Body) → IsInRange (normal_body b) → IsInRange b
in_range (Deleted k) h = h
in_range (Node lon lat tags) h = h
in_range (Way refs tags) h = h
in_range (Relation members tags) h = h

-- a line that was parsed from left to right
module _ (text after : List ℕ) (k : Kind) (id : ℤ) (deleted : Bool) (meta : Meta) (b : Body) (head : IsHead text k id deleted meta after)
    (tail : IsTail after k deleted b) (some : eqb meta.version 0 ≡ false) (dated : is_dated meta ≡ true) where
  passes : Passes id meta b
  passes =
      record {
        ids = (λ i. head.object i && tail.ids i);
        number = some;
        numbers = (λ i. head.number i && (head.shared_author.changeset i && (head.shared_author.uid i && true)));
        time = head.shared_author.time;
        dated = dated;
        texts = (λ i. head.shared_author.user i && tail.texts i);
      }

  spelled : text ≡ line (data_of_line id meta b)
  spelled =
      head.spelled
      ∙ ap (λ t. head_text k id deleted meta ++ t) tail.spelled
      ∙ (λ i. head_text (sym tail.same_kind i) id (sym tail.same_deleted i) meta ++ tail_text b)
      ∙ whole_text id meta b

  -- The data of a line that was parsed straight has no fault.
  pub no_fault : first_fault id meta b ≡ None
  no_fault = without_fault id meta b passes

  -- The general reader reads a line that was parsed straight as the same version.
  pub is_read : (v : VersionData) → IsVersion v → v ≡ version_of id meta b → reading_line text ≡ Ok (Some v)
  is_read v is same =
      let of_data = subst IsVersion same is in
      ap reading_line spelled
      ∙ data_is_read (data_of_line id meta b) (version_of id meta b) (record {
        ids = passes.ids;
        number = of_data.number_below;
        changeset = of_data.changeset;
        uid = of_data.uid;
        time = of_data.time;
        texts = passes.texts;
        location = in_range b of_data.location;
      }) (made id meta b passes)
      ∙ ap (λ w. Ok (Some w)) (sym same)
