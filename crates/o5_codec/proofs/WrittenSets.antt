-- The bytes written for a version are read back as that version.
use Rattle.std.proofs.Common.{◌≡◌, ℕ, ◌<◌, ◌^◌, true, false, eqb, ◌&&◌, List, [], ◌∷◌, ◌++◌, length, refl, ap, sym, ◌∙◌, arith, Option}
use Rattle.std.proofs.Common.{Some, None, inl, inr, subst, length-append, unwrap_or}
use Rattle.std.specs.Option.{ForSome}
use Rattle.std.specs.List.{list_all}
use Rattle.std.proofs.lemmas.Bool.{cond-false, and_parts}
use Rattle.std.proofs.lemmas.Bool.Decides.{nat_tests}
use Rattle.std.proofs.lemmas.List.{append-nil}
use Rattle.std.proofs.lemmas.List.Folds.{list_all-append}
use Rattle.osm_model.specs.declared.tags.Tag.{Tag}
use Rattle.osm_model.specs.declared.members.Member.{Member}
use Rattle.osm_model.specs.declared.body.Body.{Body}
use Rattle.osm_model.specs.declared.body.Body.TheVariants.{Deleted, Node, Way, Relation}
use Rattle.osm_model.specs.Data.{VersionData, kind_of, ids_of, texts_of, version_of}
use Rattle.osm_model.specs.Id.{is_id}
use Rattle.osm_model.specs.Text.{is_text}
use Rattle.osm_model.specs.Tags.{texts_of_tags}
use Rattle.osm_model.specs.Members.{ids_of_members, roles_of}
use Rattle.osm_model.specs.Valid.{IsInRange, IsVersion}
use Rattle.osm_model.proofs.TagLaws.{list_all-texts_of_tags, body_again}
use Rattle.o5_codec.specs.declared.read.segment.Segment.{Segment}
use Rattle.o5_codec.specs.Author.{Author}
use Rattle.o5_codec.specs.declared.read.segment.ListsSeen.{ListsSeen}
use Rattle.o5_codec.specs.declared.strings.Form.TheVariants.{Pair}
use Rattle.o5_codec.specs.Segment.{author, time_of, meta_of}
use Rattle.o5_codec.specs.Spelling.{UserAtFront, AuthorAfterChangeset, AuthorAtFront, BodyInAll, SpellsSet}
use Rattle.o5_codec.specs.Shortest.{shortest_number}
use Rattle.o5_codec.specs.Writing.{EncoderSegment, WriteStep, sequence, fixed_bytes, id_spelling, time_spelling, changeset_spelling}
use Rattle.o5_codec.specs.Writing.{strings_spelling}
use Rattle.o5_codec.specs.Writing.{user_entry, author_steps, author_spelling, body_spelling, content_spelling}
use Rattle.o5_codec.specs.Agreement.{reader_segment, IsEncoderSegment, MayHaveSeen}
use Rattle.o5_codec.proofs.StringLaws.{strings_shorter}
use Rattle.o5_codec.proofs.WrittenSteps.{id_back, id_keeps, time_back, time_keeps, changeset_back, changeset_keeps, version_back}
use Rattle.o5_codec.proofs.WrittenSteps.{strings_keep, user_at_front}
use Rattle.o5_codec.proofs.WrittenBodies.{IsWritable, body_back, two_bytes}
use Rattle.o5_codec.proofs.SoundSteps.{is_member, is_tag}

-- ---- the author
user_after : (changeset : ℕ) (s : Segment) (bytes : List ℕ) (user : ℕ × List ℕ) (end : Segment) (rest : List ℕ) →
    UserAtFront s bytes (user, end, rest) →
    AuthorAfterChangeset changeset s bytes (author changeset user.0 user.1, end, rest)
user_after changeset s [] user end rest spelled = absurd
    (let short = strings_shorter Pair s.table [] (spelled.0, spelled.1, rest) spelled.2 in omega arith)
user_after changeset s (b ∷ bytes) user end rest spelled = (user, spelled, refl)

-- the author of a version
abbrev author_of : VersionData → Author
author_of v = author v.changeset v.uid v.user

-- the author is read back
abbrev AuthorBack : EncoderSegment → ListsSeen → VersionData → WriteStep → List ℕ → Type 0
AuthorBack c seen v step rest = AuthorAtFront (unwrap_or v.time 0) (reader_segment c seen) ((step c).0 ++ rest)
    (author_of v, reader_segment (step c).1 seen, rest)

no_author : (c : EncoderSegment) (seen : ListsSeen) (v : VersionData) (rest : List ℕ) → v.time ≡ None →
    (v.changeset ≡ 0) × (v.uid ≡ 0) × (v.user ≡ []) →
    AuthorAtFront (unwrap_or v.time 0) (reader_segment c seen) rest (author_of v, reader_segment c seen, rest)
no_author c seen v rest none nobody = inl (
  ap (λ t. eqb (unwrap_or t 0) 0) none,
  λ i. (author (nobody.0 i) (nobody.1 i) (nobody.2 i), reader_segment c seen, rest),
)

some_author : (c : EncoderSegment) (seen : ListsSeen) (v : VersionData) (t : ℕ) (rest : List ℕ) → IsEncoderSegment c → v.time ≡ Some t →
    0 < t →
    v.changeset < 2 ^ 32 → v.uid < 2 ^ 32 → is_text v.user ≡ true →
    AuthorBack c seen v (sequence (changeset_spelling v.changeset ∷ strings_spelling (user_entry v.uid v.user) ∷ [])) rest
unfolding sequence
some_author c seen v t rest ok is some changeset uid user =
    let c1 : EncoderSegment = (changeset_spelling v.changeset c).1 in
    let user_bytes : List ℕ = (strings_spelling (user_entry v.uid v.user) c1).0 in
    let c2 : EncoderSegment = (strings_spelling (user_entry v.uid v.user) c1).1 in
    let ok1 : IsEncoderSegment c1 = changeset_keeps c v.changeset ok changeset in
    subst (λ bytes. AuthorAtFront (unwrap_or v.time 0) (reader_segment c seen) bytes (author_of v, reader_segment c2 seen, rest))
    (sym (two_bytes (changeset_spelling v.changeset c).0 user_bytes rest)) (inr (
      (let not_none : eqb t 0 ≡ false = grind (arith, nat_tests) in ap (λ o. eqb (unwrap_or o 0) 0) is ∙ not_none),
      (
        (v.changeset, reader_segment c1 seen, user_bytes ++ rest),
        changeset_back c seen v.changeset (user_bytes ++ rest) ok changeset,
        user_after v.changeset (reader_segment c1 seen) (user_bytes ++ rest) (v.uid, v.user) (reader_segment c2 seen) rest
            (user_at_front c1 seen v.uid v.user rest ok1 uid user),
      ),
    ))

author_by : (o : Option ℕ) (c : EncoderSegment) (seen : ListsSeen) (v : VersionData) (rest : List ℕ) → v.time ≡ o → IsEncoderSegment c →
    IsVersion v → ForSome o (λ t. (0 < t) × (t < 2 ^ 32)) →
    AuthorBack c seen v (sequence (author_steps o v)) rest × IsEncoderSegment (sequence (author_steps o v) c).1
unfolding sequence
author_by None c seen v rest is ok valid dated = (no_author c seen v rest is (valid.author is), ok)
author_by (Some t) c seen v rest is ok valid dated = (
  some_author c seen v t rest ok is (dated t refl).0 valid.changeset valid.uid (and_parts _ _ valid.texts).0,
  strings_keep (user_entry v.uid v.user) (changeset_spelling v.changeset c).1 (changeset_keeps c v.changeset ok valid.changeset),
)

pub author_back : (c : EncoderSegment) (seen : ListsSeen) (v : VersionData) (rest : List ℕ) → IsEncoderSegment c → IsVersion v →
    AuthorBack c seen v (author_spelling v) rest × IsEncoderSegment (author_spelling v c).1
unfolding author_spelling
author_back c seen v rest ok valid = author_by v.time c seen v rest refl ok valid valid.time

-- ---- the version that is read
times_are_small : (o : Option ℕ) → ForSome o (λ t. (0 < t) × (t < 2 ^ 32)) → unwrap_or o 0 < 2 ^ 32
times_are_small None h = omega arith
times_are_small (Some t) h = (h t refl).1

time_again : (o : Option ℕ) → ForSome o (λ t. (0 < t) × (t < 2 ^ 32)) → time_of (unwrap_or o 0) ≡ o
time_again None h = refl
time_again (Some t) h = cond-false (eqb t 0) None (Some t) (let some : 0 < t = (h t refl).0 in grind (arith, nat_tests))

version_again : (v : VersionData) → IsVersion v → v ≡ version_of v.id (meta_of v.number (unwrap_or v.time 0) (author_of v)) v.body
version_again v valid = λ i. record {
  id = v.id;
  number = v.number;
  time = sym (time_again v.time valid.time) i;
  changeset = v.changeset;
  uid = v.uid;
  user = v.user;
  body = sym (body_again v.body valid.tags) i;
}

-- ---- the requirements of a version's body
texts_there : (tags : List Tag) → list_all is_text (texts_of_tags tags) ≡ true → list_all is_tag tags ≡ true
texts_there tags h = sym (list_all-texts_of_tags is_text tags) ∙ h

members_there : (members : List Member) → list_all is_id (ids_of_members members) ≡ true → list_all is_text (roles_of members) ≡ true →
    list_all is_member members ≡ true
members_there [] ids roles = refl
members_there (m ∷ members) ids roles =
    let id = and_parts (is_id m.id) (list_all is_id (ids_of_members members)) ids in
    let role = and_parts (is_text m.role) (list_all is_text (roles_of members)) roles in
    λ i. (id.0 i && role.0 i) && members_there members id.1 role.1 i

writable : (body : Body) → list_all is_id (ids_of body) ≡ true → list_all is_text (texts_of body) ≡ true → IsInRange body → IsWritable body
writable (Deleted k) ids texts location = record { ids = refl; texts = refl; location = location; roles = refl }
writable (Node lon lat tags) ids texts location = record { ids = refl; texts = texts_there tags texts; location = location; roles = refl }
writable (Way refs tags) ids texts location = record { ids = ids; texts = texts_there tags texts; location = location; roles = refl }
writable (Relation members tags) ids texts location =
    let both = and_parts (list_all is_text (roles_of members)) (list_all is_text (texts_of_tags tags))
    (sym (list_all-append is_text (roles_of members) (texts_of_tags tags)) ∙ texts) in
    record { ids = ids; texts = texts_there tags both.1; location = location; roles = members_there members ids both.0 }

-- ---- a whole content
-- the content spells the version for a reader with the writer's context, and both continue with equal contexts
pub record IsReadBack (v : VersionData) (c : EncoderSegment) (seen : ListsSeen) : Type 0 where
  pub after : ListsSeen
  pub may : MayHaveSeen (kind_of v.body) after
  pub spells : SpellsSet (kind_of v.body) (reader_segment c seen) (content_spelling v c).0
      (v, reader_segment (content_spelling v c).1 after)
  pub segment : IsEncoderSegment (content_spelling v c).1

-- The bytes written for a version are read back as the version.
pub set_back : (v : VersionData) (c : EncoderSegment) (seen : ListsSeen) → IsVersion v → IsEncoderSegment c →
    MayHaveSeen (kind_of v.body) seen →
    length (content_spelling v c).0 < 2 ^ 64 → IsReadBack v c seen
unfolding content_spelling sequence fixed_bytes
set_back v c seen valid ok may small =
    let ids = and_parts (is_id v.id) (list_all is_id (ids_of v.body)) valid.ids in
    let texts = and_parts (is_text v.user) (list_all is_text (texts_of v.body)) valid.texts in
    let time : ℕ = unwrap_or v.time 0 in
    let time_small : time < 2 ^ 32 = times_are_small v.time valid.time in
    let c1 : EncoderSegment = (id_spelling v.id c).1 in
    let c2 : EncoderSegment = (time_spelling time c1).1 in
    let c3 : EncoderSegment = (author_spelling v c2).1 in
    let c4 : EncoderSegment = (body_spelling v.body c3).1 in
    let ok1 : IsEncoderSegment c1 = id_keeps c v.id ok ids.0 in
    let ok2 : IsEncoderSegment c2 = time_keeps c1 time ok1 time_small in
    let bytes : List ℕ = (body_spelling v.body c3).0 in
    let author_bytes : List ℕ = (author_spelling v c2).0 ++ (bytes ++ []) in
    let time_bytes : List ℕ = (time_spelling time c1).0 ++ author_bytes in
    let meta_bytes : List ℕ = shortest_number v.number ++ time_bytes in
    let made = author_back c2 seen v (bytes ++ []) ok2 valid in
    let room : length bytes < 2 ^ 64 = omega (
      arith,
      length-append (id_spelling v.id c).0 meta_bytes,
      length-append (shortest_number v.number) time_bytes,
      length-append (time_spelling time c1).0 author_bytes,
      length-append (author_spelling v c2).0 (bytes ++ []),
      length-append bytes [],
    ) in
    let body = body_back v.body c3 seen made.1 may (writable v.body ids.1 texts.1 valid.location) room in
    record {
      after = body.0;
      may = body.1;
      spells = record {
        id = (v.id, reader_segment c1 seen, meta_bytes);
        meta = (meta_of v.number time (author_of v), reader_segment c3 seen, bytes ++ []);
        body = (v.body, reader_segment c4 body.0);
        id_at_front = id_back c seen v.id meta_bytes ok ids.0;
        meta_at_front = (
          (v.number, time_bytes),
          (time, reader_segment c2 seen, author_bytes),
          (author_of v, reader_segment c3 seen, bytes ++ []),
          version_back v.number time_bytes valid.number_above valid.number_below,
          time_back c1 seen time author_bytes ok1 time_small,
          made.0,
          refl,
        );
        body_at_front = subst (λ b. BodyInAll (kind_of v.body) (reader_segment c3 seen) b (v.body, reader_segment c4 body.0))
            (sym (append-nil bytes)) body.2;
        made = ap (λ x. (x, reader_segment c4 body.0)) (version_again v valid);
      };
      segment = body.3;
    }
