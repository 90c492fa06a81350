-- Files whose keys don't fall are sorted, if they are accepted.
use Rattle.std.proofs.Common.{◌≡◌, ℕ, ℤ, pos, ◌==◌, true, false, not, cond, ◌&&◌, List, [], ◌∷◌, ◌++◌, Option, Some, None}
use Rattle.std.proofs.Common.{◌^◌, nat_lt, Ok, Err, refl, sym, ap, ◌∙◌, subst, append-nil}
use Rattle.osm_model.specs.declared.object.Key.{Key}
use Rattle.osm_model.specs.declared.kind.Kind.{Kind}
use Rattle.osm_model.specs.declared.kind.Kind.TheVariants as kind
use Rattle.osm_model.specs.declared.body.Body.{Body}
use Rattle.osm_model.specs.Data.{VersionData, kind_of, normal_body}
use Rattle.osm_model.specs.VersionSet.{VersionSet}
use Rattle.osm_model.specs.Order.{key_of}
use Rattle.o5_codec.specs.declared.reason.O5Reason.TheVariants.{NoVersion, OutOfRange}
use Rattle.o5_codec.specs.declared.read.segment.Segment.{Segment}
use Rattle.o5_codec.specs.Base.{moved_id, within_range}
use Rattle.o5_codec.specs.Decoder.{new_segment}
use Rattle.o5_codec.specs.Number.{number_at}
use Rattle.o5_codec.specs.Results.{and_then}
use Rattle.o5_codec.specs.Segment.{nonzero_version}
use Rattle.o5_codec.specs.Spelling.{BodyInAll, SpellsSet}
use Rattle.o5_codec.proofs.EarlierSteps.{set_bases}
use Rattle.o5_codec.proofs.NumberLaws.{number_only, signed_only}
use Rattle.o5_codec.proofs.SoundStrings.{first_ok, same_value, tested_ok}
use Rattle.osm_files.specs.FileRuns.{IsAccepted}
use Rattle.osm_files.specs.Held.{HoldsSorted}
use Rattle.osm_files.specs.KeyOrder.{AreRising}
use Rattle.osm_files.specs.LineKey.{is_key_below, keys_rise, last_key}
use Rattle.osm_files.specs.O5.{end_byte, FilePart, Reset, Lone, Skipped, Object, PartsSpell, O5File}
use Rattle.osm_files.specs.SetKey.{BeginsWithKey, KeyRises, AreKeyed, IsKeyedFile}
use Rattle.osm_files.specs.Units.{BeforeHeader, start_of}
use Rattle.osm_files.proofs.JoinLaws.{header_starts, bytes_of, after_header}
use Rattle.osm_files.proofs.KeyOrderLaws.{sorted_if_rising}
use Rattle.osm_files.proofs.PartLaws.{PartsFile, first_part, end_only}
use Rattle.osm_files.proofs.RestLaws.{AreFormed, FormedFile, same_parts}

-- ---- the key of a data set
numbered : (x y : ℕ × List ℕ) → nonzero_version x ≡ Ok y → y.0 ≡ x.0
numbered x y h =
    elim (x.0 == 0) as (λ t. cond t (Err NoVersion) (and_then (within_range x.0) (λ n. Ok (n, x.1))) ≡ Ok y → y.0 ≡ x.0) [
      | true ↦ λ e. cc
      | false ↦ λ e. (
          let f = first_ok (within_range x.0) (λ n. Ok (n, x.1)) y e in
          let in_range = tested_ok (nat_lt x.0 (2 ^ 32)) x.0 f.0 OutOfRange f.1 in
          let read : ℕ × List ℕ = (f.0, x.1) in
          ap (λ z. z.0) (sym (same_value read y f.2)) ∙ sym in_range.1)
    ] h

bodied : (k : Kind) (s : Segment) (bytes : List ℕ) (x : Body × Segment) → BodyInAll k s bytes x → kind_of (normal_body x.0) ≡ k
bodied k s [] x spelled = ap (λ y. kind_of (normal_body y.0)) spelled
bodied kind.Node s (b ∷ bytes) x (lon, lat, tags, lons, lats, tagged, made) = ap (λ y. kind_of (normal_body y)) made
bodied kind.Way s (b ∷ bytes) x (section, seen, ids, tags, cut, list, referred, tagged, made) = ap (λ y. kind_of (normal_body y)) made
bodied kind.Relation s (b ∷ bytes) x (section, members, tags, cut, joined, tagged, made) = ap (λ y. kind_of (normal_body y)) made

module _ (k : Kind) (s : Segment) (content : List ℕ) (base id : ℤ) (number : ℕ) (begins : BeginsWithKey base content id number)
    (is_base : s.bases.id ≡ base) (v : VersionData) (next : Segment) (spells : SpellsSet k s content (v, next)) where
  same_id : (spells.id.2 ≡ begins.1) × (spells.id.0 ≡ id)
  same_id =
      let at = spells.id_at_front in
      let here : ℤ × List ℕ = (at.0, spells.id.2) in
      let there : ℤ × List ℕ = (begins.0, begins.1) in
      let same : here ≡ there = same_value here there
      (sym (signed_only content here at.1) ∙ signed_only content there begins.3) in
      let moved : Ok spells.id.0 ≡ Ok id =
      sym at.2 ∙ (λ i. moved_id (is_base i) (same i).0) ∙ begins.4 in
      (ap (λ x. x.1) same, same_value spells.id.0 id moved)

  same_number : spells.meta.0.version ≡ number
  same_number =
      let meta = spells.meta_at_front in
      let version = meta.3 in
      let rest : List ℕ = spells.id.2 in
      let here : ℕ × List ℕ = (version.0, meta.0.1) in
      let there : ℕ × List ℕ = (number, begins.2) in
      let same : here ≡ there = same_value here there
      (sym (number_only rest here version.1) ∙ ap number_at same_id.0 ∙ number_only begins.1 there begins.5) in
      ap (λ x. x.0.version) meta.6 ∙ numbered here meta.0 version.2 ∙ ap (λ x. x.0) same

  -- The key at the front of a content is the key of the version that the content spells.
  pub same_key : key_of v ≡ record { object = record { kind = k; id = id }; number = number }
  same_key =
      let body = bodied k spells.meta.1 spells.meta.2 spells.body spells.body_at_front in
      ap (λ x. key_of x.0) spells.made ∙ (λ i. record { object = record { kind = body i; id = same_id.1 i }; number = same_number i })

  -- The id at the front of a content is the next base of ids.
  pub same_base : next.bases.id ≡ id
  same_base =
      ap (λ b. b.id) (set_bases k s content (v, next) spells) ∙ ap (λ x. x.0.id) spells.made ∙ same_id.1

-- ---- parts whose keys don't fall
no_rise : (before key last : Option Key) → key ≡ None → KeyRises before key last → before ≡ last
no_rise before key last none rises = subst (λ k. KeyRises before k last) none rises

formed_keyed : (base : ℤ) (before : Option Key) (parts : List FilePart) (next : ℤ) (after : Option Key)
    → AreKeyed base before parts next after → AreFormed parts
formed_keyed base before [] next after h = tt
formed_keyed base before (Reset ∷ parts) next after (key, b, last, has, rises, more) = formed_keyed b last parts next after more
formed_keyed base before (Lone c ∷ parts) next after (key, b, last, has, rises, more) =
    (has.0, formed_keyed b last parts next after more)
formed_keyed base before (Skipped c size content ∷ parts) next after (key, b, last, has, rises, more) =
    (has.0, has.1, formed_keyed b last parts next after more)
formed_keyed base before (Object k size content ∷ parts) next after (key, b, last, has, rises, more) =
    (has.0, formed_keyed b last parts next after more)

-- one version rises, and then the others
rises_first : (before : Option Key) (key : Key) (last after : Option Key) (v : VersionData) (versions : List VersionData)
    → key_of v ≡ key → KeyRises before (Some key) last → AreRising last versions after → AreRising before (v ∷ versions) after
rises_first before key last after v versions same (above, is) more =
    let others : AreRising (Some key) versions after = subst (λ l. AreRising l versions after) (sym is) more in
    subst (λ k. (not (is_key_below k before) && keys_rise (Some k) versions ≡ true) × (last_key (Some k) versions ≡ after)) (sym same)
    ((λ i. not (above i) && others.0 i), others.1)

rising_parts : (s : Segment) (base : ℤ) (before : Option Key) (parts : List FilePart) (next : ℤ) (after : Option Key)
    (versions : List VersionData) → s.bases.id ≡ base → AreKeyed base before parts next after → PartsSpell s parts versions
    → AreRising before versions after
rising_parts s base before [] next after versions is h spelled =
    subst (λ vs. AreRising before vs after) (sym spelled) (refl, h.1)
rising_parts s base before (Reset ∷ parts) next after versions is (key, b, last, has, rises, more) spelled =
    subst (λ l. AreRising l versions after) (sym (no_rise before key last has.0 rises))
    (rising_parts new_segment b last parts next after versions (sym has.1) more spelled)
rising_parts s base before (Lone c ∷ parts) next after versions is (key, b, last, has, rises, more) spelled =
    subst (λ l. AreRising l versions after) (sym (no_rise before key last has.1 rises))
    (rising_parts s b last parts next after versions (is ∙ sym has.2) more spelled.1)
rising_parts s base before (Skipped c size content ∷ parts) next after versions is (key, b, last, has, rises, more) spelled =
    subst (λ l. AreRising l versions after) (sym (no_rise before key last has.2 rises))
    (rising_parts s b last parts next after versions (is ∙ sym has.3) more spelled.2)
rising_parts s base before (Object k size content ∷ parts) next after versions is (key, b, last, has, rises, more)
    (number, (v, end, others, are, spells, spelled)) =
    let begins = has.1.1 in
    let this : Key = record { object = record { kind = k; id = b }; number = has.1.0 } in
    let same = same_key k s content base b has.1.0 begins is v end spells in
    let rest = rising_parts end b last parts next after others (same_base k s content base b has.1.0 begins is v end spells) more
    spelled in
    subst (λ vs. AreRising before vs after) (sym are)
    (rises_first before this last after v others same (subst (λ x. KeyRises before x last) has.1.2 rises) rest)

-- ---- files
-- A file whose keys don't fall has the form of a file.
pub keyed_formed : (bytes : List ℕ) → IsKeyedFile bytes → FormedFile bytes
keyed_formed bytes (header, sets, begins, whole, (next, after, (parts, is, keyed))) = record {
  header = header;
  parts = parts;
  begins = begins;
  whole = whole ∙ ap (λ xs. header ++ (xs ++ end_byte ∷ [])) is;
  formed = formed_keyed (pos 0) None parts next after keyed;
}

-- A file whose keys don't fall is sorted, if it is accepted.
pub keyed_sorted : (bytes : List ℕ) → IsKeyedFile bytes → IsAccepted bytes → (held : VersionSet) × HoldsSorted bytes held
keyed_sorted bytes (header, sets, begins, whole, (next, after, (parts, is, keyed))) (held, h) =
    let tail : List ℕ = end_byte ∷ [] in
    let same : bytes ≡ header ++ (bytes_of parts ++ tail) = whole ∙ ap (λ xs. header ++ (xs ++ tail)) is in
    let starts : start_of bytes ≡ BeforeHeader = ap start_of same ∙ header_starts header (bytes_of parts ++ tail) begins in
    let first : O5File bytes h.versions = rw starts at h.file in
    let file : O5File (header ++ (bytes_of parts ++ tail)) h.versions = rw same at first in
    let all : PartsFile new_segment (bytes_of parts ++ tail) h.versions =
    (file.parts, after_header header (bytes_of parts ++ tail) h.versions begins file, file.spelled) in
    let j = same_parts tail new_segment parts h.versions (formed_keyed (pos 0) None parts next after keyed) all in
    let last = end_only j.next end_byte [] j.later (first_part j.next end_byte [] j.rest.0 j.later j.rest.1 j.rest.2) refl in
    let only : h.versions ≡ j.earlier = j.are ∙ ap (λ vs. j.earlier ++ vs) (sym last.1) ∙ append-nil j.earlier in
    sorted_if_rising bytes held h after (subst (λ vs. AreRising None vs after) (sym only)
    (rising_parts new_segment (pos 0) None parts next after j.earlier refl keyed j.spelled))
