-- The versions that a file spells are within the ranges of versions.
use Rattle.std.proofs.Common.{◌≡◌, ℕ, ℤ, zero, suc, ◌≤◌, true, false, cond, List, [], ◌∷◌, ◌++◌, filter, fold, append_assoc, refl, sym}
use Rattle.std.proofs.Common.{subst, arith, Option, Some, None, Ok, unwrap_or, FitsSigned, w32}
use Rattle.std.specs.List.{All, AllByRecursion}
use Rattle.std.proofs.lemmas.List.{append-nil}
use Rattle.std.proofs.lemmas.List.Sums.{fold-append}
use Rattle.std.proofs.lemmas.List.Elements.{All-cons}
use Rattle.osm_model.specs.declared.kind.Kind.{Kind}
use Rattle.osm_model.specs.declared.kind.Kind.TheVariants as kind
use Rattle.osm_model.specs.declared.tags.Tag.{Tag}
use Rattle.osm_model.specs.declared.body.Body.{Body}
use Rattle.osm_model.specs.declared.body.Body.TheVariants.{Deleted, Node, Way, Relation}
use Rattle.osm_model.specs.declared.meta.Meta.{Meta}
use Rattle.osm_model.specs.declared.fault.ValueFault.{ValueFault}
use Rattle.osm_model.specs.Data.{VersionData, version_of, normal_body}
use Rattle.osm_model.specs.New.{first_fault, unless_faulty}
use Rattle.osm_model.specs.Valid.{IsVersion, IsInRange}
use Rattle.osm_model.specs.Pairwise.{Pairwise}
use Rattle.osm_model.proofs.ValidLaws.{valid_version}
use Rattle.opl_line.specs.Number.{with_sign}
use Rattle.opl_line.specs.Field.{no_fields}
use Rattle.opl_line.specs.Content.{SpellsCoordinate, plain_degrees, minus_degrees, SpellsOptionalCoordinate, no_place, some_place}
use Rattle.opl_line.specs.Part as part
use Rattle.opl_line.specs.Part.{LinePart, SpellsPart, with_part}
use Rattle.opl_line.specs.Reading.{meta_of, reading_location, reading_visible, reading_body}
use Rattle.opl_line.specs.Spells.{is_full, Spells}
use Rattle.o5_codec.specs.declared.read.segment.Segment.{Segment}
use Rattle.o5_codec.specs.Sound.{is_sound}
use Rattle.o5_codec.specs.Decoder.{new_segment}
use Rattle.o5_codec.proofs.StepLaws.{set_only}
use Rattle.o5_codec.proofs.SoundSets.{set_version}
use Rattle.osm_files.specs.O5.{FilePart, Reset, Lone, Skipped, Object, PartsSpell}
use Rattle.osm_files.specs.Units.{FileStateData, InOpl, BeforeHeader, InSegment, PastEnd, start_of}
use Rattle.osm_files.specs.Held.{IsFile, IsFileOf}

-- ---- coordinates of lines
abbrev Fits : ℤ → Type 0
Fits z = FitsSigned w32 z

abbrev OptionFits : Option ℤ → Type 0
OptionFits None = Unit {0}
OptionFits (Some z) = Fits z

negated_fits : (n : ℕ) → n ≤ 2_147_483_648 → Fits (with_sign true n)
negated_fits zero h = omega arith
negated_fits (suc n) h = omega (arith, h)

coordinate_fits : (text : List ℕ) (z : ℤ) → SpellsCoordinate text z → Fits z
coordinate_fits text z (plain_degrees bytes n s few) = omega (arith, few)
coordinate_fits text z (minus_degrees bytes n s few) = negated_fits n few

optional_fits : (content : List ℕ) (x : Option ℤ) → SpellsOptionalCoordinate content x → OptionFits x
optional_fits content x no_place = tt
optional_fits content x (some_place bytes z s) = coordinate_fits bytes z s

-- ---- the fields of a line
abbrev PartFits : LinePart → Type 0
PartFits (part.Longitude x) = OptionFits x
PartFits (part.Latitude y) = OptionFits y
PartFits _ = Unit {0}

part_fits : (k : Kind) (field : List ℕ) (p : LinePart) → SpellsPart k field p → PartFits p
part_fits k field (part.Longitude x) s = optional_fits s.content x s.spelled
part_fits k field (part.Latitude y) s = optional_fits s.content y s.spelled
part_fits k field _ s = tt

parts_fit : (k : Kind) (fields : List (List ℕ)) (parts : List LinePart) → Pairwise (SpellsPart k) fields parts →
    AllByRecursion PartFits parts
parts_fit k [] [] s = tt
parts_fit k [] (p ∷ parts) s = absurd s
parts_fit k (field ∷ fields) [] s = tt
parts_fit k (field ∷ fields) (p ∷ parts) s = (part_fits k field p s.0, parts_fit k fields parts s.1)

abbrev AreFit : List LinePart → Type 0
AreFit parts = OptionFits (unwrap_or (fold with_part no_fields parts).longitude None)
    × OptionFits (unwrap_or (fold with_part no_fields parts).latitude None)

with_fits : (front : List LinePart) (p : LinePart) → AreFit front → PartFits p → AreFit (front ++ p ∷ [])
with_fits front (part.Longitude x) h w = rw (fold-append with_part no_fields front (part.Longitude x ∷ [])) (w, h.1)
with_fits front (part.Latitude y) h w = rw (fold-append with_part no_fields front (part.Latitude y ∷ [])) (h.0, w)
with_fits front p h w = rw (fold-append with_part no_fields front (p ∷ [])) h

said_fits : (front parts : List LinePart) → AreFit front → AllByRecursion PartFits parts → AreFit (front ++ parts)
said_fits front [] h ws = subst AreFit (sym (append-nil front)) h
said_fits front (p ∷ parts) h ws = subst AreFit (append_assoc front (p ∷ []) parts)
    (said_fits (front ++ p ∷ []) parts (with_fits front p h ws.0) ws.1)

abbrev BodyFits : Body → Type 0
BodyFits b = IsInRange (normal_body b)

location_fits : (lon lat : Option ℤ) (tags : List Tag) (b : Body) → OptionFits lon → OptionFits lat → reading_location lon lat tags ≡ Ok b →
    BodyFits b
location_fits None lat tags b f g e = cc
location_fits (Some lon) None tags b f g e = cc
location_fits (Some lon) (Some lat) tags b f g e = let same : Node lon lat tags ≡ b = cc in subst BodyFits same (f, g)

visible_fits : (k : Kind) (parts : List LinePart) (b : Body) → AreFit parts → reading_visible k (fold with_part no_fields parts) ≡ Ok b →
    BodyFits b
visible_fits kind.Node parts b h e =
    let fields = fold with_part no_fields parts in
    location_fits (unwrap_or fields.longitude None) (unwrap_or fields.latitude None) (unwrap_or fields.tags []) b h.0 h.1 e
visible_fits kind.Way parts b h e =
    let fields = fold with_part no_fields parts in
    let same : Way (unwrap_or fields.references []) (unwrap_or fields.tags []) ≡ b = cc in subst BodyFits same tt
visible_fits kind.Relation parts b h e =
    let fields = fold with_part no_fields parts in
    let same : Relation (unwrap_or fields.members []) (unwrap_or fields.tags []) ≡ b = cc in subst BodyFits same tt

body_fits : (k : Kind) (parts : List LinePart) (b : Body) → AreFit parts → reading_body k (fold with_part no_fields parts) ≡ Ok b →
    BodyFits b
body_fits k parts b h =
    let fields = fold with_part no_fields parts in
    elim (unwrap_or fields.deleted false) as (λ t. cond t (Ok (Deleted k)) (reading_visible k fields) ≡ Ok b → BodyFits b) [
      | true ↦ λ e. let same : Deleted k ≡ b = cc in subst BodyFits same tt
      | false ↦ λ e. visible_fits k parts b h e
    ]

made_is_version : (id : ℤ) (meta : Meta) (b : Body) (v : VersionData) (f : Option ValueFault) → first_fault id meta b ≡ f → BodyFits b →
    unless_faulty f (version_of id meta b) ≡ Ok v → IsVersion v
made_is_version id meta b v None none fits e = let same : version_of id meta b ≡ v = cc in
    subst (λ (w : VersionData). IsVersion w) same (valid_version id meta b none fits)
made_is_version id meta b v (Some f) some fits e = cc

-- a line spells a version
pub line_is_version : (line : List ℕ) (v : VersionData) → Spells line v → IsVersion v
line_is_version line v s =
    let meta : Meta = meta_of (fold with_part no_fields s.parts) in
    let fit : AreFit s.parts = said_fits [] s.parts (tt, tt)
    (parts_fit s.kind (filter is_full s.line_parts.others) s.parts s.line_parts.spelled) in
    let body : Body = s.version.body in
    made_is_version s.id meta body v (first_fault s.id meta body) refl (body_fits s.kind s.parts body fit s.version.has_body) s.version.made

lines_are_versions : (lines : List (List ℕ)) (versions : List VersionData) → Pairwise Spells lines versions → All IsVersion versions
lines_are_versions [] [] h = λ k d below. absurd (omega arith)
lines_are_versions [] (v ∷ versions) h = absurd h
lines_are_versions (line ∷ lines) [] h = λ k d below. absurd (omega arith)
lines_are_versions (line ∷ lines) (v ∷ versions) h =
    All-cons IsVersion v versions (line_is_version line v h.0) (lines_are_versions lines versions h.1)

-- ---- data sets
parts_are_versions : (parts : List FilePart) (s : Segment) (versions : List VersionData) → is_sound s ≡ true → PartsSpell s parts versions →
    All IsVersion versions
parts_are_versions [] s versions sound h = subst (λ (vs : List VersionData). All IsVersion vs) (sym h) (λ k d below. absurd (omega arith))
parts_are_versions (Reset ∷ parts) s versions sound h = parts_are_versions parts new_segment versions refl h
parts_are_versions (Lone b ∷ parts) s versions sound h = parts_are_versions parts s versions sound h.1
parts_are_versions (Skipped b size content ∷ parts) s versions sound h = parts_are_versions parts s versions sound h.2
parts_are_versions (Object k size content ∷ parts) s versions sound (spelled, (v, next, others, is, set, more)) =
    let one = set_version k s content (v, next) sound (set_only k s content (v, next) set) in
    subst (λ (vs : List VersionData). All IsVersion vs) (sym is)
    (All-cons IsVersion v others one.0 (parts_are_versions parts next others one.1 more))

-- ---- files
file_of_versions : (stage : FileStateData) (bytes : List ℕ) (versions : List VersionData) → IsFileOf stage bytes versions →
    All IsVersion versions
file_of_versions InOpl bytes versions h = lines_are_versions _ versions h
file_of_versions BeforeHeader bytes versions h = parts_are_versions h.parts new_segment versions refl h.spelled
file_of_versions (InSegment s) bytes versions h = absurd h
file_of_versions PastEnd bytes versions h = absurd h

-- The versions that a file spells are within their ranges.
pub files_hold_versions : (bytes : List ℕ) (versions : List VersionData) → IsFile bytes versions → All IsVersion versions
files_hold_versions bytes versions h = file_of_versions (start_of bytes) bytes versions h
