-- The data sets of o5 files as units.
use Rattle.std.proofs.Common.{◌≡◌, ◌⊎◌, inl, inr, ℕ, zero, suc, ◌+◌, ◌-◌, ◌≤◌, ◌<◌, true, false, cond, List, [], ◌∷◌, ◌++◌, length}
use Rattle.std.proofs.Common.{drop, take, refl, sym, ap, ◌∙◌, subst, arith, Option, Some, None, Result, Ok, Err, length-append, length-drop}
use Rattle.std.proofs.Common.{append_assoc, ◌==◌, nat_le}
use Rattle.std.specs.List.{flat_map}
use Rattle.std.proofs.lemmas.Bool.{eqb-true, leb-true, leb-false, both_ways}
use Rattle.osm_model.specs.Data.{VersionData}
use Rattle.osm_model.specs.declared.kind.Kind.{Kind}
use Rattle.osm_model.specs.declared.kind.Kind.TheVariants as kind
use Rattle.o5_codec.specs.declared.reason.O5Reason.{O5Reason}
use Rattle.o5_codec.specs.declared.read.segment.Segment.{Segment}
use Rattle.o5_codec.specs.Spelling.{SpellsSet}
use Rattle.o5_codec.specs.Decoder.{new_segment}
use Rattle.o5_codec.specs.Body.{set_at}
use Rattle.o5_codec.proofs.StepLaws.{set_found, set_only}
use Rattle.osm_files.specs.Stream.{Verdict, Placed, new_placed, SourceRest, end_refused, front}
use Rattle.osm_files.specs.O5.{end_byte, reset_byte, type_byte, kind_of_type, is_lone, IsOtherType, FilePart, Reset, Lone, Skipped, Object}
use Rattle.osm_files.specs.O5.{part_bytes, PartsSpell}
use Rattle.o5_codec.specs.declared.reason.O5Reason.TheVariants as o5
use Rattle.osm_files.specs.declared.reason.Reason.TheVariants.{NoEnd, O5}
use Rattle.osm_files.specs.Units.{InSegment, PastEnd, FileUnit, unit, no_version, final_units, unit_then, unit_at, last_at, units_within}
use Rattle.osm_files.specs.Units.{segment_unit, unit_after_end, sized_unit, content_found, set_found as found_of}
use Rattle.osm_files.specs.Units.{length_at}
use Rattle.osm_files.specs.Verdict.{versions_of}
use Rattle.std.proofs.lemmas.Bool.Decides.{nat_tests}
use Rattle.std.proofs.lemmas.Option.{none-some}
use Rattle.osm_files.proofs.UnitLaws.{ReadsAs}
use Rattle.osm_files.proofs.SizeLaws.{Sized, length_read, LengthFound, length_found, content_sized, Length, some_length, same_size}

-- bytes that are parts and the end byte
abbrev pub PartsFile : Segment → List ℕ → List VersionData → Type 0
PartsFile s bytes versions = (parts : List FilePart) × (bytes ≡ flat_map part_bytes parts ++ end_byte ∷ []) × PartsSpell s parts versions

-- the possible first parts
abbrev pub EndFirst : ℕ → List ℕ → List VersionData → Type 0
EndFirst b bytes versions = ((b == end_byte) ≡ true) × (bytes ≡ []) × ([] ≡ versions)

abbrev pub ResetFirst : ℕ → List ℕ → List VersionData → Type 0
ResetFirst b bytes versions = ((b == end_byte) ≡ false) × ((b == reset_byte) ≡ true) × PartsFile new_segment bytes versions

abbrev pub LoneFirst : Segment → ℕ → List ℕ → List VersionData → Type 0
LoneFirst s b bytes versions = ((b == end_byte) ≡ false) × ((b == reset_byte) ≡ false) × (is_lone b ≡ true) × PartsFile s bytes versions

abbrev pub SkippedFirst : Segment → ℕ → List ℕ → List VersionData → Type 0
SkippedFirst s b bytes versions = IsOtherType b × ((content rest : List ℕ) × Sized bytes content rest × PartsFile s rest versions)

abbrev pub RestAfter : Kind → Segment → List ℕ → List ℕ → List VersionData → Type 0
RestAfter k s content rest versions = (v : VersionData) × (next : Segment) × (others : List VersionData) × (versions ≡ v ∷ others)
    × SpellsSet k s content (v, next) × PartsFile next rest others

abbrev pub ObjectFirst : Segment → ℕ → List ℕ → List VersionData → Type 0
ObjectFirst s b bytes versions = (k : Kind) × (b ≡ type_byte k)
    × ((content rest : List ℕ) × Sized bytes content rest × RestAfter k s content rest versions)

abbrev pub FirstPart : Segment → ℕ → List ℕ → List VersionData → Type 0
FirstPart s b bytes versions = EndFirst b bytes versions ⊎ ResetFirst b bytes versions ⊎ LoneFirst s b bytes versions
    ⊎ SkippedFirst s b bytes versions ⊎ ObjectFirst s b bytes versions

pub lone_is_no_end : (b : ℕ) → is_lone b ≡ true → ((b == end_byte) ≡ false) × ((b == reset_byte) ≡ false)
lone_is_no_end b e = (grind (arith, nat_tests, e), grind (arith, nat_tests, e))

-- the first part of parts and the end byte
pub first_part : (s : Segment) (b : ℕ) (bytes : List ℕ) (parts : List FilePart) (versions : List VersionData) →
    b ∷ bytes ≡ flat_map part_bytes parts ++ end_byte ∷ [] → PartsSpell s parts versions → FirstPart s b bytes versions
first_part s b bytes [] versions e spelled = inl (rw (let f : b ≡ end_byte = cc in f) refl, (let f : bytes ≡ [] = cc in f), sym spelled)
first_part s b bytes (Reset ∷ parts) versions e spelled =
    let f : b ≡ reset_byte = cc in
    let g : bytes ≡ flat_map part_bytes parts ++ end_byte ∷ [] = cc in
    inr (inl (rw f refl, rw f refl, (parts, g, spelled)))
first_part s b bytes (Lone c ∷ parts) versions e spelled =
    let f : c ≡ b = cc in
    let g : bytes ≡ flat_map part_bytes parts ++ end_byte ∷ [] = cc in
    let lone : is_lone b ≡ true = ap is_lone (sym f) ∙ spelled.0 in
    let no_end = lone_is_no_end b lone in
    inr (inr (inl (no_end.0, no_end.1, lone, (parts, g, spelled.1))))
first_part s b bytes (Skipped c size content ∷ parts) versions e spelled =
    let f : c ≡ b = cc in
    let tail : List ℕ = flat_map part_bytes parts ++ end_byte ∷ [] in
    let h : b ∷ bytes ≡ c ∷ size ++ (content ++ tail) = e
    ∙ ap (λ x. c ∷ x) (append_assoc (size ++ content) (flat_map part_bytes parts) (end_byte ∷ []) ∙ append_assoc size content tail) in
    let g : bytes ≡ size ++ (content ++ tail) = cc in
    inr (inr (inr (inl (
      subst IsOtherType f spelled.0,
      (content, tail, record { size = size; spelled = spelled.1; split = g }, (parts, refl, spelled.2)),
    ))))
first_part s b bytes (Object k size content ∷ parts) versions e spelled =
    let f : b ≡ type_byte k = cc in
    let tail : List ℕ = flat_map part_bytes parts ++ end_byte ∷ [] in
    let h : b ∷ bytes ≡ type_byte k ∷ size ++ (content ++ tail) = e
    ∙ ap (λ x. type_byte k ∷ x) (append_assoc (size ++ content) (flat_map part_bytes parts) (end_byte ∷ [])
    ∙ append_assoc size content tail) in
    let g : bytes ≡ size ++ (content ++ tail) = cc in
    let m = spelled.1 in
    inr (inr (inr (inr (
      k,
      f,
      (
        content,
        tail,
        record { size = size; spelled = spelled.0; split = g },
        (m.0, m.1, m.2, m.3, m.4, (parts, refl, m.5)),
      ),
    ))))

-- a part at the front
with_part : (s : Segment) (bytes : List ℕ) (p : FilePart) (rest : List ℕ) (versions : List VersionData) (parts : List FilePart) →
    rest ≡ flat_map part_bytes parts ++ end_byte ∷ [] → bytes ≡ part_bytes p ++ rest →
    bytes ≡ flat_map part_bytes (p ∷ parts) ++ end_byte ∷ []
with_part s bytes p rest versions parts e split = split ∙ ap (λ x. part_bytes p ++ x) e
    ∙ sym (append_assoc (part_bytes p) (flat_map part_bytes parts) (end_byte ∷ []))

skipped_in_front : (s : Segment) (b : ℕ) (bytes content rest : List ℕ) (versions : List VersionData) → IsOtherType b →
    Sized bytes content rest → PartsFile s rest versions → PartsFile s (b ∷ bytes) versions
skipped_in_front s b bytes content rest versions other sized h = (
  Skipped b sized.size content ∷ h.0,
  with_part s (b ∷ bytes) (Skipped b sized.size content) rest versions h.0 h.1
      (ap (λ x. b ∷ x) (sized.split ∙ sym (append_assoc sized.size content rest))),
  (other, sized.spelled, h.2),
)

object_in_front : (s : Segment) (k : Kind) (b : ℕ) (bytes content rest : List ℕ) (versions : List VersionData) → b ≡ type_byte k →
    Sized bytes content rest → RestAfter k s content rest versions → PartsFile s (b ∷ bytes) versions
object_in_front s k b bytes content rest versions is sized h =
    let parts = h.5.0 in
    let split : b ∷ bytes ≡ type_byte k ∷ (sized.size ++ content) ++ rest =
    (λ i. is i ∷ (sized.split ∙ sym (append_assoc sized.size content rest)) i) in (
      Object k sized.size content ∷ parts,
      with_part s (b ∷ bytes) (Object k sized.size content) rest versions parts h.5.1 split,
      (sized.spelled, (h.0, h.1, h.2, h.3, h.4, h.5.2)),
    )

-- a reading as one property is a reading as an equivalent one
pub through : (still : SourceRest Placed Verdict) (S T : List VersionData → Type 0) →
    ((versions : List VersionData) → T versions → S versions) →
    ((versions : List VersionData) → S versions → T versions) → ReadsAs still S → ReadsAs still T
through still S T f g h = record { read = λ versions t. h.read versions (f versions t); back = λ none. g _ (h.back none) }

-- A refusal reads as a property that no list has.
pub nothing_reads : (verdict : Verdict) (S : List VersionData → Type 0) → ((versions : List VersionData) → S versions → ⊥) →
    ReadsAs (end_refused verdict) S
nothing_reads verdict S never = record { read = λ versions s. absurd (never versions s); back = λ none. absurd (none-some _ (sym none)) }

version_reads : (offset : ℕ) (v : VersionData) (still : SourceRest Placed Verdict) (S : List VersionData → Type 0) → ReadsAs still S →
    ReadsAs (front (new_placed offset v) still) (λ versions. (others : List VersionData) × (versions ≡ v ∷ others) × S others)
version_reads offset v still S h = record {
  read = λ versions t. (let r = h.read t.0 t.2 in (r.0, ap (λ x. v ∷ x) r.1 ∙ sym t.1));
  back = λ none. (versions_of still.list, refl, h.back none);
}

-- the type byte of an object's data set
abbrev pub IsObjectType : Kind → ℕ → Type 0
IsObjectType k b = ((b == end_byte) ≡ false) × ((b == reset_byte) ≡ false) × (is_lone b ≡ false) × (kind_of_type b ≡ Some k)

pub object_type : (k : Kind) → IsObjectType k (type_byte k)
object_type kind.Node = (refl, refl, refl, refl)
object_type kind.Way = (refl, refl, refl, refl)
object_type kind.Relation = (refl, refl, refl, refl)

type_at : (k : Kind) (b : ℕ) → b ≡ type_byte k → IsObjectType k b
type_at k b is = subst (IsObjectType k) (sym is) (object_type k)

module _ (s : Segment) (b : ℕ) (bytes : List ℕ) (versions : List VersionData) where
  pub end_only : FirstPart s b bytes versions → (b == end_byte) ≡ true → (bytes ≡ []) × ([] ≡ versions)
  end_only (inl h) e = (h.1, h.2)
  end_only (inr (inl h)) e = absurd (both_ways _ h.0 e)
  end_only (inr (inr (inl h))) e = absurd (both_ways _ h.0 e)
  end_only (inr (inr (inr (inl h)))) e = absurd (both_ways _ h.0.0 e)
  end_only (inr (inr (inr (inr h)))) e = absurd (both_ways _ (type_at h.0 b h.1).0 e)

  pub reset_only : FirstPart s b bytes versions → (b == end_byte) ≡ false → (b == reset_byte) ≡ true → PartsFile new_segment bytes versions
  reset_only (inl h) n e = absurd (both_ways _ n h.0)
  reset_only (inr (inl h)) n e = h.2
  reset_only (inr (inr (inl h))) n e = absurd (both_ways _ h.1 e)
  reset_only (inr (inr (inr (inl h)))) n e = absurd (both_ways _ h.0.1 e)
  reset_only (inr (inr (inr (inr h)))) n e = absurd (both_ways _ (type_at h.0 b h.1).1 e)

  pub lone_only : FirstPart s b bytes versions → (b == end_byte) ≡ false → (b == reset_byte) ≡ false → is_lone b ≡ true →
      PartsFile s bytes versions
  lone_only (inl h) n m e = absurd (both_ways _ n h.0)
  lone_only (inr (inl h)) n m e = absurd (both_ways _ m h.1)
  lone_only (inr (inr (inl h))) n m e = h.3
  lone_only (inr (inr (inr (inl h)))) n m e = absurd (both_ways _ h.0.2 e)
  lone_only (inr (inr (inr (inr h)))) n m e = absurd (both_ways _ (type_at h.0 b h.1).2 e)

  pub sized_only : FirstPart s b bytes versions → (b == end_byte) ≡ false → (b == reset_byte) ≡ false → is_lone b ≡ false →
      SkippedFirst s b bytes versions ⊎ ObjectFirst s b bytes versions
  sized_only (inl h) n m e = absurd (both_ways _ n h.0)
  sized_only (inr (inl h)) n m e = absurd (both_ways _ m h.1)
  sized_only (inr (inr (inl h))) n m e = absurd (both_ways _ e h.2)
  sized_only (inr (inr (inr (inl h)))) n m e = inl h
  sized_only (inr (inr (inr (inr h)))) n m e = inr h

  sized_by : SkippedFirst s b bytes versions ⊎ ObjectFirst s b bytes versions → (content rest : List ℕ) × Sized bytes content rest
  sized_by (inl h) = (h.1.0, h.1.1, h.1.2)
  sized_by (inr h) = (h.2.0, h.2.1, h.2.2)

  pub skipped_only : SkippedFirst s b bytes versions ⊎ ObjectFirst s b bytes versions → kind_of_type b ≡ None
      → SkippedFirst s b bytes versions
  skipped_only (inl h) e = h
  skipped_only (inr h) e = absurd (none-some h.0 (sym e ∙ (type_at h.0 b h.1).3))

  pub object_only : (k : Kind) → SkippedFirst s b bytes versions ⊎ ObjectFirst s b bytes versions → kind_of_type b ≡ Some k →
      (content rest : List ℕ) × Sized bytes content rest × RestAfter k s content rest versions
  object_only k (inl h) e = absurd (none-some k (sym h.0.3 ∙ e))
  object_only k (inr h) e =
      let both : Some h.0 ≡ Some k = sym (type_at h.0 b h.1).3 ∙ e in
      let same : h.0 ≡ k = cc in
      (h.2.0, h.2.1, h.2.2, subst (λ (j : Kind). RestAfter j s h.2.0 h.2.1 versions) same h.2.3)

pub same_read : (v w : VersionData) (s t : Segment) → (let x : Result (VersionData × Segment) O5Reason = Ok (v, s) in x)
    ≡ (let y : Result (VersionData × Segment) O5Reason = Ok (w, t) in y) → (v ≡ w) × (s ≡ t)
same_read v w s t e =
    let here : VersionData × Segment = (v, s) in
    let there : VersionData × Segment = (w, t) in
    let f : here ≡ there = cc in
    (ap (λ x. x.0) f, ap (λ x. x.1) f)

pub byte_of : (k : Kind) (b : ℕ) → kind_of_type b ≡ Some k → b ≡ type_byte k
byte_of k b e =
    elim (b == 16) as (λ t. (b == 16) ≡ t → cond t (Some kind.Node)
    (cond (b == 17) (Some kind.Way) (cond (b == 18) (Some kind.Relation) None)) ≡ Some k → b ≡ type_byte k) [
      | true ↦ λ is f. let g : kind.Node ≡ k = cc in eqb-true b 16 is ∙ ap type_byte g
      | false ↦ λ is. elim (b == 17) as (λ t. (b == 17) ≡ t → cond t (Some kind.Way) (cond (b == 18) (Some kind.Relation) None) ≡ Some k →
          b ≡ type_byte k) [
            | true ↦ λ is f. let g : kind.Way ≡ k = cc in eqb-true b 17 is ∙ ap type_byte g
            | false ↦ λ is. elim (b == 18) as (λ t. (b == 18) ≡ t → cond t (Some kind.Relation) None ≡ Some k → b ≡ type_byte k) [
              | true ↦ λ is f. let g : kind.Relation ≡ k = cc in eqb-true b 18 is ∙ ap type_byte g
              | false ↦ λ is f. absurd (none-some k f)
            ] refl
          ] refl
    ] refl e

abbrev pub ReadsParts : ℕ → Type 0
ReadsParts n = (s : Segment) (bytes : List ℕ) (offset : ℕ) → length bytes ≤ n →
    ReadsAs (units_within n None (InSegment s) offset bytes) (PartsFile s bytes)

pub last_in_set : (s : Segment) (b : ℕ) (bytes : List ℕ) → last_at (InSegment s) (b ∷ bytes) ≡ Err (O5 o5.Truncated)
unfolding last_at
last_in_set s b bytes = refl

pub last_in_segment : (s : Segment) → last_at (InSegment s) [] ≡ Err NoEnd
unfolding last_at
last_in_segment s = refl

pub last_after : (bytes : List ℕ) → last_at PastEnd bytes ≡ Ok (None, PastEnd)
unfolding last_at
last_after bytes = refl

pub unit_in_segment : (s : Segment) (bytes : List ℕ) → unit_at (InSegment s) bytes ≡ segment_unit s bytes
unfolding unit_at
unit_in_segment s bytes = refl

pub unit_after : (bytes : List ℕ) → unit_at PastEnd bytes ≡ unit_after_end bytes
unfolding unit_at
unit_after bytes = refl

-- nothing comes after the end byte
abbrev Nothing : List ℕ → List VersionData → Type 0
Nothing bytes versions = (bytes ≡ []) × ([] ≡ versions)

none_after : (n offset : ℕ) → ReadsAs (units_within n None PastEnd offset []) (Nothing [])
none_after zero offset = rw (last_after []) (record { read = λ versions h. (refl, h.1); back = λ none. (refl, refl) })
none_after (suc n) offset = rw (unit_after [], last_after []) (record { read = λ versions h. (refl, h.1); back = λ none. (refl, refl) })

end_reads : (n offset : ℕ) (bytes : List ℕ) → length bytes ≤ n → ReadsAs (units_within n None PastEnd offset bytes) (Nothing bytes)
end_reads n offset [] fits = none_after n offset
end_reads zero offset (b ∷ bytes) fits = absurd (omega (arith, fits))
end_reads (suc n) offset (b ∷ bytes) fits = rw (unit_after (b ∷ bytes))
    (nothing_reads _ (Nothing (b ∷ bytes)) (λ versions h. let e : b ∷ bytes ≡ [] = h.0 in cc))

no_parts : (s : Segment) (versions : List VersionData) → PartsFile s [] versions → ⊥
no_parts s versions h =
    let e : length (flat_map part_bytes h.0 ++ end_byte ∷ []) ≡ 0 = ap length (sym h.1) in
    omega (arith, e, length-append (flat_map part_bytes h.0) (end_byte ∷ []))

module _ (n : ℕ) (on : ReadsParts n) (s : Segment) (b : ℕ) (bytes : List ℕ) (offset : ℕ) (fits : length bytes ≤ n) where
  abbrev T : List VersionData → Type 0
  T = PartsFile s (b ∷ bytes)

  abbrev UnitStep : Option FileUnit → Type 0
  UnitStep u = ReadsAs (unit_then None (InSegment s) offset (b ∷ bytes) (units_within n None) u) T

  first_of : (versions : List VersionData) → T versions → FirstPart s b bytes versions
  first_of versions h = first_part s b bytes h.0 versions h.1 h.2

  end_step : (b == end_byte) ≡ true → UnitStep (Some (unit 1 (no_version PastEnd)))
  end_step is =
      let same : b ≡ end_byte = eqb-true b end_byte is in
      through (units_within n None PastEnd (offset + 1) bytes) (Nothing bytes) T
      (λ versions h. end_only s b bytes versions (first_of versions h) is)
      (λ versions h. ([], (λ i. same i ∷ h.0 i), sym h.1))
      (end_reads n (offset + 1) bytes fits)

  reset_step : (b == end_byte) ≡ false → (b == reset_byte) ≡ true → UnitStep (Some (unit 1 (no_version (InSegment new_segment))))
  reset_step not_end is =
      let same : b ≡ reset_byte = eqb-true b reset_byte is in
      through (units_within n None (InSegment new_segment) (offset + 1) bytes) (PartsFile new_segment bytes) T
      (λ versions h. reset_only s b bytes versions (first_of versions h) not_end is)
      (λ versions h. (Reset ∷ h.0, with_part s (b ∷ bytes) Reset bytes versions h.0 h.1 (ap (λ x. x ∷ bytes) same), h.2))
      (on new_segment bytes (offset + 1) fits)

  lone_step : (b == end_byte) ≡ false → (b == reset_byte) ≡ false → is_lone b ≡ true → UnitStep (Some (unit 1 (no_version (InSegment s))))
  lone_step not_end not_reset is =
      through (units_within n None (InSegment s) (offset + 1) bytes) (PartsFile s bytes) T
      (λ versions h. lone_only s b bytes versions (first_of versions h) not_end not_reset is)
      (λ versions h. (Lone b ∷ h.0, with_part s (b ∷ bytes) (Lone b) bytes versions h.0 h.1 refl, (is, h.2)))
      (on s bytes (offset + 1) fits)

  sized_of : (b == end_byte) ≡ false → (b == reset_byte) ≡ false → is_lone b ≡ false → (versions : List VersionData) → T versions →
      SkippedFirst s b bytes versions ⊎ ObjectFirst s b bytes versions
  sized_of not_end not_reset not_lone versions h = sized_only s b bytes versions (first_of versions h) not_end not_reset not_lone

  -- a size that can't be read yet, or at all
  no_size : (b == end_byte) ≡ false → (b == reset_byte) ≡ false → is_lone b ≡ false → (x : Length) → length_at bytes ≡ x →
      ((n : ℕ) (after : List ℕ) → x ≡ some_length n after → ⊥) → (versions : List VersionData) → T versions → ⊥
  no_size not_end not_reset not_lone x e never versions h =
      let k = sized_by s b bytes versions (sized_of not_end not_reset not_lone versions h) in
      never (length k.0) (k.0 ++ k.1) (sym e ∙ length_read bytes k.0 k.1 k.2)

  module _ (m : ℕ) (after : List ℕ) (is_size : length_at bytes ≡ some_length m after) (not_end : (b == end_byte) ≡ false)
      (not_reset : (b == reset_byte) ≡ false) (not_lone : is_lone b ≡ false) where
    abbrev size : ℕ
    size = 1 + (length bytes - length after) + m

    abbrev content : List ℕ
    content = take m after

    abbrev rest : List ℕ
    rest = drop m after

    found : LengthFound b bytes m after
    found = length_found b bytes m after is_size

    few : length rest ≤ n
    few = omega (arith, fits, length-drop m after, ap length found.split, length-append found.size after)

    rest_reads : (next : Segment) → ReadsAs (units_within n None (InSegment next) (offset + size) (drop size (b ∷ bytes)))
        (PartsFile next rest)
    rest_reads next =
        let P : List ℕ → Type 0 = λ x. ReadsAs (units_within n None (InSegment next) (offset + size) x) (PartsFile next rest) in
        subst P (sym found.rest) (on next rest (offset + size) few)

    too_short : (length after < m) → (versions : List VersionData) → T versions → ⊥
    too_short short versions h =
        let k = sized_by s b bytes versions (sized_of not_end not_reset not_lone versions h) in
        let same = same_size bytes m after k.0 k.1 is_size k.2 in
        omega (arith, short, same.within)

    skipped_step : m ≤ length after → kind_of_type b ≡ None → UnitStep (Some (unit size (no_version (InSegment s))))
    skipped_step within is =
        let other : IsOtherType b = (not_end, not_reset, not_lone, is) in
        through (units_within n None (InSegment s) (offset + size) (drop size (b ∷ bytes))) (PartsFile s rest) T
        (λ versions h. (
        let k = skipped_only s b bytes versions (sized_of not_end not_reset not_lone versions h) is in
        let same = same_size bytes m after k.1.0 k.1.1 is_size k.1.2 in
        subst (λ (x : List ℕ). PartsFile s x versions) (sym same.rest_is) k.1.3))
        (λ versions h. skipped_in_front s b bytes content rest versions other (content_sized bytes m after b within found) h)
        (rest_reads s)

    object_of : (k : Kind) → kind_of_type b ≡ Some k → (versions : List VersionData) → T versions → RestAfter k s content rest versions
    object_of k is versions h =
        let o = object_only s b bytes versions k (sized_of not_end not_reset not_lone versions h) is in
        let same = same_size bytes m after o.0 o.1 is_size o.2 in
        let P : List ℕ → Type 0 = λ x. RestAfter k s x rest versions in
        let Q : List ℕ → Type 0 = λ x. RestAfter k s o.0 x versions in
        subst P (sym same.content_is) (subst Q (sym same.rest_is) o.3)

    object_step : m ≤ length after → (k : Kind) → kind_of_type b ≡ Some k → b ≡ type_byte k →
        (result : Result (VersionData × Segment) O5Reason) → set_at k s content ≡ result → UnitStep (Some (unit size (found_of result)))
    object_step within k is is_byte (Err reason) e =
        nothing_reads _ T (λ versions h. (
        let o = object_of k is versions h in
        let f : Ok (o.0, o.1) ≡ Err reason = sym (set_only k s content (o.0, o.1) o.4) ∙ e in cc))
    object_step within k is is_byte (Ok (v, next)) e =
        through (front (new_placed offset v) (units_within n None (InSegment next) (offset + size) (drop size (b ∷ bytes))))
        (λ versions. (others : List VersionData) × (versions ≡ v ∷ others) × PartsFile next rest others) T
        (λ versions h. (
        let o = object_of k is versions h in
        let here : Result (VersionData × Segment) O5Reason = Ok (o.0, o.1) in
        let there : Result (VersionData × Segment) O5Reason = Ok (v, next) in
        let f : here ≡ there = sym (set_only k s content (o.0, o.1) o.4) ∙ e in
        let g = same_read o.0 v o.1 next f in
        (o.2, o.3 ∙ ap (λ x. x ∷ o.2) g.0, subst (λ (t : Segment). PartsFile t rest o.2) g.1 o.5)))
        (λ versions h. object_in_front s k b bytes content rest versions is_byte (content_sized bytes m after b within found)
        (v, next, h.0, h.1, set_found k s content (v, next) e, h.2))
        (version_reads offset v _ (PartsFile next rest) (rest_reads next))

    content_step : m ≤ length after → (x : Option Kind) → kind_of_type b ≡ x → UnitStep (Some (unit size (content_found s x content)))
    content_step within None is = skipped_step within is
    content_step within (Some k) is = object_step within k is (byte_of k b is) (set_at k s content) refl

    fitting_step : UnitStep (cond (nat_le m (length after)) (Some (unit size (content_found s (kind_of_type b) content))) None)
    fitting_step =
        elim (nat_le m (length after)) as (λ t. nat_le m (length after) ≡ t →
        UnitStep (cond t (Some (unit size (content_found s (kind_of_type b) content))) None)) [
          | true ↦ λ is. content_step (leb-true m (length after) is) (kind_of_type b) refl
          | false ↦ λ is. rw (last_in_set s b bytes) (nothing_reads _ T (too_short (leb-false m (length after) is)))
        ] refl

  length_step : (b == end_byte) ≡ false → (b == reset_byte) ≡ false → is_lone b ≡ false → (x : Length) → length_at bytes ≡ x →
      UnitStep (sized_unit s b bytes x)
  length_step not_end not_reset not_lone None e =
      rw (last_in_set s b bytes) (nothing_reads _ T (no_size not_end not_reset not_lone None e (λ m after f. cc)))
  length_step not_end not_reset not_lone (Some (Err reason)) e =
      nothing_reads _ T (no_size not_end not_reset not_lone (Some (Err reason)) e (λ m after f. cc))
  length_step not_end not_reset not_lone (Some (Ok (m, after))) e = fitting_step m after e not_end not_reset not_lone

  pub first_step : UnitStep (segment_unit s (b ∷ bytes))
  first_step =
      elim (b == end_byte) as (λ t. (b == end_byte) ≡ t →
      UnitStep (cond t (Some (unit 1 (no_version PastEnd)))
      (cond (b == reset_byte) (Some (unit 1 (no_version (InSegment new_segment))))
      (cond (is_lone b) (Some (unit 1 (no_version (InSegment s)))) (sized_unit s b bytes (length_at bytes)))))) [
        | true ↦ λ is. end_step is
        | false ↦ λ not_end. elim (b == reset_byte) as (λ t. (b == reset_byte) ≡ t →
            UnitStep (cond t (Some (unit 1 (no_version (InSegment new_segment))))
            (cond (is_lone b) (Some (unit 1 (no_version (InSegment s)))) (sized_unit s b bytes (length_at bytes))))) [
              | true ↦ λ is. reset_step not_end is
              | false ↦ λ not_reset. elim (is_lone b) as (λ t. is_lone b ≡ t →
                  UnitStep (cond t (Some (unit 1 (no_version (InSegment s)))) (sized_unit s b bytes (length_at bytes)))) [
                    | true ↦ λ is. lone_step not_end not_reset is
                    | false ↦ λ not_lone. length_step not_end not_reset not_lone (length_at bytes) refl
                  ] refl
            ] refl
      ] refl

none_in_segment : (s : Segment) (offset : ℕ) → ReadsAs (final_units None offset (last_at (InSegment s) [])) (PartsFile s [])
none_in_segment s offset = rw (last_in_segment s) (nothing_reads _ (PartsFile s []) (no_parts s))

-- The units of an o5 file read as its parts.
pub reads_parts : (n : ℕ) → ReadsParts n
reads_parts zero s [] offset fits = none_in_segment s offset
reads_parts zero s (b ∷ bytes) offset fits = absurd (omega (arith, fits))
reads_parts (suc n) s [] offset fits = rw (unit_in_segment s []) (none_in_segment s offset)
reads_parts (suc n) s (b ∷ bytes) offset fits = rw (unit_in_segment s (b ∷ bytes))
    (first_step n (reads_parts n) s b bytes offset (omega (arith, fits)))
