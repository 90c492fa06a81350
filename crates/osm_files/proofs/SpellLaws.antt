-- The file of a set is read as the set.
use Rattle.std.proofs.Common.{◌≡◌, ℕ, suc, ◌+◌, ◌<◌, ◌^◌, Bool, true, false, not, cond, ◌||◌, ◌⊎◌, List, [], ◌∷◌, ◌++◌, length, take}
use Rattle.std.proofs.Common.{filter, get_or, refl, sym, ap, subst, ◌∙◌, arith, append_assoc, length-append, inl, inr, Some, None, is_some}
use Rattle.std.proofs.lemmas.List.{append-nil}
use Rattle.std.proofs.Math.Seq.{take-append_seam, get_or-append_seam}
use Rattle.std.specs.List.{All, Any, flat_map, list_all, list_any}
use Rattle.std.specs.FinMap.{get-empty}
use Rattle.std.specs.Cmp.{Equal-is, tied_itself}
use Rattle.std.proofs.lemmas.List.Folds.{Any-from_list_any, list_any_at}
use Rattle.std.specs.List.Sorted.{IsSorted, IsStrictlySortedBy}
use Rattle.std.specs.declared.cmp.Ordering.TheVariants.{Less, Equal, Greater}
use Rattle.std.specs.Ordering.{is_lt, is_eq, ordering_reverse, eq_by_cmp}
use Rattle.std.proofs.lemmas.Map.Keys.{Less-from_sorted}
use Rattle.std.proofs.Math.Bool.{or_comm, or_assoc, or_self, or-false}
use Rattle.std.proofs.lemmas.Bool.{or_cases}
use Rattle.osm_model.specs.declared.kind.Kind as kind_type
use Rattle.osm_model.specs.declared.kind.Kind.TheVariants as kind
use Rattle.osm_model.specs.Data.{VersionData, kind_of}
use Rattle.osm_model.specs.Line.{line}
use Rattle.osm_model.specs.Order.{version_cmp, version_cmp_total, key_cmp, key_cmp_total}
use Rattle.osm_model.specs.Valid.{IsVersion}
use Rattle.osm_model.specs.VersionSet.{VersionSet}
use Rattle.osm_model.specs.Sets.{to_list, from_list, union, empty, contains}
use Rattle.osm_model.specs.Pairwise.{Pairwise}
use Rattle.osm_model.proofs.SetLaws.{contains-listed, contains-from_list, contains-union, same_set, strict-listed}
use Rattle.osm_model.proofs.VersionLaws.{version_cmp-IsAntisymmetric, to_list-view}
use Rattle.opl_line.specs.Delimiter.{split_all, is_line_end, pieces_of, split_first}
use Rattle.opl_line.specs.Spells.{Spells}
use Rattle.opl_line.proofs.CutLaws.{cut_split, split_front}
use Rattle.opl_line.proofs.WholeLineLaws.{line_is_in_one_file, line_spells_its_version}
use Rattle.o5_codec.specs.declared.read.segment.Segment.{Segment}
use Rattle.o5_codec.specs.Decoder.{new_segment}
use Rattle.o5_codec.specs.Encoder.{WriterState, initial_writer, reset_before, type_byte as set_type, writer_after, spelled_set}
use Rattle.o5_codec.specs.WritingLaws.{segment_for, SetsInAll, spelled_sets}
use Rattle.o5_codec.proofs.WrittenLists.{lists_read}
use Rattle.osm_files.specs.declared.format.Format.{Format}
use Rattle.osm_files.specs.declared.format.Format.TheVariants.{Opl, O5m, O5c}
use Rattle.osm_files.specs.Opl.{is_read, OplFile}
use Rattle.osm_files.specs.O5.{o5m_header, o5c_header, end_byte, type_byte, FilePart, Reset, Object, part_bytes, PartsSpell}
use Rattle.osm_files.specs.O5.{O5File}
use Rattle.osm_files.specs.Units.{FileStateData, InOpl, BeforeHeader, start_of}
use Rattle.osm_files.specs.Held.{IsFile, IsFileOf, Holds}
use Rattle.osm_files.specs.Spell.{writer_with, writer_with_all, file_end, versions_bytes, spell_list, spell}
use Rattle.osm_files.specs.Sink.{MayFollow}
use Rattle.osm_files.specs.Verdict.{file_units, versions_of, held_by, verdict}
use Rattle.osm_files.specs.SpellLaws.{AreVersions, SpellHoldsItsSet, HeldWithoutVerdict, SpellHasNoVerdict, HeldIsOneSet, SpelledIsHeld}
use Rattle.osm_files.specs.SpellLaws.{joined_file, JoinInAnyOrder, JoinRepeated, JoinInAnyGrouping, FilesJoinInAnyGrouping, HeldAreVersions}
use Rattle.osm_files.specs.SpellLaws.{UnionsAreVersions, EachMayFollow, ListIsSpelledAsItsSet, FirstVersionsAreAFront}
use Rattle.osm_files.proofs.FileLaws.{one_list, files_are_read, accepted_without_verdict}
use Rattle.osm_files.proofs.RangeLaws.{files_hold_versions}
use Rattle.osm_files.proofs.SpellSteps.{first_so, then_greater, may_follow, list_split}
use Rattle.osm_files.proofs.LoadFormats.{letter_is_no_mark}
use Rattle.osm_files.proofs.HoldLaws.{set_listed}

-- ---- lines
cut_line : (front rest : List ℕ) → list_all (λ b. not (is_line_end b)) front ≡ true →
    split_all is_line_end (front ++ 10 ∷ rest) ≡ front ∷ split_all is_line_end rest
cut_line front rest none =
    let split : split_first is_line_end (front ++ 10 ∷ rest) ≡ (front, Some rest) = split_front is_line_end front rest 10 none refl in
    cut_split is_line_end (front ++ 10 ∷ rest) ∙ ap (λ s. s.0 ∷ pieces_of is_line_end s.1) split

lines_file : (w : WriterState) (versions : List VersionData) → All IsVersion versions → OplFile (versions_bytes Opl w versions) versions
lines_file w [] valid = tt
lines_file w (v ∷ versions) valid =
    let rest : List ℕ = versions_bytes Opl (writer_with Opl w v) versions in
    let only = line_is_in_one_file v in
    let pieces : split_all is_line_end ((line v ++ 10 ∷ []) ++ rest) ≡ line v ∷ split_all is_line_end rest =
    ap (split_all is_line_end) (append_assoc (line v) (10 ∷ []) rest) ∙ cut_line (line v) rest only.0 in
    let kept : filter is_read (line v ∷ split_all is_line_end rest) ≡ line v ∷ filter is_read (split_all is_line_end rest) =
    rw only.1 refl in
    let P : List (List ℕ) → Type 0 = λ ls. Pairwise Spells ls (v ∷ versions) in
    subst P (sym (ap (filter is_read) pieces ∙ kept)) (
      (line_spells_its_version v (valid 0 v (omega arith))).spelled,
      lines_file (writer_with Opl w v) versions (λ k d inside. valid (suc k) d (omega (arith, inside))),
    )

-- ---- data sets
same_type : (k : kind_type.Kind) → set_type k ≡ type_byte k
same_type kind.Node = refl
same_type kind.Way = refl
same_type kind.Relation = refl

abbrev PartsOf : Segment → List ℕ → List VersionData → Type 0
PartsOf s bytes versions = (parts : List FilePart) × (bytes ≡ flat_map part_bytes parts) × PartsSpell s parts versions

with_reset : (begins : Bool) (s : Segment) (bytes : List ℕ) (versions : List VersionData) → PartsOf (segment_for begins s) bytes versions →
    PartsOf s (reset_before begins ++ bytes) versions
with_reset true s bytes versions h = (Reset ∷ h.0, ap (λ x. 255 ∷ x) h.1, h.2)
with_reset false s bytes versions h = h

parts_of : (versions : List VersionData) (s : Segment) (bytes : List ℕ) → SetsInAll s bytes versions → PartsOf s bytes versions
parts_of [] s bytes h = ([], h, refl)
parts_of (v ∷ versions) s bytes (begins, set, x, after, is, section, spells, more) =
    let later = parts_of versions after x.1 more in
    let k = kind_of v.body in
    let size : List ℕ = section.0 in
    let whole : set_type k ∷ set ≡ flat_map part_bytes (Object k size x.0 ∷ later.0) =
    (λ i. same_type k i ∷ section.2 i) ∙ ap (λ y. type_byte k ∷ (size ++ (x.0 ++ y))) later.1
    ∙ ap (λ y. type_byte k ∷ y) (sym (append_assoc size x.0 (flat_map part_bytes later.0))) in
    let here : PartsOf (segment_for begins s) (set_type k ∷ set) (v ∷ versions) =
    (Object k size x.0 ∷ later.0, whole, (section.1, (v, after, versions, refl, spells, later.2))) in
    subst (λ (y : List ℕ). PartsOf s y (v ∷ versions)) (sym is) (with_reset begins s (set_type k ∷ set) (v ∷ versions) here)

same_sets : (w : WriterState) (versions : List VersionData) → versions_bytes O5m w versions ≡ spelled_sets w versions
same_sets w [] = refl
same_sets w (v ∷ versions) = ap (λ x. spelled_set w v ++ x) (same_sets (writer_after w v) versions)

same_in_both : (w : WriterState) (versions : List VersionData) → versions_bytes O5c w versions ≡ versions_bytes O5m w versions
same_in_both w [] = refl
same_in_both w (v ∷ versions) = ap (λ x. spelled_set w v ++ x) (same_in_both (writer_after w v) versions)

-- ---- whole files
sets_file : (header : List ℕ) (versions : List VersionData) → (header ≡ o5m_header) ⊎ (header ≡ o5c_header) → All IsVersion versions →
    length (spelled_sets initial_writer versions) < 2 ^ 64
    → O5File ((header ++ spelled_sets initial_writer versions) ++ end_byte ∷ []) versions
sets_file header versions begins valid small =
    let h = parts_of versions new_segment (spelled_sets initial_writer versions) (lists_read versions valid small).0 in
    record {
      header = header;
      parts = h.0;
      begins = begins;
      whole = append_assoc header (spelled_sets initial_writer versions) (end_byte ∷ []) ∙ ap (λ x. header ++ (x ++ end_byte ∷ [])) h.1;
      spelled = h.2;
    }

lines_start : (w : WriterState) (versions : List VersionData) → start_of (versions_bytes Opl w versions) ≡ InOpl
unfolding line
lines_start w [] = refl
lines_start w (v ∷ versions) = ap (λ t. cond t BeforeHeader InOpl) (letter_is_no_mark (kind_of v.body))

small_sets : (header sets : List ℕ) → length ((header ++ sets) ++ end_byte ∷ []) < 2 ^ 62 → length sets < 2 ^ 64
small_sets header sets short = omega (arith, short, length-append (header ++ sets) (end_byte ∷ []), length-append header sets)

spelled_file : (f : Format) (versions : List VersionData) → All IsVersion versions → length (spell_list f versions) < 2 ^ 62 →
    IsFile (spell_list f versions) versions
spelled_file Opl versions valid short =
    let lines : List ℕ = versions_bytes Opl initial_writer versions in
    let file : IsFile lines versions = subst (λ (stage : FileStateData). IsFileOf stage lines versions)
    (sym (lines_start initial_writer versions))
    (lines_file initial_writer versions valid) in
    subst (λ (bytes : List ℕ). IsFile bytes versions) (sym (append-nil lines)) file
spelled_file O5m versions valid short =
    let same = same_sets initial_writer versions in
    let small = subst (λ (sets : List ℕ). length sets < 2 ^ 64) same
    (small_sets o5m_header (versions_bytes O5m initial_writer versions) short) in
    subst (λ (sets : List ℕ). O5File ((o5m_header ++ sets) ++ end_byte ∷ []) versions) (sym same)
    (sets_file o5m_header versions (inl refl) valid small)
spelled_file O5c versions valid short =
    let same = same_in_both initial_writer versions ∙ same_sets initial_writer versions in
    let small = subst (λ (sets : List ℕ). length sets < 2 ^ 64) same
    (small_sets o5c_header (versions_bytes O5c initial_writer versions) short) in
    subst (λ (sets : List ℕ). O5File ((o5c_header ++ sets) ++ end_byte ∷ []) versions) (sym same)
    (sets_file o5c_header versions (inr refl) valid small)

-- ---- the order of the members
key_not_below : (v w : VersionData) → version_cmp v w ≡ Less → is_lt (key_cmp w v) ≡ false
key_not_below v w less =
    elim (key_cmp w v) as (λ r. key_cmp w v ≡ r → is_lt r ≡ false) [
      | Less ↦ λ e. absurd (first_so _ _ less (then_greater _ _ (then_greater _ _ (key_cmp_total.antisymm v w ∙ ap ordering_reverse e))))
      | Equal ↦ λ e. refl
      | Greater ↦ λ e. refl
    ] refl

keys_rise : (xs : List VersionData) → IsStrictlySortedBy version_cmp xs → IsSorted key_cmp xs
keys_rise xs h = λ k d low high. key_not_below (get_or xs k d) (get_or xs (k + 1) d)
    (Less-from_sorted version_cmp xs k (k + 1) d h (omega arith) high)

-- The file of a set of versions, if it is below 2^62 bytes, is sorted and holds the set.
pub spell_holds : SpellHoldsItsSet
spell_holds f s valid short = record {
  short = short;
  versions = to_list s;
  file = spelled_file f (to_list s) valid short;
  sorted = keys_rise (to_list s) (strict-listed s);
  members = sym (set_listed s);
}

-- A file holds one set.
pub held_is_one_set : HeldIsOneSet
held_is_one_set bytes one other h g = h.members ∙ ap (λ xs. from_list {R = version_cmp} xs)
    (one_list bytes h.versions g.versions h.file g.file) ∙ sym g.members

-- ---- joins
pub in_union : (s t : VersionSet) (v : VersionData) → contains (union s t) v ≡ (contains s v || contains t v)
in_union s t v = contains-union version_cmp_total s t v

pub equal_sets : (s t : VersionSet) → ((q : VersionData) → contains s q ≡ contains t q) → s ≡ t
equal_sets s t h = same_set version_cmp_total version_cmp-IsAntisymmetric s t h

-- The file of a union doesn't depend on the order of the sets.
pub join_in_any_order : JoinInAnyOrder
join_in_any_order f a b = ap (spell f) (equal_sets (union a b) (union b a)
    (λ q. in_union a b q ∙ or_comm (contains a q) (contains b q) ∙ sym (in_union b a q)))

-- The empty set has no member.
pub in_none : (v : VersionData) → contains {R = version_cmp} empty v ≡ false
in_none v = ap is_some (get-empty {X = Unit {0}} version_cmp v)

-- The union of a set with itself has the file of its union with the empty set.
pub join_repeated : JoinRepeated
join_repeated f a = ap (spell f) (equal_sets (union a a) (union a empty)
    (λ q. in_union a a q ∙ or_self (contains a q) ∙ sym (or-false (contains a q)) ∙ ap (λ (b : Bool). contains a q || b) (sym (in_none q))
    ∙ sym (in_union a empty q)))

pub grouped : (a b c : VersionSet) → union (union a b) c ≡ union a (union b c)
grouped a b c =
    equal_sets (union (union a b) c) (union a (union b c)) (λ q.
    in_union (union a b) c q ∙ ap (λ (x : Bool). x || contains c q) (in_union a b q)
    ∙ or_assoc (contains a q) (contains b q) (contains c q)
    ∙ ap (λ (x : Bool). contains a q || x) (sym (in_union b c q)) ∙ sym (in_union a (union b c) q))

member_of_list : (xs : List VersionData) (q : VersionData) → All IsVersion xs → list_any (eq_by_cmp version_cmp q) xs ≡ true → IsVersion q
member_of_list xs q valid h =
    let a : Any (λ x. eq_by_cmp version_cmp q x ≡ true) xs = Any-from_list_any (eq_by_cmp version_cmp q) xs h in
    let is : q ≡ a.1 = version_cmp-IsAntisymmetric q (a.1) ((Equal-is (version_cmp q (a.1))).0 a.4) in
    subst (λ (v : VersionData). IsVersion v) (a.3 ∙ sym is) (valid (a.0) (a.1) a.2)

member_is : (s : VersionSet) (q : VersionData) → AreVersions s → contains s q ≡ true → IsVersion q
member_is s q valid h = member_of_list (to_list s) q valid (sym (contains-listed s q) ∙ h)

contains_itself : (s : VersionSet) (k : ℕ) (d : VersionData) → k < length (to_list s) → contains s (get_or (to_list s) k d) ≡ true
contains_itself s k d within =
    let x : VersionData = get_or (to_list s) k d in
    let tied : eq_by_cmp version_cmp x x ≡ true = ap is_eq (tied_itself version_cmp_total x) in
    contains-listed s x ∙ list_any_at (eq_by_cmp version_cmp x) (to_list s) k d within tied

-- A set whose members are versions is a set of versions.
pub are_versions : (s : VersionSet) → ((q : VersionData) → contains s q ≡ true → IsVersion q) → AreVersions s
are_versions s members = λ k d within. members (get_or (to_list s) k d) (contains_itself s k d within)

-- The union of two sets of versions is a set of versions.
pub unions_are_versions : UnionsAreVersions
unions_are_versions a b valid others =
    are_versions (union a b) (λ x h. elim (or_cases (contains a x) (contains b x)
    (sym (in_union a b x) ∙ h)) [ inl left ↦ member_is a x valid left | inr right ↦ member_is b x others right ])

-- a part of a set of versions is a set of versions
pub are_fewer : (a b : VersionSet) → AreVersions a → ((q : VersionData) → contains b q ≡ true → contains a q ≡ true) → AreVersions b
are_fewer a b valid part = are_versions b (λ x h. member_is a x valid (part x h))

-- A file holds a set of versions.
pub held_are_versions : HeldAreVersions
held_are_versions bytes s h =
    are_versions s (λ x has.
    member_of_list h.versions x (files_hold_versions bytes h.versions h.file)
    (sym (contains-from_list version_cmp_total h.versions x) ∙ ap (λ t. contains t x) (sym h.members) ∙ has))

-- The file of a set of versions holds no other set.
pub spelled_is_held : SpelledIsHeld
spelled_is_held f set held valid h =
    let own = spell_holds f set valid h.short in
    held_is_one_set (spell f set) held set h (record { short = own.short; versions = own.versions; file = own.file; members = own.members })

is_union : (f : Format) (a b held : VersionSet) → AreVersions a → AreVersions b → Holds (joined_file f a b) held → held ≡ union a b
is_union f a b held valid others h = spelled_is_held f (union a b) held (unions_are_versions a b valid others) h

-- Three sets make one file of their union, whichever two are joined and written first.
pub join_in_any_grouping : JoinInAnyGrouping
join_in_any_grouping f g h a b c ab bc valid_a valid_b valid_c left right =
    ap (λ (s : VersionSet). spell f (union s c)) (is_union g a b ab valid_a valid_b left)
    ∙ ap (spell f) (grouped a b c)
    ∙ ap (λ (s : VersionSet). spell f (union a s)) (sym (is_union h b c bc valid_b valid_c right))

-- ---- versions put in sequence
pub each_may_follow : EachMayFollow
each_may_follow f versions others v sorted =
    let xs = versions ++ v ∷ others in
    let within : length versions < length xs = omega (arith, length-append versions (v ∷ others)) in
    let at : get_or xs (length versions) v ≡ v = get_or-append_seam versions v others v in
    let front : take (length versions) xs ≡ versions = take-append_seam versions (v ∷ others) in
    let P : VersionData → List VersionData → Type 0 = λ x ys. MayFollow x (writer_with_all f initial_writer ys) in
    subst (λ (ys : List VersionData). P v ys) front (subst (λ (x : VersionData). P x (take (length versions) xs)) at
    (may_follow f xs (length versions) v sorted within))

-- The file of a strictly ascending list is the file of its set.
pub list_spelled : ListIsSpelledAsItsSet
list_spelled f versions sorted = ap (spell_list f) (sym (to_list-view versions sorted))

-- The file of the first versions of a list is a front of the list's file, without the mark of its end.
pub first_in_front : FirstVersionsAreAFront
first_in_front f versions others = (
  versions_bytes f (writer_with_all f initial_writer versions) others ++ file_end f,
  list_split f versions others,
)

-- Three files make one file of their union, whichever two are joined first.
pub files_join : FilesJoinInAnyGrouping
files_join f g h first second third a b c ab bc one two three =
    join_in_any_grouping f g h a b c ab bc (held_are_versions first a one) (held_are_versions second b two)
    (held_are_versions third c three)

-- ---- files without a verdict
holds_reading : (bytes : List ℕ) (s : VersionSet) → Holds bytes s → (verdict bytes ≡ None) × (s ≡ held_by bytes)
holds_reading bytes s h =
    let read = files_are_read bytes h.versions h.short h.file in
    (read.0, h.members ∙ ap (λ xs. from_list {R = version_cmp} xs) (sym read.1))

reading_holds : (bytes : List ℕ) (s : VersionSet) → (verdict bytes ≡ None) × (s ≡ held_by bytes) → Holds bytes s
reading_holds bytes s h =
    let file = accepted_without_verdict bytes h.0 in
    record { short = file.0; versions = versions_of (file_units bytes).list; file = file.1; members = h.1 }

-- Bytes hold a set exactly if they have no verdict and the set has the versions of their units.
pub held_without_verdict : HeldWithoutVerdict
held_without_verdict bytes s = (holds_reading bytes s, reading_holds bytes s)

-- The file of a set of versions, if it is below 2^62 bytes, has no verdict.
pub spell_has_no_verdict : SpellHasNoVerdict
spell_has_no_verdict f s valid short =
    let own = spell_holds f s valid short in
    let read = holds_reading (spell f s) s (record { short = own.short; versions = own.versions; file = own.file; members = own.members })
    in
    (read.0, sym read.1)
