-- The readings of units, and the units of lines.
use Rattle.std.proofs.Common.{◌≡◌, ℕ, zero, suc, ◌+◌, ◌≤◌, Bool, true, false, not, cond, List, [], ◌∷◌, ◌++◌, length, drop, filter, refl}
use Rattle.std.proofs.Common.{sym, ap, ◌∙◌, subst, arith, Option, Some, None, Result, Ok, Err, length-append}
use Rattle.std.proofs.lemmas.Option.{none-some}
use Rattle.osm_model.specs.Data.{VersionData}
use Rattle.osm_model.specs.Pairwise.{Pairwise}
use Rattle.opl_line.specs.Delimiter.{split_all, is_line_end, with_byte, pieces_of, split_first}
use Rattle.opl_line.specs.Reading.{is_skipped, reading_line}
use Rattle.opl_line.specs.Spells.{Spells}
use Rattle.opl_line.specs.declared.reason.OplReason.{OplReason}
use Rattle.opl_line.proofs.CutLaws.{cut_split}
use Rattle.opl_line.proofs.SpellsLaws.{read_is_spelled, one_reading, refused_spells_nothing, result_spelled}
use Rattle.osm_files.specs.Stream.{Verdict, Placed, SourceRest, end_whole}
use Rattle.osm_files.specs.Opl.{is_read, OplFile}
use Rattle.osm_files.specs.Units.{FileStateData, InOpl, line_found, line_unit, found_then, final_units, unit_then, unit_at, last_at}
use Rattle.osm_files.specs.Units.{units_within}
use Rattle.osm_files.specs.Verdict.{versions_of}

-- units have no verdict exactly if their bytes spell versions, and then the units have these versions
pub record ReadsAs (still : SourceRest Placed Verdict) (Spelled : List VersionData → Type 0) : Type 0 where
  pub read : (versions : List VersionData) → Spelled versions → (still.refusal ≡ None) × (versions_of still.list ≡ versions)
  pub back : still.refusal ≡ None → Spelled (versions_of still.list)

abbrev pub LineFile : List (List ℕ) → List VersionData → Type 0
LineFile pieces = Pairwise Spells (filter is_read pieces)

-- a line that isn't skipped, and others
spelled_line : (line : List ℕ) (pieces : List (List ℕ)) (versions : List VersionData) → is_skipped line ≡ false →
    LineFile (line ∷ pieces) versions
    → (v : VersionData) × (others : List VersionData) × (versions ≡ v ∷ others) × Spells line v × LineFile pieces others
spelled_line line pieces [] kept h =
    let P : Bool → Type 0 = λ b. Pairwise Spells (cond (not b) (line ∷ filter is_read pieces) (filter is_read pieces)) [] in
    absurd (subst P kept h)
spelled_line line pieces (v ∷ others) kept h =
    let P : Bool → Type 0 = λ b. Pairwise Spells (cond (not b) (line ∷ filter is_read pieces) (filter is_read pieces)) (v ∷ others) in
    let k = subst P kept h in
    (v, others, refl, k.0, k.1)

kept_by : (skipped : Bool) (other : Result (Option VersionData) OplReason) (reason : OplReason) →
    cond skipped (Ok None) other ≡ Err reason → skipped ≡ false
kept_by true other reason e = absurd (let f : Ok None ≡ Err reason = e in cc)
kept_by false other reason e = refl

kept_some : (skipped : Bool) (other : Result (Option VersionData) OplReason) (v : VersionData) →
    cond skipped (Ok None) other ≡ Ok (Some v) → skipped ≡ false
kept_some true other v e = absurd (let f : None ≡ Some v = cc in cc)
kept_some false other v e = refl

refused_line : (line : List ℕ) (pieces : List (List ℕ)) (reason : OplReason) (versions : List VersionData) →
    reading_line line ≡ Err reason → LineFile (line ∷ pieces) versions → ⊥
refused_line line pieces reason versions e all =
    let k = spelled_line line pieces versions (kept_by (is_skipped line) _ reason e) all in
    refused_spells_nothing line reason k.0 e k.3

pub line_then : (line : List ℕ) (pieces : List (List ℕ)) (offset : ℕ) (more : FileStateData → SourceRest Placed Verdict) →
    ReadsAs (more InOpl) (LineFile pieces) → (result : Result (Option VersionData) OplReason) → reading_line line ≡ result
    → ReadsAs (found_then offset (line_found result) more) (LineFile (line ∷ pieces))
line_then line pieces offset more h (Ok None) e =
    let skipped : is_skipped line ≡ true = result_spelled line (Ok None) e in
    let same : filter is_read (line ∷ pieces) ≡ filter is_read pieces = rw skipped refl in
    let P : List (List ℕ) → Type 0 = λ ls. ReadsAs (more InOpl) (Pairwise Spells ls) in
    subst P (sym same) h
line_then line pieces offset more h (Ok (Some v)) e =
    let spelled = read_is_spelled line v e in
    let kept : is_skipped line ≡ false = kept_some (is_skipped line) _ v e in
    let same : filter is_read (line ∷ pieces) ≡ line ∷ filter is_read pieces = rw kept refl in
    record {
      read = λ versions all. (
          let k = spelled_line line pieces versions kept all in
          let r = h.read k.1 k.4 in
          (r.0, (λ i. one_reading line v k.0 spelled k.3 i ∷ r.1 i) ∙ sym k.2));
      back = λ none. (
          let P : List (List ℕ) → Type 0 = λ ls. Pairwise Spells ls (v ∷ versions_of (more InOpl).list) in
          subst P (sym same) (spelled, h.back none));
    }
line_then line pieces offset more h (Err reason) e = record {
  read = λ versions all. absurd (refused_line line pieces reason versions e all);
  back = λ none. absurd (none-some _ (sym none));
}

-- a text up to the first byte that it is cut at
abbrev pub SplitsAs : List ℕ → List ℕ × Option (List ℕ) → Type 0
SplitsAs bytes (line, None) = line ≡ bytes
SplitsAs bytes (line, Some after) = (b : ℕ) × (bytes ≡ line ++ b ∷ after)

longer : (b : ℕ) (bytes : List ℕ) (s : List ℕ × Option (List ℕ)) → SplitsAs bytes s → SplitsAs (b ∷ bytes) (with_byte b s)
longer b bytes (line, None) h = ap (λ l. b ∷ l) h
longer b bytes (line, Some after) h = (h.0, ap (λ l. b ∷ l) h.1)

-- The first piece of a text is the text up to the first byte at which it is cut.
pub splits : (p : ℕ → Bool) (bytes : List ℕ) → SplitsAs bytes (split_first p bytes)
splits p [] = refl
splits p (b ∷ bytes) =
    elim (p b) as (λ t. SplitsAs (b ∷ bytes) (cond t ([], Some bytes) (with_byte b (split_first p bytes)))) [
      | true ↦ (b, refl)
      | false ↦ longer b bytes (split_first p bytes) (splits p bytes)
    ]

-- after a piece and its end
pub drop_after : (front : List ℕ) (b : ℕ) (after : List ℕ) → drop (length front + 1) (front ++ b ∷ after) ≡ after
drop_after [] b after = refl
drop_after (a ∷ front) b after = let e : length (a ∷ front) + 1 ≡ suc (length front + 1) = omega arith in
    rw e (drop_after front b after)

abbrev pub Reads : ℕ → Type 0
Reads n = (bytes : List ℕ) (offset : ℕ) → length bytes ≤ n → ReadsAs (units_within n None InOpl offset bytes) (OplFile bytes)

nothing : (versions : List VersionData) → LineFile [] versions → [] ≡ versions
nothing [] h = refl
nothing (v ∷ versions) h = absurd h

nothing_more : ReadsAs end_whole (LineFile [])
nothing_more = record { read = λ versions h. (refl, nothing versions h); back = λ none. tt }

pub unit_in_opl : (bytes : List ℕ) → unit_at InOpl bytes ≡ line_unit (split_first is_line_end bytes)
unfolding unit_at
unit_in_opl bytes = refl

pub last_in_opl : (bytes : List ℕ) → last_at InOpl bytes ≡ line_found (reading_line bytes)
unfolding last_at
last_in_opl bytes = refl

-- the last line, which may lack its end
last_line : (offset : ℕ) (bytes : List ℕ) → ReadsAs (final_units None offset (last_at InOpl bytes)) (LineFile (bytes ∷ []))
last_line offset bytes = rw (last_in_opl bytes) (line_then bytes [] offset (λ next. end_whole) nothing_more (reading_line bytes) refl)

-- the first line, and the bytes after its end
first_line : (n : ℕ) → Reads n → (bytes : List ℕ) (offset : ℕ) → length bytes ≤ suc n → (s : List ℕ × Option (List ℕ)) → SplitsAs bytes s →
    split_all is_line_end bytes ≡ s.0 ∷ pieces_of is_line_end s.1
    → ReadsAs (unit_then None InOpl offset bytes (units_within n None) (line_unit s)) (OplFile bytes)
first_line n on bytes offset fits (line, None) split pieces =
    let P : List (List ℕ) → Type 0 = λ ls. ReadsAs (final_units None offset (last_at InOpl bytes)) (LineFile ls) in
    subst P (sym pieces ∙ refl) (subst (λ (l : List ℕ). ReadsAs (final_units None offset (last_at InOpl bytes)) (LineFile (l ∷ [])))
    (sym split)
    (last_line offset bytes))
first_line n on bytes offset fits (line, Some after) split pieces =
    let size : ℕ = length line + 1 in
    let rest : drop size bytes ≡ after = ap (drop size) split.1 ∙ drop_after line split.0 after in
    let few : length after ≤ n = omega (arith, fits, ap length split.1, length-append line (split.0 ∷ after)) in
    let more : FileStateData → SourceRest Placed Verdict = λ next. units_within n None next (offset + size) (drop size bytes) in
    let reads : ReadsAs (more InOpl) (LineFile (split_all is_line_end after)) = rw rest (on after (offset + size) few) in
    let P : List (List ℕ) → Type 0 = λ ls. ReadsAs (found_then offset (line_found (reading_line line)) more) (LineFile ls) in
    subst P (sym pieces) (line_then line (split_all is_line_end after) offset more reads (reading_line line) refl)

-- The units of an OPL file read as its lines.
pub opl_reads : (n : ℕ) → Reads n
opl_reads zero [] offset fits = last_line offset []
opl_reads zero (b ∷ bytes) offset fits = absurd (omega (arith, fits))
opl_reads (suc n) bytes offset fits =
    rw (unit_in_opl bytes) (first_line n (opl_reads n) bytes offset fits (split_first is_line_end bytes) (splits is_line_end bytes)
    (cut_split is_line_end bytes))
