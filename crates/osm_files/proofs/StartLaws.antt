-- The first byte of OPL files.
use Rattle.std.proofs.Common.{◌≡◌, ℕ, ◌==◌, true, false, cond, List, [], ◌∷◌, refl, subst, Option}
use Rattle.std.specs.List.{filter}
use Rattle.std.proofs.lemmas.Bool.{eqb-true}
use Rattle.osm_model.specs.Data.{VersionData}
use Rattle.osm_model.specs.Pairwise.{Pairwise}
use Rattle.opl_line.specs.Delimiter.{is_line_end, split_first, pieces_of, with_byte}
use Rattle.opl_line.specs.Spells.{Spells}
use Rattle.opl_line.proofs.CutLaws.{cut_split}
use Rattle.opl_line.proofs.StartLaws.{ff_spells_nothing}
use Rattle.osm_files.specs.O5.{reset_byte}
use Rattle.osm_files.specs.Opl.{is_read, OplFile}
use Rattle.osm_files.specs.Units.{InOpl, BeforeHeader, start_of}

no_first_line : (s : List ℕ × Option (List ℕ)) (versions : List VersionData) →
    Pairwise Spells (filter is_read ((with_byte 255 s).0 ∷ pieces_of is_line_end (with_byte 255 s).1)) versions → ⊥
no_first_line (line, rest) [] h = absurd h
no_first_line (line, rest) (v ∷ versions) h = ff_spells_nothing line v h.0

no_opl : (bytes : List ℕ) (versions : List VersionData) → OplFile (255 ∷ bytes) versions → ⊥
no_opl bytes versions file =
    no_first_line (split_first is_line_end bytes) versions
    (subst (λ (lines : List (List ℕ)). Pairwise Spells (filter is_read lines) versions) (cut_split is_line_end (255 ∷ bytes)) file)

-- An OPL file doesn't begin as an o5 file does.
pub opl_starts : (bytes : List ℕ) (versions : List VersionData) → OplFile bytes versions → start_of bytes ≡ InOpl
opl_starts [] versions file = refl
opl_starts (b ∷ bytes) versions file =
    elim (b == reset_byte) as (λ t. b == reset_byte ≡ t → cond t BeforeHeader InOpl ≡ InOpl) [
      | true ↦ λ is. absurd (no_opl bytes versions (subst (λ (x : ℕ). OplFile (x ∷ bytes) versions) (eqb-true b reset_byte is) file))
      | false ↦ λ is. refl
    ] refl
