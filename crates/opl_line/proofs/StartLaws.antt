-- The first byte of a line that spells a version.
use Rattle.std.proofs.Common.{◌≡◌, ℕ, Bool, false, cond, List, [], ◌∷◌, refl, sym, ap, ◌∙◌, arith, Option, Some}
use Rattle.osm_model.specs.declared.kind.Kind.{Kind}
use Rattle.osm_model.specs.declared.kind.Kind.TheVariants.{Node, Way, Relation}
use Rattle.osm_model.specs.Data.{VersionData}
use Rattle.osm_model.specs.Kind.{kind_letter}
use Rattle.opl_line.specs.declared.bytes.cut.Delimiter.TheVariants.{Blanks}
use Rattle.opl_line.specs.Delimiter.{is_end, split_all, split_first, pieces_of, with_byte}
use Rattle.opl_line.specs.Spells.{Spells}
use Rattle.opl_line.proofs.CutLaws.{cut_split}

-- the first byte of the first piece
abbrev first_byte : List (List ℕ) → ℕ
first_byte [] = 0
first_byte ([] ∷ pieces) = 0
first_byte ((b ∷ piece) ∷ pieces) = b

with_first : (p : ℕ → Bool) (b : ℕ) (s : List ℕ × Option (List ℕ)) → first_byte ((with_byte b s).0 ∷ pieces_of p (with_byte b s).1) ≡ b
with_first p b (piece, rest) = refl

-- if bytes aren't split at their first byte, it is the first byte of the first piece
first_kept : (p : ℕ → Bool) (b : ℕ) (bytes : List ℕ) → p b ≡ false → first_byte (split_all p (b ∷ bytes)) ≡ b
first_kept p b bytes other =
    let pieces : List ℕ × Option (List ℕ) → List (List ℕ) = λ s. s.0 ∷ pieces_of p s.1 in
    ap first_byte (cut_split p (b ∷ bytes))
    ∙ ap (λ t. first_byte (pieces (cond t ([], Some bytes) (with_byte b (split_first p bytes))))) other
    ∙ with_first p b (split_first p bytes)

no_kind : (kind : Kind) → kind_letter kind ≡ 255 → ⊥
no_kind Node is = absurd (omega (arith, is))
no_kind Way is = absurd (omega (arith, is))
no_kind Relation is = absurd (omega (arith, is))

-- A line that begins with the byte ff spells no version.
pub ff_spells_nothing : (line : List ℕ) (v : VersionData) → Spells (255 ∷ line) v → ⊥
ff_spells_nothing line v h =
    no_kind h.kind
    (sym (ap first_byte h.line_parts.fields ∙ ap (λ object. first_byte (object ∷ h.line_parts.others)) h.line_parts.names.lettered)
    ∙ first_kept (is_end Blanks) 255 line refl)
