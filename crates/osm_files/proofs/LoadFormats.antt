-- Files that are written determine their formats.
use Rattle.std.proofs.Common.{◌≡◌, ℕ, ◌==◌, false, cond, List, [], ◌∷◌, ◌++◌, refl, ap, ◌∙◌, append_assoc}
use Rattle.osm_model.specs.declared.kind.Kind.{Kind}
use Rattle.osm_model.specs.declared.kind.Kind.TheVariants as kind
use Rattle.osm_model.specs.Kind.{kind_letter}
use Rattle.osm_model.specs.Data.{VersionData, kind_of}
use Rattle.osm_model.specs.Line.{line}
use Rattle.osm_model.specs.Sets.{to_list}
use Rattle.osm_files.specs.declared.format.Format.{Format}
use Rattle.osm_files.specs.declared.format.Format.TheVariants.{Opl, O5m, O5c}
use Rattle.osm_files.specs.O5.{reset_byte}
use Rattle.osm_files.specs.Spell.{writer_with, line_with_end, versions_bytes, spell_list}
use Rattle.o5_codec.specs.Encoder.{initial_writer}
use Rattle.osm_files.specs.Load.{format_of, is_o5m}
use Rattle.osm_files.specs.LoadLaws.{WrittenFilesDetermineTheirFormat}

pub letter_is_no_mark : (k : Kind) → kind_letter k == reset_byte ≡ false
letter_is_no_mark kind.Node = refl
letter_is_no_mark kind.Way = refl
letter_is_no_mark kind.Relation = refl

line_decides : (v : VersionData) (rest : List ℕ) → format_of (line v ++ rest) ≡ Opl
unfolding line
line_decides v rest = ap (λ t. cond t (cond (is_o5m (line v ++ rest)) O5m O5c) Opl) (letter_is_no_mark (kind_of v.body))

list_determines : (format : Format) (versions : List VersionData) → format_of (spell_list format versions) ≡ format
list_determines Opl [] = refl
list_determines Opl (v ∷ versions) =
    let rest : List ℕ = versions_bytes Opl (writer_with Opl initial_writer v) versions in
    ap format_of (append_assoc (line_with_end v) rest [] ∙ append_assoc (line v) (10 ∷ []) (rest ++ []))
    ∙ line_decides v ((10 ∷ []) ++ (rest ++ []))
list_determines O5m versions = refl
list_determines O5c versions = refl

-- A file that was written determines its format.
pub formats_determined : WrittenFilesDetermineTheirFormat
formats_determined format set = list_determines format (to_list set)
