-- The names of the formats of files.
use Rattle.std.specs.Prelude.{ℕ, List, codes}
use Rattle.osm_files.specs.declared.format.Format.{Format}
use Rattle.osm_files.specs.declared.format.Format.TheVariants.{Opl, O5m, O5c}

-- the name of a format, which is the suffix that files of it usually have
abbrev pub format_name : Format → List ℕ
format_name Opl = codes "opl"
format_name O5m = codes "o5m"
format_name O5c = codes "o5c"
