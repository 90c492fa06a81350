-- The lines of plans: an own rule of this project.
use Rattle.std.specs.Prelude.{◌≡◌, ℕ, ◌<◌, ◌≤◌, ◌==◌, true, List, [], ◌∷◌, length, codes, encode_utf8_all}
use Rattle.std.specs.List.{slice_split}
use Rattle.std.specs.Str.{all_ascii_digits}
use Rattle.std.specs.Str.Parse.{digits_value}
use Rattle.osm_files.specs.Format.{format_name}
use Rattle.osm_mirror.specs.declared.fleet.keep.Keep.TheVariants.{Full, Latest}
use Rattle.osm_mirror.specs.fleet.Event.{IsWithin}
use Rattle.osm_mirror.specs.declared.fleet.event.MirrorEvent.TheVariants.{Take, Pass, Restart}
use Rattle.osm_mirror.specs.declared.fleet.plan_line.PlanLine.{PlanLine}
use Rattle.osm_mirror.specs.declared.fleet.plan_line.PlanLine.TheVariants.{Mirror, Step, Write}

-- the number of a mirror: 1 to 9 decimal digits
pub record IsNumber (word : List ℕ) (n : ℕ) : Type 0 where
  pub digits : all_ascii_digits word ≡ true
  pub some : 0 < length word
  pub few : length word ≤ 9
  pub value : n ≡ digits_value 10 word

-- the name of a file: a word that isn't empty
pub record IsName (word : List ℕ) (file : List ℕ) : Type 0 where
  pub bytes : word ≡ encode_utf8_all file
  pub some : 0 < length word

-- the part that words spell: `full`, `latest`, `take M FILE`, `pass M N FORMAT`, `restart M FORMAT`, `write M FORMAT
-- FILE`
abbrev pub WordsSay : List (List ℕ) → PlanLine → Type 0
WordsSay words (Mirror Full) = words ≡ codes "full" ∷ []
WordsSay words (Mirror Latest) = words ≡ codes "latest" ∷ []
WordsSay words (Step (Take mirror file)) =
    (m f : List ℕ) × (words ≡ codes "take" ∷ m ∷ f ∷ []) × IsNumber m mirror × IsName f file
WordsSay words (Step (Pass from to format)) =
    (m n : List ℕ) × (words ≡ codes "pass" ∷ m ∷ n ∷ format_name format ∷ []) × IsNumber m from × IsNumber n to
WordsSay words (Step (Restart mirror format)) =
    (m : List ℕ) × (words ≡ codes "restart" ∷ m ∷ format_name format ∷ []) × IsNumber m mirror
WordsSay words (Write w) =
    (m f : List ℕ) × (words ≡ codes "write" ∷ m ∷ format_name w.format ∷ f ∷ []) × IsNumber m w.mirror × IsName f w.file

-- the part that a line spells; the line's words have single spaces between them
abbrev pub LineSays : List ℕ → PlanLine → Type 0
LineSays line said = WordsSay (slice_split (λ b. b == 32) line) said

-- all mirrors that a line names are below `mirrors`
abbrev pub NamesMirrors : ℕ → PlanLine → Type 0
NamesMirrors mirrors (Mirror keep) = Unit {0}
NamesMirrors mirrors (Step s) = IsWithin mirrors s
NamesMirrors mirrors (Write w) = w.mirror < mirrors
