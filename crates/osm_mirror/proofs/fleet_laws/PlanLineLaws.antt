-- The parts that the words of a plan's lines spell, at most one each.
use Rattle.std.proofs.Common.{◌≡◌, ℕ, ◌+◌, ◌<◌, ◌≤◌, ◌^◌, true, ◌&&◌, List, [], ◌∷◌, length, get_or, refl, sym, ap, ◌∙◌, arith, Result, Err}
use Rattle.std.proofs.lemmas.Result.{OkIff-at_err}
use Rattle.std.proofs.lemmas.Str.{encodes_same}
use Rattle.std.proofs.lemmas.Str.Parse.{digits_value_short, parse_digits}
use Rattle.std.specs.Str.{all_ascii_digits}
use Rattle.std.specs.Str.Parse.{digits_value, ParsesUnsigned}
use Rattle.opl_line.specs.Spells.{is_full}
use Rattle.osm_mirror.proofs.DigitLaws.{numerals}
use Rattle.osm_files.specs.declared.format.Format.{Format}
use Rattle.osm_files.specs.declared.format.Format.TheVariants.{Opl, O5m, O5c}
use Rattle.osm_files.specs.Format.{format_name}
use Rattle.osm_mirror.specs.declared.fleet.keep.Keep.{Keep}
use Rattle.osm_mirror.specs.declared.fleet.keep.Keep.TheVariants.{Full, Latest}
use Rattle.osm_mirror.specs.declared.fleet.plan_line.PlanWrite.{PlanWrite}
use Rattle.osm_mirror.specs.fleet.Event as event
use Rattle.osm_mirror.specs.declared.fleet.event.MirrorEvent.TheVariants.{Take, Pass, Restart}
use Rattle.osm_mirror.specs.declared.fleet.plan_line.PlanLine.{PlanLine}
use Rattle.osm_mirror.specs.declared.fleet.plan_line.PlanLine.TheVariants.{Mirror, Step, Write}
use Rattle.osm_mirror.specs.fleet.PlanLine.{IsNumber, IsName, WordsSay, LineSays}

-- up to 9 digits that can't be parsed are no number
pub parsed_none : {E : Type 0} → (word : List ℕ) (r : Result ℕ E) (e : E) → ParsesUnsigned 64 10 word r → all_ascii_digits word ≡ true →
    length word ≤ 9 → r ≡ Err e → (n : ℕ) → IsNumber word n → ⊥
parsed_none word r e parsed digits few is n number =
    let small : digits_value 10 word < 10 ^ 9 = digits_value_short numerals word 9 digits few in
    OkIff-at_err r _ _ e (parse_digits numerals 64 word r parsed digits) is (number.some, omega arith)

-- a word is at most one number
number_one : (word : List ℕ) (n k : ℕ) → IsNumber word n → IsNumber word k → n ≡ k
number_one word n k one other = one.value ∙ sym other.value

-- a word is the name of at most one file
name_one : (word file other : List ℕ) → IsName word file → IsName word other → file ≡ other
name_one word file other one two = encodes_same file other (sym one.bytes ∙ two.bytes)

-- a word is the name of at most one format
format_one : (f g : Format) → format_name f ≡ format_name g → f ≡ g
format_one Opl Opl e = refl
format_one O5m O5m e = refl
format_one O5c O5c e = refl
format_one _ _ e = absurd (omega (arith, ap (λ name. get_or name 1 0 + get_or name 2 0) e))

-- the first letter of words
letter : List (List ℕ) → ℕ
letter [] = 0
letter (word ∷ words) = get_or word 0 0

-- the first letter of the words of a mirror line, a step and a write line
mirror_letter : (words : List (List ℕ)) (keep : Keep) → WordsSay words (Mirror keep) → (0 < letter words) × (letter words < 112)
unfolding letter
mirror_letter words Full a = omega (arith, ap letter a)
mirror_letter words Latest a = omega (arith, ap letter a)

step_letter : (words : List (List ℕ)) (s : event.Step) → WordsSay words (Step s) → (111 < letter words) × (letter words < 119)
unfolding letter
step_letter words (Take m f) a = omega (arith, ap letter a.2)
step_letter words (Pass m n f) a = omega (arith, ap letter a.2)
step_letter words (Restart m f) a = omega (arith, ap letter a.1)

write_letter : (words : List (List ℕ)) (w : PlanWrite) → WordsSay words (Write w) → letter words ≡ 119
unfolding letter
write_letter words w a = omega (arith, ap letter a.2)

mirror_one : (words : List (List ℕ)) (k l : Keep) → WordsSay words (Mirror k) → WordsSay words (Mirror l) → k ≡ l
unfolding letter
mirror_one words Full Full a b = refl
mirror_one words Latest Latest a b = refl
mirror_one words _ _ a b = absurd (omega (arith, ap letter a, ap letter b))

step_one : (words : List (List ℕ)) (s t : event.Step) → WordsSay words (Step s) → WordsSay words (Step t) → s ≡ t
unfolding letter
step_one words (Take m f) (Take n g) a b =
    let word : a.0 ≡ b.0 = cc in
    let name : a.1 ≡ b.1 = cc in
    let mirror = number_one a.0 m n a.3 (rw word b.3) in
    let file = name_one a.1 f g a.4 (rw name b.4) in
    cc
step_one words (Pass m n f) (Pass k l g) a b =
    let word : a.0 ≡ b.0 = cc in
    let last : a.1 ≡ b.1 = cc in
    let from = number_one a.0 m k a.3 (rw word b.3) in
    let to = number_one a.1 n l a.4 (rw last b.4) in
    let name : format_name f ≡ format_name g = cc in
    let format = format_one f g name in
    cc
step_one words (Restart m f) (Restart n g) a b =
    let word : a.0 ≡ b.0 = cc in
    let mirror = number_one a.0 m n a.2 (rw word b.2) in
    let name : format_name f ≡ format_name g = cc in
    let format = format_one f g name in
    cc
step_one words (Take m f) (Pass n k g) a b = absurd (omega (arith, ap letter a.2, ap letter b.2))
step_one words (Take m f) (Restart n g) a b = absurd (omega (arith, ap letter a.2, ap letter b.1))
step_one words (Pass m n f) (Take k g) a b = absurd (omega (arith, ap letter a.2, ap letter b.2))
step_one words (Pass m n f) (Restart k g) a b = absurd (omega (arith, ap letter a.2, ap letter b.1))
step_one words (Restart m f) (Take n g) a b = absurd (omega (arith, ap letter a.1, ap letter b.2))
step_one words (Restart m f) (Pass n k g) a b = absurd (omega (arith, ap letter a.1, ap letter b.2))

write_one : (words : List (List ℕ)) (v w : PlanWrite) → WordsSay words (Write v) → WordsSay words (Write w) → v ≡ w
write_one words v w a b =
    let word : a.0 ≡ b.0 = cc in
    let name : a.1 ≡ b.1 = cc in
    let mirror = number_one a.0 v.mirror w.mirror a.3 (rw word b.3) in
    let file = name_one a.1 v.file w.file a.4 (rw name b.4) in
    let named : format_name v.format ≡ format_name w.format = cc in
    let format = format_one v.format w.format named in
    λ i. record { mirror = mirror i; format = format i; file = file i }

-- words spell at most one part
words_one : (words : List (List ℕ)) (one other : PlanLine) → WordsSay words one → WordsSay words other → one ≡ other
words_one words (Mirror k) (Mirror l) a b = ap Mirror (mirror_one words k l a b)
words_one words (Step s) (Step t) a b = ap Step (step_one words s t a b)
words_one words (Write v) (Write w) a b = ap Write (write_one words v w a b)
words_one words (Mirror k) (Step s) a b = absurd (omega (arith, mirror_letter words k a, step_letter words s b))
words_one words (Mirror k) (Write w) a b = absurd (omega (arith, mirror_letter words k a, write_letter words w b))
words_one words (Step s) (Mirror k) a b = absurd (omega (arith, step_letter words s a, mirror_letter words k b))
words_one words (Step s) (Write w) a b = absurd (omega (arith, step_letter words s a, write_letter words w b))
words_one words (Write w) (Mirror k) a b = absurd (omega (arith, write_letter words w a, mirror_letter words k b))
words_one words (Write w) (Step s) a b = absurd (omega (arith, write_letter words w a, step_letter words s b))

-- A line says at most one thing.
pub line_one : (line : List ℕ) (one other : PlanLine) → LineSays line one → LineSays line other → one ≡ other
line_one line one other a b = words_one _ one other a b

-- an empty word spells no part
empty_says : (said : PlanLine) → WordsSay ([] ∷ []) said → ⊥
unfolding letter
empty_says (Mirror k) a = omega (arith, mirror_letter ([] ∷ []) k a)
empty_says (Step s) a = omega (arith, step_letter ([] ∷ []) s a)
empty_says (Write w) a = omega (arith, write_letter ([] ∷ []) w a)

-- a line that spells a part is not empty
pub says_full : (line : List ℕ) (said : PlanLine) → LineSays line said → is_full line ≡ true
says_full [] said a = absurd (empty_says said a)
says_full (b ∷ bs) said a = refl
