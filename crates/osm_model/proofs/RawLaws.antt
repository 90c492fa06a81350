-- The raw characters at the front of a text.
use Rattle.std.proofs.Common.{◌≡◌, ◌⊎◌, ℕ, ◌+◌, ◌/◌, ◌%◌, ◌<◌, ◌≤◌, true}
use Rattle.std.proofs.Common.{false, cond, ltb, leb, ◌&&◌, List, [], ◌∷◌, ◌++◌, length, get_or, take, drop, refl, sym, ap, ◌∙◌, subst}
use Rattle.std.proofs.Common.{arith, append_assoc, if◌then◌else◌, ⊎_elim, add_assoc, ◌≢◌}
use Rattle.std.proofs.lemmas.Bool.Decides.{nat_tests}
use Rattle.std.proofs.lemmas.Bool.{ltb-true, ltb-false, leb-true, and_parts, cases_lt}
use Rattle.std.proofs.lemmas.List.{append-nil, take_all, take-append-drop, take_at, length-append, drop_all, length-drop, length-take-le}
use Rattle.std.proofs.lemmas.List.Sums.{take_while-cons}
use Rattle.std.proofs.lemmas.Str.{chars-nil, chars_past_char, drop_past_char, IsUtf8-past_char, length-encode, len_utf8_ascii}
use Rattle.std.specs.Char.{len_utf8}
use Rattle.std.specs.Int.{is_in_range}
use Rattle.std.specs.Str.{chars, IsUtf8}
use Rattle.std.specs.List.{take_while}
use lib.Utf8.{encode, encodes}
use Rattle.osm_model.specs.Escape.{is_raw, escape, raw_width, raw_length, IsPlain}
use Rattle.osm_model.proofs.EscapeLaws.{escape_char-raw}

-- The width of a text's first character, from its first two bytes. A character of one byte is that byte. A character of two bytes of which
-- the first is 0xC2 has the code of the second. All characters of two bytes of which the first is 0xC3 to 0xD7 are raw.
pub record IsLead (width lead next len : ℕ) : Type 0 where
  pub byte : lead < 0x80 → width ≡ (if is_raw lead then 1 else 0)
  pub latin : lead ≡ 0xC2 → (1 < len) × (0x80 ≤ next) × (next < 0xC0) × (width ≡ (if is_raw next then 2 else 0))
  pub two : 0xC2 < lead → lead ≤ 0xD7 → width ≡ 2
  pub other : 0x80 ≤ lead → (lead < 0xC2) ⊎ (0xD7 < lead) → width ≡ 0

lead_of_one : (c next len : ℕ) → c < 0x80 → IsLead (raw_width (c ∷ [])) c next len
lead_of_one c next len low = record {
  byte = λ _. rw (len_utf8_ascii c low) refl;
  latin = λ e. absurd (omega arith);
  two = λ h k. absurd (omega arith);
  other = λ h k. absurd (omega arith);
}

len_of_two : (c : ℕ) → 0x80 ≤ c → c < 0x800 → len_utf8 c ≡ 2
len_of_two c low high = grind (arith, nat_tests)

pub raw_of_two : (c : ℕ) → 0xC0 ≤ c → c < 0x600 → is_raw c ≡ true
raw_of_two c low high = grind (arith, nat_tests)

raw_not : (c : ℕ) → 0x600 ≤ c → is_raw c ≡ false
raw_not c low = grind (arith, nat_tests)

lead_of_two : (c len : ℕ) → 0x80 ≤ c → c < 0x800 → 1 < len → IsLead (raw_width (c ∷ [])) (192 + c / 64) (128 + c % 64) len
lead_of_two c len low high more = record {
  byte = λ h. absurd (omega arith);
  latin = λ e. (more, omega arith, omega arith, (let same : 128 + c % 64 ≡ c = omega arith in rw (len_of_two c low high, same) refl));
  two = λ h k. rw (raw_of_two c (omega arith) (omega arith), len_of_two c low high) refl;
  other = λ h k. rw (raw_not c (⊎_elim (λ below. absurd (omega arith)) (λ above. omega arith) k)) refl;
}

lead_of_more : (c lead next len : ℕ) → 0x800 ≤ c → 224 ≤ lead → IsLead (raw_width (c ∷ [])) lead next len
lead_of_more c lead next len low high = record {
  byte = λ h. absurd (omega arith);
  latin = λ e. absurd (omega arith);
  two = λ h k. absurd (omega arith);
  other = λ h k. rw (raw_not c (omega arith)) refl;
}

lead_of : (c : ℕ) (rest : List ℕ) → IsLead (raw_width (c ∷ [])) (get_or (encode c ++ rest) 0 0) (get_or (encode c ++ rest) 1 0)
    (length (encode c ++ rest))
unfolding encode
lead_of c rest =
    elim (ltb c 128) as (λ a. ltb c 128 ≡ a →
    let bs = cond a (c ∷ []) (cond (ltb c 2048) ((192 + c / 64) ∷ (128 + c % 64) ∷ [])
    (cond (ltb c 65536) ((224 + c / 4096) ∷ (128 + c / 64 % 64) ∷ (128 + c % 64) ∷ [])
    ((240 + c / 262144) ∷ (128 + c / 4096 % 64) ∷ (128 + c / 64 % 64) ∷ (128 + c % 64) ∷ []))) ++ rest in
    IsLead (raw_width (c ∷ [])) (get_or bs 0 0) (get_or bs 1 0) (length bs)) [
      | true ↦ λ e. lead_of_one c _ _ (ltb-true c 128 e)
      | false ↦ λ e. elim (ltb c 2048) as (λ a. ltb c 2048 ≡ a →
          let bs = cond a ((192 + c / 64) ∷ (128 + c % 64) ∷ [])
          (cond (ltb c 65536) ((224 + c / 4096) ∷ (128 + c / 64 % 64) ∷ (128 + c % 64) ∷ [])
          ((240 + c / 262144) ∷ (128 + c / 4096 % 64) ∷ (128 + c / 64 % 64) ∷ (128 + c % 64) ∷ [])) ++ rest in
          IsLead (raw_width (c ∷ [])) (get_or bs 0 0) (get_or bs 1 0) (length bs)) [
            | true ↦ λ f. lead_of_two c _ (ltb-false c 128 e) (ltb-true c 2048 f) (omega arith)
            | false ↦ λ f. elim (ltb c 65536) as (λ a.
                let bs = cond a ((224 + c / 4096) ∷ (128 + c / 64 % 64) ∷ (128 + c % 64) ∷ [])
                ((240 + c / 262144) ∷ (128 + c / 4096 % 64) ∷ (128 + c / 64 % 64) ∷ (128 + c % 64) ∷ []) ++ rest in
                IsLead (raw_width (c ∷ [])) (get_or bs 0 0) (get_or bs 1 0) (length bs)) [
                  | true ↦ lead_of_more c _ _ _ (ltb-false c 2048 f) (omega arith)
                  | false ↦ lead_of_more c _ _ _ (ltb-false c 2048 f) (omega arith)
                ]
          ] refl
    ] refl

-- the first character of a text that is not empty
pub record Begins (bs : List ℕ) : Type 0 where
  pub c : ℕ
  pub rest : List ℕ
  pub is : bs ≡ encode c ++ rest
  pub chars_are : chars bs ≡ c ∷ chars rest
  pub rest_utf8 : IsUtf8 rest

begins_some : (bs cs : List ℕ) → 0 < length bs → IsUtf8 bs → encodes cs ≡ bs → Begins bs
begins_some bs [] some utf8 e = absurd (omega (arith, ap length e))
begins_some bs (c ∷ cs) some utf8 e =
    record {
      c = c;
      rest = encodes cs;
      is = sym e;
      chars_are = chars_past_char bs (encodes cs) c utf8 (sym e);
      rest_utf8 = IsUtf8-past_char bs (encodes cs) c utf8 (sym e);
    }

pub begins : (bs : List ℕ) → 0 < length bs → IsUtf8 bs → Begins bs
begins bs some utf8 = begins_some bs utf8.0 some utf8 utf8.1.1

lead_at : (bs cs rest : List ℕ) (c : ℕ) → bs ≡ encode c ++ rest → chars bs ≡ c ∷ cs →
    IsLead (raw_width (chars bs)) (get_or bs 0 0) (get_or bs 1 0) (length bs)
lead_at bs cs rest c is chars_are =
    let P : List ℕ → Type 0 = λ xs. IsLead (raw_width (c ∷ [])) (get_or xs 0 0) (get_or xs 1 0) (length xs) in
    let width : raw_width (c ∷ []) ≡ raw_width (chars bs) = ap raw_width (sym chars_are) in
    subst (λ w. IsLead w (get_or bs 0 0) (get_or bs 1 0) (length bs)) width (subst P (sym is) (lead_of c rest))

-- The first two bytes determine how many bytes the first character takes, if it is raw.
pub lead : (bs : List ℕ) → 0 < length bs → IsUtf8 bs → IsLead (raw_width (chars bs)) (get_or bs 0 0) (get_or bs 1 0) (length bs)
lead bs some utf8 =
    let first = begins bs some utf8 in
    lead_at bs (chars first.rest) first.rest first.c first.is first.chars_are

-- the raw characters at the front of a text, up to an offset where the search can continue
pub record IsPlainTo (bs : List ℕ) (n : ℕ) : Type 0 where
  pub within : n ≤ length bs
  pub utf8 : IsUtf8 (drop n bs)
  pub sum : raw_length (chars bs) ≡ n + raw_length (chars (drop n bs))
  pub raw : escape (chars bs) ≡ take n bs ++ escape (chars (drop n bs))

raw_length-raw : (c : ℕ) (cs : List ℕ) → is_raw c ≡ true → raw_length (c ∷ cs) ≡ len_utf8 c + raw_length cs
raw_length-raw c cs raw =
    ap (λ t. length (encodes t)) (take_while-cons is_raw c cs ∙ ap (λ b. cond b (c ∷ take_while is_raw cs) []) raw)
    ∙ length-append (encode c) (encodes (take_while is_raw cs)) ∙ ap (λ n. n + raw_length cs) (length-encode c)

-- a character that has a width is raw
raw_from_width : (c : ℕ) (cs : List ℕ) → (raw_width (c ∷ cs) ≡ 0 → ⊥) → is_raw c ≡ true
raw_from_width c cs some =
    elim (is_raw c) as (λ b. (cond b (len_utf8 c) 0 ≡ 0 → ⊥) → b ≡ true) [ true ↦ λ _. refl | false ↦ λ h. absurd (h refl) ] some

-- one raw character more
next_raw : (bs rest : List ℕ) (n c : ℕ) → IsPlainTo bs n → drop n bs ≡ encode c ++ rest → chars (drop n bs) ≡ c ∷ chars rest → IsUtf8 rest →
    is_raw c ≡ true →
    IsPlainTo bs (n + len_utf8 c)
next_raw bs rest n c so_far is chars_are utf8 raw =
    let after : drop (n + len_utf8 c) bs ≡ rest = drop_past_char bs rest n c is in
    let whole : bs ≡ take n bs ++ (encode c ++ rest) = sym (take-append-drop n bs) ∙ ap (λ t. take n bs ++ t) is in
    let len : length (take n bs ++ encode c) ≡ n + len_utf8 c = length-append (take n bs) (encode c)
    ∙ (λ i. length-take-le n bs so_far.within i + length-encode c i) in
    let front : take (n + len_utf8 c) bs ≡ take n bs ++ encode c =
    ap (take (n + len_utf8 c)) (whole ∙ sym (append_assoc (take n bs) (encode c) rest))
    ∙ take_at (take n bs ++ encode c) rest (n + len_utf8 c) len in
    let fits : length bs ≡ n + (len_utf8 c + length rest) =
    ap length whole ∙ length-append (take n bs) (encode c ++ rest)
    ∙ (λ i. length-take-le n bs so_far.within i + (length-append (encode c) rest ∙ ap (λ k. k + length rest) (length-encode c)) i) in
    record {
      within = omega arith;
      utf8 = subst IsUtf8 (sym after) utf8;
      sum = so_far.sum ∙ ap (λ t. n + raw_length t) chars_are ∙ ap (λ k. n + k) (raw_length-raw c (chars rest) raw)
          ∙ sym (add_assoc n (len_utf8 c) (raw_length (chars rest)))
          ∙ ap (λ t. n + len_utf8 c + raw_length (chars t)) (sym after);
      raw = so_far.raw ∙ ap (λ t. take n bs ++ escape t) chars_are
          ∙ ap (λ t. take n bs ++ (t ++ escape (chars rest))) (escape_char-raw c raw)
          ∙ sym (append_assoc (take n bs) (encode c) (escape (chars rest)))
          ∙ (λ i. sym front i ++ escape (chars (sym after i)));
    }

-- A raw character after raw characters extends them.
pub plain_more : (bs : List ℕ) (n width : ℕ) → IsPlainTo bs n → n < length bs → width ≡ raw_width (chars (drop n bs)) → (width ≡ 0 → ⊥) →
    IsPlainTo bs (n + width)
plain_more bs n width so_far more is some =
    let first = begins (drop n bs) (omega (arith, length-drop n bs)) so_far.utf8 in
    let same : width ≡ raw_width (first.c ∷ chars first.rest) = is ∙ ap raw_width first.chars_are in
    let raw = raw_from_width first.c (chars first.rest) (λ e. some (same ∙ e)) in
    let all : width ≡ len_utf8 first.c = same ∙ ap (λ b. cond b (len_utf8 first.c) 0) raw in
    subst (λ k. IsPlainTo bs (n + k)) (sym all) (next_raw bs first.rest n first.c so_far first.is first.chars_are first.rest_utf8 raw)

-- Raw characters up to the end of a text are all of its raw characters.
pub plain_all : (bs : List ℕ) (n : ℕ) → IsPlainTo bs n → length bs ≤ n → n ≡ raw_length (chars bs)
plain_all bs n so_far all =
    let rest : raw_length (chars (drop n bs)) ≡ 0 = ap (λ t. raw_length (chars t)) (drop_all n bs all) ∙ ap raw_length chars-nil in
    omega (arith, rest, so_far.sum)

-- a text whose raw characters reach its end is plain
pub plain_whole : (bs : List ℕ) (n : ℕ) → escape (chars bs) ≡ take n bs ++ escape (chars (drop n bs)) → length bs ≤ n → IsPlain bs
plain_whole bs n e all =
    let none : escape (chars (drop n bs)) ≡ [] = ap (λ t. escape (chars t)) (drop_all n bs all) ∙ ap escape chars-nil in
    e ∙ (λ i. take_all n bs all i ++ none i) ∙ append-nil bs

-- a byte that is a raw character by itself has width 1
pub width-byte : (width lead next len : ℕ) → IsLead width lead next len → (is_raw lead && ltb lead 0x80) ≡ true → 1 ≡ width
width-byte width lead next len is e = let both = and_parts (is_raw lead) (ltb lead 0x80) e in
    sym (is.byte (ltb-true lead 0x80 both.1) ∙ rw both.0 refl)

-- A character whose first byte is C3 to D7 takes two bytes.
pub width-lead : (width lead next len : ℕ) → IsLead width lead next len → is_in_range 0xC3 0xD7 lead ≡ true → 2 ≡ width
width-lead width lead next len is e = let both = and_parts (leb 0xC3 lead) (leb lead 0xD7) e in let low = leb-true 0xC3 lead both.0 in
    sym (is.two (omega arith) (leb-true lead 0xD7 both.1))

-- A character with any other first byte, which is neither raw itself nor C2, isn't raw.
pub width-other : (width lead next len : ℕ) → IsLead width lead next len → (is_raw lead && ltb lead 0x80) ≡ false →
    is_in_range 0xC3 0xD7 lead ≡ false → lead ≢ 0xC2 → 0 ≡ width
width-other width lead next len is no_byte no_lead no_latin = sym (⊎_elim
    (λ low. is.byte low ∙ (let no : is_raw lead ≡ false = grind (arith, nat_tests) in rw no refl))
    (λ high. is.other high (grind (arith, nat_tests)))
    (cases_lt lead 0x80))
