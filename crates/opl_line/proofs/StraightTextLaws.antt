-- Raw characters and escapes at the front of a text.
use Rattle.std.proofs.Common.{◌≡◌, ℕ, ◌+◌, ◌-◌, ◌*◌, ◌/◌, ◌%◌, ◌<◌, ◌≤◌, Bool, true, false, ◌&&◌, ◌||◌, not, List, [], ◌∷◌, ◌++◌, length}
use Rattle.std.proofs.Common.{take, drop, get_or, ltb, refl, sym, ap, ◌∙◌, subst, arith, append_assoc, append-nil, length-append, ◌==◌}
use Rattle.std.proofs.lemmas.Bool.{and_parts, ltb-true}
use Rattle.std.proofs.lemmas.Bool.Decides.{nat_tests}
use Rattle.std.proofs.lemmas.Grind.{flat_map-append}
use Rattle.std.proofs.lemmas.List.{take-append-drop, take_rest}
use Rattle.std.proofs.lemmas.List.Folds.{list_any-append, list_all-append}
use Rattle.std.proofs.lemmas.Str.{encode_ascii, encodes-append}
use Rattle.std.proofs.Math.Seq.{take-add}
use Rattle.std.specs.List.{list_all}
use Rattle.std.specs.Str.{chars, IsUtf8}
use lib.Utf8.{encode, encodes, scalar, scalars}
use Rattle.osm_model.specs.Text.{is_text, has_zero}
use Rattle.osm_model.specs.Escape.{escape, escape_char, is_raw, is_raw_byte, IsPlain}
use Rattle.osm_model.proofs.EscapeLaws.{escape_char-raw, length-escape_char-some}
use Rattle.osm_model.proofs.TextLaws.{text_chars}
use Rattle.osm_model.proofs.RawLaws.{raw_of_two}
use Rattle.opl_line.specs.Straight.{AreAppended, AreRaw, IsRun}

-- the UTF-8 of a character of two bytes
pub two_bytes : (c : ℕ) → 0x80 ≤ c → c < 0x800 → encode c ≡ (192 + c / 64) ∷ (128 + c % 64) ∷ []
unfolding encode
two_bytes c low high = grind (arith, nat_tests)

-- the UTF-8 of a character of three bytes
pub three_bytes : (c : ℕ) → 0x800 ≤ c → c < 0x1_0000 → encode c ≡ (224 + c / 4096) ∷ (128 + c / 64 % 64) ∷ (128 + c % 64) ∷ []
unfolding encode
three_bytes c low high = grind (arith, nat_tests)

-- one raw character
raw_one : (c : ℕ) (bytes : List ℕ) → is_raw c ≡ true → encode c ≡ bytes → AreRaw bytes
raw_one c bytes raw e = record {
  characters = c ∷ [];
  spelled = sym (append-nil (encode c) ∙ e);
  raw = ap (λ b. b && true) raw;
}

raw_two : (lead next c : ℕ) → 0x80 ≤ c → c < 0x800 → is_raw c ≡ true → 192 + c / 64 ≡ lead → 128 + c % 64 ≡ next → AreRaw (lead ∷ next ∷ [])
raw_two lead next c low high raw first second = raw_one c (lead ∷ next ∷ []) raw (two_bytes c low high ∙ (λ i. first i ∷ second i ∷ []))

raw_latin : (c : ℕ) → 0xA1 ≤ c → c < 0xC0 → (c ≡ 0xAD → ⊥) → is_raw c ≡ true
raw_latin c low high other = grind (arith, nat_tests)

-- C2 and a byte from A1 to BF other than AD are a raw character.
pub latin_pair : (lead next : ℕ) → lead ≡ 0xC2 → 0xA1 ≤ next → next ≤ 0xBF → (next ≡ 0xAD → ⊥) → AreRaw (lead ∷ next ∷ [])
latin_pair lead next is low high other = raw_two lead next next (omega arith) (omega arith) (raw_latin next low (omega arith) other)
    (omega arith) (omega arith)

-- A byte from C3 to D7 and a continuation byte are a raw character.
pub other_pair : (lead next : ℕ) → 0xC3 ≤ lead → lead ≤ 0xD7 → 0x80 ≤ next → next ≤ 0xBF → AreRaw (lead ∷ next ∷ [])
other_pair lead next low high from to =
    let c = 64 * (lead - 192) + (next - 128) in
    raw_two lead next c (omega arith) (omega arith) (raw_of_two c (omega arith) (omega arith)) (omega arith) (omega arith)

raw_byte : (byte : ℕ) → is_raw_byte byte ≡ true → AreRaw (byte ∷ [])
raw_byte byte raw = let both = and_parts (is_raw byte) (ltb byte 0x80) raw in
    raw_one byte (byte ∷ []) both.0 (encode_ascii byte (ltb-true byte 0x80 both.1))

-- A raw byte at the front is a raw character.
pub raw_first : (bytes : List ℕ) → 0 < length bytes → is_raw_byte (get_or bytes 0 0) ≡ true → AreRaw (take 1 bytes)
raw_first [] some raw = absurd (omega arith)
raw_first (b ∷ bs) some raw = raw_byte b raw

pub raw_none : AreRaw []
raw_none = record { characters = []; spelled = refl; raw = refl }

raw_append : (front back : List ℕ) → AreRaw front → AreRaw back → AreRaw (front ++ back)
raw_append front back f b = record {
  characters = f.characters ++ b.characters;
  spelled = (λ i. f.spelled i ++ b.spelled i) ∙ sym (encodes-append f.characters b.characters);
  raw = list_all-append is_raw f.characters b.characters ∙ (λ i. f.raw i && b.raw i);
}

-- bytes that are raw characters by themselves
pub raw_bytes : (bytes : List ℕ) → list_all is_raw_byte bytes ≡ true → AreRaw bytes
raw_bytes [] raw = raw_none
raw_bytes (b ∷ bs) raw = let both = and_parts (is_raw_byte b) (list_all is_raw_byte bs) raw in
    raw_append (b ∷ []) bs (raw_byte b both.0) (raw_bytes bs both.1)

-- Raw characters after raw characters are raw characters together.
pub raw_next : (bytes : List ℕ) (n width : ℕ) → AreRaw (take n bytes) → AreRaw (take width (drop n bytes)) → AreRaw (take (n + width) bytes)
raw_next bytes n width front back = subst AreRaw (sym (take-add n width bytes))
    (raw_append (take n bytes) (take width (drop n bytes)) front back)

raw_scalar : (c : ℕ) → is_raw c ≡ true → scalar c ≡ true
raw_scalar c raw = grind (arith, nat_tests)

raw_scalars : (cs : List ℕ) → list_all is_raw cs ≡ true → scalars cs ≡ true
raw_scalars [] raw = refl
raw_scalars (c ∷ cs) raw = let both = and_parts (is_raw c) (list_all is_raw cs) raw in λ i. raw_scalar c both.0 i && raw_scalars cs both.1 i

raw_not_zero : (c : ℕ) → is_raw c ≡ true → (c == 0) ≡ false
raw_not_zero c raw = grind (arith, nat_tests)

raw_no_zero : (cs : List ℕ) → list_all is_raw cs ≡ true → has_zero cs ≡ false
raw_no_zero [] raw = refl
raw_no_zero (c ∷ cs) raw = let both = and_parts (is_raw c) (list_all is_raw cs) raw in
    λ i. raw_not_zero c both.0 i || raw_no_zero cs both.1 i

raw_escape : (cs : List ℕ) → list_all is_raw cs ≡ true → escape cs ≡ encodes cs
raw_escape [] raw = refl
raw_escape (c ∷ cs) raw = let both = and_parts (is_raw c) (list_all is_raw cs) raw in
    λ i. escape_char-raw c both.0 i ++ raw_escape cs both.1 i

-- Raw characters are UTF-8.
pub raw_utf8 : (bytes : List ℕ) → AreRaw bytes → IsUtf8 bytes
raw_utf8 bytes raw = (raw.characters, (raw_scalars raw.characters raw.raw, sym raw.spelled))

scalars_append : (cs ds : List ℕ) → scalars cs ≡ true → scalars ds ≡ true → scalars (cs ++ ds) ≡ true
scalars_append [] ds c d = d
scalars_append (x ∷ xs) ds c d = let both = and_parts (scalar x) (scalars xs) c in λ i. both.0 i && scalars_append xs ds both.1 d i

text_append : (cs ds : List ℕ) → is_text cs ≡ true → is_text ds ≡ true → is_text (cs ++ ds) ≡ true
text_append cs ds c d =
    let front = and_parts (scalars cs) (not (has_zero cs)) c in
    let back = and_parts (scalars ds) (not (has_zero ds)) d in
    let none : not (has_zero cs || has_zero ds) ≡ true = both_false (has_zero cs) (has_zero ds) front.1 back.1 in
    λ i. scalars_append cs ds front.0 back.0 i && (ap not (list_any-append (λ c. c == 0) cs ds) ∙ none) i
  where
    both_false : (a b : Bool) → not a ≡ true → not b ≡ true → not (a || b) ≡ true
    both_false true b x y = x
    both_false false b x y = y

-- the text that was read, and the bytes after it
pub record IsReadTo (bytes text rest : List ℕ) : Type 0 where
  pub spelled : bytes ≡ escape text ++ rest
  pub valid : is_text text ≡ true

pub read_nothing : (bytes text : List ℕ) → text ≡ [] → IsReadTo bytes text bytes
read_nothing bytes text e = record { spelled = ap (λ t. escape t ++ bytes) (sym e); valid = ap is_text e }

read_more : (bytes text rest more form after now : List ℕ) → IsReadTo bytes text rest → rest ≡ form ++ after → escape more ≡ form →
    is_text more ≡ true → now ≡ text ++ more → IsReadTo bytes now after
read_more bytes text rest more form after now so_far e is valid n = record {
  spelled =
      so_far.spelled ∙ ap (λ t. escape text ++ t) e ∙ sym (append_assoc (escape text) form after)
      ∙ ap (λ t. t ++ after) (ap (λ t. escape text ++ t) (sym is) ∙ sym (flat_map-append escape_char text more) ∙ ap escape (sym n));
  valid = ap is_text n ∙ text_append text more so_far.valid valid;
}

-- raw characters are written as themselves
pub raw_plain : (bytes : List ℕ) → AreRaw bytes → IsPlain bytes
raw_plain bytes are =
    ap escape (text_chars bytes are.characters (raw_utf8 bytes are) are.spelled) ∙ raw_escape are.characters are.raw ∙ sym are.spelled

-- raw characters after the text that was read are read, too
pub read_raw : (bytes text rest raw after now : List ℕ) → IsReadTo bytes text rest → AreRaw raw → rest ≡ raw ++ after →
    now ≡ text ++ chars raw → IsReadTo bytes now after
read_raw bytes text rest raw after now so_far are e n =
    let cs = are.characters in
    let same : chars raw ≡ cs = text_chars raw cs (raw_utf8 raw are) are.spelled in
    let valid : is_text cs ≡ true = (λ i. raw_scalars cs are.raw i && not (raw_no_zero cs are.raw i)) in
    read_more bytes text rest cs raw after now so_far e (raw_escape cs are.raw ∙ sym are.spelled) valid (n ∙ ap (λ t. text ++ t) same)

-- the raw characters at the front are read
pub read_front : (bytes text : List ℕ) (end : ℕ) → list_all is_raw_byte (take end bytes) ≡ true → text ≡ chars (take end bytes) →
    IsReadTo bytes text (take (length bytes - end) (drop end bytes))
read_front bytes text end raw e =
    let whole : bytes ≡ take end bytes ++ take (length bytes - end) (drop end bytes) = sym (take-append-drop end bytes)
    ∙ ap (λ t. take end bytes ++ t) (sym (take_rest bytes end)) in
    read_raw bytes [] bytes (take end bytes) (take (length bytes - end) (drop end bytes)) text (read_nothing bytes [] refl)
    (raw_bytes (take end bytes) raw) whole e

-- the characters appended after the text that was read are read, too
pub read_appended : (bytes text rest after now : List ℕ) → IsReadTo bytes text rest → AreAppended rest text now after →
    IsReadTo bytes now after
read_appended bytes text rest after now so_far are =
    read_more bytes text rest are.characters (escape are.characters) after now so_far are.spelled refl are.valid are.appended

-- one character
pub append_one : (bytes text after now : List ℕ) (c : ℕ) → bytes ≡ escape_char c ++ after → is_text (c ∷ []) ≡ true →
    now ≡ text ++ chars (encode c) → AreAppended bytes text now after
append_one bytes text after now c e valid n =
    let scalar_c = (and_parts (scalars (c ∷ [])) (not (has_zero (c ∷ []))) valid).0 in
    let whole : encodes (c ∷ []) ≡ encode c = append-nil (encode c) in
    let same : chars (encode c) ≡ c ∷ [] = text_chars (encode c) (c ∷ []) (c ∷ [], (scalar_c, whole)) (sym whole) in
    record {
      characters = c ∷ [];
      spelled = e ∙ ap (λ t. t ++ after) (sym (append-nil (escape_char c)));
      appended = n ∙ ap (λ t. text ++ t) same;
      valid = valid;
    }

-- no escape
pub run_none : (bytes : List ℕ) → IsRun bytes [] bytes
run_none bytes = record { characters = []; spelled = refl; encoded = refl; valid = refl }

-- one more escape
pub run_more : (bytes run rest after now : List ℕ) (c : ℕ) → IsRun bytes run rest → rest ≡ escape_char c ++ after →
    is_text (c ∷ []) ≡ true → now ≡ run ++ encode c → IsRun bytes now after
run_more bytes run rest after now c so_far e valid n =
    let cs = so_far.characters in
    let more : escape cs ++ escape_char c ≡ escape (cs ++ c ∷ []) =
    ap (λ t. escape cs ++ t) (sym (append-nil (escape_char c))) ∙ sym (flat_map-append escape_char cs (c ∷ [])) in
    let encoded : encodes cs ++ encode c ≡ encodes (cs ++ c ∷ []) =
    ap (λ t. encodes cs ++ t) (sym (append-nil (encode c))) ∙ sym (encodes-append cs (c ∷ [])) in
    record {
      characters = cs ++ c ∷ [];
      spelled =
          so_far.spelled ∙ ap (λ t. escape cs ++ t) e ∙ sym (append_assoc (escape cs) (escape_char c) after) ∙ ap (λ t. t ++ after) more;
      encoded = n ∙ ap (λ t. t ++ encode c) so_far.encoded ∙ encoded;
      valid = text_append cs (c ∷ []) so_far.valid valid;
    }

-- The characters of a run are UTF-8.
pub run_utf8 : (bytes run rest : List ℕ) → IsRun bytes run rest → IsUtf8 run
run_utf8 bytes run rest is =
    let both = and_parts (scalars is.characters) (not (has_zero is.characters)) is.valid in
    (is.characters, (both.0, sym is.encoded))

-- the characters of a run after a text
pub append_run : (bytes text run after now : List ℕ) → IsRun bytes run after → now ≡ text ++ chars run → AreAppended bytes text now after
append_run bytes text run after now is n =
    let same : chars run ≡ is.characters = text_chars run is.characters (run_utf8 bytes run after is) is.encoded in
    record {
      characters = is.characters;
      spelled = is.spelled;
      appended = n ∙ ap (λ t. text ++ t) same;
      valid = is.valid;
    }

-- one escape makes the rest shorter
pub shorter_by_one : (bytes after : List ℕ) (c : ℕ) → bytes ≡ escape_char c ++ after → length after < length bytes
shorter_by_one bytes after c e = omega (arith, length-escape_char-some c, ap length e ∙ length-append (escape_char c) after)
