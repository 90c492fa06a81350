-- The end of the raw characters of a text.
use Rattle.std.proofs.Common.{◌≡◌, ℕ, ◌+◌, ◌<◌, Bool, true, false, not, cond, eqb, ◌&&◌, List, [], ◌∷◌, ◌++◌, length, take, drop, get_or}
use Rattle.std.proofs.Common.{Some, None, Ok, position, refl, sym, ap, ◌∙◌, add-one}
use Rattle.std.proofs.lemmas.Bool.{and_parts, not-true}
use Rattle.std.proofs.lemmas.List.{take-append-drop}
use Rattle.std.proofs.Math.Seq.{drop-cons}
use Rattle.std.specs.List.{list_all}
use Rattle.std.specs.Option.{option_map, ok_or}
use Rattle.std.specs.Str.{chars}
use Rattle.opl_line.specs.declared.bytes.cut.Delimiter.TheVariants.{Percents}
use Rattle.opl_line.specs.Delimiter.{is_end, with_byte, split_first}
use Rattle.opl_line.specs.declared.reason.OplReason.TheVariants.{BadText}
use Rattle.opl_line.specs.Text.{is_literal, text_from, text_of_pieces}
use Rattle.opl_line.proofs.CutLaws.{split_at, split_nowhere, split_front, split_never}
use Rattle.opl_line.proofs.ContentLaws.{all_weaker, raw_no_percent}
use Rattle.opl_line.proofs.TextLaws.{all_read}

-- The byte must be escaped.
abbrev pub is_other : ℕ → Bool
is_other b = not (is_literal b)

twice : (b : Bool) → not (not b) ≡ true → b ≡ true
twice true e = refl
twice false e = cc

-- the text before the first other character is raw
front_raw : (bytes : List ℕ) → list_all is_literal (split_first is_other bytes).0 ≡ true
front_raw [] = refl
front_raw (b ∷ bs) =
    elim (is_literal b) as (λ t. is_literal b ≡ t →
    list_all is_literal (cond (not t) ([], Some bs) (with_byte b (split_first is_other bs))).0 ≡ true) [
      | true ↦ λ is. λ i. is i && front_raw bs i
      | false ↦ λ is. refl
    ] refl

-- the first character that isn't raw
pub record RawEnd (bytes : List ℕ) (n : ℕ) : Type 0 where
  pub within : n < length bytes
  pub raw : list_all is_literal (take n bytes) ≡ true
  pub other : is_literal (get_or bytes n 0) ≡ false
  pub whole : bytes ≡ take n bytes ++ get_or bytes n 0 ∷ drop (n + 1) bytes

-- The first byte that isn't raw is where the raw text ends.
pub raw_end : (bytes : List ℕ) (n : ℕ) → position is_other bytes ≡ Some n → RawEnd bytes n
raw_end bytes n found =
    let s = split_at is_other bytes n found in
    let within = s.within in
    record {
      within = within;
      raw = sym (ap (λ parts. list_all is_literal parts.0) s.split) ∙ front_raw bytes;
      other = not-true (is_literal (get_or bytes n 0)) s.passes;
      whole = sym (take-append-drop n bytes) ∙ ap (λ t. take n bytes ++ t) (rw (add-one, drop-cons bytes n 0 within) refl);
    }

-- a percent sign after raw characters ends the first piece
pub percent_ends : (bytes : List ℕ) (n : ℕ) → RawEnd bytes n → get_or bytes n 0 ≡ 37 →
    split_first (is_end Percents) bytes ≡ (take n bytes, Some (drop (n + 1) bytes))
percent_ends bytes n end is =
    ap (split_first (is_end Percents)) (end.whole ∙ ap (λ b. take n bytes ++ b ∷ drop (n + 1) bytes) is)
    ∙ split_front (is_end Percents) (take n bytes) (drop (n + 1) bytes) 37
    (all_weaker is_literal (λ b. not (eqb b 37)) raw_no_percent (take n bytes) end.raw) refl

-- a byte that must be escaped and isn't a percent sign is in the first piece
unraw : (front rest : List ℕ) (b : ℕ) → list_all is_literal front ≡ true → is_literal b ≡ false → eqb b 37 ≡ false →
    list_all is_literal (split_first (is_end Percents) (front ++ b ∷ rest)).0 ≡ false
unraw [] rest b all other apart =
    ap (λ t. list_all is_literal (cond t ([], Some rest) (with_byte b (split_first (is_end Percents) rest))).0) apart
    ∙ ap (λ t. t && list_all is_literal (split_first (is_end Percents) rest).0) other
unraw (x ∷ xs) rest b all other apart =
    let parts = and_parts (is_literal x) (list_all is_literal xs) all in
    ap (λ t. list_all is_literal (cond t ([], Some (xs ++ b ∷ rest))
    (with_byte x (split_first (is_end Percents) (xs ++ b ∷ rest)))).0) (not-true (eqb x 37) (raw_no_percent x parts.0))
    ∙ (λ i. parts.0 i && unraw xs rest b parts.1 other apart i)

-- If another byte than a percent sign ends the raw characters, the first piece isn't raw.
pub other_ends : (bytes : List ℕ) (n : ℕ) → RawEnd bytes n → eqb (get_or bytes n 0) 37 ≡ false →
    list_all is_literal (split_first (is_end Percents) bytes).0 ≡ false
other_ends bytes n end apart = ap (λ t. list_all is_literal (split_first (is_end Percents) t).0) end.whole
    ∙ unraw (take n bytes) (drop (n + 1) bytes) (get_or bytes n 0) end.raw end.other apart

-- all bytes are raw, so the text is its own first piece
abbrev pub AllRaw : List ℕ → Type 0
AllRaw bytes = (list_all is_literal bytes ≡ true) × (split_first (is_end Percents) bytes ≡ (bytes, None))

pub raw_nowhere_cut : (bytes : List ℕ) → list_all is_literal bytes ≡ true → AllRaw bytes
raw_nowhere_cut bytes raw = (
  raw,
  split_never (is_end Percents) bytes
      (all_weaker is_literal (λ b. not (eqb b 37)) raw_no_percent bytes raw),
)

-- A text without any other byte is raw.
pub all_raw : (bytes : List ℕ) → position is_other bytes ≡ None → AllRaw bytes
all_raw bytes none = raw_nowhere_cut bytes (sym (ap (λ parts. list_all is_literal parts.0) (split_nowhere is_other bytes none))
    ∙ front_raw bytes)

-- the text that raw characters spell
pub raw_text : (bytes : List ℕ) → list_all is_literal bytes ≡ true →
    ok_or (option_map chars (text_of_pieces (bytes, None))) BadText ≡ Ok (chars bytes)
raw_text bytes raw =
    ap (λ t. ok_or (option_map chars (cond t (text_from bytes []) None)) BadText) raw
    ∙ ap (λ text. ok_or (option_map chars text) BadText) (all_read bytes [] refl)
