-- Strings are read exactly if their bytes spell them.
use Rattle.std.proofs.Common.{◌≡◌, ℕ, suc, ◌+◌, ◌<◌, inl, inr, true, false, not, eqb, ltb, cond, List, [], ◌∷◌, ◌++◌, length, take, drop}
use Rattle.std.proofs.Common.{refl, ap, sym, ◌∙◌, arith, Result, Ok, Some, None, subst, length-append, if◌then◌else◌}
use Rattle.std.specs.List.{prefix_len}
use Rattle.std.proofs.lemmas.Bool.{lt-ltb, and_parts}
use Rattle.std.proofs.lemmas.Bool.Decides.{nat_tests}
use Rattle.std.proofs.Math.Seq.{take-append_seam, drop-append-add}
use Rattle.o5_codec.specs.declared.reason.O5Reason.{O5Reason}
use Rattle.o5_codec.specs.declared.strings.Form.{Form}
use Rattle.o5_codec.specs.declared.strings.Form.TheVariants.{Pair, Single}
use Rattle.o5_codec.specs.declared.read.strings.StringRef.{StringRef}
use Rattle.o5_codec.specs.declared.read.strings.StringRef.TheVariants.{Inline, Reference}
use Rattle.o5_codec.specs.Results.{and_then}
use Rattle.o5_codec.specs.Entry.{EntryStrings}
use Rattle.o5_codec.specs.Table.{table_with, entry_at}
use Rattle.o5_codec.specs.Number.{number_at}
use Rattle.o5_codec.specs.StringPair.{split_at_end, string_at, entry_of, inline_at, spelled_at, strings_of, table_after, strings_at}
use Rattle.o5_codec.specs.Sound.{has_no_zero}
use Rattle.o5_codec.specs.Spelling.{NumberAtFront, StringAtFront, InlineAtFront, StringsAtFront}
use Rattle.o5_codec.proofs.ResultSteps.{read_next}
use Rattle.o5_codec.proofs.SoundStrings.{first_ok, string_ok, referred_ok}
use Rattle.o5_codec.proofs.NumberLaws.{number_found, number_only, number_shorter}

abbrev before_zero : List ℕ → ℕ
before_zero bytes = prefix_len (λ b. not (eqb b 0)) bytes

shift : (n m : ℕ) → ltb (1 + n) (suc m) ≡ true → ltb n m ≡ true
shift n m h = grind (arith, nat_tests)

split_at_zero : (bytes : List ℕ) → ltb (before_zero bytes) (length bytes) ≡ true →
    bytes ≡ take (before_zero bytes) bytes ++ 0 ∷ drop (before_zero bytes + 1) bytes
split_at_zero [] h = cc
split_at_zero (b ∷ bytes) h =
    elim (eqb b 0) as (λ t. eqb b 0 ≡ t → ltb (cond (not t) (1 + before_zero bytes) 0) (length (b ∷ bytes)) ≡ true →
    b ∷ bytes ≡ take (cond (not t) (1 + before_zero bytes) 0) (b ∷ bytes) ++ 0
    ∷ drop (cond (not t) (1 + before_zero bytes) 0 + 1) (b ∷ bytes)) [
      | true ↦ λ e g. (let is : b ≡ 0 = grind (arith, nat_tests) in ap (λ c. c ∷ bytes) is)
      | false ↦ λ e g. (let one : 1 + before_zero bytes ≡ suc (before_zero bytes) = omega arith in
          let inside : ltb (before_zero bytes) (length bytes) ≡ true = shift (before_zero bytes) (length bytes) g in
          let more : suc (before_zero bytes) + 1 ≡ suc (before_zero bytes + 1) = omega arith in
          rw (one, more) (ap (λ xs. b ∷ xs) (split_at_zero bytes inside)))
    ] refl h

zero_after : (string rest : List ℕ) → has_no_zero string ≡ true → before_zero (string ++ 0 ∷ rest) ≡ length string
zero_after [] rest h = refl
zero_after (b ∷ string) rest h =
    let both = and_parts (not (eqb b 0)) (has_no_zero string) h in
    rw both.0 (let e = zero_after string rest both.1 in omega arith)

pub string_found : (bytes : List ℕ) (x : List ℕ × List ℕ) → string_at bytes ≡ Ok x → StringAtFront bytes x
unfolding string_at
string_found bytes x h = (
  string_ok bytes x h,
  elim (ltb (before_zero bytes) (length bytes)) as (λ t. ltb (before_zero bytes) (length bytes) ≡ t →
      split_at_end bytes (cond t (Some (before_zero bytes)) None) ≡ Ok x → bytes ≡ x.0 ++ 0 ∷ x.1) [
        | true ↦ λ t e. (let same : (take (before_zero bytes) bytes, drop (before_zero bytes + 1) bytes) ≡ x = cc in
            split_at_zero bytes t ∙ ap (λ y. y.0 ++ 0 ∷ y.1) same)
        | false ↦ λ t e. cc
      ] refl h,
)

string_there : (string rest : List ℕ) → has_no_zero string ≡ true → string_at (string ++ 0 ∷ rest) ≡ Ok (string, rest)
unfolding string_at
string_there string rest h =
    let place : before_zero (string ++ 0 ∷ rest) ≡ length string = zero_after string rest h in
    let lengths : length (string ++ 0 ∷ rest) ≡ length string + length (0 ∷ rest) = length-append string (0 ∷ rest) in
    let inside : ltb (length string) (length (string ++ 0 ∷ rest)) ≡ true =
    lt-ltb (length string) (length (string ++ 0 ∷ rest)) (omega arith) in
    ap (λ n. split_at_end (string ++ 0 ∷ rest) (cond (ltb n (length (string ++ 0 ∷ rest))) (Some n) None)) place
    ∙ rw (inside, take-append_seam string (0 ∷ rest), drop-append-add string (0 ∷ rest) 1) refl

pub string_only : (bytes : List ℕ) (x : List ℕ × List ℕ) → StringAtFront bytes x → string_at bytes ≡ Ok x
string_only bytes x s = ap string_at s.1 ∙ string_there x.0 x.1 s.0

string_shorter : (bytes : List ℕ) (x : List ℕ × List ℕ) → StringAtFront bytes x → length x.1 < length bytes
string_shorter bytes x s = rw s.1 (omega (arith, length-append x.0 (0 ∷ x.1)))

-- If inline strings are read, the bytes spell them.
pub inline_found : (form : Form) (bytes : List ℕ) (x : EntryStrings × List ℕ) → inline_at form bytes ≡ Ok x → InlineAtFront form bytes x
unfolding inline_at
inline_found Pair bytes x h =
    let f = first_ok (string_at bytes) _ x h in
    let g = first_ok (string_at f.0.1) _ x f.2 in
    let same : (entry_of f.0.0 g.0.0, g.0.1) ≡ x = cc in
    let P : EntryStrings × List ℕ → Type 0 = λ y. InlineAtFront Pair bytes y in
    subst P same (f.0.1, string_found bytes f.0 f.1, string_found f.0.1 g.0 g.1)
inline_found Single bytes x h =
    let f = first_ok (string_at bytes) _ x h in
    let same : (entry_of f.0.0 [], f.0.1) ≡ x = cc in
    let P : EntryStrings × List ℕ → Type 0 = λ y. InlineAtFront Single bytes y in
    subst P same (string_found bytes f.0 f.1, refl)

-- Inline strings that are spelled are read.
pub inline_only : (form : Form) (bytes : List ℕ) (x : EntryStrings × List ℕ) → InlineAtFront form bytes x → inline_at form bytes ≡ Ok x
unfolding inline_at
inline_only Pair bytes x s = read_next (string_at bytes) _ _ (string_only bytes (x.0.first, s.0) s.1)
    ∙ read_next (string_at s.0) _ _ (string_only s.0 (x.0.second, x.1) s.2)
inline_only Single bytes x s = read_next (string_at bytes) _ _ (string_only bytes (x.0.first, x.1) s.0)
    ∙ ap (λ second. Ok (entry_of x.0.first second, x.1)) (sym s.1)

inline_shorter : (form : Form) (bytes : List ℕ) (x : EntryStrings × List ℕ) → InlineAtFront form bytes x → length x.1 < length bytes
inline_shorter Pair bytes x s = omega (arith, string_shorter bytes (x.0.first, s.0) s.1, string_shorter s.0 (x.0.second, x.1) s.2)
inline_shorter Single bytes x s = string_shorter bytes (x.0.first, x.1) s.0

inline_value : (table : List EntryStrings) (x : StringRef) (e f : EntryStrings) → x ≡ Inline e → strings_of table x ≡ Ok f → e ≡ f
inline_value table x e f is h = (let same : strings_of table (Inline e) ≡ Ok f = ap (strings_of table) (sym is) ∙ h in cc)

referred_value : (table : List EntryStrings) (x : StringRef) (n : ℕ) (e : EntryStrings) → x ≡ Reference n → strings_of table x ≡ Ok e →
    entry_at table n ≡ Some e
referred_value table x n e is h = referred_ok (entry_at table n) e (ap (strings_of table) (sym is) ∙ h)

-- If strings are read, the bytes spell them.
pub strings_found : (form : Form) (table : List EntryStrings) (bytes : List ℕ) (x : EntryStrings × List EntryStrings × List ℕ) →
    strings_at form table bytes ≡ Ok x → StringsAtFront form table bytes x
unfolding strings_at spelled_at
strings_found form table [] x h = cc
strings_found form table (b ∷ bytes) x h =
    let inline : Result (StringRef × List ℕ) O5Reason = and_then (inline_at form bytes) (λ y. Ok (Inline y.0, y.1)) in
    let reference : Result (StringRef × List ℕ) O5Reason = and_then (number_at (b ∷ bytes)) (λ y. Ok (Reference y.0, y.1)) in
    let f = first_ok (if eqb b 0 then inline else reference)
    (λ y. and_then (strings_of table y.0) (λ e. Ok (e, table_after y.0 table, y.1))) x h in
    let k = first_ok (strings_of table f.0.0) _ x f.2 in
    let same : (k.0, table_after f.0.0 table, f.0.1) ≡ x = cc in
    let P : EntryStrings × List EntryStrings × List ℕ → Type 0 = λ y. StringsAtFront form table (b ∷ bytes) y in
    subst P same (elim (eqb b 0) as (λ t. eqb b 0 ≡ t →
    (if t then and_then (inline_at form bytes) (λ y. Ok (Inline y.0, y.1))
    else and_then (number_at (b ∷ bytes)) (λ y. Ok (Reference y.0, y.1))) ≡ Ok f.0 →
    StringsAtFront form table (b ∷ bytes) (k.0, table_after f.0.0 table, f.0.1)) [
      | true ↦ λ t e. (let g = first_ok (inline_at form bytes) _ f.0 e in
          let made : (Inline g.0.0, g.0.1) ≡ f.0 = cc in
          let kind : f.0.0 ≡ Inline g.0.0 = ap (λ y. y.0) (sym made) in
          let rest : g.0.1 ≡ f.0.1 = ap (λ y. y.1) made in
          let entry : g.0.0 ≡ k.0 = inline_value table f.0.0 g.0.0 k.0 kind k.1 in
          let zero_byte : b ≡ 0 = grind (arith, nat_tests) in
          let Q : EntryStrings × List ℕ → Type 0 = λ y. InlineAtFront form bytes y in
          let both : g.0 ≡ (k.0, f.0.1) = (λ i. (entry i, rest i)) in
          inl (
            bytes,
            ap (λ c. c ∷ bytes) zero_byte,
            subst Q both (inline_found form bytes g.0 g.1),
            ap (λ y. table_after y table) kind
                ∙ ap (λ y. table_with y table) entry,
          ))
      | false ↦ λ t e. (let g = first_ok (number_at (b ∷ bytes)) _ f.0 e in
          let made : (Reference g.0.0, g.0.1) ≡ f.0 = cc in
          let kind : f.0.0 ≡ Reference g.0.0 = ap (λ y. y.0) (sym made) in
          let rest : g.0.1 ≡ f.0.1 = ap (λ y. y.1) made in
          let Q : List ℕ → Type 0 = λ r. NumberAtFront (b ∷ bytes) (g.0.0, r) in
          inr (
            g.0.0,
            subst Q rest (number_found (b ∷ bytes) g.0 g.1),
            referred_value table f.0.0 g.0.0 k.0 kind k.1,
            ap (λ y. table_after y table) kind,
          ))
    ] refl f.1)

zero_number : (bytes : List ℕ) (x : ℕ × List ℕ) → NumberAtFront (0 ∷ bytes) x → x.0 ≡ 0
zero_number bytes x ([], s, e) = absurd s.groups
zero_number bytes x (b ∷ [], s, e) = s.groups.1 ∙ (let same : 0 ∷ bytes ≡ b ∷ x.1 = e in cc)
zero_number bytes x (b ∷ c ∷ front, s, e) = (let same : 0 ≡ b = (let lists : 0 ∷ bytes ≡ b ∷ c ∷ front ++ x.1 = e in cc) in
    absurd (omega (arith, s.groups.0)))

strings_there : (form : Form) (table : List EntryStrings) (n : ℕ) (bytes : List ℕ) (x : EntryStrings × List EntryStrings × List ℕ) →
    NumberAtFront bytes (n, x.2) → entry_at table n ≡ Some x.0 → x.1 ≡ table → strings_at form table bytes ≡ Ok x
unfolding strings_at spelled_at
strings_there form table n [] x s e t = absurd (let short = number_shorter [] (n, x.2) s in omega arith)
strings_there form table n (b ∷ bytes) x s e t =
    let some : eqb b 0 ≡ false = (elim (eqb b 0) as (λ t. eqb b 0 ≡ t → t ≡ false) [
      | true ↦ λ z. (let is : b ≡ 0 = grind (arith, nat_tests) in
          let Q : ℕ → Type 0 = λ c. NumberAtFront (c ∷ bytes) (n, x.2) in
          let none : n ≡ 0 = zero_number bytes (n, x.2) (subst Q is s) in
          let clash : entry_at table 0 ≡ Some x.0 = ap (entry_at table) (sym none) ∙ e in cc)
      | false ↦ λ z. refl
    ] refl) in
    rw (some, number_only (b ∷ bytes) (n, x.2) s, e) (ap (λ u. Ok (x.0, u, x.2)) (sym t))

-- Strings that are spelled are read.
pub strings_only : (form : Form) (table : List EntryStrings) (bytes : List ℕ) (x : EntryStrings × List EntryStrings × List ℕ) →
    StringsAtFront form table bytes x →
    strings_at form table bytes ≡ Ok x
unfolding strings_at spelled_at
strings_only form table bytes x (inl s) =
    ap (strings_at form table) s.1 ∙ rw (inline_only form s.0 (x.0, x.2) s.2) (ap (λ u. Ok (x.0, u, x.2)) (sym s.3))
strings_only form table bytes x (inr s) = strings_there form table s.0 bytes x s.1 s.2 s.3

-- Strings take at least one byte.
pub strings_shorter : (form : Form) (table : List EntryStrings) (bytes : List ℕ) (x : EntryStrings × List EntryStrings × List ℕ) →
    StringsAtFront form table bytes x → length x.2 < length bytes
strings_shorter form table bytes x (inl s) = rw s.1 (omega (arith, inline_shorter form s.0 (x.0, x.2) s.2))
strings_shorter form table bytes x (inr s) = number_shorter bytes (s.0, x.2) s.1
