-- Numbers, ids and marks that are read are spelled by their bytes, and conversely.
use Rattle.std.proofs.Common.{◌≡◌, ◌≤◌, ℕ, ℤ, pos, Bool, true, false, not, cond, eqb, leb, List, [], ◌∷◌, length, Ok, Err, refl, sym, ap}
use Rattle.std.proofs.Common.{◌∙◌, subst}
use Rattle.std.proofs.lemmas.Bool.{and_parts, eqb-true, leb-true, le-leb}
use Rattle.std.specs.Char.{is_ascii_digit}
use Rattle.std.specs.List.{list_all}
use Rattle.opl_line.specs.declared.reason.OplReason.TheVariants.{BadNumber, OutOfRange, BadText}
use Rattle.opl_line.specs.Results.{as_value}
use Rattle.opl_line.specs.Number.{is_numeral, decimal_value, up_to, reading_number, with_sign, reading_id}
use Rattle.opl_line.specs.Field.{reading_number_32, reading_count, reading_deleted}
use Rattle.opl_line.specs.Content.{SpellsNumeral, SpellsNumber, SpellsCount, no_count, some_count, SpellsId, plain_id, minus_id}
use Rattle.opl_line.specs.Content.{SpellsDeleted, visible_mark, deleted_mark}
use Rattle.opl_line.proofs.ResultLaws.{became}
use Rattle.opl_line.proofs.CanonicalLaws.{minus_apart}

-- ---- numbers
module _ (most : ℕ) where
  -- A number that is read is spelled.
  pub number_sound : (text : List ℕ) (n : ℕ) → reading_number most text ≡ Ok n → SpellsNumber most text n
  number_sound text n =
      let value = decimal_value text in
      elim (is_numeral text) as (λ t. is_numeral text ≡ t → cond t (up_to most value) (Err BadNumber) ≡ Ok n → SpellsNumber most text n) [
        | true ↦ λ numeral. elim (leb value most) as (λ t. leb value most ≡ t → cond t (Ok value) (Err OutOfRange) ≡ Ok n →
            SpellsNumber most text n) [
              | true ↦ λ few e.
                  let same : value ≡ n = cc in
                  record {
                    digits_spell = record { numeral = numeral; value = same };
                    bound =
                        subst (λ m. m ≤ most) same (leb-true value most few);
                  }
              | false ↦ λ many e. cc
            ] refl
        | false ↦ λ other e. cc
      ] refl

  -- A number that is spelled is read.
  pub number_complete : (text : List ℕ) (n : ℕ) → SpellsNumber most text n → reading_number most text ≡ Ok n
  number_complete text n s =
      (λ i. cond (s.digits_spell.numeral i) (up_to most (s.digits_spell.value i)) (Err BadNumber))
      ∙ (λ i. cond (le-leb n most s.bound i) (Ok n) (Err OutOfRange))

-- A count that is read is spelled.
pub count_sound : (text : List ℕ) (n : ℕ) → reading_count text ≡ Ok n → SpellsCount text n
count_sound [] n e = let same : 0 ≡ n = cc in subst (SpellsCount []) same no_count
count_sound (b ∷ bs) n e = some_count (b ∷ bs) n (number_sound 4_294_967_295 (b ∷ bs) n e)

count_of_number : (text : List ℕ) (n : ℕ) → reading_number_32 text ≡ Ok n → reading_count text ≡ Ok n
count_of_number [] n e = cc
count_of_number (b ∷ bs) n e = e

-- A count that is spelled is read.
pub count_complete : (text : List ℕ) (n : ℕ) → SpellsCount text n → reading_count text ≡ Ok n
count_complete text n no_count = refl
count_complete text n (some_count digits m s) = count_of_number digits m (number_complete 4_294_967_295 digits m s)

-- ---- ids
pub numeral_unsigned : (b : ℕ) (bs : List ℕ) (n : ℕ) → SpellsNumeral (b ∷ bs) n → eqb b 45 ≡ false
numeral_unsigned b bs n s =
    let all = (and_parts (not (eqb (length (b ∷ bs)) 0)) (list_all is_ascii_digit (b ∷ bs)) s.numeral).1 in
    minus_apart b (and_parts (is_ascii_digit b) (list_all is_ascii_digit bs) all).0

-- An id that is read is spelled.
pub id_sound : (text : List ℕ) (id : ℤ) → reading_id text ≡ Ok id → SpellsId text id
id_sound [] id e = cc
id_sound (b ∷ bs) id e =
    let most : ℕ = 4_611_686_018_427_387_903 in
    elim (eqb b 45) as (λ t. eqb b 45 ≡ t → as_value (with_sign t) (reading_number most (cond t bs (b ∷ bs))) ≡ Ok id →
    SpellsId (b ∷ bs) id) [
      | true ↦ λ minus read.
          let r = became (with_sign true) (reading_number most bs) id read in
          let of_bs : SpellsId (45 ∷ bs) (with_sign true r.from) = minus_id bs r.from (number_sound most bs r.from r.said_so) in
          subst (SpellsId (b ∷ bs)) r.became (subst (λ c. SpellsId (c ∷ bs) (with_sign true r.from)) (sym (eqb-true b 45 minus)) of_bs)
      | false ↦ λ plain read.
          let r = became (with_sign false) (reading_number most (b ∷ bs)) id read in
          let of_all : SpellsId (b ∷ bs) (with_sign false r.from) =
          plain_id (b ∷ bs) r.from (number_sound most (b ∷ bs) r.from r.said_so) in
          subst (SpellsId (b ∷ bs)) r.became of_all
    ] refl e

plain_read : (digits : List ℕ) (n : ℕ) → SpellsNumber 4_611_686_018_427_387_903 digits n → reading_id digits ≡ Ok (pos n)
plain_read [] n s = let numeral = s.digits_spell.numeral in cc
plain_read (b ∷ bs) n s =
    ap (λ t. as_value (with_sign t) (reading_number 4_611_686_018_427_387_903 (cond t bs (b ∷ bs))))
    (numeral_unsigned b bs n s.digits_spell)
    ∙ ap (as_value (with_sign false)) (number_complete 4_611_686_018_427_387_903 (b ∷ bs) n s)

-- An id that is spelled is read.
pub id_complete : (text : List ℕ) (id : ℤ) → SpellsId text id → reading_id text ≡ Ok id
id_complete text id (plain_id digits n s) = plain_read digits n s
id_complete text id (minus_id digits n s) = ap (as_value (with_sign true)) (number_complete 4_611_686_018_427_387_903 digits n s)

-- ---- marks
pub deleted_sound : (text : List ℕ) (d : Bool) → reading_deleted text ≡ Ok d → SpellsDeleted text d
deleted_sound [] d e = cc
deleted_sound (b ∷ []) d e =
    elim (eqb b 86) as (λ t. eqb b 86 ≡ t → cond t (Ok false) (cond (eqb b 68) (Ok true) (Err BadText)) ≡ Ok d → SpellsDeleted (b ∷ []) d) [
      | true ↦ λ is read.
          let same : false ≡ d = cc in
          subst (SpellsDeleted (b ∷ [])) same (subst (λ c. SpellsDeleted (c ∷ []) false) (sym (eqb-true b 86 is)) visible_mark)
      | false ↦ λ other. elim (eqb b 68) as (λ t. eqb b 68 ≡ t → cond t (Ok true) (Err BadText) ≡ Ok d → SpellsDeleted (b ∷ []) d) [
        | true ↦ λ is read.
            let same : true ≡ d = cc in
            subst (SpellsDeleted (b ∷ [])) same (subst (λ c. SpellsDeleted (c ∷ []) true) (sym (eqb-true b 68 is)) deleted_mark)
        | false ↦ λ none read. cc
      ] refl
    ] refl e
deleted_sound (b ∷ c ∷ more) d e = cc

-- A mark of visibility that is spelled is read.
pub deleted_complete : (text : List ℕ) (d : Bool) → SpellsDeleted text d → reading_deleted text ≡ Ok d
deleted_complete text d visible_mark = refl
deleted_complete text d deleted_mark = refl
