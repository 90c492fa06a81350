-- The bytes of canonical lines.
use Rattle.std.proofs.Common.{◌≡◌, ℕ, ℤ, pos, negsuc, Bool, true, false, cond, eqb, ◌&&◌, List, [], ◌∷◌, codes, ◌++◌, length, ◌-◌, suc, ◌/◌}
use Rattle.std.proofs.Common.{◌%◌, refl, sym, ap, ◌∙◌, arith, Option, Some, None}
use Rattle.std.proofs.lemmas.Bool.{and_parts}
use Rattle.std.proofs.lemmas.Bool.Decides.{nat_tests}
use Rattle.std.proofs.lemmas.List.Folds.{list_all-append}
use Rattle.std.specs.List.{list_all, AllByRecursion}
use Rattle.std.specs.Char.{is_ascii_digit}
use Rattle.std.specs.Int.{is_in_range}
use Rattle.osm_model.specs.declared.kind.Kind.{Kind}
use Rattle.osm_model.specs.declared.kind.Kind.TheVariants.{Node, Way, Relation}
use Rattle.osm_model.specs.declared.tags.Tag.{Tag}
use Rattle.osm_model.specs.declared.members.Member.{Member}
use Rattle.osm_model.specs.declared.body.Body.{Body}
use Rattle.osm_model.specs.declared.body.Body.TheVariants as body
use Rattle.osm_model.specs.Kind.{kind_letter}
use Rattle.osm_model.specs.Numeral.{numeral, pad_zeros}
use Rattle.osm_model.specs.Decimal.{number_text, integer_text}
use Rattle.osm_model.specs.Coordinate.{fraction_text, degrees_text, coordinate_text, without_last_zeros}
use Rattle.osm_model.specs.Time.{date_of, date_text, clock_text, time_text}
use Rattle.osm_model.specs.Escape.{code_escape, escape_width, escape}
use Rattle.osm_model.specs.Tags.{texts_of_tags}
use Rattle.osm_model.specs.Members.{roles_of}
use Rattle.osm_model.specs.Data.{VersionData, kind_of, tags_of, texts_of}
use Rattle.osm_model.specs.Line.{tag_text, reference_text, member_text, list_text, visible_text, empty_fields, kind_fields, fields}
use Rattle.opl_line.specs.Number.{with_digit}
use Rattle.opl_line.specs.Text.{is_hex_digit}
use Rattle.opl_line.proofs.ContentLaws.{all_weaker}
use Rattle.opl_line.proofs.CanonicalLaws.{zeros_read, decimal}
use Rattle.opl_line.proofs.EscapedLaws.{escape_digits}
use Rattle.opl_line.proofs.CoordinateLaws.{trimmed}

-- ASCII characters that are neither blank nor control characters
abbrev pub is_graphic : ℕ → Bool
is_graphic b = is_in_range 33 126 b

-- If the items of two lists pass a test, so do those of their concatenation.
pub all_append : (p : ℕ → Bool) (xs ys : List ℕ) → list_all p xs ≡ true → list_all p ys ≡ true → list_all p (xs ++ ys) ≡ true
all_append p xs ys a b = list_all-append p xs ys ∙ (λ i. a i && b i)

all_next : (p : ℕ → Bool) (b : ℕ) (bs : List ℕ) → p b ≡ true → list_all p bs ≡ true → list_all p (b ∷ bs) ≡ true
all_next p b bs here more = λ i. here i && more i

digit_graphic : (b : ℕ) → is_ascii_digit b ≡ true → is_graphic b ≡ true
digit_graphic b e = grind (arith, nat_tests)

hex_graphic : (b : ℕ) → is_hex_digit b ≡ true → is_graphic b ≡ true
hex_graphic b e = grind (arith, nat_tests)

digits_graphic : (text : List ℕ) → list_all is_ascii_digit text ≡ true → list_all is_graphic text ≡ true
digits_graphic text all = all_weaker is_ascii_digit is_graphic digit_graphic text all

number_graphic : (n : ℕ) → list_all is_graphic (number_text n) ≡ true
number_graphic n = digits_graphic (number_text n) (decimal n).digits

padded_digits : (width n : ℕ) → list_all is_ascii_digit (pad_zeros width (number_text n)) ≡ true
unfolding pad_zeros
padded_digits width n = (zeros_read 10 with_digit is_ascii_digit (width - length (number_text n)) n (number_text n) refl refl
    (decimal n)).digits

padded_graphic : (width n : ℕ) → list_all is_graphic (pad_zeros width (number_text n)) ≡ true
padded_graphic width n = digits_graphic (pad_zeros width (number_text n)) (padded_digits width n)

integer_graphic : (z : ℤ) → list_all is_graphic (integer_text z) ≡ true
unfolding integer_text
integer_graphic (pos n) = number_graphic n
integer_graphic (negsuc n) = all_next is_graphic 45 (number_text (suc n)) refl (number_graphic (suc n))

between : (b : ℕ) (xs ys : List ℕ) → list_all is_graphic xs ≡ true → is_graphic b ≡ true → list_all is_graphic ys ≡ true →
    list_all is_graphic (xs ++ b ∷ ys) ≡ true
between b xs ys front here rest = all_append is_graphic xs (b ∷ ys) front (all_next is_graphic b ys here rest)

time_graphic : (time : Option ℕ) → list_all is_graphic (time_text time) ≡ true
unfolding time_text date_text clock_text
time_graphic None = refl
time_graphic (Some s) =
    let d = date_of (s / 86_400) in
    let second = s % 86_400 in
    let year = pad_zeros 4 (number_text d.year) in
    let month = pad_zeros 2 (number_text d.month) in
    let day = pad_zeros 2 (number_text d.day) in
    let hours = pad_zeros 2 (number_text (second / 3600)) in
    let minutes = pad_zeros 2 (number_text (second / 60 % 60)) in
    let seconds = pad_zeros 2 (number_text (second % 60)) in
    let date = between 45 year (month ++ 45 ∷ day) (padded_graphic 4 d.year) refl
    (between 45 month day (padded_graphic 2 d.month) refl (padded_graphic 2 d.day)) in
    let clock = between 58 hours (minutes ++ 58 ∷ seconds) (padded_graphic 2 (second / 3600)) refl
    (between 58 minutes seconds (padded_graphic 2 (second / 60 % 60)) refl (padded_graphic 2 (second % 60))) in
    between 84 (date_text d) (clock_text second ++ 90 ∷ []) date refl (between 90 (clock_text second) [] clock refl refl)

fraction_graphic : (units : ℕ) → list_all is_graphic (fraction_text units) ≡ true
unfolding fraction_text
fraction_graphic units =
    elim (eqb units 0) as (λ t. list_all is_graphic (cond t [] (46 ∷ without_last_zeros (pad_zeros 7 (number_text units)))) ≡ true) [
      | true ↦ refl
      | false ↦ let decimals = without_last_zeros (pad_zeros 7 (number_text units)) in
          all_next is_graphic 46 decimals refl (digits_graphic decimals
          (trimmed 0 (pad_zeros 7 (number_text units)) (padded_digits 7 units)).all)
    ]

degrees_graphic : (units : ℕ) → list_all is_graphic (degrees_text units) ≡ true
unfolding degrees_text
degrees_graphic units = all_append is_graphic (number_text (units / 10_000_000)) (fraction_text (units % 10_000_000))
    (number_graphic (units / 10_000_000)) (fraction_graphic (units % 10_000_000))

coordinate_graphic : (z : ℤ) → list_all is_graphic (coordinate_text z) ≡ true
unfolding coordinate_text
coordinate_graphic (pos n) = degrees_graphic n
coordinate_graphic (negsuc n) = all_next is_graphic 45 (degrees_text (suc n)) refl (degrees_graphic (suc n))

-- An escape has graphic bytes only.
pub escape_graphic : (c : ℕ) → list_all is_graphic (code_escape c) ≡ true
unfolding code_escape
escape_graphic c =
    let digits = pad_zeros (escape_width c) (numeral 16 c) in
    all_next is_graphic 37 (digits ++ 37 ∷ []) refl (between 37 digits []
    (all_weaker is_hex_digit is_graphic hex_graphic digits (escape_digits c).digits) refl refl)

object_graphic : (k : Kind) (id : ℤ) → list_all is_graphic (kind_letter k ∷ integer_text id) ≡ true
object_graphic Node id = all_next is_graphic 110 (integer_text id) refl (integer_graphic id)
object_graphic Way id = all_next is_graphic 119 (integer_text id) refl (integer_graphic id)
object_graphic Relation id = all_next is_graphic 114 (integer_text id) refl (integer_graphic id)

visible_graphic : (b : Body) → list_all is_graphic (visible_text b) ≡ true
visible_graphic (body.Deleted k) = refl
visible_graphic (body.Node lon lat tags) = refl
visible_graphic (body.Way refs tags) = refl
visible_graphic (body.Relation members tags) = refl

-- the texts of the tags of a body are among its texts
pub tags_of_body : (ok : List ℕ → Bool) (b : Body) → list_all ok (texts_of b) ≡ true → list_all ok (texts_of_tags (tags_of b)) ≡ true
tags_of_body ok (body.Deleted k) all = refl
tags_of_body ok (body.Node lon lat tags) all = all
tags_of_body ok (body.Way refs tags) all = all
tags_of_body ok (body.Relation members tags) all =
    (and_parts (list_all ok (roles_of members)) (list_all ok (texts_of_tags tags))
    (sym (list_all-append ok (roles_of members) (texts_of_tags tags)) ∙ all)).1

-- A property of graphic characters, of canonical texts, and of concatenations holds for each field.
module _ (P : List ℕ → Type 0) (put : (xs ys : List ℕ) → P xs → P ys → P (xs ++ ys))
    (graphic : (xs : List ℕ) → list_all is_graphic xs ≡ true → P xs) (ok : List ℕ → Bool)
    (text : (cs : List ℕ) → ok cs ≡ true → P (escape cs)) where
  lettered : (b : ℕ) (xs : List ℕ) → is_graphic b ≡ true → P xs → P (b ∷ xs)
  lettered b xs is h = put (b ∷ []) xs (graphic (b ∷ []) (ap (λ t. t && true) is)) h

  list_has : {X : Type 0} (text_of : X → List ℕ) (xs : List X) → AllByRecursion (λ x. P (text_of x)) xs → P (list_text text_of xs)
  list_has text_of [] h = graphic [] refl
  list_has text_of (x ∷ []) h = h.0
  list_has text_of (x ∷ y ∷ more) h = put (text_of x) (44 ∷ list_text text_of (y ∷ more)) h.0
      (lettered 44 (list_text text_of (y ∷ more)) refl (list_has text_of (y ∷ more) h.1))

  tags_have : (tags : List Tag) → list_all ok (texts_of_tags tags) ≡ true → AllByRecursion (λ t. P (tag_text t)) tags
  tags_have [] all = tt
  tags_have (t ∷ ts) all =
      let key = and_parts (ok t.key) (ok t.value && list_all ok (texts_of_tags ts)) all in
      let value = and_parts (ok t.value) (list_all ok (texts_of_tags ts)) key.1 in (
        put (escape t.key) (61 ∷ escape t.value) (text t.key key.0) (lettered 61 (escape t.value) refl (text t.value value.0)),
        tags_have ts value.1,
      )

  references_have : (ids : List ℤ) → AllByRecursion (λ id. P (reference_text id)) ids
  references_have [] = tt
  references_have (id ∷ ids) = (
    graphic (reference_text id) (all_next is_graphic 110 (integer_text id) refl (integer_graphic id)),
    references_have ids,
  )

  members_have : (ms : List Member) → list_all ok (roles_of ms) ≡ true → AllByRecursion (λ m. P (member_text m)) ms
  members_have [] all = tt
  members_have (m ∷ ms) all =
      let role = and_parts (ok m.role) (list_all ok (roles_of ms)) all in (
        put (kind_letter m.kind ∷ integer_text m.id) (64 ∷ escape m.role)
            (graphic (kind_letter m.kind ∷ integer_text m.id) (object_graphic m.kind m.id))
            (lettered 64 (escape m.role) refl (text m.role role.0)),
        members_have ms role.1,
      )

  empty_have : (k : Kind) → AllByRecursion P (empty_fields k)
  empty_have Node = (graphic (codes "x") refl, (graphic (codes "y") refl, tt))
  empty_have Way = (graphic (codes "N") refl, tt)
  empty_have Relation = (graphic (codes "M") refl, tt)

  kind_have : (b : Body) → list_all ok (texts_of b) ≡ true → AllByRecursion P (kind_fields b)
  kind_have (body.Deleted k) all = empty_have k
  kind_have (body.Node lon lat tags) all = (
    lettered 120 (coordinate_text lon) refl
        (graphic (coordinate_text lon) (coordinate_graphic lon)),
    (lettered 121 (coordinate_text lat) refl (graphic (coordinate_text lat) (coordinate_graphic lat)), tt),
  )
  kind_have (body.Way refs tags) all = (
    lettered 78 (list_text reference_text refs) refl
        (list_has reference_text refs (references_have refs)),
    tt,
  )
  kind_have (body.Relation members tags) all =
      let parts = and_parts (list_all ok (roles_of members)) (list_all ok (texts_of_tags tags))
      (sym (list_all-append ok (roles_of members) (texts_of_tags tags)) ∙ all) in
      (lettered 77 (list_text member_text members) refl (list_has member_text members (members_have members parts.0)), tt)

  -- Each field of a line has a property that all its contents have.
  pub fields_have : (v : VersionData) → list_all ok (v.user ∷ texts_of v.body) ≡ true → AllByRecursion P (fields v)
  fields_have v all =
      let parts = and_parts (ok v.user) (list_all ok (texts_of v.body)) all in (
        graphic (kind_letter (kind_of v.body) ∷ integer_text v.id) (object_graphic (kind_of v.body) v.id),
        (
          lettered 118 (number_text v.number) refl (graphic (number_text v.number) (number_graphic v.number)),
          (
            lettered 100 (visible_text v.body) refl (graphic (visible_text v.body) (visible_graphic v.body)),
            (
              lettered 99 (number_text v.changeset) refl (graphic (number_text v.changeset) (number_graphic v.changeset)),
              (
                lettered 116 (time_text v.time) refl (graphic (time_text v.time) (time_graphic v.time)),
                (
                  lettered 105 (number_text v.uid) refl (graphic (number_text v.uid) (number_graphic v.uid)),
                  (
                    lettered 117 (escape v.user) refl (text v.user parts.0),
                    (
                      lettered 84 (list_text tag_text (tags_of v.body)) refl
                          (list_has tag_text (tags_of v.body) (tags_have (tags_of v.body) (tags_of_body ok v.body parts.1))),
                      kind_have v.body parts.1,
                    ),
                  ),
                ),
              ),
            ),
          ),
        ),
      )
