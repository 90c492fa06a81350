-- Steps of the cursor.
use Rattle.std.proofs.Common.{◌≡◌, ℕ, ◌<◌, Bool, true, false, List, [], ◌∷◌, ◌++◌, length, codes, ℤ, refl, ap, sym, ◌∙◌, arith, subst}
use Rattle.std.proofs.Common.{append_assoc, append-nil, if◌then◌else◌}
use Rattle.std.specs.Char.{encode_utf8}
use Rattle.std.specs.Str.{chars, IsUtf8}
use Rattle.std.proofs.lemmas.Str.{chars_past_char}
use Rattle.osm_model.specs.declared.kind.Kind.TheVariants.{Node, Way, Relation}
use Rattle.osm_model.specs.declared.tags.Tag.{Tag}
use Rattle.osm_model.specs.declared.members.Member.{Member}
use Rattle.osm_model.specs.declared.body.Body.{Body}
use Rattle.osm_model.specs.declared.body.Body.TheVariants as body
use Rattle.osm_model.specs.declared.line_bytes.Continuation.{Continuation}
use Rattle.osm_model.specs.declared.line_bytes.LinePosition.{LinePosition}
use Rattle.osm_model.specs.Kind.{kind_letter}
use Rattle.osm_model.specs.Decimal.{integer_text}
use Rattle.osm_model.specs.Escape.{escape, escape_char}
use Rattle.osm_model.specs.Joined.{join_with}
use Rattle.osm_model.specs.Data.{VersionData, tags_of}
use Rattle.osm_model.specs.Line.{list_text, tag_text, reference_text, member_text, kind_fields, line}
use Rattle.osm_model.specs.Cursor.{more_text, items_text, bytes_from, from_next, from_head}
use Rattle.osm_model.proofs.EscapeLaws.{length-escape_char-some}

-- The escaped text is the form of the first character, which has a byte at least, and the escaped rest.
pub text_more : (bs rest given piece : List ℕ) (c : ℕ) → IsUtf8 given → given ≡ bs → bs ≡ encode_utf8 c ++ rest → piece ≡ escape_char c →
    (escape (chars bs) ≡ piece ++ escape (chars rest)) × (0 < length piece)
text_more bs rest given piece c u same e is =
    let v : IsUtf8 bs = subst IsUtf8 same u in
    (ap escape (chars_past_char bs rest c v e) ∙ ap (λ xs. xs ++ escape (chars rest)) (sym is), rw is (length-escape_char-some c))

-- the rest of a line, by the two parts of a `Continuation`
pub coming_is : (v : VersionData) (next : Continuation) (cs : List ℕ) (p : LinePosition) → chars next.text.now ≡ cs → next.position ≡ p →
    from_next v next ≡ escape cs ++ bytes_from v p
coming_is v next cs p t e = λ i. escape (t i) ++ bytes_from v (e i)

-- A list's text is the text of its first item, and each other item after a comma.
pub list_text-cons : {X : Type 0} (text : X → List ℕ) (x : X) (xs : List X) → list_text text (x ∷ xs) ≡ text x ++ more_text text xs
list_text-cons text x [] = sym (append-nil (text x))
list_text-cons text x (y ∷ ys) = ap (λ t. text x ++ 44 ∷ t) (list_text-cons text y ys)

-- the first of some references
pub reference_step : (r : ℤ) (all rest : List ℤ) (is_first : Bool) (mark piece tail : List ℕ) → all ≡ r ∷ rest →
    mark ≡ (if is_first then codes "n" else codes ",n") → piece ≡ mark ++ integer_text r → tail ≡ more_text reference_text rest →
    (items_text is_first reference_text all ≡ piece ++ tail) × (0 < length piece)
reference_step r all rest true mark piece tail a m p t = (rw (a, p, m, t) (list_text-cons reference_text r rest), rw (p, m) (omega arith))
reference_step r all rest false mark piece tail a m p t = (rw (a, p, m, t) refl, rw (p, m) (omega arith))

member_split : (k : ℕ) (i e t : List ℕ) → ((k ∷ i) ++ 64 ∷ e) ++ t ≡ (k ∷ i) ++ 64 ∷ (e ++ t)
member_split k i e t = append_assoc (k ∷ i) (64 ∷ e) t

-- the object of the first of some members
pub member_step : (m : Member) (all rest : List Member) (is_first : Bool) (mark piece tail : List ℕ) → all ≡ m ∷ rest →
    mark ≡ (if is_first then kind_letter m.kind ∷ [] else 44 ∷ kind_letter m.kind ∷ []) → piece ≡ mark ++ integer_text m.id →
    tail ≡ 64 ∷ (escape m.role ++ more_text member_text rest) → (items_text is_first member_text all ≡ piece ++ tail) × (0 < length piece)
member_step m all rest true mark piece tail a k p t = (
  rw (a, p, k, t) (list_text-cons member_text m rest
      ∙ member_split (kind_letter m.kind) (integer_text m.id) (escape m.role) (more_text member_text rest)),
  rw (p, k) (omega arith),
)
member_step m all rest false mark piece tail a k p t = (
  rw (a, p, k, t) (ap (λ l. 44 ∷ l) (member_split (kind_letter m.kind) (integer_text m.id) (escape m.role) (more_text member_text rest))),
  rw (p, k) (omega arith),
)

-- the first of some tags
pub tag_step : (t : Tag) (all rest : List Tag) (b : List ℕ) → all ≡ t ∷ rest →
    escape t.key ++ (61 ∷ (escape t.value ++ (more_text tag_text rest ++ b))) ≡ list_text tag_text all ++ b
tag_step t all rest b a =
    sym (rw (a, list_text-cons tag_text t rest) (append_assoc (tag_text t) (more_text tag_text rest) b
    ∙ append_assoc (escape t.key) (61 ∷ escape t.value) _))

joined_kind : (f : List ℕ) (b : Body) → join_with 32 (f ∷ kind_fields b) ≡ f ++ 32 ∷ join_with 32 (kind_fields b)
joined_kind f (body.Deleted Node) = refl
joined_kind f (body.Deleted Way) = refl
joined_kind f (body.Deleted Relation) = refl
joined_kind f (body.Node lon lat tags) = refl
joined_kind f (body.Way refs tags) = refl
joined_kind f (body.Relation members tags) = refl

-- the line is the line from its head on
pub line-from_head : (v : VersionData) → line v ≡ from_head v
unfolding line
line-from_head v = rw (joined_kind (codes "T" ++ list_text tag_text (tags_of v.body)) v.body) (simp append_assoc)
