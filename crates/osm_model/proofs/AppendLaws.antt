-- The parts of a line, in sequence.
use Rattle.std.proofs.Common.{◌≡◌, ℕ, List, [], ◌∷◌, ◌++◌, codes, refl, ap, sym, ◌∙◌, append_assoc}
use Rattle.std.specs.Str.{chars}
use Rattle.osm_model.specs.Escape.{escape}
use Rattle.osm_model.specs.Joined.{join_with}
use Rattle.osm_model.specs.Data.{VersionData, tags_of}
use Rattle.osm_model.specs.Line.{list_text, tag_text, kind_fields, line}
use Rattle.osm_model.specs.Cursor.{more_text}
use Rattle.osm_model.specs.Append.{head_text}
use Rattle.osm_model.proofs.CursorLaws.{list_text-cons, line-from_head}

-- a list begins with a mark and its first item
pub list_begins : {X : Type 0} (text : X → List ℕ) (x : X) (all rest : List X) (mark before now : List ℕ) → all ≡ x ∷ rest →
    now ≡ before ++ (mark ++ text x) →
    before ++ (mark ++ list_text text all) ≡ now ++ more_text text rest
list_begins text x all rest mark before now a n = rw (a, n, list_text-cons text x rest)
    (sym (append_assoc before (mark ++ text x) _ ∙ ap (λ t. before ++ t) (append_assoc mark (text x) _)))

-- an escaped text is its raw front, and then the escaped rest
pub plain_stretch : (before all bytes front back now : List ℕ) → before ≡ all ++ escape (chars bytes) →
    escape (chars bytes) ≡ front ++ escape (chars back) → now ≡ all ++ front →
    before ≡ now ++ escape (chars back)
plain_stretch before all bytes front back now b e n = b ∙ ap (λ t. all ++ t) e ∙ sym (append_assoc all front _)
    ∙ ap (λ t. t ++ escape (chars back)) (sym n)

-- the line is its head, the user name, the tags and the fields of its kind
pub line-parts : (v : VersionData) → line v ≡ head_text v
    ++ (escape v.user ++ ((codes " T" ++ list_text tag_text (tags_of v.body)) ++ (32 ∷ join_with 32 (kind_fields v.body))))
line-parts v = line-from_head v ∙ simp append_assoc

-- items in two parts
pub more_in_two : {X : Type 0} (text : X → List ℕ) (xs ys : List X) → more_text text (xs ++ ys) ≡ more_text text xs ++ more_text text ys
more_in_two text [] ys = refl
more_in_two text (x ∷ xs) ys = ap (λ t. 44 ∷ t) (ap (λ t. text x ++ t) (more_in_two text xs ys)
    ∙ sym (append_assoc (text x) (more_text text xs) (more_text text ys)))

-- after a front of the items was appended, the other items remain
pub more_after : {X : Type 0} (text : X → List ℕ) (all before now : List ℕ) (items few after : List X) → items ≡ few ++ after →
    all ≡ before ++ more_text text items → now ≡ before ++ more_text text few →
    all ≡ now ++ more_text text after
more_after text all before now items few after i a n =
    a ∙ ap (λ xs. before ++ more_text text xs) i ∙ ap (λ t. before ++ t) (more_in_two text few after)
    ∙ sym (append_assoc before (more_text text few) (more_text text after)) ∙ ap (λ t. t ++ more_text text after) (sym n)
