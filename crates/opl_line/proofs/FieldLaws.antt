-- Fields, read one by one.
use Rattle.std.proofs.Common.{◌≡◌, ℕ, List, [], ◌∷◌, Ok, Err, ap, ◌∙◌}
use Rattle.osm_model.specs.declared.kind.Kind.{Kind}
use Rattle.opl_line.specs.declared.general.field.Fields.{Fields}
use Rattle.opl_line.specs.declared.reason.OplReason.{OplReason}
use Rattle.opl_line.specs.Results.{and_then}
use Rattle.opl_line.specs.Field.{reading_field, reading_fields}

-- The fields are read by reading the first and then the others.
pub one_field : (kind : Kind) (fields next : Fields) (piece : List ℕ) (pieces more : List (List ℕ)) → pieces ≡ piece ∷ more →
    reading_field kind piece fields ≡ Ok next → reading_fields kind pieces fields ≡ reading_fields kind more next
unfolding reading_fields
one_field kind fields next piece pieces more e read = ap (λ ps. reading_fields kind ps fields) e
    ∙ ap (λ r. and_then r (reading_fields kind more)) read

-- The fields are refused if the first one is.
pub refused_field : (kind : Kind) (fields : Fields) (reason : OplReason) (piece : List ℕ) (pieces more : List (List ℕ)) →
    pieces ≡ piece ∷ more → reading_field kind piece fields ≡ Err reason → reading_fields kind pieces fields ≡ Err reason
unfolding reading_fields
refused_field kind fields reason piece pieces more e refused = ap (λ ps. reading_fields kind ps fields) e
    ∙ ap (λ r. and_then r (reading_fields kind more)) refused

-- Without fields nothing is added.
pub all_fields : (kind : Kind) (fields : Fields) (pieces : List (List ℕ)) → pieces ≡ [] → reading_fields kind pieces fields ≡ Ok fields
unfolding reading_fields
all_fields kind fields pieces e = ap (λ ps. reading_fields kind ps fields) e
