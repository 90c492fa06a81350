-- Bytes that are appended twice, after earlier ones.
use Rattle.std.proofs.Common.{◌≡◌, ℕ, List, [], ◌++◌, Bool, true, false, cond, sym, ap, ◌∙◌, append-nil, append_assoc}
use Rattle.osm_model.specs.Extends.{Extends}

extends_by : {before now : List ℕ} (rest : List ℕ) → now ≡ before ++ rest → Extends before now
extends_by rest e = record { rest = rest; appended = e }

-- Bytes that extend an extension of some bytes extend those bytes.
pub extends_trans : {before middle now : List ℕ} → Extends before middle → Extends middle now → Extends before now
extends_trans {before} first second = extends_by (first.rest ++ second.rest)
    (second.appended ∙ ap (λ t. t ++ second.rest) first.appended ∙ append_assoc before first.rest second.rest)

-- `push` and `extend_from_slice` extend the bytes, whether they fail or not
pub extends_or_same : {before now : List ℕ} (done : Bool) (more : List ℕ) → now ≡ cond done (before ++ more) before → Extends before now
extends_or_same true more e = extends_by more e
extends_or_same {before} false more e = extends_by [] (e ∙ sym (append-nil before))
