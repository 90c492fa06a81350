-- Readings in sequence.
use Rattle.std.proofs.Common.{◌≡◌, ◌∙◌, ap, sym, Result, Ok, Err}
use Rattle.o5_codec.specs.declared.reason.O5Reason.{O5Reason}
use Rattle.o5_codec.specs.Results.{and_then}

module _ {X Y : Type 0} (reading : Result X O5Reason) (next : X → Result Y O5Reason) where
  pub refused_first : (reason : O5Reason) → reading ≡ Err reason → and_then reading next ≡ Err reason
  refused_first reason first = ap (λ r. and_then r next) first

  -- If the first reading succeeds, the result is that of the next one.
  pub read_next : (x : X) → reading ≡ Ok x → and_then reading next ≡ next x
  read_next x first = ap (λ r. and_then r next) first

-- a result isn't both a value and a refusal
pub not_refused : {X E : Type 0} (r : Result X E) (x : X) (e : E) → r ≡ Ok x → r ≡ Err e → ⊥
not_refused r x e read refused = (let clash : Ok x ≡ Err e = sym read ∙ refused in cc)

-- A reading has one value.
pub one_value : {X E : Type 0} (r : Result X E) (x y : X) → r ≡ Ok x → r ≡ Ok y → x ≡ y
one_value r x y first second = (let same : Ok x ≡ Ok y = sym first ∙ second in cc)
