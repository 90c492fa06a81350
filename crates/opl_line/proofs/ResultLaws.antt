-- Consequences of readings that succeed.
use Rattle.std.proofs.Common.{◌≡◌, Result, Ok, Err, refl}
use Rattle.opl_line.specs.declared.reason.OplReason.{OplReason}
use Rattle.opl_line.specs.Results.{and_then, as_value, with_reason}

-- both readings succeeded
pub record Both {X Y : Type 0} (first : Result X OplReason) (next : X → Result Y OplReason) (y : Y) : Type 0 where
  pub between : X
  pub done : first ≡ Ok between
  pub then_done : next between ≡ Ok y

-- If the second of two readings succeeds, so does the first.
pub both : {X Y : Type 0} (first : Result X OplReason) (next : X → Result Y OplReason) (y : Y) → and_then first next ≡ Ok y →
    Both first next y
both (Ok x) next y e = record { between = x; done = refl; then_done = e }
both (Err reason) next y e = cc

-- `y` is `f` of a value that was read
pub record Became {X Y : Type 0} (f : X → Y) (said : Result X OplReason) (y : Y) : Type 0 where
  pub from : X
  pub said_so : said ≡ Ok from
  -- The value with `f` applied to it is `y`.
  pub became : f from ≡ y

pub became : {X Y : Type 0} (f : X → Y) (said : Result X OplReason) (y : Y) → as_value f said ≡ Ok y → Became f said y
became f (Ok x) y e = record { from = x; said_so = refl; became = (let same : f x ≡ y = cc in same) }
became f (Err reason) y e = cc

-- a refusal with another reason is still a refusal
pub same_success : {X : Type 0} (f : OplReason → OplReason) (said : Result X OplReason) (x : X) → with_reason f said ≡ Ok x → said ≡ Ok x
same_success f (Ok y) x e = e
same_success f (Err reason) x e = cc
