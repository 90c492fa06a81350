-- Lists whose members belong together, one for one.
use Rattle.std.proofs.Common.{◌≡◌, List, [], ◌∷◌, ◌++◌, refl, ap}
use Rattle.osm_model.specs.Pairwise.{Pairwise}

module _ {X Y : Type 0} (R : X → Y → Type 0) where
  -- a pair is appended
  pub pairwise_push : (xs : List X) (ys : List Y) (x : X) (y : Y) → Pairwise R xs ys → R x y → Pairwise R (xs ++ x ∷ []) (ys ++ y ∷ [])
  pairwise_push [] [] x y all this = (this, tt)
  pairwise_push [] (z ∷ ys) x y all this = absurd all
  pairwise_push (w ∷ xs) [] x y all this = absurd all
  pairwise_push (w ∷ xs) (z ∷ ys) x y all this = (all.0, pairwise_push xs ys x y all.1 this)

  -- `ys` is split into the members that belong with `front`, the one that belongs with `x`, and the others
  pub record Parted (front : List X) (x : X) (ys : List Y) : Type 0 where
    pub before : List Y
    pub here : Y
    pub after : List Y
    pub parted : ys ≡ before ++ here ∷ after
    pub fronts : Pairwise R front before
    pub this : R x here

  -- A list that pairs with a list that has `x` inside splits where `x` does.
  pub pairwise_parted : (front rest : List X) (x : X) (ys : List Y) → Pairwise R (front ++ x ∷ rest) ys → Parted front x ys
  pairwise_parted [] rest x [] all = absurd all
  pairwise_parted [] rest x (y ∷ ys) all = record { before = []; here = y; after = ys; parted = refl; fronts = tt; this = all.0 }
  pairwise_parted (w ∷ front) rest x [] all = absurd all
  pairwise_parted (w ∷ front) rest x (y ∷ ys) all =
      let p = pairwise_parted front rest x ys all.1 in
      record {
        before = y ∷ p.before;
        here = p.here;
        after = p.after;
        parted = ap (λ zs. y ∷ zs) p.parted;
        fronts = (all.0, p.fronts);
        this = p.this;
      }

  -- if each member belongs with at most one, a list belongs with at most one list
  pub pairwise_one : ((x : X) (y z : Y) → R x y → R x z → y ≡ z) → (xs : List X) (ys zs : List Y) → Pairwise R xs ys → Pairwise R xs zs →
      ys ≡ zs
  pairwise_one one [] [] [] a b = refl
  pairwise_one one [] [] (z ∷ zs) a b = absurd b
  pairwise_one one [] (y ∷ ys) zs a b = absurd a
  pairwise_one one (x ∷ xs) [] zs a b = absurd a
  pairwise_one one (x ∷ xs) (y ∷ ys) [] a b = absurd b
  pairwise_one one (x ∷ xs) (y ∷ ys) (z ∷ zs) a b =
      let first = one x y z a.0 b.0 in
      let others = pairwise_one one xs ys zs a.1 b.1 in
      λ i. first i ∷ others i
