-- The search for the bound between two shards, index by index.
use Rattle.std.proofs.Common.{◌≡◌, ℕ, zero, suc, ◌+◌, ◌-◌, ◌*◌, ◌≤◌, ◌<◌, ◌^◌, min, Bool, true, false, cond, nat_le, List, [], ◌∷◌, ◌++◌}
use Rattle.std.proofs.Common.{length, take, drop, get_or, sym, ap, ◌∙◌, subst, arith, Option, Some, None}
use Rattle.std.proofs.lemmas.Nat.{mul-le}
use Rattle.std.proofs.lemmas.List.{take_all}
use Rattle.std.proofs.lemmas.List.Sums.{sum_by-le-sum_by, sum_by_more, sum_by-take-le}
use Rattle.std.specs.List.{AllByRecursion}
use Rattle.osm_model.specs.declared.object.Object.{Object}
use Rattle.osm_files.proofs.SinkLaws.{front_at}
use Rattle.osm_mirror.specs.declared.run.bounds.Found.{Found}
use Rattle.osm_mirror.specs.run.Bounds.{total_weight, weight_if_below, weight_below, is_past, bound_of}
use Rattle.osm_mirror.specs.run.Probes.{Ascend, is_above}
use Rattle.osm_mirror.proofs.run_laws.BoundLaws.{lt, AllRise, all_rise, Searched, search_first, search_next, search_found, search_ends}
use Rattle.osm_mirror.proofs.run_laws.BoundLaws.{next_below}
use Rattle.osm_mirror.proofs.run_laws.BoundLaws.{IsLast, weight_before}

-- a list at an index
split_at : {X : Type 0} (xs : List X) (k : ℕ) (x : X) → k < length xs → x ≡ get_or xs k x → xs ≡ take k xs ++ x ∷ drop (k + 1) xs
split_at [] k x low is = absurd (omega (arith, low))
split_at (y ∷ ys) zero x low is = ap (λ z. z ∷ ys) (sym is)
split_at (y ∷ ys) (suc k) x low is =
    let next : k + 1 ≡ suc k = omega arith in
    let later : suc (suc k) ≡ suc k + 1 = omega arith in
    ap (λ zs. y ∷ zs) (split_at ys k x (omega (arith, low)) is ∙ ap (λ n. take k ys ++ x ∷ drop n ys) next)
    ∙ ap (λ n. y ∷ (take k ys ++ x ∷ drop n (y ∷ ys))) later

-- the weight of one object more
pub sum_more : (found : List Found) (k : ℕ) (x : Found) (sum next : ℕ) → k < length found → x ≡ get_or found k x →
    total_weight found < 2 ^ 62 → sum ≡ total_weight (take k found) → next ≡ min (sum + x.weight) (2 ^ 64 - 1) →
    next ≡ total_weight (take (k + 1) found)
sum_more found k x sum next low is short so_far step =
    let more = sum_by_more (λ f. f.weight) found k x low in
    let same : x.weight ≡ (get_or found k x).weight = ap (λ f. f.weight) is in
    let most = sum_by-take-le (λ f. f.weight) found (k + 1) in
    omega (arith, more, same, most, short, so_far, step)

few : (t : Bool) (n : ℕ) → cond t n 0 ≤ n
few true n = omega arith
few false n = omega arith

-- shares of fewer than 2^62 bytes, for at most 9999 shards
small : (n k : ℕ) → n < 2 ^ 62 → k ≤ 9999 → n * k < 2 ^ 128
small n k low most = let product = mul-le n k (2 ^ 62) 9999 (omega (arith, low)) most in omega (arith, product)

pub shares_are : (weight below number count share got : ℕ) → weight < 2 ^ 62 → below < 2 ^ 62 → number ≤ 9999 → count ≤ 9999 →
    share ≡ min (weight * number) (2 ^ 128 - 1) → got ≡ min (below * count) (2 ^ 128 - 1) →
    nat_le share got ≡ nat_le (weight * number) (below * count)
shares_are weight below number count share got low lower some many share_is got_is =
    let first = small weight number low some in
    let second = small below count lower many in
    let a : share ≡ weight * number = omega (arith, first, share_is) in
    let b : got ≡ below * count = omega (arith, second, got_is) in
    λ i. nat_le (a i) (b i)

module _ (number count : ℕ) (found : List Found) where
  -- no object before an index is past the shares, unless the weights are too many
  abbrev pub Search : ℕ → ℕ → ℕ → Option Object → Type 0
  Search index before below last = total_weight found < 2 ^ 62 → Searched number count found (take index found) before below last

  pub search_begins : Search 0 0 0 None
  search_begins short = search_first number count found

  module _ (up : Ascend found) (index before below : ℕ) (last : Option Object) (s : Search index before below last) (x : Found)
      (low : index < length found)
      (is : x ≡ get_or found index x) (next weight : ℕ) (next_is : next ≡ cond (is_above x.object last) before below)
      (weight_is : total_weight found < 2 ^ 62 → weight ≡ total_weight found) (past : Bool)
      (tested : next < 2 ^ 62 → weight < 2 ^ 62
      → past ≡ nat_le (weight * number) (next * count)) (short : total_weight found < 2 ^ 62) where
    abbrev front : List Found
    front = take index found

    abbrev rest : List Found
    rest = drop (index + 1) found

    whole : found ≡ front ++ x ∷ rest
    whole = split_at found index x low is

    ups : AllRise (front ++ x ∷ rest)
    ups = subst AllRise whole (all_rise found up)

    weight_here : next ≡ weight_below front x.object
    weight_here = next_is ∙ next_below number count found front before below last (s short) x rest ups

    weight_there : next ≡ weight_below found x.object
    weight_there = weight_here ∙ sym (weight_before front x rest ups) ∙ ap (λ xs. weight_below xs x.object) (sym whole)

    past_is : past ≡ is_past number count found x.object
    past_is =
        let fewer : weight_below found x.object ≤ total_weight found =
        sum_by-le-sum_by (weight_if_below x.object) (λ f. f.weight) found (λ f. few (lt f.object x.object) f.weight) in
        let all = weight_is short in
        tested (omega (arith, fewer, short, weight_there)) (omega (arith, all, short))
        ∙ (λ i. nat_le (all i * number) (weight_there i * count))

    pub search_on : past ≡ false → (after : ℕ) → after ≡ min (before + x.weight) (2 ^ 64 - 1) →
        Searched number count found (take (index + 1) found) after next (Some x.object)
    search_on fails after after_is =
        let step = search_next number count found front before below last (s short) x next weight_here (sym past_is ∙ fails) in
        let more : take (index + 1) found ≡ front ++ x ∷ [] = front_at found index x low is in
        let sum : after ≡ total_weight (take (index + 1) found) = sum_more found index x before after low is short
        (s short).before_is after_is in
        record {
          before_is = sum;
          last_is = subst (λ (xs : List Found). IsLast xs (Some x.object) next) (sym more) step.last_is;
          none = subst (λ (xs : List Found). AllByRecursion (λ f. is_past number count found f.object ≡ false) xs) (sym more) step.none;
        }

    pub search_stops : past ≡ true → Some x.object ≡ bound_of number count found
    search_stops passes =
        let none = subst (λ (xs : List Found). AllByRecursion (λ f. is_past number count xs f.object ≡ false) front) whole (s short).none in
        let here = subst (λ (xs : List Found). is_past number count xs x.object ≡ true) whole (sym past_is ∙ passes) in
        search_found number count front x rest ups none here ∙ ap (bound_of number count) (sym whole)

  pub search_over : (index before below : ℕ) (last : Option Object) → Search index before below last → length found ≤ index →
      total_weight found < 2 ^ 62 → None ≡ bound_of number count found
  search_over index before below last s all short =
      search_ends number count found (subst (λ (xs : List Found). AllByRecursion (λ f. is_past number count found f.object ≡ false) xs)
      (take_all index found all) (s short).none)
