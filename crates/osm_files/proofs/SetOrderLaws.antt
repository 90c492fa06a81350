-- The order of data sets by their keys.
use Rattle.std.proofs.Common.{◌≡◌, ℕ, ℤ, pos, ◌+◌, ◌-◌, ◌≤◌, ◌<◌, List, [], ◌∷◌, ◌++◌, length, take, drop, Option, Some, None, IfSome}
use Rattle.std.proofs.Common.{refl, sym, ap, ◌∙◌, subst, arith, append-nil, length-append, length-drop, length-take}
use Rattle.std.proofs.Math.Seq.{take-add}
use Rattle.std.proofs.lemmas.Grind.{flat_map-append}
use Rattle.std.proofs.lemmas.List.{drop-append-le, take-take}
use Rattle.osm_model.specs.declared.object.Key.{Key}
use Rattle.osm_files.specs.declared.set_key.KeyPart.{KeyPart}
use Rattle.osm_files.specs.declared.set_order.RisingSets.{RisingSets}
use Rattle.osm_files.specs.KeyOrder.{bytes_between}
use Rattle.osm_files.specs.O5.{FilePart, part_bytes}
use Rattle.osm_files.specs.ReadAt.{AreAt}
use Rattle.osm_files.specs.SetKey.{AreKeyed, AreKeyedSets, StartKeyedSets, IsPartOf}
use Rattle.osm_files.specs.SetOrder.{AreSetsAnd, Continues}
use Rattle.osm_files.proofs.KeyOrderLaws.{between_both, window_between}

-- ---- parts in sequence
keyed_both : (base : ℤ) (before : Option Key) (parts : List FilePart) (middle : ℤ) (last : Option Key) (others : List FilePart)
    (next : ℤ) (after : Option Key) → AreKeyed base before parts middle last → AreKeyed middle last others next after
    → AreKeyed base before (parts ++ others) next after
keyed_both base before [] middle last others next after h k =
    subst (λ b. AreKeyed b before others next after) (sym h.0) (subst (λ l. AreKeyed middle l others next after) (sym h.1) k)
keyed_both base before (p ∷ parts) middle last others next after (key, b, l, has, rises, more) k =
    (key, b, l, has, rises, keyed_both b l parts middle last others next after more k)

sets_both : (base : ℤ) (before : Option Key) (xs : List ℕ) (middle : ℤ) (last : Option Key) (ys : List ℕ) (next : ℤ)
    (after : Option Key) → AreKeyedSets base before xs middle last → AreKeyedSets middle last ys next after
    → AreKeyedSets base before (xs ++ ys) next after
sets_both base before xs middle last ys next after (parts, is, keyed) (others, are, more) = (
  parts ++ others,
  (λ i. is i ++ are i) ∙ sym (flat_map-append part_bytes parts others),
  keyed_both base before parts middle last others next after keyed more,
)

no_sets : (base : ℤ) (before : Option Key) → AreKeyedSets base before [] base before
no_sets base before = ([], refl, (refl, refl))

one_set : (sets next : RisingSets) (part : KeyPart) (bytes : List ℕ) → IsPartOf sets.base part bytes → AreSetsAnd sets part next
    → AreKeyedSets sets.base sets.last bytes next.base next.last
one_set sets next part bytes (p, is, has) and =
    (p ∷ [], is ∙ sym (append-nil (part_bytes p)), (part.key, part.base, next.last, has, and.last, (sym and.base, refl)))

-- ---- the sets that begin in a window
pub continues_none : (bytes : List ℕ) (sets : RisingSets) → Continues bytes sets sets
continues_none bytes sets =
    let none : sets.end - sets.end ≡ 0 = omega arith in
    record {
      after = omega arith;
      within = omega arith;
      keyed = subst (λ n. AreKeyedSets sets.base sets.last (take n bytes) sets.base sets.last) (sym none) (no_sets sets.base sets.last);
    }

-- One part more continues the sets.
pub continues_on : (window rest : List ℕ) (sets read next : RisingSets) (part : KeyPart) (end : ℕ)
    → sets.end + length (window ++ rest) ≡ end → read.end - sets.end < length window → part.size ≤ end - read.end
    → Continues (window ++ rest) sets read
    → (part.size ≤ length (drop (read.end - sets.end) window ++ rest)
    → IsPartOf read.base part (take part.size (drop (read.end - sets.end) window ++ rest)))
    → AreSetsAnd read part next → Continues (window ++ rest) sets next
continues_on window rest sets read next part end all inside fits done is and =
    let i : ℕ = read.end - sets.end in
    let bytes : List ℕ = window ++ rest in
    let here : drop i bytes ≡ drop i window ++ rest = drop-append-le i window rest (omega (arith, inside)) in
    let long : part.size ≤ length (drop i window ++ rest) =
    omega (arith, fits, all, done.after, ap length (sym here), length-drop i bytes) in
    let sum : next.end - sets.end ≡ i + part.size = omega (arith, and.end, done.after) in
    let both : take (next.end - sets.end) bytes ≡ take i bytes ++ take part.size (drop i window ++ rest) =
    ap (λ n. take n bytes) sum ∙ take-add i part.size bytes ∙ ap (λ xs. take i bytes ++ take part.size xs) here in
    record {
      after = omega (arith, and.end, done.after);
      within = omega (arith, and.end, all, fits, done.within);
      keyed = subst (λ xs. AreKeyedSets sets.base sets.last xs next.base next.last) (sym both)
          (sets_both sets.base sets.last (take i bytes) read.base read.last (take part.size (drop i window ++ rest)) next.base next.last
          done.keyed (one_set read next part (take part.size (drop i window ++ rest)) (is long) and));
    }

-- ---- the sets of a file
-- the data sets of a file from an offset on, as far as they were read
pub record SetsTo (all : List ℕ) (start : ℕ) (sets : RisingSets) : Type 0 where
  pub after : start ≤ sets.end
  pub keyed : AreKeyedSets (pos 0) None (bytes_between all start sets.end) sets.base sets.last

-- what a search reads in a window that begins after `sets`
abbrev pub InWindow : List ℕ → RisingSets → ℕ → RisingSets → Type 0
InWindow window sets end read =
    (rest : List ℕ) → sets.end + length (window ++ rest) ≡ end → Continues (window ++ rest) sets read

module _ (start end : ℕ) (sets : RisingSets) (window : List ℕ) (fits : sets.end + length window ≤ end) where
  read_in : (all : List ℕ) → AreAt (Some all) sets.end window → end ≤ length all → SetsTo all start sets → (read : RisingSets)
      → InWindow window sets end read → SetsTo all start read
  read_in all at long done read within =
      let n : ℕ = end - (sets.end + length window) in
      let bytes : bytes_between all sets.end end ≡ window ++ take n at.0 = window_between all sets.end end window at fits in
      let whole : length (drop sets.end all) ≡ length window + length at.0 = ap length at.1 ∙ length-append window at.0 in
      let all_there : sets.end + length (window ++ take n at.0) ≡ end =
      omega (arith, fits, long, whole, length-drop sets.end all, length-append window (take n at.0), length-take n at.0) in
      let c = within (take n at.0) all_there in
      let high : read.end ≤ end = omega (arith, c.within, all_there) in
      let same : bytes_between all sets.end read.end ≡ take (read.end - sets.end) (window ++ take n at.0) =
      sym (take-take (read.end - sets.end) (end - sets.end) (drop sets.end all) (omega (arith, high)))
      ∙ ap (take (read.end - sets.end)) bytes in
      let both : bytes_between all start read.end
      ≡ bytes_between all start sets.end ++ take (read.end - sets.end) (window ++ take n at.0) =
      between_both all start sets.end read.end done.after c.after
      ∙ ap (λ xs. bytes_between all start sets.end ++ xs) same in
      record {
        after = omega (arith, done.after, c.after);
        keyed = subst (λ xs. AreKeyedSets (pos 0) None xs read.base read.last) (sym both)
            (sets_both (pos 0) None (bytes_between all start sets.end) sets.base sets.last
            (take (read.end - sets.end) (window ++ take n at.0)) read.base read.last done.keyed c.keyed);
      }

  -- The sets that were read in a window continue those before it.
  pub sets_on : (known : Option (List ℕ)) (read : RisingSets) → AreAt known sets.end window
      → IfSome known (λ all. end ≤ length all → SetsTo all start sets) → InWindow window sets end read
      → IfSome known (λ all. end ≤ length all → SetsTo all start read)
  sets_on None read at done within = tt
  sets_on (Some all) read at done within = λ long. read_in all at long (done long) read within

-- No sets were read at first.
pub sets_at : (all : List ℕ) (start : ℕ) (sets : RisingSets) → sets ≡ record { end = start; base = pos 0; last = None }
    → SetsTo all start sets
sets_at all start sets is =
    let first : RisingSets = record { end = start; base = pos 0; last = None } in
    let none : start - start ≡ 0 = omega arith in
    let here : SetsTo all start first = record {
      after = omega arith;
      keyed = subst (λ n. AreKeyedSets (pos 0) None (take n (drop start all)) (pos 0) None) (sym none) (no_sets (pos 0) None);
    } in
    subst (SetsTo all start) (sym is) here

-- The sets up to an offset are keyed from the start.
pub keyed_up_to : (known : Option (List ℕ)) (start end offset : ℕ) (sets : RisingSets) → sets.end - start ≡ offset - start
    → IfSome known (λ all. end ≤ length all → SetsTo all start sets)
    → IfSome known (λ all. end ≤ length all → StartKeyedSets (bytes_between all start offset))
keyed_up_to None start end offset sets same done = tt
keyed_up_to (Some all) start end offset sets same done = λ long. (
  sets.base,
  sets.last,
  subst (λ n. AreKeyedSets (pos 0) None (take n (drop start all)) sets.base sets.last) same (done long).keyed,
)

-- The sets before one whose key falls are keyed.
pub keyed_before : (known : Option (List ℕ)) (start end : ℕ) (sets : RisingSets)
    → IfSome known (λ all. end ≤ length all → SetsTo all start sets)
    → IfSome known (λ all. end ≤ length all → (start ≤ sets.end) × StartKeyedSets (bytes_between all start sets.end))
keyed_before None start end sets done = tt
keyed_before (Some all) start end sets done = λ long. ((done long).after, (sets.base, sets.last, (done long).keyed))
