-- The changes of the numbers when an entry is stored and the oldest one is evicted.
use Rattle.std.proofs.Common.{◌≡◌, ℕ, zero, suc, ◌+◌, ◌-◌, ◌<◌, ◌≤◌, ◌^◌, Bool, true, false, cond, List, [], ◌∷◌, ◌++◌, length, take, drop}
use Rattle.std.proofs.Common.{reverse, length-append, refl, sym, ap, ◌∙◌, subst, arith, Option, Some, None, inl, inr, nat_lt, if◌then◌else◌}
use Rattle.std.specs.Option.{option_map}
use Rattle.std.specs.List.{slice_get}
use Rattle.std.specs.HashMap as hash
use Rattle.std.specs.HashMap.{HashMap}
use Rattle.std.proofs.lemmas.List.{take_all, take_at, length-reverse, reverse-append}
use Rattle.std.specs.Map.{lookup, KeepsOthers}
use Rattle.std.specs.Cmp.{decided, IsEquivalence}
use Rattle.std.proofs.lemmas.Bool.{cases_Bool, cases_lt, lt-ltb, le-ltb, cond-true, cond-false}
use Rattle.o5_codec.specs.Table.{table_limit}
use Rattle.o5_codec.specs.Formed.{FormedEntry, same_entry, reference_to}
use Rattle.o5_codec.specs.SameEntry.{same_entry_decides}
use Rattle.o5_codec.specs.Indexed.{AreDistinct, Numbered, IsIndexed, IsNext}

same : IsEquivalence same_entry
same = decided same_entry same_entry_decides

apart : (e f k : FormedEntry) → same_entry e f ≡ false → same_entry e k ≡ true → same_entry f k ≡ false
apart e f k n y = same.symm f k ∙ sym (same.congr e k f y) ∙ n

-- a change at the entry `e` leaves the value of another entry unchanged
others_stay : {X : Type 0} (e f : FormedEntry) (old new : List (FormedEntry × X)) → KeepsOthers same_entry (λ k. same_entry e k) old new →
    same_entry e f ≡ false → lookup (λ k. same_entry f k) new ≡ lookup (λ k. same_entry f k) old
unfolding KeepsOthers
others_stay e f old new h n = h (λ k. same_entry f k) (λ x y. same.congr f x y) (λ k. apart e f k n)

-- A reference, if there is one, is from 1 to a bound.
abbrev pub Within : ℕ → Option ℕ → Type 0
Within k None = Unit {0}
Within k (Some i) = (0 < i) × (i ≤ k)

within_more : (k : ℕ) (r : Option ℕ) → Within k r → Within (suc k) (option_map (λ n. n + 1) r)
within_more k None h = tt
within_more k (Some i) h = (omega arith, omega arith)

-- a reference is within the table
pub within : (e : FormedEntry) (table : List FormedEntry) → Within (length table) (reference_to e table)
within e [] = tt
within e (x ∷ table) =
    elim (same_entry e x) as (λ b. Within (suc (length table)) (cond b (Some 1) (option_map (λ n. n + 1) (reference_to e table)))) [
      | true ↦ (omega arith, omega arith)
      | false ↦ within_more (length table) (reference_to e table) (within e table)
    ]

-- an entry that isn't the last one has the same reference without the last one
without_last : (e : FormedEntry) (table : List FormedEntry) (last : FormedEntry) → same_entry e last ≡ false →
    reference_to e (table ++ last ∷ []) ≡ reference_to e table
without_last e [] last n = cond-false (same_entry e last) (Some 1) None n
without_last e (x ∷ table) last n = ap (λ r. cond (same_entry e x) (Some 1) (option_map (λ n. n + 1) r)) (without_last e table last n)

none_before : (b : Bool) (r : Option ℕ) → cond b (Some 1) (option_map (λ n. n + 1) r) ≡ None → (b ≡ false) × (r ≡ None)
none_before true r e = cc
none_before false None e = (refl, refl)
none_before false (Some i) e = cc

none_at_all : (e : FormedEntry) (table : List FormedEntry) (last : FormedEntry) → reference_to e (table ++ last ∷ []) ≡ None →
    (reference_to e table ≡ None) × (same_entry e last ≡ false)
none_at_all e [] last h = (refl, (none_before (same_entry e last) None h).0)
none_at_all e (x ∷ table) last h =
    let first : (same_entry e x ≡ false) × (reference_to e (table ++ last ∷ []) ≡ None) = none_before _ _ h in
    let rest : (reference_to e table ≡ None) × (same_entry e last ≡ false) = none_at_all e table last first.1 in
    (cond-false (same_entry e x) _ _ first.0 ∙ ap (option_map (λ n. n + 1)) rest.0, rest.1)

distinct_last : (table : List FormedEntry) (last : FormedEntry) → AreDistinct (table ++ last ∷ []) →
    AreDistinct table × (reference_to last table ≡ None)
distinct_last [] last h = (tt, refl)
distinct_last (x ∷ table) last h =
    let first : (reference_to x table ≡ None) × (same_entry x last ≡ false) = none_at_all x table last h.0 in
    let rest : AreDistinct table × (reference_to last table ≡ None) = distinct_last table last h.1 in
    ((first.0, rest.0), cond-false (same_entry last x) _ _ (same.symm last x ∙ first.1) ∙ ap (option_map (λ n. n + 1)) rest.1)

-- the number at e is `now`, and at other entries it is unchanged
pub record IsChanged (e : FormedEntry) (now : Option ℕ) (number number' : FormedEntry → Option ℕ) : Type 0 where
  pub here : number' e ≡ now
  pub others : (f : FormedEntry) → same_entry e f ≡ false → number' f ≡ number f

are_none : (m next : ℕ) (r n : Option ℕ) → r ≡ None → n ≡ None → Numbered m next r n
are_none m next None None e f = tt
are_none m next None (Some n) e f = absurd (cc)
are_none m next (Some i) None e f = absurd (cc)
are_none m next (Some i) (Some n) e f = absurd (cc)

-- the last entry is evicted
evicted : (m most next : ℕ) (table : List FormedEntry) (last : FormedEntry) (number number' : FormedEntry → Option ℕ) →
    IsIndexed m most next (table ++ last ∷ []) number → IsChanged last None number number' → IsIndexed m most next table number'
evicted m most next table last number number' h changed =
    let rest : AreDistinct table × (reference_to last table ≡ None) = distinct_last table last h.distinct in
    record {
      few = omega (arith, h.few, length-append table (last ∷ []));
      below = h.below;
      distinct = rest.0;
      each = λ e. elim (cases_Bool (same_entry last e)) [
        | inl is ↦ subst (λ e. Numbered m next (reference_to e table) (number' e)) ((same_entry_decides last e).0 is)
            (are_none m next (reference_to last table) (number' last) rest.1 changed.here)
        | inr other ↦ subst (λ r. Numbered m next r (number' e)) (without_last e table last (same.symm e last ∙ other))
            (subst (λ n. Numbered m next (reference_to e (table ++ last ∷ [])) n) (sym (changed.others e other)) (h.each e))
      ];
    }

numbered_more : (m next after k : ℕ) (r n : Option ℕ) → IsNext m next after → k < m → Within k r → Numbered m next r n →
    Numbered m after (option_map (λ n. n + 1) r) n
numbered_more m next after k None None up few w h = tt
numbered_more m next after k None (Some n) up few w h = h
numbered_more m next after k (Some i) None up few w h = h
numbered_more m next after k (Some i) (Some n) up few w h = (
  h.0,
  elim up [
    | inl round ↦ elim h.1 [ inl low ↦ inr (omega arith) | inr high ↦ absurd (omega arith) ]
    | inr on ↦ elim h.1 [ inl low ↦ inl (omega arith) | inr high ↦ inr (omega arith) ]
  ],
)

first_number : (m next after : ℕ) → next < m → IsNext m next after → Numbered m after (Some 1) (Some next)
first_number m next after h up = (h, elim up [ inl round ↦ inr (omega arith) | inr on ↦ inl (omega arith) ])

-- an entry is stored
stored_one : (m most next after : ℕ) (table : List FormedEntry) (e : FormedEntry) (number number' : FormedEntry → Option ℕ) →
    IsIndexed m most next table number → length table < most → length table < m → reference_to e table ≡ None →
    IsNext m next after → IsChanged e (Some next) number number' →
    IsIndexed m most after (e ∷ table) number'
stored_one m most next after table e number number' h room small absent up changed = record {
  few = omega arith;
  below = elim up [ inl round ↦ omega arith | inr on ↦ omega arith ];
  distinct = (absent, h.distinct);
  each = λ f. elim (cases_Bool (same_entry e f)) [
    | inl is ↦ subst (λ f. Numbered m after (reference_to f (e ∷ table)) (number' f)) ((same_entry_decides e f).0 is)
        (subst (λ r. Numbered m after r (number' e)) (sym (cond-true (same_entry e e) (Some 1) _ ((same_entry_decides e e).1 refl)))
        (subst (λ n. Numbered m after (Some 1) n) (sym changed.here) (first_number m next after h.below up)))
    | inr other ↦ subst (λ r. Numbered m after r (number' f)) (sym (cond-false (same_entry f e) (Some 1) _ (same.symm f e ∙ other)))
        (subst (λ n. Numbered m after (option_map (λ n. n + 1) (reference_to f table)) n) (sym (changed.others f other))
        (numbered_more m next after (length table) _ _ up small (within f table) (h.each f)))
  ];
}

fewer : (m most more next : ℕ) (table : List FormedEntry) (number : FormedEntry → Option ℕ) → IsIndexed m more next table number →
    length table ≤ most → IsIndexed m most next table number
fewer m most more next table number h few = record { few = few; below = h.below; distinct = h.distinct; each = h.each }

-- an entry is stored, and none is evicted yet
stored_over : (m most next after : ℕ) (table : List FormedEntry) (e : FormedEntry) (number number' : FormedEntry → Option ℕ) → most < m →
    IsIndexed m most next table number → reference_to e table ≡ None → IsNext m next after → IsChanged e (Some next) number number' →
    IsIndexed m (suc most) after (e ∷ table) number'
stored_over m most next after table e number number' small h absent up changed =
    stored_one m (suc most) next after table e number number' (fewer m (suc most) most next table number h (omega (arith, h.few)))
    (omega (arith, h.few)) (omega (arith, h.few)) absent up changed

-- the item that a push to a ring of the capacity `capacity` evicts
abbrev pub gone_from : {X : Type 0} → ℕ → List X → X → Option X
gone_from capacity xs x = if nat_lt (length xs) capacity then None else slice_get (xs ++ x ∷ []) 0

has_first : {X : Type 0} (xs : List X) (x : X) → slice_get (xs ++ x ∷ []) 0 ≡ None → ⊥
has_first [] x none = cc
has_first (y ∷ ys) x none = cc

first_of : {X : Type 0} (xs : List X) (x : X) → slice_get xs 0 ≡ Some x → xs ≡ x ∷ drop 1 xs
first_of [] x at = absurd (cc)
first_of (y ∷ ys) x at = let same : y ≡ x = cc in ap (λ z. z ∷ ys) same

-- an entry is stored in a ring that has room
pub put_free : (m most next after capacity : ℕ) (xs : List FormedEntry) (e : FormedEntry) (number number' : FormedEntry → Option ℕ) →
    most < m → capacity ≡ most →
    IsIndexed m most next (reverse xs) number → reference_to e (reverse xs) ≡ None → IsNext m next after →
    IsChanged e (Some next) number number' →
    None ≡ gone_from capacity xs e → IsIndexed m most after (take most (e ∷ reverse xs)) number'
put_free m most next after capacity xs e number number' small full h absent up changed gone =
    let over = stored_over m most next after (reverse xs) e number number' small h absent up changed in
    let none : None ≡ gone_from most xs e = subst (λ k. None ≡ gone_from k xs e) full gone in
    elim (cases_lt (length xs) most) [
      | inl lt ↦ (let few : length (e ∷ reverse xs) ≤ most = omega (arith, length-reverse xs) in
          subst (λ t. IsIndexed m most after t number') (sym (take_all most (e ∷ reverse xs) few))
          (fewer m most (suc most) after (e ∷ reverse xs) number' over few))
      | inr le ↦ absurd (has_first xs e (sym (rw (le-ltb (length xs) most le) at none)))
    ]

-- an entry is stored in a full ring, and the oldest one is evicted
pub put_full : (m most next after capacity : ℕ) (xs : List FormedEntry) (e last : FormedEntry)
    (number number' number'' : FormedEntry → Option ℕ) → most < m → capacity ≡ most →
    IsIndexed m most next (reverse xs) number → reference_to e (reverse xs) ≡ None → IsNext m next after →
    IsChanged e (Some next) number number' →
    Some last ≡ gone_from capacity xs e → IsChanged last None number' number'' →
    IsIndexed m most after (take most (e ∷ reverse xs)) number''
put_full m most next after capacity xs e last number number' number'' small full h absent up changed gone removed =
    let over = stored_over m most next after (reverse xs) e number number' small h absent up changed in
    let some : Some last ≡ gone_from most xs e = subst (λ k. Some last ≡ gone_from k xs e) full gone in
    elim (cases_lt (length xs) most) [
      | inl lt ↦ absurd (let clash : Some last ≡ None = rw (lt-ltb (length xs) most lt) at some in cc)
      | inr le ↦ (let at : slice_get (xs ++ e ∷ []) 0 ≡ Some last = sym (rw (le-ltb (length xs) most le) at some) in
          let rest : List FormedEntry = drop 1 (xs ++ e ∷ []) in
          let turned : e ∷ reverse xs ≡ reverse rest ++ last ∷ [] =
          sym (reverse-append xs (e ∷ [])) ∙ ap reverse (first_of (xs ++ e ∷ []) last at) ∙ reverse-append (last ∷ []) rest in
          let both : suc (length (reverse xs)) ≡ length (reverse rest) + 1 = ap length turned ∙ length-append (reverse rest) (last ∷ []) in
          let long : length (reverse rest) ≡ most = omega (arith, h.few, length-reverse xs) in
          subst (λ t. IsIndexed m most after t number'') (sym (ap (take most) turned ∙ take_at (reverse rest) (last ∷ []) most long))
          (fewer m most (suc most) after (reverse rest) number''
          (evicted m (suc most) after (reverse rest) last number' number''
          (subst (λ t. IsIndexed m (suc most) after t number') turned over) removed) (omega arith)))
    ]

-- the reference of an entry whose number is below `next`
pub found_low : (m most next n : ℕ) (r : Option ℕ) → Numbered m next r (Some n) → Within most r → most < m → n < next → r ≡ Some (next - n)
found_low m most next n None h w small lt = absurd h
found_low m most next n (Some i) h w small lt = ap (λ k. Some k) (elim h.1 [ inl a ↦ omega arith | inr b ↦ absurd (omega arith) ])

-- The reference of an entry whose number isn't below `next`: the number was given before the count wrapped around.
pub found_high : (m most next n : ℕ) (r : Option ℕ) → Numbered m next r (Some n) → Within most r → next ≤ n → r ≡ Some (next + m - n)
found_high m most next n None h w le = absurd h
found_high m most next n (Some i) h w le = ap (λ k. Some k) (elim h.1 [ inl a ↦ absurd (omega arith) | inr b ↦ omega arith ])

-- The number of an entry is below the modulus.
pub number_below : (m next n : ℕ) (r : Option ℕ) → Numbered m next r (Some n) → n < m
number_below m next n None h = absurd h
number_below m next n (Some i) h = h.0

-- a number that isn't below `next` is at most `most` below `next + m`
pub room_above : (m most next n : ℕ) (r : Option ℕ) → Numbered m next r (Some n) → Within most r → next ≤ n → next + m ≤ n + most
room_above m most next n None h w le = absurd h
room_above m most next n (Some i) h w le = elim h.1 [ inl a ↦ absurd (omega arith) | inr b ↦ omega arith ]

within_up : (k m : ℕ) (r : Option ℕ) → k ≤ m → Within k r → Within m r
within_up k m None le w = tt
within_up k m (Some i) le w = (w.0, omega arith)

-- An entry that has a number is in the table, at the reference that belongs to the number.
pub found_in : (m most next : ℕ) (table : List FormedEntry) (number : FormedEntry → Option ℕ) (e : FormedEntry) (n : ℕ) →
    IsIndexed m most next table number → Some n ≡ number e →
    Numbered m next (reference_to e table) (Some n) × Within most (reference_to e table)
found_in m most next table number e n h is =
    (subst (λ o. Numbered m next (reference_to e table) o) (sym is) (h.each e), within_up (length table) most _ h.few (within e table))

-- An empty table has no numbers.
pub nothing_indexed : (m most next : ℕ) → next < m → (number : FormedEntry → Option ℕ) → ((e : FormedEntry) → number e ≡ None) →
    IsIndexed m most next [] number
nothing_indexed m most next below number none = record {
  few = omega arith;
  below = below;
  distinct = tt;
  each = λ e. are_none m next None (number e) refl (none e);
}

-- An update of the map changes one number only.
pub changed_by : {S : Type 0} (e : FormedEntry) (w : Option ℕ) (old new : HashMap FormedEntry ℕ S) →
    hash.UpdatesBy same_entry (λ k. same_entry e k) old new w →
    IsChanged e w (λ f. hash.get_by (same_entry f) old) (λ f. hash.get_by (same_entry f) new)
changed_by e w old new h = record { here = h.1; others = λ f n. others_stay e f _ _ h.3 n }

-- The size of a table is below 2^64.
pub limit_is_small : table_limit < 2 ^ 64
unfolding table_limit
limit_is_small = omega arith

-- an entry of a table without repeats has the reference that its index gives
pub standing : (table : List FormedEntry) (i : ℕ) (e : FormedEntry) → AreDistinct table → slice_get table i ≡ Some e →
    reference_to e table ≡ Some (i + 1)
standing [] i e distinct at = absurd (cc)
standing (x ∷ table) zero e distinct at =
    let here : x ≡ e = cc in
    cond-true (same_entry e x) (Some 1) _ ((same_entry_decides e x).1 (sym here))
standing (x ∷ table) (suc i) e distinct at =
    let later : reference_to e table ≡ Some (i + 1) = standing table i e distinct.1 at in
    elim (cases_Bool (same_entry e x)) [
      | inl is ↦ absurd (let twice : Some (i + 1) ≡ None =
          sym later ∙ ap (λ f. reference_to f table) ((same_entry_decides e x).0 is) ∙ distinct.0 in cc)
      | inr other ↦ (let one : i + 1 + 1 ≡ suc i + 1 = omega arith in
          cond-false (same_entry e x) (Some 1) _ other ∙ ap (option_map (λ n. n + 1)) later ∙ ap (λ n. Some n) one)
    ]
