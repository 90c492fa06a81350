-- Bytes after a whole faulty unit change no verdict.
use Rattle.std.proofs.Common.{◌≡◌, ◌⊎◌, ⊎_elim, inl, inr, ℕ, zero, suc, ◌+◌, ◌-◌, ◌≤◌, ◌<◌, ◌^◌, true, false, cond, List, [], ◌∷◌, ◌++◌}
use Rattle.std.proofs.Common.{length}
use Rattle.std.proofs.Common.{drop, take, refl, sym, ap, ◌∙◌, arith, Option, Some, None, Ok, Err, length-drop, nat_lt}
use Rattle.std.proofs.lemmas.List.{append-nil, drop-append-le}
use Rattle.std.proofs.Math.Seq.{take-append-add}
use Rattle.std.proofs.lemmas.Bool.{cases_lt}
use Rattle.osm_model.specs.Data.{VersionData}
use Rattle.osm_files.specs.Input.{failed_after}
use Rattle.osm_files.specs.declared.reason.Reason.{Reason}
use Rattle.osm_files.specs.declared.reason.Reason.TheVariants.{Unsorted, ReadFault}
use Rattle.osm_files.specs.Groups.{sorted_source}
use Rattle.osm_files.specs.LoadLaws.{IsFaultyWhole}
use Rattle.osm_files.specs.SourceLaws.{verdict_within, IsFaultyWithin, FaultyOrClosed, FaultyStays, MalformedStays}
use Rattle.osm_files.specs.Stream.{Verdict, verdict_at, Placed, new_placed, SourceRest, end_refused, front}
use Rattle.osm_files.specs.Units.{FileStateData, InOpl, UnitResult, FileUnit, unit_at, found_then, units, start_of}
use Rattle.osm_files.specs.Verdict.{length_limit, too_long_verdict, file_units, verdict, is_below, sorted_verdict, verdict_sorted}
use Rattle.osm_files.proofs.HoldLaws.{whole_source_is_held, failed_source_ends, long_source_ends}
use Rattle.osm_files.proofs.StepLaws.{unit_sized, units_step, units_stop}
use Rattle.osm_files.proofs.StayLaws.{unit_stays}
use Rattle.osm_files.proofs.LoadLaws.{unnamed}

abbrev pub Units : Type 0
Units = SourceRest Placed Verdict

-- these versions, and then others
abbrev pub after : List Placed → Units → Units
after us still = record { list = us ++ still.list; refusal = still.refusal }

-- none of the whole units in these bytes is faulty
pub record Closes (stage : FileStateData) (offset : ℕ) (bytes : List ℕ) : Type 0 where
  pub list : List Placed
  pub closes : (close : Verdict) → units (Some close) stage offset bytes ≡ record { list = list; refusal = Some close }
  pub longer : (more : List ℕ) (close : Option Verdict) → (still : Units) × (units close stage offset (bytes ++ more) ≡ after list still)

-- one of the whole units in these bytes is faulty
pub record RefusesUnit (stage : FileStateData) (offset : ℕ) (bytes : List ℕ) : Type 0 where
  pub list : List Placed
  pub fault : Verdict
  pub faulty : (close : Verdict) → units (Some close) stage offset bytes ≡ record { list = list; refusal = Some fault }
  pub stays : (more : List ℕ) (close : Option Verdict)
      → units close stage offset (bytes ++ more) ≡ record { list = list; refusal = Some fault }

abbrev pub Splits : FileStateData → ℕ → List ℕ → Type 0
Splits stage offset bytes = Closes stage offset bytes ⊎ RefusesUnit stage offset bytes

none_whole : (stage : FileStateData) (offset : ℕ) (bytes : List ℕ) → unit_at stage bytes ≡ None → Splits stage offset bytes
none_whole stage offset bytes none = inl (record {
  list = [];
  closes = λ close. units_stop (Some close) stage offset bytes none;
  longer = λ more close. (units close stage offset (bytes ++ more), refl);
})

-- the unit at the front is found to be faulty, or passed, or a version
module _ (stage : FileStateData) (offset : ℕ) (bytes : List ℕ) (u : FileUnit) (there : unit_at stage bytes ≡ Some u) where
  abbrev rest : List ℕ
  rest = drop u.size bytes

  here : (close : Option Verdict) → units close stage offset bytes
      ≡ found_then offset u.found (λ next. units close next (offset + u.size) rest)
  here close = units_step close stage offset bytes u there

  further : (more : List ℕ) (close : Option Verdict) →
      units close stage offset (bytes ++ more) ≡ found_then offset u.found (λ next. units close next (offset + u.size) (rest ++ more))
  further more close =
      let sized = unit_sized stage bytes u there in
      units_step close stage offset (bytes ++ more) u (unit_stays stage bytes more u there)
      ∙ ap (λ bs. found_then offset u.found (λ next. units close next (offset + u.size) bs)) (drop-append-le u.size bytes more sized.within)

  by_found : (found : UnitResult) → u.found ≡ found → ((next : FileStateData) → Splits next (offset + u.size) rest) →
      Splits stage offset bytes
  by_found (Err reason) e on = inr (record {
    list = [];
    fault = verdict_at offset reason;
    faulty = λ close. here (Some close) ∙ ap (λ f. found_then offset f (λ next. units (Some close) next (offset + u.size) rest)) e;
    stays = λ more close. further more close ∙ ap (λ f. found_then offset f (λ next. units close next (offset + u.size) (rest ++ more))) e;
  })
  by_found (Ok (None, next)) e on = elim (on next) [
    | inl h ↦ inl (record {
      list = h.list;
      closes = λ close. here (Some close) ∙ ap (λ f. found_then offset f (λ n. units (Some close) n (offset + u.size) rest)) e
          ∙ h.closes close;
      longer = λ more close. (let k = h.longer more close in
          (k.0, further more close ∙ ap (λ f. found_then offset f (λ n. units close n (offset + u.size) (rest ++ more))) e ∙ k.1));
    })
    | inr h ↦ inr (record {
      list = h.list;
      fault = h.fault;
      faulty = λ close. here (Some close) ∙ ap (λ f. found_then offset f (λ n. units (Some close) n (offset + u.size) rest)) e
          ∙ h.faulty close;
      stays = λ more close. further more close ∙ ap (λ f. found_then offset f (λ n. units close n (offset + u.size) (rest ++ more))) e
          ∙ h.stays more close;
    })
  ]
  by_found (Ok (Some v, next)) e on = elim (on next) [
    | inl h ↦ inl (record {
      list = new_placed offset v ∷ h.list;
      closes = λ close. here (Some close) ∙ ap (λ f. found_then offset f (λ n. units (Some close) n (offset + u.size) rest)) e
          ∙ ap (front (new_placed offset v)) (h.closes close);
      longer = λ more close. (let k = h.longer more close in (
        k.0,
        further more close ∙ ap (λ f. found_then offset f (λ n. units close n (offset + u.size) (rest ++ more))) e
            ∙ ap (front (new_placed offset v)) k.1,
      ));
    })
    | inr h ↦ inr (record {
      list = new_placed offset v ∷ h.list;
      fault = h.fault;
      faulty = λ close. here (Some close) ∙ ap (λ f. found_then offset f (λ n. units (Some close) n (offset + u.size) rest)) e
          ∙ ap (front (new_placed offset v)) (h.faulty close);
      stays = λ more close. further more close ∙ ap (λ f. found_then offset f (λ n. units close n (offset + u.size) (rest ++ more))) e
          ∙ ap (front (new_placed offset v)) (h.stays more close);
    })
  ]

by_unit : (stage : FileStateData) (offset : ℕ) (bytes : List ℕ) (found : Option FileUnit) → unit_at stage bytes ≡ found →
    ((u : FileUnit) → unit_at stage bytes ≡ Some u → (next : FileStateData) → Splits next (offset + u.size) (drop u.size bytes)) →
    Splits stage offset bytes
by_unit stage offset bytes None e on = none_whole stage offset bytes e
by_unit stage offset bytes (Some u) e on = by_found stage offset bytes u e u.found refl (on u e)

-- The whole units in some bytes are the same, whatever follows the bytes.
pub splits : (n : ℕ) (stage : FileStateData) (offset : ℕ) (bytes : List ℕ) → length bytes ≤ n → Splits stage offset bytes
splits zero stage offset bytes few = by_unit stage offset bytes (unit_at stage bytes) refl
    (λ u e. let sized = unit_sized stage bytes u e in absurd (omega (arith, sized.some, sized.within, few)))
splits (suc n) stage offset bytes few =
    by_unit stage offset bytes (unit_at stage bytes) refl
    (λ u e next. let sized = unit_sized stage bytes u e in
    splits n next (offset + u.size) (drop u.size bytes) (omega (arith, length-drop u.size bytes, sized.some, sized.within, few)))

-- ---- on their order
-- the key of one of these versions is below that of the version before it, or the key of none is
abbrev Orders : Option VersionData → List Placed → Type 0
Orders before us =
    ((fault : Verdict) × ((close : Option Verdict) (others : List Placed) → sorted_verdict close before (us ++ others) ≡ Some fault))
    ⊎ ((close : Option Verdict) → sorted_verdict close before us ≡ close)

orders : (before : Option VersionData) (us : List Placed) → Orders before us
orders before [] = inr (λ close. refl)
orders before (u ∷ us) =
    elim (is_below u.version before) as (λ t. is_below u.version before ≡ t → Orders before (u ∷ us)) [
      | true ↦ λ e. inl (
        verdict_at u.offset Unsorted,
        λ close others. ap (λ t. cond t (Some (verdict_at u.offset Unsorted)) (sorted_verdict close (Some u.version) (us ++ others))) e,
      )
      | false ↦ λ e. elim (orders (Some u.version) us) [
        | inl h ↦ inl (
          h.0,
          λ close others. ap (λ t. cond t (Some (verdict_at u.offset Unsorted))
              (sorted_verdict close (Some u.version) (us ++ others))) e ∙ h.1 close others,
        )
        | inr h ↦ inr (λ close. ap (λ t. cond t (Some (verdict_at u.offset Unsorted)) (sorted_verdict close (Some u.version) us)) e
            ∙ h close)
      ]
    ] refl

of_units : Units → Option Verdict
of_units still = sorted_verdict still.refusal None still.list

-- the verdict of the whole units of some bytes, whatever follows them
abbrev Says : List ℕ → Type 0
Says bytes =
    ((fault : Verdict) × IsFaultyWithin bytes fault ×
    ((more : List ℕ) (close : Option Verdict) → of_units (units close (start_of bytes) 0 (bytes ++ more)) ≡ Some fault))
    ⊎ ((close : Verdict) → verdict_within close bytes ≡ Some close)

says_closed : (bytes : List ℕ) (h : Closes (start_of bytes) 0 bytes) → Orders None h.list → Says bytes
unfolding of_units
says_closed bytes h (inl k) = inl (
  k.0,
  λ close. ap of_units (h.closes close) ∙ ap (λ us. sorted_verdict (Some close) None us) (sym (append-nil h.list)) ∙ k.1 (Some close) [],
  λ more close. (let l = h.longer more close in ap of_units l.1 ∙ k.1 l.0.refusal l.0.list),
)
says_closed bytes h (inr k) = inr (λ close. ap of_units (h.closes close) ∙ k (Some close))

says_refused : (bytes : List ℕ) (h : RefusesUnit (start_of bytes) 0 bytes) → Orders None h.list → Says bytes
unfolding of_units
says_refused bytes h (inl k) =
    let same : sorted_verdict (Some h.fault) None h.list ≡ Some k.0 =
    ap (λ us. sorted_verdict (Some h.fault) None us) (sym (append-nil h.list)) ∙ k.1 (Some h.fault) [] in
    inl (k.0, λ close. ap of_units (h.faulty close) ∙ same, λ more close. ap of_units (h.stays more close) ∙ same)
says_refused bytes h (inr k) = inl (
  h.fault,
  λ close. ap of_units (h.faulty close)
      ∙ k (Some h.fault),
  λ more close. ap of_units (h.stays more close) ∙ k (Some h.fault),
)

says : (bytes : List ℕ) → Says bytes
says bytes = elim (splits (length bytes) (start_of bytes) 0 bytes (omega arith)) [
  | inl h ↦ says_closed bytes h (orders None h.list)
  | inr h ↦ says_refused bytes h (orders None h.list)
]

-- Either the whole units of some bytes have a fault, whatever closes the bytes, or their verdict is the one that closes the bytes.
pub faulty_or_closed : FaultyOrClosed
faulty_or_closed bytes = elim (says bytes) [
  | inl h ↦ inl (h.0, h.1)
  | inr h ↦ inr h
]

never_none : (bytes : List ℕ) (close : Verdict) → verdict_within close bytes ≡ None → ⊥
never_none bytes close e = elim (faulty_or_closed bytes) [
  | inl h ↦ absurd (let f : None ≡ Some h.0 = sym e ∙ h.1 close in cc)
  | inr h ↦ absurd (let f : None ≡ Some close = sym e ∙ h close in cc)
]

-- if bytes are refused at their end, their source is refused
pub failed_is_refused : (reason : Reason) (input : ℕ) (bytes : List ℕ) → (sorted_source input (failed_after reason bytes)).refusal ≡ None
    → ⊥
failed_is_refused reason input bytes e =
    elim (cases_lt (length bytes) (2 ^ 62)) [
      | inl short ↦ never_none bytes (verdict_at (length bytes) reason)
          (unnamed input (verdict_within (verdict_at (length bytes) reason) bytes) (sym (failed_source_ends reason input bytes short) ∙ e))
      | inr long ↦
          let held = whole_source_is_held input bytes (ap (λ s. s.refusal) (sym (long_source_ends reason input bytes long)) ∙ e) in
          absurd (let short = held.short in omega (arith, short, long))
    ]

-- ---- whole files
-- the bytes that count, of a file that begins with `bytes`
record Begins (bytes more : List ℕ) : Type 0 where
  close : Option Verdict
  others : List ℕ
  same : file_units (bytes ++ more) ≡ units close (start_of (bytes ++ more)) 0 (bytes ++ others)

file_begins : (bytes more : List ℕ) → length bytes < 2 ^ 62 → Begins bytes more
unfolding file_units length_limit
file_begins bytes more short =
    let all : List ℕ = bytes ++ more in
    let few : ℕ = 2 ^ 62 - 1 - length bytes in
    let room : 2 ^ 62 - 1 ≡ length bytes + few = omega (arith, short) in
    let front : take (2 ^ 62 - 1) all ≡ bytes ++ take few more = ap (λ n. take n all) room ∙ take-append-add bytes more few in
    elim (nat_lt (length all) (2 ^ 62)) as (λ t. nat_lt (length all) (2 ^ 62) ≡ t → Begins bytes more) [
      | true ↦ λ e. record {
        close = None;
        others = more;
        same =
            ap (λ t. cond t (units None (start_of all) 0 all) (units (Some too_long_verdict) (start_of all) 0 (take (2 ^ 62 - 1) all))) e;
      }
      | false ↦ λ e. record {
        close = Some too_long_verdict;
        others = take few more;
        same = ap (λ t. cond t (units None (start_of all) 0 all) (units (Some too_long_verdict) (start_of all) 0 (take (2 ^ 62 - 1) all))) e
            ∙ ap (units (Some too_long_verdict) (start_of all) 0) front;
      }
    ] refl

-- two different closings don't both have the verdict that closes them
not_both : (fault : Verdict) → Some fault ≡ Some (verdict_at 0 ReadFault) → Some fault ≡ Some (verdict_at 1 ReadFault) → ⊥
not_both fault e f =
    let same : verdict_at 0 ReadFault ≡ verdict_at 1 ReadFault =
    (let g : Some (verdict_at 0 ReadFault) ≡ Some (verdict_at 1 ReadFault) = sym e ∙ f in cc) in
    let none : 0 ≡ 1 = ap (λ v. v.place) same in
    omega (arith, none)

nothing_in_nothing : unit_at InOpl [] ≡ None
unfolding unit_at
nothing_in_nothing = refl

pub nothing_closes : (close : Verdict) → units (Some close) InOpl 0 [] ≡ end_refused close
nothing_closes close = units_stop (Some close) InOpl 0 [] nothing_in_nothing

module _ (fault : Verdict) where
  sorted_stays : (bytes more : List ℕ) → length bytes < 2 ^ 62 → IsFaultyWithin bytes fault → Says bytes →
      start_of (bytes ++ more) ≡ start_of bytes → verdict_sorted (bytes ++ more) ≡ Some fault
  unfolding of_units
  sorted_stays bytes more short faulty (inr closes) same =
      absurd (not_both fault (sym (faulty (verdict_at 0 ReadFault)) ∙ closes (verdict_at 0 ReadFault))
      (sym (faulty (verdict_at 1 ReadFault)) ∙ closes (verdict_at 1 ReadFault)))
  sorted_stays bytes more short faulty (inl (v, within, stays)) same =
      let b = file_begins bytes more short in
      ap of_units (b.same ∙ ap (λ s. units b.close s 0 (bytes ++ b.others)) same) ∙ stays b.others b.close ∙ sym (within too_long_verdict)
      ∙ faulty too_long_verdict

  stays_whatever : (bytes more : List ℕ) → length bytes < 2 ^ 62 →
      ((close : Verdict) → (units (Some close) (start_of bytes) 0 bytes).refusal ≡ Some fault) → Splits (start_of bytes) 0 bytes →
      start_of (bytes ++ more) ≡ start_of bytes
      → verdict (bytes ++ more) ≡ Some fault
  stays_whatever bytes more short faulty (inl h) same = absurd (not_both fault
      (sym (faulty (verdict_at 0 ReadFault)) ∙ ap (λ s. s.refusal) (h.closes (verdict_at 0 ReadFault)))
      (sym (faulty (verdict_at 1 ReadFault)) ∙ ap (λ s. s.refusal) (h.closes (verdict_at 1 ReadFault))))
  stays_whatever bytes more short faulty (inr h) same =
      let b = file_begins bytes more short in
      ap (λ s. s.refusal) (b.same ∙ ap (λ s. units b.close s 0 (bytes ++ b.others)) same ∙ h.stays b.others b.close)
      ∙ sym (ap (λ s. s.refusal) (h.faulty too_long_verdict)) ∙ faulty too_long_verdict

-- A whole faulty unit stays faulty if more bytes follow.
pub faulty_within_stays : (bytes more : List ℕ) (fault : Verdict) → IsFaultyWithin bytes fault → IsFaultyWithin (bytes ++ more) fault
unfolding of_units
faulty_within_stays [] more fault faulty =
    absurd (not_both fault
    (sym (faulty (verdict_at 0 ReadFault)) ∙ ap (λ s. sorted_verdict s.refusal None s.list) (nothing_closes (verdict_at 0 ReadFault)))
    (sym (faulty (verdict_at 1 ReadFault)) ∙ ap (λ s. sorted_verdict s.refusal None s.list) (nothing_closes (verdict_at 1 ReadFault))))
faulty_within_stays (b ∷ bytes) more fault faulty = elim (says (b ∷ bytes)) [
  | inl (v, within, stays) ↦ λ close. stays more (Some close) ∙ sym (within too_long_verdict) ∙ faulty too_long_verdict
  | inr closes ↦ absurd (not_both fault (sym (faulty (verdict_at 0 ReadFault)) ∙ closes (verdict_at 0 ReadFault))
      (sym (faulty (verdict_at 1 ReadFault)) ∙ closes (verdict_at 1 ReadFault)))
]

-- A whole malformed unit stays malformed if more bytes follow.
pub malformed_whole_stays : (bytes more : List ℕ) (fault : Verdict) → IsFaultyWhole bytes fault → IsFaultyWhole (bytes ++ more) fault
malformed_whole_stays [] more fault faulty =
    absurd (not_both fault
    (sym (faulty (verdict_at 0 ReadFault)) ∙ ap (λ s. s.refusal) (nothing_closes (verdict_at 0 ReadFault)))
    (sym (faulty (verdict_at 1 ReadFault)) ∙ ap (λ s. s.refusal) (nothing_closes (verdict_at 1 ReadFault))))
malformed_whole_stays (b ∷ bytes) more fault faulty =
    ⊎_elim (λ (h : Closes (start_of (b ∷ bytes)) 0 (b ∷ bytes)). absurd (not_both fault
    (sym (faulty (verdict_at 0 ReadFault)) ∙ ap (λ s. s.refusal) (h.closes (verdict_at 0 ReadFault)))
    (sym (faulty (verdict_at 1 ReadFault)) ∙ ap (λ s. s.refusal) (h.closes (verdict_at 1 ReadFault)))))
    (λ (h : RefusesUnit (start_of (b ∷ bytes)) 0 (b ∷ bytes)).
    λ close. ap (λ s. s.refusal) (h.stays more (Some close)) ∙ sym (ap (λ s. s.refusal) (h.faulty too_long_verdict))
    ∙ faulty too_long_verdict)
    (splits (length (b ∷ bytes)) (start_of (b ∷ bytes)) 0 (b ∷ bytes) (omega arith))

-- Bytes after a whole faulty unit don't change the verdict on order.
pub faulty_stays : FaultyStays
faulty_stays [] more fault short faulty =
    absurd (not_both fault
    (sym (faulty (verdict_at 0 ReadFault)) ∙ ap (λ s. sorted_verdict s.refusal None s.list) (nothing_closes (verdict_at 0 ReadFault)))
    (sym (faulty (verdict_at 1 ReadFault)) ∙ ap (λ s. sorted_verdict s.refusal None s.list) (nothing_closes (verdict_at 1 ReadFault))))
faulty_stays (b ∷ bytes) more fault short faulty = sorted_stays fault (b ∷ bytes) more short faulty (says (b ∷ bytes)) refl

-- Bytes after a whole malformed unit don't change the verdict.
pub malformed_stays : MalformedStays
malformed_stays [] more fault short faulty =
    absurd (not_both fault
    (sym (faulty (verdict_at 0 ReadFault)) ∙ ap (λ s. s.refusal) (nothing_closes (verdict_at 0 ReadFault)))
    (sym (faulty (verdict_at 1 ReadFault)) ∙ ap (λ s. s.refusal) (nothing_closes (verdict_at 1 ReadFault))))
malformed_stays (b ∷ bytes) more fault short faulty =
    stays_whatever fault (b ∷ bytes) more short faulty (splits (length (b ∷ bytes)) (start_of (b ∷ bytes)) 0 (b ∷ bytes) (omega arith)) refl
