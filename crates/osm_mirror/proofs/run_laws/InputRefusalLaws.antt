-- Why a job is refused: the fault of one of its inputs, which has the number of that input.
use Rattle.std.proofs.Common.{◌≡◌, ◌⊎◌, inl, inr, ⊎_elim, ℕ, zero, suc, ◌+◌, ◌<◌, List, [], ◌∷◌, ◌++◌}
use Rattle.std.proofs.Common.{length, Option, Some, None, sym, ap, ◌∙◌, subst, arith, refl, Bool, true, false, not, ◌||◌, cond}
use Rattle.std.specs.List.{list_any}
use Rattle.std.specs.List.{All}
use Rattle.std.proofs.lemmas.List.Elements.{All-head, All-tail}
use Rattle.osm_model.specs.Data.{VersionData}
use Rattle.osm_files.specs.declared.fault.Fault.{Fault}
use Rattle.osm_files.specs.Input.{InputRest}
use Rattle.osm_files.specs.Groups.{sorted_source}
use Rattle.osm_files.specs.Position.{units_from, with_input}
use Rattle.osm_files.specs.SourceLaws.{input_verdict}
use Rattle.osm_files.specs.Stream.{end_whole, end_refused}
use Rattle.osm_files.specs.Verdict.{versions_of}
use Rattle.osm_files.proofs.HoldLaws.{source_refusal}
use Rattle.osm_files.proofs.FirstLaws.{refusal_input}
use Rattle.osm_merge.specs.declared.within.Outside.TheVariants.{Dropped, Refused}
use Rattle.osm_merge.specs.Slice.{is_under, is_within}
use Rattle.osm_merge.specs.ToCome as source
use Rattle.osm_merge.specs.ToCome.{rest_at}
use Rattle.osm_merge.specs.Within.{up_to, from_bound, stray_fault}
use Rattle.osm_mirror.specs.declared.run.files_job.Order.TheVariants.{Sorted, Any}
use Rattle.osm_mirror.specs.declared.run.input.ReadAs.{ReadAs}
use Rattle.osm_mirror.specs.declared.run.input.ReadAs.TheVariants.{InOrder, Within}
use Rattle.osm_mirror.specs.run.Given.{source_of, held_source, whole_or_refused, refusal, CannotBeRead, IsRead, IsUnread, sources}
use Rattle.osm_mirror.proofs.run_laws.SourceLaws as source_laws

-- ---- the faults of inputs
-- One of these inputs, which is read in one of the ways `Ways`, is refused with this fault. The inputs are numbered from
-- `number` on.
abbrev pub SomeRefused : (ReadAs → Type 0) → ℕ → List (ReadAs × InputRest) → Fault → Type 0
SomeRefused Ways number [] fault = ⊥
SomeRefused Ways number (x ∷ xs) fault =
    (Ways x.0 × ((source_of number x).refusal ≡ Some fault)) ⊎ SomeRefused Ways (number + 1) xs fault

-- any way, and those of inputs that aren't read to their end first
abbrev pub AnyWay : ReadAs → Type 0
AnyWay how = Unit {0}

abbrev pub Streamed : ReadAs → Type 0
Streamed how = how ≡ InOrder Any → ⊥

-- an input that was read to its end isn't refused
is_streamed : (number : ℕ) (x : ReadAs × InputRest) (fault : Fault) → IsRead x → (source_of number x).refusal ≡ Some fault → Streamed x.0
is_streamed number (InOrder Sorted, c) fault read e any = (let f : InOrder Sorted ≡ InOrder Any = any in cc)
is_streamed number (InOrder Any, c) fault (held, gave) e any =
    let whole = source_laws.as_given number (InOrder Any, c) held gave in
    (let f : None ≡ Some fault = sym whole.0 ∙ e in cc)
is_streamed number (Within span outside, c) fault read e any =
    (let f : Within span outside ≡ InOrder Any = any in cc)

pub refused_at : (number : ℕ) (inputs : List (ReadAs × InputRest)) (index : ℕ) (fault : Fault) → All IsRead inputs
    → index < length (sources number inputs) → (rest_at (sources number inputs) index).refusal ≡ Some fault
    → SomeRefused Streamed number inputs fault
refused_at number [] index fault reads low e = absurd (omega (arith, low))
refused_at number (x ∷ xs) zero fault reads low e = inl (is_streamed number x fault (All-head IsRead x xs reads) e, e)
refused_at number (x ∷ xs) (suc k) fault reads low e =
    inr (refused_at (number + 1) xs k fault (All-tail IsRead x xs reads) (omega (arith, low)) e)

cannot_read : (number : ℕ) (x : ReadAs × InputRest) (fault : Fault) → CannotBeRead number x fault
    → (source_of number x).refusal ≡ Some fault
unfolding held_source
cannot_read number (InOrder Sorted, c) fault u = absurd u
cannot_read number (InOrder Any, c) fault u =
    ap (λ r. (whole_or_refused r (versions_of (with_input number (units_from None 0 c)).list)).refusal) u
cannot_read number (Within span outside, c) fault u = absurd u

pub unread_refused : (number : ℕ) (inputs : List (ReadAs × InputRest)) (fault : Fault) → IsUnread number inputs fault
    → SomeRefused AnyWay number inputs fault
unread_refused number [] fault u = absurd u
unread_refused number (x ∷ xs) fault (inl one) = inl (tt, cannot_read number x fault one)
unread_refused number (x ∷ xs) fault (inr more) = inr (unread_refused (number + 1) xs fault more)

-- one of two lists of inputs in sequence
pub some_of_both : (Ways : ReadAs → Type 0) (number : ℕ) (xs ys : List (ReadAs × InputRest)) (fault : Fault)
    → SomeRefused Ways number (xs ++ ys) fault → SomeRefused Ways number xs fault ⊎ SomeRefused Ways (number + length xs) ys fault
some_of_both Ways number [] ys fault s =
    let same : number + 0 ≡ number = omega arith in inr (subst (λ (n : ℕ). SomeRefused Ways n ys fault) (sym same) s)
some_of_both Ways number (x ∷ xs) ys fault (inl one) = inl (inl one)
some_of_both Ways number (x ∷ xs) ys fault (inr more) =
    let same : number + 1 + length xs ≡ number + suc (length xs) = omega arith in
    ⊎_elim (λ first. inl (inr first)) (λ second. inr (subst (λ (n : ℕ). SomeRefused Ways n ys fault) same second))
    (some_of_both Ways (number + 1) xs ys fault more)

-- ---- the fault of one input
held_refused : (r : Option Fault) (versions : _) (fault : Fault) → (whole_or_refused r versions).refusal ≡ Some fault → r ≡ Some fault
held_refused None versions fault e = absurd (let f : None ≡ Some fault = e in cc)
held_refused (Some found) versions fault e = e

pub any_refused : (number : ℕ) (c : InputRest) (fault : Fault) → (held_source number c).refusal ≡ Some fault → refusal number c ≡ Some fault
unfolding held_source
any_refused number c fault e =
    let units = with_input number (units_from None 0 c) in held_refused units.refusal (versions_of units.list) fault e

-- a rest that is refused before it ends is refused with the refusal of all versions, or because a version fails the test
pub up_to_refused : (p : VersionData → Bool) (end : source.VersionsToCome) (r : Option Fault) (versions : List VersionData) (fault : Fault)
    → (up_to p end r versions).refusal ≡ Some fault
    → (r ≡ Some fault) ⊎ ((end.refusal ≡ Some fault) × (list_any (λ v. not (p v)) versions ≡ true))
up_to_refused p end r [] fault h = inl h
up_to_refused p end r (v ∷ versions) fault h =
    elim (p v) as (λ t. (cond t (record { list = v ∷ (up_to p end r versions).list; refusal = (up_to p end r versions).refusal })
    end).refusal
    ≡ Some fault → (r ≡ Some fault) ⊎ ((end.refusal ≡ Some fault) × ((not t || list_any (λ w. not (p w)) versions) ≡ true))) [
      | true ↦ λ k. up_to_refused p end r versions fault k
      | false ↦ λ k. inr (k, refl)
    ] h

-- the fault of a sorted input has its number
sorted_number : (number : ℕ) (c : InputRest) (fault : Fault) → (sorted_source number c).refusal ≡ Some fault → fault.input ≡ number
sorted_number number c fault e = refusal_input number (input_verdict c) fault (sym (source_refusal number c) ∙ e)

-- the fault of an input has its number
pub has_number : (number : ℕ) (x : ReadAs × InputRest) (fault : Fault) → (source_of number x).refusal ≡ Some fault
    → fault.input ≡ number
has_number number (InOrder Sorted, c) fault e = sorted_number number c fault e
has_number number (InOrder Any, c) fault e = refusal_input number (units_from None 0 c).refusal fault (any_refused number c fault e)
has_number number (Within span Dropped, c) fault e =
    ⊎_elim (λ r. sorted_number number c fault r)
    (λ (none, over). absurd (let no : None ≡ Some fault = none in cc))
    (up_to_refused (is_under span.to) end_whole (from_bound span (sorted_source number c)).refusal
    (from_bound span (sorted_source number c)).list fault e)
has_number number (Within span Refused, c) fault e =
    ⊎_elim (λ r. sorted_number number c fault r)
    (λ (is_stray, stray). (let same : stray_fault number ≡ fault = (let s : Some (stray_fault number) ≡ Some fault = is_stray in cc) in
    ap (λ f. f.input) (sym same)))
    (up_to_refused (is_within span.from span.to) (end_refused (stray_fault number)) (sorted_source number c).refusal
    (sorted_source number c).list fault e)
