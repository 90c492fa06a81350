-- Why a job that is cut short is refused: memory ran out, the output has failed, or the file is too long.
use Rattle.std.proofs.Common.{◌≡◌, ◌⊎◌, inl, inr, ℕ, ◌≤◌, ◌^◌, Bool, List, length, take, refl, sym, ap, ◌∙◌}
use Rattle.std.proofs.lemmas.List.{length-take-le}
use Rattle.osm_files.specs.declared.fault.Fault.{Fault}
use Rattle.osm_files.specs.declared.reason.Reason.TheVariants.{Memory, WriteFault, TooLong}
use Rattle.osm_files.specs.Fault.{memory_fault, too_long_fault, fault_at}
use Rattle.osm_files.specs.Output.{Change}
use Rattle.osm_files.specs.Sink.{CutShort, WhyCut}
use Rattle.osm_mirror.specs.run.FilesRefusal.{IsOutputFault}

-- a file that is cut short as too long is too long
pub long_of : (number : ℕ) (spelled : List ℕ) (count : ℕ) (failed : Bool) (fault : Fault) → WhyCut number spelled count failed fault
    → fault.reason ≡ TooLong → 2 ^ 62 ≤ length spelled
long_of number spelled count failed fault (inl memory) is =
    absurd (let e : Memory ≡ TooLong = ap (λ f. f.reason) (sym memory) ∙ is in cc)
long_of number spelled count failed fault (inr (inl (write, fails))) is =
    absurd (let e : WriteFault ≡ TooLong = ap (λ f. f.reason) (sym write) ∙ is in cc)
long_of number spelled count failed fault (inr (inr (is_long, long))) is = long

-- a job that is cut short is out of memory, or the output is at fault
pub cut_why : (number : ℕ) (change : Change) (spelled : List ℕ) (fault : Fault) (Long : Type 0) → (fault ≡ too_long_fault number → Long)
    → CutShort number change spelled fault → (fault ≡ memory_fault) ⊎ IsOutputFault number change Long fault
cut_why number change spelled fault Long long c = elim c.why [
  | inl memory ↦ inl memory
  | inr (inl (is, fails)) ↦ inr (inl (
    ap (λ f. f.input) is,
    ap (λ f. f.reason) is,
    fails,
    (take c.count spelled, length-take-le c.count spelled c.within ∙ ap (λ f. f.place) (sym is), c.appended),
  ))
  | inr (inr (is, is_long)) ↦ inr (inr (is, long is))
]

-- a fault of the output has its number
pub output_number : (number : ℕ) (change : Change) (Long : Type 0) (fault : Fault) → IsOutputFault number change Long fault
    → fault.input ≡ number
output_number number change Long fault (inl write) = write.0
output_number number change Long fault (inr long) = ap (λ f. f.input) long.0

-- a fault of the output for another reason why it is too long
pub output_also : (number : ℕ) (change : Change) (Long More : Type 0) (fault : Fault) → (Long → More)
    → IsOutputFault number change Long fault → IsOutputFault number change More fault
output_also number change Long More fault more (inl write) = inl write
output_also number change Long More fault more (inr (is, long)) = inr (is, more long)

-- a fault with another number and place
module _ (number count : ℕ) (fault moved : Fault) (memory_same : fault.reason ≡ Memory → moved ≡ memory_fault)
    (output_same : fault.input ≡ number → moved ≡ fault_at count fault.place fault.reason) where
  why_moved : (spelled : List ℕ) (taken : ℕ) (failed : Bool) → WhyCut number spelled taken failed fault
      → WhyCut count spelled taken failed moved
  why_moved spelled taken failed (inl memory) = inl (memory_same (ap (λ f. f.reason) memory))
  why_moved spelled taken failed (inr (inl (is, fails))) = inr (inl (
    output_same (ap (λ f. f.input) is) ∙ (λ i. fault_at count (is i).place (is i).reason),
    fails,
  ))
  why_moved spelled taken failed (inr (inr (is, long))) = inr (inr (
    output_same (ap (λ f. f.input) is) ∙ (λ i. fault_at count (is i).place (is i).reason),
    long,
  ))

  -- A job that is cut short is so if the fault is that of a file.
  pub cut_moved : (change : Change) (spelled : List ℕ) → CutShort number change spelled fault → CutShort count change spelled moved
  cut_moved change spelled c = record {
    count = c.count;
    within = c.within;
    appended = c.appended;
    why = why_moved spelled c.count change.failed c.why;
  }
