-- The bytes that the calls of a sink append together.
use Rattle.std.proofs.Common.{◌≡◌, ℕ, ◌+◌, ◌<◌, ◌≤◌, inl, inr, true, false, List, [], ◌∷◌, ◌++◌, length, take, drop}
use Rattle.std.proofs.Common.{get_or, refl, ap, sym, ◌∙◌, subst, arith, Result, Ok, Err, length-append, zero-add}
use Rattle.std.proofs.lemmas.List.{append-nil, take-append-le, take-append-drop, take_more}
use Rattle.std.proofs.Math.Seq.{take-append-add}
use Rattle.std.specs.List.Sorted.{IsStrictlySortedBy}
use Rattle.osm_model.specs.Data.{VersionData}
use Rattle.osm_model.specs.Order.{version_cmp}
use Rattle.o5_codec.specs.Encoder.{WriterState, initial_writer}
use Rattle.osm_files.specs.declared.fault.Fault.{Fault}
use Rattle.osm_files.specs.declared.format.Format.{Format}
use Rattle.osm_files.specs.declared.output.Output.{Ghosts}
use Rattle.osm_files.specs.Fault.{write_fault}
use Rattle.osm_files.specs.Output.{Change, Appends}
use Rattle.osm_files.specs.Change.{change_of}
use Rattle.osm_files.specs.Spell.{file_start, file_end, version_bytes, writer_with_all, versions_bytes, open_file_bytes, spell_list}
use Rattle.osm_files.specs.Sink.{SinkState, MayFollow, new_sink, Sent, NotSent, Calls, WhyCut, CutShort, WritesFile}
use Rattle.osm_files.specs.Sink.{after_begin, after_put, after_end, same_sink, HasPut}
use Rattle.osm_files.specs.SpellLaws.{Puts, CallsAreSpelled}
use Rattle.osm_files.proofs.Appending.{appended_on}
use Rattle.osm_files.proofs.SpellSteps.{open_more, after_append, list_split, may_follow}

-- ---- two calls, in sequence
module _ {O : Type 0} (w : Ghosts O) (before mid after : O) (xs ys : List ℕ) (first : Sent (change_of w before mid) 0 xs) where
  appended_after : (more : List ℕ) → Appends (change_of w mid after) more → Appends (change_of w before after) (xs ++ more)
  appended_after more second = appended_on (w.holds before) (w.holds mid) (w.holds after) xs more first.appended second

  -- bytes sent in two parts are sent
  sent_on : Sent (change_of w mid after) (length xs) ys → Sent (change_of w before after) 0 (xs ++ ys)
  sent_on second = record {
    appended = appended_after ys second.appended;
    short = omega (arith, length-append xs ys, second.short);
  }

  cut_at : (output : ℕ) (fault : Fault) (count : ℕ) → count ≤ length ys → Appends (change_of w mid after) (take count ys)
      → WhyCut output (xs ++ ys) (length xs + count) (w.failed after) fault
      → CutShort output (change_of w before after) (xs ++ ys) fault
  cut_at output fault count within rest why = record {
    count = length xs + count;
    within = omega (arith, length-append xs ys, within);
    appended =
        subst (Appends (change_of w before after)) (sym (take-append-add xs ys count)) (appended_after (take count ys) rest);
    why = why;
  }

  -- bytes cut short in their second part are cut short
  cut_on : (output : ℕ) (fault : Fault) → NotSent output (change_of w mid after) (length xs) ys fault
      → CutShort output (change_of w before after) (xs ++ ys) fault
  cut_on output fault (inl memory) =
      cut_at output fault 0 (omega arith) memory.1 (inl memory.0)
  cut_on output fault (inr stopped) =
      cut_at output fault stopped.count stopped.within stopped.appended
      (elim stopped.why [
        | inl broken ↦ inr (inl (broken.0, broken.1))
        | inr long ↦ inr (inr (long.0, omega (arith, long.1, length-append xs ys)))
      ])

-- ---- one change
module _ (output : ℕ) (change : Change) where
  cut_first : (ys : List ℕ) (fault : Fault) → NotSent output change 0 ys fault → CutShort output change ys fault
  cut_first ys fault (inl memory) = record { count = 0; within = omega arith; appended = memory.1; why = inl memory.0 }
  cut_first ys fault (inr stopped) = record {
    count = stopped.count;
    within = stopped.within;
    appended = stopped.appended;
    why = elim stopped.why [
      | inl broken ↦ inr (inl (broken.0 ∙ ap (λ n. write_fault output n) (zero-add stopped.count), broken.1))
      | inr long ↦ inr (inr (long.0, omega (arith, long.1)))
    ];
  }

  -- a front of a part is a front of the whole
  pub cut_in : (xs ys : List ℕ) (fault : Fault) → CutShort output change xs fault → CutShort output change (xs ++ ys) fault
  cut_in xs ys fault h = record {
    count = h.count;
    within = omega (arith, length-append xs ys, h.within);
    appended =
        let some : h.count ≤ length xs = h.within in
        subst (Appends change) (sym (take-append-le h.count xs ys some)) h.appended;
    why = elim h.why [
      | inl memory ↦ inl memory
      | inr (inl broken) ↦ inr (inl broken)
      | inr (inr long) ↦ inr (inr (long.0, omega (arith, long.1, length-append xs ys)))
    ];
  }

  -- bytes cut short before their end are cut short
  pub cut_before_end : (format : Format) (vs others : List VersionData) (fault : Fault)
      → CutShort output change (open_file_bytes format vs) fault → CutShort output change (spell_list format (vs ++ others)) fault
  cut_before_end format vs others fault h =
      let rest = versions_bytes format (writer_with_all format initial_writer vs) others ++ file_end format in
      subst (λ (x : List ℕ). CutShort output change x fault) (sym (list_split format vs others))
      (cut_in (open_file_bytes format vs) rest fault h)

-- The first items of a list and the next one are one item more.
pub front_at : {X : Type 0} (xs : List X) (i : ℕ) (x : X) → i < length xs → x ≡ get_or xs i x
    → take (i + 1) xs ≡ take i xs ++ x ∷ []
front_at xs i x within is = take_more xs i x within ∙ ap (λ y. take i xs ++ y ∷ []) (sym is)

-- the versions before an index, the one at it, and those after it
pub parts_at : (xs : List VersionData) (i : ℕ) (v : VersionData) → i < length xs → v ≡ get_or xs i v
    → (take i xs ++ v ∷ []) ++ drop (i + 1) xs ≡ xs
parts_at xs i v within is = ap (λ x. x ++ drop (i + 1) xs) (sym (front_at xs i v within is)) ∙ take-append-drop (i + 1) xs

-- ---- the calls
abbrev at_front : Format → ℕ → WriterState → ℕ → SinkState
at_front format number encoder written =
    record { format = format; number = number; encoder = encoder; written = written; has_begun = true; ended = false; failed = false }

module _ (format : Format) (number : ℕ) where
  module _ (s0 : SinkState) (new : s0 ≡ new_sink format number) (s : SinkState) (change : Change) where
    abbrev Begins : Result (Unit {0}) Fault → SinkState → Type 0
    Begins r x = Calls {A = Unit {0}} (after_begin x) s same_sink change (file_start x.format) r

    -- After `begin` the sink has put no versions.
    pub begin_ok : Begins (Ok tt) s0 → HasPut format number [] change s
    begin_ok h =
        let k = subst (Begins (Ok tt)) new h in
        let same : open_file_bytes format [] ≡ file_start format = append-nil (file_start format) in
        record {
          state = k.1 ∙ ap (at_front format number initial_writer) (zero-add (length (file_start format)) ∙ ap length (sym same));
          sent = subst (Sent change 0) (sym same) k.0;
        }

    -- A refused `begin` cuts the file short.
    pub begin_err : (fault : Fault) → Begins (Err fault) s0 → CutShort number change (open_file_bytes format []) fault
    begin_err fault h =
        let k = subst (Begins (Err fault)) new h in
        subst (λ (x : List ℕ). CutShort number change x fault) (sym (append-nil (file_start format)))
        (cut_first number change (file_start format) fault k.0)

  module _ {O : Type 0} (w : Ghosts O) (versions : List VersionData) (before mid : O) (s : SinkState)
      (has : HasPut format number versions (change_of w before mid) s) where
    abbrev one_more : VersionData → List ℕ
    one_more v = version_bytes format (writer_with_all format initial_writer versions) v

    abbrev PutCall : VersionData → SinkState → O → Result (Unit {0}) Fault → SinkState → Type 0
    PutCall v t now r x = Calls x t (after_put v) (change_of w mid now) (version_bytes x.format x.encoder v) r

    abbrev EndCall : SinkState → O → Result (Unit {0}) Fault → SinkState → Type 0
    EndCall t now r x = Calls (after_end x) t same_sink (change_of w mid now) (file_end x.format) r

    -- After `put` the sink has put one version more.
    pub put_ok : (v : VersionData) (t : SinkState) (now : O) → PutCall v t now (Ok tt) s
        → HasPut format number (versions ++ v ∷ []) (change_of w before now) t
    put_ok v t now h =
        let k = subst (PutCall v t now (Ok tt)) has.state h in
        let more = open_more format versions v in
        let later = after_append format initial_writer versions (v ∷ []) in
        let long : length (open_file_bytes format versions) + length (one_more v) ≡ length (open_file_bytes format (versions ++ v ∷ [])) =
        sym (length-append (open_file_bytes format versions) (one_more v)) ∙ ap length (sym more) in
        record {
          state = k.1 ∙ (λ i. at_front format number (sym later i) (long i));
          sent =
              subst (Sent (change_of w before now) 0) (sym more)
              (sent_on w before mid now (open_file_bytes format versions) (one_more v) has.sent k.0);
        }

    -- A refused `put` cuts the file short.
    pub put_err : (v : VersionData) (t : SinkState) (now : O) (fault : Fault) → PutCall v t now (Err fault) s
        → CutShort number (change_of w before now) (open_file_bytes format (versions ++ v ∷ [])) fault
    put_err v t now fault h =
        let k = subst (PutCall v t now (Err fault)) has.state h in
        subst (λ (x : List ℕ). CutShort number (change_of w before now) x fault) (sym (open_more format versions v))
        (cut_on w before mid now (open_file_bytes format versions) (one_more v) has.sent number fault k.0)

    -- After `end` the whole file was sent.
    pub end_ok : (t : SinkState) (now : O) → EndCall t now (Ok tt) s → Sent (change_of w before now) 0 (spell_list format versions)
    end_ok t now h =
        sent_on w before mid now (open_file_bytes format versions) (file_end format) has.sent (subst (EndCall t now (Ok tt)) has.state h).0

    -- A refused `end` cuts the file short.
    pub end_err : (t : SinkState) (now : O) (fault : Fault) → EndCall t now (Err fault) s
        → CutShort number (change_of w before now) (spell_list format versions) fault
    end_err t now fault h =
        cut_on w before mid now (open_file_bytes format versions) (file_end format) has.sent number fault
        (subst (EndCall t now (Err fault)) has.state h).0

    -- `end` writes the file or cuts it short.
    pub end_written : (t : SinkState) (now : O) (r : Result (Unit {0}) Fault) → EndCall t now r s
        → WritesFile number (change_of w before now) (spell_list format versions) r
    end_written t now (Ok done) h = end_ok t now h
    end_written t now (Err fault) h = end_err t now fault h

-- in an ascending list a version may be put after those before it
pub may_put : (format : Format) (number : ℕ) (xs : List VersionData) (i : ℕ) (v : VersionData) (change : Change) (s : SinkState)
    → IsStrictlySortedBy version_cmp xs → i < length xs → v ≡ get_or xs i v
    → HasPut format number (take i xs) change s → MayFollow v s.encoder
may_put format number xs i v change s sorted within is has =
    let front : WriterState = writer_with_all format initial_writer (take i xs) in
    let follows : MayFollow v front = subst (λ (x : VersionData). MayFollow x front) (sym is) (may_follow format xs i v sorted within) in
    subst (λ (w : WriterState). MayFollow v w) (sym (ap (λ x. x.encoder) has.state)) follows

-- ---- the calls as a law
module _ {O : Type 0} (w : Ghosts O) (format : Format) (number : ℕ) where
  put_spelled : (versions : List VersionData) (v : VersionData) (s t : SinkState) (before mid now : O) (r : Result (Unit {0}) Fault)
      → HasPut format number versions (change_of w before mid) s
      → Calls s t (after_put v) (change_of w mid now) (version_bytes s.format s.encoder v) r
      → Puts format number (versions ++ v ∷ []) (change_of w before now) t r
  put_spelled versions v s t before mid now (Ok done) has h = put_ok format number w versions before mid s has v t now h
  put_spelled versions v s t before mid now (Err fault) has h = put_err format number w versions before mid s has v t now fault h

  begin_spelled : (s : SinkState) (before now : O) (r : Result (Unit {0}) Fault)
      → Calls (after_begin (new_sink format number)) s same_sink (change_of w before now) (file_start format) r
      → Puts format number [] (change_of w before now) s r
  begin_spelled s before now (Ok done) h = begin_ok format number (new_sink format number) refl s (change_of w before now) h
  begin_spelled s before now (Err fault) h = begin_err format number (new_sink format number) refl s (change_of w before now) fault h

-- The calls of a sink append the file of the versions that were put.
pub calls_spelled : {O : Type 0} (w : Ghosts O) → CallsAreSpelled w
calls_spelled w = record {
  begin = begin_spelled w;
  put = put_spelled w;
  end = λ format number versions s t before mid now result has h. end_written format number w versions before mid s has t now result h;
}
