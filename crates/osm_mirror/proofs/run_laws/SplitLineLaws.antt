-- Lines that are split at an offset.
use Rattle.std.proofs.Common.{◌≡◌, ◌⊎◌, inl, inr, ⊎_elim, ℕ, zero, suc, ◌+◌, ◌-◌, ◌≤◌, Bool, true, false, cond, List, [], ◌∷◌, ◌++◌}
use Rattle.std.proofs.Common.{length, take, drop, refl, sym, ap, ◌∙◌, subst, arith, append-nil, append_assoc, take-append-drop}
use Rattle.std.proofs.lemmas.List.{append_cancel_right, drop-drop}
use Rattle.osm_model.specs.Data.{VersionData}
use Rattle.opl_line.specs.Delimiter.{is_line_end}
use Rattle.osm_files.specs.Lines.{after_line, lines_from, lines_of, bytes_between, BeginsLine}
use Rattle.osm_files.specs.Opl.{OplFile}
use Rattle.osm_files.proofs.JoinLaws.{Ended, SplitVersions, lines_after, split_ended}
use Rattle.osm_files.proofs.LineStarts.{start_lines}

-- ---- bytes that are split before the beginning of a line
-- the rest has the lines that begin after the front
pub record SplitLines (bytes rest : List ℕ) : Type 0 where
  pub front : List ℕ
  pub whole : bytes ≡ front ++ rest
  pub ends : (front ≡ []) ⊎ (rest ≡ []) ⊎ Ended front

-- the rest has the lines after the first one
record SplitFirst (bytes rest : List ℕ) : Type 0 where
  front : List ℕ
  whole : bytes ≡ front ++ rest
  ends : (rest ≡ []) ⊎ Ended front

longer_front : (b : ℕ) (front : List ℕ) → Ended front → Ended (b ∷ front)
longer_front b front e = record { text = b ∷ e.text; last = e.last; ends = e.ends; is = ap (λ f. b ∷ f) e.is }

split_after : (bytes : List ℕ) → SplitFirst bytes (after_line bytes)
split_after [] = record { front = []; whole = refl; ends = inl refl }
split_after (b ∷ bytes) =
    elim (is_line_end b) as (λ t. is_line_end b ≡ t → SplitFirst (b ∷ bytes) (cond t bytes (after_line bytes))) [
      | true ↦ λ e. record { front = b ∷ []; whole = refl; ends = inr (record { text = []; last = b; ends = e; is = refl }) }
      | false ↦ λ e. let more = split_after bytes in record {
        front = b ∷ more.front;
        whole = ap (λ f. b ∷ f) more.whole;
        ends = ⊎_elim (λ none. inl none) (λ ended. inr (longer_front b more.front ended)) more.ends;
      }
    ] refl

ended_after : (before front : List ℕ) → Ended front → Ended (before ++ front)
ended_after before front e = record {
  text = before ++ e.text;
  last = e.last;
  ends = e.ends;
  is = ap (λ f. before ++ f) e.is ∙ sym (append_assoc before e.text (e.last ∷ []));
}

-- The lines from an offset on are the last bytes. If there are such lines, they begin the file or follow an end of a line.
pub split_lines : (offset : ℕ) (bytes : List ℕ) → SplitLines bytes (lines_from offset bytes)
split_lines zero bytes = record { front = []; whole = refl; ends = inl refl }
split_lines (suc offset) bytes = let more = split_after (drop offset bytes) in record {
  front = take offset bytes ++ more.front;
  whole =
      sym (take-append-drop offset bytes) ∙ ap (λ f. take offset bytes ++ f) more.whole
      ∙ sym (append_assoc (take offset bytes) more.front (after_line (drop offset bytes)));
  ends = ⊎_elim (λ none. inr (inl none)) (λ ended. inr (inr (ended_after (take offset bytes) more.front ended))) more.ends;
}

-- ---- versions of split lines
pub split_versions : (bytes rest : List ℕ) (s : SplitLines bytes rest) (versions : List VersionData) → OplFile bytes versions →
    SplitVersions s.front rest versions
split_versions bytes rest s versions file =
    ⊎_elim (λ none. record {
      earlier = [];
      later = versions;
      are = refl;
      first = subst (λ (b : List ℕ). OplFile b []) (sym none) tt;
      second = subst (λ (b : List ℕ). OplFile b versions) (s.whole ∙ ap (λ f. f ++ rest) none) file;
    })
    (⊎_elim (λ none. record {
      earlier = versions;
      later = [];
      are = sym (append-nil versions);
      first = subst (λ (b : List ℕ). OplFile b versions) (s.whole ∙ ap (λ r. s.front ++ r) none ∙ append-nil s.front) file;
      second = subst (λ (b : List ℕ). OplFile b []) (sym none) tt;
    })
    (λ ended. split_ended bytes s.front rest versions s.whole ended file)) s.ends

-- the lines of split bytes are those of both parts
pub lines_split : (bytes rest : List ℕ) (s : SplitLines bytes rest) → lines_of bytes ≡ lines_of s.front ++ lines_of rest
lines_split bytes rest s =
    ⊎_elim (λ none. ap lines_of (s.whole ∙ ap (λ f. f ++ rest) none) ∙ ap (λ f. lines_of f ++ lines_of rest) (sym none))
    (⊎_elim (λ none.
    ap lines_of (s.whole ∙ ap (λ r. s.front ++ r) none ∙ append-nil s.front)
    ∙ sym (append-nil (lines_of s.front))
    ∙ ap (λ r. lines_of s.front ++ lines_of r) (sym none))
    (λ ended.
    ap lines_of (s.whole ∙ ap (λ f. f ++ rest) ended.is ∙ append_assoc ended.text (ended.last ∷ []) rest)
    ∙ lines_after ended.last ended.ends ended.text rest
    ∙ ap (λ ls. ls ++ lines_of rest)
    (sym (append-nil (lines_of ended.text)) ∙ sym (lines_after ended.last ended.ends ended.text [])
    ∙ ap lines_of (sym ended.is)))) s.ends

-- ---- the lines from one offset up to another
abbrev nothing : List ℕ
nothing = []

take_none : (n : ℕ) → take n [] ≡ nothing
take_none zero = refl
take_none (suc n) = refl

drop_nothing : (n : ℕ) → drop n nothing ≡ []
drop_nothing zero = refl
drop_nothing (suc n) = refl

drop_take : (start offset : ℕ) (bytes : List ℕ) → start ≤ offset
    → take (offset - start) (drop start bytes) ≡ drop start (take offset bytes)
drop_take zero offset bytes h = let e : offset - 0 ≡ offset = omega arith in rw e refl
drop_take (suc start) zero bytes h = absurd (omega (arith, h))
drop_take (suc start) (suc offset) [] h = take_none (suc offset - suc start)
drop_take (suc start) (suc offset) (b ∷ bytes) h =
    let e : suc offset - suc start ≡ offset - start = omega arith in rw e (drop_take start offset bytes (omega (arith, h)))

drop_last : (start : ℕ) (text : List ℕ) (last : ℕ) → (drop start (text ++ last ∷ []) ≡ [])
    ⊎ ((more : List ℕ) × (drop start (text ++ last ∷ []) ≡ more ++ last ∷ []))
drop_last zero text last = inr (text, refl)
drop_last (suc start) [] last = inl (drop_nothing start)
drop_last (suc start) (b ∷ text) last = drop_last start text last

pub part_ends : (bytes : List ℕ) (start offset : ℕ) → start ≤ offset → BeginsLine bytes offset →
    (take (offset - start) (drop start bytes) ≡ []) ⊎ (drop offset bytes ≡ []) ⊎ Ended (take (offset - start) (drop start bytes))
part_ends bytes start offset up begins =
    let s = split_lines offset bytes in
    let rest : drop offset bytes ≡ lines_from offset bytes = ap (λ n. drop n bytes) (sym begins) ∙ start_lines offset bytes in
    let front : take offset bytes ≡ s.front =
    append_cancel_right (take offset bytes) s.front (drop offset bytes)
    (take-append-drop offset bytes ∙ s.whole ∙ ap (λ r. s.front ++ r) (sym rest)) in
    let part : take (offset - start) (drop start bytes) ≡ drop start s.front = drop_take start offset bytes up ∙ ap (drop start) front in
    ⊎_elim (λ none. inl (part ∙ ap (drop start) none ∙ drop_nothing start))
    (⊎_elim (λ none. inr (inl (rest ∙ none)))
    (λ ended. ⊎_elim (λ none. inl (part ∙ ap (drop start) ended.is ∙ none))
    (λ (more, is). inr (inr (record {
      text = more;
      last = ended.last;
      ends = ended.ends;
      is = part ∙ ap (drop start) ended.is ∙ is;
    }))) (drop_last start ended.text ended.last))) s.ends

pub part_whole : (bytes : List ℕ) (start offset : ℕ) → start ≤ offset →
    drop start bytes ≡ take (offset - start) (drop start bytes) ++ drop offset bytes
part_whole bytes start offset up =
    let e : start + (offset - start) ≡ offset = omega (arith, up) in
    sym (take-append-drop (offset - start) (drop start bytes))
    ∙ ap (λ r. take (offset - start) (drop start bytes) ++ r) (drop-drop (offset - start) start bytes ∙ ap (λ n. drop n bytes) e)

-- the bytes from an offset on, split where a line begins
abbrev pub split_between : (bytes : List ℕ) (start end : ℕ) → start ≤ end → BeginsLine bytes end →
    SplitLines (drop start bytes) (drop end bytes)
split_between bytes start end up begins = record {
  front = bytes_between start end bytes;
  whole = part_whole bytes start end up;
  ends = part_ends bytes start end up begins;
}

-- ---- the end of a file
nothing_left : (t : Bool) → cond {A = List ℕ} t [] [] ≡ []
nothing_left true = refl
nothing_left false = refl

last_line : (b : ℕ) (bytes : List ℕ) → after_line (drop (length bytes) (b ∷ bytes)) ≡ []
last_line b [] = nothing_left (is_line_end b)
last_line b (c ∷ bytes) = last_line c bytes

-- no line begins at the end of a file
pub at_end : (bytes : List ℕ) → lines_from (length bytes) bytes ≡ []
at_end [] = refl
at_end (b ∷ bytes) = last_line b bytes
