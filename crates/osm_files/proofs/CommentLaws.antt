-- The first byte of a comment determines its unit, so the other bytes may be dropped before its end is read.
use Rattle.std.proofs.Common.{◌≡◌, ℕ, ◌+◌, ◌-◌, ◌<◌, ◌^◌, true, false, cond, List, [], ◌∷◌, ◌++◌, length, take, drop, nat_lt}
use Rattle.std.proofs.Common.{◌⊎◌, inl, inr, refl, sym, ap, ◌∙◌, subst, arith, Option, Some, None, option_map, Ok, length-append}
use Rattle.std.proofs.Common.{append_assoc, slice_index}
use Rattle.std.proofs.Math.Seq.{take-append-add}
use Rattle.opl_line.specs.Delimiter.{is_line_end, with_byte, split_first}
use Rattle.opl_line.specs.Reading.{reading_line}
use Rattle.osm_files.specs.declared.reason.Reason.{Reason}
use Rattle.osm_files.specs.Input.{InputRest}
use Rattle.osm_files.specs.Stream.{Verdict, verdict_at}
use Rattle.osm_files.specs.Units.{InOpl, unit, unit_at, line_unit, line_found, final_units, units}
use Rattle.osm_files.specs.Verdict.{length_limit, too_long_verdict}
use Rattle.osm_files.specs.Position.{KnownPosition, rest_of_bytes, closing_verdict, window, units_from, with_input, rest_of_units}
use Rattle.osm_files.specs.Position.{Position, with_rest, KeepsRest, FindsUnit, IsShortened, state_at, state_or_start}
use Rattle.osm_files.proofs.FillLaws.{mapped}
use Rattle.osm_files.proofs.PositionLaws.{limit_is, from_is, rest_after, with_each}
use Rattle.osm_files.proofs.ReaderLaws.{HasPassed, unread, gone_none, gone_further}
use Rattle.osm_files.proofs.ReadingLaws.{seen_held, none_same, none_there, none_known}
use Rattle.osm_files.proofs.StepLaws.{units_step, units_stop}
use Rattle.osm_files.proofs.UnitLaws.{SplitsAs, splits, drop_after, unit_in_opl, last_in_opl}

-- the first line of bytes that begin with a part of a line
split_on : (front more : List ℕ) → (split_first is_line_end front).1 ≡ None
    → split_first is_line_end (front ++ more) ≡ (front ++ (split_first is_line_end more).0, (split_first is_line_end more).1)
split_on [] more none = refl
split_on (b ∷ front) more none =
    let s = split_first is_line_end more in
    elim (is_line_end b) as (λ t. (cond t ([], Some front) (with_byte b (split_first is_line_end front))).1 ≡ None
    → cond t ([], Some (front ++ more)) (with_byte b (split_first is_line_end (front ++ more))) ≡ (b ∷ (front ++ s.0), s.1)) [
      | true ↦ λ e. absurd (let f : Some front ≡ None = e in cc)
      | false ↦ λ e. ap (with_byte b) (split_on front more e)
    ] none

same_final : (close : Option Verdict) (a b : ℕ) → final_units close a (Ok (None, InOpl)) ≡ final_units close b (Ok (None, InOpl))
same_final None a b = refl
same_final (Some v) a b = refl

module _ (xs : List ℕ) (none : (split_first is_line_end (35 ∷ xs)).1 ≡ None) where
  abbrev long : List ℕ → List ℕ
  long more = 35 ∷ (xs ++ more)

  -- The units after a comment are the same, whatever bytes it has.
  comment_units : (close : Option Verdict) (offset : ℕ) (more : List ℕ) (s : List ℕ × Option (List ℕ)) → split_first is_line_end more ≡ s
      → SplitsAs more s → units close InOpl offset (long more) ≡ units close InOpl (offset + length xs) (35 ∷ more)
  comment_units close offset more (line, None) e at =
      let whole : unit_at InOpl (long more) ≡ None =
      unit_in_opl (long more) ∙ ap line_unit (split_on (35 ∷ xs) more none ∙ ap (λ s. (35 ∷ (xs ++ s.0), s.1)) e) in
      let short : unit_at InOpl (35 ∷ more) ≡ None =
      unit_in_opl (35 ∷ more) ∙ ap line_unit (split_on (35 ∷ []) more refl ∙ ap (λ s. (35 ∷ s.0, s.1)) e) in
      units_stop close InOpl offset (long more) whole
      ∙ ap (final_units close offset) (last_in_opl (long more))
      ∙ same_final close offset (offset + length xs)
      ∙ sym (ap (final_units close (offset + length xs)) (last_in_opl (35 ∷ more)))
      ∙ sym (units_stop close InOpl (offset + length xs) (35 ∷ more) short)
  comment_units close offset more (line, Some rest) e (end, is) =
      let whole : unit_at InOpl (long more) ≡ Some (unit (length (35 ∷ (xs ++ line)) + 1) (Ok (None, InOpl))) =
      unit_in_opl (long more) ∙ ap line_unit (split_on (35 ∷ xs) more none ∙ ap (λ s. (35 ∷ (xs ++ s.0), s.1)) e) in
      let short : unit_at InOpl (35 ∷ more) ≡ Some (unit (length (35 ∷ line) + 1) (Ok (None, InOpl))) =
      unit_in_opl (35 ∷ more) ∙ ap line_unit (split_on (35 ∷ []) more refl ∙ ap (λ s. (35 ∷ s.0, s.1)) e) in
      let there : offset + (length (35 ∷ (xs ++ line)) + 1) ≡ offset + length xs + (length (35 ∷ line) + 1) =
      omega (arith, length-append xs line) in
      let after : drop (length (35 ∷ (xs ++ line)) + 1) (long more) ≡ rest =
      ap (drop (length (35 ∷ (xs ++ line)) + 1)) (ap (λ ys. 35 ∷ (xs ++ ys)) is ∙ sym (append_assoc (35 ∷ xs) line (end ∷ rest)))
      ∙ drop_after (35 ∷ (xs ++ line)) end rest in
      let next : drop (length (35 ∷ line) + 1) (35 ∷ more) ≡ rest =
      ap (λ ys. drop (length (35 ∷ line) + 1) (35 ∷ ys)) is ∙ drop_after (35 ∷ line) end rest in
      units_step close InOpl offset (long more) _ whole
      ∙ (λ i. units close InOpl (there i) ((after ∙ sym next) i))
      ∙ sym (units_step close InOpl (offset + length xs) (35 ∷ more) _ short)

  module _ (offset : ℕ) (rest : List ℕ) (failure : Option Reason) (bound : offset + length (35 ∷ xs) < 2 ^ 62) where
    abbrev here : InputRest
    here = record { bytes = long rest; failure = failure }

    abbrev there : InputRest
    there = record { bytes = 35 ∷ rest; failure = failure }

    same_length : offset + length xs + length (35 ∷ rest) ≡ offset + length (long rest)
    same_length = omega (arith, length-append xs rest)

    same_closing : closing_verdict (offset + length xs) there ≡ closing_verdict offset here
    same_closing = ap (λ m. cond (nat_lt m length_limit) (option_map (verdict_at m) failure) (Some too_long_verdict))
        same_length

    -- the same bytes count after the comment's front
    counts : (more : List ℕ) × (window offset here ≡ long more) × (window (offset + length xs) there ≡ 35 ∷ more)
    counts =
        elim (nat_lt (offset + length (long rest)) length_limit) as
        (λ t. nat_lt (offset + length (long rest)) length_limit ≡ t → (more : List ℕ)
        × (cond t (long rest) (take (length_limit - 1 - offset) (long rest)) ≡ long more)
        × (window (offset + length xs) there ≡ 35 ∷ more)) [
          | true ↦ λ is. (
            rest,
            refl,
            ap (λ b. cond b (35 ∷ rest) (take (length_limit - 1 - (offset + length xs)) (35 ∷ rest)))
                (ap (λ m. nat_lt m length_limit) same_length ∙ is),
          )
          | false ↦ λ is. (
              let left : ℕ = length_limit - 1 - offset - length (35 ∷ xs) in
              let room : length_limit - 1 - offset ≡ length (35 ∷ xs) + left = omega (arith, limit_is, bound) in
              let one : length_limit - 1 - (offset + length xs) ≡ length {A = ℕ} (35 ∷ []) + left = omega (arith, limit_is, bound) in (
                take left rest,
                ap (λ n. take n (long rest)) room ∙ take-append-add (35 ∷ xs) rest left,
                ap (λ b. cond b (35 ∷ rest) (take (length_limit - 1 - (offset + length xs)) (35 ∷ rest)))
                    (ap (λ m. nat_lt m length_limit) same_length ∙ is)
                    ∙ ap (λ n. take n (35 ∷ rest)) one
                    ∙ take-append-add (35 ∷ []) rest left,
              ))
        ] refl

    comment_from : units_from (Some InOpl) offset here ≡ units_from (Some InOpl) (offset + length xs) there
    comment_from =
        let c = counts in
        from_is (Some InOpl) offset here
        ∙ (λ i. units (sym same_closing i) InOpl offset (c.1 i))
        ∙ comment_units (closing_verdict (offset + length xs) there) offset c.0 (split_first is_line_end c.0) refl (splits is_line_end c.0)
        ∙ (λ i. units (closing_verdict (offset + length xs) there) InOpl (offset + length xs) (sym c.2 i))
        ∙ sym (from_is (Some InOpl) (offset + length xs) there)

  -- the position after all but one byte of a comment were dropped
  abbrev pub shorter : KnownPosition → KnownPosition
  shorter m = record m { offset = m.offset + length xs; held = 35 ∷ [] }

  -- The units ahead stay as they are.
  pub comment_shortens : (m : KnownPosition) → m.held ≡ 35 ∷ xs → m.stage ≡ Some InOpl → m.offset + length (35 ∷ xs) < 2 ^ 62
      → KeepsRest m (shorter m)
  comment_shortens m held stage bound = record {
    input = refl;
    offset = omega arith;
    failed = refl;
    keeps = mapped (rest_of_bytes m) _ (λ s. rest_of_units (shorter m) ≡ Some s) (with_each (rest_of_bytes m) _ (λ c e. (
        let b = rest_after m c e in
        let is : c ≡ record { bytes = long b.more; failure = b.failure } =
        b.here ∙ ap (λ (h : List ℕ). record { bytes = h ++ b.more; failure = b.failure }) held in
        let same : units_from (Some InOpl) (m.offset + length xs) (record { bytes = 35 ∷ b.more; failure = b.failure })
        ≡ units_from m.stage m.offset c =
        sym (comment_from m.offset b.more b.failure bound) ∙ (λ i. units_from (sym stage i) m.offset (sym is i)) in
        ap (option_map (λ x. with_input m.input (units_from m.stage (m.offset + length xs) x))) (b.there (35 ∷ []))
        ∙ ap (λ (t : _). Some (with_input m.input (units_from t (m.offset + length xs)
        (record { bytes = 35 ∷ b.more; failure = b.failure })))) stage
        ∙ ap (λ s. Some (with_input m.input s)) same)));
  }

no_end : (s : List ℕ × Option (List ℕ)) → line_unit s ≡ None → s.1 ≡ None
no_end (line, None) e = refl
no_end (line, Some rest) e = absurd (let f : Some (unit (length line + 1) (line_found (reading_line line))) ≡ None = e in cc)

-- The bytes held begin with a comment's first byte.
pub begins_comment : (held : List ℕ) → 0 < length held → slice_index held 0 ≡ 35 → held ≡ 35 ∷ drop 1 held
begins_comment [] some first = absurd (omega (arith, some))
begins_comment (b ∷ held) some first = ap (λ x. x ∷ held) first

-- no version was given, and no unit is whole in the bytes held
pub record HasSearched {R : Type 0} (can : R → InputRest → Type 0) (p q : Position R) : Type 0 where
  pub on : HasPassed can p q
  pub none : unit_at (state_at q) q.held ≡ None
  pub known : q.stage ≡ None → q.held ≡ []
  pub bound : q.offset + length q.held < 2 ^ 62

module _ {R : Type 0} (can : R → InputRest → Type 0) (p : Position R) where
  then_shortened : (m q : Position R) → HasSearched can p m → (q ≡ m) ⊎ IsShortened m q → HasSearched can p q
  then_shortened m q h (inl same) = subst (λ (x : Position R). HasSearched can p x) (sym same) h
  then_shortened m q h (inr (stage, (xs, held, is))) =
      let short : Position R = record m { offset = m.offset + length xs; held = 35 ∷ [] } in
      let whole : (split_first is_line_end (35 ∷ xs)).1 ≡ None =
      no_end (split_first is_line_end (35 ∷ xs))
      (sym (unit_in_opl (35 ∷ xs)) ∙ (λ i. unit_at (state_or_start (sym stage i) (sym held i)) (sym held i)) ∙ h.none) in
      let bound : m.offset + length (35 ∷ xs) < 2 ^ 62 = omega (arith, ap length held, h.bound) in
      subst (λ (x : Position R). HasSearched can p x) (sym is) (record {
        on = gone_further can p m short h.on (record {
          input = refl;
          offset = omega arith;
          failed = refl;
          goes = unread can m short KeepsRest refl (λ c. comment_shortens xs whole (with_rest m c) held stage bound);
        });
        none = ap (λ s. unit_at (state_or_start s (35 ∷ [])) (35 ∷ [])) stage ∙ unit_in_opl (35 ∷ []);
        known = λ e. absurd (let f : Some InOpl ≡ None = sym stage ∙ e in cc);
        bound = omega (arith, bound);
      })

  -- Where no unit was found, a comment may be shortened.
  pub gone_shorter : (m q r : Position R) → HasPassed can p m → m.offset + length m.held < 2 ^ 62 → FindsUnit m (Ok None) q
      → (r ≡ q) ⊎ IsShortened q r → HasSearched can p r
  gone_shorter m q r on bound found =
      let same = none_same m q found in
      then_shortened q r (record {
        on = gone_none can p m q on found same.0 same.1 same.2 same.3;
        none = none_there m q found;
        known = none_known m q found;
        bound = omega (arith, bound, same.2, ap length (ap (λ x. x.held) found.1 ∙ seen_held m));
      })
