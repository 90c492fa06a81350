use Rattle.std.proofs.Common.{◌≡◌, ◌∷◌, [], ◌++◌, Some, None, false, true, rules, refl, inr, sym, ap, ◌∙◌, option_copied}
use Rattle.std.specs.List.{list_all}
use Rattle.std.specs.String.{string_bytes}
use Rattle.std.specs.Char.{encode_utf8}
use Rattle.opl_line.specs.declared.bytes.cut.Delimiter.TheVariants.{Percents}
use Rattle.opl_line.specs.Delimiter.{is_end, split_first, split_all, pieces_of}
use Rattle.opl_line.specs.Text.{is_literal, scalar_of, text_from}
use Rattle.opl_line.proofs.CutLaws.{cut_split}
use Rattle.opl_line.proofs.TextLaws.{never_ended, bad_scalar, bad_raw, one_escape}
use Rattle.opl_line.proofs.general.text.append_escape.Goals as goal

pub returns-in_default-clause-text : goal.returns-in_default-clause-text
returns-in_default-clause-text c =
    let e : split_all (is_end Percents) c.args.escape.now ≡ c.split.result.0.now ∷ [] = search rules in
    inr (refl, never_ended (string_bytes c.args.out.now) c.split.result.0.now _ e)

pub returns-in_default-scalar_of-clause-text : goal.returns-in_default-scalar_of-clause-text
returns-in_default-scalar_of-clause-text c =
    let e : split_all (is_end Percents) c.args.escape.now ≡ c.split.result.0.now ∷ split_all (is_end Percents) c.in_default-Some.rest.now =
    search rules in
    let none : scalar_of c.split.result.0.now ≡ None = search rules in
    inr (
      refl,
      bad_scalar (string_bytes c.args.out.now) c.split.result.0.now _ _ _ _ e
          (cut_split (is_end Percents) c.in_default-Some.rest.now) none,
    )

pub returns-in_default-split_accepted-clause-text : goal.returns-in_default-split_accepted-clause-text
returns-in_default-split_accepted-clause-text c =
    let e : split_all (is_end Percents) c.args.escape.now ≡ c.split.result.0.now ∷ split_all (is_end Percents) c.in_default-Some.rest.now =
    search rules in
    let other : list_all is_literal (split_first (is_end Percents) c.in_default-Some.rest.now).0 ≡ false = search rules in
    inr (
      refl,
      bad_raw (string_bytes c.args.out.now) c.split.result.0.now _ _ _ _ e
          (cut_split (is_end Percents) c.in_default-Some.rest.now) other,
    )

pub returns-clause-text : goal.returns-clause-text
returns-clause-text c =
    let e : split_all (is_end Percents) c.args.escape.now ≡ c.split.result.0.now ∷ split_all (is_end Percents) c.in_default-Some.rest.now =
    search rules in
    let raw : list_all is_literal c.in-Some-split_accepted.raw.now ≡ true = search rules in
    let parts : split_first (is_end Percents) c.in_default-Some.rest.now
    ≡ (c.in-Some-split_accepted.raw.now, option_copied c.in-Some-split_accepted.more) = search rules in
    let f : split_all (is_end Percents) c.in_default-Some.rest.now ≡ c.in-Some-split_accepted.raw.now
    ∷ pieces_of (is_end Percents) (option_copied c.in-Some-split_accepted.more) =
    cut_split (is_end Percents) c.in_default-Some.rest.now ∙ ap (λ s. s.0 ∷ pieces_of (is_end Percents) s.1) parts in
    let some : scalar_of c.split.result.0.now ≡ Some c.in-Some.character = search rules in
    let bytes : string_bytes c.push_str.new.self ≡ string_bytes c.args.out.now ++ encode_utf8 c.in-Some.character
    ++ c.in-Some-split_accepted.raw.now = search rules in
    one_escape (string_bytes c.args.out.now) c.split.result.0.now c.in-Some-split_accepted.raw.now c.in-Some.character _ _ _ e f some raw
    ∙ ap (λ t. text_from t (pieces_of (is_end Percents) (option_copied c.in-Some-split_accepted.more))) (sym bytes)
