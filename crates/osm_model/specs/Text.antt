-- Texts, as lists of characters (code points of Unicode).
use Rattle.std.specs.Prelude.{ℕ, Bool, true, false, not, ◌&&◌, List, [], ◌∷◌, ◌==◌, encode_utf8_all}
use lib.Utf8.{scalars}
use Rattle.std.specs.List.{list_any}
use Rattle.std.specs.declared.cmp.Ordering.{Ordering}
use Rattle.std.specs.Ordering.{on, nat_cmp}
use Rattle.std.specs.Cmp.{IsTotalOrder, on_total}
use Rattle.std.specs.Cmp.Lexicographic.{slice_cmp, nat_list_cmp_total}

abbrev pub is_empty : List ℕ → Bool
is_empty [] = true
is_empty (c ∷ cs) = false

abbrev pub has_zero : List ℕ → Bool
has_zero cs = list_any (λ c. c == 0) cs

-- the texts that a version may hold: Unicode scalar values other than U+0000
abbrev pub is_text : List ℕ → Bool
is_text cs = scalars cs && not (has_zero cs)

-- the order by the bytes of UTF-8
abbrev pub text_cmp : List ℕ → List ℕ → Ordering
text_cmp = on encode_utf8_all (slice_cmp nat_cmp)

pub text_cmp_total : IsTotalOrder text_cmp
text_cmp_total = on_total encode_utf8_all nat_list_cmp_total
