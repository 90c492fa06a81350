-- The test of the end of an input, which some bytes extend.
use Rattle.std.proofs.Common.{◌≡◌, ℕ, zero, suc, min, ◌+◌, ◌-◌, ◌≤◌, ◌==◌, nat_eq, ◌||◌, ◌&&◌, not, Bool, true, false, cond, List, []}
use Rattle.std.proofs.Common.{◌∷◌, ◌++◌, length, take, drop, slice_get, is_some, nat_lt, IfSome, Option, Some, None, refl, sym, ap, ◌∙◌}
use Rattle.std.proofs.Common.{arith, append-nil, append_assoc, length-append}
use Rattle.std.proofs.Math.Bool.{or-false}
use Rattle.std.proofs.Math.Seq.{drop-append_seam}
use Rattle.std.proofs.lemmas.Bool.Decides.{nat_tests}
use Rattle.std.proofs.lemmas.List.{drop-append-le, take-append-le, take_all, drop_all, drop-drop, length-drop, drop_min}
use Rattle.std.specs.Cmp.Lexicographic.{pointwise, unequal}
use Rattle.std.specs.List.{ends_with}
use Rattle.osm_files.specs.declared.end_rule.EndRule.{EndRule}
use Rattle.osm_files.specs.declared.end_rule.EndRule.TheVariants.{Any, LineFeed, Mark}
use Rattle.osm_files.specs.declared.end_rule.EndTest.{EndTest}
use Rattle.osm_files.specs.EndRule.{end_mark, last_seven, start_bytes, is_o5_start}
use Rattle.osm_files.specs.EndRule.{rule_after, test_after, lacks_by, lacks_end, new_test, lacks_its_end, lacks_by_ends}

-- ---- the last bytes
drop_joined : (n : ℕ) (xs ys : List ℕ) → drop n (xs ++ ys) ≡ drop n xs ++ drop (n - length xs) ys
drop_joined zero xs ys = let none : 0 - length xs ≡ 0 = omega arith in rw none refl
drop_joined (suc n) [] ys = let all : suc n - length {A = ℕ} [] ≡ suc n = omega arith in rw all refl
drop_joined (suc n) (x ∷ xs) ys =
    let less : suc n - length (x ∷ xs) ≡ n - length xs = omega arith in
    rw less (drop_joined n xs ys)

-- the last bytes after more bytes: those of the last ones that remain, and the last of the new ones
last_joined : (last bytes : List ℕ) (added : ℕ) → length last ≡ 7 → added ≡ min (length bytes) 7
    → last_seven (last ++ bytes) ≡ drop added last ++ drop (length bytes - added) bytes
last_joined last bytes added seven is =
    let count : length (last ++ bytes) - 7 ≡ length bytes = omega (arith, seven, length-append last bytes) in
    let capped : min (length bytes) (length last) ≡ added = omega (arith, seven, is) in
    let left : length bytes - length last ≡ length bytes - added = omega (arith, seven, is) in
    ap (λ n. drop n (last ++ bytes)) count
    ∙ drop_joined (length bytes) last bytes
    ∙ ap (λ xs. xs ++ drop (length bytes - length last) bytes) (sym (drop_min (length bytes) last) ∙ ap (λ n. drop n last) capped)
    ∙ ap (λ n. drop added last ++ drop n bytes) left

-- the front of a list and all after it were written
written_whole : (first second rest : List ℕ) (kept count : ℕ) → length first ≡ kept → length rest ≤ count
    → take kept (first ++ rest) ++ (second ++ drop count (drop kept (first ++ rest))) ≡ first ++ second
written_whole first second rest kept count size few =
    let front : take kept (first ++ rest) ≡ first =
    take-append-le kept first rest (omega (arith, size)) ∙ take_all kept first (omega (arith, size)) in
    let back : drop kept (first ++ rest) ≡ rest = ap (λ n. drop n (first ++ rest)) (sym size) ∙ drop-append_seam first rest in
    let nothing : drop count (drop kept (first ++ rest)) ≡ [] = ap (drop count) back ∙ drop_all count rest few in
    (λ i. front i ++ (second ++ nothing i)) ∙ ap (λ xs. first ++ xs) (append-nil second)

-- the last bytes after more bytes, as they are written
pub last_written : (last bytes first second zeros : List ℕ) (added : ℕ) → length last ≡ 7 → length zeros ≡ 7 → added ≡ min (length bytes) 7
    → first ≡ take (7 - added) (drop added last) → second ≡ take (length bytes - (length bytes - added)) (drop (length bytes - added) bytes)
    → take (7 - added) (first ++ drop (7 - added) zeros)
    ++ (second ++ drop (7 - (7 - added)) (drop (7 - added) (first ++ drop (7 - added) zeros)))
    ≡ last_seven (last ++ bytes)
last_written last bytes first second zeros added seven room is first_is second_is =
    let left : length (drop added last) ≡ 7 - added = omega (arith, seven, length-drop added last) in
    let dropped : first ≡ drop added last = first_is ∙ take_all (7 - added) (drop added last) (omega (arith, left)) in
    let new : second ≡ drop (length bytes - added) bytes =
    second_is ∙ take_all (length bytes - (length bytes - added)) (drop (length bytes - added) bytes)
    (omega (arith, length-drop (length bytes - added) bytes)) in
    let size : length first ≡ 7 - added = ap length dropped ∙ left in
    let few : length (drop (7 - added) zeros) ≤ 7 - (7 - added) = omega (arith, room, is, length-drop (7 - added) zeros) in
    written_whole first second (drop (7 - added) zeros) (7 - added) (7 - (7 - added)) size few
    ∙ (λ i. dropped i ++ new i) ∙ sym (last_joined last bytes added seven is)

-- the last bytes are those of any end that has as many
last_of_end : (n : ℕ) (xs : List ℕ) → n + 7 ≤ length xs → last_seven (drop n xs) ≡ last_seven xs
last_of_end n xs long =
    let same : n + (length (drop n xs) - 7) ≡ length xs - 7 = omega (arith, long, length-drop n xs) in
    drop-drop (length (drop n xs) - 7) n xs ∙ ap (λ m. drop m xs) same

last_in_rest : (xs ys : List ℕ) → 7 ≤ length xs → last_seven (last_seven xs ++ ys) ≡ last_seven (xs ++ ys)
last_in_rest xs ys long =
    ap last_seven (sym (drop-append-le (length xs - 7) xs ys (omega arith)))
    ∙ last_of_end (length xs - 7) (xs ++ ys) (omega (arith, long, length-append xs ys))

-- ---- the test after no bytes
rule_at_end : (rule : EndRule) (begun : Bool) → rule_after rule begun None ≡ rule
rule_at_end Any begun = refl
rule_at_end LineFeed true = refl
rule_at_end LineFeed false = refl
rule_at_end Mark true = refl
rule_at_end Mark false = refl

-- the last bytes that count are among the last seven
last_alike : (n : ℕ) (xs : List ℕ) → n ≤ 7 → drop (length (last_seven xs) - n) (last_seven xs) ≡ drop (length xs - n) xs
last_alike n xs few =
    elim (nat_lt (length xs) 7) as (λ t. nat_lt (length xs) 7 ≡ t →
    drop (length (last_seven xs) - n) (last_seven xs) ≡ drop (length xs - n) xs) [
      | true ↦ λ is. (
          let none : length xs - 7 ≡ 0 = (let h : length xs ≤ 7 = grind (arith, nat_tests) in omega (arith, h)) in
          ap (λ ys. drop (length ys - n) ys) (ap (λ m. drop m xs) none))
      | false ↦ λ is. (
          let long : 7 ≤ length xs = grind (arith, nat_tests) in
          let same : (length xs - 7) + (length (last_seven xs) - n) ≡ length xs - n =
          omega (arith, long, few, length-drop (length xs - 7) xs) in
          drop-drop (length (last_seven xs) - n) (length xs - 7) xs ∙ ap (λ m. drop m xs) same)
    ] refl

-- the last seven bytes decide
lacks_alike : (rule : EndRule) (xs : List ℕ) → lacks_by rule (last_seven xs) ≡ lacks_by rule xs
lacks_alike Any xs = refl
lacks_alike LineFeed xs = ap (λ ys. not (pointwise nat_eq (10 ∷ []) ys)) (last_alike 1 xs (omega arith))
lacks_alike Mark xs = ap (λ ys. not (pointwise nat_eq end_mark ys)) (last_alike 7 xs (omega arith))

-- No more bytes change nothing.
pub lacks_nothing : (e : EndTest) → lacks_end (test_after e []) ≡ lacks_end e
lacks_nothing e =
    (λ i. lacks_by (rule_at_end e.rule e.begun i) (last_seven (append-nil e.last i))) ∙ lacks_alike e.rule e.last

-- ---- more bytes
set_by : (rule : EndRule) (is_o5 : Bool) (first : Option ℕ) → rule_after (cond is_o5 Any rule) true first ≡ cond is_o5 Any rule
set_by rule true first = refl
set_by Any false first = refl
set_by LineFeed false first = refl
set_by Mark false first = refl

rule_is_set : (rule : EndRule) (begun : Bool) (byte : ℕ) (first : Option ℕ)
    → rule_after (rule_after rule begun (Some byte)) (begun || true) first ≡ rule_after rule begun (Some byte)
rule_is_set Any begun byte first = refl
rule_is_set LineFeed true byte first = refl
rule_is_set LineFeed false byte first = set_by LineFeed (byte == 255) first
rule_is_set Mark true byte first = refl
rule_is_set Mark false byte first = set_by Mark (byte == 255) first

rule_in_rest : (rule : EndRule) (begun : Bool) (xs ys : List ℕ)
    → rule_after (rule_after rule begun (slice_get xs 0)) (begun || is_some (slice_get xs 0)) (slice_get ys 0)
    ≡ rule_after rule begun (slice_get (xs ++ ys) 0)
rule_in_rest rule begun [] ys = λ i. rule_after (rule_at_end rule begun i) (or-false begun i) (slice_get ys 0)
rule_in_rest rule begun (x ∷ xs) ys = rule_is_set rule begun x (slice_get ys 0)

last_on : (xs ys : List ℕ) → last_seven (last_seven xs ++ ys) ≡ last_seven (xs ++ ys)
last_on xs ys =
    elim (nat_lt (length xs) 7) as (λ t. nat_lt (length xs) 7 ≡ t → last_seven (last_seven xs ++ ys) ≡ last_seven (xs ++ ys)) [
      | true ↦ λ is. (
          let none : length xs - 7 ≡ 0 = (let h : length xs ≤ 7 = grind (arith, nat_tests) in omega (arith, h)) in
          ap (λ m. last_seven (drop m xs ++ ys)) none)
      | false ↦ λ is. last_in_rest xs ys (grind (arith, nat_tests))
    ] refl

-- The test after bytes and more bytes is the test after all of them.
pub test_on : (e : EndTest) (xs ys : List ℕ) → lacks_end (test_after (test_after e xs) ys) ≡ lacks_end (test_after e (xs ++ ys))
test_on e xs ys =
    let last : last_seven (last_seven (e.last ++ xs) ++ ys) ≡ last_seven (e.last ++ (xs ++ ys)) =
    last_on (e.last ++ xs) ys ∙ ap last_seven (append_assoc e.last xs ys) in
    λ i. lacks_by (rule_in_rest e.rule e.begun xs ys i) (last i)

-- ---- from the start of a file
feed_by : (is_o5 : Bool) (last : List ℕ) → lacks_by (cond is_o5 Any LineFeed) last ≡ not (is_o5 || ends_with nat_eq last (10 ∷ []))
feed_by true last = refl
feed_by false last = refl

mark_by : (is_o5 : Bool) (last : List ℕ) → lacks_by (cond is_o5 Any Mark) last ≡ not (is_o5 || ends_with nat_eq last end_mark)
mark_by true last = refl
mark_by false last = refl

feed_first : (first : Option ℕ) (last : List ℕ)
    → lacks_by (rule_after LineFeed false first) last ≡ not (is_o5_start first || ends_with nat_eq last (10 ∷ []))
feed_first None last = refl
feed_first (Some byte) last = feed_by (byte == 255) last

mark_first : (first : Option ℕ) (last : List ℕ)
    → lacks_by (rule_after Mark false first) last ≡ not (is_o5_start first || ends_with nat_eq last end_mark)
mark_first None last = refl
mark_first (Some byte) last = mark_by (byte == 255) last

-- the last byte is that of any end that has one
feed_from_start : (bytes : List ℕ)
    → ends_with nat_eq (last_seven (start_bytes ++ bytes)) (10 ∷ []) ≡ ends_with nat_eq (10 ∷ bytes) (10 ∷ [])
feed_from_start bytes =
    let size : 6 + (length (10 ∷ bytes) - 1) ≡ length (start_bytes ++ bytes) - 1 = omega (arith, length-append start_bytes bytes) in
    ap (pointwise nat_eq (10 ∷ [])) (
    last_alike 1 (start_bytes ++ bytes) (omega arith)
    ∙ sym (drop-drop (length (10 ∷ bytes) - 1) 6 (start_bytes ++ bytes) ∙ ap (λ m. drop m (start_bytes ++ bytes)) size)
    )

short_lacks : (bytes : List ℕ) → length bytes ≤ 5 → ends_with nat_eq (10 ∷ bytes) end_mark ≡ false
short_lacks bytes short =
    unequal nat_eq end_mark (last_seven (10 ∷ bytes))
    (λ same. omega (arith, same, short, length-drop (length (10 ∷ bytes) - 7) (10 ∷ bytes)))

long_alike : (xs : List ℕ) → 13 ≤ length xs → ends_with nat_eq (last_seven xs) end_mark ≡ ends_with nat_eq (drop 6 xs) end_mark
long_alike xs long =
    ap (pointwise nat_eq end_mark) (
    last_of_end (length xs - 7) xs (omega (arith, long)) ∙ sym (last_of_end 6 xs (omega (arith, long)))
    )

mark_from_start : (bytes : List ℕ) → ends_with nat_eq (last_seven (start_bytes ++ bytes)) end_mark ≡ ends_with nat_eq (10 ∷ bytes) end_mark
mark_from_start [] = sym (short_lacks [] (omega arith))
mark_from_start (a ∷ []) = sym (short_lacks (a ∷ []) (omega arith))
mark_from_start (a ∷ b ∷ []) = sym (short_lacks (a ∷ b ∷ []) (omega arith))
mark_from_start (a ∷ b ∷ c ∷ []) = sym (short_lacks (a ∷ b ∷ c ∷ []) (omega arith))
mark_from_start (a ∷ b ∷ c ∷ d ∷ []) = sym (short_lacks (a ∷ b ∷ c ∷ d ∷ []) (omega arith))
mark_from_start (a ∷ b ∷ c ∷ d ∷ e ∷ []) = sym (short_lacks (a ∷ b ∷ c ∷ d ∷ e ∷ []) (omega arith))
mark_from_start (a ∷ b ∷ c ∷ d ∷ e ∷ f ∷ bytes) = long_alike (start_bytes ++ a ∷ b ∷ c ∷ d ∷ e ∷ f ∷ bytes) (omega arith)

-- The test of a whole file says whether the rule lets it end.
pub from_start : (rule : EndRule) (bytes : List ℕ) → lacks_end (test_after (new_test rule) bytes) ≡ lacks_its_end rule bytes
from_start Any bytes = refl
from_start LineFeed bytes =
    feed_first (slice_get bytes 0) (last_seven (start_bytes ++ bytes))
    ∙ ap (λ t. not (is_o5_start (slice_get bytes 0) || t)) (feed_from_start bytes)
from_start Mark bytes =
    mark_first (slice_get bytes 0) (last_seven (start_bytes ++ bytes))
    ∙ ap (λ t. not (is_o5_start (slice_get bytes 0) || t)) (mark_from_start bytes)

pub not_lacking : (t : Bool) → not t ≡ false → t ≡ true
not_lacking true e = refl
not_lacking false e = sym e

-- ---- by the first and the last byte
abbrev last_of : ℕ → List ℕ → ℕ
last_of b [] = b
last_of b (c ∷ bytes) = last_of c bytes

last_at : (b : ℕ) (bytes : List ℕ) → slice_get (b ∷ bytes) (length (b ∷ bytes) - 1) ≡ Some (last_of b bytes)
last_at b [] = refl
last_at b (c ∷ bytes) =
    let n : length (b ∷ c ∷ bytes) - 1 ≡ suc (length (c ∷ bytes) - 1) = omega arith in
    ap (slice_get (b ∷ c ∷ bytes)) n ∙ last_at c bytes

last_dropped : (a b : ℕ) (bytes : List ℕ) → drop (length (a ∷ b ∷ bytes) - 1) (a ∷ b ∷ bytes) ≡ last_of b bytes ∷ []
last_dropped a b [] = refl
last_dropped a b (c ∷ bytes) =
    let n : length (a ∷ b ∷ c ∷ bytes) - 1 ≡ suc (length (b ∷ c ∷ bytes) - 1) = omega arith in
    ap (λ m. drop m (a ∷ b ∷ c ∷ bytes)) n ∙ last_dropped b c bytes

one_byte : (b : ℕ) → pointwise nat_eq (10 ∷ []) (b ∷ []) ≡ (b == 10)
one_byte b = grind (arith, nat_tests)

ends_in : (b : ℕ) (bytes : List ℕ) → ends_with nat_eq (10 ∷ b ∷ bytes) (10 ∷ []) ≡ (last_of b bytes == 10)
ends_in b bytes = ap (pointwise nat_eq (10 ∷ [])) (last_dropped 10 b bytes) ∙ one_byte (last_of b bytes)

neither : (a b : Bool) → not (a || b) ≡ (not a && not b)
neither true b = refl
neither false b = refl

-- The first and the last byte of a file say whether it lacks the line feed at its end.
pub lacks_at_ends : (all : List ℕ) → lacks_by_ends (slice_get all 0) (slice_get all (length all - 1)) ≡ lacks_its_end LineFeed all
lacks_at_ends [] = refl
lacks_at_ends (b ∷ bytes) =
    ap (lacks_by_ends (Some b)) (last_at b bytes)
    ∙ sym (ap (λ t. not ((b == 255) || t)) (ends_in b bytes) ∙ neither (b == 255) (last_of b bytes == 10))

-- So they are all that has to be read.
pub look : (known : Option (List ℕ)) (size last : ℕ) (first_byte last_byte : Option ℕ) (lacks : Bool)
    → lacks ≡ lacks_by_ends first_byte last_byte → last ≡ size - 1 → IfSome known (λ all. size ≡ length all)
    → IfSome known (λ all. slice_get all 0 ≡ first_byte) → IfSome known (λ all. slice_get all last ≡ last_byte)
    → IfSome known (λ all. lacks ≡ lacks_its_end LineFeed all)
look None size last first_byte last_byte lacks is at long first end = tt
look (Some all) size last first_byte last_byte lacks is at long first end =
    is ∙ (λ i. lacks_by_ends (sym first i) (sym end i))
    ∙ (λ i. lacks_by_ends (slice_get all 0) (slice_get all ((at ∙ ap (λ n. n - 1) long) i))) ∙ lacks_at_ends all
