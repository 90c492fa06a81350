-- Versions spelled in sequence, and their kinds.
use Rattle.std.proofs.Common.{◌≡◌, ℕ, zero, suc, ◌+◌, ◌<◌, ◌≤◌, List, [], ◌∷◌, ◌++◌, length, take, get_or, refl, sym, ap, subst, ◌∙◌, arith}
use Rattle.std.proofs.Common.{append_assoc, length-append, inl, inr}
use Rattle.std.proofs.lemmas.Bool.{cases_lt}
use Rattle.std.proofs.lemmas.List.{append-nil, take_more}
use Rattle.std.proofs.lemmas.Map.Keys.{Less-from_sorted}
use Rattle.std.specs.declared.cmp.Ordering.{Ordering}
use Rattle.std.specs.declared.cmp.Ordering.TheVariants.{Less, Equal, Greater}
use Rattle.std.specs.Ordering.{ordering_then, nat_cmp}
use Rattle.std.specs.Cmp.{nat_cmp_is}
use Rattle.std.specs.List.Sorted.{IsStrictlySortedBy}
use Rattle.osm_model.specs.Kind.{kind_order}
use Rattle.osm_model.specs.Data.{VersionData, kind_of}
use Rattle.osm_model.specs.Order.{version_cmp}
use Rattle.o5_codec.specs.Encoder.{WriterState, initial_writer, begins_segment, reset_before, data_set, segment_before, spelled_set}
use Rattle.o5_codec.specs.Encoder.{writer_after}
use Rattle.o5_codec.specs.Writing.{content_spelling}
use Rattle.osm_files.specs.declared.format.Format.{Format}
use Rattle.osm_files.specs.declared.format.Format.TheVariants.{Opl, O5m, O5c}
use Rattle.osm_files.specs.Spell.{file_start, file_end, version_bytes, writer_with, writer_with_all, versions_bytes, open_file_bytes}
use Rattle.osm_files.specs.Spell.{spell_list}
use Rattle.osm_files.specs.Sink.{MayFollow}

-- The data set of a version has a byte at least.
pub set_has_bytes : (w : WriterState) (v : VersionData) → 0 < length (spelled_set w v)
unfolding spelled_set
set_has_bytes w v =
    let content : List ℕ = (content_spelling v (segment_before w v)).0 in
    let k = kind_of v.body in
    omega (arith, length-append (reset_before (begins_segment w.last k)) (data_set k content))

pub spelled_append : (f : Format) (w : WriterState) (vs others : List VersionData)
    → versions_bytes f w (vs ++ others) ≡ versions_bytes f w vs ++ versions_bytes f (writer_with_all f w vs) others
spelled_append f w [] others = refl
spelled_append f w (v ∷ vs) others =
    ap (λ x. version_bytes f w v ++ x) (spelled_append f (writer_with f w v) vs others)
    ∙ sym (append_assoc (version_bytes f w v) (versions_bytes f (writer_with f w v) vs)
    (versions_bytes f (writer_with_all f (writer_with f w v) vs) others))

-- The state after two lists in sequence is the state after the second one, which follows the first.
pub after_append : (f : Format) (w : WriterState) (vs others : List VersionData)
    → writer_with_all f w (vs ++ others) ≡ writer_with_all f (writer_with_all f w vs) others
after_append f w [] others = refl
after_append f w (v ∷ vs) others = after_append f (writer_with f w v) vs others

-- one more version
pub open_more : (f : Format) (vs : List VersionData) (v : VersionData)
    → open_file_bytes f (vs ++ v ∷ []) ≡ open_file_bytes f vs ++ version_bytes f (writer_with_all f initial_writer vs) v
open_more f vs v =
    let w = writer_with_all f initial_writer vs in
    ap (λ x. file_start f ++ x) (spelled_append f initial_writer vs (v ∷ []))
    ∙ sym (append_assoc (file_start f) (versions_bytes f initial_writer vs) (version_bytes f w v ++ []))
    ∙ ap (λ x. open_file_bytes f vs ++ x) (append-nil (version_bytes f w v))

-- the file of the first versions, up to the mark of its end, is a front of the file of all
pub list_split : (f : Format) (vs others : List VersionData)
    → spell_list f (vs ++ others) ≡ open_file_bytes f vs ++ (versions_bytes f (writer_with_all f initial_writer vs) others ++ file_end f)
list_split f vs others =
    let w = writer_with_all f initial_writer vs in
    let front = versions_bytes f initial_writer vs in
    let back = versions_bytes f w others in
    ap (λ x. (file_start f ++ x) ++ file_end f) (spelled_append f initial_writer vs others)
    ∙ ap (λ x. x ++ file_end f) (sym (append_assoc (file_start f) front back))
    ∙ append_assoc (file_start f ++ front) back (file_end f)

last_after : (f : Format) (w : WriterState) (v : VersionData) → (writer_with f w v).last ≡ kind_of v.body
unfolding writer_after
last_after Opl w v = refl
last_after O5m w v = refl
last_after O5c w v = refl

-- If the first of two orders is Greater, the order by both isn't Less.
pub first_so : (a b : Ordering) → ordering_then a b ≡ Less → a ≡ Greater → ⊥
first_so Less b e g = cc
first_so Equal b e g = cc
first_so Greater b e g = cc

-- If the first of two orders is Greater, the order by both is Greater.
pub then_greater : (a b : Ordering) → a ≡ Greater → ordering_then a b ≡ Greater
then_greater Less b g = cc
then_greater Equal b g = cc
then_greater Greater b g = refl

-- the kinds of two that ascend don't fall
pub kinds_ascend : (v w : VersionData) → version_cmp v w ≡ Less → kind_order (kind_of v.body) ≤ kind_order (kind_of w.body)
kinds_ascend v w less =
    let x = kind_order (kind_of v.body) in
    let y = kind_order (kind_of w.body) in
    elim (cases_lt y x) [
      | inl falls ↦ (
          let greater : nat_cmp x y ≡ Greater = sym (nat_cmp_is x y Greater falls) in
          absurd (first_so _ _ less (then_greater _ _ (then_greater _ _ (then_greater _ _ (then_greater _ _ (then_greater _ _ greater)))))))
      | inr rises ↦ rises
    ]

follows_at : (f : Format) (w : WriterState) (xs : List VersionData) (i : ℕ) (d : VersionData) → IsStrictlySortedBy version_cmp xs
    → suc i < length xs
    → MayFollow (get_or xs (i + 1) d) (writer_with_all f w (take (i + 1) xs))
follows_at f w xs i d sorted within =
    let v : VersionData = get_or xs i d in
    let less : version_cmp v (get_or xs (i + 1) d) ≡ Less =
    Less-from_sorted version_cmp xs i (i + 1) d sorted (omega arith) (omega (arith, within)) in
    let state : writer_with_all f w (take (i + 1) xs) ≡ writer_with f (writer_with_all f w (take i xs)) v =
    ap (writer_with_all f w) (take_more xs i d (omega (arith, within))) ∙ after_append f w (take i xs) (v ∷ []) in
    let last : (writer_with_all f w (take (i + 1) xs)).last ≡ kind_of v.body =
    ap (λ s. s.last) state ∙ last_after f (writer_with_all f w (take i xs)) v in
    subst (λ k. kind_order k ≤ kind_order (kind_of (get_or xs (i + 1) d).body)) (sym last) (kinds_ascend v (get_or xs (i + 1) d) less)

-- in an ascending list each version may follow those before it
pub may_follow : (f : Format) (xs : List VersionData) (i : ℕ) (d : VersionData) → IsStrictlySortedBy version_cmp xs → i < length xs
    → MayFollow (get_or xs i d) (writer_with_all f initial_writer (take i xs))
may_follow f xs zero d sorted within = omega arith
may_follow f xs (suc i) d sorted within =
    let e : suc i ≡ i + 1 = omega arith in rw e (follows_at f initial_writer xs i d sorted (omega (arith, within)))
