-- The sizes of data sets: a size that is spelled is read, and a size that was read is spelled.
use Rattle.std.proofs.Common.{◌≡◌, ℕ, suc, ◌+◌, ◌-◌, ◌≤◌, true, List, [], ◌∷◌, ◌++◌, length}
use Rattle.std.proofs.Common.{drop, take, refl, sym, ap, ◌∙◌, subst, arith, Option, Some, Result, Ok, length-append}
use Rattle.std.proofs.Common.{◌||◌, nat_lt, take-append-drop, length-take}
use Rattle.std.specs.List.{list_any}
use Rattle.std.proofs.lemmas.Bool.{lt-ltb}
use Rattle.std.proofs.Math.Bool.{or-true}
use Rattle.std.proofs.Math.Seq.{drop-append-add, take-append_seam, drop-append_seam}
use Rattle.std.proofs.lemmas.Option.{cond_some}
use Rattle.o5_codec.specs.declared.reason.O5Reason.{O5Reason}
use Rattle.o5_codec.specs.Number.{AreGroups, SpellsNumber, number_at}
use Rattle.o5_codec.proofs.NumberLaws.{number_found, number_only}
use Rattle.osm_files.specs.Units.{is_last, is_ended}
use Rattle.osm_files.specs.Units.{length_at}

-- a size, `content` of that size, and the bytes after it
pub record Sized (bytes : List ℕ) (content rest : List ℕ) : Type 0 where
  pub size : List ℕ
  pub spelled : SpellsNumber size (length content)
  pub split : bytes ≡ size ++ (content ++ rest)

groups_ended : (size rest : List ℕ) (n : ℕ) → AreGroups size n → list_any is_last (size ++ rest) ≡ true
groups_ended [] rest n groups = absurd groups
groups_ended (b ∷ []) rest n groups = rw (lt-ltb b 128 groups.0) refl
groups_ended (b ∷ c ∷ size) rest n groups = ap (λ t. nat_lt b 128 || t) (groups_ended (c ∷ size) rest groups.1.0 groups.1.2)
    ∙ or-true (nat_lt b 128)

-- the size of a data set is read if it is spelled
pub length_read : (bytes content rest : List ℕ) → Sized bytes content rest → length_at bytes ≡ Some (Ok (length content, content ++ rest))
length_read bytes content rest h =
    let after : List ℕ = content ++ rest in
    let ended : is_ended (h.size ++ after) ≡ true =
    ap (λ t. nat_lt 10 (length (h.size ++ after)) || t) (groups_ended h.size after (length content) h.spelled.groups)
    ∙ or-true (nat_lt 10 (length (h.size ++ after))) in
    let number : number_at (h.size ++ after) ≡ Ok (length content, after) =
    number_only (h.size ++ after) (length content, after) (h.size, h.spelled, refl) in
    ap length_at h.split ∙ rw (ended, number) refl

-- a length that was read is spelled at the front
pub record LengthFound (b : ℕ) (bytes : List ℕ) (n : ℕ) (after : List ℕ) : Type 0 where
  pub size : List ℕ
  pub spelled : SpellsNumber size n
  pub split : bytes ≡ size ++ after
  pub rest : drop (1 + (length bytes - length after) + n) (b ∷ bytes) ≡ drop n after

-- A length that is found is spelled at the front.
pub length_found : (b : ℕ) (bytes : List ℕ) (n : ℕ) (after : List ℕ) → length_at bytes ≡ Some (Ok (n, after)) →
    LengthFound b bytes n after
length_found b bytes n after e =
    let found = number_found bytes (n, after) (cond_some (is_ended bytes) (number_at bytes) (Ok (n, after)) e).1 in
    let far : 1 + (length bytes - length after) + n ≡ suc (length found.0 + n) =
    omega (arith, ap length found.2, length-append found.0 after) in
    record {
      size = found.0;
      spelled = found.1;
      split = found.2;
      rest = rw far (ap (drop (length found.0 + n)) found.2 ∙ drop-append-add found.0 after n);
    }

-- the content has the length that is spelled
pub content_sized : (bytes : List ℕ) (n : ℕ) (after : List ℕ) (b : ℕ) → n ≤ length after → LengthFound b bytes n after →
    Sized bytes (take n after) (drop n after)
content_sized bytes n after b fits found =
    let long : length (take n after) ≡ n = omega (arith, length-take n after, fits) in
    record {
      size = found.size;
      spelled = subst (SpellsNumber found.size) (sym long) found.spelled;
      split = found.split ∙ ap (λ x. found.size ++ x) (sym (take-append-drop n after));
    }

-- `content` is the first `n` bytes of `after`, and `rest` is the bytes after them
pub record SameSize (n : ℕ) (after content rest : List ℕ) : Type 0 where
  pub within : n ≤ length after
  pub content_is : take n after ≡ content
  pub rest_is : drop n after ≡ rest

abbrev pub Length : Type 0
Length = Option (Result (ℕ × List ℕ) O5Reason)

abbrev pub some_length : ℕ → List ℕ → Length
some_length n after = Some (Ok (n, after))

same_length : (n m : ℕ) (after other : List ℕ) → some_length n after ≡ some_length m other → (n ≡ m) × (after ≡ other)
same_length n m after other e =
    let here : ℕ × List ℕ = (n, after) in
    let there : ℕ × List ℕ = (m, other) in
    let f : here ≡ there = cc in
    (ap (λ x. x.0) f, ap (λ x. x.1) f)

pub same_size : (bytes : List ℕ) (n : ℕ) (after content rest : List ℕ) → length_at bytes ≡ Some (Ok (n, after)) →
    Sized bytes content rest → SameSize n after content rest
same_size bytes n after content rest e sized =
    let both = same_length n (length content) after (content ++ rest) (sym e ∙ length_read bytes content rest sized) in
    let m : n ≡ length content = both.0 in
    let g : after ≡ content ++ rest = both.1 in
    record {
      within = omega (arith, m, ap length g, length-append content rest);
      content_is = (λ i. take (m i) (g i)) ∙ take-append_seam content rest;
      rest_is = (λ i. drop (m i) (g i)) ∙ drop-append_seam content rest;
    }
