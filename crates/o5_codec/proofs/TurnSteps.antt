-- Steps of writing in sequence.
use Rattle.std.proofs.Common.{◌≡◌, ℕ, ◌<◌, List, [], ◌∷◌, ◌++◌, map, length, refl, sym, ap, ◌∙◌, subst, arith, append_assoc, get_or, Bool}
use Rattle.std.proofs.Common.{true, inl, inr}
use Rattle.std.specs.List.{list_all}
use Rattle.std.proofs.lemmas.List.{append-nil, length-map, get_or-map}
use Rattle.std.proofs.lemmas.List.Folds.{list_all_at}
use Rattle.std.proofs.lemmas.Bool.{cases_Bool, false≢true}
use Rattle.osm_model.specs.declared.members.Member.{Member}
use Rattle.osm_model.specs.Members.{ids_of_members}
use Rattle.osm_model.specs.Id.{is_id}
use Rattle.o5_codec.specs.Writing.{EncoderSegment, WriteStep, sequence, fixed_bytes}
use Rattle.o5_codec.specs.Appended.{AppendsSpelling}

-- No steps append nothing.
pub turn_none : (bytes : List ℕ) (s : EncoderSegment) → AppendsSpelling bytes bytes s (sequence [] s)
unfolding sequence
turn_none bytes s = record { bytes = sym (append-nil bytes); segment = refl }

-- A step and then the other steps append the bytes that all steps spell.
pub turn_next : (step : WriteStep) (steps : List WriteStep) (b0 b1 b2 : List ℕ) (s0 s1 s2 : EncoderSegment) →
    AppendsSpelling b0 b1 s1 (step s0) → AppendsSpelling b1 b2 s2 (sequence steps s1) →
    AppendsSpelling b0 b2 s2 (sequence (step ∷ steps) s0)
unfolding sequence
turn_next step steps b0 b1 b2 s0 s1 s2 first rest =
    let P : EncoderSegment → Type 0 = λ s. AppendsSpelling b1 b2 s2 (sequence steps s) in
    let later : AppendsSpelling b1 b2 s2 (sequence steps (step s0).1) = subst P first.segment rest in
    record {
      bytes = later.bytes ∙ ap (λ b. b ++ (sequence steps (step s0).1).0) first.bytes
          ∙ append_assoc b0 (step s0).0 (sequence steps (step s0).1).0;
      segment = later.segment;
    }

-- A single step appends the bytes that the sequence of only this step spells.
pub turn_last : (step : WriteStep) (b0 b1 : List ℕ) (s0 s1 : EncoderSegment) → AppendsSpelling b0 b1 s1 (step s0) →
    AppendsSpelling b0 b1 s1 (sequence (step ∷ []) s0)
turn_last step b0 b1 s0 s1 first = turn_next step [] b0 b1 b1 s0 s1 s1 first (turn_none b1 s1)

-- Fixed bytes leave the segment as it is.
pub plainly : (bytes before after : List ℕ) (s : EncoderSegment) → after ≡ before ++ bytes →
    AppendsSpelling before after s (fixed_bytes bytes s)
unfolding fixed_bytes
plainly bytes before after s e = record { bytes = e; segment = refl }

module _ {X : Type 0} (step : X → WriteStep) where
  -- the steps that are left complete the bytes of all steps
  pub record Turns (all rest : List X) (before now : List ℕ) (start s : EncoderSegment) : Type 0 where
    pub left : (after : List ℕ) (reached : EncoderSegment) → AppendsSpelling now after reached (sequence (map step rest) s) →
        AppendsSpelling before after reached (sequence (map step all) start)

  -- At first all steps are left.
  pub turns_begin : (all : List X) (before : List ℕ) (start : EncoderSegment) → Turns all all before before start start
  turns_begin all before start = record { left = λ after reached h. h }

  -- One more step extends what was appended.
  pub turns_more : (all rest more : List X) (x : X) (before now next : List ℕ) (start s t : EncoderSegment) →
      Turns all rest before now start s → rest ≡ x ∷ more → AppendsSpelling now next t (step x s) → Turns all more before next start t
  turns_more all rest more x before now next start s t h is one = record {
    left = λ after reached k. h.left after reached (let P : List X → Type 0 =
        λ xs. AppendsSpelling now after reached (sequence (map step xs) s) in
        subst P (sym is) (turn_next (step x) (map step more) now next after s t reached one k));
  }

  -- If no step is left, all steps were appended.
  pub turns_end : (all rest : List X) (before now : List ℕ) (start s : EncoderSegment) → Turns all rest before now start s → rest ≡ [] →
      AppendsSpelling before now s (sequence (map step all) start)
  turns_end all rest before now start s h is =
      let P : List X → Type 0 = λ xs. AppendsSpelling now now s (sequence (map step xs) s) in
      h.left now s (subst P (sym is) (turn_none now s))

-- each item of a list passes a test that all of them pass
all_at : {X : Type 0} (p : X → Bool) (xs : List X) (i : ℕ) (d : X) → i < length xs → list_all p xs ≡ true → p (get_or xs i d) ≡ true
all_at p xs i d inside all = elim (cases_Bool (p (get_or xs i d))) [
  | inl passed ↦ passed
  | inr failed ↦ absurd (false≢true (sym (list_all_at p xs i d inside failed) ∙ all))
]

-- Each member of a list of ids has an id.
pub member_at : (members : List Member) (i : ℕ) (m : Member) → i < length members → m ≡ get_or members i m →
    list_all is_id (ids_of_members members) ≡ true → is_id m.id ≡ true
member_at members i m inside is all =
    ap (λ x. is_id x.id) is ∙ ap is_id (sym (get_or-map (λ (x : Member). x.id) members i m m.id inside))
    ∙ all_at is_id (ids_of_members members) i m.id (omega (arith, length-map members (λ (x : Member). x.id))) all
