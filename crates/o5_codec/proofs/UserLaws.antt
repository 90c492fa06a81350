-- A user is read exactly if the two strings of a pair spell it.
use Rattle.std.proofs.Common.{◌≡◌, ◌∙◌, ap, sym, refl, subst, ℕ, ◌<◌, ◌^◌, ltb, true, List, [], ◌∷◌, arith, Ok}
use Rattle.std.proofs.lemmas.List.{append-nil}
use Rattle.std.proofs.lemmas.Bool.{lt-ltb}
use Rattle.std.proofs.lemmas.Bool.Decides.{nat_tests}
use Rattle.o5_codec.specs.declared.reason.O5Reason.TheVariants.{OutOfRange}
use Rattle.o5_codec.specs.Entry.{EntryStrings}
use Rattle.o5_codec.specs.Number.{SpellsNumber, number_at}
use Rattle.o5_codec.specs.Text.{text_of, whole_number, uid_of, user_of}
use Rattle.o5_codec.specs.Laws.{SpellsUid}
use Rattle.o5_codec.proofs.SoundStrings.{first_ok, tested_ok, same_value}
use Rattle.o5_codec.proofs.ResultSteps.{read_next}
use Rattle.o5_codec.proofs.NumberLaws.{number_found, number_only}

below_limit : (n : ℕ) → ltb n (2 ^ 32) ≡ true → n < 2 ^ 32
below_limit n h = grind (arith, nat_tests)

whole_found : (bytes : List ℕ) (y : ℕ × List ℕ) (n : ℕ) → number_at bytes ≡ Ok y → whole_number y ≡ Ok n →
    SpellsNumber bytes n × (n < 2 ^ 32)
whole_found bytes (m, []) n read h =
    let t = tested_ok (ltb m (2 ^ 32)) m n OutOfRange h in
    let spelled = number_found bytes (m, []) read in
    let P : List ℕ × ℕ → Type 0 = λ z. SpellsNumber z.0 z.1 × (z.1 < 2 ^ 32) in
    subst P (λ i. ((sym (append-nil spelled.0) ∙ sym spelled.2) i, t.1 i)) (spelled.1, below_limit m t.0)
whole_found bytes (m, b ∷ rest) n read h = cc

uid_found : (bytes : List ℕ) (n : ℕ) → uid_of bytes ≡ Ok n → SpellsUid bytes n
unfolding uid_of
uid_found [] n h = sym (same_value 0 n h)
uid_found (b ∷ bytes) n h = (let f = first_ok (number_at (b ∷ bytes)) whole_number n h in whole_found (b ∷ bytes) f.0 n f.1 f.2)

uid_only : (bytes : List ℕ) (n : ℕ) → SpellsUid bytes n → uid_of bytes ≡ Ok n
unfolding uid_of
uid_only [] n h = ap (λ m. Ok m) (sym h)
uid_only (b ∷ bytes) n h =
    read_next (number_at (b ∷ bytes)) whole_number (n, []) (number_only (b ∷ bytes) (n, []) (b ∷ bytes, h.0, sym (append-nil (b ∷ bytes))))
    ∙ rw (lt-ltb n (2 ^ 32) h.1) refl

-- A user that is read is spelled by the two strings.
pub user_found : (e : EntryStrings) (x : ℕ × List ℕ) → user_of e ≡ Ok x → SpellsUid e.first x.0 × (text_of e.second ≡ Ok x.1)
unfolding user_of
user_found e x h =
    let f = first_ok (uid_of e.first) _ x h in
    let g = first_ok (text_of e.second) _ x f.2 in
    let same : (f.0, g.0) ≡ x = same_value _ _ g.2 in
    let P : ℕ × List ℕ → Type 0 = λ y. SpellsUid e.first y.0 × (text_of e.second ≡ Ok y.1) in
    subst P same (uid_found e.first f.0 f.1, g.1)

-- A user that the two strings spell is read.
pub user_only : (e : EntryStrings) (x : ℕ × List ℕ) → SpellsUid e.first x.0 × (text_of e.second ≡ Ok x.1) → user_of e ≡ Ok x
unfolding user_of
user_only e x h = read_next (uid_of e.first) _ x.0 (uid_only e.first x.0 h.0) ∙ read_next (text_of e.second) _ x.1 h.1
