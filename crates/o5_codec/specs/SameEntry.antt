-- Entries are the same exactly if their forms and their strings are equal.
use Rattle.std.specs.Prelude.{◌≡◌, Bool, true, false, ◌&&◌, refl}
use Rattle.std.proofs.Common.{ap}
use Rattle.std.specs.Bool.{Decides}
use Rattle.std.specs.Str.{bytes_eq}
use Rattle.std.specs.Cmp.Lexicographic.{bytes_decides}
use Rattle.o5_codec.specs.declared.strings.Form.{Form}
use Rattle.o5_codec.specs.declared.strings.Form.TheVariants.{Pair, Single}
use Rattle.o5_codec.specs.Formed.{FormedEntry, formed_entry, same_form, same_entry}

same_form_decides : (x y : Form) → Decides (same_form x y) (x ≡ y)
same_form_decides Pair Pair = (λ e. refl, λ e. refl)
same_form_decides Pair Single = (λ e. absurd (cc), λ e. absurd (cc))
same_form_decides Single Pair = (λ e. absurd (cc), λ e. absurd (cc))
same_form_decides Single Single = (λ e. refl, λ e. refl)

both : (a b : Bool) → a && b ≡ true → (a ≡ true) × (b ≡ true)
both true b e = (refl, e)
both false b e = absurd (cc)

pub same_entry_decides : (x y : FormedEntry) → Decides (same_entry x y) (x ≡ y)
same_entry_decides x y = (
  λ e.
      let outer = both (same_form x.form y.form)
      (bytes_eq x.strings.first y.strings.first && bytes_eq x.strings.second y.strings.second) e in
      let inner = both (bytes_eq x.strings.first y.strings.first)
      (bytes_eq x.strings.second y.strings.second) outer.1 in
      let form : x.form ≡ y.form = (same_form_decides x.form y.form).0 outer.0 in
      let first : x.strings.first ≡ y.strings.first = (bytes_decides x.strings.first y.strings.first).0 inner.0 in
      let second : x.strings.second ≡ y.strings.second = (bytes_decides x.strings.second y.strings.second).0 inner.1 in
      λ i. formed_entry (form i) (first i) (second i),
  λ e.
      let form : same_form x.form y.form ≡ true = (same_form_decides x.form y.form).1 (ap (λ z. z.form) e) in
      let first : bytes_eq x.strings.first y.strings.first ≡ true =
      (bytes_decides x.strings.first y.strings.first).1 (ap (λ z. z.strings.first) e) in
      let second : bytes_eq x.strings.second y.strings.second ≡ true =
      (bytes_decides x.strings.second y.strings.second).1 (ap (λ z. z.strings.second) e) in
      λ i. form i && (first i && second i),
)
