-- A set whose members are given one by one.
use Rattle.std.proofs.Common.{◌≡◌, ℕ, ◌<◌, List, [], ◌∷◌, ◌++◌, length, option_to_list, sym, refl, ap, ◌∙◌, subst, arith, Option, Some}
use Rattle.std.proofs.Common.{None, Ok, ◌↔◌}
use Rattle.std.specs.Prelude.{IsSome}
use Rattle.std.specs.List.Sorted.{IsStrictlySortedBy}
use Rattle.std.proofs.lemmas.Bool.{false≢true}
use Rattle.std.proofs.lemmas.List.{nil_from_length}
use Rattle.osm_model.specs.Data.{VersionData}
use Rattle.osm_model.specs.Order.{version_cmp}
use Rattle.osm_model.specs.Sets.{to_list, from_list, size}
use Rattle.osm_model.specs.VersionSet.{VersionSet}
use Rattle.osm_model.proofs.VersionLaws.{to_list-view}
use Rattle.osm_files.specs.Groups.{set_given}
use Rattle.osm_files.specs.Source.{SourceStep}
use Rattle.osm_files.proofs.RiseLaws.{strict_rest}

module _ (set : VersionSet) (items rest : List VersionData) (is : from_list {R = version_cmp} items ≡ set)
    (rises : IsStrictlySortedBy version_cmp items) where
  -- the members of the set are those of the list
  members_are : to_list set ≡ items
  members_are = ap to_list (sym is) ∙ to_list-view items rises

  -- the list without the item that is given ascends strictly
  pub given_rises : (given : Option VersionData) → items ≡ option_to_list given ++ rest → IsStrictlySortedBy version_cmp rest
  given_rises None e = subst (λ (xs : List VersionData). IsStrictlySortedBy version_cmp xs) e rises
  given_rises (Some v) e = strict_rest v rest (subst (λ (xs : List VersionData). IsStrictlySortedBy version_cmp xs) e rises)

  -- the first member, and the set of the others
  first_member : (v : VersionData) → items ≡ v ∷ rest → to_list set ≡ v ∷ to_list (from_list {R = version_cmp} rest)
  first_member v e = members_are ∙ e ∙ ap (λ xs. v ∷ xs) (sym (to_list-view rest (given_rises (Some v) e)))

  -- if no member is given, none is left
  none_left : (n : ℕ) → n ≡ length items → IsSome {T = VersionData} None ↔ (0 < n) → items ≡ []
  none_left n same some = nil_from_length items (let none : 0 < n → ⊥ = λ h. false≢true (some.1 h) in omega (arith, same, none))

  -- A set whose members are given one by one takes a step with each of them.
  pub given_step : (given : Option VersionData) (n : ℕ) → items ≡ option_to_list given ++ rest → n ≡ length items → IsSome given ↔ (0 < n)
      → SourceStep (Some (set_given set)) (Ok given) (Some (set_given (from_list rest)))
  given_step None n e same some =
      let none : items ≡ [] = none_left n same some in
      let left : to_list (from_list {R = version_cmp} rest) ≡ [] = to_list-view rest (given_rises None e) ∙ sym e ∙ none in
      ((λ i. record { list = (members_are ∙ none) i; refusal = None }), (λ i. Some (record { list = left i; refusal = None })))
  given_step (Some v) n e same some = (set_given (from_list rest), (λ i. record { list = first_member v e i; refusal = None }), refl)

  -- With each member that is given, fewer are left.
  pub given_fewer : (given : Option VersionData) → items ≡ option_to_list given ++ rest → IsSome given →
      size (from_list {R = version_cmp} rest) < size set
  given_fewer None e some = absurd (false≢true some)
  given_fewer (Some v) e some = let n = ap length (first_member v e) in omega (arith, n)
