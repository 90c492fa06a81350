-- The objects of a segment determine which of two kinds of lists it had: references of ways, or node members.
use Rattle.std.proofs.Common.{◌≡◌, ◌∙◌, ap, sym, refl, ℕ, ℤ, Bool, true, false, ◌||◌, ◌&&◌, List, [], ◌∷◌, ◌++◌, arith, Ok, if◌then◌else◌}
use Rattle.std.proofs.Math.Bool.{or-false, or_assoc}
use Rattle.osm_model.specs.declared.kind.Kind.{Kind}
use Rattle.osm_model.specs.declared.kind.Kind.TheVariants as kind
use Rattle.osm_model.specs.declared.members.Member.{Member}
use Rattle.osm_model.specs.declared.body.Body.{Body}
use Rattle.osm_model.specs.declared.body.Body.TheVariants.{Deleted, Node, Way, Relation}
use Rattle.osm_model.specs.Data.{VersionData, normal_body}
use Rattle.o5_codec.specs.declared.read.segment.Segment.{Segment}
use Rattle.o5_codec.specs.declared.read.segment.ListsSeen.{ListsSeen}
use Rattle.o5_codec.specs.declared.read.segment.ListsSeen.TheVariants.{Neither, References, NodeMembers}
use Rattle.o5_codec.specs.Body.{with_section, with_member}
use Rattle.o5_codec.specs.Spelling.{ItemsInAll, ReferenceAtFront, MemberAtFront, BodyInAll, SpellsSet}
use Rattle.o5_codec.specs.Earlier.{references, members_of, node_id, node_ids, is_some_of, has_references, has_node_members}
use Rattle.o5_codec.proofs.StepLaws.{reference_only}
use Rattle.o5_codec.proofs.SoundStrings.{same_value}
use Rattle.o5_codec.proofs.EarlierSteps.{meta_end, tags_end, references_end}

-- the lists of a segment, by whether it had references and whether it had node members
abbrev pub lists_with : Bool → Bool → ListsSeen
lists_with refs nodes = if refs then References else (if nodes then NodeMembers else Neither)

-- `seen` agrees with the two flags, which aren't both true
abbrev pub Agrees : ListsSeen → Bool → Bool → Type 0
Agrees seen refs nodes = (seen ≡ lists_with refs nodes) × (refs && nodes ≡ false)

-- Equal flags determine the same list.
pub agrees_as : (seen other : ListsSeen) (refs more nodes more_nodes : Bool) → other ≡ seen → refs ≡ more → nodes ≡ more_nodes →
    Agrees seen refs nodes → Agrees other more more_nodes
agrees_as seen other refs more nodes more_nodes same p q t = (same ∙ t.0 ∙ (λ i. lists_with (p i) (q i)), (λ i. sym p i && sym q i) ∙ t.1)

some_append : {X : Type 0} (xs ys : List X) → is_some_of (xs ++ ys) ≡ is_some_of xs || is_some_of ys
some_append [] ys = refl
some_append (x ∷ xs) ys = refl

same_emptiness : (s : Segment) (section : List ℕ) (ids : List ℤ) (end : Segment) → ItemsInAll ReferenceAtFront s section ids end →
    is_some_of section ≡ is_some_of ids
same_emptiness s [] [] end spelled = refl
same_emptiness s [] (id ∷ ids) end spelled = absurd (let one = (reference_only s [] (id, spelled.0, spelled.1) spelled.2).1 in omega arith)
same_emptiness s (b ∷ section) [] end spelled = (let clash = spelled.0 in cc)
same_emptiness s (b ∷ section) (id ∷ ids) end spelled = refl

section_seen : (section : List ℕ) (refs nodes : Bool) (seen : ListsSeen) → refs && nodes ≡ false →
    with_section (lists_with refs nodes) section ≡ Ok seen →
    Agrees seen (refs || is_some_of section) (nodes || false)
section_seen [] refs nodes seen one h = agrees_as _ seen refs _ nodes _ (sym (same_value _ _ h)) (sym (or-false refs))
    (sym (or-false nodes))
    (refl, one)
section_seen (b ∷ section) true nodes seen one h = (sym (same_value _ _ h), or-false nodes ∙ one)
section_seen (b ∷ section) false true seen one h = cc
section_seen (b ∷ section) false false seen one h = (sym (same_value _ _ h), refl)

member_seen : (k : Kind) (id : ℤ) (refs nodes : Bool) (seen : ListsSeen) → refs && nodes ≡ false →
    with_member (lists_with refs nodes) k ≡ Ok seen →
    Agrees seen refs (nodes || is_some_of (node_id k id))
member_seen kind.Node id true nodes seen one h = cc
member_seen kind.Node id false true seen one h = (sym (same_value _ _ h), refl)
member_seen kind.Node id false false seen one h = (sym (same_value _ _ h), refl)
member_seen kind.Way id refs nodes seen one h = agrees_as _ seen refs refs nodes _ (sym (same_value _ _ h)) refl (sym (or-false nodes))
    (refl, one)
member_seen kind.Relation id refs nodes seen one h =
    agrees_as _ seen refs refs nodes _ (sym (same_value _ _ h)) refl (sym (or-false nodes)) (refl, one)

one_member : (s : Segment) (bytes : List ℕ) (x : Member × Segment × List ℕ) (refs nodes : Bool) → MemberAtFront s bytes x →
    Agrees s.seen refs nodes →
    Agrees x.1.seen refs (nodes || is_some_of (node_id x.0.kind x.0.id))
one_member s bytes x refs nodes (d, e, m, seen, id, ds, es, ms, sees, ids, role, kind_is, id_is, after) h =
    agrees_as seen x.1.seen refs refs _ _ (ap (λ z. z.seen) after) refl (ap (λ k. nodes || is_some_of (node_id k x.0.id)) (sym kind_is))
    (member_seen m.0 x.0.id refs nodes seen h.1 (ap (λ l. with_member l m.0) (sym h.0) ∙ sees))

members_seen : (s : Segment) (bytes : List ℕ) (members : List Member) (end : Segment) (refs nodes : Bool) →
    ItemsInAll MemberAtFront s bytes members end → Agrees s.seen refs nodes →
    Agrees end.seen refs (nodes || is_some_of (node_ids members))
members_seen s bytes [] end refs nodes spelled h = agrees_as s.seen end.seen refs refs nodes _ (ap (λ z. z.seen) (sym spelled.1)) refl
    (sym (or-false nodes)) h
members_seen s bytes (m ∷ members) end refs nodes spelled h =
    let first = one_member s bytes (m, spelled.0, spelled.1) refs nodes spelled.2 h in
    agrees_as end.seen end.seen refs refs _ _ refl refl
    (or_assoc nodes (is_some_of (node_id m.kind m.id)) (is_some_of (node_ids members))
    ∙ ap (λ b. nodes || b) (sym (some_append (node_id m.kind m.id) (node_ids members))))
    (members_seen spelled.0 spelled.1 members end refs (nodes || is_some_of (node_id m.kind m.id)) spelled.3 first)

-- the same after one more body
abbrev AgreesAfter : ListsSeen → Bool → Bool → Body → Type 0
AgreesAfter seen refs nodes body = Agrees seen (refs || is_some_of (references body)) (nodes || is_some_of (node_ids (members_of body)))

by_body : (seen other : ListsSeen) (refs nodes : Bool) (body same : Body) → other ≡ seen → body ≡ same → AgreesAfter seen refs nodes body →
    AgreesAfter other refs nodes same
by_body seen other refs nodes body same h is t =
    agrees_as seen other _ _ _ _ h (ap (λ b. refs || is_some_of (references b)) is)
    (ap (λ b. nodes || is_some_of (node_ids (members_of b))) is) t

-- a body with neither list changes nothing
neither : (seen other : ListsSeen) (refs nodes : Bool) → other ≡ seen → Agrees seen refs nodes →
    Agrees other (refs || false) (nodes || false)
neither seen other refs nodes same t = agrees_as seen other refs _ nodes _ same (sym (or-false refs)) (sym (or-false nodes)) t

body_seen : (k : Kind) (s : Segment) (bytes : List ℕ) (x : Body × Segment) (refs nodes : Bool) → BodyInAll k s bytes x →
    Agrees s.seen refs nodes → AgreesAfter x.1.seen refs nodes x.0
body_seen k s [] x refs nodes spelled h =
    by_body s.seen x.1.seen refs nodes (Deleted k) x.0 (ap (λ z. z.1.seen) spelled) (sym (ap (λ z. z.0) spelled))
    (neither s.seen s.seen refs nodes refl h)
body_seen kind.Node s (b ∷ bytes) x refs nodes (lon, lat, tags, lons, lats, tagged, made) h =
    let rest = tags_end lat.1 lat.2 tags x.1 tagged in
    let same = rest.seen_is ∙ ap (λ z. z.seen) (lats.3 ∙ ap (λ (z : Segment). record z { bases = record z.bases { lat = lat.0 } }) lons.3)
    in
    by_body s.seen x.1.seen refs nodes (Node lon.0 lat.0 tags) x.0 same (sym made) (neither s.seen s.seen refs nodes refl h)
body_seen kind.Way s (b ∷ bytes) x refs nodes (section, seen, ids, tags, cut, list, referred, tagged, made) h =
    let rest = tags_end ids.1 section.1 tags x.1 tagged in
    let before = references_end (record s { seen = seen }) section.0 ids.0 ids.1 referred in
    let known = section_seen section.0 refs nodes seen h.1 (ap (λ l. with_section l section.0) (sym h.0) ∙ list) in
    by_body seen x.1.seen refs nodes (Way ids.0 tags) x.0 (rest.seen_is ∙ before.seen_is) (sym made)
    (agrees_as seen seen _ _ _ _ refl (ap (λ some. refs || some) (same_emptiness _ section.0 ids.0 ids.1 referred)) refl known)
body_seen kind.Relation s (b ∷ bytes) x refs nodes (section, members, tags, cut, joined, tagged, made) h =
    let rest = tags_end members.1 section.1 tags x.1 tagged in
    let known = members_seen s section.0 members.0 members.1 refs nodes joined h in
    by_body members.1.seen x.1.seen refs nodes (Relation members.0 tags) x.0 rest.seen_is (sym made)
    (agrees_as _ _ refs _ _ _ refl (sym (or-false refs)) refl known)

same_lists : (seen : ListsSeen) (refs nodes : Bool) (body : Body) → AgreesAfter seen refs nodes body →
    AgreesAfter seen refs nodes (normal_body body)
same_lists seen refs nodes (Deleted k) t = t
same_lists seen refs nodes (Node lon lat tags) t = t
same_lists seen refs nodes (Way ids tags) t = t
same_lists seen refs nodes (Relation members tags) t = t

-- A data set adds its own list to those that its segment had.
pub set_seen : (k : Kind) (s : Segment) (content : List ℕ) (x : VersionData × Segment) (refs nodes : Bool) → SpellsSet k s content x →
    Agrees s.seen refs nodes →
    Agrees x.1.seen (refs || has_references x.0) (nodes || has_node_members x.0)
set_seen k s content x refs nodes spells h =
    let id = spells.id in
    let meta = spells.meta in
    let body = spells.body in
    let rest = meta_end id.1 id.2 meta spells.meta_at_front in
    let before = agrees_as s.seen meta.1.seen refs refs nodes nodes (rest.seen_is ∙ ap (λ z. z.seen) spells.id_at_front.3) refl refl h in
    by_body body.1.seen x.1.seen refs nodes (normal_body body.0) x.0.body (ap (λ z. z.1.seen) spells.made)
    (ap (λ z. z.0.body) (sym spells.made))
    (same_lists body.1.seen refs nodes body.0 (body_seen k meta.1 meta.2 body refs nodes spells.body_at_front before))
