-- Lines that spell a plan, and one more line after them; lines spell at most one plan.
use Rattle.std.proofs.Common.{◌≡◌, ◌⊎◌, ℕ, suc, ◌+◌, ◌<◌, ◌==◌, true, take, drop, get_or, ◌≤◌, cond, List, [], ◌∷◌, ◌++◌, length, map}
use Rattle.std.proofs.Common.{filter, refl, sym, ap, ◌∙◌, subst, append_assoc, append-nil, length-append, length-take, drop-cons, add-one}
use Rattle.std.proofs.Common.{Result, Ok, Err, IfErr, inl, inr, arith}
use Rattle.std.proofs.lemmas.List.{map-append, take-append-drop}
use Rattle.std.proofs.lemmas.List.Splits.{length-slice_split}
use Rattle.std.proofs.lemmas.List.Sums.{count_by-le-length}
use Rattle.std.proofs.lemmas.List.Elements.{All-cons, All-head, All-tail, All-push, All-weaker, filter-append}
use Rattle.std.specs.List.{All}
use Rattle.osm_model.proofs.PairwiseLaws.{pairwise_push, pairwise_parted, pairwise_one}
use Rattle.opl_line.specs.Spells.{is_full}
use Rattle.osm_mirror.specs.declared.fleet.keep.Keep.{Keep}
use Rattle.osm_mirror.specs.declared.fleet.plan.Plan.{Plan}
use Rattle.osm_mirror.specs.declared.fleet.plan_fault.PlanFault.{PlanFault}
use Rattle.osm_mirror.specs.declared.fleet.plan_fault.PlanReason.{PlanReason}
use Rattle.osm_mirror.specs.declared.fleet.plan_fault.PlanReason.TheVariants.{NotUtf8, BadWord, BadOrder, NoMirror, Memory}
use Rattle.osm_mirror.specs.fleet.Event as event
use Rattle.osm_mirror.specs.declared.fleet.event.MirrorEvent.TheVariants.{Take, Pass, Restart}
use Rattle.osm_mirror.specs.declared.fleet.plan_line.PlanWrite.{PlanWrite}
use Rattle.osm_mirror.specs.declared.fleet.plan_line.PlanLine.{PlanLine}
use Rattle.osm_mirror.specs.declared.fleet.plan_line.PlanLine.TheVariants.{Mirror, Step, Write}
use Rattle.osm_mirror.specs.fleet.PlanFault.{memory_fault, fault_at}
use Rattle.osm_mirror.specs.fleet.PlanLine.{LineSays, NamesMirrors}
use Rattle.osm_mirror.specs.fleet.Plan.{Parts, parts_of, plan_lines, lines_of, LinesSpell, NamesItsMirrors, SpellsNoPlan, IsInTurn}
use Rattle.osm_mirror.specs.fleet.Plan.{IsLineRefused}
use Rattle.osm_mirror.specs.fleet.Plan.{LineFault, IsFirstFault, with_line, IsLineAdded}
use Rattle.osm_mirror.specs.fleet.PlanLaws.{OnePlan, FaultySpellsNothing}
use Rattle.osm_mirror.proofs.fleet_laws.PlanLineLaws.{line_one, says_full}

-- the part of a line comes after all parts before it
plan_lines-push : (before : Parts) (said : PlanLine) → IsInTurn before said → plan_lines (with_line before said) ≡ plan_lines before
    ++ said ∷ []
plan_lines-push before (Mirror k) turn = rw (turn.0, turn.1) (simp (map-append, append-nil))
plan_lines-push before (Step s) turn = rw turn (simp (map-append, append-nil, append_assoc))
plan_lines-push before (Write w) turn = simp (map-append, append_assoc)

-- a line adds mirrors, and drops none
mirrors_stay : (before : Parts) (said : PlanLine) → length before.mirrors ≤ length (with_line before said).mirrors
mirrors_stay before (Mirror k) = simp length-append (omega arith)
mirrors_stay before (Step s) = omega arith
mirrors_stay before (Write w) = omega arith

names_more : (few many : ℕ) → few ≤ many → (said : PlanLine) → NamesMirrors few said → NamesMirrors many said
names_more few many h (Mirror k) named = tt
names_more few many h (Step (Take m f)) named = omega arith
names_more few many h (Step (Pass m n f)) named = (omega arith, omega arith)
names_more few many h (Step (Restart m f)) named = omega arith
names_more few many h (Write w) named = omega arith

-- lines with one more line spell the plan with that line's part
pub line_added : (lines : List (List ℕ)) (line : List ℕ) (before after : Parts) → LinesSpell lines before → IsLineAdded line before after →
    LinesSpell (lines ++ line ∷ []) after
line_added lines line before after spelled (inl (empty, same)) =
    rw (same, empty) (record { said = rw (filter-append, append-nil) spelled.said; named = spelled.named })
line_added lines line before after spelled (inr (said, says, added)) =
    let full : filter is_full (lines ++ line ∷ []) ≡ filter is_full lines ++ line ∷ [] =
    filter-append is_full lines (line ∷ []) ∙ ap (λ t. filter is_full lines ++ cond t (line ∷ []) []) (says_full line said says) in
    let order = plan_lines-push before said added.in_turn in
    let more = names_more (length before.mirrors) (length (with_line before said).mirrors) (mirrors_stay before said) in
    let named : All (NamesMirrors (length (with_line before said).mirrors)) (plan_lines before ++ said ∷ []) =
    All-push (NamesMirrors _) (plan_lines before) said (All-weaker (NamesMirrors _) (NamesMirrors _) more (plan_lines before) spelled.named)
    (more said added.named) in
    rw added.added (record {
      said = rw (full, order) (pairwise_push LineSays (filter is_full lines) (plan_lines before) line said spelled.said says);
      named = rw order named;
    })

-- The parts of lines are added in sequence, each in its turn, and each names only mirrors that were added before.
abbrev Builds : Parts → List PlanLine → Parts → Type 0
Builds before [] after = before ≡ after
Builds before (x ∷ xs) after = IsInTurn before x × NamesMirrors (length before.mirrors) x × Builds (with_line before x) xs after

abbrev parts : List Keep → List event.Step → List PlanWrite → Parts
parts ms ss ws = record { mirrors = ms; steps = ss; writes = ws }

-- the mirrors of a plan are added first
mirrors_build : (n : ℕ) (had ms : List Keep) (rest : List PlanLine) (after : Parts) → All (NamesMirrors n) (map Mirror ms ++ rest)
    → (All (NamesMirrors n) rest → Builds (parts (had ++ ms) [] []) rest after) → Builds (parts had [] []) (map Mirror ms ++ rest) after
mirrors_build n had [] rest after all then = rw append-nil at (then all)
mirrors_build n had (m ∷ ms) rest after all then = (
  (refl, refl),
  tt,
  mirrors_build n (had ++ m ∷ []) ms rest after (All-tail (NamesMirrors n) _ _ all)
      (λ others. rw append_assoc (then others)),
)

-- the steps of a plan are added after its mirrors
steps_build : (ms : List Keep) (had ss : List event.Step) (rest : List PlanLine) (after : Parts) →
    All (NamesMirrors (length ms)) (map Step ss ++ rest)
    → (All (NamesMirrors (length ms)) rest → Builds (parts ms (had ++ ss) []) rest after) →
    Builds (parts ms had []) (map Step ss ++ rest) after
steps_build ms had [] rest after all then = rw append-nil at (then all)
steps_build ms had (s ∷ ss) rest after all then = (
  refl,
  All-head (NamesMirrors (length ms)) _ _ all,
  steps_build ms (had ++ s ∷ []) ss rest after (All-tail (NamesMirrors (length ms)) _ _ all)
      (λ others. rw append_assoc (then others)),
)

-- the writes of a plan are added after its steps
writes_build : (ms : List Keep) (ss : List event.Step) (had ws : List PlanWrite) → All (NamesMirrors (length ms)) (map Write ws)
    → Builds (parts ms ss had) (map Write ws) (parts ms ss (had ++ ws))
writes_build ms ss had [] all = λ i. parts ms ss (sym (append-nil had) i)
writes_build ms ss had (w ∷ ws) all = (
  tt,
  All-head (NamesMirrors (length ms)) _ _ all,
  rw (append_assoc had (w ∷ []) ws) at (writes_build ms ss (had ++ w ∷ []) ws (All-tail (NamesMirrors (length ms)) _ _ all)),
)

in_order_builds : (p : Parts) → All (NamesMirrors (length p.mirrors)) (plan_lines p) → Builds (parts [] [] []) (plan_lines p) p
in_order_builds p all =
    mirrors_build (length p.mirrors) [] p.mirrors _ p all (λ others.
    steps_build p.mirrors [] p.steps _ p others (λ last.
    writes_build p.mirrors p.steps [] p.writes last))

-- a part that is added is in its turn, after the parts before it
built_in_turn : (from : Parts) (front rest : List PlanLine) (x : PlanLine) (before after : Parts) → Builds from (front ++ x ∷ rest) after →
    Builds from front before
    → IsInTurn before x × NamesMirrors (length before.mirrors) x
built_in_turn from [] rest x before after all fronts = subst (λ p. IsInTurn p x × NamesMirrors (length p.mirrors) x) fronts (all.0, all.1)
built_in_turn from (y ∷ front) rest x before after all fronts = built_in_turn (with_line from y) front rest x before after all.2 fronts.2

-- one list builds one plan
built_one : (from : Parts) (xs : List PlanLine) (one other : Parts) → Builds from xs one → Builds from xs other → one ≡ other
built_one from [] one other a b = sym a ∙ b
built_one from (x ∷ xs) one other a b = built_one (with_line from x) xs one other a.2 b.2

-- lines spell at most one plan
pub lines_one : (lines : List (List ℕ)) (one other : Parts) → LinesSpell lines one → LinesSpell lines other → one ≡ other
lines_one lines one other a b =
    let same = pairwise_one LineSays line_one (filter is_full lines) (plan_lines one) (plan_lines other) a.said b.said in
    built_one (parts [] [] []) (plan_lines one) one other (in_order_builds one a.named) (rw (← same) at (in_order_builds other b.named))

-- a part that is refused is out of its turn, or names a mirror that doesn't exist
refused_not : (before : Parts) (x : PlanLine) (reason : PlanReason) → IsLineRefused before x reason → IsInTurn before x →
    NamesMirrors (length before.mirrors) x → ⊥
refused_not before x BadOrder refused turn named = refused turn
refused_not before x NoMirror refused turn named = refused.1 named
refused_not before x NotUtf8 refused turn named = refused
refused_not before x BadWord refused turn named = refused
refused_not before x Memory refused turn named = refused

-- a faulty line isn't empty, and spells no part that could be added
fault_full : (before : Parts) (line : List ℕ) (reason : PlanReason) → LineFault before line reason → is_full line ≡ true
fault_full before line BadWord fault = fault.0
fault_full before line BadOrder fault = says_full line fault.0 fault.1
fault_full before line NoMirror fault = says_full line fault.0 fault.1
fault_full before line NotUtf8 fault = absurd fault.2
fault_full before line Memory fault = absurd fault.2

fault_not : (before : Parts) (line : List ℕ) (reason : PlanReason) (x : PlanLine) → LineFault before line reason → LineSays line x
    → IsInTurn before x → NamesMirrors (length before.mirrors) x → ⊥
fault_not before line BadWord x fault says turn named = fault.1 x says
fault_not before line reason x fault says turn named =
    refused_not before x reason (subst (λ y. IsLineRefused before y reason) (line_one line fault.0 x fault.1 says) fault.2) turn named

-- lines with a faulty one among them spell no plan
lines_none : (front rest : List (List ℕ)) (faulty : List ℕ) (before after : Parts) (reason : PlanReason)
    → LinesSpell front before → LineFault before faulty reason → LinesSpell (front ++ faulty ∷ rest) after → ⊥
lines_none front rest faulty before after reason spelled fault all =
    let here : is_full faulty ≡ true = fault_full before faulty reason fault in
    let full : filter is_full (front ++ faulty ∷ rest) ≡ filter is_full front ++ faulty ∷ filter is_full rest =
    filter-append is_full front (faulty ∷ rest) ∙ ap
    (λ t. filter is_full front ++ cond t (faulty ∷ filter is_full rest) (filter is_full rest)) here in
    let p = pairwise_parted LineSays (filter is_full front) (filter is_full rest) faulty (plan_lines after) (rw full at all.said) in
    let same = pairwise_one LineSays line_one (filter is_full front) (plan_lines before) p.before spelled.said p.fronts in
    let turn = built_in_turn (parts [] [] []) p.before p.after p.here before after (rw p.parted at (in_order_builds after all.named))
    (rw same at (in_order_builds before spelled.named)) in
    fault_not before faulty reason p.here fault p.this turn.0 turn.1

-- a text with a first faulty line spells no plan
pub first_fault_none : (text : List ℕ) (fault : PlanFault) → IsFirstFault text fault → SpellsNoPlan text
first_fault_none text fault first plan spells =
    lines_none first.front first.rest first.faulty first.before (parts_of plan) fault.reason first.spelled first.refused
    (rw first.lines at spells.spelled)

-- if the lines of a text aren't read, the text spells no plan, or memory ran out
pub fault_none : {A : Type 0} → (text : List ℕ) (read : Result A PlanFault) →
    IfErr read (λ fault. (fault ≡ memory_fault) ⊎ IsFirstFault text fault) →
    IfErr read (λ fault. (fault ≡ memory_fault) ⊎ SpellsNoPlan text)
fault_none text (Ok plan) why = why
fault_none text (Err fault) (inl memory) = inl memory
fault_none text (Err fault) (inr first) = inr (first_fault_none text fault first)

-- no lines spell the empty plan
pub nothing_spelled : (p : Parts) → p.mirrors ≡ [] → p.steps ≡ [] → p.writes ≡ [] → LinesSpell [] p
nothing_spelled p ms ss ws =
    let nothing : plan_lines p ≡ [] = rw (ms, ss, ws) refl in
    record { said = rw nothing tt; named = rw nothing (λ k d less. absurd (omega (arith, less))) }

-- the first lines of a text, whose next one is faulty after them
pub first_fault : (text line : List ℕ) (n : ℕ) (before : Parts) (fault : PlanFault) → n < length (lines_of text) →
    line ≡ get_or (lines_of text) n line
    → LinesSpell (take n (lines_of text)) before → LineFault before line fault.reason → fault.line ≡ n + 1 → IsFirstFault text fault
first_fault text line n before fault within here spelled refused numbered =
    let all = lines_of text in
    let parted : drop n all ≡ line ∷ drop (n + 1) all = rw add-one (drop-cons all n line within ∙ (λ i. sym here i ∷ drop (suc n) all)) in
    record {
      front = take n all;
      faulty = line;
      rest = drop (n + 1) all;
      before = before;
      lines = sym (take-append-drop n all) ∙ ap (λ rest. take n all ++ rest) parted;
      spelled = spelled;
      refused = refused;
      numbered = rw length-take (omega arith);
    }

-- there are few lines
pub lines_few : (text : List ℕ) → length (lines_of text) ≤ length text + 1
lines_few text = omega (arith, length-slice_split (λ b. b == 10) text, count_by-le-length (λ b. b == 10) text)

-- a property of all items of a list is one of all items of its end
all_after : {X : Type 0} (P : X → Type 0) (xs ys : List X) → All P (xs ++ ys) → All P ys
all_after P [] ys all = all
all_after P (x ∷ xs) ys all = all_after P xs ys (All-tail P x (xs ++ ys) all)

all_before : {X Y : Type 0} (P : Y → Type 0) (f : X → Y) (xs : List X) (ys : List Y) → All P (map f xs ++ ys) → All (λ x. P (f x)) xs
all_before P f [] ys all = λ k d less. absurd (omega (arith, less))
all_before P f (x ∷ xs) ys all = All-cons (λ z. P (f z)) x xs (All-head P (f x) (map f xs ++ ys) all)
    (all_before P f xs ys (All-tail P (f x) (map f xs ++ ys) all))

-- a plan that lines spell names only its mirrors
pub spelled_names : (lines : List (List ℕ)) (plan : Plan) → LinesSpell lines (parts_of plan) → NamesItsMirrors plan
spelled_names lines plan spelled =
    let P = NamesMirrors (length plan.mirrors.items) in
    let others = all_after P (map Mirror plan.mirrors.items) (map Step plan.steps.items ++ map Write plan.writes.items) spelled.named in
    let last = all_after P (map Step plan.steps.items) (map Write plan.writes.items) others in
    record {
      steps = all_before P Step plan.steps.items (map Write plan.writes.items) others;
      writes = all_before P Write plan.writes.items [] (rw append-nil last);
    }

-- if the next line isn't added, it is the first faulty one, or memory ran out
pub fault_added : (text line : List ℕ) (n : ℕ) (before : Parts) (reason : PlanReason) → n < length (lines_of text) →
    line ≡ get_or (lines_of text) n line
    → LinesSpell (take n (lines_of text)) before → (reason ≡ Memory) ⊎ LineFault before line reason
    → (fault_at (n + 1) reason ≡ memory_fault) ⊎ IsFirstFault text (fault_at (n + 1) reason)
fault_added text line n before Memory within here spelled why = inl refl
fault_added text line n before NotUtf8 within here spelled (inl e) = cc
fault_added text line n before NotUtf8 within here spelled (inr fault) =
    inr (first_fault text line n before (fault_at (n + 1) NotUtf8) within here spelled fault refl)
fault_added text line n before BadWord within here spelled (inl e) = cc
fault_added text line n before BadWord within here spelled (inr fault) =
    inr (first_fault text line n before (fault_at (n + 1) BadWord) within here spelled fault refl)
fault_added text line n before BadOrder within here spelled (inl e) = cc
fault_added text line n before BadOrder within here spelled (inr fault) =
    inr (first_fault text line n before (fault_at (n + 1) BadOrder) within here spelled fault refl)
fault_added text line n before NoMirror within here spelled (inl e) = cc
fault_added text line n before NoMirror within here spelled (inr fault) =
    inr (first_fault text line n before (fault_at (n + 1) NoMirror) within here spelled fault refl)

-- A text spells at most one plan.
pub one_plan : OnePlan
one_plan text one other a b = lines_one (lines_of text) (parts_of one) (parts_of other) a.spelled b.spelled

-- A text with a fault spells no plan.
pub faulty_spells_nothing : FaultySpellsNothing
faulty_spells_nothing text fault (inl (none, is)) plan spells = none spells.utf8
faulty_spells_nothing text fault (inr (utf8, first)) plan spells = first_fault_none text fault first plan spells
