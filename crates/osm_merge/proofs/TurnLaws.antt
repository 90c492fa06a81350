-- One turn of the loop of the merge: its next state, and the results if the sink or a source fails.
use Rattle.std.proofs.Common.{◌≡◌, ℕ, ◌+◌, ◌*◌, ◌-◌, ◌^◌, ◌<◌, ◌≤◌, Bool, true, false, List, [], ◌∷◌, ◌++◌, map, take, length, get_or, refl}
use Rattle.std.proofs.Common.{sym, ap, ◌∙◌, subst, arith, Option, Some, None, IfSome, Result, Ok, Err, inl, inr, get_or-set_same}
use Rattle.std.proofs.Math.Nat.{add-mul}
use Rattle.std.proofs.Math.ListN.{set, length-set}
use Rattle.std.proofs.lemmas.List.{length-map, get_or-map}
use Rattle.osm_model.specs.Data.{VersionData}
use Rattle.osm_files.specs.declared.fault.Fault.{Fault}
use Rattle.osm_files.specs.Output.{Appends}
use Rattle.osm_files.specs.Source.{SourceStep}
use Rattle.osm_files.specs.Stream.{end_whole}
use Rattle.osm_files.specs.Spell.{open_file_bytes, spell}
use Rattle.osm_files.specs.Sink.{SinkState, CutShort, HasPut}
use Rattle.osm_files.specs.Input.{Explained}
use Rattle.osm_merge.specs.declared.merge.Counts.{Counts}
use Rattle.osm_merge.specs.ToCome.{VersionsToCome, rest, after_head, rest_at, AreHeadsOf}
use Rattle.osm_merge.specs.Giving.{AllGive}
use Rattle.osm_merge.specs.Members.{first}
use Rattle.osm_merge.specs.Union.{union_given, capped_count}
use Rattle.osm_merge.specs.Selected.{selection_of}
use Rattle.osm_merge.specs.Pass.{passing_versions, put_of, put_at, put_at_end, versions_put, puts_at_once, is_met, pending_next, met_next}
use Rattle.std.specs.Bool.{OnTrue}
use Rattle.osm_merge.specs.declared.repeats.Tie.{Tie}
use Rattle.osm_merge.specs.declared.repeats.Repeats.{Repeats}
use Rattle.osm_merge.specs.Repeats.{repeats_after_taking, IsTied, IsPastAt, SavesComparison, comparison_count}
use Rattle.osm_merge.specs.declared.clash_tally.ClashTally.{ClashTally}
use Rattle.osm_merge.specs.ClashTally.{tally_after}
use Rattle.osm_merge.proofs.ClashLaws.{IsTallying, tally_more}
use Rattle.osm_merge.proofs.RepeatLaws.{known_after}
use Rattle.osm_merge.specs.Put.{TakesEach, PutsMore, CountsMore}
use Rattle.osm_merge.specs.Tree.{IsTree}
use Rattle.osm_merge.specs.Merged.{Grows, last_version, versions_up_to, written_before, IsRefusedAs}
use Rattle.osm_merge.proofs.Asking.{known_refuses, known_at, map_set_some}
use Rattle.osm_merge.proofs.GiveLaws.{set_again, give_size, give_one, give_back}
use Rattle.osm_merge.proofs.State.{Ends, IsMerging}
use Rattle.osm_merge.proofs.MergeLaws.{without_head, merge_more, split_first, ascends_next, ascends_with, ends_next, met_is_new}
use Rattle.osm_merge.proofs.Settling.{may_put, may_end, put_next}
use Rattle.osm_merge.proofs.UnionLaws.{union_list, InFront, passing_nothing, put_in_front, met_up_to, last_of_end, cut_in_file}
use Rattle.osm_merge.proofs.UnionLaws.{memory_refused}
use Rattle.osm_merge.proofs.Running.{MergeTask, output_change, SomeFirstGive, RefusesTask, IsStanding, IsRunning}
use Rattle.osm_merge.proofs.HeadsLaws.{head_at, length_heads, least_head, after_at, heads_more}
use Rattle.osm_merge.proofs.CountLaws.{least_turn, least_next, capped_more}
use Rattle.osm_merge.proofs.PutLaws.{all_pass, at_once_pass, some_pending, takes_each, IsFull, is_full, before_is, not_nothing}

module _ {S O : Type 0} {task : MergeTask S O} {heads : List (Option VersionData)} {nodes : List ℕ} {sources : List S} {sink : SinkState}
    {now : O} {last : Option VersionData} {counts : Counts} {repeats : Repeats} {tally : ClashTally}
    (r : IsRunning task heads nodes sources sink now last counts repeats tally) (w : ℕ) (top : w ≡ get_or nodes 1 0) where
  -- The leader is one of the sources.
  pub inside : w < length heads
  inside = subst (λ q. q < length heads) (sym top) (r.tree.below 1 (omega arith) (let s = r.some in omega arith))

  -- The sink takes the versions that are put when a version is met.
  pub takes : (v : VersionData) → is_met task.selection last v ≡ true → TakesEach (put_at task.selection last v) sink
  takes v is =
      takes_each task.format task.number (put_of task.selection r.met) (output_change task now) sink r.has
      (put_at task.selection last v)
      (may_put task.selection last v r.met r.ends r.ascends
      (ascends_with last v r.met r.ends (met_is_new task.selection last v is) r.ascends))

  -- The sink takes the versions that are put at the end.
  pub takes_last : TakesEach (put_at_end task.selection last) sink
  takes_last =
      takes_each task.format task.number (put_of task.selection r.met) (output_change task now) sink r.has
      (put_at_end task.selection last)
      (may_end task.selection last r.met r.ends r.ascends)

  module _ (v : VersionData) (at_w : get_or heads w None ≡ Some v) where
    abbrev met2 : List VersionData
    met2 = met_next task.selection last v r.met

    abbrev put2 : List VersionData
    put2 = put_of task.selection met2

    -- the sink's result, if it puts the versions that are put when `v` is met
    abbrev pub PutsNext : SinkState → O → Result (Unit {0}) Fault → Type 0
    PutsNext sink2 now2 result = PutsMore task.output (versions_put task.selection last v) sink sink2 now now2 result

    next_is : put_of task.selection r.met ++ versions_put task.selection last v ≡ put2
    next_is = put_next task.selection last v r.met r.ends

    taken_head : (all : List VersionsToCome) (shown : List (Option VersionsToCome))
        (s : IsStanding task.selection all heads shown r.met last r.top r.taken tally) →
        IsMerging task.selection all (without_head s.states w) met2 (pending_next task.selection last v) (Some v) (r.taken + 1)
    taken_head all shown s =
        merge_more task.selection all s.states r.met last r.top r.taken w v s.merging
        (subst (λ n. w < n) (length_heads s.states heads s.are_heads.heads_are) inside)
        (sym (head_at s.states heads w s.are_heads.heads_are) ∙ at_w)
        (least_head s.states heads nodes w (Some v) s.are_heads.heads_are r.tree top at_w)

    in_front : (all : List VersionsToCome) (shown : List (Option VersionsToCome))
        (s : IsStanding task.selection all heads shown r.met last r.top r.taken tally)
        → InFront put2 (selection_of task.selection (union_given all))
    in_front all shown s =
        put_in_front task.selection all (without_head s.states w) met2 (pending_next task.selection last v) (Some v) (r.taken + 1)
        (taken_head all shown s)

    has2 : (sink2 : SinkState) (now2 : O) → PutsNext sink2 now2 (Ok tt)
        → HasPut task.format task.number put2 (output_change task now2) sink2
    has2 sink2 now2 p =
        subst (λ (vs : List VersionData). HasPut task.format task.number vs (output_change task now2) sink2) next_is
        (p task.format task.number (put_of task.selection r.met) task.before r.has)

    cut2 : (sink2 : SinkState) (now2 : O) (fault : Fault)
        → PutsNext sink2 now2 (Err fault)
        → CutShort task.number (output_change task now2) (open_file_bytes task.format put2) fault
    cut2 sink2 now2 fault p =
        subst (λ (vs : List VersionData). CutShort task.number (output_change task now2) (open_file_bytes task.format vs) fault) next_is
        (p task.format task.number (put_of task.selection r.met) task.before r.has)

    -- if the sink refuses a version, the merge is refused
    pub put_refused : (sink2 : SinkState) (now2 : O) (fault : Fault)
        → PutsNext sink2 now2 (Err fault)
        → RefusesTask task now2 fault
    put_refused sink2 now2 fault p =
        let later : List VersionsToCome = map task.source.one sources in
        let q = r.run later (give_one task.source.can_give task.source.one task.source.possible sources) in (
          q.0,
          q.1,
          λ all up st. inl (cut_in_file (selection_of task.selection (union_given all)) task.format task.number
              (output_change task now2) put2 fault (in_front all (map Some later) (q.2 all up st)) (cut2 sink2 now2 fault p)),
        )

    -- After a refused put the output still has the earlier bytes.
    pub put_kept : (sink2 : SinkState) (now2 : O) (fault : Fault) →
        PutsNext sink2 now2 (Err fault)
        → Grows (output_change task now2)
    put_kept sink2 now2 fault p = let cut = cut2 sink2 now2 fault p in (take cut.count (open_file_bytes task.format put2), cut.appended)

    -- After a put the output still has the earlier bytes.
    pub next_kept : (sink2 : SinkState) (now2 : O) → PutsNext sink2 now2 (Ok tt)
        → Grows (output_change task now2)
    next_kept sink2 now2 p = let has = has2 sink2 now2 p in (open_file_bytes task.format put2, has.sent.appended)

    only_one : (vs : List VersionData) → first vs ≡ Some v → rest vs ≡ [] → vs ≡ v ∷ []
    only_one vs h k = split_first v vs h ∙ ap (λ t. v ∷ t) k

    -- a rest was possible before a step of the version's source
    abbrev Before : (VersionsToCome → VersionsToCome → Type 0) → List VersionsToCome → Type 0
    Before step later =
        (one : VersionsToCome) × (w < length (map Some (set later w one))) × (get_or (map Some (set later w one)) w None ≡ Some one)
        × step one (get_or later w end_whole)
        × SomeFirstGive task (λ all. IsStanding task.selection all heads (map Some (set later w one)) r.met last r.top r.taken tally)

    stepped : (step : VersionsToCome → VersionsToCome → Type 0) (d new : S)
        → Explained (task.source.can_give (get_or sources w d)) (task.source.can_give new) step
        → (later : List VersionsToCome) → AllGive task.source.can_give (set sources w new) later → Before step later
    stepped step d new x later g =
        let low : w < length sources = subst (λ n. w < n) (sym r.size) inside in
        let b = give_back task.source.can_give step sources w new d end_whole later low x g in
        let size : length later ≡ length sources = give_size task.source.can_give (set sources w new) later g ∙ length-set sources w new in
        let less : w < length later = omega (arith, size, low) in
        let less_set : w < length (set later w b.0) = omega (arith, less, length-set later w b.0) in (
          b.0,
          omega (arith, less_set, length-map (set later w b.0) Some),
          get_or-map Some (set later w b.0) w end_whole None less_set ∙ ap Some (get_or-set_same later w b.0 end_whole less),
          b.2,
          r.run (set later w b.0) b.1,
        )

    -- the source of the version is refused after the version was put
    refused_at : (sink2 : SinkState) (now2 : O) (fault : Fault) (shown : List (Option VersionsToCome)) (after : Option VersionsToCome)
        → w < length shown → PutsNext sink2 now2 (Ok tt)
        → SourceStep {A = VersionData} (get_or shown w None) (Err fault) after
        → (all : List VersionsToCome) → IsStanding task.selection all heads shown r.met last r.top r.taken tally
        → IsRefusedAs task.selection all task.format task.number (output_change task now2) fault
    refused_at sink2 now2 fault shown after low p step all s =
        let here : VersionsToCome = rest_at s.states w in
        let states2 : List VersionsToCome = without_head s.states w in
        let m = taken_head all shown s in
        let sent : Appends (output_change task now2) (open_file_bytes task.format put2) = (has2 sink2 now2 p).sent.appended in
        let less : w < length s.states = subst (λ n. w < n) (length_heads s.states heads s.are_heads.heads_are) inside in
        let determines : get_or shown w None ≡ Some (after_head here) =
        known_at shown (map after_head s.states) w s.are_heads.rests_known low ∙ ap Some (after_at s.states w) in
        elim (known_refuses (after_head here) fault after (subst (λ o. SourceStep {A = VersionData} o (Err fault) after) determines step)) [
          | inl memory ↦ inl (subst (λ (f : Fault). CutShort task.number (output_change task now2)
              (spell task.format (selection_of task.selection (union_given all))) f) (sym memory)
              (memory_refused (selection_of task.selection (union_given all))
              task.format task.number (output_change task now2) put2 (in_front all shown s) sent))
          | inr end ↦ (
              let list_is : (rest_at all w).list ≡ (s.merging.came w).0 ++ v ∷ [] =
              (s.merging.came w).1
              ∙ ap (λ t. (s.merging.came w).0 ++ t) (only_one here.list (sym (head_at s.states heads w s.are_heads.heads_are) ∙ at_w)
              end.0) in
              let last_v : last_version (rest_at all w).list ≡ Some v = ap last_version list_is ∙ last_of_end ((s.merging.came w).0) v in
              let met_is : met2 ≡ passing_versions task.selection (versions_up_to (Some v) (union_list all)) = met_up_to m v refl in
              let full : puts_at_once task.selection ≡ true → IsFull (versions_up_to (Some v) (union_list all)) = λ once.
              is_full (versions_up_to (Some v) (union_list all)) (λ none.
              let e : Ends (Some v) met2 =
              subst (λ (h : Option VersionData). Ends h met2) (m.reached (at_once_pass task.selection once v)) m.ends in
              not_nothing (e.0) v (sym e.1 ∙ met_is ∙ ap (passing_versions task.selection) none ∙ passing_nothing task.selection)) in
              let bytes : written_before task.selection task.format (last_version (rest_at all w).list) (union_list all)
              ≡ open_file_bytes task.format put2 =
              ap (λ (l : Option VersionData). written_before task.selection task.format l (union_list all)) last_v
              ∙ before_is task.selection task.format v (union_list all) full
              ∙ ap (λ (vs : List VersionData). open_file_bytes task.format (put_of task.selection vs)) (sym met_is) in
              inr (record {
                index = w;
                within = subst (λ n. w < n) s.merging.size less;
                refusal = s.merging.refusals w ∙ end.1;
                appended = subst (Appends (output_change task now2)) (sym bytes) sent;
              }))
        ]

    -- If a source is refused, the merge is refused. The versions put up to the last one of the source were written.
    pub source_refused : (sink2 : SinkState) (now2 : O) (fault : Fault) (d new : S)
        → PutsNext sink2 now2 (Ok tt)
        → Explained (task.source.can_give (get_or sources w d)) (task.source.can_give new)
        (λ e l. SourceStep {A = VersionData} (Some e) (Err fault) (Some l))
        → RefusesTask task now2 fault
    source_refused sink2 now2 fault d new p step =
        let later : List VersionsToCome = map task.source.one (set sources w new) in
        let b =
        stepped (λ e l. SourceStep {A = VersionData} (Some e) (Err fault) (Some l)) d new step later
        (give_one task.source.can_give task.source.one task.source.possible (set sources w new)) in
        let q = b.4 in
        let shown : List (Option VersionsToCome) = map Some (set later w b.0) in
        let after : Option VersionsToCome = Some (get_or later w end_whole) in (
          q.0,
          q.1,
          λ all up st. refused_at sink2 now2 fault shown after b.1 p
              (subst (λ o. SourceStep {A = VersionData} o (Err fault) after) (sym b.2) b.3) all (q.2 all up st),
        )

    -- the loop continues
    pub run_more : (nodes2 : List ℕ) (sink2 : SinkState) (now2 : O) (last2 : Option VersionData) (given : Option VersionData) (d new : S)
        (counts2 : Counts) (compared1 : ℕ) (tally2 : ClashTally)
        → PutsNext sink2 now2 (Ok tt) → last2 ≡ pending_next task.selection last v
        → Explained (task.source.can_give (get_or sources w d)) (task.source.can_give new) (λ e l. SourceStep (Some e) (Ok given) (Some l))
        → IsTree (set heads w given) nodes2 1 0
        → counts2.read ≡ capped_count (counts.read + 1)
        → CountsMore (versions_put task.selection last v) counts.written counts2.written
        → (is_repeated : Bool) → OnTrue is_repeated (repeats.taken ≡ Some w) → counts.compared ≤ compared1 → compared1 ≤ counts.compared + 1
        → (is_repeated ≡ false → IfSome last (λ _. capped_count (counts.compared + 1) ≤ compared1))
        → ((depth : ℕ) → length (set heads w given) ≤ 2 ^ depth → counts2.compared ≤ compared1 + depth)
        → (repeats1 : Repeats) → repeats1 ≡ repeats_after_taking repeats.tie w → (tie2 : Option Tie) → IsTied (set heads w given) tie2
        → SavesComparison repeats1.tie compared1 tie2 counts2.compared
        → tally2 ≡ tally_after tally v → counts2.clashes ≡ tally2.count
        → IsRunning task (set heads w given) nodes2 (set sources w new) sink2 now2
        last2 counts2 (record { tie = tie2; taken = repeats1.taken }) tally2
    run_more nodes2 sink2 now2 last2 given d new counts2 compared1 tally2 p last_is step tree read_is writes is_repeated on grows
        most least replayed repeats1 is1 tie2 tied2 shown tally_is clashes_is =
        let size : length (set heads w given) ≡ length heads = length-set heads w given in
        let sizes : length (set sources w new) ≡ length sources = length-set sources w new in
        record {
          met = met2;
          top = Some v;
          taken = r.taken + 1;
          has = has2 sink2 now2 p;
          ends = subst (λ (l : Option VersionData). Ends l met2) (sym last_is) (ends_next task.selection last v r.met r.ends);
          ascends = ascends_next task.selection last v r.met r.ends r.ascends;
          tree = tree;
          some = subst (λ n. 0 < n) (sym size) r.some;
          size = sizes ∙ r.size ∙ sym size;
          read_is = read_is ∙ capped_more (2 ^ 64 - 1) r.taken counts.read r.read_is;
          written_is = writes (put_of task.selection r.met) r.written_is ∙ ap (λ (vs : List VersionData). capped_count (length vs)) next_is;
          clashes_is = clashes_is;
          most = λ depth high.
              let old = r.most depth (subst (λ n. n ≤ 2 ^ depth) size high) in
              let later = replayed depth high in
              let times : (r.taken + 1) * (depth + 1) ≡ r.taken * (depth + 1) + 1 * (depth + 1) = add-mul r.taken 1 (depth + 1) in
              omega (arith, old, later, times, size);
          least = λ p.
              let turn = least_turn repeats w last is_repeated r.taken counts.compared compared1 (r.least p) (r.fresh p) on least grows in
              subst (λ (s : Repeats). capped_count (((r.taken + 1) - 1) + comparison_count (record { tie = tie2; taken = s.taken })) ≤
              counts2.compared) (sym is1)
              (least_next repeats.tie w ((r.taken + 1) - 1) compared1 tie2 counts2.compared turn
              (subst (λ (s : Repeats). SavesComparison s.tie compared1 tie2 counts2.compared) is1 shown));
          known = record {
            tied = tied2;
            past = subst (λ (l : Option VersionData). IsPastAt task.selection l (set heads w given) repeats1.taken) (sym last_is)
                (subst (λ (s : Repeats). IsPastAt task.selection (pending_next task.selection last v) (set heads w given) s.taken) (sym is1)
                (known_after task.selection last heads w v given at_w repeats.tie r.known.tied).1);
          };
          fresh = λ p e. absurd (some_pending task.selection last v (all_pass task.selection p v) (sym last_is ∙ e));
          run = λ later g. (
              let b = stepped (λ e l. SourceStep (Some e) (Ok given) (Some l)) d new step later g in
              let q = b.4 in
              let shown : List (Option VersionsToCome) = map Some (set later w b.0) in
              let here : VersionsToCome = get_or later w end_whole in
              let next : set shown w (Some here) ≡ map Some later =
              map_set_some (set later w b.0) w here ∙ ap (map Some) (set_again later w b.0 end_whole) in
              let gave : SourceStep (get_or shown w None) (Ok given) (Some here) =
              subst (λ o. SourceStep o (Ok given) (Some here)) (sym b.2) b.3 in (
                q.0,
                q.1,
                λ all up st.
                    let s = q.2 all up st in
                    record {
                      states = without_head s.states w;
                      are_heads =
                          subst (λ (t : List (Option VersionsToCome)). AreHeadsOf (without_head s.states w) (set heads w given) t) next
                          (heads_more s.states heads shown w given (Some here) s.are_heads inside b.1 gave);
                      merging =
                          subst (λ (l : Option VersionData). IsMerging task.selection all (without_head s.states w) met2 l (Some v)
                          (r.taken + 1)) (sym last_is) (taken_head all shown s);
                      tallying =
                          subst (λ (t : ClashTally). IsTallying all (without_head s.states w) (Some v) t) (sym tally_is)
                          (tally_more all s.states r.top tally w v s.tallying
                          (sym (head_at s.states heads w s.are_heads.heads_are) ∙ at_w) (s.merging.floor w));
                    },
              ));
        }
