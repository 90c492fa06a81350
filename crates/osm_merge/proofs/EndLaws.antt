-- The end of the merge: no head is left, and the end of the file is written or fails.
use Rattle.std.proofs.Common.{◌≡◌, ℕ, ◌+◌, ◌*◌, ◌-◌, ◌^◌, ◌<◌, ◌≤◌, List, [], ◌++◌, map, take, length, get_or, refl, sym, ap, ◌∙◌, subst}
use Rattle.std.proofs.Common.{arith, Option, None, Result, Ok, Err, IfOk, IfErr, inl, inr}
use Rattle.std.specs.List.{All}
use Rattle.std.specs.List.Sorted.{IsStrictlySortedBy}
use Rattle.std.proofs.lemmas.Bool.{cases_lt}
use Rattle.std.proofs.lemmas.List.{get_or_past, get_or_default}
use Rattle.osm_model.specs.Data.{VersionData}
use Rattle.osm_model.specs.Order.{version_cmp}
use Rattle.osm_files.specs.declared.fault.Fault.{Fault}
use Rattle.osm_files.specs.Output.{Appends}
use Rattle.osm_files.specs.Stream.{end_whole}
use Rattle.osm_files.specs.Spell.{spell_list}
use Rattle.osm_files.specs.Sink.{SinkState, CutShort, HasPut}
use Rattle.osm_merge.specs.declared.clash_tally.ClashTally.{ClashTally}
use Rattle.osm_merge.specs.declared.merge.Counts.{Counts}
use Rattle.osm_merge.specs.Clashes.{clash_count}
use Rattle.osm_merge.specs.ClashTally.{no_clashes}
use Rattle.osm_merge.specs.ToCome.{VersionsToCome, head, rest_at}
use Rattle.osm_merge.specs.Union.{versions_of, union_given, capped_count}
use Rattle.osm_merge.specs.declared.selection.Selection.{Selection}
use Rattle.osm_merge.specs.Pass.{put_of, put_at_end, keeps}
use Rattle.osm_merge.specs.declared.repeats.Repeats.{Repeats}
use Rattle.osm_merge.specs.Repeats.{comparison_count}
use Rattle.osm_merge.specs.Put.{EndsFile, CountsMore}
use Rattle.osm_merge.specs.Tree.{IsHeadUpTo, IsTree}
use Rattle.osm_merge.specs.Merged.{IsBoundedFrom, few_of, IsMergedAs, Grows}
use Rattle.osm_merge.proofs.OrderLaws.{none_up_to}
use Rattle.osm_merge.proofs.AscendingLaws.{nothing_ascends}
use Rattle.osm_merge.proofs.TreeLaws.{winner_is_least}
use Rattle.osm_merge.proofs.GiveLaws.{give_one}
use Rattle.osm_merge.proofs.Settling.{put_all, put_nothing, kept_ascends}
use Rattle.osm_merge.proofs.UnionLaws.{chosen, all_put, all_taken}
use Rattle.osm_merge.proofs.Running.{MergeTask, output_change, SomeFirstGive, RefusesTask, IsRunning, none_met}
use Rattle.osm_merge.proofs.HeadsLaws.{head_at, length_heads}
use Rattle.osm_merge.proofs.CountLaws.{least_single, few_least}
use Rattle.osm_merge.proofs.ClashLaws.{none_tallied, all_tallied}

-- all versions were taken, and the selection of the union was put
pub record IsKnownDone (selection : Selection) (all : List VersionsToCome) (put : List VersionData) (counts : Counts) : Type 0 where
  pub union_is : chosen selection all ≡ put
  pub ends_whole : All (λ c. c.refusal ≡ None) all
  pub read_is : counts.read ≡ capped_count (length (versions_of all))
  pub bounded :
      IsBoundedFrom (few_of selection (length (versions_of all))) (length all) (length (versions_of all)) counts.compared
  pub clashes_is : counts.clashes ≡ capped_count (clash_count (union_given all))

-- the merge before the file is ended
pub record IsDone {S O : Type 0} (task : MergeTask S O) (last : Option VersionData) (sink : SinkState) (now : O) (counts : Counts)
    : Type 0 where
  pub so_far : List VersionData
  pub put : List VersionData
  pub put_is : so_far ++ put_at_end task.selection last ≡ put
  pub has : HasPut task.format task.number so_far (output_change task now) sink
  pub ascends : IsStrictlySortedBy version_cmp put
  pub written_is : counts.written ≡ capped_count (length so_far)
  pub shown :
      SomeFirstGive task (λ all. IsKnownDone task.selection all put counts)

none_left : (heads : List (Option VersionData)) (nodes : List ℕ) (w : ℕ) → IsTree heads nodes 1 0 → w ≡ get_or nodes 1 0
    → get_or heads w None ≡ None → (i : ℕ) → get_or heads i None ≡ None
none_left heads nodes w t top at_w i =
    elim (cases_lt i (length heads)) [
      | inl less ↦ none_up_to (get_or heads i None)
          (subst (λ u. IsHeadUpTo u (get_or heads i None)) (ap (λ q. get_or heads q None) (sym top) ∙ at_w)
          (winner_is_least heads nodes t i less))
      | inr more ↦ get_or_past heads i None more
    ]

-- If no head is left, the merge is done up to the end of its file.
pub run_done : {S O : Type 0} {task : MergeTask S O} {heads : List (Option VersionData)} {nodes : List ℕ} {sources : List S}
    {sink : SinkState} {now : O} {last : Option VersionData} {counts : Counts} {repeats : Repeats} {tally : ClashTally}
    (r : IsRunning task heads nodes sources sink now last counts repeats tally) (w : ℕ) → w ≡ get_or nodes 1 0 → get_or heads w None ≡ None
    → IsDone task last sink now counts
run_done {task = task} {heads = heads} {nodes = nodes} {sources = sources} {last = last} {counts = counts} {repeats = repeats}
    {tally = tally} r w top at_w =
    let none = none_left heads nodes w r.tree top at_w in
    let q = r.run (map task.source.one sources) (give_one task.source.can_give task.source.one task.source.possible sources) in
    record {
      so_far = put_of task.selection r.met;
      put = put_of task.selection r.met ++ put_at_end task.selection last;
      put_is = refl;
      has = r.has;
      ascends =
          subst (IsStrictlySortedBy version_cmp) (sym (put_all task.selection last r.met r.ends))
          (kept_ascends (keeps task.selection) r.met r.ascends);
      written_is = r.written_is;
      shown = (
        q.0,
        q.1,
        λ all up st.
            let s = q.2 all up st in
            let no_head : (i : ℕ) → i < length s.states → head (rest_at s.states i) ≡ None =
            λ i low. sym (head_at s.states heads i s.are_heads.heads_are) ∙ none i in
            let taken_is : r.taken ≡ length (versions_of all) = all_taken s.merging no_head in
            let many : length heads ≡ length all = length_heads s.states heads s.are_heads.heads_are ∙ s.merging.size in
            record {
              union_is = all_put s.merging no_head;
              ends_whole = λ i d low.
                  let within : i < length s.states = subst (λ n. i < n) (sym s.merging.size) low in
                  subst (λ c. c.refusal ≡ None) (get_or_default all i end_whole d low)
                  (s.merging.refusals i ∙ s.are_heads.settled i within (no_head i within));
              read_is = r.read_is ∙ ap capped_count taken_is;
              bounded = record {
                most = λ depth high.
                    let old = r.most depth (subst (λ n. n ≤ 2 ^ depth) (sym many) high) in
                    subst (λ t. counts.compared ≤ (length all - 1) + t * (depth + 1)) taken_is
                    (subst (λ k. counts.compared ≤ (k - 1) + r.taken * (depth + 1)) many old);
                least =
                    few_least task.selection (length (versions_of all)) counts.compared
                    (λ p. subst (λ t. capped_count (t - 1) ≤ counts.compared) taken_is
                    (least_single (2 ^ 64 - 1) r.taken (comparison_count repeats) counts.compared (r.least p)));
              };
              clashes_is = r.clashes_is ∙ all_tallied all s.states r.top tally s.tallying no_head;
            },
      );
    }

-- the case of no sources
pub none_done : {S O : Type 0} (task : MergeTask S O) (sink : SinkState) (now : O) (counts : Counts)
    → length task.first_heads ≡ 0 → HasPut task.format task.number [] (output_change task now) sink
    → counts.read ≡ 0 → counts.written ≡ 0 → counts.compared ≤ length task.first_heads - 1 → counts.clashes ≡ 0
    → IsDone task None sink now counts
none_done task sink now counts empty has none_read none_written few no_clash =
    record {
      so_far = [];
      put = put_of task.selection [] ++ put_at_end task.selection None;
      put_is = ap (λ (vs : List VersionData). vs ++ put_at_end task.selection None) (sym (put_nothing task.selection));
      has = has;
      ascends = subst (IsStrictlySortedBy version_cmp) (sym (put_all task.selection None [] refl)) (nothing_ascends version_cmp);
      written_is = none_written;
      shown = (
        map task.source.one task.first_sources,
        give_one task.source.can_give task.source.one task.source.possible task.first_sources,
        λ all up st.
            let size : length task.first_heads ≡ length all = length_heads all task.first_heads st.heads_are in
            let no_head : (i : ℕ) → i < length all → head (rest_at all i) ≡ None = λ i low. absurd (omega arith) in
            let taken_is : 0 ≡ length (versions_of all) = all_taken (none_met task.selection all up) no_head in
            record {
              union_is = all_put (none_met task.selection all up) no_head;
              ends_whole = λ i d low. absurd (omega arith);
              read_is = none_read ∙ ap capped_count taken_is;
              bounded =
                  record {
                    most = λ depth high. omega arith;
                    least = few_least task.selection (length (versions_of all)) counts.compared
                        (λ p. subst (λ t. capped_count (t - 1) ≤ counts.compared) taken_is (omega arith));
                  };
              clashes_is = no_clash ∙ all_tallied all all None no_clashes (none_tallied all) no_head;
            },
      );
    }

module _ {S O : Type 0} {task : MergeTask S O} {last : Option VersionData} {sink : SinkState} {now : O} {counts : Counts}
    (d : IsDone task last sink now counts) (after : O) where
  abbrev more : List VersionData
  more = put_at_end task.selection last

  -- the counts at the end
  abbrev pub Counted : Result Counts Fault → Type 0
  Counted result =
      IfOk result (λ done. done.read ≡ counts.read)
      × IfOk result (λ done. CountsMore more counts.written done.written)
      × IfOk result (λ done. done.compared ≡ counts.compared)
      × IfOk result (λ done. done.clashes ≡ counts.clashes)

  -- If the end of the file is written, the merge is done.
  pub end_merged : (result : Result Counts Fault) → EndsFile task.output more sink now after result → Counted result
      → IfOk result (λ done. SomeFirstGive task (λ all. IsMergedAs task.selection all task.format (output_change task after) done))
  end_merged (Ok done) ends is = (
    d.shown.0,
    d.shown.1,
    λ all up st.
        let t = d.shown.2 all up st in
        let sent = ends task.format task.number d.so_far task.before d.has in
        let all_is : d.so_far ++ more ≡ chosen task.selection all = d.put_is ∙ sym t.union_is in
        record {
          whole = t.ends_whole;
          appended =
              subst (λ (vs : List VersionData). Appends (output_change task after) (spell_list task.format vs)) all_is sent.appended;
          read = is.0 ∙ t.read_is;
          written = is.1 d.so_far d.written_is ∙ ap (λ vs. capped_count (length vs)) all_is;
          compared =
              subst (λ (n : ℕ). IsBoundedFrom (few_of task.selection (length (versions_of all))) (length all) (length (versions_of all)) n)
              (sym is.2) t.bounded;
          clashes = is.3 ∙ t.clashes_is;
        },
  )
  end_merged (Err fault) ends is = tt

  -- If the end of the file isn't written, the merge is refused.
  pub end_refused : (result : Result Counts Fault) → EndsFile task.output more sink now after result
      → IfErr result (λ fault. RefusesTask task after fault)
  end_refused (Ok done) ends = tt
  end_refused (Err fault) ends = (
    d.shown.0,
    d.shown.1,
    λ all up st.
        inl (subst (λ (vs : List VersionData). CutShort task.number (output_change task after) (spell_list task.format vs) fault)
        (d.put_is ∙ sym (d.shown.2 all up st).union_is) (ends task.format task.number d.so_far task.before d.has)),
  )

  -- After the end of the file the output still has the earlier bytes.
  pub end_kept : (result : Result Counts Fault) → EndsFile task.output more sink now after result → Grows (output_change task after)
  end_kept (Ok done) ends = (spell_list task.format (d.so_far ++ more), (ends task.format task.number d.so_far task.before d.has).appended)
  end_kept (Err fault) ends =
      let cut = ends task.format task.number d.so_far task.before d.has in
      (take cut.count (spell_list task.format (d.so_far ++ more)), cut.appended)
