-- What the commands that make a file write, by their arguments, for `FileRequest::run`: an own rule of this project.
use Rattle.std.specs.Prelude.{ℕ, nat_lt, Bool, true, false, List, Option, Some, None, Result, Ok, Err, codes}
use Rattle.std.specs.Prelude.{if◌then◌else◌}
use Rattle.std.specs.Borrow.{Bor}
use Rattle.opl_line.specs.Time.{reading_time}
use Rattle.opl_line.specs.declared.reason.OplReason.{OplReason}
use Rattle.osm_merge.specs.declared.selection.Selection.{Selection}
use Rattle.osm_merge.specs.declared.selection.Selection.TheVariants.{All, Newest, NewestVisible, StateVisible, Between}
use Rattle.osm_mirror.specs.declared.run.inputs_job.InputsJob.{InputsJob}
use Rattle.osm_mirror.specs.declared.run.inputs_job.InputsJob.TheVariants.{Whole, Part}
use Rattle.osm_mirror.specs.declared.run.files_job.Order.{Order}
use Rattle.osm_mirror.specs.declared.run.files_job.Order.TheVariants.{Sorted, Any}
use Rattle.osm_mirror.specs.declared.run.request.Command.{Command}
use Rattle.osm_mirror.specs.declared.run.request.Command.TheVariants.{Merge, Apply, Sort, TimeFilter}
use Rattle.osm_mirror.specs.declared.run.request.FileRequest.{FileRequest}
use Rattle.osm_mirror.specs.declared.run.request.RequestFault.{RequestFault}
use Rattle.osm_mirror.specs.declared.run.request.RequestFault.TheVariants.{NoTime, NotMoment, NotAfterFirst}
use Rattle.osm_mirror.specs.declared.run.shard.Shard.{Shard}

-- the name of a command
abbrev pub command_name : Command → List ℕ
command_name Merge = codes "merge"
command_name Apply = codes "apply"
command_name Sort = codes "sort"
command_name TimeFilter = codes "time-filter"

-- the order of each file: the files of `merge` must be sorted, and so must all files with `--sorted`
abbrev pub order_for : Command → (sorted : Bool) → Order
order_for Merge sorted = Sorted
order_for Apply sorted = if sorted then Sorted else Any
order_for Sort sorted = if sorted then Sorted else Any
order_for TimeFilter sorted = if sorted then Sorted else Any

-- May the largest file be taken as sorted? The map that changes are applied to, and that is filtered by time, often is.
abbrev pub tries_largest : Command → Bool
tries_largest Merge = false
tries_largest Apply = true
tries_largest Sort = false
tries_largest TimeFilter = true

-- the moment that a reading of a time gives
abbrev pub moment_or_fault : Bor (List ℕ) → Result ℕ OplReason → Result ℕ RequestFault
moment_or_fault time (Ok moment) = Ok moment
moment_or_fault time (Err reason) = Err (NotMoment time)

-- the moment that a time of the arguments spells
abbrev pub moment_of : Bor (List ℕ) → Result ℕ RequestFault
moment_of time = moment_or_fault time (reading_time time.now)

-- a result, and then a result of its value
abbrev pub and_then : {X Y : Type 0} → Result X RequestFault → (X → Result Y RequestFault) →
    Result Y RequestFault
and_then (Ok x) next = next x
and_then (Err fault) next = Err fault

-- the versions of `apply`: with history all, with deletions the newest ones, else those of them that aren't deletions
abbrev pub applied_selection : (with_history with_deletions : Bool) → Selection
applied_selection true with_deletions = All
applied_selection false true = Newest
applied_selection false false = NewestVisible

-- the versions of `time-filter`: the state at one time without its deletions; or the period from the first time up to
-- the second one, which is later
abbrev pub filtered_selection : (time end : Option (Bor (List ℕ))) → Result Selection RequestFault
filtered_selection None end = Err NoTime
filtered_selection (Some time) None = and_then (moment_of time) (λ at. Ok (StateVisible at))
filtered_selection (Some time) (Some end) = and_then (moment_of time) (λ from. and_then (moment_of end) (λ to.
    if nat_lt from to then Ok (Between from to) else Err (NotAfterFirst end)))

-- the versions that a command writes
abbrev pub selection_for : Command → FileRequest → Result Selection RequestFault
selection_for Merge asked = Ok All
selection_for Sort asked = Ok All
selection_for Apply asked = Ok (applied_selection asked.with_history asked.with_deletions)
selection_for TimeFilter asked = filtered_selection asked.time asked.end

-- the job that writes the selected versions: that for the shard, if there is one
abbrev pub job_for : Option Shard → FileRequest → Selection → InputsJob
job_for None asked selection = Whole (record {
  selection = selection;
  order = order_for asked.command asked.sorted;
  tries_largest = tries_largest asked.command;
  format = asked.format;
})
job_for (Some shard) asked selection = Part (record {
  shard = shard;
  selection = selection;
  format = asked.format;
  end = asked.end_rule;
})

-- the job for which a request asks
abbrev pub requested_job : FileRequest → Result InputsJob RequestFault
requested_job asked =
    and_then (selection_for asked.command asked) (λ selection. Ok (job_for asked.shard asked selection))
