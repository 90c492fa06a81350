mod Appending
mod UnitLaws
mod SizeLaws
mod PartLaws
pub mod FileLaws
mod UnitSteps
mod SearchLaws
mod StepLaws
mod StayLaws
mod BufferLaws
mod BufferedLaws
mod EndRuleLaws
pub mod FailureLaws
mod FillLaws
pub mod PositionLaws
mod ReadingLaws
mod ReaderLaws
mod GivenLaws
pub mod GroupLaws
pub mod LoadLaws
pub mod LoadFaults
mod LoadFormats
pub mod RiseLaws
mod SourceSteps
pub mod HoldLaws
pub mod FaultyLaws
mod OffsetLaws
pub mod EndedLaws
pub mod RefusedLaws
pub mod FirstFaultLaws
pub mod SpellSteps
pub mod SinkLaws
pub mod SpellLaws
pub mod StartLaws
pub mod SplitLaws
pub mod RangeLaws
pub mod LineLists
pub mod LineStarts
pub mod FirstLaws
mod ByteLaws
mod ExtentLaws
mod OpenLaws
mod RecordedLaws
pub mod RunBytes
mod UnsortedLaws
pub mod RunOrderLaws
mod CommentLaws
mod UnknownLineLaws
mod DroppedLaws
pub mod CutLaws
pub mod FrontLaws
pub mod JoinLaws
mod RestLaws
mod LineKeyLaws
mod KeyOrderLaws
mod LongLineLaws
mod SetKeyLaws
mod SetOrderLaws
mod KeyedFileLaws
mod RunSetsLaws
mod FileRunLaws
