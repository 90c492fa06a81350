pub mod OrderLaws
pub mod AscendingLaws
mod TreeLaws
pub mod GiveLaws
mod Asking
pub mod PassLaws
pub mod SelectedLaws
mod Choosing
mod NewestLaws
mod State
pub mod Settling
mod MergeLaws
pub mod UnionLaws
pub mod KeyLaws
mod ClashLaws
mod RepeatLaws
mod HeadsLaws
mod CountLaws
mod PutLaws
mod Running
mod TurnLaws
mod EndLaws
mod WorkLaws
pub mod SnapLaws
pub mod UnionAllLaws
pub mod SliceLaws
pub mod PieceLaws
mod WithinLaws
pub mod SliceSources
mod TakingLaws
mod TakenLaws
