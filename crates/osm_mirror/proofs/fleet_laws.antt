pub mod FleetLaws
pub mod AgreeLaws
pub mod MirrorLaws
pub mod PlanLineLaws
pub mod PlanTextLaws
pub mod MergesLaws
