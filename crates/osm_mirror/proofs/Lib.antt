pub mod DigitLaws
pub mod run_laws
pub mod fleet_laws
