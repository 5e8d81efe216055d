pub mod Outcomes
pub mod Probes
