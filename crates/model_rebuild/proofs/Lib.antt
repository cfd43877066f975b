pub mod MapFitLemmas
pub mod MomentLemmas
pub mod NumberingLemmas
pub mod PlanLemmas
pub mod RebuildExampleLemmas
pub mod RebuiltBoxLemmas
pub mod RebuiltMapLemmas
pub mod RebuiltSafeLemmas
