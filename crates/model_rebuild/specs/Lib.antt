pub mod RebuildExample
pub mod RebuildMoments
pub mod RebuildPlan
pub mod RebuiltLists
pub mod RebuiltLogs
