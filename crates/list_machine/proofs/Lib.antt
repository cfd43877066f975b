pub mod MachineLemmas
pub mod MachineOrderLemmas
pub mod OneStepLemmas
