pub mod AccountLemmas
pub mod LaneLemmas
pub mod OwnWorkLemmas
pub mod ServingLemmas
pub mod StartLemmas
pub mod TakeUpLemmas
pub mod TakenLemmas
pub mod TurnLemmas
