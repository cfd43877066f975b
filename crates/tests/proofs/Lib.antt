mod BesideLemmas
mod HeldLemmas
mod RaceLemmas
mod StepLemmas
mod TurnLemmas
