pub mod ImageLemmas
pub mod NameStepLemmas
pub mod OwnLemmas
pub mod SpelledLemmas
pub mod StepLemmas
