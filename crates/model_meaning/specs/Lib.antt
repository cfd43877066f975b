pub mod BoxMeaning
pub mod FitExamples
pub mod MapFits
pub mod MapMeaning
pub mod MeaningExamples
pub mod Rows
pub mod SameMeaning
pub mod Sound
