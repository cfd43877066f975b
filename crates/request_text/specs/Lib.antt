pub mod BatchText
pub mod BoxesText
pub mod Commands
pub mod GivenWords
pub mod Outcomes
pub mod ReplyText
pub mod Steps
pub mod SummaryText
