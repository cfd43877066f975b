pub mod PrintedPlaces
pub mod PrintedReplies
