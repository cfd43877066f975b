pub mod DeliveryAlone
pub mod FaultsAlone
pub mod FetchAlone
pub mod SavedMail
