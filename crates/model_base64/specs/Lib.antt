pub mod Base64Text
