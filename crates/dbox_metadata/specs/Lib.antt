pub mod BriefRead
pub mod Instances
pub mod Keys
pub mod MadeMetadata
pub mod MetadataRead
pub mod Options
pub mod SoFar
