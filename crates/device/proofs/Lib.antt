pub mod DeviceLaws
pub mod EdgeLaws
pub mod FreeLaws
pub mod HeaderLaws
pub mod OwnerLaws
pub mod RegionLaws
