mod CheckLaws
mod ReadLaws
mod RouteLaws
mod RunLaws
pub mod Unpacked
