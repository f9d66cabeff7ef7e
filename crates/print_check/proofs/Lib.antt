mod BundleLaws
mod Cases
mod DigitLaws
mod LineLaws
