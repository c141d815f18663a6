pub mod NameLaws
pub mod ClassLaws
pub mod ScanLaws
