pub mod RowLaws
pub mod LaidLaws
pub mod MarkLaws
pub mod Within
