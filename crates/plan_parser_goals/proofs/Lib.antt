pub mod Numbers
pub mod FormTable
pub mod MoveLaws
