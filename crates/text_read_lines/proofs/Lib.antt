pub mod FailureLines
