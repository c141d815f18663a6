pub mod Agreement
pub mod AgreedOn
pub mod ShotsJudged
