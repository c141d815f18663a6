pub mod CountLaws
pub mod KeyLaws
pub mod KeySetLaws
