pub mod Meant
pub mod SlotLaws
pub mod FrameLaws
pub mod Words
pub mod Values
pub mod Descent
pub mod Fuel
pub mod Feeding
pub mod Operands
pub mod Calls
pub mod Expressions
pub mod Conditions
pub mod Steps
pub mod Refocusing
pub mod Queues
pub mod States
mod Tests
mod MemoryOf
mod ThreadNumbers
mod KeptLaws
pub mod Looks
mod Moves
mod ChangeLaws
mod Ended
mod Moving
mod FieldActs
mod MonitorActs
mod SignalActs
mod ObjectActs
mod PlainActs
pub mod Acts
mod Depths
mod RoomAfter
mod Moved
pub mod Shown
pub mod Picks
pub mod Logs
pub mod Starts
pub mod Plays
