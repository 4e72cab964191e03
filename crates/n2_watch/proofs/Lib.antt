mod Words
mod Lowest
pub mod KeptLists
pub mod Owners
pub mod KeptDevices
pub mod KeptMailboxes
pub mod KeptAccess
pub mod KeptTransfers
pub mod KeptPast
pub mod KeptShapes
pub mod KeptSteps
pub mod KeptWorld
pub mod OwnersRights
pub mod KeptMemory
pub mod KeptJudgement
pub mod KeptEvents
mod RecordCounts
mod RecordSteps
mod Finding
mod Walking
mod RecordNotes
mod Judging
mod Noting
mod Again
mod Building
mod Nexts
mod Starting
mod Opened
mod Following
mod FollowingRows
mod FollowingAccess
