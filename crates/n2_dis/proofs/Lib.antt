pub mod FieldSteps
pub mod LineSteps
pub mod NameSteps
pub mod OperandSteps
pub mod Rows
pub mod StatementSteps
pub mod WordSteps
