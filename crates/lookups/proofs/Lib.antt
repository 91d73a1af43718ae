pub mod ReadBack
pub mod RecordParts
pub mod CountedKeys
pub mod HeldStates
pub mod Places
pub mod RowSteps
pub mod StateSteps
