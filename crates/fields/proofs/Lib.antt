pub mod RowValues
pub mod FieldValues
pub mod RowBits
pub mod RowTests
pub mod Giving
pub mod BitsTaken
pub mod Filling
