pub mod FieldReads
pub mod TextArrays
pub mod TextReads
