pub mod RowScans
pub mod Ways
pub mod LowerKeys
