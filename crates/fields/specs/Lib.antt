pub mod Reads
pub mod Sources
pub mod Rows
pub mod RowLaws
pub mod Packs
pub mod PackLaws
pub mod Counts
pub mod Marks
