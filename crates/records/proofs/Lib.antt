pub mod Laying
pub mod Moving
pub mod Cutting
pub mod Standing
pub mod Counting
pub mod Storing
