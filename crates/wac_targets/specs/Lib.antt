pub mod Wanted
pub mod Named
pub mod Given
pub mod Parts
pub mod Report
pub mod Noting
