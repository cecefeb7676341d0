pub mod Handing
pub mod OtherOrders
