pub mod Text
pub mod ValueTree
pub mod CoreTree
pub mod ItemTree
pub mod Order
pub mod Same
pub mod Laws
pub mod Desc
