pub mod Key
pub mod KeyLaws
pub mod InterfaceName
pub mod Package
pub mod Definitions
