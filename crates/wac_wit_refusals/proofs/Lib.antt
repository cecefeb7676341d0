pub mod NamingFacts
pub mod Lacking
pub mod KeptFacts
