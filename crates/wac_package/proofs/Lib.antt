mod Labels
mod Paths
mod Defined
