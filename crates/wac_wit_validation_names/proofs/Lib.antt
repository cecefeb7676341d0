pub mod AmbiguityFacts
pub mod OnceFacts
pub mod OneExport
pub mod GivenFacts
pub mod NotedFacts
pub mod RenamedLayers
