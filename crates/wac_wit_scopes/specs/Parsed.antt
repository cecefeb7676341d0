-- The syntax trees of files.
use Rattle.std.specs.Prelude.{List, string_bytes}
use Rattle.std.specs.List.{AllZip}
use Rattle.wac_wit_names.specs.declared.sources.SourceFile.{SourceFile}
use Rattle.wac_wit_syntax.specs.Documents.{Says}
use Rattle.wac_wit_syntax.specs.declared.tree.Document.{Document}

-- each file's text says the document at its place, and there are no others
abbrev pub AreParsed : List SourceFile → List Document → Type 0
AreParsed files documents = AllZip (λ f d. Says (string_bytes f.text) d) files documents
