-- Which features are on (WIT.md, "Feature Gates").
use Rattle.std.specs.Prelude.{Bool, true, false}
use Rattle.std.specs.List.{list_any}
use Rattle.std.specs.Str.{bytes_eq}
use Rattle.wac_model.specs.Text.{Text}
use Rattle.wac_wit_names.specs.declared.features.Features.{Features}
use Rattle.wac_wit_names.specs.declared.features.Features.TheVariants.{Stable, Named, All}

-- whether a feature is on: none, those of some names, or all
abbrev pub has_feature : Features → Text → Bool
has_feature Stable name = false
has_feature (Named names) name = list_any (λ on. bytes_eq on.now name) names.now
has_feature All name = true
