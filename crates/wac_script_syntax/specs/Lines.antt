-- Lines with no command.
use Rattle.std.specs.Prelude.{◌≡◌, [], ◌∷◌, ⊤}
use Rattle.wac_model.specs.Text.{Text}

-- the line is empty or begins with `#`
abbrev pub HasNoCommand : Text → Type 0
HasNoCommand [] = ⊤
HasNoCommand (b ∷ bs) = b ≡ 35
