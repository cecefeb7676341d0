-- An interner stands for a partial function from texts to keys, where keys are told apart
-- by their `==` alone. The function is given as a test: `f text key` is true of a text
-- and each key that is the text's.
use Rattle.std.specs.Prelude.{◌≡◌, Bool, true, false, Option, Some, None}
use Rattle.wac_model.specs.Text.{Text}

-- a partial function from texts to keys
abbrev pub Interning : Type 0 → Type 0
Interning K = Text → K → Bool

-- the keys of a text are one class under `eq`, and no two texts share a key
pub record IsLawful {K : Type 0} (eq : K → K → Bool) (f : Interning K) : Type 0 where
  pub one_key : (text : Text) (j k : K) → f text j ≡ true → f text k ≡ true → eq j k ≡ true
  pub same_key : (text : Text) (j k : K) → f text j ≡ true → eq j k ≡ true → f text k ≡ true
  pub tells_texts : (s t : Text) (j k : K) → f s j ≡ true → f t k ≡ true → eq j k ≡ true → s ≡ t

module _ {K : Type 0} where
  -- the text has a key
  abbrev pub IsKnown : Interning K → Text → Type 0
  IsKnown f text = (key : K) × (f text key ≡ true)

  -- the second function has what the first has
  abbrev pub ExtendsInterning : Interning K → Interning K → Type 0
  ExtendsInterning f g = (text : Text) (key : K) → f text key ≡ true → g text key ≡ true

  -- the second function has nothing new but at such texts
  abbrev pub GrowsOnlyAt : Interning K → Interning K → (Text → Type 0) → Type 0
  GrowsOnlyAt f g IsNew = (text : Text) (key : K) → g text key ≡ true → (IsNew text → ⊥) → f text key ≡ true

  -- the key is the text's, and with none the text has none
  abbrev pub IsValueAt : Interning K → Text → Option K → Type 0
  IsValueAt f text (Some key) = f text key ≡ true
  IsValueAt f text None = (key : K) → f text key ≡ false
