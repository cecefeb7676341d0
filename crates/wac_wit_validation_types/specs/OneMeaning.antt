-- That names in interfaces stand for one thing (WIT.md, "Item: `interface`", "Item: `use`" and "Items: type").
use Rattle.std.specs.Prelude.{◌≡◌, Contains}
use Rattle.wac_model.specs.ItemTree.{ItemTree}
use Rattle.wac_model.specs.Text.{Text}
use Rattle.wac_wit_syntax.specs.declared.tree.InterfaceDecl.{InterfaceDecl}
use Rattle.wac_wit_syntax.specs.declared.tree.Rename.{Rename}
use Rattle.wac_wit_syntax.specs.declared.tree.TypeItem.{TypeItem}
use Rattle.wac_wit_syntax.specs.declared.tree.UseItem.{UseItem}
use Rattle.wac_wit_validation_types.specs.Denoted.{Denoted, NamesType, Setting, interface_setting}
use Rattle.wac_wit_validation_types.specs.Interfaces.{HasExportOf}
use Rattle.wac_wit_scopes.specs.WitSources.{HasInterface, IsEnabled, ScopeSyntax, WitSources, given_name, ident_text}

-- a type that is there has the name
pub record GivesType (s : Setting) (n : Text) (t : TypeItem) : Type 0 where
  pub among : Contains s.types t
  pub there : IsEnabled s.sources t.gates
  pub named : ident_text t.name ≡ n

-- a `use` that is there gives the name
pub record GivesUse (s : Setting) (n : Text) (u : UseItem) (r : Rename) : Type 0 where
  pub among : Contains s.uses u
  pub there : IsEnabled s.sources u.gates
  pub within : Contains u.names.items r
  pub named : given_name r.name r.alias ≡ n

-- each name of a type is given once
pub record GivesOnce (s : Setting) : Type 0 where
  pub types : (n : Text) (t x : TypeItem) → GivesType s n t → GivesType s n x → t ≡ x
  pub uses : (n : Text) (u v : UseItem) (r q : Rename) → GivesUse s n u r → GivesUse s n v q → (u ≡ v) × (r ≡ q)
  pub apart : (n : Text) (t : TypeItem) (u : UseItem) (r : Rename) → GivesType s n t → GivesUse s n u r → ⊥

-- each interface gives each name of a type once
abbrev pub AllGiveOnce : WitSources → Type 0
AllGiveOnce of = (w : ScopeSyntax) (n : Text) (d : InterfaceDecl) → HasInterface of w n d → GivesOnce (interface_setting of w d.items.items)

-- a name of a type stands for one thing at most
abbrev pub HasOneMeaning : Setting → Type 0
HasOneMeaning s = (n : Text) (m k : Denoted) → NamesType s n m → NamesType s n k → m ≡ k

-- so it does in each interface
abbrev pub HaveOneMeaning : WitSources → Type 0
HaveOneMeaning of = (w : ScopeSyntax) (i : Text) (d : InterfaceDecl) → HasInterface of w i d → HasOneMeaning (interface_setting of w d.items.items)

-- the name of an export stands for one item at most
abbrev pub HasOneItem : Setting → Type 0
HasOneItem s = (n : Text) (x y : ItemTree) → HasExportOf s n x → HasExportOf s n y → x ≡ y

-- so it does in each interface, whose text denotes one tree then, but for the order
abbrev pub ExportsStandForOne : WitSources → Type 0
ExportsStandForOne of = (w : ScopeSyntax) (i : Text) (d : InterfaceDecl) → HasInterface of w i d → HasOneItem (interface_setting of w d.items.items)
