use Rattle.std.proofs.Common.{refl}
use Rattle.wac_wit.proofs.packages.is_listed.Goals as goal

pub returns-then-has_interfaces : goal.returns-then-has_interfaces
returns-then-has_interfaces c = λ h of knows. record { interfaces = c.if-has_interfaces.ensures refl of knows; worlds = c.has_worlds.ensures h of knows }
