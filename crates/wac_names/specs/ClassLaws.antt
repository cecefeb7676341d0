-- The laws of equality and of hashes of classes.
use Rattle.std.proofs.Common.{◌≡◌, true, ap, refl}
use Rattle.std.specs.Cmp.{IsEquivalence, both_ways}
use Rattle.std.specs.Cmp.Lexicographic.{bytes_decides}
use Rattle.wac_names.specs.Class.{Class, alone, class_eq, class_writes, on_track}

class_same : (c d : Class) → class_eq c d ≡ true → c ≡ d
class_same (on_track k) (on_track l) h = ap on_track ((bytes_decides k l).0 h)
class_same (on_track k) (alone b) h = cc h
class_same (alone a) (on_track l) h = cc h
class_same (alone a) (alone b) h = ap alone ((bytes_decides a b).0 h)

class_self : (c : Class) → class_eq c c ≡ true
class_self (on_track k) = (bytes_decides k k).1 refl
class_self (alone a) = (bytes_decides a a).1 refl

pub class_eq_equiv : IsEquivalence class_eq
class_eq_equiv = record {
  refl = class_self;
  symm = λ c d. both_ways (class_eq c d) (class_eq d c) (λ h. rw (class_same c d h) (class_self d)) (λ h. rw (class_same d c h) (class_self c));
  congr = λ b c d h. ap (λ (e : Class). class_eq e d) (class_same b c h);
}

-- equal classes feed a hasher the same
pub classes_fed_alike : (c d : Class) → class_eq c d ≡ true → class_writes c ≡ class_writes d
classes_fed_alike c d h = ap class_writes (class_same c d h)
