use Rattle.std.proofs.Common.{◌≡◌, ℕ, ◌<◌, map, length, slice_get, string_bytes}
use Rattle.wac_checker_parts.proofs.values.compare_names.Given as goal

abbrev pub invariant-loop-i : goal.invariant-loop-i
invariant-loop-i l = record {
  same_length : length l.a.keys ≡ length l.b.keys;
  same_so_far : (k : ℕ) → k < l.i → slice_get (map string_bytes l.a.keys) k ≡ slice_get (map string_bytes l.b.keys) k;
}
