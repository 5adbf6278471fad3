use Rattle.std.proofs.Common.{◌≡◌, List, ℕ, map, take}
use Rattle.std.specs.List.{list_any}
use Rattle.std.specs.Str.{bytes_eq}
use Rattle.sdc_subset.proofs.names.all.Given as goal

abbrev pub invariant-loop-name : goal.invariant-loop-name
invariant-loop-name l = (n : List ℕ) → list_any (bytes_eq n) l.set ≡ list_any (bytes_eq n) (map (λ t. t.now) (take l.name-index l.names))
