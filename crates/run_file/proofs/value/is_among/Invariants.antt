use Rattle.std.proofs.Common.{◌≡◌, map, drop}
use Rattle.std.specs.List.{list_any}
use Rattle.std.specs.Str.{bytes_eq}
use Rattle.run_file.proofs.value.is_among.Given as goal

abbrev pub invariant-loop-one : goal.invariant-loop-one
invariant-loop-one l =
    list_any (bytes_eq l.word) (map (λ k. k.now) l.words) ≡ list_any (bytes_eq l.word) (map (λ k. k.now) (drop l.one-index l.words))
