use Rattle.std.proofs.Common.{◌≡◌, map, drop, take, []}
use Rattle.run_file.specs.Shapes.{is_again}
use Rattle.run_file.proofs.shape.check_bits.Given as goal

abbrev pub invariant-loop-race : goal.invariant-loop-race
invariant-loop-race l = record {
  seen_so_far : map (λ n. n.now) l.seen.keys ≡ map (λ r. r.bit) (take l.race-index l.races);
  no_more : is_again [] (map (λ r. r.bit) l.races) ≡ is_again (map (λ n. n.now) l.seen.keys) (map (λ r. r.bit) (drop l.race-index l.races));
}
