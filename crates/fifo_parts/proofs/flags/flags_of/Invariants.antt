-- The flags among the candidates so far.
use Rattle.std.proofs.Common.{◌≡◌, ◌≤◌, ◌++◌, map, length, take, drop, Contains}
use Rattle.cdc_model.specs.Nets.{design_of, next_tree}
use Rattle.cdc_model.specs.Ordered.{IsAscending}
use Rattle.cdc_model.specs.Schemes.{last_flop}
use Rattle.fifo_laws.specs.Sides.{Side}
use Rattle.fifo_parts.specs.declared.flags.Flag.{Flag}
use Rattle.fifo_parts.specs.Comparisons.{IsOwn}
use Rattle.fifo_parts.specs.Tellers.{flag_entry_key, IsFlagBy, IsShown, IsSideOf}
use Rattle.fifo_parts.proofs.Sifted.{AreSifted}
use Rattle.fifo_parts.proofs.flags.flags_of.Given as goal

abbrev pub invariant-loop-flag : goal.invariant-loop-flag
invariant-loop-flag l = record {
  ordered : IsAscending flag_entry_key (l.flags ++ drop l.flag-index l.flag-items);
  sifted : (near far : Side) → IsShown l.shown.net.now l.shown.table.now
      → ((f : Flag) → Contains l.flag-items f → IsOwn l.shown.net.now l.shown.domains.now f)
      → IsSideOf l.shown.net.now l.shown.domains.now l.side near → l.over ≡ map last_flop far.over → length l.over ≤ 64
      → AreSifted (λ (f : Flag). IsFlagBy l.apart (design_of l.shown.net.now l.shown.domains.now)
      (next_tree l.shown.net.now) near far f.bit f.value) (take l.flag-index l.flag-items) l.flags;
}
