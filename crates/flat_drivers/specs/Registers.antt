-- The bits that the start values of registers have.
use Rattle.std.specs.Prelude.{◌≡◌, ℕ, ◌<◌, ◌^◌, false, option_map, is_some, unwrap_or, IfSome}
use Rattle.cell_graph.specs.Tree.{bit_at, number}
use Rattle.flat_unfolding.specs.Design.{Design}
use Rattle.flat_unfolding.specs.Starts.{given_bit, start_bit}
use Rattle.flat_drivers.specs.declared.registers.Starts.{Starts}

-- what is kept of a register's start values has the bits that the design has
pub record HasStarts (d : Design) (s w : ℕ) (kept : Starts) : Type 0 where
  pub declared : (i : ℕ) → i < w → option_map (λ v. bit_at v i) kept.start ≡ start_bit d.starts s i
  pub fits : IfSome kept.start (λ v. v < 2 ^ w)
  pub known : kept.reset_known ≡ number (λ i. is_some (given_bit d.givens s i)) w
  pub given : kept.reset_start ≡ number (λ i. unwrap_or (given_bit d.givens s i) false) w
