-- Tests for full and for empty, by comparisons of codes and by flags that are registers.
use Rattle.std.specs.Prelude.{◌≡◌, ◌⊎◌, ℕ, Bool, true, not, Some, None, List, Contains}
use Rattle.cdc_base.specs.declared.bit.Bit.{Bit}
use Rattle.cell_graph.specs.Tree.{Tree}
use Rattle.cdc_model.specs.Design.{Design}
use Rattle.fifo_terms.specs.Terms.{Term, Is}
use Rattle.fifo_terms.specs.Shows.{full_apart, empty_apart, IsTest, IsFlagTest}
use Rattle.fifo_laws.specs.Sides.{Side, bit_node, code_of, next_code_of, came_over}

-- A flag: a register bit on the near side's clock, no plain copy, whose next value at u has a test by the next code.
pub record IsFlag (d : Design) (tree : ℕ → Tree) (near far : Side) (apart : ℕ → ℕ → Bool) (f : Bit) (u : Bool) : Type 0 where
  pub register : d.is_register f ≡ true
  pub clock : d.clock f ≡ Some near.clock
  pub own : d.copied f ≡ None
  pub shows : IsFlagTest (next_code_of d tree near) (came_over d far) apart (tree f.sig) f.at u

-- a flag that is u where the FIFO isn't full
abbrev pub IsFullFlag : Design → (ℕ → Tree) → (write read : Side) → Bit → Bool → Type 0
IsFullFlag d tree write read f u = IsFlag d tree write read full_apart f u

-- a flag that is u where the FIFO isn't empty; it starts as for an empty one
abbrev pub IsEmptyFlag : Design → (ℕ → Tree) → (write read : Side) → Bit → Bool → Type 0
IsEmptyFlag d tree write read f u = IsFlag d tree read write empty_apart f u × (d.start f ≡ Some (not u))

-- a test for full: a term that doesn't hold where the FIFO is full
abbrev pub IsFullTest : Design → (ℕ → Tree) → (write read : Side) → Term → Type 0
IsFullTest d tree write read t = IsTest (code_of d write) (came_over d read) full_apart t
    ⊎ ((f : Bit) × (u : Bool) × (t ≡ Is (bit_node d f) u) × IsFullFlag d tree write read f u)

-- a test for empty: a term that doesn't hold where the FIFO is empty
abbrev pub IsEmptyTest : Design → (ℕ → Tree) → (write read : Side) → Term → Type 0
IsEmptyTest d tree write read t = IsTest (code_of d read) (came_over d write) empty_apart t
    ⊎ ((f : Bit) × (u : Bool) × (t ≡ Is (bit_node d f) u) × IsEmptyFlag d tree write read f u)

-- one of the terms is a test for full, or for empty
abbrev pub HasFullTest : Design → (ℕ → Tree) → (write read : Side) → List Term → Type 0
HasFullTest d tree write read ts = (t : Term) × Contains ts t × IsFullTest d tree write read t

abbrev pub HasEmptyTest : Design → (ℕ → Tree) → (write read : Side) → List Term → Type 0
HasEmptyTest d tree write read ts = (t : Term) × Contains ts t × IsEmptyTest d tree write read t
