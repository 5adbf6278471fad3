-- The two sides of a FIFO: a counter with its Gray register, and the synchronizers that bring the code to the other side.
use Rattle.std.specs.Prelude.{◌≡◌, ℕ, false, ◌&&◌, Some, List, [], ◌∷◌, map, filter, length, Contains}
use Rattle.std.specs.List.{AllByRecursion}
use Rattle.cdc_base.specs.declared.bit.Bit.{Bit}
use Rattle.cell_graph.specs.Reading.{bit_eq}
use Rattle.cell_graph.specs.Tree.{Tree, Var}
use Rattle.cell_graph.specs.Origin.{TreeBit}
use Rattle.cdc_model.specs.declared.scheme.GrayReg.{GrayReg}
use Rattle.cdc_model.specs.declared.scheme.Shape.{Shape}
use Rattle.cdc_model.specs.declared.scheme.Shape.TheVariants.{G1, G2, G3}
use Rattle.cdc_model.specs.Design.{Design, are_equal, word}
use Rattle.cdc_model.specs.Schemes.{Sync, flops, last_flop}
use Rattle.cdc_model.specs.Word.{origins, own_word}
use Rattle.fifo_terms.specs.Terms.{Term}
use Rattle.fifo_terms.specs.Counts.{CountsUnder}
use Rattle.fifo_terms.specs.Codes.{Code, Now, Next}

-- the node of a bit of a signal
abbrev pub bit_node : Design → Bit → TreeBit
bit_node d b = Some (Var b.sig (d.width b.sig), b.at)

-- the listed synchronizers from a bit whose flops are on a clock
abbrev pub syncs_on : Design → List Sync → (clock : ℕ) → Bit → List Sync
syncs_on d syncs c b = filter (λ s. bit_eq s.from b && are_equal (d.clock s.first) (Some c)) syncs

-- A side: the counter and its code, their clock, the terms under which it counts, and the synchronizer from each bit of the code.
pub record Side : Type 0 where
  pub reg : GrayReg
  pub clock : ℕ
  pub under : List Term
  pub over : List Sync

-- each of the bits starts at 0
abbrev pub StartAtZero : Design → List Bit → Type 0
StartAtZero d bits = AllByRecursion (λ b. d.start b ≡ Some false) bits

-- how many bits a side's counter has
abbrev pub side_width : Design → Side → ℕ
side_width d s = d.width s.reg.count

-- A side over listed synchronizers and Gray registers, whose code is brought to a clock.
pub record IsSide (d : Design) (tree : ℕ → Tree) (syncs : List Sync) (grays : List GrayReg) (to : ℕ) (s : Side) : Type 0 where
  pub listed : Contains grays s.reg
  pub clock : AllByRecursion (λ b. d.clock b ≡ Some s.clock) (word d s.reg.count)
  pub counts : CountsUnder s.reg.count (side_width d s) (origins (tree s.reg.count) 0 (side_width d s)) s.under
  -- exactly one listed synchronizer leads from each bit of the code to that clock, and all have one number of flops
  pub over : map (syncs_on d syncs to) (word d s.reg.gray) ≡ map (λ y. y ∷ []) s.over
  pub one_length : (n : ℕ) × AllByRecursion (λ y. length (flops y) ≡ n) s.over
  -- counter, code and flops start at 0
  pub start : StartAtZero d (word d s.reg.count) × StartAtZero d (word d s.reg.gray) × AllByRecursion (λ y. StartAtZero d (flops y)) s.over

-- the nodes that hold the code: none where the Gray register is a step behind its counter
abbrev pub held_in : Shape → List TreeBit → List TreeBit
held_in G1 ns = ns
held_in G2 ns = ns
held_in G3 ns = []

-- the code of a side's count
abbrev pub code_of : Design → Side → Code
code_of d s = record { b = s.reg.count; w = side_width d s; held = held_in s.reg.shape (own_word s.reg.gray (side_width d s)); moment = Now }

-- the code of its next count
abbrev pub next_code_of : Design → (ℕ → Tree) → Side → Code
next_code_of d tree s = record { b = s.reg.count; w = side_width d s; held = held_in s.reg.shape (origins (tree s.reg.gray) 0 (side_width d s)); moment = Next s.under }

-- the word of the last flops, in which a side's code comes over
abbrev pub came_over : Design → Side → List TreeBit
came_over d s = map (λ y. bit_node d (last_flop y)) s.over
