-- How a bit of a cell is judged by the bits of its operands.
use Rattle.std.specs.Prelude.{ℕ, suc, Bool, true, false, not, ◌&&◌, ◌||◌}
use Rattle.cdc_base.specs.declared.bit.Bit.{Bit}
use Rattle.cell_graph.specs.declared.cell.Cell.{Cell}
use Rattle.cell_graph.specs.declared.cell.Cell.TheVariants.{Var, Const, Not, And, Or, Xor, Add, Sub, Eq, Lt, Shl, Shr, Mux, Concat, Slice, Extend, Reduce}
use Rattle.cell_graph.specs.declared.cell.CellId.{CellId}
use Rattle.cell_graph.specs.declared.cell.Node.{Node}
use Rattle.cell_graph.specs.declared.feeds.Passed.{Passed}
use Rattle.cell_graph.specs.declared.feeds.Passed.TheVariants as passed
use Rattle.cell_graph.specs.Cells.{Cells, cell_width}
use Rattle.cell_graph.specs.Feeds.{node, passed_by}
use Rattle.cell_graph.specs.Tree.{all_below}
use Rattle.fifo_ways.specs.declared.sought.Guard.{Guard}
use Rattle.fifo_ways.specs.Guards.{guard}

-- tests for what is looked for
pub record Found : Type 0 where
  pub word : Bit → Bool
  pub read : Node → Bool
  pub test : Guard → Bool

-- into a feed: it is a guard, and what holds behind one holds of it, or else what held so far
abbrev pub into : (guard behind before : Bool) → Bool
into guard behind before = (guard && behind) || before

-- of the bit that is passed; true for zero; else what holds where a cell does more than to move bits
abbrev pub through : Passed → (CellId → ℕ → Bool) → (other : Bool) → Bool
through (passed.Bit n) has other = has n.cell n.at
through passed.Zero has other = true
through passed.Other has other = other

-- all ways from bit i of a cell pass what is looked for, by the bits of its operands of which they do
abbrev pub judged : Cells → Found → (Bool → CellId → ℕ → Bool) → (guarded : Bool) → Cell → CellId → ℕ → Bool
judged g f has b (Var sig) id i = not (f.word (record { sig = sig; at = i }))
judged g f has b (Const w v) id i = true
judged g f has b (Not a) id i = has b a i
judged g f has b (And x y) id i =
    into (f.test (guard y i true)) (has true x i) (has b x i) && into (f.test (guard x i true)) (has true y i) (has b y i)
judged g f has b (Or x y) id i =
    into (f.test (guard y i false)) (has true x i) (has b x i) && into (f.test (guard x i false)) (has true y i) (has b y i)
judged g f has b (Xor x y) id i = has b x i && has b y i
judged g f has b (Add x y) id i = all_below (has b x) (suc i) && all_below (has b y) (suc i)
judged g f has b (Sub x y) id i = all_below (has b x) (suc i) && all_below (has b y) (suc i)
judged g f has b (Eq x y) id i = all_below (has b x) (cell_width g x) && all_below (has b y) (cell_width g x)
judged g f has b (Lt x y) id i = all_below (has b x) (cell_width g x) && all_below (has b y) (cell_width g x)
judged g f has b (Shl a by) id i =
    through (passed_by g (Shl a by) i) (has b) (all_below (has b a) (cell_width g a) && all_below (has b by) (cell_width g by))
judged g f has b (Shr a by) id i =
    through (passed_by g (Shr a by) i) (has b) (all_below (has b a) (cell_width g a) && all_below (has b by) (cell_width g by))
judged g f has b (Mux c x y) id i = (b && f.read (node id i))
    || (has b c 0 && (into (f.test (guard c 0 true)) (has true x i) (has b x i) && into (f.test (guard c 0 false)) (has true y i) (has b y i)))
judged g f has b (Concat high low) id i = through (passed_by g (Concat high low) i) (has b) true
judged g f has b (Slice a at w) id i = through (passed_by g (Slice a at w) i) (has b) true
judged g f has b (Extend a w) id i = through (passed_by g (Extend a w) i) (has b) true
judged g f has b (Reduce kind a) id i = all_below (has b a) (cell_width g a)
