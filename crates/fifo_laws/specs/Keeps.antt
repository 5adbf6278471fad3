-- What each state of each run keeps of a FIFO.
use Rattle.std.specs.Prelude.{◌≡◌, ℕ, ◌+◌, ◌<◌, ◌≤◌, Bool, List, [], ◌∷◌, map, Contains}
use Rattle.cdc_base.specs.declared.bit.Bit.{Bit}
use Rattle.cell_graph.specs.Reading.{Reading}
use Rattle.cell_graph.specs.Tree.{Tree}
use Rattle.cdc_model.specs.declared.scheme.GrayReg.{GrayReg}
use Rattle.cdc_model.specs.Design.{Design, bits_from}
use Rattle.cdc_model.specs.Gray.{gray_code}
use Rattle.cdc_model.specs.Runs.{State}
use Rattle.cdc_model.specs.Schemes.{Sync}
use Rattle.fifo_terms.specs.Counts.{binary}
use Rattle.fifo_laws.specs.Fifos.{Fifo, IsFifo}
use Rattle.fifo_laws.specs.Sides.{Side}
use Rattle.fifo_laws.specs.Tests.{IsFullFlag, IsEmptyFlag}

-- the numbers come down in steps, from the first one on, to low
abbrev pub FallsTo : (low first : ℕ) → List ℕ → Type 0
FallsTo low n [] = low ≤ n
FallsTo low n (m ∷ ms) = (m ≤ n) × FallsTo low m ms

-- the last one of the numbers
abbrev pub last_number : (first : ℕ) → List ℕ → ℕ
last_number n [] = n
last_number n (m ∷ ms) = last_number m ms

-- each word holds the Gray code of its number, of w bits
abbrev pub HoldCodes : Reading → (w : ℕ) → List (List Bit) → List ℕ → Type 0
HoldCodes r w [] [] = Unit {0}
HoldCodes r w [] (n ∷ ns) = ⊥
HoldCodes r w (bs ∷ bss) [] = ⊥
HoldCodes r w (bs ∷ bss) (n ∷ ns) = (map r bs ≡ gray_code (binary w n)) × HoldCodes r w bss ns

-- A FIFO's counts, unfolded to numbers that go on: those of wb, wg and the flops behind wg, and of rb, rg and the flops behind rg.
pub record Numbers : Type 0 where
  pub wb : ℕ
  pub wg : ℕ
  pub there : List ℕ
  pub rb : ℕ
  pub rg : ℕ
  pub back : List ℕ

-- what has come over of wb, and of rb
abbrev pub written : Numbers → ℕ
written n = last_number n.wg n.there

abbrev pub taken_out : Numbers → ℕ
taken_out n = last_number n.rg n.back

-- The words hold these numbers, modulo a round, or their Gray codes.
pub record AreHeld (f : Fifo) (r : Reading) (n : Numbers) : Type 0 where
  pub wb : map r (bits_from f.wb 0 f.width) ≡ binary f.width n.wb
  pub wg : map r (bits_from f.wg 0 f.width) ≡ gray_code (binary f.width n.wg)
  pub there : HoldCodes r f.width f.there n.there
  pub rb : map r (bits_from f.rb 0 f.width) ≡ binary f.width n.rb
  pub rg : map r (bits_from f.rg 0 f.width) ≡ gray_code (binary f.width n.rg)
  pub back : HoldCodes r f.width f.back n.back

-- What a state keeps of a FIFO with these sides.
pub record Keeps (d : Design) (tree : ℕ → Tree) (write read : Side) (f : Fifo) (s : State) : Type 0 where
  pub numbers : Numbers
  pub held : AreHeld f s.values numbers
  -- round the FIFO no number is ahead of the one before it: wb, wg, the flops behind wg, rb, rg, the flops behind rg
  pub write_code : numbers.wg ≤ numbers.wb
  pub there : FallsTo numbers.rb numbers.wg numbers.there
  pub read_code : numbers.rg ≤ numbers.rb
  pub back : FallsTo 0 numbers.rg numbers.back
  -- and wb is ahead of the last of them by the depth at most
  pub room : numbers.wb ≤ taken_out numbers + f.depth
  -- a flag that says so is right
  pub full : (b : Bit) (u : Bool) → IsFullFlag d tree write read b u → s.values b ≡ u → numbers.wb < taken_out numbers + f.depth
  pub empty : (b : Bit) (u : Bool) → IsEmptyFlag d tree write read b u → s.values b ≡ u → numbers.rb < written numbers

-- a state keeps this of each of the FIFOs
abbrev pub KeepsAll : Design → (ℕ → Tree) → List Sync → List GrayReg → List Fifo → State → Type 0
KeepsAll d tree syncs grays fifos s = (f : Fifo) → Contains fifos f → (k : IsFifo d tree syncs grays f) → Keeps d tree k.write k.read f s
