-- What a refusal of elaboration tells of the design.
use Rattle.std.specs.Prelude.{◌≡◌, ℕ, ◌+◌, ◌<◌, ◌≤◌, Bool, true, List, [], length, map, Some, slice_get}
use Rattle.std.specs.List.{Contains}
use Rattle.cdc_base.specs.declared.fault.Fault.{Fault}
use Rattle.cdc_base.specs.declared.limits.TheConstants.{MAX_STATE_BITS}
use Rattle.cdc_base.specs.declared.signal.Signal.{Signal}
use Rattle.refusals.specs.Limits.{IsPastLimit}
use Rattle.cell_graph.specs.Nets.{register_signals}
use Rattle.flat_meaning.specs.Design as d
use Rattle.flat_meaning.specs.Segments.{IsLoopFree}
use Rattle.flat_meaning.specs.Sound.{IsSound}
use Rattle.flat_reads.specs.Filled.{IsDesignFilled}
use Rattle.flat_form.specs.declared.flat.Flat.{Flat}
use Rattle.flat_form.specs.Sizes.{IsWellSized}
use Rattle.flat_form.specs.View.{flat_of}
use Rattle.driver_trees.specs.declared.sketch.Piece.{Piece}
use Rattle.driver_trees.specs.declared.sketch.Register.{Register}
use Rattle.driver_trees.specs.declared.sketch.Sketch.{Sketch}
use Rattle.driver_trees.specs.Sketches.{IsSketchOf}
use Rattle.driver_loops.specs.Orders.{IsOrderOf, LeadsBack}
use Rattle.loop_law.specs.Loops.{IsFirstLoop}
use Rattle.elaborate.specs.Counts.{HasRoom, HasTooManyCells}
use Rattle.elaborate.specs.Limits.{state_bits}

-- E312 names a signal, at its declaration
pub record NamesSignal (s : Signal) (fault : Fault) : Type 0 where
  pub number : fault.number ≡ 312
  pub place : fault.place ≡ Some s.place
  pub name : fault.name ≡ s.name

-- the first one on a loop
pub record NamesFirstLoop (f : d.Flat) (fault : Fault) : Type 0 where
  pub sig : ℕ
  pub signal : Signal
  pub stands : slice_get f.signals sig ≡ Some signal
  pub first : IsFirstLoop f sig
  pub names : NamesSignal signal fault

-- ---- causes, in the order in which they are tried

-- the design is one that flattening gives
pub record IsFlattened (flat : Flat) : Type 0 where
  pub sized : IsWellSized flat
  pub sound : IsSound (flat_of flat)

pub data IsRefusedFor (flat : Flat) (fault : Fault) : Type 0 where
  bits : IsPastLimit 605 fault → MAX_STATE_BITS < state_bits flat.signals → IsRefusedFor flat fault
  loop : state_bits flat.signals ≤ MAX_STATE_BITS → fault.number ≡ 312 → (IsFlattened flat → NamesFirstLoop (flat_of flat) fault) → IsRefusedFor flat fault
  cells : state_bits flat.signals ≤ MAX_STATE_BITS → IsPastLimit 602 fault → (IsFlattened flat → IsLoopFree (flat_of flat) × HasTooManyCells (flat_of flat))
      → IsRefusedFor flat fault

-- none of them is there
pub record IsAccepted (flat : Flat) : Type 0 where
  pub bits : state_bits flat.signals ≤ MAX_STATE_BITS
  pub loop_free : IsFlattened flat → IsLoopFree (flat_of flat)
  pub room : IsFlattened flat → HasRoom (flat_of flat)

-- ---- the same of a sketch

-- the sketch is that of a sound design
pub record IsDesignOf (f : d.Flat) (signals : List Signal) (s : Sketch) : Type 0 where
  pub same : f.signals ≡ signals
  pub sound : IsSound f
  pub filled : IsDesignFilled f
  pub sketch : IsSketchOf f s.drafts s
  pub registers : map (λ (r : Register). r.sig) s.registers.items ≡ register_signals 0 f.signals

pub data IsNetRefusedFor (signals : List Signal) (s : Sketch) (fault : Fault) : Type 0 where
  loop : fault.number ≡ 312 → ((f : d.Flat) → IsDesignOf f signals s → NamesFirstLoop f fault) → IsNetRefusedFor signals s fault
  cells : IsPastLimit 602 fault → ((f : d.Flat) → IsDesignOf f signals s → IsLoopFree f × HasTooManyCells f) → IsNetRefusedFor signals s fault

-- ---- pieces on loops

-- the signal of the first piece with a mark
pub record IsFirstMarked (signals : List Signal) (s : Sketch) (marks : List Bool) (signal : Signal) : Type 0 where
  pub place : ℕ
  pub piece : Piece
  pub stands : slice_get s.pieces.items place ≡ Some piece
  pub is : slice_get signals piece.sig ≡ Some signal
  pub marked : slice_get marks (length s.drafts + place) ≡ Some true
  pub first : (i : ℕ) → i < place → slice_get marks (length s.drafts + i) ≡ Some true → ⊥

-- the first piece of the order that leads back to itself
pub record IsFirstBack (s : Sketch) (ls : List (List ℕ)) (order : List ℕ) (n : ℕ) : Type 0 where
  pub back : LeadsBack ls (length s.drafts + n)
  pub first : (i : ℕ) → i < n → Contains order (length s.drafts + i) → LeadsBack ls (length s.drafts + i) → ⊥

pub record NamesPiece (signals : List Signal) (s : Sketch) (ls : List (List ℕ)) (order : List ℕ) (fault : Fault) : Type 0 where
  pub place : ℕ
  pub piece : Piece
  pub signal : Signal
  pub stands : slice_get s.pieces.items place ≡ Some piece
  pub is : slice_get signals piece.sig ≡ Some signal
  pub back : (roots : List ℕ) → IsOrderOf ls roots order → IsFirstBack s ls order place
  pub names : NamesSignal signal fault
