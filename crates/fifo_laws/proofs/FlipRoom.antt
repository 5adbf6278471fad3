-- What is kept of a FIFO says that there is room, and something to read, where tests say so.
use Rattle.std.proofs.Common.{◌≡◌, ℕ, ◌+◌, ◌-◌, ◌^◌, ◌<◌, ◌≤◌, List, [], ◌∷◌, sym, ap, subst, ◌∙◌, arith}
use Rattle.cell_graph.specs.Tree.{Tree}
use Rattle.cdc_model.specs.declared.scheme.GrayReg.{GrayReg}
use Rattle.cdc_model.specs.Design.{Design}
use Rattle.cdc_model.specs.Facts.{Facts}
use Rattle.cdc_model.specs.Runs.{State}
use Rattle.cdc_model.specs.Schemes.{Trees, Sync, Ring}
use Rattle.fifo_laws.specs.Words.{depth_of}
use Rattle.fifo_laws.specs.Fifos.{Fifo, IsFifo}
use Rattle.fifo_laws.specs.Keeps.{FallsTo, last_number, written, taken_out, Keeps}
use Rattle.fifo_laws.specs.Laws.{AreLists}
use Rattle.fifo_laws.proofs.Flip.{Room}
use Rattle.fifo_laws.proofs.Pairs.{write_holds, read_holds, came_there, came_back, full_tells, empty_tells}
use Rattle.fifo_laws.proofs.Rounds.{falls_last}
use Rattle.fifo_laws.proofs.StepSide.{Holds}

-- numbers that come down end below the first
falls_below : (low n : ℕ) (ms : List ℕ) → FallsTo low n ms → last_number n ms ≤ n
falls_below low n [] h = omega arith
falls_below low n (m ∷ ms) h = let a = h.0 in let b = falls_below low m ms h.1 in omega (arith, a, b)

module _ (d : Design) (tree : ℕ → Tree) (t : Trees) (syncs : List Sync) (grays : List GrayReg) (lists : AreLists d tree t syncs grays) (f : Fifo) (k : IsFifo d tree syncs grays f) (s : State) (keeps : Keeps d tree k.write k.read f s) where
  pub room_deep : f.depth ≡ depth_of d k.write
  room_deep = k.deep ∙ ap (λ n. 2 ^ (n - 1)) (sym k.wide.2)

  pub writes : Holds d k.write s.values keeps.numbers.wb keeps.numbers.wg keeps.numbers.there
  writes = write_holds d tree t syncs grays lists f k s.values keeps.numbers.wb keeps.numbers.wg keeps.numbers.there keeps.held.wb keeps.held.wg keeps.held.there

  pub reads : Holds d k.read s.values keeps.numbers.rb keeps.numbers.rg keeps.numbers.back
  reads = read_holds d tree t syncs grays lists f k s.values keeps.numbers.rb keeps.numbers.rg keeps.numbers.back keeps.held.rb keeps.held.rg keeps.held.back

  pub behind : taken_out keeps.numbers ≤ keeps.numbers.rb
  behind = let a = falls_below 0 keeps.numbers.rg keeps.numbers.back keeps.back in let b = keeps.read_code in omega (arith, a, b)

  pub between : keeps.numbers.rb ≤ written keeps.numbers
  between = falls_last keeps.numbers.rb keeps.numbers.wg keeps.numbers.there keeps.there

  pub ahead : written keeps.numbers ≤ keeps.numbers.wb
  ahead = let a = falls_below keeps.numbers.rb keeps.numbers.wg keeps.numbers.there keeps.there in let b = keeps.write_code in omega (arith, a, b)

  pub room : keeps.numbers.wb ≤ taken_out keeps.numbers + depth_of d k.write
  room = subst (λ (n : ℕ). keeps.numbers.wb ≤ taken_out keeps.numbers + n) room_deep keeps.room

  -- what a state keeps of a FIFO, as flips and the order need it
  pub room_of : (rings : List Ring) → Facts d syncs grays rings s → Room d tree k.write k.read s.values
  room_of rings facts = record {
    wb = keeps.numbers.wb;
    rb = keeps.numbers.rb;
    back = taken_out keeps.numbers;
    there = written keeps.numbers;
    write_word = writes.count;
    read_word = reads.count;
    behind = behind;
    between = between;
    ahead = ahead;
    room = room;
    full = λ u test h. subst (λ (n : ℕ). keeps.numbers.wb < taken_out keeps.numbers + n) room_deep
        (full_tells d tree t syncs grays lists f k s.values keeps.numbers.wb (taken_out keeps.numbers) writes.count (facts.coded k.write.reg k.writes.listed)
        (came_back d tree t syncs grays lists f k s.values keeps.numbers.rb keeps.numbers.rg keeps.numbers.back reads) keeps.room keeps.full u test h);
    empty = λ u test h. empty_tells d tree t syncs grays lists f k s.values keeps.numbers.rb (written keeps.numbers) reads.count (facts.coded k.read.reg k.reads.listed)
        (came_there d tree t syncs grays lists f k s.values keeps.numbers.wb keeps.numbers.wg keeps.numbers.there writes) between keeps.empty u test h;
  }
