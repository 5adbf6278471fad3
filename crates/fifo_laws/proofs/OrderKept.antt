-- The order of a FIFO, from what each state of a sound run keeps of it.
use Rattle.std.proofs.Common.{◌≡◌, ℕ, Bool, zero, suc, List, [], ◌∷◌, Contains, map, refl, sym, ap, subst, ◌∙◌, arith}
use Rattle.cell_graph.specs.Tree.{Tree}
use Rattle.cdc_model.specs.declared.scheme.GrayReg.{GrayReg}
use Rattle.cdc_model.specs.Design.{Design, word}
use Rattle.cdc_model.specs.Runs.{State, Trace, Start, Then, now, IsRun}
use Rattle.cdc_model.specs.Schemes.{Trees, Sync, Ring}
use Rattle.fifo_terms.specs.Counts.{binary}
use Rattle.fifo_laws.specs.Sides.{side_width}
use Rattle.fifo_laws.specs.Words.{depth_of}
use Rattle.fifo_laws.specs.Fifos.{Fifo, IsFifo, AreFifos}
use Rattle.fifo_laws.specs.Keeps.{Keeps, KeepsAll}
use Rattle.fifo_laws.specs.Order.{IsWithinDepth, ReadsOldest}
use Rattle.fifo_laws.specs.Laws.{AreLists, FifosStart, FifosStep, FifoOrder, FifoReads, IsSoundRun}
use Rattle.fifo_laws.proofs.FlipRoom.{writes, reads, behind, between, ahead, room, room_of}
use Rattle.fifo_laws.proofs.Order.{Span, is_within, reads_oldest}

only_one : (f g : Fifo) → Contains (f ∷ []) g → f ≡ g
only_one f g (zero, l, e) = e
only_one f g (suc n, l, e) = absurd (omega (arith, l))

module _ (start : FifosStart) (step : FifosStep) (d : Design) (tree : ℕ → Tree) (t : Trees) (syncs : List Sync) (grays : List GrayReg) (rings : List Ring) (f : Fifo)
    (lists : AreLists d tree t syncs grays) (k : IsFifo d tree syncs grays f) where
  is_run : (run : Trace) → IsSoundRun d syncs grays rings run → IsRun d run
  is_run (Start s) h = h
  is_run (Then past edges new) h = (is_run past h.0, h.1)

  one_fifo : AreFifos d tree syncs grays (f ∷ [])
  one_fifo g i = subst (IsFifo d tree syncs grays) (only_one f g i) k

  kept : (run : Trace) → IsSoundRun d syncs grays rings run → KeepsAll d tree syncs grays (f ∷ []) (now run)
  kept (Start s) h = start d tree t syncs grays (f ∷ []) lists one_fifo s h
  kept (Then past edges new) h = step d tree t syncs grays rings (f ∷ []) lists one_fifo past edges new (is_run (Then past edges new) h) (kept past h.0) h.2 h.3 h.4

  keeps_at : (run : Trace) → IsSoundRun d syncs grays rings run → Keeps d tree k.write k.read f (now run)
  keeps_at run h = kept run h f (0, omega arith, refl) k

  span : (s : State) → Keeps d tree k.write k.read f s → Span (side_width d k.write) (depth_of d k.write) (map s.values (word d k.write.reg.count)) (map s.values (word d k.read.reg.count))
  span s keeps = record {
    wb = keeps.numbers.wb;
    rb = keeps.numbers.rb;
    write_word = (writes d tree t syncs grays lists f k s keeps).count;
    read_word = (reads d tree t syncs grays lists f k s keeps).count ∙ ap (λ w. binary w keeps.numbers.rb) (k.wide.3 ∙ sym k.wide.2);
    popped = (let a = between d tree t syncs grays lists f k s keeps in let b = ahead d tree t syncs grays lists f k s keeps in omega (arith, a, b));
    room = (let a = behind d tree t syncs grays lists f k s keeps in let b = room d tree t syncs grays lists f k s keeps in omega (arith, a, b));
  }

  pub order_within : (run : Trace) (h : IsSoundRun d syncs grays rings run) → IsWithinDepth f run
  order_within run h = is_within d tree t syncs grays lists rings f k (λ past i. span (now past) (keeps_at past i)) (λ past i facts. room_of d tree t syncs grays lists f k (now past) (keeps_at past i) rings facts) run h

  pub order_reads : (past : Trace) (edges : ℕ → Bool) (new : State) → IsSoundRun d syncs grays rings (Then past edges new) → ReadsOldest d f past edges new
  order_reads past edges new h = reads_oldest d tree t syncs grays lists rings f k (λ run i. span (now run) (keeps_at run i)) (λ run i facts. room_of d tree t syncs grays lists f k (now run) (keeps_at run i) rings facts) past edges new h

pub fifo_order : FifosStart → FifosStep → FifoOrder
fifo_order start step d tree t syncs grays rings f lists k run h = order_within start step d tree t syncs grays rings f lists k run h

pub fifo_reads : FifosStart → FifosStep → FifoReads
fifo_reads start step d tree t syncs grays rings f lists k past edges new h = order_reads start step d tree t syncs grays rings f lists k past edges new h
