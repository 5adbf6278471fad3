-- A calm and whole step keeps each FIFO.
use Rattle.std.proofs.Common.{◌≡◌, ◌≢◌, ℕ, ◌+◌, ◌-◌, ◌^◌, ◌<◌, ◌≤◌, Bool, true, false, cond, Some, List, map, ◌⊎◌, refl, sym, ap, ◌∙◌, arith}
use Rattle.std.specs.Prelude.{⊤}
use Rattle.cdc_base.specs.declared.bit.Bit.{Bit}
use Rattle.cell_graph.specs.Tree.{Tree, bit}
use Rattle.cdc_model.specs.declared.scheme.GrayReg.{GrayReg}
use Rattle.cdc_model.specs.Design.{Design}
use Rattle.cdc_model.specs.Facts.{Facts, AllCalm, IsWhole, TakeWord}
use Rattle.cdc_model.specs.Gray.{gray_code}
use Rattle.cdc_model.specs.Runs.{State, Trace, Then, now, IsStep, around}
use Rattle.cdc_model.specs.Schemes.{Trees, Sync, Ring, last_flop}
use Rattle.fifo_terms.specs.Counts.{binary}
use Rattle.fifo_terms.specs.Terms.{all_hold}
use Rattle.fifo_terms.proofs.Same.{each_holds}
use Rattle.fifo_laws.specs.Fifos.{Fifo, IsFifo, AreFifos}
use Rattle.fifo_laws.specs.Keeps.{Keeps, KeepsAll, last_number, written, taken_out}
use Rattle.fifo_laws.specs.Laws.{AreLists}
use Rattle.fifo_laws.specs.Sides.{Side, side_width}
use Rattle.fifo_laws.specs.Tests.{IsFlag, IsFullFlag, IsEmptyFlag}
use Rattle.fifo_terms.specs.Shows.{full_apart, empty_apart}
use Rattle.fifo_laws.proofs.Pairs.{write_wide, read_wide, write_holds, read_holds, are_held, came_there, came_back, full_tells, empty_tells}
use Rattle.fifo_laws.proofs.Rounds.{falls_last, falls_low}
use Rattle.fifo_laws.proofs.Sides.{free_settled}
use Rattle.fifo_laws.proofs.StepSide.{Holds, Moved, side_moved, ticked, waited}
use Rattle.fifo_laws.proofs.Tell.{counted, flag_full, flag_empty}

-- the next number is at most the limit, where it rises only below it
within : (e v : Bool) (n limit : ℕ) → n ≤ limit → (v ≡ true → n < limit) → cond e (counted v n) n ≤ limit
within true true n limit l h = let k : n < limit = h refl in omega (arith, k)
within true false n limit l h = l
within false v n limit l h = l

module _ (d : Design) (tree : ℕ → Tree) (t : Trees) (syncs : List Sync) (grays : List GrayReg) (rings : List Ring) (lists : AreLists d tree t syncs grays)
    (past : Trace) (edges : ℕ → Bool) (new : State) (step : IsStep d edges (now past) new) (facts : Facts d syncs grays rings (now past))
    (calm : AllCalm d syncs edges (now past) new (λ x. ⊤)) (whole : IsWhole d syncs (Then past edges new)) where
  -- the first flops on a clock whose flops settle in one cycle take a word as it was before or after the step
  whole_at : (c sig : ℕ) → d.settle c ≡ 1 → edges c ≡ true → TakeWord d syncs c sig 0 new.values (now past).values ⊎ TakeWord d syncs c sig 0 new.values new.values
  whole_at c sig one e = whole c sig 0 (now past) new (omega (arith, one)) (ap (λ v. cond v (Some (now past, new)) (around c 0 past)) e)

  module _ (f : Fifo) (fifo : IsFifo d tree syncs grays f) (keeps : Keeps d tree fifo.write fifo.read f (now past)) where
    writes : Holds d fifo.write (now past).values keeps.numbers.wb keeps.numbers.wg keeps.numbers.there
    writes = write_holds d tree t syncs grays lists f fifo (now past).values keeps.numbers.wb keeps.numbers.wg keeps.numbers.there keeps.held.wb keeps.held.wg keeps.held.there

    reads : Holds d fifo.read (now past).values keeps.numbers.rb keeps.numbers.rg keeps.numbers.back
    reads = read_holds d tree t syncs grays lists f fifo (now past).values keeps.numbers.rb keeps.numbers.rg keeps.numbers.back keeps.held.rb keeps.held.rg keeps.held.back

    came_w : map (now past).values (map last_flop fifo.write.over) ≡ gray_code (binary (side_width d fifo.read) (written keeps.numbers))
    came_w = came_there d tree t syncs grays lists f fifo (now past).values keeps.numbers.wb keeps.numbers.wg keeps.numbers.there writes

    came_r : map (now past).values (map last_flop fifo.read.over) ≡ gray_code (binary (side_width d fifo.write) (taken_out keeps.numbers))
    came_r = came_back d tree t syncs grays lists f fifo (now past).values keeps.numbers.rb keeps.numbers.rg keeps.numbers.back reads

    read_room : keeps.numbers.rb ≤ written keeps.numbers
    read_room = falls_last keeps.numbers.rb keeps.numbers.wg keeps.numbers.there keeps.there

    -- a push has room, and a pop finds a word
    push_room : all_hold (now past).values fifo.write.under ≡ true → keeps.numbers.wb < taken_out keeps.numbers + f.depth
    push_room h = full_tells d tree t syncs grays lists f fifo (now past).values keeps.numbers.wb (taken_out keeps.numbers) writes.count (facts.coded fifo.write.reg fifo.writes.listed) came_r keeps.room keeps.full
        fifo.pushes.0 fifo.pushes.2 (each_holds (now past).values fifo.write.under fifo.pushes.0 h fifo.pushes.1)

    pop_room : all_hold (now past).values fifo.read.under ≡ true → keeps.numbers.rb < written keeps.numbers
    pop_room h = empty_tells d tree t syncs grays lists f fifo (now past).values keeps.numbers.rb (written keeps.numbers) reads.count (facts.coded fifo.read.reg fifo.reads.listed) came_w read_room keeps.empty
        fifo.pops.0 fifo.pops.2 (each_holds (now past).values fifo.read.under fifo.pops.0 h fifo.pops.1)

    -- the counts after the step
    abbrev wb : ℕ
    wb = cond (edges fifo.write.clock) (counted (all_hold (now past).values fifo.write.under) keeps.numbers.wb) keeps.numbers.wb

    abbrev rb : ℕ
    rb = cond (edges fifo.read.clock) (counted (all_hold (now past).values fifo.read.under) keeps.numbers.rb) keeps.numbers.rb

    wb_within : wb ≤ taken_out keeps.numbers + f.depth
    wb_within = within (edges fifo.write.clock) (all_hold (now past).values fifo.write.under) keeps.numbers.wb (taken_out keeps.numbers + f.depth) keeps.room push_room

    rb_within : rb ≤ written keeps.numbers
    rb_within = within (edges fifo.read.clock) (all_hold (now past).values fifo.read.under) keeps.numbers.rb (written keeps.numbers) read_room pop_room

    write_moved : Moved d fifo.write new.values wb keeps.numbers.wg keeps.numbers.there
    write_moved = side_moved d tree t syncs grays lists edges (now past) new step facts.settled calm fifo.read.clock fifo.write fifo.writes fifo.settles.1 (whole_at fifo.read.clock fifo.write.reg.gray fifo.settles.1)
        keeps.numbers.wb keeps.numbers.wg keeps.numbers.there keeps.write_code writes

    read_moved : Moved d fifo.read new.values rb keeps.numbers.rg keeps.numbers.back
    read_moved = side_moved d tree t syncs grays lists edges (now past) new step facts.settled calm fifo.write.clock fifo.read fifo.reads fifo.settles.0 (whole_at fifo.write.clock fifo.read.reg.gray fifo.settles.0)
        keeps.numbers.rb keeps.numbers.rg keeps.numbers.back keeps.read_code reads

    last_read : taken_out keeps.numbers ≤ last_number read_moved.code read_moved.flops
    last_read = read_moved.last 0 keeps.back

    last_written : written keeps.numbers ≤ last_number write_moved.code write_moved.flops
    last_written = write_moved.last keeps.numbers.rb keeps.there

    -- a flag takes its next value, or stays
    flag_next : (near far : Side) (apart : ℕ → ℕ → Bool) (b : Bit) (u : Bool) → IsFlag d tree near far apart b u → edges near.clock ≡ true → bit (now past).values (tree b.sig) b.at ≡ new.values b
    flag_next near far apart b u flag e = sym (lists.next.next (now past).values b flag.register)
        ∙ sym (ticked d tree t syncs grays lists edges (now past) new step facts.settled calm near.clock b e flag.register flag.clock
        (free_settled d t lists.trees syncs lists.are_syncs near.clock b flag.register flag.clock flag.own))

    full_after : (b : Bit) (u : Bool) → IsFullFlag d tree fifo.write fifo.read b u → new.values b ≡ u → wb < taken_out keeps.numbers + f.depth
    full_after b u flag h = go (edges fifo.write.clock) refl
      where
        go : (v : Bool) → edges fifo.write.clock ≡ v → cond v (counted (all_hold (now past).values fifo.write.under) keeps.numbers.wb) keeps.numbers.wb < taken_out keeps.numbers + f.depth
        go false e = keeps.full b u flag (sym (waited d tree t syncs grays lists edges (now past) new step facts.settled calm fifo.write.clock b e flag.register flag.clock) ∙ h)
        go true e =
            let ne : counted (all_hold (now past).values fifo.write.under) keeps.numbers.wb ≢ taken_out keeps.numbers + 2 ^ (f.width - 1) =
            flag_full d tree t syncs grays lists fifo.read.clock fifo.write fifo.writes (now past).values fifo.read (f.width - 1) keeps.numbers.wb (taken_out keeps.numbers)
            (write_wide d tree t syncs grays lists f fifo) writes.count (facts.coded fifo.write.reg fifo.writes.listed) came_r (tree b.sig) b.at u flag.shows
            (flag_next fifo.write fifo.read full_apart b u flag e ∙ h) in
            let l : counted (all_hold (now past).values fifo.write.under) keeps.numbers.wb ≤ taken_out keeps.numbers + f.depth =
            within true (all_hold (now past).values fifo.write.under) keeps.numbers.wb (taken_out keeps.numbers + f.depth) keeps.room push_room in
            omega (arith, ne, l, fifo.deep)

    empty_after : (b : Bit) (u : Bool) → IsEmptyFlag d tree fifo.write fifo.read b u → new.values b ≡ u → rb < written keeps.numbers
    empty_after b u (flag, starts) h = go (edges fifo.read.clock) refl
      where
        go : (v : Bool) → edges fifo.read.clock ≡ v → cond v (counted (all_hold (now past).values fifo.read.under) keeps.numbers.rb) keeps.numbers.rb < written keeps.numbers
        go false e = keeps.empty b u (flag, starts) (sym (waited d tree t syncs grays lists edges (now past) new step facts.settled calm fifo.read.clock b e flag.register flag.clock) ∙ h)
        go true e =
            let ne : counted (all_hold (now past).values fifo.read.under) keeps.numbers.rb ≢ written keeps.numbers =
            flag_empty d tree t syncs grays lists fifo.write.clock fifo.read fifo.reads (now past).values fifo.write (f.width - 1) keeps.numbers.rb (written keeps.numbers)
            (read_wide d tree t syncs grays lists f fifo) reads.count (facts.coded fifo.read.reg fifo.reads.listed) came_w (tree b.sig) b.at u flag.shows
            (flag_next fifo.read fifo.write empty_apart b u flag e ∙ h) in
            let l : counted (all_hold (now past).values fifo.read.under) keeps.numbers.rb ≤ written keeps.numbers =
            within true (all_hold (now past).values fifo.read.under) keeps.numbers.rb (written keeps.numbers) read_room pop_room in
            omega (arith, ne, l)

    pub kept : Keeps d tree fifo.write fifo.read f new
    kept = record {
      numbers = record { wb = wb; wg = write_moved.code; there = write_moved.flops; rb = rb; rg = read_moved.code; back = read_moved.flops };
      held = are_held d tree t syncs grays lists f fifo new.values wb write_moved.code rb read_moved.code write_moved.flops read_moved.flops write_moved.holds read_moved.holds;
      write_code = write_moved.below;
      there = write_moved.falls rb (falls_low keeps.numbers.rb rb keeps.numbers.wg keeps.numbers.there keeps.there rb_within);
      read_code = read_moved.below;
      back = read_moved.falls 0 keeps.back;
      room = omega (arith, wb_within, last_read);
      full = λ b u flag h. let l : wb < taken_out keeps.numbers + f.depth = full_after b u flag h in omega (arith, l, last_read);
      empty = λ b u flag h. let l : rb < written keeps.numbers = empty_after b u flag h in omega (arith, l, last_written);
    }

  pub all_kept : (fifos : List Fifo) → AreFifos d tree syncs grays fifos → KeepsAll d tree syncs grays fifos (now past) → KeepsAll d tree syncs grays fifos new
  all_kept fifos are keeps f i k = kept f k (keeps f i k)
