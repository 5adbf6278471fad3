-- Bits that are loose by the tables of a run are so in the model.
use Rattle.std.proofs.Common.{◌≡◌, ◌∙◌, ℕ, ◌==◌, nat_lt, Bool, true, false, cond, not, ◌&&◌, ◌||◌, List, [], length, replicate, Option, None, refl, sym, ap, ap₂}
use Rattle.std.specs.Prelude.{is_some}
use Rattle.std.proofs.Math.Path.{fun_ext}
use Rattle.std.specs.Bool.{beq}
use Rattle.std.proofs.lemmas.Bool.{and_parts}
use Rattle.cdc_base.specs.declared.bit.Bit.{Bit}
use Rattle.cell_graph.specs.declared.cell.CellId.{CellId}
use Rattle.cell_graph.specs.declared.net.Net.{Net}
use Rattle.cell_graph.specs.Cofactor.{same}
use Rattle.cell_graph.specs.Reading.{Reading, bit_eq}
use Rattle.cell_graph.specs.Values.{AreWordsOf, reading_of}
use Rattle.cofactor.specs.Shown.{Shown}
use Rattle.domains.specs.declared.Domains.{Domains}
use Rattle.domains.specs.Assignment.{clock_of, group_of}
use Rattle.domains.specs.Fit.{Fit}
use Rattle.cdc_model.specs.declared.scheme.Crossing.{Crossing}
use Rattle.cdc_model.specs.Design.{are_async, are_equal, at_bit, differ}
use Rattle.cdc_model.specs.Nets.{next_cell, next_tree, is_within, is_register_bit, clock_of_bit, design_of}
use Rattle.cdc_model.specs.Recorded.{AreSame}
use Rattle.cdc_model.specs.Replay.{has_edge, is_loose}
use Rattle.cdc_model.specs.Runs.{State, ticks}
use Rattle.cdc_model.proofs.NetDesign.{group_is}
use Rattle.settling_sim.specs.declared.cycles.Cycles.{Cycles}
use Rattle.settling_sim.specs.Cycles.{cycles_of}
use Rattle.settling_sim.specs.Design.{take_cells, copied_in, ShowsCopies}
use Rattle.settling_sim.specs.Edges.{mark_in}
use Rattle.settling_sim.specs.Loose.{is_loose_in}
use Rattle.settling_sim.specs.Runs.{HasCells, state_of}
use Rattle.settling_sim.proofs.Faults.{copied-is}
use Rattle.settling_sim.proofs.Ticks.{tick-is}
use Rattle.campaign.specs.Drawn.{is_torn}
use Rattle.campaign.specs.Torn.{is_torn_in}

-- states that are the same at each bit are one
pub one-state : (s t : State) → AreSame s t → s ≡ t
one-state s t same = ap₂ (λ (v : Bit → Bool) (l : Bit → ℕ). let u : State = record { values = v; left = l } in u) (fun_ext same.0) (fun_ext same.1)

and-cond : (a b : Bool) → (a && b) ≡ cond a b false
and-cond true b = refl
and-cond false b = refl

module _ (net : Net) (domains : Domains) (copies : Shown) (cells : List (Option CellId)) (runs : HasCells net) (fit : Fit net domains)
    (cells_are : cells ≡ take_cells net.regs (replicate (length net.graph.signals) None)) (shows : ShowsCopies net copies)
    (words : List ℕ) (cycles : List Cycles) (after : List ℕ) (t : Reading) (are : AreWordsOf net.graph.signals words) (leads : (b : Bit) → reading_of after b ≡ t b) where
  abbrev old : State
  old = state_of words cycles

  pub loose-is : (x b : Bit) → is_register_bit net x ≡ true → is_within net b ≡ true
      → is_loose_in domains (copied_in cells copies) words cycles after x b ≡ is_loose (design_of net domains) old t x b
  loose-is x b h l =
      let within = (and_parts (is_some (next_cell net.regs x.sig)) (is_within net x) h).1 in
      let apart : differ (group_of domains b) (group_of domains x) ≡ are_async (design_of net domains) b x = ap₂ differ (sym (group_is net domains fit b l)) (sym (group_is net domains fit x within)) in
      let changes : not (beq (reading_of words b) (reading_of after b)) ≡ not (beq (reading_of words b) (t b)) = ap (λ v. not (beq (reading_of words b) v)) (leads b) in
      let clocks : are_equal (clock_of domains b) (clock_of domains x) ≡ are_equal (clock_of_bit net domains b) (clock_of_bit net domains x)
      = ap₂ are_equal (ap (λ t. cond t (clock_of domains b) None) (sym l)) (ap (λ t. cond t (clock_of domains x) None) (sym within)) in
      let copies_it : at_bit (copied_in cells copies x) (λ a. bit_eq a b) ≡ at_bit (same [] (next_tree net x.sig) x.at) (λ a. bit_eq a b)
      = ap (λ o. at_bit o (λ a. bit_eq a b)) (copied-is net domains copies cells runs fit cells_are shows words x are h) in
      ap₂ (λ v w. v || w) (ap₂ (λ v w. v && w) apart changes)
      (ap (λ v. nat_lt 0 (cycles_of cycles b) && not v) (ap₂ (λ v w. v && (w && (cycles_of cycles b == 1))) clocks copies_it))

  pub torn-is : (edges : List ℕ) (c : Crossing) → is_register_bit net c.to ≡ true → is_within net c.from ≡ true
      → is_torn_in domains (copied_in cells copies) (mark_in (replicate (length domains.clocks) false) edges) words cycles after c ≡ is_torn (design_of net domains) edges old t c
  torn-is edges c h l =
      let within = (and_parts (is_some (next_cell net.regs c.to.sig)) (is_within net c.to) h).1 in
      ap₂ (λ v w. v && w) (tick-is net domains fit edges c.to within) (loose-is c.to c.from h l)
      ∙ and-cond (ticks (design_of net domains) (has_edge edges) c.to) (is_loose (design_of net domains) old t c.to c.from)
