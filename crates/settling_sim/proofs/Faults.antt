-- The refusals of a step are the model's.
use Rattle.std.proofs.Common.{◌≡◌, ◌≢◌, ◌∙◌, ℕ, zero, suc, ◌+◌, ◌<◌, ◌==◌, nat_lt, drop, Bool, true, false, cond, not, ◌&&◌, ◌||◌, List, [], ◌∷◌, length, set, get_or, replicate, Contains, Option, Some, None, refl, sym, ap, ap₂, subst, arith, eqb-true}
use Rattle.std.specs.Prelude.{is_some, unwrap_or, slice_get, All, option_and_then}
use Rattle.std.specs.Bool.{beq}
use Rattle.std.proofs.lemmas.Bool.{and_parts, eqb-false}
use Rattle.std.proofs.lemmas.List.{length-set, get_or-set_same, get_or-set_other, length-replicate, drop_more}
use Rattle.std.proofs.lemmas.List.Elements.{All-head, All-tail}
use Rattle.std.proofs.lemmas.Option.{unwrap_or-slice_get}
use Rattle.cdc_base.specs.declared.bit.Bit.{Bit}
use Rattle.cell_graph.specs.declared.cell.CellId.{CellId}
use Rattle.cell_graph.specs.declared.net.Net.{Net}
use Rattle.cell_graph.specs.declared.net.Reg.{Reg}
use Rattle.cell_graph.specs.Cofactor.{same}
use Rattle.cell_graph.specs.Reading.{Reading, bit_eq}
use Rattle.cell_graph.specs.Values.{AreWordsOf, reading_of}
use Rattle.cofactor.specs.Shown.{Shown, same_at}
use Rattle.domains.specs.declared.Domains.{Domains}
use Rattle.domains.specs.Assignment.{clock_of, group_of}
use Rattle.domains.specs.Fit.{Fit}
use Rattle.cdc_model.specs.declared.record.Given.{Given}
use Rattle.cdc_model.specs.declared.record.Race.{Race}
use Rattle.cdc_model.specs.declared.record.RecordStep.{RecordStep}
use Rattle.cdc_model.specs.Design.{are_async, are_equal, at_bit, differ, group}
use Rattle.cdc_model.specs.Nets.{AreAscending, next_cell, next_tree, tree_or_zero, is_within, is_register_bit, bit_count, clock_of_bit, design_of}
use Rattle.cdc_model.specs.Replay.{StepFault, Unticked, NotLoose, NotOther, or_else, first_fault, unless, on_list, has_edge, is_loose, is_settling_for, input_fault, tick_fault, loose_fault, race_fault, other_fault}
use Rattle.cdc_model.specs.Runs.{State, ticks}
use Rattle.cdc_model.proofs.NetDesign.{group_is}
use Rattle.settling_sim.specs.declared.cycles.Cycles.{Cycles}
use Rattle.settling_sim.specs.Cycles.{cycles_of}
use Rattle.settling_sim.specs.Design.{take_cells, cell_in, copied_in, ShowsCopies}
use Rattle.settling_sim.specs.Edges.{mark_in, is_marked}
use Rattle.settling_sim.specs.Loose.{input_unmarked, race_unmarked, is_settling_in, is_loose_in, list_fault, race_fault_by, same_fault}
use Rattle.settling_sim.specs.Reader.{next_with}
use Rattle.settling_sim.specs.Runs.{HasCells, IsInput, IsRace, IsStepOf, state_of}
use Rattle.settling_sim.proofs.Ticks.{tick-is}
use Rattle.settling_sim.proofs.Trials.{ascending-tail, none-again}
use Rattle.settling_sim.proofs.Values.{HasPlace, place-of, next-of}

-- two tests that agree on each item find one fault
pub first-same : {A : Type 0} (f g : A → Option StepFault) (xs : List A) → All (λ x. f x ≡ g x) xs → first_fault f xs ≡ first_fault g xs
first-same f g [] h = refl
first-same f g (x ∷ xs) h = ap₂ or_else (All-head (λ x. f x ≡ g x) x xs h) (first-same f g xs (All-tail (λ x. f x ≡ g x) x xs h))

-- a fault at a place, behind which none was found, is the first
pub first-stops : {A : Type 0} (f : A → Option StepFault) (xs : List A) (i : ℕ) (x : A) (whole : Option StepFault) (e : StepFault)
    → whole ≡ first_fault f (drop i xs) → i < length xs → get_or xs i x ≡ x → f x ≡ Some e → whole ≡ Some e
first-stops f xs i x whole e rest h is fault =
    rest ∙ ap (first_fault f) (drop_more xs i x h ∙ ap (λ y. y ∷ drop (i + 1) xs) is) ∙ ap (λ o. or_else o (first_fault f (drop (i + 1) xs))) fault

-- and without a fault there it is looked for behind
pub first-goes : {A : Type 0} (f : A → Option StepFault) (xs : List A) (i : ℕ) (x : A) (whole : Option StepFault)
    → whole ≡ first_fault f (drop i xs) → i < length xs → get_or xs i x ≡ x → f x ≡ None → whole ≡ first_fault f (drop (i + 1) xs)
first-goes f xs i x whole rest h is fault =
    rest ∙ ap (first_fault f) (drop_more xs i x h ∙ ap (λ y. y ∷ drop (i + 1) xs) is) ∙ ap (λ o. or_else o (first_fault f (drop (i + 1) xs))) fault

-- ---- the cells of next values, by their signals

abbrev or-cell : Option CellId → Option CellId → Option CellId
or-cell None c = c
or-cell (Some d) c = Some d

cell-get : (cells : List (Option CellId)) (sig : ℕ) → cell_in cells sig ≡ get_or cells sig None
cell-get cells sig = unwrap_or-slice_get cells sig None

cells-taken : (rs : List Reg) (cells : List (Option CellId)) (sig : ℕ) → AreAscending rs → sig < length cells → cell_in (take_cells rs cells) sig ≡ or-cell (next_cell rs sig) (cell_in cells sig)
cells-taken [] cells sig h l = refl
cells-taken (r ∷ rs) cells sig h l =
    cells-taken rs (set cells r.sig (Some r.next)) sig (ascending-tail r rs h) (let n = length-set cells r.sig (Some r.next) in omega arith) ∙ go (r.sig == sig) refl
  where
    go : (t : Bool) → (r.sig == sig) ≡ t → or-cell (next_cell rs sig) (cell_in (set cells r.sig (Some r.next)) sig) ≡ or-cell (cond t (Some r.next) (next_cell rs sig)) (cell_in cells sig)
    go true e =
        let at = eqb-true r.sig sig e in
        ap (λ o. or-cell o (cell_in (set cells r.sig (Some r.next)) sig)) (subst (λ (k : ℕ). next_cell rs k ≡ None) at (none-again r rs h))
        ∙ cell-get (set cells r.sig (Some r.next)) sig ∙ subst (λ (k : ℕ). get_or (set cells r.sig (Some r.next)) k None ≡ Some r.next) at (get_or-set_same cells r.sig (Some r.next) None (omega arith))
    go false e = ap (or-cell (next_cell rs sig))
        (cell-get (set cells r.sig (Some r.next)) sig ∙ get_or-set_other cells r.sig sig (Some r.next) None (λ f. eqb-false r.sig sig e (sym f)) ∙ sym (cell-get cells sig))

module _ (net : Net) (domains : Domains) (copies : Shown) (cells : List (Option CellId)) (runs : HasCells net) (fit : Fit net domains)
    (cells_are : cells ≡ take_cells net.regs (replicate (length net.graph.signals) None)) (shows : ShowsCopies net copies) where
  -- the table shows the bit that a register bit copies
  pub copied-is : (words : List ℕ) (x : Bit) → AreWordsOf net.graph.signals words → is_register_bit net x ≡ true → copied_in cells copies x ≡ same [] (next_tree net x.sig) x.at
  copied-is words x are h =
      let n = next-of net x runs h in
      let place = place-of net words x runs are.counted (and_parts (is_some (next_cell net.regs x.sig)) (is_within net x) h).1 in
      let there : x.sig < length (replicate (length net.graph.signals) None) = (let l : length (replicate (length net.graph.signals) (let n : Option CellId = None in n)) ≡ length net.graph.signals = length-replicate (length net.graph.signals) None in omega (arith, place.0, are.counted)) in
      let found : cell_in cells x.sig ≡ Some n.cell
      = ap (λ cs. cell_in cs x.sig) cells_are ∙ cells-taken net.regs (replicate (length net.graph.signals) None) x.sig runs.ascending there
      ∙ ap (λ o. or-cell o (cell_in (replicate (length net.graph.signals) None) x.sig)) n.is in
      ap (option_and_then (λ (c : CellId). same_at copies c x.at)) found ∙ shows n.cell n.there x.at n.within ∙ ap (λ o. same [] (tree_or_zero net.graph o) x.at) (sym n.is)

  module _ (words : List ℕ) (cycles : List Cycles) (after : List ℕ) (t : Reading) (are : AreWordsOf net.graph.signals words) (leads : (b : Bit) → reading_of after b ≡ t b) where
    abbrev old : State
    old = state_of words cycles

    -- a bit is loose by the tables exactly where it is in the model
    loose-is : (x b : Bit) → is_register_bit net x ≡ true → is_within net b ≡ true
        → is_loose_in domains (copied_in cells copies) words cycles after x b ≡ is_loose (design_of net domains) old t x b
    loose-is x b h l =
        let within = (and_parts (is_some (next_cell net.regs x.sig)) (is_within net x) h).1 in
        let apart : differ (group_of domains b) (group_of domains x) ≡ are_async (design_of net domains) b x = ap₂ differ (sym (group_is net domains fit b l)) (sym (group_is net domains fit x within)) in
        let changes : not (beq (reading_of words b) (reading_of after b)) ≡ not (beq (reading_of words b) (t b)) = ap (λ v. not (beq (reading_of words b) v)) (leads b) in
        let clocks : are_equal (clock_of domains b) (clock_of domains x) ≡ are_equal (clock_of_bit net domains b) (clock_of_bit net domains x)
        = ap₂ are_equal (ap (λ t. cond t (clock_of domains b) None) (sym l)) (ap (λ t. cond t (clock_of domains x) None) (sym within)) in
        let copies_it : at_bit (copied_in cells copies x) (λ a. bit_eq a b) ≡ at_bit (same [] (next_tree net x.sig) x.at) (λ a. bit_eq a b) = ap (λ o. at_bit o (λ a. bit_eq a b)) (copied-is words x are h) in
        ap₂ (λ v w. v || w) (ap₂ (λ v w. v && w) apart changes)
        (ap (λ v. nat_lt 0 (cycles_of cycles b) && not v) (ap₂ (λ v w. v && (w && (cycles_of cycles b == 1))) clocks copies_it))

    list-is : (x : Bit) (bs : List Bit) → is_register_bit net x ≡ true → All (λ (b : Bit). is_within net b ≡ true) bs
        → list_fault (is_loose_in domains (copied_in cells copies) words cycles after) x bs ≡ loose_fault (design_of net domains) old t x bs
    list-is x bs h all = first-same (λ b. unless (is_loose_in domains (copied_in cells copies) words cycles after x b) (NotLoose x b)) (λ b. unless (is_loose (design_of net domains) old t x b) (NotLoose x b)) bs
        (λ i d l. ap (λ v. unless v (NotLoose x (get_or bs i d))) (loose-is x (get_or bs i d) h (all i d l)))

    race-is : (r : Race) → IsRace net r → race_fault_by (is_loose_in domains (copied_in cells copies) words cycles after) r ≡ race_fault (design_of net domains) old t r
    race-is r race = ap₂ or_else (list-is r.bit r.flip race.bit race.flips) (go r.other race.others)
      where
        go : (o : Option (List Bit)) → ((bs : List Bit) → o ≡ Some bs → All (λ b. is_within net b ≡ true) bs)
            → on_list o (λ bs. list_fault (is_loose_in domains (copied_in cells copies) words cycles after) r.bit bs) ≡ on_list o (λ bs. loose_fault (design_of net domains) old t r.bit bs)
        go None h = refl
        go (Some bs) h = list-is r.bit bs race.bit (h bs refl)

    other-is : (r : Race) → same_fault (next_with net words) after r ≡ other_fault (design_of net domains) old t r
    other-is r = go r.other
      where
        go : (o : Option (List Bit)) → on_list o (λ bs. unless (not (beq (next_with net words bs r.bit) (reading_of after r.bit))) (NotOther r.bit))
            ≡ on_list o (λ bs. unless (not (beq (next_with net words bs r.bit) (t r.bit))) (NotOther r.bit))
        go None = refl
        go (Some bs) = ap (λ v. unless (not (beq (next_with net words bs r.bit) v)) (NotOther r.bit)) (leads r.bit)

    pub races-are : (rs : List Race) → All (IsRace net) rs
        → first_fault (race_fault_by (is_loose_in domains (copied_in cells copies) words cycles after)) rs ≡ first_fault (race_fault (design_of net domains) old t) rs
    races-are rs all = first-same (race_fault_by (is_loose_in domains (copied_in cells copies) words cycles after)) (race_fault (design_of net domains) old t) rs (λ i d l. race-is (get_or rs i d) (all i d l))

    pub others-are : (rs : List Race) → first_fault (same_fault (next_with net words) after) rs ≡ first_fault (other_fault (design_of net domains) old t) rs
    others-are rs = first-same (same_fault (next_with net words) after) (other_fault (design_of net domains) old t) rs (λ i d l. other-is (get_or rs i d))

-- ---- clocks that don't tick

module _ (net : Net) (domains : Domains) (fit : Fit net domains) (k : RecordStep) where
  pub inputs-unticked : All (λ (g : Given). is_within net (record { sig = g.sig; at = 0 }) ≡ true) k.inputs
      → first_fault (input_unmarked domains (mark_in (replicate (length domains.clocks) false) k.edges)) k.inputs ≡ first_fault (input_fault (design_of net domains) k) k.inputs
  inputs-unticked all = first-same (input_unmarked domains (mark_in (replicate (length domains.clocks) false) k.edges)) (input_fault (design_of net domains) k) k.inputs
      (λ i d l. let b : Bit = record { sig = (get_or k.inputs i d).sig; at = 0 } in ap (λ v. unless v (Unticked b)) (tick-is net domains fit k.edges b (all i d l)))

  pub races-unticked : All (IsRace net) k.races
      → first_fault (race_unmarked domains (mark_in (replicate (length domains.clocks) false) k.edges)) k.races ≡ first_fault (tick_fault (design_of net domains) k) k.races
  races-unticked all = first-same (race_unmarked domains (mark_in (replicate (length domains.clocks) false) k.edges)) (tick_fault (design_of net domains) k) k.races
      (λ i d l. let b : Bit = (get_or k.races i d).bit in ap (λ v. unless v (Unticked b)) (tick-is net domains fit k.edges b (and_parts _ _ (all i d l).bit).1))
