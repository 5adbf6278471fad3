-- The words that a step leads to fit their signals.
use Rattle.std.proofs.Common.{◌≡◌, ◌∙◌, ℕ, zero, suc, ◌<◌, ◌^◌, ◌==◌, Bool, true, false, cond, List, [], ◌∷◌, length, set, Contains, Option, Some, None, refl, sym, ap, subst, arith, eqb-true}
use Rattle.std.specs.Prelude.{slice_get, is_some, All}
use Rattle.std.specs.Option.{option_map_or}
use Rattle.std.proofs.lemmas.Bool.{and_parts, eqb-false}
use Rattle.std.proofs.lemmas.List.{length-set}
use Rattle.std.proofs.lemmas.List.Elements.{All-head, All-tail}
use Rattle.std.proofs.lemmas.Option.{slice_get_within}
use Rattle.cdc_base.specs.declared.bit.Bit.{Bit}
use Rattle.cdc_base.specs.declared.signal.Signal.{Signal}
use Rattle.cell_graph.specs.declared.cell.CellId.{CellId}
use Rattle.cell_graph.specs.declared.net.Net.{Net}
use Rattle.cell_graph.specs.declared.net.Reg.{Reg}
use Rattle.cell_graph.specs.Tree as tree
use Rattle.cell_graph.specs.Tree.{bit, width}
use Rattle.cell_graph.specs.Cells.{cell_width}
use Rattle.cell_graph.specs.Unfolded.{trees, tree_of}
use Rattle.cell_graph.specs.Values.{AreWordsOf, word_at, reading_of, tree_value, values_of}
use Rattle.cell_graph.proofs.CellValues.{length-trees}
use Rattle.cell_graph.proofs.Trees.{width-tree_of}
use Rattle.cell_graph.proofs.Words.{number-lt}
use Rattle.domains.specs.declared.Domains.{Domains}
use Rattle.cdc_model.specs.declared.record.Given.{Given}
use Rattle.cdc_model.specs.declared.record.Race.{Race}
use Rattle.cdc_model.specs.Nets.{next_cell, bit_count, is_within}
use Rattle.settling_sim.specs.Reader.{next_with}
use Rattle.settling_sim.specs.Runs.{HasCells, IsInput, IsRace}
use Rattle.settling_sim.specs.Trial.{register_ticks, take_next, take_given, take_races, tried_words}
use Rattle.settling_sim.specs.Words.{put_bit}
use Rattle.settling_sim.proofs.Trials.{next-word, next-length, taken}
use Rattle.settling_sim.proofs.Values.{found-register, put-words, map-get}
use Rattle.settling_sim.proofs.Words.{word-set_same, word-set_other}

-- a word that fits its signal leaves words of their signals
pub set-words : (net : Net) (words : List ℕ) (sig w : ℕ) → AreWordsOf net.graph.signals words → w < 2 ^ bit_count net.graph.signals sig → AreWordsOf net.graph.signals (set words sig w)
set-words net words sig w are h = record {
  counted = length-set words sig w ∙ are.counted;
  fit = λ other s e. go (sig == other) other refl s e;
}
  where
    go : (t : Bool) (other : ℕ) → (sig == other) ≡ t → (s : Signal) → slice_get net.graph.signals other ≡ Some s → word_at (set words sig w) other < 2 ^ s.width
    go true other f s e =
        let same = eqb-true sig other f in
        let there = slice_get_within net.graph.signals sig s (ap (slice_get net.graph.signals) same ∙ e) in
        let fits : w < 2 ^ s.width = subst (λ (o : Option Signal). w < 2 ^ option_map_or (λ (s : Signal). s.width) o 0) (ap (slice_get net.graph.signals) same ∙ e) h in
        subst (λ (i : ℕ). word_at (set words sig w) i < 2 ^ s.width) same
        (subst (λ (n : ℕ). n < 2 ^ s.width) (sym (word-set_same words sig w (omega (arith, there, are.counted)))) fits)
    go false other f s e = subst (λ (n : ℕ). n < 2 ^ s.width) (sym (word-set_other words sig other w (eqb-false sig other f))) (are.fit other s e)

given-words : (net : Net) (domains : Domains) (gs : List Given) (words : List ℕ) → AreWordsOf net.graph.signals words → All (IsInput net domains) gs → AreWordsOf net.graph.signals (take_given gs words)
given-words net domains [] words are all = are
given-words net domains (g ∷ gs) words are all =
    given-words net domains gs (set words g.sig g.value) (set-words net words g.sig g.value are (All-head (IsInput net domains) g gs all).fits) (All-tail (IsInput net domains) g gs all)

race-words : (net : Net) (next : List Bit → Bit → Bool) (rs : List Race) (words : List ℕ) → AreWordsOf net.graph.signals words → All (IsRace net) rs → AreWordsOf net.graph.signals (take_races next rs words)
race-words net next [] words are all = are
race-words net next (r ∷ rs) words are all =
    race-words net next rs (put_bit words r.bit (next r.flip r.bit)) (put-words net words r.bit (next r.flip r.bit) are (and_parts _ _ (All-head (IsRace net) r rs all).bit).1) (All-tail (IsRace net) r rs all)

-- a cell's value has the cell's width
cell-lt : (net : Net) (words : List ℕ) (id : CellId) → id.0 < length net.graph.cells → word_at (values_of net.graph words) id.0 < 2 ^ cell_width net.graph id
cell-lt net words id h =
    let there = length-trees net.graph in
    let less : tree_value (reading_of words) (tree_of net.graph id) < 2 ^ width (tree_of net.graph id) = number-lt (bit (reading_of words) (tree_of net.graph id)) (width (tree_of net.graph id)) in
    let is = map-get (tree_value (reading_of words)) (trees net.graph) id.0 (tree.Const 1 0) (omega arith) in
    subst (λ (n : ℕ). n < 2 ^ cell_width net.graph id) (sym is) (subst (λ (w : ℕ). tree_value (reading_of words) (tree_of net.graph id) < 2 ^ w) (sym (width-tree_of net.graph id)) less)

next-words : (net : Net) (domains : Domains) (ticking : List Bool) (words : List ℕ) → HasCells net → AreWordsOf net.graph.signals words
    → AreWordsOf net.graph.signals (take_next domains ticking (values_of net.graph words) net.regs words)
next-words net domains ticking words runs are = record {
  counted = next-length domains ticking (values_of net.graph words) net.regs words ∙ are.counted;
  fit = λ sig s e.
      let there = slice_get_within net.graph.signals sig s e in
      subst (λ (n : ℕ). n < 2 ^ s.width) (sym (next-word domains ticking (values_of net.graph words) net.regs words sig runs.ascending (omega (arith, there, are.counted))))
      (go sig s e (next_cell net.regs sig) refl);
}
  where
    go : (sig : ℕ) (s : Signal) → slice_get net.graph.signals sig ≡ Some s → (o : Option CellId) → next_cell net.regs sig ≡ o → taken domains ticking (values_of net.graph words) sig (word_at words sig) o < 2 ^ s.width
    go sig s e None f = are.fit sig s e
    go sig s e (Some c) f = pick (register_ticks domains ticking sig)
      where
        r : (q : Reg) × Contains net.regs q × (q.sig ≡ sig) × (next_cell net.regs sig ≡ Some q.next)
        r = found-register net.regs sig (ap is_some f)

        one : (a b : CellId) → Some a ≡ Some b → a ≡ b
        one a b g = cc

        same : r.0.next ≡ c
        same = one r.0.next c (sym r.3 ∙ f)

        wide : cell_width net.graph c ≡ s.width
        wide = ap (cell_width net.graph) (sym same) ∙ (runs.registers r.0 r.1).1 ∙ ap (bit_count net.graph.signals) r.2 ∙ ap (λ o. option_map_or (λ (s : Signal). s.width) o 0) e

        there : c.0 < length net.graph.cells
        there = subst (λ (d : CellId). d.0 < length net.graph.cells) same (runs.registers r.0 r.1).0

        pick : (t : Bool) → cond t (word_at (values_of net.graph words) c.0) (word_at words sig) < 2 ^ s.width
        pick true = subst (λ (w : ℕ). word_at (values_of net.graph words) c.0 < 2 ^ w) wide (cell-lt net words c there)
        pick false = are.fit sig s e

-- after a step words fit their signals
pub tried-fit : (net : Net) (domains : Domains) (ticking : List Bool) (words : List ℕ) (inputs : List Given) (races : List Race) → HasCells net → AreWordsOf net.graph.signals words
    → All (IsInput net domains) inputs → All (IsRace net) races → AreWordsOf net.graph.signals (tried_words net domains ticking words inputs races)
tried-fit net domains ticking words inputs races runs are given raced =
    race-words net (next_with net words) races (take_given inputs (take_next domains ticking (values_of net.graph words) net.regs words))
    (given-words net domains inputs (take_next domains ticking (values_of net.graph words) net.regs words) (next-words net domains ticking words runs are) given) raced
