-- The words of a FIFO at the ends of its crossings.
use Rattle.std.proofs.Common.{◌≡◌, ℕ, ◌<◌, true, false, Some, List, Contains, subst, arith}
use Rattle.std.specs.Prelude.{slice_get}
use Rattle.std.specs.List.{list_any}
use Rattle.std.proofs.lemmas.Bool.{and_parts}
use Rattle.std.proofs.lemmas.List.Folds.{Any-from_list_any}
use Rattle.cdc_base.specs.declared.bit.Bit.{Bit}
use Rattle.cell_graph.specs.Reading.{bit_eq}
use Rattle.cell_graph.specs.Tree.{Tree}
use Rattle.cell_graph.proofs.Bits.{bit_eq-true}
use Rattle.cdc_model.specs.declared.scheme.GrayReg.{GrayReg}
use Rattle.cdc_model.specs.Design.{Design}
use Rattle.cdc_model.specs.Schemes.{Trees, Sync, is_settling}
use Rattle.cdc_model.proofs.Chain.{source_settled}
use Rattle.cdc_model.proofs.Justify.{in_slice}
use Rattle.fifo_laws.specs.Words.{depth_of, IsWordBit, IsWord, Column}
use Rattle.fifo_laws.specs.Fifos.{Fifo, IsOfColumns, IsFrom, IsFifo, is_crossing_between}
use Rattle.fifo_laws.specs.Laws.{AreLists}
use Rattle.fifo_laws.proofs.Cross.{is_column, crosses}

module _ (d : Design) (tree : ℕ → Tree) (t : Trees) (syncs : List Sync) (grays : List GrayReg) (lists : AreLists d tree t syncs grays) (f : Fifo) (k : IsFifo d tree syncs grays f) where
  -- a bit of a column is a word bit
  pub column_word : (c : Column) → Contains f.columns c → (b : Bit) → Contains c.words b → (n : ℕ) × (n < depth_of d k.write) × (slice_get c.words n ≡ Some b) × IsWordBit d tree k.write k.read n c.value b
  column_word c i b j = let is = is_column d tree t syncs grays lists f k c i in
      let e = in_slice c.words b j in
      (j.0, (let a = is.depth in let l = j.1 in omega (arith, a, l)), e, is.words j.0 b e)

  pub of_columns : (b : Bit) → IsOfColumns f.columns b → IsWord d tree k.write k.read b
  of_columns b (c, i, j) = let (n, l, e, w) = column_word c i b j in (n, c.value, l, w)

  -- a word bit at the end of a crossing is no settling flop
  pub word_settled : (b x : Bit) → IsFrom tree f.columns f.readers (record { from = b; to = x }) → is_settling d syncs b ≡ false
  word_settled b x from = source_settled d t lists.trees syncs lists.are_syncs b x (crosses d tree t syncs grays lists f k b x from).0

  -- the listed crossing from b to x
  pub crossing_is : (b x : Bit) → list_any (is_crossing_between b x) f.crossings ≡ true → IsFrom tree f.columns f.readers (record { from = b; to = x })
  crossing_is b x h =
      let (n, c, l, at, p) = Any-from_list_any (is_crossing_between b x) f.crossings h in
      let q = and_parts (bit_eq c.from b) (bit_eq c.to x) p in
      subst (λ (z : Bit). IsFrom tree f.columns f.readers (record { from = b; to = z })) (bit_eq-true c.to x q.1)
      (subst (λ (z : Bit). IsFrom tree f.columns f.readers (record { from = z; to = c.to })) (bit_eq-true c.from b q.0) (k.crossings.only c (n, l, at)))
