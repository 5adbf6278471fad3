-- Known next values by a table under a cube, and the ring of a pair.
use Rattle.std.proofs.Common.{◌≡◌, ◌∙◌, refl, sym, ap, subst, arith, ◌<◌, ltb-true, Bool, true, false, cond, Option, Some, None, option_map, is_some, List, [], ◌∷◌, ◌++◌, map, slice_get}
use Rattle.std.specs.Prelude.{option_and_then}
use Rattle.std.specs.Option.{option_map_or}
use Rattle.std.proofs.lemmas.Bool.{and_parts}
use Rattle.std.proofs.lemmas.List.{append-nil}
use Rattle.cdc_base.specs.declared.bit.Bit.{Bit}
use Rattle.cell_graph.specs.declared.cell.CellId.{CellId}
use Rattle.cell_graph.specs.declared.cell.Node.{Node}
use Rattle.cell_graph.specs.declared.net.Net.{Net}
use Rattle.cell_graph.specs.Below.{root}
use Rattle.cell_graph.specs.Cells.{Cells, cell_width}
use Rattle.cell_graph.specs.Cofactor.{known}
use Rattle.cell_graph.specs.Reading.{Cube}
use Rattle.cell_graph.specs.Unfolded.{tree_of}
use Rattle.cofactor.specs.Shown.{Shown, ShowsMasks}
use Rattle.cdc_model.specs.declared.scheme.Ring.{Ring as RingEntry}
use Rattle.cdc_model.specs.Listed.{ring_entry}
use Rattle.cdc_model.specs.Nets.{next_cell, next_tree, tree_or_zero, next_node_of, bit_count, is_within, is_register_bit, HasNextCells}
use Rattle.cdc_model.specs.Schemes.{Sync, Ring}
use Rattle.cdc_model.specs.Tables.{ShowsNext}
use Rattle.cdc_model.proofs.Ascending.{here}
use Rattle.cdc_model.proofs.ReadBits.{no-cell}
use Rattle.handshake.specs.declared.candidates.Pair.{Pair}
use Rattle.handshake.specs.Pairs.{ring_from, turns}
use Rattle.handshake.proofs.Pairs.{ring_is}

-- ---- known next values

-- a bit of a register has a next value
pub has_next : (net : Net) (b : Bit) → is_register_bit net b ≡ true → next_node_of net b ≡ None → ⊥
has_next net b reg none = never (sym (ap is_some (no-cell net b none)) ∙ (and_parts (is_some (next_cell net.regs b.sig)) (is_within net b) reg).0)
  where
    never : false ≡ true → ⊥
    never e = cc

-- what a table shows to be known of a node
abbrev pub IsKnown : Shown → Option Bool → Node → Type 0
IsKnown t o n = (graph : Cells) (cube : Cube) → ShowsMasks graph cube t n.cell → n.at < cell_width graph n.cell → o ≡ known cube (tree_of graph n.cell) n.at

pub known_is : (net : Net) (cube : Cube) (b : Bit) (n : Node) (t : Shown) (o : Option Bool) → HasNextCells net → is_register_bit net b ≡ true → next_node_of net b ≡ Some n
    → ShowsNext net cube t (b ∷ []) → IsKnown t o n → o ≡ known cube (next_tree net b.sig) b.at
known_is net cube b n t o has reg at shows value = go (next_cell net.regs b.sig) refl at
  where
    go : (p : Option CellId) → next_cell net.regs b.sig ≡ p → option_map (λ (c : CellId). let m : Node = record { cell = c; at = b.at } in m) p ≡ Some n → o ≡ known cube (next_tree net b.sig) b.at
    go None e f = cc
    go (Some c) e f =
        let m : Node = record { cell = c; at = b.at } in
        let same : m ≡ n = cc in
        let h = has b.sig c e in
        let l = ltb-true b.at (bit_count net.graph.signals b.sig) (and_parts (is_some (next_cell net.regs b.sig)) (is_within net b) reg).1 in
        let inside : b.at < cell_width net.graph c = omega (arith, h.1, l) in
        subst (IsKnown t o) (sym same) value net.graph cube (shows b c c (here b []) e (root (here c []))).masks inside
        ∙ ap (λ x. known cube x b.at) (sym (ap (tree_or_zero net.graph) e))

-- ---- the ring of a pair

module _ (net : Net) (ss : List Sync) (p : Pair) where
  among : Option Ring → List Ring
  among o = option_map_or (λ (r : Ring). cond (turns net r) (r ∷ []) []) o []

  pub no_ring : (rings : List RingEntry) → ring_from net ss p ≡ [] → rings ≡ rings ++ map ring_entry (ring_from net ss p)
  no_ring rings e = sym (ap (λ xs. rings ++ map ring_entry xs) e ∙ append-nil rings)

  pub none_there : slice_get ss p.there ≡ None → ring_from net ss p ≡ []
  none_there e = ap (λ (o : Option Sync). option_map_or (λ (r : Ring). cond (turns net r) (r ∷ []) [])
      (option_and_then (λ (s : Sync). option_map (λ (b : Sync). let r : Ring = record { there = s; back = b } in r) (slice_get ss p.back)) o) []) e

  pub none_back : slice_get ss p.back ≡ None → ring_from net ss p ≡ []
  none_back e = go (slice_get ss p.there) (slice_get ss p.back) e
    where
      go : (o q : Option Sync) → q ≡ None
          → option_map_or (λ (r : Ring). cond (turns net r) (r ∷ []) []) (option_and_then (λ (s : Sync). option_map (λ (b : Sync). let r : Ring = record { there = s; back = b } in r) q) o) [] ≡ []
      go None q f = refl
      go (Some s) None f = refl
      go (Some s) (Some b) f = cc

  module _ (s b : Sync) (there : slice_get ss p.there ≡ Some s) (back : slice_get ss p.back ≡ Some b) where
    of_both : (v : Bool) → v ≡ turns net (record { there = s; back = b }) → ring_from net ss p ≡ cond v (record { there = s; back = b } ∷ []) []
    of_both v e =
        ap (λ (o : Option Ring). option_map_or (λ (r : Ring). cond (turns net r) (r ∷ []) []) o []) (ring_is ss p.there p.back s b there back)
        ∙ ap (λ w. cond w (record { there = s; back = b } ∷ []) []) (sym e)

    pub not_added : (rings : List RingEntry) (v : Bool) → v ≡ turns net (record { there = s; back = b }) → v ≡ false → rings ≡ rings ++ map ring_entry (ring_from net ss p)
    not_added rings v e f = no_ring rings (of_both v e ∙ ap (λ w. cond w (record { there = s; back = b } ∷ []) []) f)

    pub added : (old new : List RingEntry) (ring : RingEntry) (v : Bool) → v ≡ turns net (record { there = s; back = b }) → v ≡ true → new ≡ old ++ ring ∷ [] → ring ≡ ring_entry (record { there = s; back = b })
        → new ≡ old ++ map ring_entry (ring_from net ss p)
    added old new ring v e f n same =
        n ∙ ap (λ x. old ++ x ∷ []) same ∙ ap (λ xs. old ++ map ring_entry xs) (sym (of_both v e ∙ ap (λ w. cond w (record { there = s; back = b } ∷ []) []) f))
