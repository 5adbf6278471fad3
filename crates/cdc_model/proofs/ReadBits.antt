-- The list of the bits that a register bit reads, and of its crossings.
use Rattle.std.proofs.Common.{◌≡◌, ◌∙◌, inl, inr, refl, sym, ap, ap₂, subst, arith, ℕ, ◌<◌, length, Bool, true, false, ◌&&◌, cond, lt-ltb, Option, Some, None, option_map, List, [], ◌∷◌, map, Contains, ◌↔◌, Result, Ok, Err}
use Rattle.std.specs.Prelude.{filter, IfOk}
use Rattle.cdc_base.specs.declared.bit.Bit.{Bit}
use Rattle.cell_graph.specs.declared.cell.CellId.{CellId}
use Rattle.cell_graph.specs.declared.cell.Node.{Node}
use Rattle.cell_graph.specs.declared.net.Net.{Net}
use Rattle.cell_graph.specs.Below.{IsBelow}
use Rattle.cell_graph.specs.Cofactor.{same, reads}
use Rattle.cell_graph.specs.Reading.{Cube}
use Rattle.cell_graph.specs.Unfolded.{tree_of, IsNodeOf}
use Rattle.cell_graph.proofs.Cones.{below-within}
use Rattle.cofactor.specs.Order as order
use Rattle.cofactor.specs.Shown.{Shown, Shows, same_at}
use Rattle.cofactor.proofs.Places.{root-within}
use Rattle.cofactor.proofs.SameRows.{same-shown}
use Rattle.cofactor.proofs.Walks.{and-true, both-true}
use Rattle.domains.specs.declared.Domains.{Domains}
use Rattle.domains.specs.Assignment.{group_of}
use Rattle.domains.specs.Fit.{Fit}
use Rattle.domains.specs.Nets.{IsNet}
use Rattle.cdc_model.specs.declared.scheme.Crossing.{Crossing}
use Rattle.cdc_model.specs.Design.{are_async, differ}
use Rattle.cdc_model.specs.Found.{bits_of_signals, bits_read_by, crossings_into, crossings_from}
use Rattle.cdc_model.specs.Nets.{next_cell, next_node_of, next_tree, tree_or_zero, bit_count, design_of, HasNextCells}
use Rattle.cdc_model.specs.Ordered.{is_before, IsAll}
use Rattle.cdc_model.specs.Tables.{ShowsNet}
use Rattle.cdc_model.proofs.Ascending.{here, later, in_filter, from_filter, ascending, filtered_ascend, less_before, same_before}
use Rattle.cdc_model.proofs.Found.{by_bit, signals_ascend, in_signals, counted}
use Rattle.cdc_model.proofs.NetDesign.{group_is}
use Rattle.cdc_model.proofs.Ordered.{one_list}
use Rattle.cdc_model.proofs.Within.{reads_within}

-- tests that agree on a list leave the same of it
pub filter-same : {A : Type 0} (p q : A → Bool) (xs : List A) → ((x : A) → Contains xs x → p x ≡ q x) → filter p xs ≡ filter q xs
filter-same p q [] h = refl
filter-same p q (x ∷ xs) h = ap₂ (λ (v : Bool) ys. cond v (x ∷ ys) ys) (h x (here x xs)) (filter-same p q xs (λ y i. h y (later x xs y i)))

-- a test that fails throughout leaves nothing
pub filter-none : {A : Type 0} (p : A → Bool) (xs : List A) → ((x : A) → Contains xs x → p x ≡ false) → filter p xs ≡ []
filter-none p [] h = refl
filter-none p (x ∷ xs) h = ap (λ (v : Bool). cond v (x ∷ filter p xs) (filter p xs)) (h x (here x xs)) ∙ filter-none p xs (λ y i. h y (later x xs y i))

before-is : (a b : Bit) → order.IsBefore a b → is_before (by_bit a) (by_bit b) ≡ true
before-is a b (inl l) = less_before a.sig b.sig (a.at ∷ []) (b.at ∷ []) l
before-is a b (inr e) = same_before a.sig b.sig (a.at ∷ []) (b.at ∷ []) e.0 (less_before a.at b.at [] [] e.1)

-- the cell and the place of a next value's node
pub cell-of : (net : Net) (x : Bit) (n : Node) → next_node_of net x ≡ Some n → next_cell net.regs x.sig ≡ Some n.cell
cell-of net x n h = go (next_cell net.regs x.sig) h
  where
    go : (o : Option CellId) → option_map (λ (c : CellId). let m : Node = record { cell = c; at = x.at } in m) o ≡ Some n → o ≡ Some n.cell
    go None e = cc
    go (Some c) e = cc

pub place-of : (net : Net) (x : Bit) (n : Node) → next_node_of net x ≡ Some n → n.at ≡ x.at
place-of net x n h = go (next_cell net.regs x.sig) h
  where
    go : (o : Option CellId) → option_map (λ (c : CellId). let m : Node = record { cell = c; at = x.at } in m) o ≡ Some n → n.at ≡ x.at
    go None e = cc
    go (Some c) e = cc

pub no-cell : (net : Net) (x : Bit) → next_node_of net x ≡ None → next_cell net.regs x.sig ≡ None
no-cell net x h = go (next_cell net.regs x.sig) h
  where
    go : (o : Option CellId) → option_map (λ (c : CellId). let m : Node = record { cell = c; at = x.at } in m) o ≡ None → o ≡ None
    go None e = refl
    go (Some c) e = cc

-- a next value's node is one of the graph
pub node-is : (net : Net) → HasNextCells net → (x : Bit) → x.at < bit_count net.graph.signals x.sig → (c : CellId) → next_cell net.regs x.sig ≡ Some c
    → IsNodeOf net.graph (record { cell = c; at = x.at })
node-is net has x l c e = let h = has x.sig c e in (h.0, omega (arith, h.1, l))

module _ (net : Net) (is : IsNet net) (has : HasNextCells net) (cube : Cube) (x : Bit) (l : x.at < bit_count net.graph.signals x.sig) (c : CellId) (e : next_cell net.regs x.sig ≡ Some c) where
  reads_x : Bit → Bool
  reads_x b = reads cube (next_tree net x.sig) x.at b

  tree-is : next_tree net x.sig ≡ tree_of net.graph c
  tree-is = ap (tree_or_zero net.graph) e

  -- what the bit reads lies in its signal
  pub read-within : (b : Bit) → reads cube (next_tree net x.sig) x.at b ≡ true → b.at < bit_count net.graph.signals b.sig
  read-within b h =
      let n = node-is net has x l c e in
      reads_within net.graph is.graph cube c x.at b n.0 n.1 (sym (ap (λ t. reads cube t x.at b) tree-is) ∙ h)

  -- the list of what the bit reads has exactly that
  pub listed : IsAll (λ b. reads cube (next_tree net x.sig) x.at b ≡ true) by_bit (bits_read_by net cube x)
  listed = record {
    all = λ b h.
        let w = counted net.graph.signals b.sig b.at (read-within b h) in
        in_filter (λ b. reads cube (next_tree net x.sig) x.at b) (bits_of_signals 0 net.graph.signals) b (in_signals b 0 b.sig net.graph.signals w.0 w.1 (omega arith) w.2) h;
    only = λ b i. (from_filter (λ b. reads cube (next_tree net x.sig) x.at b) (bits_of_signals 0 net.graph.signals) b i).1;
    ordered = ascending by_bit (bits_read_by net cube x) (filtered_ascend by_bit (λ b. reads cube (next_tree net x.sig) x.at b) (bits_of_signals 0 net.graph.signals) (signals_ascend 0 net.graph.signals));
  }

  -- an ascending list that has exactly the bits that the node reads is the list of them
  pub bits-are : (bits : List Bit) → order.AreAscending bits → ((b : Bit) → Contains bits b ↔ (reads cube (tree_of net.graph c) x.at b ≡ true)) → bits ≡ bits_read_by net cube x
  bits-are bits asc h = one_list by_bit (λ b. reads cube (next_tree net x.sig) x.at b ≡ true) bits (bits_read_by net cube x)
      (record {
        all = λ b r. (h b).1 (sym (ap (λ t. reads cube t x.at b) tree-is) ∙ r);
        only = λ b i. ap (λ t. reads cube t x.at b) tree-is ∙ (h b).0 i;
        ordered = λ i j a b k f g. before-is a b (asc i j a b k f g);
      })
      listed

  -- the same of those that a test chooses
  chosen : (s : Bit → Bool) → IsAll (λ b. (s b && reads cube (next_tree net x.sig) x.at b) ≡ true) by_bit (filter s (bits_read_by net cube x))
  chosen s = record {
    all = λ b h.
        let p = and-true (s b) (reads cube (next_tree net x.sig) x.at b) h in
        in_filter s (bits_read_by net cube x) b (listed.all b p.1) p.0;
    only = λ b i.
        let p = from_filter s (bits_read_by net cube x) b i in
        both-true (s b) (reads cube (next_tree net x.sig) x.at b) p.1 (listed.only b p.0);
    ordered = ascending by_bit (filter s (bits_read_by net cube x)) (filtered_ascend by_bit s (bits_read_by net cube x)
        (filtered_ascend by_bit (λ b. reads cube (next_tree net x.sig) x.at b) (bits_of_signals 0 net.graph.signals) (signals_ascend 0 net.graph.signals)));
  }

  pub chosen-are : (s : Bit → Bool) (bits : List Bit) → order.AreAscending bits → ((b : Bit) → Contains bits b ↔ ((s b && reads cube (tree_of net.graph c) x.at b) ≡ true))
      → bits ≡ filter s (bits_read_by net cube x)
  chosen-are s bits asc h = one_list by_bit (λ b. (s b && reads cube (next_tree net x.sig) x.at b) ≡ true) bits (filter s (bits_read_by net cube x))
      (record {
        all = λ b r. (h b).1 (sym (ap (λ t. s b && reads cube t x.at b) tree-is) ∙ r);
        only = λ b i. ap (λ t. s b && reads cube t x.at b) tree-is ∙ (h b).0 i;
        ordered = λ i j a b k f g. before-is a b (asc i j a b k f g);
      })
      (chosen s)

  -- each bit of the list is read
  pub read-in : (b : Bit) → Contains (bits_read_by net cube x) b → reads cube (next_tree net x.sig) x.at b ≡ true
  read-in b i = listed.only b i

module _ (net : Net) (is : IsNet net) (has : HasNextCells net) (domains : Domains) (fit : Fit net domains) (x : Bit) (l : x.at < bit_count net.graph.signals x.sig) (c : CellId)
    (e : next_cell net.regs x.sig ≡ Some c) where
  groups-are : (b : Bit) → Contains (bits_read_by net [] x) b → differ (group_of domains b) (group_of domains x) ≡ are_async (design_of net domains) b x
  groups-are b i =
      let w = read-within net is has [] x l c e b (read-in net is has [] x l c e b i) in
      sym (ap₂ differ (group_is net domains fit b (lt-ltb b.at (bit_count net.graph.signals b.sig) w)) (group_is net domains fit x (lt-ltb x.at (bit_count net.graph.signals x.sig) l)))

  -- the crossings into the bit, from all bits that it reads
  pub into-is : crossings_from domains x (bits_read_by net [] x) ≡ crossings_into net domains x
  into-is = ap (map (λ (b : Bit). let k : Crossing = record { from = b; to = x } in k))
      (filter-same (λ b. differ (group_of domains b) (group_of domains x)) (λ b. are_async (design_of net domains) b x) (bits_read_by net [] x) groups-are)

  -- there are none where no bit that it reads has another group
  pub none-into : ((b : Bit) → reads [] (next_tree net x.sig) x.at b ≡ true → differ (group_of domains b) (group_of domains x) ≡ false) → crossings_into net domains x ≡ []
  none-into h = sym into-is ∙ ap (map (λ (b : Bit). let k : Crossing = record { from = b; to = x } in k))
      (filter-none (λ b. differ (group_of domains b) (group_of domains x)) (bits_read_by net [] x) (λ b i. h b (read-in net is has [] x l c e b i)))

-- ---- tables

-- what a table shows of all cells it shows of those below one
pub shows-below : (net : Net) → IsNet net → (cube : Cube) (t : Shown) → ShowsNet net cube t → (c : CellId) → c.0 < length net.graph.cells
    → (id : CellId) → IsBelow net.graph (c ∷ []) id → Shows net.graph cube t id
shows-below net is cube t shown c lt id below = shown id (below-within net.graph (c ∷ []) is.graph (root-within net.graph c lt) id below)

module _ (net : Net) (is : IsNet net) (has : HasNextCells net) (cube : Cube) (t : Shown) (shown : ShowsNet net cube t) (x : Bit) (l : x.at < bit_count net.graph.signals x.sig) where
  -- the state bit that a table shows of a next value
  pub same-of : (n : Node) → next_node_of net x ≡ Some n → same_at t n.cell n.at ≡ same cube (next_tree net x.sig) x.at
  same-of n e =
      let c = cell-of net x n e in
      let at : n.at ≡ x.at = place-of net x n e in
      let node = node-is net has x l n.cell c in
      ap (same_at t n.cell) at ∙ same-shown net.graph cube t n.cell (shown n.cell node.0).sames x.at node.1 ∙ sym (ap (λ o. same cube (tree_or_zero net.graph o) x.at) c)

-- a bit without a next value is no copy, and reads nothing
pub same-absent : (net : Net) (cube : Cube) (x : Bit) → next_node_of net x ≡ None → None ≡ same cube (next_tree net x.sig) x.at
same-absent net cube x e = sym (ap (λ o. same cube (tree_or_zero net.graph o) x.at) (no-cell net x e))

pub reads-absent : (net : Net) (cube : Cube) (x : Bit) → next_node_of net x ≡ None → [] ≡ bits_read_by net cube x
reads-absent net cube x e = sym (filter-none (λ b. reads cube (next_tree net x.sig) x.at b) (bits_of_signals 0 net.graph.signals) (λ b i. ap (λ o. reads cube (tree_or_zero net.graph o) x.at b) (no-cell net x e)))

module _ (net : Net) (is : IsNet net) (has : HasNextCells net) (cube : Cube) (t : Shown) (shown : ShowsNet net cube t) (x : Bit) (l : x.at < bit_count net.graph.signals x.sig) where
  -- the list of the bits that a table answers for a next value
  pub reads-of : (n : Node) → next_node_of net x ≡ Some n → (bits : List Bit) → order.AreAscending bits
      → (IsNodeOf net.graph n → ((id : CellId) → IsBelow net.graph (n.cell ∷ []) id → Shows net.graph cube t id) → (b : Bit) → Contains bits b ↔ (reads cube (tree_of net.graph n.cell) n.at b ≡ true))
      → bits ≡ bits_read_by net cube x
  reads-of n e bits asc h =
      let c = cell-of net x n e in
      let at : n.at ≡ x.at = place-of net x n e in
      let node = node-is net has x l n.cell c in
      bits-are net is has cube x l n.cell c bits asc (λ b.
      subst (λ (i : ℕ). Contains bits b ↔ (reads cube (tree_of net.graph n.cell) i b ≡ true)) at
      (h (node.0, omega (arith, node.1, at)) (shows-below net is cube t shown n.cell node.0) b))

module _ (net : Net) (is : IsNet net) (has : HasNextCells net) (cube : Cube) (t : Shown) (shown : ShowsNet net cube t) (x : Bit) (l : x.at < bit_count net.graph.signals x.sig) (s : Bit → Bool) where
  -- the list of those of them that a test chooses
  pub reads-some-of : (n : Node) → next_node_of net x ≡ Some n → (bits : List Bit) → order.AreAscending bits
      → (IsNodeOf net.graph n → ((id : CellId) → IsBelow net.graph (n.cell ∷ []) id → Shows net.graph cube t id)
      → (b : Bit) → Contains bits b ↔ ((s b && reads cube (tree_of net.graph n.cell) n.at b) ≡ true))
      → bits ≡ filter s (bits_read_by net cube x)
  reads-some-of n e bits asc h =
      let c = cell-of net x n e in
      let at : n.at ≡ x.at = place-of net x n e in
      let node = node-is net has x l n.cell c in
      chosen-are net is has cube x l n.cell c s bits asc (λ b.
      subst (λ (i : ℕ). Contains bits b ↔ ((s b && reads cube (tree_of net.graph n.cell) i b) ≡ true)) at
      (h (node.0, omega (arith, node.1, at)) (shows-below net is cube t shown n.cell node.0) b))

-- two facts of a value that is there, as one
pub two_if : {T E : Type 0} {P Q R : T → Type 0} (r : Result T E) → ((t : T) → P t → Q t → R t) → IfOk r P → IfOk r Q → IfOk r R
two_if (Ok t) f p q = f t p q
two_if (Err e) f p q = tt
