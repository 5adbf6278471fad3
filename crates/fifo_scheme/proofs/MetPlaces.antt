-- Register bits at places, their roots, and places that ascend.
use Rattle.std.proofs.Common.{◌≡◌, ◌∙◌, sym, ap, subst, refl, inl, inr, arith, ℕ, zero, suc, ◌<◌, Bool, true, false, cond, Option, Some, None, option_map, is_some, List, [], ◌∷◌, length, slice_get, Contains}
use Rattle.std.proofs.lemmas.Bool.{and_parts}
use Rattle.cdc_base.specs.declared.bit.Bit.{Bit}
use Rattle.cell_graph.specs.declared.cell.CellId.{CellId}
use Rattle.cell_graph.specs.declared.cell.Node.{Node}
use Rattle.cell_graph.specs.declared.net.Net.{Net}
use Rattle.cell_graph.specs.Unfolded.{IsNodeOf, tree_of}
use Rattle.cdc_model.specs.Nets.{bit_count, HasNextCells, is_register_bit, is_within, next_cell, next_node_of, next_tree, tree_or_zero}
use Rattle.cdc_model.specs.Ordered.{is_before, IsAscending}
use Rattle.cdc_model.proofs.Ascending.{Ascends, ascending, here, later, nothing_in, parts}
use Rattle.cdc_model.proofs.Justify.{slice_in, in_slice}
use Rattle.std.proofs.Common.{ltb-true}
use Rattle.fifo_laws.specs.Fifos.{one_bit_key}
use Rattle.fifo_ways.specs.Sought.{AreNodes}
use Rattle.fifo_scheme.specs.declared.index.Reading.{Reading}
use Rattle.fifo_scheme.specs.Met.{ArePlacesInOrder, bit_there, bits_at, kept_by, node_there, roots_at}

-- ---- places that ascend

pub rest_in_order : (n : ℕ) (ns : List ℕ) → ArePlacesInOrder (n ∷ ns) → ArePlacesInOrder ns
rest_in_order n ns h i j m k l e f = h (suc i) (suc j) m k (omega arith) e f

pub head_first : (n : ℕ) (ns : List ℕ) → ArePlacesInOrder (n ∷ ns) → (m : ℕ) → Contains ns m → n < m
head_first n ns h m i = h 0 (suc i.0) n m (omega arith) refl (in_slice ns m i)

in_order : (n : ℕ) (ns : List ℕ) → ((m : ℕ) → Contains ns m → n < m) → ArePlacesInOrder ns → ArePlacesInOrder (n ∷ ns)
in_order n ns h k i zero m p l e f = absurd (omega arith)
in_order n ns h k zero (suc j) m p l e f = let same : n ≡ m = cc in subst (λ (x : ℕ). x < p) same (h p (slice_in ns j p f))
in_order n ns h k (suc i) (suc j) m p l e f = k i j m p (omega arith) e f

none_in_order : ArePlacesInOrder []
none_in_order i j m n l e f = absurd (cc)

-- ---- places that are kept

pub from_kept : (ns : List ℕ) (bs : List Bool) (n : ℕ) → Contains (kept_by ns bs) n → (k : ℕ) × (slice_get ns k ≡ Some n) × (slice_get bs k ≡ Some true)
from_kept [] bs n h = absurd (nothing_in n h)
from_kept (m ∷ ns) [] n h = absurd (nothing_in n h)
from_kept (m ∷ ns) (true ∷ bs) n h = elim (parts m (kept_by ns bs) n h) [
  | inl e ↦ (0, ap Some e, refl)
  | inr i ↦ let k = from_kept ns bs n i in (suc k.0, k.1, k.2)
]
from_kept (m ∷ ns) (false ∷ bs) n h = let k = from_kept ns bs n h in (suc k.0, k.1, k.2)

pub in_kept : (ns : List ℕ) (bs : List Bool) (k n : ℕ) → slice_get ns k ≡ Some n → slice_get bs k ≡ Some true → Contains (kept_by ns bs) n
in_kept [] bs k n e f = absurd (cc)
in_kept (m ∷ ns) [] k n e f = absurd (cc)
in_kept (m ∷ ns) (b ∷ bs) zero n e f =
    let same : m ≡ n = cc in
    let yes : true ≡ b = cc in
    subst (λ (v : Bool). Contains (cond v (m ∷ kept_by ns bs) (kept_by ns bs)) n) yes (subst (λ (x : ℕ). Contains (m ∷ kept_by ns bs) x) same (here m (kept_by ns bs)))
in_kept (m ∷ ns) (true ∷ bs) (suc k) n e f = later m (kept_by ns bs) n (in_kept ns bs k n e f)
in_kept (m ∷ ns) (false ∷ bs) (suc k) n e f = in_kept ns bs k n e f

pub kept_in_order : (ns : List ℕ) (bs : List Bool) → ArePlacesInOrder ns → ArePlacesInOrder (kept_by ns bs)
kept_in_order [] bs h = none_in_order
kept_in_order (n ∷ ns) [] h = none_in_order
kept_in_order (n ∷ ns) (true ∷ bs) h = in_order n (kept_by ns bs)
    (λ m i. let k = from_kept ns bs m i in head_first n ns h m (slice_in ns k.0 m k.1)) (kept_in_order ns bs (rest_in_order n ns h))
kept_in_order (n ∷ ns) (false ∷ bs) h = kept_in_order ns bs (rest_in_order n ns h)

-- ---- bits at places

module _ (rs : List Reading) where
  abbrev FromPlaces : Bit → List ℕ → Type 0
  FromPlaces b ms = (m : ℕ) × (r : Reading) × Contains ms m × (slice_get rs m ≡ Some r) × (r.bit ≡ b)

  pub from_bits : (ns : List ℕ) (b : Bit) → Contains (bits_at rs ns) b → (n : ℕ) × (r : Reading) × Contains ns n × (slice_get rs n ≡ Some r) × (r.bit ≡ b)
  from_bits [] b h = absurd (nothing_in b h)
  from_bits (n ∷ ns) b h = go (slice_get rs n) refl (from_bits ns b) h
    where
      go : (o : Option Reading) → slice_get rs n ≡ o → (Contains (bits_at rs ns) b → FromPlaces b ns) → Contains (bit_there o (bits_at rs ns)) b → FromPlaces b (n ∷ ns)
      go None e ih i = let k = ih i in (k.0, k.1, later n ns k.0 k.2, k.3, k.4)
      go (Some r) e ih i = elim (parts r.bit (bits_at rs ns) b i) [
        | inl same ↦ (n, r, here n ns, e, same)
        | inr j ↦ let k = ih j in (k.0, k.1, later n ns k.0 k.2, k.3, k.4)
      ]

  pub in_bits_at : (ns : List ℕ) (n : ℕ) (r : Reading) → Contains ns n → slice_get rs n ≡ Some r → Contains (bits_at rs ns) r.bit
  in_bits_at [] n r i e = absurd (nothing_in n i)
  in_bits_at (m ∷ ns) n r i e = elim (parts m ns n i) [
    | inl same ↦ subst (λ (o : Option Reading). Contains (bit_there o (bits_at rs ns)) r.bit) (sym (ap (slice_get rs) same ∙ e)) (here r.bit (bits_at rs ns))
    | inr j ↦ behind (slice_get rs m) (in_bits_at ns n r j e)
  ]
    where
      behind : (o : Option Reading) → Contains (bits_at rs ns) r.bit → Contains (bit_there o (bits_at rs ns)) r.bit
      behind None k = k
      behind (Some q) k = later q.bit (bits_at rs ns) r.bit k

  module _ (up : IsAscending (λ (r : Reading). one_bit_key r.bit) rs) where
    ascends : (ns : List ℕ) → ArePlacesInOrder ns → Ascends one_bit_key (bits_at rs ns)
    ascends [] h = tt
    ascends (n ∷ ns) h = go (slice_get rs n) refl (ascends ns (rest_in_order n ns h))
      where
        go : (o : Option Reading) → slice_get rs n ≡ o → Ascends one_bit_key (bits_at rs ns) → Ascends one_bit_key (bit_there o (bits_at rs ns))
        go None e ih = ih
        go (Some r) e ih = (
          λ b i.
              let k = from_bits ns b i in
              subst (λ (c : Bit). is_before (one_bit_key r.bit) (one_bit_key c) ≡ true) k.4 (up n k.0 r k.1 (head_first n ns h k.0 k.2) e k.3),
          ih,
        )

    pub bits_ascend : (ns : List ℕ) → ArePlacesInOrder ns → IsAscending one_bit_key (bits_at rs ns)
    bits_ascend ns h = ascending one_bit_key (bits_at rs ns) (ascends ns h)

-- ---- roots

pub next_there : (net : Net) (b : Bit) → is_register_bit net b ≡ true → (c : CellId) × (next_cell net.regs b.sig ≡ Some c)
next_there net b h = go (next_cell net.regs b.sig) refl (and_parts (is_some (next_cell net.regs b.sig)) (is_within net b) h).0
  where
    go : (o : Option CellId) → next_cell net.regs b.sig ≡ o → is_some o ≡ true → (c : CellId) × (next_cell net.regs b.sig ≡ Some c)
    go None e t = absurd (cc)
    go (Some c) e t = (c, e)

pub within_register : (net : Net) (b : Bit) → is_register_bit net b ≡ true → b.at < bit_count net.graph.signals b.sig
within_register net b h = ltb-true b.at (bit_count net.graph.signals b.sig) (and_parts (is_some (next_cell net.regs b.sig)) (is_within net b) h).1

abbrev root : CellId → Bit → Node
root c b = record { cell = c; at = b.at }

pub next_root : (net : Net) (b : Bit) (c : CellId) → next_cell net.regs b.sig ≡ Some c → next_node_of net b ≡ Some (root c b)
next_root net b c e = ap (option_map (λ (c : CellId). root c b)) e

pub tree_there : (net : Net) (b : Bit) (c : CellId) → next_cell net.regs b.sig ≡ Some c → next_tree net b.sig ≡ tree_of net.graph c
tree_there net b c e = ap (tree_or_zero net.graph) e

abbrev FromBits : Net → Node → List Bit → Type 0
FromBits net n cs = (c : Bit) × Contains cs c × (next_node_of net c ≡ Some n)

pub from_roots : (net : Net) (bs : List Bit) (n : Node) → Contains (roots_at net bs) n → (b : Bit) × Contains bs b × (next_node_of net b ≡ Some n)
from_roots net [] n h = absurd (nothing_in n h)
from_roots net (b ∷ bs) n h = go (next_node_of net b) refl (from_roots net bs n) h
  where
    go : (o : Option Node) → next_node_of net b ≡ o → (Contains (roots_at net bs) n → FromBits net n bs) → Contains (node_there o (roots_at net bs)) n → FromBits net n (b ∷ bs)
    go None e ih i = let k = ih i in (k.0, later b bs k.0 k.1, k.2)
    go (Some m) e ih i = elim (parts m (roots_at net bs) n i) [
      | inl same ↦ (b, here b bs, e ∙ ap Some same)
      | inr j ↦ let k = ih j in (k.0, later b bs k.0 k.1, k.2)
    ]

pub in_roots : (net : Net) (bs : List Bit) (b : Bit) (n : Node) → Contains bs b → next_node_of net b ≡ Some n → Contains (roots_at net bs) n
in_roots net [] b n i e = absurd (nothing_in b i)
in_roots net (c ∷ bs) b n i e = elim (parts c bs b i) [
  | inl same ↦ subst (λ (o : Option Node). Contains (node_there o (roots_at net bs)) n) (sym (ap (next_node_of net) same ∙ e)) (here n (roots_at net bs))
  | inr j ↦ behind (next_node_of net c) (in_roots net bs b n j e)
]
  where
    behind : (o : Option Node) → Contains (roots_at net bs) n → Contains (node_there o (roots_at net bs)) n
    behind None k = k
    behind (Some m) k = later m (roots_at net bs) n k

-- the roots are nodes of the graph
pub roots_are : (net : Net) → HasNextCells net → (bs : List Bit) → ((b : Bit) → Contains bs b → is_register_bit net b ≡ true) → AreNodes net.graph (roots_at net bs)
roots_are net has bs registers n h =
    let k = from_roots net bs n h in
    let c = next_there net k.0 (registers k.0 k.1) in
    let e : Some (root c.0 k.0) ≡ Some n = sym (next_root net k.0 c.0 c.1) ∙ k.2 in
    let f : root c.0 k.0 ≡ n = cc in
    let w = has k.0.sig c.0 c.1 in
    let l = within_register net k.0 (registers k.0 k.1) in
    subst (IsNodeOf net.graph) f (w.0, subst (λ (m : ℕ). k.0.at < m) (sym w.1) l)

-- each bit has its root at its place
pub roots_in_place : (net : Net) (rs : List Reading) (ns : List ℕ) → ((n : ℕ) → Contains ns n → (r : Reading) × (slice_get rs n ≡ Some r) × (is_register_bit net r.bit ≡ true))
    → (length (roots_at net (bits_at rs ns)) ≡ length ns) × ((k n : ℕ) (r : Reading) (m : Node) → slice_get ns k ≡ Some n → slice_get rs n ≡ Some r → next_node_of net r.bit ≡ Some m → slice_get (roots_at net (bits_at rs ns)) k ≡ Some m)
roots_in_place net rs [] h = (refl, λ k n r m e f g. absurd (cc))
roots_in_place net rs (p ∷ ns) h =
    let q = h p (here p ns) in
    let c = next_there net q.0.bit q.2 in
    let rest = roots_in_place net rs ns (λ n i. h n (later p ns n i)) in
    let e : roots_at net (bits_at rs (p ∷ ns)) ≡ root c.0 q.0.bit ∷ roots_at net (bits_at rs ns) =
    ap (λ (o : Option Reading). roots_at net (bit_there o (bits_at rs ns))) q.1 ∙ ap (λ (o : Option Node). node_there o (roots_at net (bits_at rs ns))) (next_root net q.0.bit c.0 c.1) in (
      ap (λ (xs : List Node). length xs) e ∙ ap suc rest.0,
      λ k n r m at there next. subst (λ (xs : List Node). slice_get xs k ≡ Some m) (sym e) (go q.0 q.1 (root c.0 q.0.bit) (next_root net q.0.bit c.0 c.1) rest.1 k n r m at there next),
    )
  where
    go : (q : Reading) → slice_get rs p ≡ Some q → (o : Node) → next_node_of net q.bit ≡ Some o
        → ((k n : ℕ) (r : Reading) (m : Node) → slice_get ns k ≡ Some n → slice_get rs n ≡ Some r → next_node_of net r.bit ≡ Some m → slice_get (roots_at net (bits_at rs ns)) k ≡ Some m)
        → (k n : ℕ) (r : Reading) (m : Node) → slice_get (p ∷ ns) k ≡ Some n → slice_get rs n ≡ Some r → next_node_of net r.bit ≡ Some m → slice_get (o ∷ roots_at net (bits_at rs ns)) k ≡ Some m
    go q e o next rest zero n r m at there f =
        let same : p ≡ n = cc in
        let g : Some q ≡ Some r = sym e ∙ ap (slice_get rs) same ∙ there in
        let w : q ≡ r = cc in
        sym next ∙ ap (λ (x : Reading). next_node_of net x.bit) w ∙ f
    go q e o next rest (suc k) n r m at there f = rest k n r m at there f
