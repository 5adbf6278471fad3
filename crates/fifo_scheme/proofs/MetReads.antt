-- The reads of columns that are found among all reads of a net.
use Rattle.std.proofs.Common.{◌≡◌, ◌∙◌, sym, ap, ap₂, subst, refl, inl, inr, ◌⊎◌, arith, ℕ, suc, ◌+◌, ◌-◌, ◌<◌, ◌≤◌, ◌^◌, Bool, true, false, cond, Option, Some, None, List, [], ◌∷◌, ◌++◌, length, slice_get, Contains, get_or, take}
use Rattle.std.proofs.lemmas.Nat.{pow_pos}
use Rattle.std.proofs.lemmas.List.{take_more}
use Rattle.std.proofs.lemmas.List.Elements.{Contains-append_left, Contains-push, Contains-push_cases}
use Rattle.std.specs.HashMap as hash
use Rattle.cdc_base.specs.declared.bit.Bit.{Bit}
use Rattle.cell_graph.specs.declared.cell.Node.{Node}
use Rattle.cell_graph.specs.declared.net.Net.{Net}
use Rattle.cell_graph.specs.Origin.{TreeBit, origin}
use Rattle.cell_graph.specs.Tree.{Tree, Var, Mux}
use Rattle.cell_graph.specs.Unfolded.{IsNodeOf}
use Rattle.domains.specs.declared.Domains.{Domains}
use Rattle.cdc_model.specs.Design.{Design}
use Rattle.cdc_model.specs.Nets.{design_of, next_tree}
use Rattle.cdc_model.proofs.Justify.{slice_in, in_slice}
use Rattle.fifo_laws.specs.Sides.{Side, bit_node, side_width}
use Rattle.fifo_laws.specs.Words.{Chooses, Column, depth_of, IsColumn}
use Rattle.fifo_ways.specs.Marked.{same_node}
use Rattle.fifo_ways.proofs.Sames.{equal_nodes, same_node-is}
use Rattle.fifo_scheme.specs.declared.index.Index.{Index}
use Rattle.fifo_scheme.specs.declared.judge.FoundRead.{FoundRead}
use Rattle.fifo_scheme.specs.declared.judge.Reads.{Reads}
use Rattle.fifo_parts.specs.declared.reads.Read.{Read}
use Rattle.fifo_scheme.specs.Judged.{ArePlaces}
use Rattle.fifo_scheme.specs.Met.{AreReadsOf, column, IsFoundRead, IsKept, IsValue}
use Rattle.fifo_parts.specs.Words.{AreReads, CountsBy}

-- ---- words and values

first_there : (xs : List Bit) → 1 ≤ length xs → (b : Bit) × (slice_get xs 0 ≡ Some b)
first_there [] l = absurd (omega arith)
first_there (b ∷ bs) l = (b, refl)

pub some_words : (d : Design) (s : Side) → 1 ≤ depth_of d s
some_words d s = pow_pos (side_width d s - 1)

module _ (d : Design) (tree : ℕ → Tree) (write read : Side) where
  -- the words of a column tell its value
  pub one_value : (c e : Column) → IsColumn d tree write read c → IsColumn d tree write read e → c.words ≡ e.words → c.value ≡ e.value
  one_value c e h k same =
      let l : 1 ≤ length c.words = subst (λ (n : ℕ). 1 ≤ n) (sym h.depth) (some_words d write) in
      let b = first_there c.words l in
      sym (h.words 0 b.0 b.1).takes ∙ (k.words 0 b.0 (ap (λ (ws : List Bit). slice_get ws 0) (sym same) ∙ b.1)).takes

-- ---- a node chooses among one list of words

same_bits : (d : Design) (m n : Bit) → bit_node d m ≡ bit_node d n → m ≡ n
same_bits d m n e =
    let f : (Var m.sig (d.width m.sig), m.at) ≡ (Var n.sig (d.width n.sig), n.at) = cc in
    let t : Var m.sig (d.width m.sig) ≡ Var n.sig (d.width n.sig) = ap (λ (p : Tree × ℕ). p.0) f in
    let a : m.at ≡ n.at = ap (λ (p : Tree × ℕ). p.1) f in
    let s : m.sig ≡ n.sig = cc in
    λ i. record { sig = s i; at = a i }

pub one_choice : (d : Design) (s : Side) (n : ℕ) (xs ys : List Bit) (x : TreeBit) → length xs ≡ length ys → Chooses d s n xs x → Chooses d s n ys x → xs ≡ ys
one_choice d s n [] ys x l h k = absurd h
one_choice d s n (m ∷ ms) [] x l h k = absurd k
one_choice d s n (m ∷ []) (p ∷ []) x l h k = ap (λ (b : Bit). b ∷ []) (same_bits d m p (sym h ∙ k))
one_choice d s n (m ∷ []) (p ∷ q ∷ ps) x l h k = absurd (omega (arith, l))
one_choice d s n (m ∷ o ∷ ms) (p ∷ []) x l h k = absurd (omega (arith, l))
one_choice d s n (m ∷ o ∷ ms) (p ∷ q ∷ ps) x l (c, a, b, i, e, cond, first, rest) (c', a', b', i', e', cond', first', rest') =
    let both : Some (Mux c a b, i) ≡ Some (Mux c' a' b', i') = sym e ∙ e' in
    let f : (Mux c a b, i) ≡ (Mux c' a' b', i') = cc in
    let t : Mux c a b ≡ Mux c' a' b' = ap (λ (p : Tree × ℕ). p.0) f in
    let at : i ≡ i' = ap (λ (p : Tree × ℕ). p.1) f in
    let yes : a ≡ a' = cc in
    let other : b ≡ b' = cc in
    let rests : origin b i ≡ origin b' i' = ap₂ (λ u j. origin u j) other at in
    let less : length (o ∷ ms) ≡ length (q ∷ ps) = omega (arith, l) in
    ap₂ (λ (z : Bit) zs. z ∷ zs) (same_bits d m p (sym first ∙ ap₂ (λ u j. origin u j) yes at ∙ first'))
    (one_choice d s (suc n) (o ∷ ms) (q ∷ ps) (origin b i) less rest (subst (Chooses d s (suc n) (q ∷ ps)) (sym rests) rest'))

-- ---- all reads

module _ (net : Net) (domains : Domains) (i : Index) (write read : Side) where
  -- The nodes so far read columns, and are all of which the reads at these places are.
  pub record AreReadsSoFar (done : List ℕ) (reads : Reads) : Type 0 where
    pub nodes : (n : Node) → Contains reads.nodes n → IsNodeOf net.graph n
    pub kept : (n : Node) → Contains reads.nodes n → IsKept net domains i write read n (hash.get same_node reads.columns n)
    pub there : (k : ℕ) (r : Read) (c : Column) → Contains done k → slice_get i.reads k ≡ Some r → c.words ≡ r.words → IsColumn (design_of net domains) (next_tree net) write read c → Contains reads.nodes r.node

  module _ (old new : Reads) (places : List ℕ) (j d : ℕ) (l : j < length places) (h : AreReadsSoFar (take j places) old) where
    cases : (k : ℕ) → Contains (take (j + 1) places) k → Contains (take j places) k ⊎ (get_or places j d ≡ k)
    cases k q = Contains-push_cases (take j places) (get_or places j d) k (subst (λ (zs : List ℕ). Contains zs k) (take_more places j d l) q)

    pub reads_stay : new ≡ old → IsFoundRead net domains i write read (get_or places j d) None → AreReadsSoFar (take (j + 1) places) new
    reads_stay e none = subst (λ (r : Reads). AreReadsSoFar (take (j + 1) places) r) (sym e) (record {
      nodes = h.nodes;
      kept = h.kept;
      there = λ k r c q at same column. elim (cases k q) [
        | inl a ↦ h.there k r c a at same column
        | inr a ↦ absurd (none r c (subst (λ (n : ℕ). slice_get i.reads n ≡ Some r) (sym a) at) same column)
      ];
    })

    pub reads_grow : (f : FoundRead) → IsFoundRead net domains i write read (get_or places j d) (Some f) → new.nodes ≡ old.nodes ++ f.node ∷ []
        → ((n : Node) → hash.get same_node new.columns n ≡ cond (same_node f.node n) (Some (get_or places j d, f.value)) (hash.get same_node old.columns n)) → AreReadsSoFar (take (j + 1) places) new
    reads_grow f (is, keeps, names) grown got = record {
      nodes = λ n q. elim (there n q) [
        | inl a ↦ h.nodes n a
        | inr a ↦ subst (IsNodeOf net.graph) a is
      ];
      kept = λ n q. subst (IsKept net domains i write read n) (sym (got n)) (go n (same_node f.node n) refl (there n q));
      there = λ k r c q at same column. elim (cases k q) [
        | inl a ↦ subst (λ (zs : List Node). Contains zs r.node) (sym grown) (Contains-append_left old.nodes (f.node ∷ []) r.node (h.there k r c a at same column))
        | inr a ↦ subst (λ (zs : List Node). Contains zs r.node) (sym grown)
            (subst (Contains (old.nodes ++ f.node ∷ [])) (sym (names r (subst (λ (n : ℕ). slice_get i.reads n ≡ Some r) (sym a) at))) (Contains-push old.nodes f.node))
      ];
    }
      where
        there : (n : Node) → Contains new.nodes n → Contains old.nodes n ⊎ (f.node ≡ n)
        there n q = Contains-push_cases old.nodes f.node n (subst (λ (zs : List Node). Contains zs n) grown q)

        go : (n : Node) (v : Bool) → same_node f.node n ≡ v → Contains old.nodes n ⊎ (f.node ≡ n) → IsKept net domains i write read n (cond v (Some (get_or places j d, f.value)) (hash.get same_node old.columns n))
        go n true e a = subst (λ (m : Node). IsKept net domains i write read m (Some (get_or places j d, f.value))) (same_node-is f.node n e) keeps
        go n false e (inl a) = h.kept n a
        go n false e (inr a) = absurd (let t : same_node f.node f.node ≡ true = equal_nodes.refl f.node in let u : same_node f.node f.node ≡ false = subst (λ (m : Node). same_node f.node m ≡ false) (sym a) e in let w : true ≡ false = sym t ∙ u in cc)

  module _ (are : AreReads net domains i.reads) (wide : (2 ≤ side_width (design_of net domains) read) × (side_width (design_of net domains) read ≤ 11))
      (same : side_width (design_of net domains) read ≡ side_width (design_of net domains) write) where
    one_depth : depth_of (design_of net domains) read ≡ depth_of (design_of net domains) write
    one_depth = ap (λ (n : ℕ). 2 ^ (n - 1)) same

    counts_by : (count : ℕ) → count ≡ read.reg.count → CountsBy net domains count read
    counts_by count e = (sym e, wide.0, wide.1)

    pub read_length : (place : ℕ) (r : Read) → slice_get i.reads place ≡ Some r → r.count ≡ read.reg.count → length r.words ≡ depth_of (design_of net domains) write
    read_length place r at count = ((are.only r (slice_in i.reads place r at)).1 read (counts_by r.count count)).0 ∙ one_depth

    pub found_read : (place : ℕ) (r : Read) (value : Option Node) → slice_get i.reads place ≡ Some r → r.count ≡ read.reg.count → IsValue net domains write read r.words (Some value)
        → IsFoundRead net domains i write read place (Some (record { node = r.node; value = value }))
    found_read place r value at count is =
        let only = are.only r (slice_in i.reads place r at) in (
          only.0,
          record {
            place = place;
            value = value;
            is = refl;
            entry = r;
            there = at;
            reads = (is.0, (only.1 read (counts_by r.count count)).1);
            within = is.1;
          },
          λ q there. let e : Some q ≡ Some r = sym there ∙ at in let f : q ≡ r = cc in ap (λ (x : Read). x.node) f,
        )

    pub no_read : (place : ℕ) (r : Read) → slice_get i.reads place ≡ Some r → IsValue net domains write read r.words None → IsFoundRead net domains i write read place None
    no_read place r at none q c there words column =
        let e : Some q ≡ Some r = sym there ∙ at in
        let f : q ≡ r = cc in
        none c (words ∙ ap (λ (x : Read). x.words) f) column

    pub all_reads : (places : List ℕ) (reads : Reads) → ArePlaces (λ (r : Read). r.count ≡ read.reg.count) i.reads places → AreReadsSoFar places reads → AreReadsOf net domains i write read reads
    all_reads places reads at h = record {
      nodes = h.nodes;
      kept = h.kept;
      all = λ n is c.
          let r = are.all n read c.0.words is (counts_by read.reg.count refl) (c.1.0.depth ∙ sym one_depth, c.1.1) in
          let there = in_slice i.reads r.0 r.1 in
          subst (Contains reads.nodes) r.2 (h.there r.1.0 r.0 c.0 ((at r.1.0).1 (r.0, there, r.3)) there (sym r.4) c.1.0);
    }
