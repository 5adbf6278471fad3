-- The cells whose bits are reads, and the counts by which they choose.
use Rattle.std.proofs.Common.{◌≡◌, ◌≢◌, ◌∙◌, ◌⊎◌, inl, inr, sym, ap, ap₂, refl, subst, arith, ℕ, suc, ◌+◌, ◌-◌, ◌^◌, ◌<◌, ◌==◌, Bool, true, false, cond, eqb-true, length, Option, Some, None, unwrap_or, List, [], ◌∷◌, ◌++◌, Contains}
use Rattle.std.specs.Prelude.{◌≤◌}
use Rattle.std.proofs.Math.Pow.{pow_mono}
use Rattle.std.proofs.lemmas.List.{nil_from_length}
use Rattle.std.proofs.lemmas.List.Elements.{Contains-append_left, Contains-push, Contains-push_cases}
use Rattle.cdc_base.specs.declared.bit.Bit.{Bit}
use Rattle.cell_graph.specs.declared.cell.Cell.TheVariants.{Mux}
use Rattle.cell_graph.specs.declared.cell.CellId.{CellId}
use Rattle.cell_graph.specs.declared.cell.Node.{Node}
use Rattle.cell_graph.specs.declared.net.Net.{Net}
use Rattle.cell_graph.specs.Cells.{Cells, cell_at, cell_width}
use Rattle.cell_graph.specs.Origin.{TreeBit, origin}
use Rattle.cell_graph.specs.Tree as tree
use Rattle.cell_graph.specs.Tree.{Tree, bit_at}
use Rattle.cell_graph.specs.Unfolded.{tree_of, bit_of, IsCellOf, IsNodeOf}
use Rattle.cell_graph.proofs.Words.{bit-zero}
use Rattle.cofactor.proofs.Places.{same-cell}
use Rattle.domains.specs.declared.Domains.{Domains}
use Rattle.cdc_model.specs.Design.{Design}
use Rattle.cdc_model.specs.Nets.{design_of}
use Rattle.cdc_model.proofs.Ascending.{here, in_map, nothing_in}
use Rattle.cdc_model.proofs.Loads.{all_of}
use Rattle.fifo_terms.specs.Terms as terms
use Rattle.fifo_terms.specs.Terms.{AreOne, HasTerm, HaveOneSet, Term}
use Rattle.fifo_laws.specs.Sides.{Side, bit_node, side_width}
use Rattle.fifo_laws.specs.Words.{Chooses, index_terms}
use Rattle.gray_pointer.specs.Words.{IsPlain}
use Rattle.gray_pointer.proofs.Bits.{same_tree, same_place}
use Rattle.gray_pointer.proofs.Trees.{is_cell, is_mux, is_var}
use Rattle.fifo_nodes.specs.declared.term.Term.{Term as Found}
use Rattle.fifo_nodes.specs.declared.term.Term.TheVariants.{Is, Differ}
use Rattle.fifo_nodes.specs.Terms.{AreTerms, IsTermIn, term_of, terms_of}
use Rattle.fifo_parts.specs.Comparisons.{own_bit, var_bit}
use Rattle.fifo_parts.specs.declared.reads.Read.{Read}
use Rattle.fifo_parts.specs.Words.{AreReadBy, AreReads, AreReadsAmong, AreZeroTerms, CountsBy, IsBefore, IsBeforeAt, IsCountOf, IsReadBy, IsZeroOf, SayZero}
use Rattle.fifo_parts.proofs.SaidBits.{bit_term, one_is}
use Rattle.fifo_parts.proofs.WordBits.{low_has, low_is}

two_words : (w : ℕ) → 2 ≤ w → 2 ≤ 2 ^ (w - 1)
two_words w l = let k : 1 ≤ w - 1 = omega arith in let h : 2 ^ 1 ≤ 2 ^ (w - 1) = pow_mono k in h

one_bit : (d : Design) (a b : Bit) → bit_node d a ≡ bit_node d b → a ≡ b
one_bit d a b e =
    let t = same_tree (tree.Var a.sig (d.width a.sig)) (tree.Var b.sig (d.width b.sig)) a.at b.at e in
    let s : a.sig ≡ b.sig = cc in
    let i = same_place (tree.Var a.sig (d.width a.sig)) (tree.Var b.sig (d.width b.sig)) a.at b.at e in
    ap₂ (λ x y. let z : Bit = record { sig = x; at = y } in z) s i

-- a node chooses among one list of so many words
pub one_words : (d : Design) (s : Side) (n : ℕ) (ws vs : List Bit) (x : TreeBit) → length ws ≡ length vs → Chooses d s n ws x → Chooses d s n vs x
    → ws ≡ vs
one_words d s n [] vs x l h k = absurd h
one_words d s n (m ∷ ws) [] x l h k = absurd k
one_words d s n (m ∷ []) (p ∷ []) x l h k = ap (λ b. b ∷ []) (one_bit d m p (sym h ∙ k))
one_words d s n (m ∷ []) (p ∷ q ∷ vs) x l h k = absurd (omega (arith, l))
one_words d s n (m ∷ k ∷ ws) (p ∷ []) x l h j = absurd (omega (arith, l))
one_words d s n (m ∷ k ∷ ws) (p ∷ q ∷ vs) x l (c, a, b, i, e, one, first, rest) (c', a', b', i', e', one', first', rest') =
    let t = same_tree (tree.Mux c a b) (tree.Mux c' a' b') i i' (sym e ∙ e') in
    let at = same_place (tree.Mux c a b) (tree.Mux c' a' b') i i' (sym e ∙ e') in
    let sa : a ≡ a' = cc in
    let sb : b ≡ b' = cc in
    let r : origin b i ≡ origin b' i' = ap₂ origin sb at in
    ap₂ (λ y ys. y ∷ ys) (one_bit d m p (sym first ∙ ap₂ origin sa at ∙ first'))
    (one_words d s (suc n) (k ∷ ws) (q ∷ vs) (origin b' i') (omega (arith, l)) (subst (Chooses d s (suc n) (k ∷ ws)) r rest) rest')

-- the terms of word 0 are that bits of the count are 0
zero_terms : (d : Design) (s : Side) (ts : List Term) → 2 ≤ side_width d s → HaveOneSet ts (index_terms d s 0)
    → AreZeroTerms s.reg.count (side_width d s) ts
zero_terms d s ts l (forth, back) = (
  λ none. let h = back (bit_term b w 0 (bit_at 0 0)) (low_has b w (w - 1) 0 0 (omega arith)) in nothing_in h.0
      (subst (λ xs. Contains xs h.0) none h.1),
  λ t i. let h = forth t i in
      let k = low_is b w (w - 1) 0 h.0 h.1 in
      (k.0, one_is t (Some (tree.Var b w, k.0)) (bit_at 0 k.0) (subst (AreOne t) k.2 h.2) ∙ ap (terms.Is (Some (tree.Var b w, k.0))) (bit-zero k.0)),
)
  where
    b : ℕ
    b = s.reg.count

    w : ℕ
    w = side_width d s

module _ (net : Net) (domains : Domains) (plain : IsPlain net.graph) where
  abbrev d : Design
  d = design_of net domains

  first_choice : (s : Side) (words : List Bit) (x : TreeBit) → 2 ≤ length words → Chooses d s 0 words x
      → (c a b : Tree) × (i : ℕ) × (x ≡ Some (tree.Mux c a b, i)) × HaveOneSet (terms.terms c 0 true) (index_terms d s 0)
  first_choice s [] x l h = absurd h
  first_choice s (m ∷ []) x l h = absurd (omega (arith, l))
  first_choice s (m ∷ k ∷ ms) x l (c, a, b, i, e, one, first, rest) = (c, a, b, i, e, one)

  -- a read is a multiplexer, whose condition chooses by the count
  pub read_mux : (n : Node) (s : Side) (words : List Bit) → IsNodeOf net.graph n → CountsBy net domains s.reg.count s → IsReadBy net domains s n words
      → (c x y : CellId) × (cell_at net.graph n.cell ≡ Mux c x y) × ((o : Option ℕ) → IsCountOf net c o → o ≡ Some s.reg.count)
  read_mux n s words inside by (many, chooses) =
      let two : 2 ≤ length words = let h = two_words (side_width d s) by.1 in omega (arith, many) in
      let f = first_choice s words (Some (bit_of net.graph n)) two chooses in
      let t = same_tree (tree_of net.graph n.cell) (tree.Mux f.0 f.1 f.2) n.at f.3 f.4 in
      let m = is_mux net.graph plain.well n.cell inside.0 f.0 f.1 f.2 t in (
        m.0,
        m.1,
        m.2,
        m.3,
        λ o is. is s.reg.count (zero_terms d s (terms.terms (tree_of net.graph m.0) 0 true) by.1
            (subst (λ u. HaveOneSet (terms.terms u 0 true) (index_terms d s 0)) (sym m.4) f.5)),
      )

  -- where only these nodes can be reads, the list has them already
  pub reads_over : (among more : Node → Type 0) (rs : List Read)
      → ((n : Node) (s : Side) (words : List Bit) → more n → IsNodeOf net.graph n → CountsBy net domains s.reg.count s
      → IsReadBy net domains s n words → among n)
      → AreReadsAmong net domains among rs → AreReadsAmong net domains more rs
  reads_over among more rs h are = record {
    only = are.only;
    all = λ n s words m inside by is. are.all n s words (h n s words m inside by is) inside by is;
  }

  pub reads_push : (among more : Node → Type 0) (rs : List Read) (r : Read) → IsNodeOf net.graph r.node
      → ((s : Side) → CountsBy net domains r.count s → IsReadBy net domains s r.node r.words)
      → ((n : Node) (s : Side) (words : List Bit) → more n → IsNodeOf net.graph n → CountsBy net domains s.reg.count s
      → IsReadBy net domains s n words → among n ⊎ ((r.node ≡ n) × (r.count ≡ s.reg.count)))
      → AreReadsAmong net domains among rs → AreReadsAmong net domains more (rs ++ r ∷ [])
  reads_push among more rs r there is h are = record {
    only = λ q i. elim (Contains-push_cases rs r q i) [
      | inl j ↦ are.only q j
      | inr e ↦ subst (λ (x : Read). IsNodeOf net.graph x.node
          × ((s : Side) → CountsBy net domains x.count s → IsReadBy net domains s x.node x.words)) e (there, is)
    ];
    all = λ n s words m inside by read. elim (h n s words m inside by read) [
      | inl a ↦ let k = are.all n s words a inside by read in (k.0, Contains-append_left rs (r ∷ []) k.0 k.1, k.2, k.3, k.4)
      | inr (at, count) ↦
          let mine = subst (λ (x : Node). IsReadBy net domains s x r.words) at (is s (subst (λ k. CountsBy net domains k s) (sym count) by)) in
          (r, Contains-push rs r, at, count, one_words d s 0 r.words words (Some (bit_of net.graph n)) (mine.0 ∙ sym read.0) mine.1 read.1)
    ];
  }

  pub reads_end : (n : ℕ) → length net.graph.cells ≤ n → (rs : List Read) → AreReadsAmong net domains (IsBefore n) rs → AreReads net domains rs
  reads_end n le rs are = record {
    only = are.only;
    all = λ m s words inside by read. are.all m s words (let l = inside.0 in omega arith) inside by read;
  }

  earlier_or_here : (c : CellId) (n : Node) → n.cell.0 < c.0 + 1 → (n.cell.0 < c.0) ⊎ (n.cell ≡ c)
  earlier_or_here c n l = elim (split n.cell.0 c.0 l) [ inl e ↦ inl e | inr e ↦ inr (same-cell n.cell c e) ]
    where
      split : (a b : ℕ) → a < b + 1 → (a < b) ⊎ (a ≡ b)
      split a b h = grind arith

  -- a cell that has no read
  pub reads_none : (c : CellId) (rs : List Read)
      → ((n : Node) (s : Side) (words : List Bit) → n.cell ≡ c → IsNodeOf net.graph n → CountsBy net domains s.reg.count s
      → IsReadBy net domains s n words → ⊥)
      → AreReadsAmong net domains (IsBefore c.0) rs → AreReadsAmong net domains (IsBefore (c.0 + 1)) rs
  reads_none c rs none are = reads_over (IsBefore c.0) (IsBefore (c.0 + 1)) rs (λ n s words m inside by read. elim (earlier_or_here c n m) [
    | inl e ↦ e
    | inr e ↦ absurd (none n s words e inside by read)
  ]) are

  pub cell_begins : (c : CellId) (rs : List Read) → AreReadsAmong net domains (IsBefore c.0) rs → AreReadsAmong net domains (IsBeforeAt c 0) rs
  cell_begins c rs are = reads_over (IsBefore c.0) (IsBeforeAt c 0) rs (λ n s words m inside by read. elim m [
    | inl e ↦ e
    | inr e ↦ absurd (omega (arith, e.1))
  ]) are

  pub cell_ends : (c : CellId) (at : ℕ) → cell_width net.graph c ≤ at → (rs : List Read) → AreReadsAmong net domains (IsBeforeAt c at) rs
      → AreReadsAmong net domains (IsBefore (c.0 + 1)) rs
  cell_ends c at le rs are = reads_over (IsBeforeAt c at) (IsBefore (c.0 + 1)) rs (λ n s words m inside by read. elim (earlier_or_here c n m) [
    | inl e ↦ inl e
    | inr e ↦ let w = subst (λ x. n.at < cell_width net.graph x) e inside.1 in inr (e, (omega arith))
  ]) are

  below_or_at : (c : CellId) (at : ℕ) (n : Node) → IsBeforeAt c (at + 1) n → IsBeforeAt c at n ⊎ (record { cell = c; at = at } ≡ n)
  below_or_at c at n (inl e) = inl (inl e)
  below_or_at c at n (inr (e, l)) = elim (split n.at at l) [
    | inl k ↦ inl (inr (e, k))
    | inr k ↦ inr (ap₂ (λ x y. let z : Node = record { cell = x; at = y } in z) (sym e) (sym k))
  ]
    where
      split : (a b : ℕ) → a < b + 1 → (a < b) ⊎ (a ≡ b)
      split a b h = grind arith

  pub bit_none : (c : CellId) (at : ℕ) (rs : List Read)
      → ((s : Side) (words : List Bit) → IsNodeOf net.graph (record { cell = c; at = at }) → CountsBy net domains s.reg.count s
      → IsReadBy net domains s (record { cell = c; at = at }) words → ⊥)
      → AreReadsAmong net domains (IsBeforeAt c at) rs → AreReadsAmong net domains (IsBeforeAt c (at + 1)) rs
  bit_none c at rs none are = reads_over (IsBeforeAt c at) (IsBeforeAt c (at + 1)) rs (λ n s words m inside by read. elim (below_or_at c at n m) [
    | inl e ↦ e
    | inr e ↦ absurd (none s words (subst (IsNodeOf net.graph) (sym e) inside) by (subst (λ x. IsReadBy net domains s x words) (sym e) read))
  ]) are

  pub bit_read : (c : CellId) (at count : ℕ) (words : List Bit) (rs : List Read) → AreReadBy net domains c count
      → IsNodeOf net.graph (record { cell = c; at = at })
      → ((s : Side) → CountsBy net domains count s → IsReadBy net domains s (record { cell = c; at = at }) words)
      → AreReadsAmong net domains (IsBeforeAt c at) rs → AreReadsAmong net domains (IsBeforeAt c (at + 1))
      (rs ++ record { node = record { cell = c; at = at }; count = count; words = words } ∷ [])
  bit_read c at count words rs by_count there is are = reads_push (IsBeforeAt c at) (IsBeforeAt c (at + 1)) rs
      (record { node = record { cell = c; at = at }; count = count; words = words }) there is
      (λ n s ws m inside by read. elim (below_or_at c at n m) [
        | inl e ↦ inl e
        | inr e ↦ inr (e, sym (by_count n s ws (ap (λ (x : Node). x.cell) (sym e)) inside by read))
      ]) are

  -- a read of a choice is by its condition's count
  pub choice_by_count : (c cond x y : CellId) → cell_at net.graph c ≡ Mux cond x y → (o : Option ℕ) → IsCountOf net cond o
      → (n : Node) (s : Side) (words : List Bit) → n.cell ≡ c → IsNodeOf net.graph n → CountsBy net domains s.reg.count s
      → IsReadBy net domains s n words → o ≡ Some s.reg.count
  choice_by_count c cond x y is o count n s words at inside by read =
      let m = read_mux n s words inside by read in
      let both : Mux m.0 m.1 m.2 ≡ Mux cond x y = sym m.3 ∙ ap (cell_at net.graph) at ∙ is in
      let same : m.0 ≡ cond = cc in
      m.4 o (subst (λ k. IsCountOf net k o) (sym same) count)

  -- what is no choice is no read
  pub no_choice : (c : CellId) → ((x y z : CellId) → cell_at net.graph c ≢ Mux x y z)
      → (n : Node) (s : Side) (words : List Bit) → n.cell ≡ c → IsNodeOf net.graph n → CountsBy net domains s.reg.count s
      → IsReadBy net domains s n words → ⊥
  no_choice c none n s words at inside by read = let m = read_mux n s words inside by read in none m.0 m.1 m.2 (ap (cell_at net.graph) (sym at) ∙ m.3)

-- ---- conditions that choose by word 0

pub cond_node : (g : Cells) → IsPlain g → (c cond x y : CellId) → c.0 < length g.cells → cell_at g c ≡ Mux cond x y
    → IsNodeOf g (record { cell = cond; at = 0 })
cond_node g plain c cond x y inside is = let h = subst (IsCellOf g c.0) is (is_cell g plain.well c inside) in let l = h.0 in let w = h.1 in
    (omega arith, omega arith)

var_own : (g : Cells) → IsPlain g → (n : Node) (sig w i : ℕ) → IsNodeOf g n → bit_of g n ≡ (tree.Var sig w, i)
    → own_bit g n ≡ Some (record { sig = sig; at = i })
var_own g plain n sig w i inside e =
    let is = is_var g plain.well n.cell inside.0 sig w (ap (λ p. p.0) e) in
    ap (λ c. var_bit c n.at) is ∙ ap (λ k. Some (let b : Bit = record { sig = sig; at = k } in b)) (ap (λ p. p.1) e)

is_zero : (g : Cells) → IsPlain g → (sig w i : ℕ) (t : Found) → IsTermIn g t → term_of g t ≡ terms.Is (Some (tree.Var sig w, i)) false
    → IsZeroOf g sig t
is_zero g plain sig w i (Is None v) inside e = cc
is_zero g plain sig w i (Is (Some n) true) inside e = cc
is_zero g plain sig w i (Is (Some n) false) inside e = let b : bit_of g n ≡ (tree.Var sig w, i) = cc in (i, var_own g plain n sig w i inside b)
is_zero g plain sig w i (Differ a b v) inside e = cc

some_term : (g : Cells) (ts : List Term) (found : List Found) → AreTerms g ts found → ts ≢ [] → found ≢ []
some_term g [] found are some none = some refl
some_term g (t ∷ ts) found are some none = nothing_in t (subst (λ (xs : List Found). Contains (terms_of g xs) t) none (are.all t (here t ts)))

pub say_zero : (g : Cells) → IsPlain g → (sig w : ℕ) (ts : List Term) (found : List Found) → AreTerms g ts found → AreZeroTerms sig w ts
    → SayZero g sig found
say_zero g plain sig w ts found are (some, each) = (
  some_term g ts found are some,
  all_of (IsZeroOf g sig) found (λ t i. let k = each (term_of g t) (are.only (term_of g t) (in_map (term_of g) found t i)) in is_zero g plain sig
      w k.0 t (are.within t i) k.1),
)

-- the signal of one term more
pub zero_more : (sig k i : ℕ) (count : Option ℕ) → ((i ≡ 0) × (count ≡ None)) ⊎ (count ≡ Some sig) → unwrap_or count k ≢ k → k ≡ sig → ⊥
zero_more sig k i count (inl (e, none)) ne same = ne (ap (λ o. unwrap_or o k) none)
zero_more sig k i count (inr e) ne same = ne (ap (λ o. unwrap_or o k) e ∙ sym same)

pub zero_end : (g : Cells) (sig i : ℕ) (ts : List Found) (count : Option ℕ) → SayZero g sig ts → length ts ≤ i → ((i ≡ 0) × (count ≡ None))
    ⊎ (count ≡ Some sig) → count ≡ Some sig
zero_end g sig i ts count say le (inl (e, none)) = absurd (say.0 (nil_from_length ts (omega (arith, e, le))))
zero_end g sig i ts count say le (inr e) = e

-- of a condition that was added its count is kept, and of another one what was kept
pub count_kept : (net : Net) (c k : CellId) (count o : Option ℕ) (old new : Option (Option ℕ)) → new ≡ cond (c.0 == k.0) (Some count) old
    → new ≡ Some o
    → IsCountOf net c count → (old ≡ Some o → IsCountOf net k o) → IsCountOf net k o
count_kept net c k count o old new is at put kept = go (c.0 == k.0) refl (sym is ∙ at)
  where
    go : (b : Bool) → (c.0 == k.0) ≡ b → cond b (Some count) old ≡ Some o → IsCountOf net k o
    go true e f = let same : count ≡ o = cc in subst (λ x. IsCountOf net x o) (same-cell c k (eqb-true c.0 k.0 e)) (subst (IsCountOf net c) same put)
    go false e f = kept f
