-- The net of a graph whose registers fit it.
use Rattle.std.proofs.Common.{◌≡◌, ◌∙◌, sym, ap, subst, refl, arith, ℕ, zero, suc, ◌+◌, ◌<◌, ◌≤◌, ◌^◌, ◌==◌, eqb-true, Bool, true, false, cond, if◌then◌else◌, Some, List, [], ◌∷◌, ◌++◌, map, length, slice_get, All, drop, get_or}
use Rattle.std.specs.List.{AllByRecursion}
use Rattle.std.specs.Option.{option_map_or}
use Rattle.std.proofs.lemmas.List.{append_assoc, drop_more, map-append}
use Rattle.std.proofs.lemmas.List.Elements.{All-push, All-weaker, recursion_from_All}
use Rattle.std.proofs.lemmas.Nat.{pow_pos}
use Rattle.std.proofs.Math.Nat.{mod-lt}
use Rattle.cdc_base.specs.declared.signal.Signal.{Signal}
use Rattle.cdc_base.specs.declared.signal.SigKind.{SigKind}
use Rattle.cdc_base.specs.declared.signal.SigKind.TheVariants.{Input, Register, Wire}
use Rattle.cell_graph.specs.declared.cell.CellId.{CellId}
use Rattle.cell_graph.specs.declared.net.Net.{Net}
use Rattle.cell_graph.specs.declared.net.Reg.{Reg}
use Rattle.cell_graph.specs.Cells.{Cells, cell_width, signal_width}
use Rattle.cell_graph.specs.Feeds.{node}
use Rattle.cell_graph.specs.Nets.{AreSized, HasNextCells, IsNet, IsWordOf, is_register, next_cell, register_signals}
use Rattle.cell_graph.specs.Unfolded.{IsNodeOf, IsWellFormed}
use Rattle.driver_trees.specs.declared.sketch.Register.{Register as Draft}
use Rattle.elaborate.specs.Words.{AreStarted, IsRegOf, as_word, known_bits, word_width}
use Rattle.elaborate.specs.Grown.{Grows}
use Rattle.elaborate.proofs.Grown.{grows_trans}

-- ---- signals as words

pub words-sized : (ss : List Signal) → AreSized (map as_word ss)
words-sized [] sig s at = cc
words-sized (t ∷ ss) zero s at = let e : as_word t ≡ s = cc in subst (λ (x : Signal). (1 ≤ x.width) × (x.width ≤ 64)) e ((omega arith), (omega arith))
words-sized (t ∷ ss) (suc sig) s at = words-sized ss sig s at

-- start values lie in their words
known-below : (kind : SigKind) (w known : ℕ) → known_bits kind w known < 2 ^ w
known-below Input w known = pow_pos w
known-below Register w known = mod-lt known (pow_pos w)
known-below Wire w known = pow_pos w

known-none : (kind : SigKind) (w known : ℕ) → is_register kind ≡ false → known_bits kind w known ≡ 0
known-none Input w known e = refl
known-none Register w known e = cc
known-none Wire w known e = refl

word-at : (ss : List Signal) (sig : ℕ) (s : Signal) → slice_get (map as_word ss) sig ≡ Some s → (t : Signal) × (as_word t ≡ s)
word-at [] sig s at = cc
word-at (t ∷ ss) zero s at = let e : as_word t ≡ s = cc in (t, e)
word-at (t ∷ ss) (suc sig) s at = word-at ss sig s at

pub words-started : (ss : List Signal) → AreStarted (map as_word ss)
words-started ss = record {
  known = λ sig s at. let (t, e) = word-at ss sig s at in
      subst (λ (x : Signal). x.known < 2 ^ x.width) e (known-below t.kind (word_width t.width) t.known);
  start = λ sig s at. let (t, e) = word-at ss sig s at in
      subst (λ (x : Signal). x.start < 2 ^ x.width) e (mod-lt t.start (pow_pos (word_width t.width)));
  registers = λ sig s at kind. let (t, e) = word-at ss sig s at in
      subst (λ (x : Signal). x.known ≡ 0) e (known-none t.kind (word_width t.width) t.known (ap (λ (x : Signal). is_register x.kind) e ∙ kind));
}

-- they have the same registers
same-registers : (k : ℕ) (ss : List Signal) → register_signals k (map as_word ss) ≡ register_signals k ss
same-registers k [] = refl
same-registers k (s ∷ ss) = ap (λ ns. if is_register s.kind then k ∷ ns else ns) (same-registers (k + 1) ss)

-- the registers of signals are those of their words in the graph
pub registers-kept : (net : Net) (ss ts : List Signal) (ns : List ℕ) → ts ≡ ss → net.graph.signals ≡ map as_word ts → ns ≡ register_signals 0 ss → ns ≡ register_signals 0 net.graph.signals
registers-kept net ss ts ns e words named =
    named ∙ sym (same-registers 0 ss) ∙ ap (λ us. register_signals 0 (map as_word us)) (sym e) ∙ ap (register_signals 0) (sym words)

-- ---- next values

-- a register that has a next value is a signal
listed : (k : ℕ) (ss : List Signal) (rs : List Reg) (sig : ℕ) (c : CellId) → map (λ (r : Reg). r.sig) rs ≡ register_signals k ss → next_cell rs sig ≡ Some c
    → (i : ℕ) × (s : Signal) × (sig ≡ k + i) × (slice_get ss i ≡ Some s)
listed k [] [] sig c e h = cc
listed k [] (r ∷ rs) sig c e h = cc
listed k (s ∷ ss) rs sig c e h = go s.kind e (λ qs f m. let p = listed (k + 1) ss qs sig c f m in (suc p.0, p.1, (let q = p.2 in omega arith), p.3))
  where
    Goal : Type 0
    Goal = (i : ℕ) × (t : Signal) × (sig ≡ k + i) × (slice_get (s ∷ ss) i ≡ Some t)

    Further : Type 0
    Further = (qs : List Reg) → map (λ (r : Reg). r.sig) qs ≡ register_signals (k + 1) ss → next_cell qs sig ≡ Some c → Goal

    test : (q : Reg) (qs : List Reg) (v : Bool) → (q.sig == sig) ≡ v → q.sig ≡ k → map (λ (r : Reg). r.sig) qs ≡ register_signals (k + 1) ss
        → cond v (Some q.next) (next_cell qs sig) ≡ Some c → Further → Goal
    test q qs true t first f m further = (0, s, (let a = eqb-true q.sig sig t in omega arith), refl)
    test q qs false t first f m further = further qs f m

    split : (qs : List Reg) → map (λ (r : Reg). r.sig) qs ≡ k ∷ register_signals (k + 1) ss → next_cell qs sig ≡ Some c → Further → Goal
    split [] f m further = cc
    split (q ∷ qs) f m further = test q qs (q.sig == sig) refl (cc) (cc) m further

    go : (kind : SigKind) → map (λ (r : Reg). r.sig) rs ≡ (if is_register kind then k ∷ register_signals (k + 1) ss else register_signals (k + 1) ss) → Further → Goal
    go Input f further = further rs f h
    go Wire f further = further rs f h
    go Register f further = split rs f h further

next-fits : (g : Cells) (rs : List Reg) → AllByRecursion (IsRegOf g) rs → (sig : ℕ) (c : CellId) → next_cell rs sig ≡ Some c → IsWordOf g c (signal_width g.signals sig)
next-fits g [] fit sig c h = cc
next-fits g (r ∷ rs) fit sig c h = go (r.sig == sig) refl h (next-fits g rs fit.1 sig c)
  where
    go : (v : Bool) → (r.sig == sig) ≡ v → cond v (Some r.next) (next_cell rs sig) ≡ Some c → (next_cell rs sig ≡ Some c → IsWordOf g c (signal_width g.signals sig)) → IsWordOf g c (signal_width g.signals sig)
    go true t m ih =
        let e : r.next ≡ c = cc in
        subst (λ n. IsWordOf g c (signal_width g.signals n)) (eqb-true r.sig sig t) (subst (λ x. IsWordOf g x (signal_width g.signals r.sig)) e fit.0.0)
    go false t m ih = ih m

-- ---- the net

pub fit-net : (net : Net) → IsWellFormed net.graph → map (λ (r : Reg). r.sig) net.regs ≡ register_signals 0 net.graph.signals → All (IsRegOf net.graph) net.regs → IsNet net
fit-net net well registers fit = record {
  graph = well;
  registers = registers;
  clocks = All-weaker (IsRegOf net.graph) (λ (r : Reg). IsNodeOf net.graph (node r.clock 0)) (λ r is. (is.1.0, (let e = is.1.1 in omega arith))) net.regs fit;
}

pub fit-next : (net : Net) → map (λ (r : Reg). r.sig) net.regs ≡ register_signals 0 net.graph.signals → All (IsRegOf net.graph) net.regs → HasNextCells net
fit-next net registers fit sig c h =
    let word = next-fits net.graph net.regs (recursion_from_All (IsRegOf net.graph) net.regs fit) sig c h in
    let there = listed 0 net.graph.signals net.regs sig c registers h in
    let at : slice_get net.graph.signals sig ≡ Some there.1 = ap (slice_get net.graph.signals) (let e = there.2 in let f : sig ≡ there.0 = omega arith in f) ∙ there.3 in
    (word.0, word.1 ∙ ap (λ o. option_map_or (λ (s : Signal). s.width) o 1) at ∙ sym (ap (λ o. option_map_or (λ (s : Signal). s.width) o 0) at))

-- ---- in a later graph

module _ (g h : Cells) (grows : Grows g h) where
  reg-kept : (r : Reg) → IsRegOf g r → IsRegOf h r
  reg-kept r is = (subst (λ ss. IsWordOf h r.next (signal_width ss r.sig)) (sym grows.signals) (grows.words r.next (signal_width g.signals r.sig) is.0), grows.words r.clock 1 is.1)

  pub regs-kept : (rs : List Reg) → All (IsRegOf g) rs → All (IsRegOf h) rs
  regs-kept rs fit = All-weaker (IsRegOf g) (IsRegOf h) reg-kept rs fit

  pub cells-kept : (ids : List CellId) → All (λ (i : CellId). i.0 < length g.cells) ids → All (λ (i : CellId). i.0 < length h.cells) ids
  cells-kept ids stand = All-weaker (λ (i : CellId). i.0 < length g.cells) (λ (i : CellId). i.0 < length h.cells) (λ i l. (grows.words i (cell_width g i) (l, refl)).0) ids stand

-- one register more, whose next value and clock were made one after the other
pub one-more : (g h k : Cells) → Grows g h → Grows h k → (rs : List Reg) (sig : ℕ) (next clock : CellId) → All (IsRegOf g) rs
    → IsWordOf h next (signal_width g.signals sig) → IsWordOf k clock 1 → All (IsRegOf k) (rs ++ record { sig = sig; next = next; clock = clock } ∷ [])
one-more g h k first second rs sig next clock fit word bit =
    let grows = grows_trans g h k first second in
    All-push (IsRegOf k) rs (record { sig = sig; next = next; clock = clock }) (regs-kept g k grows rs fit)
    (subst (λ ss. IsWordOf k next (signal_width ss sig)) (sym grows.signals) (second.words next (signal_width g.signals sig) word), bit)

pub one-cell-more : (g h : Cells) → Grows g h → (ids : List CellId) (id : CellId) → All (λ (i : CellId). i.0 < length g.cells) ids → id.0 < length h.cells
    → All (λ (i : CellId). i.0 < length h.cells) (ids ++ id ∷ [])
one-cell-more g h grows ids id stand there = All-push (λ (i : CellId). i.0 < length h.cells) ids id (cells-kept g h grows ids stand) there

-- one name more is met
pub one-name-more : (xs : List Reg) (x : Reg) (ys : List Draft) (i : ℕ) (d : Draft) → i < length ys → x.sig ≡ (get_or ys i d).sig
    → map (λ (r : Reg). r.sig) (xs ++ x ∷ []) ++ map (λ (r : Draft). r.sig) (drop (i + 1) ys) ≡ map (λ (r : Reg). r.sig) xs ++ map (λ (r : Draft). r.sig) (drop i ys)
one-name-more xs x ys i d l e =
    ap (λ ns. ns ++ map (λ (r : Draft). r.sig) (drop (i + 1) ys)) (map-append (λ (r : Reg). r.sig) xs (x ∷ []) ∙ ap (λ n. map (λ (r : Reg). r.sig) xs ++ n ∷ []) e)
    ∙ append_assoc (map (λ (r : Reg). r.sig) xs) ((get_or ys i d).sig ∷ []) (map (λ (r : Draft). r.sig) (drop (i + 1) ys))
    ∙ ap (λ rs. map (λ (r : Reg). r.sig) xs ++ map (λ (r : Draft). r.sig) rs) (sym (drop_more ys i d l))
