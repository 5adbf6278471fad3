-- The trees of registers and outputs, one by one.
use Rattle.std.proofs.Common.{◌≡◌, ◌∙◌, refl, sym, ap, ap₂, subst, arith, ℕ, zero, suc, ◌+◌, ◌<◌, ◌≤◌, ◌⊎◌, inl, inr, List, [], ◌∷◌, ◌++◌, length, map, drop, take, get_or, All, Option}
use Rattle.std.specs.List.{Contains}
use Rattle.std.proofs.lemmas.List.{append_assoc, drop_more, map-append, take_more}
use Rattle.std.proofs.lemmas.List.Elements.{Contains-append_left, Contains-append_right, All-head, All-push, All-tail, All-weaker}
use Rattle.std.proofs.lemmas.Option.{slice_get-get_or}
use Rattle.cdc_base.specs.declared.signal.Signal.{Signal}
use Rattle.cell_graph.specs.declared.cell.CellId.{CellId}
use Rattle.cell_graph.specs.declared.net.Reg.{Reg}
use Rattle.cell_graph.specs.Cells.{Cells, cell_width, signal_width}
use Rattle.cell_graph.specs.Tree.{Tree}
use Rattle.cell_graph.specs.Unfolded.{IsWellFormed, tree_of}
use Rattle.cell_graph.proofs.Grown.{cell-sized}
use Rattle.flat_meaning.specs.Design.{Flat, size_in}
use Rattle.flat_meaning.specs.SignalTrees.{clock_tree_of, next_tree_of}
use Rattle.flat_meaning.specs.Trees.{Selects}
use Rattle.driver_trees.specs.declared.draft.Draft.{Draft}
use Rattle.driver_trees.specs.declared.sketch.Sketch.{Sketch}
use Rattle.driver_trees.specs.Drafts.{IsDraftOf, tree_in, width_at}
use Rattle.driver_trees.specs.Sketches.{IsSketchOf}
use Rattle.driver_loops.proofs.Members.{take_cases}
use Rattle.elaborate.specs.declared.lower.Tree.{Tree as Lowered}
use Rattle.elaborate.specs.Grown.{Grows}
use Rattle.elaborate.specs.Lowered.{AreMet, AreNeeded, IsMet, Knows}
use Rattle.elaborate.specs.NetTrees.{IsRegisterOf}
use Rattle.elaborate.specs.Words.{as_word}
use Rattle.elaborate.proofs.Grown.{grows_trans}
use Rattle.elaborate.proofs.Vertices.{word-wide}

-- ---- registers

pub register-kept : (f : Flat) (sel : Selects) (g h : Cells) → Grows g h → (r : Reg) → IsRegisterOf f sel g r → IsRegisterOf f sel h r
register-kept f sel g h grows r is = record {
  next_stands = (grows.words r.next (cell_width g r.next) (is.next_stands, refl)).0;
  clock_stands = (grows.words r.clock (cell_width g r.clock) (is.clock_stands, refl)).0;
  next = grows.trees r.next is.next_stands ∙ is.next;
  clock = grows.trees r.clock is.clock_stands ∙ is.clock;
}

-- one register more, whose next value and clock were made one after the other
pub register-more : (f : Flat) (sel : Selects) (g h k : Cells) → Grows g h → Grows h k → (rs : List Reg) (sig : ℕ) (next clock : CellId) → All (IsRegisterOf f sel g) rs
    → next.0 < length h.cells → clock.0 < length k.cells → tree_of h next ≡ next_tree_of f sel sig → tree_of k clock ≡ clock_tree_of f sel sig
    → All (IsRegisterOf f sel k) (rs ++ record { sig = sig; next = next; clock = clock } ∷ [])
register-more f sel g h k first second rs sig next clock all there here tree pin =
    All-push (IsRegisterOf f sel k) rs (record { sig = sig; next = next; clock = clock })
    (All-weaker (IsRegisterOf f sel g) (IsRegisterOf f sel k) (register-kept f sel g k (grows_trans g h k first second)) rs all)
    (record {
      next_stands = (second.words next (cell_width h next) (there, refl)).0;
      clock_stands = here;
      next = second.trees next there ∙ tree;
      clock = pin;
    })

-- a register's next value has the register's bits
pub next-wide : (f : Flat) (words : List Signal) → words ≡ map as_word f.signals → (ds : List Draft) (next : CellId) (sig : ℕ) → IsDraftOf ds next (size_in f sig)
    → (g : Cells) → IsWellFormed g → (ts : List (Option Lowered)) (t : Tree) → IsMet g ts next.0 t (width_at ds next) → width_at ds next ≡ signal_width words sig
next-wide f words e ds next sig is g well ts t met =
    let sized = cell-sized g well met.made.cell in
    let wide = met.is.word.1 in
    let same = is.1 in
    same ∙ sym (word-wide f.signals sig (omega arith) (omega arith)) ∙ sym (ap (λ ss. signal_width ss sig) e)

-- ---- outputs

map-kept : (g h : Cells) → Grows g h → (ids : List CellId) → All (λ (i : CellId). i.0 < length g.cells) ids → map (tree_of h) ids ≡ map (tree_of g) ids
map-kept g h grows [] stand = refl
map-kept g h grows (id ∷ ids) stand =
    ap₂ (λ t ts. t ∷ ts) (grows.trees id (All-head (λ (i : CellId). i.0 < length g.cells) id ids stand)) (map-kept g h grows ids (All-tail (λ (i : CellId). i.0 < length g.cells) id ids stand))

-- one output more
pub one-tree-more : (g h : Cells) → Grows g h → (t : CellId → Tree) (outs : List CellId) (cell : CellId) (items : List CellId) (k : ℕ) (d : CellId) → All (λ (i : CellId). i.0 < length g.cells) outs
    → k < length items → tree_of h cell ≡ t (get_or items k d) → map (tree_of h) (outs ++ cell ∷ []) ++ map t (drop (k + 1) items) ≡ map (tree_of g) outs ++ map t (drop k items)
one-tree-more g h grows t outs cell items k d stand l e =
    ap (λ ts. ts ++ map t (drop (k + 1) items)) (map-append (tree_of h) outs (cell ∷ []) ∙ ap₂ (λ ts x. ts ++ x ∷ []) (map-kept g h grows outs stand) e)
    ∙ append_assoc (map (tree_of g) outs) (t (get_or items k d) ∷ []) (map t (drop (k + 1) items))
    ∙ ap (λ is. map (tree_of g) outs ++ map t is) (sym (drop_more items k d l))

-- ---- fronts of lists

-- what holds of the first k items and of the next one
pub all-more : {A : Type 0} (P Q : A → Type 0) → ((x : A) → P x → Q x) → (xs : List A) (k : ℕ) (d : A) → k < length xs → All P (take k xs) → Q (get_or xs k d) → All Q (take (k + 1) xs)
all-more P Q step xs k d l all next = subst (All Q) (sym (take_more xs k d l)) (All-push Q (take k xs) (get_or xs k d) (All-weaker P Q step (take k xs) all) next)

pub take-whole : {A : Type 0} (xs : List A) (n : ℕ) → length xs ≤ n → take n xs ≡ xs
take-whole [] zero l = refl
take-whole [] (suc n) l = refl
take-whole (x ∷ xs) zero l = absurd (omega arith)
take-whole (x ∷ xs) (suc n) l = ap (λ ys. x ∷ ys) (take-whole xs n (omega arith))

-- what is known of each item before a place is known of the next one too, unless it is the one at that place
pub next-known : (xs : List ℕ) (k x : ℕ) (P : ℕ → Type 0) → k < length xs → ((y : ℕ) → Contains (take k xs) y → P y) → Contains (take (k + 1) xs) x → (x ≡ get_or xs k 0) ⊎ P x
next-known xs k x P l before has = elim (take_cases xs k (get_or xs k 0) x (slice_get-get_or xs k 0 l) has) [
  | inl old ↦ inr (before x old)
  | inr e ↦ inl (sym e)
]

pub drop-whole : {A : Type 0} (xs : List A) (n : ℕ) → length xs ≤ n → drop n xs ≡ []
drop-whole [] zero l = refl
drop-whole [] (suc n) l = refl
drop-whole (x ∷ xs) zero l = absurd (omega arith)
drop-whole (x ∷ xs) (suc n) l = drop-whole xs n (omega arith)

pub last-in : {A : Type 0} (xs : List A) (x : A) → Contains (xs ++ x ∷ []) x
last-in xs x = Contains-append_right xs (x ∷ []) x (0, (omega arith), refl)

-- two numbers more at the end of a list
pub both-listed : (old mid new : List ℕ) (a b : ℕ) → mid ≡ old ++ a ∷ [] → new ≡ mid ++ b ∷ [] → Contains new a × Contains new b × ((x : ℕ) → Contains old x → Contains new x)
both-listed old mid new a b e f =
    let there = λ (x : ℕ) (h : Contains mid x). subst (λ xs. Contains xs x) (sym f) (Contains-append_left mid (b ∷ []) x h) in (
      there a (subst (λ xs. Contains xs a) (sym e) (last-in old a)),
      subst (λ xs. Contains xs b) (sym f) (last-in mid b),
      λ x h. there x (subst (λ xs. Contains xs x) (sym e) (Contains-append_left old (a ∷ []) x h)),
    )

-- ---- what the order has was met

pub all-met : (f : Flat) (sel : Selects) (ds : List Draft) (s : Sketch) → IsSketchOf f ds s → (order : List ℕ) → AreNeeded s order → (g : Cells) (ts : List (Option Lowered))
    → ((v : ℕ) → Contains order v → Knows sel ds s.pieces.items g ts v) → AreMet sel ds s g ts
all-met f sel ds s sketch order needed g ts known = record {
  registers = λ k d l.
      let r = sketch.registers k d l in let n = needed.registers k d l in
      ((known _ n.0).draft _ refl r.next.0, (known _ n.1).draft _ refl r.clock.0);
  outputs = λ k d l. (known _ (needed.outputs k d l)).draft _ refl (sketch.outputs_stand k d l).0;
}
