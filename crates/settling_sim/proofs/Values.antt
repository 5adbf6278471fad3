-- The values of register bits, by the values of all cells.
use Rattle.std.proofs.Common.{◌≡◌, ◌≢◌, ◌∙◌, ℕ, zero, suc, ◌<◌, ◌≤◌, ◌^◌, ◌==◌, Bool, true, false, cond, not, ◌&&◌, ◌||◌, nat_lt, List, [], ◌∷◌, length, map, get_or, Contains, Option, Some, None, refl, sym, ap, subst, arith, eqb-true, ltb-true}
use Rattle.std.specs.Prelude.{is_some, unwrap_or, slice_get, All}
use Rattle.std.specs.Option.{option_map_or}
use Rattle.std.proofs.lemmas.Bool.{and_parts, eqb-false}
use Rattle.std.proofs.lemmas.List.{length-set}
use Rattle.std.proofs.lemmas.List.Elements.{All-head, All-tail}
use Rattle.std.proofs.lemmas.Option.{slice_get_within}
use Rattle.cdc_base.specs.declared.bit.Bit.{Bit}
use Rattle.cdc_base.specs.declared.signal.Signal.{Signal}
use Rattle.cell_graph.specs.declared.cell.CellId.{CellId}
use Rattle.cell_graph.specs.declared.net.Net.{Net}
use Rattle.cell_graph.specs.declared.net.Reg.{Reg}
use Rattle.cell_graph.specs.Cells.{Cells, cell_width}
use Rattle.cell_graph.specs.Reading.{Reading, bit_eq}
use Rattle.cell_graph.specs.Tree.{Tree, bit, bit_at, number, width}
use Rattle.cell_graph.specs.Unfolded.{trees, tree_of, tree_at}
use Rattle.cell_graph.specs.Values.{AreWordsOf, word_at, reading_of, tree_value, values_of}
use Rattle.cell_graph.proofs.Bits.{bit_eq-true}
use Rattle.cell_graph.proofs.CellValues.{length-trees}
use Rattle.cell_graph.proofs.Sound.{reads_sound}
use Rattle.cell_graph.proofs.Trees.{width-tree_of}
use Rattle.cell_graph.proofs.Words.{bit-number}
use Rattle.cdc_model.specs.Design.{flipped}
use Rattle.cdc_model.specs.Nets.{next_cell, next_tree, tree_or_zero, is_register_bit, is_within, bit_count}
use Rattle.cdc_model.specs.Replay.{has_bit}
use Rattle.settling_sim.specs.Reader.{next_in, next_with}
use Rattle.settling_sim.specs.Runs.{HasCells}
use Rattle.settling_sim.specs.Words.{with_bit, put_bit, flip_in}
use Rattle.settling_sim.proofs.Words.{reading-put, with-lt, word-set_same, word-set_other}

-- readings that agree give a tree one value
pub tree-same : (r q : Reading) (t : Tree) (i : ℕ) → ((b : Bit) → r b ≡ q b) → bit r t i ≡ bit q t i
tree-same r q t i agree = reads_sound [] r q tt tt t i (λ b h. agree b)

pub map-get : {A : Type 0} (f : A → ℕ) (xs : List A) (i : ℕ) (d : A) → i < length xs → word_at (map f xs) i ≡ f (unwrap_or (slice_get xs i) d)
map-get f [] i d h = absurd (omega arith)
map-get f (x ∷ xs) zero d h = refl
map-get f (x ∷ xs) (suc i) d h = map-get f xs i d (omega arith)

-- a bit of a cell's value is that of its tree
pub cell-bit : (g : Cells) (words : List ℕ) (id : CellId) (i : ℕ) → id.0 < length g.cells → i < cell_width g id
    → bit_at (word_at (values_of g words) id.0) i ≡ bit (reading_of words) (tree_of g id) i
cell-bit g words id i h l =
    let there = length-trees g in
    let wide = width-tree_of g id in
    ap (λ n. bit_at n i) (map-get (tree_value (reading_of words)) (trees g) id.0 (Tree.Const 1 0) (omega arith))
    ∙ bit-number (bit (reading_of words) (tree_of g id)) (width (tree_of g id)) i (omega arith)

-- ---- registers

pub record IsNext (net : Net) (x : Bit) : Type 0 where
  pub cell : CellId
  pub is : next_cell net.regs x.sig ≡ Some cell
  pub there : cell.0 < length net.graph.cells
  pub within : x.at < cell_width net.graph cell

pub found-register : (regs : List Reg) (sig : ℕ) → is_some (next_cell regs sig) ≡ true → (r : Reg) × Contains regs r × (r.sig ≡ sig) × (next_cell regs sig ≡ Some r.next)
found-register [] sig h = cc
found-register (r ∷ rs) sig h = go (r.sig == sig) refl h (found-register rs sig)
  where
    go : (t : Bool) → (r.sig == sig) ≡ t → is_some (cond t (Some r.next) (next_cell rs sig)) ≡ true
        → (is_some (next_cell rs sig) ≡ true → (q : Reg) × Contains rs q × (q.sig ≡ sig) × (next_cell rs sig ≡ Some q.next))
        → (q : Reg) × Contains (r ∷ rs) q × (q.sig ≡ sig) × (cond (r.sig == sig) (Some r.next) (next_cell rs sig) ≡ Some q.next)
    go true e h ih = (r, (0, omega arith, refl), eqb-true r.sig sig e, ap (λ t. cond t (Some r.next) (next_cell rs sig)) e)
    go false e h ih =
        let k = ih h in
        (k.0, (suc k.1.0, (let l = k.1.1 in omega arith), k.1.2), k.2, ap (λ t. cond t (Some r.next) (next_cell rs sig)) e ∙ k.3)

pub next-of : (net : Net) (x : Bit) → HasCells net → is_register_bit net x ≡ true → IsNext net x
next-of net x runs h =
    let p = and_parts (is_some (next_cell net.regs x.sig)) (is_within net x) h in
    let r = found-register net.regs x.sig p.0 in
    let fits = runs.registers r.0 r.1 in
    let same : bit_count net.graph.signals r.0.sig ≡ bit_count net.graph.signals x.sig = ap (bit_count net.graph.signals) r.2 in
    let l = ltb-true x.at (bit_count net.graph.signals x.sig) p.1 in
    record { cell = r.0.next; is = r.3; there = fits.0; within = omega (arith, fits.1) }

-- a register bit's node has the value of its next tree
pub next-bit : (net : Net) (words : List ℕ) (x : Bit) → HasCells net → is_register_bit net x ≡ true
    → next_in (values_of net.graph words) net.regs x ≡ bit (reading_of words) (next_tree net x.sig) x.at
next-bit net words x runs h =
    let n = next-of net x runs h in
    ap (λ o. option_map_or (λ (c : CellId). bit_at (word_at (values_of net.graph words) c.0) x.at) o false) n.is
    ∙ cell-bit net.graph words n.cell x.at n.there n.within
    ∙ ap (λ o. bit (reading_of words) (tree_or_zero net.graph o) x.at) (sym n.is)

-- ---- flipped words

abbrev pub HasPlace : ℕ → Bit → Type 0
HasPlace n b = (b.sig < n) × (b.at < 64)

-- words whose bits of a list are flipped give the flipped reading
pub flip-reading : (words flips : List ℕ) (bs : List Bit) (a : Bit) → All (HasPlace (length words)) bs → length flips ≡ length words
    → reading_of (flip_in words flips bs) a ≡ cond (has_bit bs a) (not (reading_of words a)) (reading_of flips a)
flip-reading words flips [] a all e = refl
flip-reading words flips (b ∷ bs) a all e =
    flip-reading words (put_bit flips b (not (reading_of words b))) bs a (All-tail (HasPlace (length words)) b bs all) (length-put ∙ e)
    ∙ ap (cond (has_bit bs a) (not (reading_of words a))) (reading-put flips b a (not (reading_of words b)) (let l = place.0 in omega arith) place.1)
    ∙ go (bit_eq b a) refl
  where
    place : HasPlace (length words) b
    place = All-head (HasPlace (length words)) b bs all

    length-put : length (put_bit flips b (not (reading_of words b))) ≡ length flips
    length-put = length-set flips b.sig _

    alike : (t v w : Bool) → v ≡ w → cond t (not w) (not v) ≡ not w
    alike true v w f = refl
    alike false v w f = ap not f

    go : (t : Bool) → bit_eq b a ≡ t → cond (has_bit bs a) (not (reading_of words a)) (cond t (not (reading_of words b)) (reading_of flips a))
        ≡ cond (t || has_bit bs a) (not (reading_of words a)) (reading_of flips a)
    go true f = alike (has_bit bs a) (reading_of words b) (reading_of words a) (ap (reading_of words) (bit_eq-true b a f))
    go false f = refl

pub flip-length : (words flips : List ℕ) (bs : List Bit) → length (flip_in words flips bs) ≡ length flips
flip-length words flips [] = refl
flip-length words flips (b ∷ bs) = flip-length words (put_bit flips b (not (reading_of words b))) bs ∙ length-set flips b.sig _

-- a bit of the net has a place
pub place-of : (net : Net) (words : List ℕ) (b : Bit) → HasCells net → length words ≡ length net.graph.signals → is_within net b ≡ true → HasPlace (length words) b
place-of net words b runs e h = go (slice_get net.graph.signals b.sig) refl (ltb-true b.at (bit_count net.graph.signals b.sig) h)
  where
    go : (o : Option Signal) → slice_get net.graph.signals b.sig ≡ o → b.at < option_map_or (λ (s : Signal). s.width) (slice_get net.graph.signals b.sig) 0 → HasPlace (length words) b
    go None f l = let none : b.at < 0 = subst (λ (q : Option Signal). b.at < option_map_or (λ (s : Signal). s.width) q 0) f l in absurd (omega arith)
    go (Some s) f l =
        let at : b.at < s.width = subst (λ (q : Option Signal). b.at < option_map_or (λ (s : Signal). s.width) q 0) f l in
        let wide = runs.graph.signals b.sig s f in
        let there = slice_get_within net.graph.signals b.sig s f in
        ((omega (arith, there)), (omega (arith, wide.1)))

-- a bit that is put leaves words of their signals
pub put-words : (net : Net) (words : List ℕ) (b : Bit) (v : Bool) → AreWordsOf net.graph.signals words → is_within net b ≡ true → AreWordsOf net.graph.signals (put_bit words b v)
put-words net words b v are h = record {
  counted = length-set words b.sig _ ∙ are.counted;
  fit = λ sig s e. go (b.sig == sig) sig refl s e;
}
  where
    go : (t : Bool) (sig : ℕ) → (b.sig == sig) ≡ t → (s : Signal) → slice_get net.graph.signals sig ≡ Some s → word_at (put_bit words b v) sig < 2 ^ s.width
    go true sig f s e =
        let same = eqb-true b.sig sig f in
        let l : b.at < s.width = subst (λ (q : Option Signal). b.at < option_map_or (λ (s : Signal). s.width) q 0) (ap (slice_get net.graph.signals) same ∙ e) (ltb-true b.at (bit_count net.graph.signals b.sig) h) in
        let old : word_at words b.sig < 2 ^ s.width = are.fit b.sig s (ap (slice_get net.graph.signals) same ∙ e) in
        let there = slice_get_within net.graph.signals b.sig s (ap (slice_get net.graph.signals) same ∙ e) in
        subst (λ (k : ℕ). word_at (put_bit words b v) k < 2 ^ s.width) same
        (subst (λ (n : ℕ). n < 2 ^ s.width) (sym (word-set_same words b.sig (with_bit (word_at words b.sig) b.at v) (omega (arith, there, are.counted)))) (with-lt (word_at words b.sig) b.at s.width v old l))
    go false sig f s e =
        subst (λ (n : ℕ). n < 2 ^ s.width) (sym (word-set_other words b.sig sig (with_bit (word_at words b.sig) b.at v) (eqb-false b.sig sig f))) (are.fit sig s e)

-- with their bits flipped, words still are those of their signals
pub flip-words : (net : Net) (words flips : List ℕ) (bs : List Bit) → HasCells net → AreWordsOf net.graph.signals flips → All (λ (b : Bit). is_within net b ≡ true) bs
    → AreWordsOf net.graph.signals (flip_in words flips bs)
flip-words net words flips [] runs are all = are
flip-words net words flips (b ∷ bs) runs are all =
    flip-words net words (put_bit flips b (not (reading_of words b))) bs runs (put-words net flips b (not (reading_of words b)) are (All-head (λ (b : Bit). is_within net b ≡ true) b bs all))
    (All-tail (λ (b : Bit). is_within net b ≡ true) b bs all)

-- the value that a register bit takes with some bits flipped, by the values of all cells
pub next-flipped : (net : Net) (words : List ℕ) (bs : List Bit) (x : Bit) → HasCells net → AreWordsOf net.graph.signals words → All (λ (b : Bit). is_within net b ≡ true) bs
    → is_register_bit net x ≡ true
    → next_in (values_of net.graph (flip_in words words bs)) net.regs x ≡ next_with net words bs x
next-flipped net words bs x runs are all h =
    next-bit net (flip_in words words bs) x runs h
    ∙ tree-same (reading_of (flip_in words words bs)) (flipped (has_bit bs) (reading_of words)) (next_tree net x.sig) x.at
    (λ a. flip-reading words words bs a (λ k d l. place-of net words (get_or bs k d) runs are.counted (all k d l)) refl)

pub no-bits : {A : Type 0} (xs : List A) → (length xs == 0) ≡ true → xs ≡ []
no-bits [] h = refl
no-bits (x ∷ xs) h = absurd (let none = eqb-true (length (x ∷ xs)) 0 h in omega arith)

-- and with none
pub next-plain : (net : Net) (words : List ℕ) (x : Bit) → HasCells net → is_register_bit net x ≡ true
    → next_in (values_of net.graph words) net.regs x ≡ next_with net words [] x
next-plain net words x runs h = next-bit net words x runs h
