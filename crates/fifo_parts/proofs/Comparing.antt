-- What flags compare, and the growing tables of what may be flags.
use Rattle.std.proofs.Common.{◌≡◌, ◌∙◌, ◌↔◌, sym, ap, subst, inl, inr, ◌⊎◌, ℕ, ◌<◌, Bool, true, false, not, Option, Some, None, option_map, List}
use Rattle.std.proofs.Common.{map, length, get_or, slice_get, take, Contains, ◌+◌}
use Rattle.cdc_base.specs.declared.bit.Bit.{Bit}
use Rattle.cell_graph.specs.declared.cell.Node.{Node}
use Rattle.cell_graph.specs.declared.net.Net.{Net}
use Rattle.cell_graph.specs.Cells.{Cells}
use Rattle.cell_graph.specs.Origin.{TreeBit}
use Rattle.cell_graph.specs.Unfolded.{bit_of}
use Rattle.cofactor.specs.Shown.{Shown as Rows}
use Rattle.domains.specs.declared.Domains.{Domains}
use Rattle.cdc_model.specs.Nets.{design_of, next_tree}
use Rattle.cdc_model.specs.Schemes.{Sync, last_flop}
use Rattle.cdc_model.proofs.Ascending.{in_map, from_map}
use Rattle.cdc_model.proofs.Justify.{slice_in}
use Rattle.fifo_terms.specs.Codes.{Code}
use Rattle.fifo_terms.specs.Shows.{node_terms, Shows}
use Rattle.fifo_terms.specs.Terms as rules
use Rattle.fifo_terms.specs.Terms.{AreOne, terms}
use Rattle.fifo_laws.specs.Sides.{Side, bit_node, next_code_of}
use Rattle.gray_pointer.specs.Words.{IsIn, IsPlain}
use Rattle.fifo_nodes.specs.declared.term.Term.{Term}
use Rattle.fifo_nodes.specs.declared.term.Term.TheVariants.{Is, Differ}
use Rattle.fifo_nodes.specs.declared.shows.Apart.{Apart}
use Rattle.fifo_nodes.specs.Codes.{apart_of}
use Rattle.fifo_nodes.specs.Nodes.{signal_bit}
use Rattle.fifo_nodes.specs.Terms.{AreTerms, IsTermIn, term_of}
use Rattle.fifo_parts.specs.declared.flags.Comparisons.{Comparisons}
use Rattle.fifo_parts.specs.declared.flags.Flag.{Flag}
use Rattle.fifo_parts.specs.declared.side.Side.{Side as SideEntry}
use Rattle.fifo_parts.specs.Comparisons.{AreComparisons, CompareAll, Compares, Grows, GrowsBy, HasBit, IsAdded, IsAtBit, IsAtClock, IsBitOf}
use Rattle.fifo_parts.specs.Comparisons.{IsFoundBy, IsKeptBy, IsOwn}
use Rattle.fifo_parts.specs.Tellers.{IsFlagBy, IsShown, IsSideOf}
use Rattle.fifo_parts.proofs.OwnBits.{signal_own}
use Rattle.fifo_parts.proofs.Sifted.{next_so_far, so_far_cases, still_so_far}
use Rattle.fifo_parts.proofs.Tests.{flag_by}

-- ---- tables that grow

module _ {K : Type 0} (P : Flag → Type 0) where
  pub grows_not : (old : K → Flag → Type 0) → Grows P old old
  grows_not old = record { kept = λ k f h. h; only = λ k f h. inl h }

  pub grows_then : (a b c : K → Flag → Type 0) → Grows P a b → Grows P b c → Grows P a c
  grows_then a b c g h = record {
    kept = λ k f i. h.kept k f (g.kept k f i);
    only = λ k f i. elim (h.only k f i) [ inl j ↦ g.only k f j | inr p ↦ inr p ];
  }

pub grows_more : {K : Type 0} (P Q : Flag → Type 0) → ((f : Flag) → P f → Q f) → (old new : K → Flag → Type 0) → Grows P old new → Grows Q old new
grows_more P Q h old new g = record {
  kept = g.kept;
  only = λ k f i. elim (g.only k f i) [ inl j ↦ inl j | inr p ↦ inr (h f p) ];
}

pub same_by : (P : Flag → Type 0) (k : Comparisons) → GrowsBy P k k
same_by P k = (grows_not P (IsAtBit k.by_bit), grows_not P (IsAtClock k.by_clock))

pub then_by : (P : Flag → Type 0) (a b c : Comparisons) → GrowsBy P a b → GrowsBy P b c → GrowsBy P a c
then_by P a b c g h = (
  grows_then P (IsAtBit a.by_bit) (IsAtBit b.by_bit) (IsAtBit c.by_bit) g.0 h.0,
  grows_then P (IsAtClock a.by_clock) (IsAtClock b.by_clock) (IsAtClock c.by_clock) g.1 h.1,
)

pub more_by : (P Q : Flag → Type 0) → ((f : Flag) → P f → Q f) → (old new : Comparisons) → GrowsBy P old new → GrowsBy Q old new
more_by P Q h old new g =
    (grows_more P Q h (IsAtBit old.by_bit) (IsAtBit new.by_bit) g.0, grows_more P Q h (IsAtClock old.by_clock) (IsAtClock new.by_clock) g.1)

module _ (P : Flag → Type 0) (old new : Comparisons) (grows : GrowsBy P old new) where
  pub still_found : (bits : List Bit) (c : ℕ) (f : Flag) → IsFoundBy old.by_bit old.by_clock bits c f → IsFoundBy new.by_bit new.by_clock bits c f
  still_found bits c f (inl (b, i, h)) = inl (b, i, grows.0.kept b f h)
  still_found bits c f (inr h) = inr (grows.1.kept c f h)

  pub still_kept : (net : Net) (domains : Domains) (f : Flag) (c : ℕ) (t : rules.Term) → IsKeptBy net domains old.by_bit old.by_clock f c t
      → IsKeptBy net domains new.by_bit new.by_clock f c t
  still_kept net domains f c (rules.Is n v) h = λ bits all. still_found bits c f (h bits all)
  still_kept net domains f c (rules.Differ a b v) h = tt

  pub still_added : (net : Net) (domains : Domains) (f : Flag) → IsAdded net domains old f → IsAdded net domains new f
  still_added net domains f h = λ c e t i. still_kept net domains f c t (h c e t i)

pub each_value : (P : Bool → Type 0) → P false → P true → (v : Bool) → P v
each_value P low high v = go v low high
  where
    go : (u : Bool) → P false → P true → P u
    go false l h = l
    go true l h = h

-- ---- what a term compares

-- a node that is the bit of a signal in the tree is so in the graph
bit_there : (g : Cells) → IsPlain g → (o : Option Node) → IsIn g o → (b : Bit) → option_map (bit_of g) o ≡ signal_bit g b → IsBitOf g o b
bit_there g plain None is b e = cc
bit_there g plain (Some n) is b e = signal_own g plain n is b e

module _ (net : Net) (domains : Domains) (plain : IsPlain net.graph) (ts : List rules.Term) (bits : List Bit) (all : CompareAll net domains ts bits)
    (found : List Term) (are : AreTerms net.graph ts found) where
  -- where each of the terms compares some of the bits, so does each that was found
  pub compares_one : (t : Term) → Contains found t → (b : Bit) × Contains bits b × HasBit net.graph t b
  compares_one t i = let k = all (term_of net.graph t) (are.only (term_of net.graph t) (in_map (term_of net.graph) found t i)) in
      (k.0, k.1, go t (are.within t i) k.0 k.2)
    where
      go : (t : Term) → IsTermIn net.graph t → (b : Bit) → Compares net domains (term_of net.graph t) b → HasBit net.graph t b
      go (Is n v) is b h = h
      go (Differ x y v) is b (inl h) = inl (bit_there net.graph plain x is.0 b h)
      go (Differ x y v) is b (inr h) = inr (bit_there net.graph plain y is.1 b h)

-- ---- flags compare the word that came over

module _ (net : Net) (domains : Domains) (syncs : List Sync) (over : List Bit) (came : over ≡ map last_flop syncs) where
  abbrev came_node : Sync → TreeBit
  came_node y = bit_node (design_of net domains) (last_flop y)

  -- the bit at a place of the word
  bit_at : (ys : List Sync) (i : ℕ) (y : TreeBit) → slice_get (map came_node ys) i ≡ Some y → (b : Bit) × Contains (map last_flop ys) b
      × (y ≡ bit_node (design_of net domains) b)
  bit_at ys i y e =
      let k = from_map came_node ys y (slice_in (map came_node ys) i y e) in
      (last_flop k.0, in_map last_flop ys k.0 k.1, sym k.2)

  one_compares : (t : rules.Term) (x y : TreeBit) (v : Bool) (b : Bit) → AreOne t (rules.Differ x y v) → y ≡ bit_node (design_of net domains) b
      → Compares net domains t b
  one_compares (rules.Is n u) x y v b h e = absurd h
  one_compares (rules.Differ p q u) x y v b (inl h, w) e = inr (h.1 ∙ e)
  one_compares (rules.Differ p q u) x y v b (inr h, w) e = inl (h.0 ∙ e)

  pub shows_compares : (k : Code) (apart : ℕ → ℕ → Bool) (n : TreeBit) (v : Bool) → Shows k (map came_node syncs) apart n v
      → CompareAll net domains (node_terms n v) over
  shows_compares k apart n v shows t i =
      let (place, x, y, l, code, at, one) = shows t i in
      let b = bit_at syncs place y at in
      (b.0, subst (λ (l : List Bit). Contains l b.0) (sym came) b.1, one_compares t x y (apart (length (map came_node syncs)) place) b.0 one b.2)

-- ---- candidates

module _ (at : Bit → Flag → Type 0) (bits : List Bit) (i : ℕ) (d : Bit) (l : i < length bits) (old new : List Flag)
    (so_far : (f : Flag) → Contains old f ↔ ((x : Bit) × Contains (take i bits) x × at x f)) (more : (f : Flag) → Contains new f
    ↔ (Contains old f ⊎ at (get_or bits i d) f)) where
  -- those that one more bit brings
  pub more_at : (f : Flag) → Contains new f ↔ ((x : Bit) × Contains (take (i + 1) bits) x × at x f)
  more_at f = (
    λ h. elim ((more f).0 h) [
      | inl j ↦ let k = (so_far f).0 j in (k.0, still_so_far bits i d l k.0 k.1, k.2)
      | inr j ↦ (get_or bits i d, next_so_far bits i d l, j)
    ],
    λ (x, k, h). elim (so_far_cases bits i d l x k) [
      | inl j ↦ (more f).1 (inl ((so_far f).1 (x, j, h)))
      | inr e ↦ (more f).1 (inr (subst (λ (y : Bit). at y f) (sym e) h))
    ],
  )

module _ (net : Net) (table : Rows) (shown : IsShown net table) (domains : Domains) (k : Comparisons)
    (are : AreComparisons net domains k.by_bit k.by_clock)
    (e : SideEntry) (near far : Side) (side : IsSideOf net domains e near) (over : List Bit) (came : over ≡ map last_flop far.over) (a : Apart) where
  -- each flag is among those found by the word that came over
  pub flag_found : (f : Flag) → IsFlagBy a (design_of net domains) (next_tree net) near far f.bit f.value
      → IsFoundBy k.by_bit k.by_clock over e.clock f
  flag_found f h =
      let flag = (flag_by (design_of net domains) (next_tree net) near far a f.bit f.value h).0 in
      let clock = flag.clock ∙ ap Some side.clock in
      let test = flag.shows.2 in
      let kept = are.compared f e.clock (flag.register, flag.own) clock flag.shows.0 flag.shows.1 in
      subst (λ (t : rules.Term). IsKeptBy net domains k.by_bit k.by_clock f e.clock t) test.2 kept over
      (shows_compares net domains far.over over came (next_code_of (design_of net domains) (next_tree net) near) (apart_of a) test.0
      (not test.1) test.3)

  -- and those are flags of register bits that are no plain copies
  pub found_own : (c : ℕ) (f : Flag) → IsFoundBy k.by_bit k.by_clock over c f → IsOwn net domains f
  found_own c f (inl (b, i, h)) = are.own f b h
  found_own c f (inr h) = are.clocked f c h
