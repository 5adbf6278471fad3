-- What goes through cells that only pass bits on goes by the origin.
use Rattle.std.proofs.Common.{◌≡◌, sym, ap, refl, subst, ℕ, ◌+◌, ◌-◌, Bool, true, false, cond, nat_lt, is_some, Option, Some, None, List, []}
use Rattle.cdc_base.specs.declared.bit.Bit.{Bit}
use Rattle.cell_graph.specs.Cofactor.{known}
use Rattle.cell_graph.specs.Origin.{TreeBit, const_of, origin}
use Rattle.cell_graph.specs.Tree.{Tree, Shl, Shr, Concat, Slice, Extend, width}
use Rattle.fifo_terms.specs.Shows.{node_terms}
use Rattle.fifo_terms.specs.Takes.{Taken, always, taken}
use Rattle.fifo_terms.specs.Terms.{Term, Bare, as_it_is, bare, moved_up, moved_down, unless_known, itself, zero_terms, terms}
use Rattle.gray_pointer.proofs.Bits.{same_tree}
use Rattle.fifo_nodes.specs.Nodes.{passes, bare_bit}
use Rattle.fifo_nodes.specs.Takes.{taken_bit}

pub none_of : (o : Option ℕ) → is_some o ≡ false → o ≡ None
none_of None e = refl
none_of (Some n) e = cc

-- R says of an answer and of an origin that they belong together
module _ {A : Type 0} (R : A → TreeBit → Type 0) where
  either : (v : Bool) (x y : A) (p q : TreeBit) → R x p → R y q → R (cond v x y) (cond v p q)
  either true x y p q h k = h
  either false x y p q h k = k

  up_both : (by : Option ℕ) (i w : ℕ) (own none : A) (own_bit : TreeBit) (at : ℕ → A) (bits : ℕ → TreeBit) → (by ≡ None → R own own_bit)
      → R none None → ((j : ℕ) → R (at j) (bits j))
      → R (moved_up by i w own none at) (moved_up by i w own_bit None bits)
  up_both None i w own none own_bit at bits h z each = h refl
  up_both (Some n) i w own none own_bit at bits h z each =
      either (nat_lt i n) none (cond (nat_lt (i - n) w) (at (i - n)) none) None (cond (nat_lt (i - n) w) (bits (i - n)) None) z
      (either (nat_lt (i - n) w) (at (i - n)) none (bits (i - n)) None (each (i - n)) z)

  down_both : (by : Option ℕ) (i w : ℕ) (own none : A) (own_bit : TreeBit) (at : ℕ → A) (bits : ℕ → TreeBit) → (by ≡ None → R own own_bit)
      → R none None → ((j : ℕ) → R (at j) (bits j))
      → R (moved_down by i w own none at) (moved_down by i w own_bit None bits)
  down_both None i w own none own_bit at bits h z each = h refl
  down_both (Some n) i w own none own_bit at bits h z each =
      either (nat_lt (i + n) w) (at (i + n)) none (bits (i + n)) None (each (i + n)) z

-- ---- terms

abbrev AreTermsOf : Bool → List Term → TreeBit → Type 0
AreTermsOf v ts o = ts ≡ node_terms o v

pub terms_origin : (t : Tree) (i : ℕ) (v : Bool) → terms t i v ≡ node_terms (origin t i) v
terms_origin (Concat high low) i v =
    either (AreTermsOf v) (nat_lt i (width low)) (terms low i v) (terms high (i - width low) v) (origin low i) (origin high (i - width low)) (terms_origin low i v) (terms_origin high (i - width low) v)
terms_origin (Slice a at w) i v = terms_origin a (at + i) v
terms_origin (Extend a w) i v = either (AreTermsOf v) (nat_lt i (width a)) (terms a i v) (zero_terms v) (origin a i) None (terms_origin a i v) refl
terms_origin (Shl a by) i v =
    up_both (AreTermsOf v) (const_of by) i (width a) (unless_known (known [] (Shl a by) i) v (itself (Shl a by) i v)) (zero_terms v) (Some (Shl a by, i)) (λ j. terms a j v) (λ j. origin a j)
    (λ e. sym (ap (λ o. moved_up o i (width a) (unless_known (known [] (Shl a by) i) v (itself (Shl a by) i v)) (zero_terms v) (λ j. terms a j v)) e)) refl (λ j. terms_origin a j v)
terms_origin (Shr a by) i v =
    down_both (AreTermsOf v) (const_of by) i (width a) (unless_known (known [] (Shr a by) i) v (itself (Shr a by) i v)) (zero_terms v) (Some (Shr a by, i)) (λ j. terms a j v) (λ j. origin a j)
    (λ e. sym (ap (λ o. moved_down o i (width a) (unless_known (known [] (Shr a by) i) v (itself (Shr a by) i v)) (zero_terms v) (λ j. terms a j v)) e)) refl (λ j. terms_origin a j v)
terms_origin _ i v = refl

-- ---- inversions

abbrev IsBare : Bare → TreeBit → Type 0
IsBare b o = b ≡ bare_bit o

pub bare_origin : (t : Tree) (i : ℕ) → bare t i ≡ bare_bit (origin t i)
bare_origin (Concat high low) i =
    either IsBare (nat_lt i (width low)) (bare low i) (bare high (i - width low)) (origin low i) (origin high (i - width low)) (bare_origin low i) (bare_origin high (i - width low))
bare_origin (Slice a at w) i = bare_origin a (at + i)
bare_origin (Extend a w) i = either IsBare (nat_lt i (width a)) (bare a i) (as_it_is None) (origin a i) None (bare_origin a i) refl
bare_origin (Shl a by) i =
    up_both IsBare (const_of by) i (width a) (as_it_is (Some (Shl a by, i))) (as_it_is None) (Some (Shl a by, i)) (λ j. bare a j) (λ j. origin a j)
    (λ e. sym (ap (λ o. moved_up o i (width a) (as_it_is (Some (Shl a by, i))) (as_it_is None) (λ j. bare a j)) e)) refl (λ j. bare_origin a j)
bare_origin (Shr a by) i =
    down_both IsBare (const_of by) i (width a) (as_it_is (Some (Shr a by, i))) (as_it_is None) (Some (Shr a by, i)) (λ j. bare a j) (λ j. origin a j)
    (λ e. sym (ap (λ o. moved_down o i (width a) (as_it_is (Some (Shr a by, i))) (as_it_is None) (λ j. bare a j)) e)) refl (λ j. bare_origin a j)
bare_origin _ i = refl

-- ---- what a register bit takes

module _ (x : Bit) where
  abbrev Takes : Taken → TreeBit → Type 0
  Takes k o = k ≡ taken_bit x o

  pub taken_origin : (t : Tree) (i : ℕ) → taken x t i ≡ taken_bit x (origin t i)
  taken_origin (Concat high low) i =
      either Takes (nat_lt i (width low)) (taken x low i) (taken x high (i - width low)) (origin low i) (origin high (i - width low)) (taken_origin low i) (taken_origin high (i - width low))
  taken_origin (Slice a at w) i = taken_origin a (at + i)
  taken_origin (Extend a w) i = either Takes (nat_lt i (width a)) (taken x a i) (always None) (origin a i) None (taken_origin a i) refl
  taken_origin (Shl a by) i =
      up_both Takes (const_of by) i (width a) (always (Some (Shl a by, i))) (always None) (Some (Shl a by, i)) (λ j. taken x a j) (λ j. origin a j)
      (λ e. sym (ap (λ o. moved_up o i (width a) (always (Some (Shl a by, i))) (always None) (λ j. taken x a j)) e)) refl (λ j. taken_origin a j)
  taken_origin (Shr a by) i =
      down_both Takes (const_of by) i (width a) (always (Some (Shr a by, i))) (always None) (Some (Shr a by, i)) (λ j. taken x a j) (λ j. origin a j)
      (λ e. sym (ap (λ o. moved_down o i (width a) (always (Some (Shr a by, i))) (always None) (λ j. taken x a j)) e)) refl (λ j. taken_origin a j)
  taken_origin _ i = refl

-- ---- an origin is a bit of a cell that does more than to pass bits on

abbrev Stops : TreeBit → TreeBit → Type 0
Stops o p = (u : Tree) (j : ℕ) → o ≡ Some (u, j) → passes u ≡ false

stops_at : (t : Tree) (i : ℕ) → passes t ≡ false → Stops (Some (t, i)) None
stops_at t i h u j e = subst (λ (x : Tree). passes x ≡ false) (same_tree t u i j e) h

pub origin_stops : (t : Tree) (i : ℕ) (u : Tree) (j : ℕ) → origin t i ≡ Some (u, j) → passes u ≡ false
origin_stops (Concat high low) i = either Stops (nat_lt i (width low)) (origin low i) (origin high (i - width low)) None None (origin_stops low i)
    (origin_stops high (i - width low))
origin_stops (Slice a at w) i = origin_stops a (at + i)
origin_stops (Extend a w) i = either Stops (nat_lt i (width a)) (origin a i) None None None (origin_stops a i) (λ u j e. cc)
origin_stops (Shl a by) i =
    up_both Stops (const_of by) i (width a) (Some (Shl a by, i)) None None (λ j. origin a j) (λ j. None) (λ e. stops_at (Shl a by) i (ap is_some e)) (λ u j e. cc) (λ j. origin_stops a j)
origin_stops (Shr a by) i =
    down_both Stops (const_of by) i (width a) (Some (Shr a by, i)) None None (λ j. origin a j) (λ j. None) (λ e. stops_at (Shr a by) i (ap is_some e)) (λ u j e. cc) (λ j. origin_stops a j)
origin_stops t i = stops_at t i refl
