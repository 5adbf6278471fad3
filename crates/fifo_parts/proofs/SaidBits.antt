-- The bits of a count that terms say, and the terms that are these bits.
use Rattle.std.proofs.Common.{◌≡◌, ◌∙◌, ◌↔◌, inl, inr, sym, ap, ap₂, refl, subst, ℕ, ◌+◌, ◌<◌, ◌==◌, ◌&&◌, ◌||◌, Bool, true, false, cond, nat_lt, Option, Some, None, List, [], ◌∷◌, Contains, eqb-true, eq-eqb, ltb-true, lt-ltb}
use Rattle.std.specs.Bool.{beq}
use Rattle.std.specs.List.{list_any}
use Rattle.std.proofs.lemmas.Bool.{and_parts}
use Rattle.cdc_base.specs.declared.bit.Bit.{Bit}
use Rattle.cell_graph.specs.declared.cell.Cell.{Cell}
use Rattle.cell_graph.specs.declared.cell.Cell.TheVariants.{Var, Reduce}
use Rattle.cell_graph.specs.declared.cell.Node.{Node}
use Rattle.cell_graph.specs.declared.cell.ReduceKind.TheVariants as kind
use Rattle.cell_graph.specs.Cells.{Cells, cell_at, signal_width}
use Rattle.cell_graph.specs.Origin.{TreeBit}
use Rattle.cell_graph.specs.Tree as tree
use Rattle.cell_graph.specs.Tree.{Tree}
use Rattle.cell_graph.specs.Unfolded.{unfolded, trees, bit_of, IsNodeOf}
use Rattle.cdc_model.proofs.Ascending.{here, later, nothing_in, parts, in_map, from_map}
use Rattle.fifo_terms.specs.Terms as rules
use Rattle.fifo_terms.specs.Terms.{AreOne, HasTerm}
use Rattle.gray_pointer.specs.Words.{IsPlain}
use Rattle.gray_pointer.proofs.Trees.{tree_there, is_var}
use Rattle.fifo_nodes.specs.declared.term.Term.{Term as Found}
use Rattle.fifo_nodes.specs.declared.term.Term.TheVariants.{Is, Differ}
use Rattle.fifo_nodes.specs.Terms.{AreTermsIn, IsTermIn, term_of, terms_of}
use Rattle.fifo_parts.specs.declared.words.Said.{Said}
use Rattle.fifo_parts.specs.Comparisons.{own_bit, var_bit}
use Rattle.fifo_parts.specs.Words.{is_bit, is_said, said_by, said_of}

-- bit i of signal b, of w bits, and the term that it is v
abbrev pub bit_node : (b w i : ℕ) → TreeBit
bit_node b w i = Some (tree.Var b w, i)

abbrev pub bit_term : (b w i : ℕ) → Bool → rules.Term
bit_term b w i v = rules.Is (bit_node b w i) v

pub beq-true : (u v : Bool) → beq u v ≡ true → u ≡ v
beq-true true true e = refl
beq-true true false e = cc
beq-true false true e = cc
beq-true false false e = refl

pub beq-same : (v : Bool) → beq v v ≡ true
beq-same true = refl
beq-same false = refl

-- a term that is one with a term of one node is that term
pub one_is : (t : rules.Term) (n : TreeBit) (v : Bool) → AreOne t (rules.Is n v) → t ≡ rules.Is n v
one_is (rules.Is m u) n v e = ap₂ (λ x y. rules.Is x y) e.0 e.1
one_is (rules.Differ a b u) n v e = absurd e

-- a term of one node is had where it is in the list
pub has_is : (ts : List rules.Term) (n : TreeBit) (v : Bool) → HasTerm ts (rules.Is n v) ↔ Contains ts (rules.Is n v)
has_is ts n v = (λ h. subst (Contains ts) (one_back h.0 h.2) h.1, λ h. (rules.Is n v, h, (refl, refl)))
  where
    one_back : (t : rules.Term) → AreOne (rules.Is n v) t → t ≡ rules.Is n v
    one_back (rules.Is m u) e = ap₂ (λ x y. rules.Is x y) (sym e.0) (sym e.1)
    one_back (rules.Differ a b u) e = absurd e

-- the bit that a cell's bit is itself is of a signal's cell
pub var_is : (c : Cell) (i : ℕ) (b : Bit) → var_bit c i ≡ Some b → (c ≡ Var b.sig) × (i ≡ b.at)
var_is (Var sig) i b e = ((let f : sig ≡ b.sig = cc in ap (λ x. Var x) f), (let f : i ≡ b.at = cc in f))
var_is (Reduce kind.And a) i b e = cc
var_is (Reduce kind.Or a) i b e = cc
var_is (Reduce kind.Xor a) i b e = cc
var_is _ i b e = cc

pub any_in : {A : Type 0} (p : A → Bool) (xs : List A) (x : A) → Contains xs x → p x ≡ true → list_any p xs ≡ true
any_in p [] x h e = absurd (nothing_in x h)
any_in p (y ∷ ys) x h e = elim (parts y ys x h) [
  | inl same ↦ ap (λ b. b || list_any p ys) (ap p same ∙ e)
  | inr i ↦ go (p y) (any_in p ys x i e)
]
  where
    go : (b : Bool) → list_any p ys ≡ true → (b || list_any p ys) ≡ true
    go true f = refl
    go false f = f

pub from_any : {A : Type 0} (p : A → Bool) (xs : List A) → list_any p xs ≡ true → (x : A) × Contains xs x × (p x ≡ true)
from_any p [] e = cc
from_any {A} p (y ∷ ys) e = go (p y) refl e (from_any p ys)
  where
    go : (b : Bool) → p y ≡ b → (b || list_any p ys) ≡ true → (list_any p ys ≡ true → (x : A) × Contains ys x × (p x ≡ true)) → (x : A)
        × Contains (y ∷ ys) x × (p x ≡ true)
    go true f k ih = (y, here y ys, f)
    go false f k ih = let h = ih k in (h.0, later y ys h.0 h.1, h.2)

module _ (g : Cells) (plain : IsPlain g) (count w : ℕ) (wide : signal_width g.signals count ≡ w) where
  -- a node that is a bit of the count is its own bit
  own_count : (n : Node) (i : ℕ) → IsNodeOf g n → bit_of g n ≡ (tree.Var count w, i) → own_bit g n ≡ Some (record { sig = count; at = i })
  own_count n i inside e =
      let is = is_var g plain.well n.cell inside.0 count w (ap (λ p. p.0) e) in
      ap (λ c. var_bit c n.at) is ∙ ap (λ k. Some (let b : Bit = record { sig = count; at = k } in b)) (ap (λ p. p.1) e)

  count_own : (n : Node) (i : ℕ) → IsNodeOf g n → own_bit g n ≡ Some (record { sig = count; at = i }) → bit_of g n ≡ (tree.Var count w, i)
  count_own n i inside e =
      let is = var_is (cell_at g n.cell) n.at (record { sig = count; at = i }) e in
      ap₂ (λ (t : Tree) (k : ℕ). (t, k)) (tree_there g plain.well n.cell inside.0 ∙ ap (unfolded g.signals (trees g)) is.0
      ∙ ap (tree.Var count) wide) is.1

  -- what is said of a bit
  said_is : (o : Option Bit) (u : Bool) (s : Said) → said_of count w o u ≡ Some s → (o ≡ Some (record { sig = count; at = s.at }))
      × (s.at + 1 < w) × (u ≡ s.value)
  said_is None u s e = cc
  said_is (Some b) u s e = go (b.sig == count) refl (nat_lt (b.at + 1) w) refl e
    where
      go : (p : Bool) → (b.sig == count) ≡ p → (q : Bool) → nat_lt (b.at + 1) w ≡ q
          → cond (p && q) (Some (record { at = b.at; value = u })) None ≡ Some s
          → (Some b ≡ Some (record { sig = count; at = s.at })) × (s.at + 1 < w) × (u ≡ s.value)
      go true h true k f =
          let a : b.at ≡ s.at = cc in
          let v : u ≡ s.value = cc in (
            ap₂ (λ x y. Some (let z : Bit = record { sig = x; at = y } in z)) (eqb-true b.sig count h) a,
            subst (λ x. x + 1 < w) a
                (ltb-true (b.at + 1) w k),
            v,
          )
      go true h false k f = cc
      go false h true k f = cc
      go false h false k f = cc

  is_said_of : (o : Option Bit) (u : Bool) (i : ℕ) → o ≡ Some (record { sig = count; at = i }) → i + 1 < w
      → said_of count w o u ≡ Some (record { at = i; value = u })
  is_said_of o u i e lt = ap (λ x. said_of count w x u) e ∙ ap₂ (λ p q. cond (p && q) (Some (let z : Said = record { at = i; value = u } in z))
      None) (eq-eqb count count refl) (lt-ltb (i + 1) w lt)

  -- what a term says is a bit of the count at a value
  pub says_term : (t : Found) (s : Said) → IsTermIn g t → said_by g count w t ≡ Some s → (term_of g t ≡ bit_term count w s.at s.value)
      × (s.at + 1 < w)
  says_term (Is None v) s inside e = cc
  says_term (Is (Some n) v) s inside e =
      let h = said_is (own_bit g n) v s e in
      (ap₂ (λ (x : Tree × ℕ) y. rules.Is (Some x) y) (count_own n s.at inside h.0) h.2, h.1)
  says_term (Differ a b v) s inside e = cc

  pub term_says : (t : Found) (i : ℕ) (v : Bool) → IsTermIn g t → i + 1 < w → term_of g t ≡ bit_term count w i v
      → said_by g count w t ≡ Some (record { at = i; value = v })
  term_says (Is None u) i v inside lt e = cc
  term_says (Is (Some n) u) i v inside lt e =
      let b : bit_of g n ≡ (tree.Var count w, i) = cc in
      let f : u ≡ v = cc in
      is_said_of (own_bit g n) u i (own_count n i inside b) lt ∙ ap (λ x. Some (let z : Said = record { at = i; value = x } in z)) f
  term_says (Differ a b u) i v inside lt e = cc

  is_bit_some : (o : Option Said) (i : ℕ) (v : Bool) → is_bit o i v ≡ true → o ≡ Some (record { at = i; value = v })
  is_bit_some None i v e = cc
  is_bit_some (Some s) i v e =
      let h = and_parts (s.at == i) (beq s.value v) e in
      ap₂ (λ x y. Some (let z : Said = record { at = x; value = y } in z)) (eqb-true s.at i h.0) (beq-true s.value v h.1)

  some_is_bit : (o : Option Said) (i : ℕ) (v : Bool) → o ≡ Some (record { at = i; value = v }) → is_bit o i v ≡ true
  some_is_bit o i v e = ap (λ x. is_bit x i v) e ∙ ap₂ (λ p q. p && q) (eq-eqb i i refl) (beq-same v)

  -- the terms say a bit where they have the term that it is so
  pub said_has : (ts : List Found) (i : ℕ) (v : Bool) → AreTermsIn g ts → is_said g count w ts i v ≡ true
      → Contains (terms_of g ts) (bit_term count w i v)
  said_has ts i v inside e =
      let h = from_any (λ t. is_bit (said_by g count w t) i v) ts e in
      let k = says_term h.0 (record { at = i; value = v }) (inside h.0 h.1) (is_bit_some (said_by g count w h.0) i v h.2) in
      subst (Contains (terms_of g ts)) k.0 (in_map (term_of g) ts h.0 h.1)

  pub has_said : (ts : List Found) (i : ℕ) (v : Bool) → AreTermsIn g ts → i + 1 < w → Contains (terms_of g ts) (bit_term count w i v)
      → is_said g count w ts i v ≡ true
  has_said ts i v inside lt h =
      let k = from_map (term_of g) ts (bit_term count w i v) h in
      any_in (λ t. is_bit (said_by g count w t) i v) ts k.0 k.1 (some_is_bit (said_by g count w k.0) i v (term_says k.0 i v (inside k.0 k.1) lt k.2))
