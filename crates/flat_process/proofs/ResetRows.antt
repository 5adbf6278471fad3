-- The rows of a reset's branch: what each gives, one after another.
use Rattle.std.proofs.Common.{◌≡◌, ℕ, ◌/◌, ◌^◌, Bool, true, false, cond, not, ◌&&◌, List, [], ◌++◌, length, max, Option, Some, None, is_some, refl, sym, ap, ap₂, subst, ◌∙◌, arith, append_assoc, append-nil}
use Rattle.std.proofs.Math.Nat.{div-one}
use Rattle.std.proofs.lemmas.Bool.{false≢true}
use Rattle.verilog_reading.specs.ExprTree.{ExprTree, TargetTree}
use Rattle.verilog_reading.specs.StmtTree.{StmtTree, set, StmtTrees, no_rows, and_rows}
use Rattle.cell_graph.specs.Tree.{number}
use Rattle.flat_meaning.specs.Flat.{Target, target_size}
use Rattle.flat_meaning.specs.Meaning.{value}
use Rattle.flat_meaning.specs.Full.{nothing}
use Rattle.flat_form.specs.declared.flat.FExpr.{FExpr}
use Rattle.flat_form.specs.View.{expr_of}
use Rattle.flat_form.specs.Sizes.{kept_of, is_sized}
use Rattle.flat_form.proofs.Sized.{sized_width}
use Rattle.flat_unfolding.specs.Names.{Look, width_at}
use Rattle.flat_unfolding.specs.Constants.{assigned_value, both}
use Rattle.flat_unfolding.specs.Expressions.{Term, is_sound, read}
use Rattle.flat_unfolding.specs.Targets.{Aim, of_registers, aim}
use Rattle.flat_unfolding.specs.Resets.{given_to, has_variable_index, row_given, rows_given}
use Rattle.flat_unfolding.specs.Formed.{AreRowsFormed}
use Rattle.flat_unfolding.specs.Design as u
use Rattle.flat_process.specs.declared.reset.Given.{Given}
use Rattle.flat_process.specs.Resets.{AreGiven, AreGivenIf, AddsGiven, Gives, given_by}

-- ---- a constant

pub constant-is : (x : FExpr) (w word : ℕ) → is_sized x ≡ true → word ≡ number (value nothing (expr_of x) (max w (kept_of x).width)) w → word ≡ assigned_value (expr_of x) w
constant-is x w word h e = e ∙ ap (λ k. number (value nothing (expr_of x) (max w k)) w) (sized_width x h)

pub some-bits : (o : Option ℕ) → is_some o ≡ true → (w : ℕ) × (o ≡ Some w)
some-bits None e = absurd (false≢true e)
some-bits (Some w) e = (w, refl)

module _ (l : Look) where
  abbrev by_bits : Term → Option ℕ → Target → List u.Given
  by_bits v None t = []
  by_bits v (Some w) t = cond (is_sound v) (given_to l t (assigned_value v.expr w)) []

  pub given-sound : (v : Term) (a : Aim) (w : ℕ) → a.bits ≡ Some w → is_sound v ≡ true → given_by l v a ≡ given_to l a.target (assigned_value v.expr w)
  given-sound v a w e s = ap (λ o. by_bits v o a.target) e ∙ ap (λ b. cond b (given_to l a.target (assigned_value v.expr w)) []) s

-- a target of as many bits as the word gets all of it
pub gives-all : (l : Look) (us : List u.Given) (t : Target) (word top rest : ℕ) (gs : List Given) → Gives l us t word top rest gs → target_size (width_at l.entries) t ≡ top → AreGiven (length l.entries) (us ++ given_to l t word) gs
gives-all l us t word top rest gs h e =
    let left = h.left in
    let none : rest ≡ 0 = omega arith in
    subst (λ k. AreGiven (length l.entries) (us ++ given_to l t k) gs) (ap (λ k. word / 2 ^ k) none ∙ div-one word) h.given

-- ---- a row

module _ (l : Look) (t : TargetTree) (e : ExprTree) (h : has_variable_index l t ≡ false) where
  row-by : (b : Bool) → (read l e).is_constant ≡ b → row_given l (set false None t e) ≡ cond (b && true) (Some (given_by l (read l e) (aim l of_registers t))) None
  row-by b c = ap₂ (λ x y. cond (x && not y) (Some (given_by l (read l e) (aim l of_registers t))) None) c h

  pub adds-constant : (us : List u.Given) (gs : List Given) (b : Bool) → b ≡ (read l e).is_constant → b ≡ true → AreGiven (length l.entries) (us ++ given_by l (read l e) (aim l of_registers t)) gs
      → AddsGiven (length l.entries) us (row_given l (set false None t e)) b gs
  adds-constant us gs b c d k = subst (λ o. AddsGiven (length l.entries) us o b gs) (sym (row-by true (sym c ∙ d))) (d, k)

  pub adds-nothing : (us : List u.Given) (gs : List Given) (b : Bool) → b ≡ (read l e).is_constant → b ≡ false → AddsGiven (length l.entries) us (row_given l (set false None t e)) b gs
  adds-nothing us gs b c d = subst (λ o. AddsGiven (length l.entries) us o b gs) (sym (row-by false (sym c ∙ d))) d

-- ---- all rows

abbrev pub in_order : Option (List u.Given) → Option (List u.Given) → Option (List u.Given)
in_order o p = both (λ g h. g ++ h) o p

order-three : (us vs : List u.Given) (o : Option (List u.Given)) → in_order (Some us) (in_order (Some vs) o) ≡ in_order (Some (us ++ vs)) o
order-three us vs None = refl
order-three us vs (Some ws) = ap Some (sym (append_assoc us vs ws))

-- rows that gave their values, where `later` are left
pub record RowsSoFar (l : Look) (all later : StmtTrees) (gs : List Given) : Type 0 where
  pub so_far : List u.Given
  pub are : AreGiven (length l.entries) so_far gs
  pub reaches : in_order (Some so_far) (rows_given l later) ≡ rows_given l all
  pub formed : AreRowsFormed later

module _ (l : Look) (all : StmtTrees) where
  start-order : (o : Option (List u.Given)) → in_order (Some []) o ≡ o
  start-order None = refl
  start-order (Some us) = refl

  pub rows-start : (gs : List Given) → gs ≡ [] → AreRowsFormed all → RowsSoFar l all all gs
  rows-start gs e h = record { so_far = []; are = subst (AreGiven (length l.entries) []) (sym e) tt; reaches = start-order (rows_given l all); formed = h }

  pub rows-next : (s : StmtTree) (later : StmtTrees) (gs hs : List Given) (b : Bool) → (r : RowsSoFar l all (and_rows s later) gs) → AddsGiven (length l.entries) r.so_far (row_given l s) b hs → b ≡ true → RowsSoFar l all later hs
  rows-next s later gs hs b r a t = go (row_given l s) refl a
    where
      go : (o : Option (List u.Given)) → row_given l s ≡ o → AddsGiven (length l.entries) r.so_far o b hs → RowsSoFar l all later hs
      go None e a = absurd (false≢true (sym a ∙ t))
      go (Some vs) e a = record {
        so_far = r.so_far ++ vs;
        are = a.1;
        reaches = sym (order-three r.so_far vs (rows_given l later)) ∙ ap (λ o. in_order (Some r.so_far) (in_order o (rows_given l later))) (sym e) ∙ r.reaches;
        formed = r.formed.1;
      }

  pub rows-stop : (s : StmtTree) (later : StmtTrees) (gs hs : List Given) (b : Bool) → (r : RowsSoFar l all (and_rows s later) gs) → AddsGiven (length l.entries) r.so_far (row_given l s) b hs → b ≡ false → AreGivenIf (length l.entries) (rows_given l all) None
  rows-stop s later gs hs b r a t = go (row_given l s) refl a
    where
      go : (o : Option (List u.Given)) → row_given l s ≡ o → AddsGiven (length l.entries) r.so_far o b hs → AreGivenIf (length l.entries) (rows_given l all) None
      go None e a = subst (λ o. AreGivenIf (length l.entries) o None) (ap (λ o. in_order (Some r.so_far) (in_order o (rows_given l later))) (sym e) ∙ r.reaches) tt
      go (Some vs) e a = absurd (false≢true (sym t ∙ a.0))

  pub rows-all : (gs : List Given) → RowsSoFar l all no_rows gs → AreGivenIf (length l.entries) (rows_given l all) (Some gs)
  rows-all gs r = subst (λ o. AreGivenIf (length l.entries) o (Some gs)) r.reaches (subst (λ us. AreGiven (length l.entries) us gs) (sym (append-nil r.so_far)) r.are)
