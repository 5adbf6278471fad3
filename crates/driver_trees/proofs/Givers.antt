-- What several processes give a register, as numbered words.
use Rattle.std.proofs.Common.{◌≡◌, ℕ, zero, suc, ◌+◌, ◌<◌, ◌≤◌, Bool, true, false, cond, not, nat_lt, List, [], ◌∷◌, length, Some, None, slice_get, unwrap_or, refl, sym, ap, ap₂, subst, ◌∙◌, arith, eq-eqb}
use Rattle.std.proofs.lemmas.Bool.{ltb-false}
use Rattle.std.proofs.lemmas.Option.{same_Some}
use Rattle.std.proofs.lemmas.List.Recursion.{is_position_or_len}
use Rattle.std.proofs.lemmas.List.Sums.{prefix_len-le-length}
use Rattle.std.specs.List.{position, position_or_len}
use Rattle.cell_graph.specs.Tree.{Tree, Const, bit_at}
use Rattle.flat_meaning.specs.Flat.{Stmt}
use Rattle.flat_meaning.specs.Trees.{Selects}
use Rattle.flat_meaning.specs.SignalTrees.{giver, with_run, with_bits, joined_runs}
use Rattle.driver_trees.specs.declared.draft.Draft.{Draft}
use Rattle.driver_trees.specs.declared.shared.Giver.{Giver}
use Rattle.driver_trees.specs.Drafts.{tree_in, IsDraftOf}
use Rattle.driver_trees.specs.Growth.{Grows}
use Rattle.driver_trees.specs.Givers.{Words, giver_at, AreGiven}
use Rattle.driver_trees.specs.Sketched.{given_in, next_by, AreGivers}
use Rattle.driver_trees.proofs.Growing.{place-kept, tree-kept}

never : {P : Type 0} {A : Type 0} {v : A} → None ≡ Some v → P
never h = cc

module _ (wid : ℕ → ℕ) (ds : List Draft) (x : ℕ) where
  place_at : (gs : List Giver) (bodies : List Stmt) → AreGivers wid ds x gs bodies → (k : ℕ) (g : Giver) → slice_get gs k ≡ Some g → IsDraftOf ds g.tree (wid x)
  place_at [] bodies h k g e = never e
  place_at (a ∷ gs) [] h k g e = absurd h
  place_at (a ∷ gs) (body ∷ bodies) h zero g e = subst (λ (j : Giver). IsDraftOf ds j.tree (wid x)) (same_Some a g e) h.0.word.place
  place_at (a ∷ gs) (body ∷ bodies) h (suc k) g e = place_at gs bodies h.1 k g e

  tree_at_number : (sel : Selects) (gs : List Giver) (bodies : List Stmt) → AreGivers wid ds x gs bodies → (k : ℕ) (g : Giver) → slice_get gs k ≡ Some g → tree_in sel ds g.tree ≡ given_in wid sel bodies x k
  tree_at_number sel [] bodies h k g e = never e
  tree_at_number sel (a ∷ gs) [] h k g e = absurd h
  tree_at_number sel (a ∷ gs) (body ∷ bodies) h zero g e = ap (λ (j : Giver). tree_in sel ds j.tree) (sym (same_Some a g e)) ∙ h.0.word.tree sel
  tree_at_number sel (a ∷ gs) (body ∷ bodies) h (suc k) g e = tree_at_number sel gs bodies h.1 k g e

  own_behind : (sel : Selects) (gs : List Giver) (bodies : List Stmt) → AreGivers wid ds x gs bodies → (k : ℕ) → slice_get gs k ≡ None → given_in wid sel bodies x k ≡ sel x 0 (wid x)
  own_behind sel [] [] h k e = refl
  own_behind sel [] (body ∷ bodies) h k e = absurd h
  own_behind sel (a ∷ gs) [] h k e = absurd h
  own_behind sel (a ∷ gs) (body ∷ bodies) h zero e = never (sym e)
  own_behind sel (a ∷ gs) (body ∷ bodies) h (suc k) e = own_behind sel gs bodies h.1 k e

  giver_same : (gs : List Giver) (bodies : List Stmt) → AreGivers wid ds x gs bodies → (i : ℕ) → i < 64 → giver_at gs i ≡ giver wid bodies x i
  giver_same [] [] h i l = refl
  giver_same [] (body ∷ bodies) h i l = absurd h
  giver_same (a ∷ gs) [] h i l = absurd h
  giver_same (a ∷ gs) (body ∷ bodies) h i l = ap₂ (λ b n. cond b 0 (suc n)) (h.0.bits i l) (giver_same gs bodies h.1 i l)

  pub given_words : (gs : List Giver) (bodies : List Stmt) → AreGivers wid ds x gs bodies → AreGiven wid ds x gs (λ sel. given_in wid sel bodies x) (giver wid bodies x)
  given_words gs bodies h = record {
    places = place_at gs bodies h;
    trees = λ k g e sel. tree_at_number sel gs bodies h k g e;
    own = λ k e sel. own_behind sel gs bodies h k e;
    givers = giver_same gs bodies h;
  }

pub number_of : (gs : List Giver) (i : ℕ) → unwrap_or (position (λ (g : Giver). bit_at g.bits i) gs) (length gs) ≡ giver_at gs i
number_of gs i = go (nat_lt n (length gs)) refl ∙ sym same
  where
    p : Giver → Bool
    p g = bit_at g.bits i

    n : ℕ
    n = position_or_len p gs

    same : giver_at gs i ≡ n
    same = is_position_or_len (λ l. giver_at l i) p refl (λ x xs. ap (λ k. cond (p x) 0 k) (let z : suc (giver_at xs i) ≡ 1 + giver_at xs i = omega arith in z)) gs

    go : (b : Bool) → nat_lt n (length gs) ≡ b → unwrap_or (cond b (Some n) None) (length gs) ≡ n
    go true e = refl
    go false e = let l = prefix_len-le-length (λ g. not (p g)) gs in let m = ltb-false n (length gs) e in omega arith

pub next_by_several : (wid : ℕ → ℕ) (ds : List Draft) (x : ℕ) (sel : Selects) (gs : List Giver) (bodies : List Stmt) → AreGivers wid ds x gs bodies → 2 ≤ length gs
    → next_by wid sel bodies x ≡ joined_runs (wid x) (given_in wid sel bodies x) (giver wid bodies x)
next_by_several wid ds x sel [] bodies h l = absurd (omega arith)
next_by_several wid ds x sel (a ∷ []) bodies h l = absurd (omega arith)
next_by_several wid ds x sel (a ∷ b ∷ gs) [] h l = absurd h
next_by_several wid ds x sel (a ∷ b ∷ gs) (body ∷ []) h l = absurd h.1
next_by_several wid ds x sel (a ∷ b ∷ gs) (body ∷ other ∷ bodies) h l = refl

-- the first run begins with the lowest bit
pub runs_begin : (w : ℕ) (words : ℕ → Tree) (numbers : ℕ → ℕ) (n k : ℕ) → k ≡ numbers 0 → n + 1 ≡ w → with_bits w words numbers n 0 1 k (Const 0 0) ≡ joined_runs w words numbers
runs_begin w words numbers n k e l = ap (λ j. with_bits w words numbers n 0 1 j (Const 0 0)) e
    ∙ sym (ap (λ (b : Bool). cond b (with_bits w words numbers n 0 1 (numbers 0) (Const 0 0)) (with_bits w words numbers n 0 1 (numbers 0) (with_run w words numbers 0 0 (numbers 0) (Const 0 0)))) (eq-eqb (numbers 0) (numbers 0) refl))
    ∙ ap (λ m. with_bits w words numbers m 0 0 (numbers 0) (Const 0 0)) (let z : suc n ≡ w = omega arith in z)

pub given_grows : (wid : ℕ → ℕ) (ds es : List Draft) (g : Grows wid ds es) (x : ℕ) (gs : List Giver) (words : Words) (numbers : ℕ → ℕ) → AreGiven wid ds x gs words numbers → AreGiven wid es x gs words numbers
given_grows wid ds es g x gs words numbers h = record {
  places = λ k a e. place-kept ds es a.tree (wid x) g.longer (h.places k a e);
  trees = λ k a e sel. tree-kept sel ds es g.longer a.tree (h.places k a e).0 ∙ h.trees k a e sel;
  own = h.own;
  givers = h.givers;
}
