-- A register that several processes assign: the joined tree has each bit of the process that may assign it.
use Rattle.std.proofs.Common.{◌≡◌, ℕ, zero, suc, ◌+◌, ◌-◌, ◌<◌, ◌≤◌, Bool, true, false, cond, ◌==◌, nat_lt, List, [], ◌∷◌, refl, sym, ap, ap₂, subst, ◌∙◌, arith, eqb-true}
use Rattle.std.specs.List.{AllByRecursion as Each}
use Rattle.cell_graph.specs.Reading.{Reading}
use Rattle.cell_graph.specs.Tree.{Tree, Const, bit}
use Rattle.flat_meaning.specs.Values.{Word, Words}
use Rattle.flat_meaning.specs.Flat.{Stmt, assigns}
use Rattle.flat_meaning.specs.Meaning.{run_clocked}
use Rattle.flat_meaning.specs.Trees.{Selects, glue, cut}
use Rattle.flat_meaning.specs.Assigned.{may_assign}
use Rattle.flat_meaning.specs.Design.{next_in}
use Rattle.flat_meaning.specs.SignalTrees.{sharing, giver, given_tree, with_run, with_bits, joined_runs, next_tree_by}
use Rattle.flat_meaning.proofs.Words.{IsWord, as_word, glue_word, cut_word, empty_word, by_lt}
use Rattle.flat_meaning.proofs.Depth.{by_bool}
use Rattle.flat_meaning.proofs.Drivers.{not_assigned}
use Rattle.flat_meaning.proofs.Held.{run_keeps}

-- ---- joined runs

module _ (r : Reading) (w : ℕ) (room : w ≤ 64) (words : ℕ → Tree) (giver_of : ℕ → ℕ) (f : Word) (given : (k : ℕ) → IsWord r (words k) w (λ i. bit r (words k) i))
    (same : (i : ℕ) → i < w → bit r (words (giver_of i)) i ≡ f i) where
  -- the bits from a place on, up to another one, are those of one word
  abbrev IsRun : (from to giver : ℕ) → Type 0
  IsRun from to k = (i : ℕ) → from ≤ i → i < to → giver_of i ≡ k

  run_word : (from to k : ℕ) {low : Tree} → from ≤ to → to ≤ w → IsRun from to k → IsWord r low from f → IsWord r (with_run w words giver_of from to k low) to f
  run_word from to k {low} l m run q =
      let part = cut_word r (given k) from (to - from) (omega arith) in
      subst (λ n. IsWord r (with_run w words giver_of from to k low) n f) (let z : to - from + from ≡ to = omega arith in z)
      (as_word r (glue_word r part q (omega arith)) (λ i j. by_lt (λ u. cond u (f i) (bit r (words k) (from + (i - from))) ≡ f i) i from (λ n. refl)
      (λ n. ap (bit r (words k)) (let z : from + (i - from) ≡ i = omega arith in z) ∙ ap (λ g. bit r (words g) i) (sym (run i n (omega arith))) ∙ same i (omega arith))))

  bits_word : (n from to k : ℕ) {low : Tree} → n + to ≡ w → from ≤ to → IsRun from to k → IsWord r low from f → IsWord r (with_bits w words giver_of n from to k low) w f
  bits_word zero from to k {low} e l run q = subst (λ m. IsWord r (with_run w words giver_of from to k low) m f) (let z : to ≡ w = omega arith in z) (run_word from to k l (omega arith) run q)
  bits_word (suc n) from to k {low} e l run q = by_bool (giver_of to == k)
      (λ z. subst (λ (b : Bool). IsWord r (cond b (with_bits w words giver_of n from (suc to) k low) (with_bits w words giver_of n to (suc to) (giver_of to) (with_run w words giver_of from to k low))) w f) (sym z)
      (bits_word n from (suc to) k (omega arith) (omega arith) (λ i a b. by_lt (λ u. giver_of i ≡ k) i to (λ c. run i a c)
      (λ c. ap giver_of (let y : i ≡ to = omega arith in y) ∙ eqb-true (giver_of to) k z)) q))
      (λ z. subst (λ (b : Bool). IsWord r (cond b (with_bits w words giver_of n from (suc to) k low) (with_bits w words giver_of n to (suc to) (giver_of to) (with_run w words giver_of from to k low))) w f) (sym z)
      (bits_word n to (suc to) (giver_of to) (omega arith) (omega arith) (λ i a b. ap giver_of (let y : i ≡ to = omega arith in y)) (run_word from to k l (omega arith) run q)))

  pub joined_word : IsWord r (joined_runs w words giver_of) w f
  joined_word = bits_word w 0 0 (giver_of 0) (omega arith) (omega arith) (λ i a b. ap giver_of (let y : i ≡ 0 = omega arith in y)) (empty_word r f)

-- ---- the processes of a register

module _ (wid : ℕ → ℕ) (v : Words) (x : ℕ) where
  -- the value of a bit by the processes that assign the register
  abbrev pub bit_by : List Stmt → ℕ → Bool
  bit_by [] i = v x i
  bit_by (body ∷ bodies) i = cond (may_assign wid body x i) (run_clocked wid body v x i) (bit_by bodies i)

  pub by_sharing : (ps : List (ℕ × Stmt)) (i : ℕ) → bit_by (sharing ps x) i ≡ next_in wid ps v x i
  by_sharing [] i = refl
  by_sharing (p ∷ ps) i = by_bool (assigns p.1 x)
      (λ e. ap (λ b. bit_by (cond b (p.1 ∷ sharing ps x) (sharing ps x)) i) e ∙ ap (λ u. cond (may_assign wid p.1 x i) (run_clocked wid p.1 v x i) u) (by_sharing ps i))
      (λ e. ap (λ b. bit_by (cond b (p.1 ∷ sharing ps x) (sharing ps x)) i) e ∙ by_sharing ps i
      ∙ sym (ap (λ b. cond b (run_clocked wid p.1 v x i) (next_in wid ps v x i)) (not_assigned wid x p.1 i e)))

  -- one process: what it can't assign stays
  pub bit_by_one : (body : Stmt) (i : ℕ) → i < wid x → run_clocked wid body v x i ≡ bit_by (body ∷ []) i
  bit_by_one body i l = by_bool (may_assign wid body x i)
      (λ e. sym (ap (λ b. cond b (run_clocked wid body v x i) (v x i)) e))
      (λ e. run_keeps wid x i l (λ now. v) body v e ∙ sym (ap (λ b. cond b (run_clocked wid body v x i) (v x i)) e))

  module _ (r : Reading) (sel : Selects) where
    pub giver_bit : (bodies : List Stmt) (i : ℕ) → i < wid x → bit r (given_tree wid sel [] x 0) i ≡ v x i
        → Each (λ body. bit r (given_tree wid sel (body ∷ []) x 0) i ≡ run_clocked wid body v x i) bodies
        → bit r (given_tree wid sel bodies x (giver wid bodies x i)) i ≡ bit_by bodies i
    giver_bit [] i l own h = own
    giver_bit (body ∷ bodies) i l own h = by_bool (may_assign wid body x i)
        (λ e. ap (λ b. bit r (given_tree wid sel (body ∷ bodies) x (cond b 0 (suc (giver wid bodies x i)))) i) e ∙ h.0
        ∙ sym (ap (λ b. cond b (run_clocked wid body v x i) (bit_by bodies i)) e))
        (λ e. ap (λ b. bit r (given_tree wid sel (body ∷ bodies) x (cond b 0 (suc (giver wid bodies x i)))) i) e ∙ giver_bit bodies i l own h.1
        ∙ sym (ap (λ b. cond b (run_clocked wid body v x i) (bit_by bodies i)) e))
