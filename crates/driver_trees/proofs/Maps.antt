-- Maps by number, one entry after another.
use Rattle.std.proofs.Common.{◌≡◌, ℕ, ◌<◌, Bool, true, false, cond, ◌||◌, ◌==◌, List, ◌∷◌, Option, Some, None, is_some, refl, sym, ap, subst, ◌∙◌, arith, eqb-true, nat_lt, ltb-true, Ordering, Less, Equal, Greater}
use Rattle.std.proofs.lemmas.Option.{same_Some}
use Rattle.std.specs.Ordering.{is_eq, nat_cmp}
use Rattle.std.specs.Map.{lookup}
use Rattle.std.specs.BTreeMap.{is_at}
use Rattle.cell_graph.specs.declared.cell.CellId.{CellId}

pub at_key : (x k : ℕ) → is_at (nat_cmp x) k ≡ (x == k)
at_key x k = go (nat_lt x k) refl (x == k) refl
  where
    go : (b : Bool) → nat_lt x k ≡ b → (d : Bool) → (x == k) ≡ d → is_eq (cond b Less (cond d Equal Greater)) ≡ d
    go true p true q = absurd (let l = ltb-true x k p in let e = eqb-true x k q in omega arith)
    go true p false q = refl
    go false p true q = refl
    go false p false q = refl

-- the first entry that is left, and the others
pub lookup_first : {V : Type 0} (x k : ℕ) (v : V) (left rest : List (ℕ × V)) → left ≡ (k, v) ∷ rest → lookup (is_at (nat_cmp x)) left ≡ cond (x == k) (Some v) (lookup (is_at (nat_cmp x)) rest)
lookup_first x k v left rest e = ap (lookup (is_at (nat_cmp x))) e ∙ ap (λ b. cond b (Some v) (lookup (is_at (nat_cmp x)) rest)) (at_key x k)

some_first : {V : Type 0} (d b : Bool) (v : V) (o : Option V) → ((d || b) || is_some o) ≡ (d || is_some (cond b (Some v) o))
some_first true b v o = refl
some_first false true v o = refl
some_first false false v o = refl

pub keys_first : {V : Type 0} (x k : ℕ) (v : V) (left rest : List (ℕ × V)) (done whole : Bool) → left ≡ (k, v) ∷ rest → (done || is_some (lookup (is_at (nat_cmp x)) left)) ≡ whole
    → ((done || (x == k)) || is_some (lookup (is_at (nat_cmp x)) rest)) ≡ whole
keys_first x k v left rest done whole e h = some_first done (x == k) v (lookup (is_at (nat_cmp x)) rest) ∙ ap (λ o. done || is_some o) (sym (lookup_first x k v left rest e)) ∙ h

pub set_first : (x k : ℕ) (v : CellId) (d : Bool) (g o p q : Option CellId) → (x ≡ k → g ≡ Some v) → p ≡ cond d g o → q ≡ cond (x == k) (Some v) p → q ≡ cond (d || (x == k)) g o
set_first x k v d g o p q f e h = h ∙ go (x == k) (λ t. f (eqb-true x k t)) d e
  where
    go : (b : Bool) → (b ≡ true → g ≡ Some v) → (d : Bool) → p ≡ cond d g o → cond b (Some v) p ≡ cond (d || b) g o
    go true f true e = sym (f refl)
    go true f false e = sym (f refl)
    go false f true e = e
    go false f false e = e

eq_one : (b : Bool) → is_eq (cond b Equal Greater) ≡ b
eq_one true = refl
eq_one false = refl

same_eq : (k x : ℕ) → (k == x) ≡ (x == k)
same_eq k x = grind arith

pub at_query : (k x : ℕ) → is_at (nat_cmp k) x ≡ (x == k)
at_query k x = go (nat_lt k x) refl (x == k) refl
  where
    go : (b : Bool) → nat_lt k x ≡ b → (d : Bool) → (x == k) ≡ d → is_eq (cond b Less (cond (k == x) Equal Greater)) ≡ d
    go true p true q = absurd (let l = ltb-true k x p in let e = eqb-true x k q in omega arith)
    go true p false q = refl
    go false p d q = eq_one (k == x) ∙ same_eq k x ∙ q

module _ (k : ℕ) (id : CellId) (old new : ℕ → Option CellId) (puts : (x : ℕ) → new x ≡ cond (is_at (nat_cmp k) x) (Some id) (old x)) where
  puts_at : (x : ℕ) → new x ≡ cond (x == k) (Some id) (old x)
  puts_at x = puts x ∙ ap (λ b. cond b (Some id) (old x)) (at_query k x)

  pub put_keys : (x : ℕ) (d : Bool) → is_some (old x) ≡ d → is_some (new x) ≡ (d || (x == k))
  put_keys x d h = ap is_some (puts_at x) ∙ go (x == k) (old x) d h
    where
      go : (b : Bool) (o : Option CellId) (d : Bool) → is_some o ≡ d → is_some (cond b (Some id) o) ≡ (d || b)
      go true o true h = refl
      go true o false h = refl
      go false o true h = h
      go false o false h = h

  pub put_holds : (P : ℕ → CellId → Type 0) → P k id → ((x : ℕ) (i : CellId) → old x ≡ Some i → P x i) → (x : ℕ) (i : CellId) → new x ≡ Some i → P x i
  put_holds P h f x i e = go (x == k) refl (sym (puts_at x) ∙ e)
    where
      go : (b : Bool) → (x == k) ≡ b → cond b (Some id) (old x) ≡ Some i → P x i
      go true q e = subst (λ j. P x j) (same_Some id i e) (subst (λ y. P y id) (sym (eqb-true x k q)) h)
      go false q e = f x i e
