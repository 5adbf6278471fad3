-- Values while signals have levels.
use Rattle.std.proofs.Common.{◌≡◌, ℕ, ◌==◌, Bool, not, cond, List, [], ◌∷◌, ◌++◌, refl, ap, ap₂, ◌∙◌, rules}
use Rattle.std.specs.List.{Contains}
use Rattle.std.proofs.lemmas.List.Elements.{Contains-append_left, Contains-append_right}
use Rattle.flat_meaning.specs.Flat.{Expr, Number, Read, At, Unary, Binary, Choose, Gate, Join, Repeat, Exprs, no_exprs, expr}
use Rattle.flat_unfolding.specs.Constants.{assigned_value, truth}
use Rattle.reset_nets.specs.Nets.{reads_of, all_reads_of, with_levels, all_with_levels, value_at}

module _ (f g : ℕ → Bool) where
  -- the same levels of all that is read
  abbrev Agree : List ℕ → Type 0
  Agree ts = (t : ℕ) → Contains ts t → f t ≡ g t

  agree_left : (xs ys : List ℕ) → Agree (xs ++ ys) → Agree xs
  agree_left xs ys h t c = h t (Contains-append_left xs ys t c)

  agree_right : (xs ys : List ℕ) → Agree (xs ++ ys) → Agree ys
  agree_right xs ys h t c = h t (Contains-append_right xs ys t c)

  mutual
    pub levels_same : (e : Expr) → Agree (reads_of e) → with_levels f e ≡ with_levels g e
    levels_same (Number w n) h = refl
    levels_same (Read s at w) h = ap (λ b. Number w (cond (at == 0) (truth b) 0)) (h s (search rules))
    levels_same (At s i) h = ap (λ x. At s x) (levels_same i (agree_right (s ∷ []) (reads_of i) h))
    levels_same (Unary op a) h = ap (λ x. Unary op x) (levels_same a h)
    levels_same (Binary op a b) h = ap₂ (λ x y. Binary op x y) (levels_same a (agree_left (reads_of a) (reads_of b) h)) (levels_same b (agree_right (reads_of a) (reads_of b) h))
    levels_same (Choose c x y) h =
        let k = agree_right (reads_of c) (reads_of x ++ reads_of y) h in
        ap (λ z. Choose z (with_levels f x) (with_levels f y)) (levels_same c (agree_left (reads_of c) (reads_of x ++ reads_of y) h))
        ∙ ap₂ (λ a b. Choose (with_levels g c) a b) (levels_same x (agree_left (reads_of x) (reads_of y) k)) (levels_same y (agree_right (reads_of x) (reads_of y) k))
    levels_same (Gate op es) h = ap (λ xs. Gate op xs) (all_levels_same es h)
    levels_same (Join es) h = ap (λ xs. Join xs) (all_levels_same es h)
    levels_same (Repeat n es) h = ap (λ xs. Repeat n xs) (all_levels_same es h)

    pub all_levels_same : (es : Exprs) → Agree (all_reads_of es) → all_with_levels f es ≡ all_with_levels g es
    all_levels_same no_exprs h = refl
    all_levels_same (expr e es) h = ap₂ (λ x xs. expr x xs) (levels_same e (agree_left (reads_of e) (all_reads_of es) h)) (all_levels_same es (agree_right (reads_of e) (all_reads_of es) h))

pub value_same : (f g : ℕ → Bool) (e : Expr) → ((t : ℕ) → Contains (reads_of e) t → f t ≡ g t) → value_at f e ≡ value_at g e
value_same f g e h = ap (λ x. not (assigned_value x 1 == 0)) (levels_same f g e h)
