-- A full case always meets one of its labels.
use Rattle.std.proofs.Common.{◌≡◌, ℕ, zero, suc, ◌*◌, ◌^◌, ◌<◌, Bool, true, cond, ◌&&◌, ◌||◌, ◌==◌, refl, sym, ap, ap₂, ◌∙◌, arith}
use Rattle.std.proofs.lemmas.Bool.{and_parts}
use Rattle.cell_graph.specs.Tree.{number, all_below, any_below}
use Rattle.cell_graph.proofs.Words.{number-lt}
use Rattle.flat_meaning.specs.Values.{Word, Words}
use Rattle.flat_meaning.specs.Flat.{BinaryOp, Expr, Number, Read, At, Unary, Binary, Choose, Gate, Join, Repeat, Exprs, no_exprs, expr, Items, no_items, default_item, item, size, sizes}
use Rattle.flat_meaning.specs.Meaning.{padded, cat, copies, unary, binary, unary_at, left_at, right_at, value, joined, gated, gated_on, is_one_of}
use Rattle.flat_meaning.specs.Full.{is_const, are_const, nothing, has_label, labels_const, some_label, is_met, FullLaw}
use Rattle.flat_meaning.proofs.Words.{never, never_same, by_lt}

-- a constant reads no signal
module _ (u v : Words) where
  mutual
    const_same : (e : Expr) → is_const e ≡ true → (W : ℕ) → value u e W ≡ value v e W
    const_same (Number w n) h W = refl
    const_same (Read s at w) h W = never_same (sym h)
    const_same (At s e) h W = never_same (sym h)
    const_same (Unary op a) h W = ap (unary op (unary_at op W (size a))) (const_same a h (unary_at op W (size a)))
    const_same (Binary op a b) h W =
        let p = and_parts (is_const a) (is_const b) h in
        let m = left_at op W (size a) (size b) in let n = right_at op W (size a) (size b) in
        ap₂ (binary op m n) (const_same a p.0 m) (const_same b p.1 n)
    const_same (Choose c x y) h W =
        let p = and_parts (is_const c) (is_const x && is_const y) h in let q = and_parts (is_const x) (is_const y) p.1 in
        ap (λ (f : Word). λ (i : ℕ). cond (any_below f (size c)) (value u x W i) (value u y W i)) (const_same c p.0 (size c))
        ∙ ap₂ (λ (f g : Word). λ (i : ℕ). cond (any_below (value v c (size c)) (size c)) (f i) (g i)) (const_same x q.0 W) (const_same y q.1 W)
    const_same (Gate op es) h W = gate_same op es h W
    const_same (Join es) h W = ap (padded (sizes es)) (joined_same es h)
    const_same (Repeat n es) h W = ap (λ (f : Word). padded (n * sizes es) (copies n (sizes es) f)) (joined_same es h)

    joined_same : (es : Exprs) → are_const es ≡ true → joined u es ≡ joined v es
    joined_same no_exprs h = refl
    joined_same (expr e es) h = let p = and_parts (is_const e) (are_const es) h in ap₂ (λ (f g : Word). cat f (sizes es) g) (const_same e p.0 (size e)) (joined_same es p.1)

    gate_same : (op : BinaryOp) (es : Exprs) → are_const es ≡ true → (W : ℕ) → gated u op W es ≡ gated v op W es
    gate_same op no_exprs h W = refl
    gate_same op (expr e es) h W = let p = and_parts (is_const e) (are_const es) h in gate_on_same op es p.1 W _ _ (const_same e p.0 W)

    gate_on_same : (op : BinaryOp) (es : Exprs) → are_const es ≡ true → (W : ℕ) (f g : Word) → f ≡ g → gated_on u op W f es ≡ gated_on v op W g es
    gate_on_same op no_exprs h W f g k = k
    gate_on_same op (expr e es) h W f g k = let p = and_parts (is_const e) (are_const es) h in gate_on_same op es p.1 W _ _ (ap₂ (binary op W W) k (const_same e p.0 W))

below_true : (p : ℕ → Bool) (n x : ℕ) → all_below p n ≡ true → x < n → p x ≡ true
below_true p zero x h l = never 0 (omega arith)
below_true p (suc n) x h l = let q = and_parts (all_below p n) (p n) h in by_lt (λ u. p x ≡ true) x n (λ k. below_true p n x q.0 k) (λ k. ap p (let z : x ≡ n = omega arith in z) ∙ q.1)

module _ (v : Words) (w : ℕ) (f : Word) where
  met_label : (es : Exprs) → are_const es ≡ true → has_label w (number f w) es ≡ is_one_of v w f es
  met_label no_exprs h = refl
  met_label (expr e es) h =
      let p = and_parts (is_const e) (are_const es) h in
      ap₂ (λ g b. (number f w == number g w) || b) (const_same nothing v e p.0 w) (met_label es p.1)

  met_item : (is : Items) → labels_const is ≡ true → some_label w (number f w) is ≡ is_met v w f is
  met_item no_items h = refl
  met_item (default_item body) h = refl
  met_item (item ls body rest) h = let p = and_parts (are_const ls) (labels_const rest) h in ap₂ (λ a b. a || b) (met_label ls p.0) (met_item rest p.1)

pub full_law : FullLaw
full_law v w f is h =
    let p = and_parts (labels_const is) (all_below (λ x. some_label w x is) (2 ^ w)) h in
    sym (met_item v w f is p.0) ∙ below_true (λ x. some_label w x is) (2 ^ w) (number f w) p.1 (number-lt f w)
