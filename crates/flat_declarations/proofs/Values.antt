-- Counted expressions have the size that counts, and a value that stands as a plain number.
use Rattle.std.proofs.Common.{◌≡◌, ℕ, ◌^◌, ◌<◌, max, Bool, true, false, cond, ◌&&◌, ◌==◌, List, [], ◌∷◌, ◌++◌, Option, Some, None, refl, sym, ap, ap₂, subst, ◌∙◌, arith, rules, eqb-true, lt-ltb}
use Rattle.std.specs.Prelude.{is_some, option_map, option_and_then}
use Rattle.std.specs.Option.{option_map_or}
use Rattle.cell_graph.specs.Tree.{bit_at}
use Rattle.cell_graph.proofs.Words.{is_number, number-lt}
use Rattle.cdc_base.specs.declared.size.NumberSize.TheVariants as z
use Rattle.verilog_ast.specs.declared.BinaryOp.{BinaryOp}
use Rattle.verilog_reading.specs.ExprTree.{ExprTree, number as number_tree, name, index, part, unary, binary, choice, join, repeat, paren}
use Rattle.flat_meaning.specs.Flat.{unary_size, binary_size, Expr, Number, size}
use Rattle.flat_meaning.specs.Meaning.{value}
use Rattle.flat_meaning.specs.Full.{nothing}
use Rattle.flat_form.specs.declared.flat.FUnaryOp.{FUnaryOp}
use Rattle.flat_form.specs.View.{unary_of, binary_of}
use Rattle.flat_unfolding.specs.Outcome.{Broken, breaks_if}
use Rattle.flat_unfolding.specs.Names.{Param, Meaning, a_param, a_signal, a_memory, no_value, Look, meaning}
use Rattle.flat_unfolding.specs.Constants.{assigned_value, plain_unary, own_unary, if_counted, both, counted_size, whole, within}
use Rattle.flat_unfolding.specs.Signs.{compares_signed}
use Rattle.flat_unfolding.specs.Expressions.{Term, also, unary_expr, unary_term, binary_term, choice_term, meant_term, judged_whole, whole_number, read}
use Rattle.flat_unfolding.specs.Formed.{IsFormed}
use Rattle.flat_unfolding.proofs.Steps.{none_of_both}
use Rattle.flat_names.specs.Pieces.{is_counted_size}
use Rattle.flat_names.specs.Looks.{IsFit}
use Rattle.flat_names.proofs.Options.{none-some, some-same}
use Rattle.flat_names.proofs.Wholes.{within-below}
use Rattle.flat_names.proofs.Terms.{counted-is}
use Rattle.flat_names.proofs.Fit.{fit}
use Rattle.flat_declarations.specs.Declaring.{IsCountedValue}

-- ---- sizes

some-break : {A : Type 0} (b : Broken) (bs : List Broken) → b ∷ bs ≡ [] → A
some-break b bs e = absurd (search (rules, e))

judged-size : (l : Look) (k : ℕ) (n : Option ℕ) (t : Term) → (t.broken ≡ [] → size t.expr ≡ k) → (judged_whole l (Some k) n t).broken ≡ [] → size (judged_whole l (Some k) n t).expr ≡ k
judged-size l k n t h = go (k == 32) n refl
  where
    go : (s : Bool) (n : Option ℕ) → (k == 32) ≡ s → (cond s (whole_number l n) t).broken ≡ [] → size (cond s (whole_number l n) t).expr ≡ k
    go true None e b = some-break _ [] b
    go true (Some m) e b = sym (eqb-true k 32 e)
    go false n e b = h b

-- a binary operator with its rule of signed operands
abbrev ordered_term : Look → BinaryOp → ExprTree → ExprTree → Term
ordered_term l op x y = also (binary_term op (read l x) (read l y)) (breaks_if (compares_signed l.names op x y) 307 [])

module _ (l : Look) where
  -- what a counted part has
  abbrev HasSize : ExprTree → Type 0
  HasSize e = (k : ℕ) → counted_size l.names e ≡ Some k → (read l e).broken ≡ [] → size (read l e).expr ≡ k

  name-size : (x : _) (m : Option Meaning) (k : ℕ) → option_map (λ (p : Param). p.width) (option_and_then if_counted m) ≡ Some k → (meant_term l x m).broken ≡ [] → size (meant_term l x m).expr ≡ k
  name-size x (Some (a_param p)) k c b = go p.is_counted c
    where
      go : (t : Bool) → option_map (λ (p : Param). p.width) (cond t (Some p) None) ≡ Some k → p.width ≡ k
      go true c = some-same p.width k c
      go false c = none-some k c
  name-size x (Some (a_signal s)) k c b = none-some k c
  name-size x (Some (a_memory a)) k c b = none-some k c
  name-size x (Some no_value) k c b = none-some k c
  name-size x None k c b = none-some k c

  expr-size : (o : Option FUnaryOp) (x : Expr) → size (unary_expr o x) ≡ option_map_or (λ f. unary_size (unary_of f) (size x)) o (size x)
  expr-size None x = omega arith
  expr-size (Some f) x = refl

  unary-size : (op : _) (a : ExprTree) (o : Option ℕ) (k : ℕ) → option_map (own_unary op) o ≡ Some k → ((j : ℕ) → o ≡ Some j → (read l a).broken ≡ [] → size (read l a).expr ≡ j)
      → (read l a).broken ≡ [] → size (unary_term op (read l a)).expr ≡ k
  unary-size op a (Some j) k c h b = expr-size (plain_unary op) (read l a).expr ∙ ap (own_unary op) (h j refl b) ∙ some-same _ k c
  unary-size op a None k c h b = none-some k c

  binary-size : (op : BinaryOp) (a b : ExprTree) (o q : Option ℕ) (k : ℕ) → both (binary_size (binary_of op)) o q ≡ Some k
      → ((j : ℕ) → o ≡ Some j → (read l a).broken ≡ [] → size (read l a).expr ≡ j) → ((j : ℕ) → q ≡ Some j → (read l b).broken ≡ [] → size (read l b).expr ≡ j)
      → (binary_term op (read l a) (read l b)).broken ≡ [] → size (binary_term op (read l a) (read l b)).expr ≡ k
  binary-size op a b (Some i) (Some j) k c h g e =
      let p = none_of_both ((read l a).broken ++ (read l b).broken) _ e in let q = none_of_both (read l a).broken (read l b).broken p.0 in
      ap₂ (binary_size (binary_of op)) (h i refl q.0) (g j refl q.1) ∙ some-same _ k c
  binary-size op a b (Some i) None k c h g e = none-some k c
  binary-size op a b None q k c h g e = none-some k c

  choice-size : (c a b : ExprTree) (u o q : Option ℕ) (k : ℕ) → both (λ i n. n) u (both max o q) ≡ Some k
      → ((j : ℕ) → o ≡ Some j → (read l a).broken ≡ [] → size (read l a).expr ≡ j) → ((j : ℕ) → q ≡ Some j → (read l b).broken ≡ [] → size (read l b).expr ≡ j)
      → (choice_term (read l c) (read l a) (read l b)).broken ≡ [] → size (choice_term (read l c) (read l a) (read l b)).expr ≡ k
  choice-size c a b (Some u) (Some i) (Some j) k d h g e =
      let p = none_of_both ((read l c).broken ++ (read l a).broken) (read l b).broken e in let q = none_of_both (read l c).broken (read l a).broken p.0 in
      ap₂ max (h i refl q.1) (g j refl p.1) ∙ some-same _ k d
  choice-size c a b (Some u) (Some i) None k d h g e = none-some k d
  choice-size c a b (Some u) None q k d h g e = none-some k d
  choice-size c a b None o q k d h g e = none-some k d

  -- an operator's size, where it counts
  judged-has : (o n : Option ℕ) (t : Term) (k : ℕ) → o ≡ Some k → (t.broken ≡ [] → size t.expr ≡ k) → (judged_whole l o n t).broken ≡ [] → size (judged_whole l o n t).expr ≡ k
  judged-has o n t k c h = subst (λ o. (judged_whole l o n t).broken ≡ [] → size (judged_whole l o n t).expr ≡ k) (sym c) (judged-size l k n t h)

  counted-size : (e : ExprTree) → HasSize e
  counted-size (number_tree v w z.Plain) k c b = some-same w k c
  counted-size (number_tree v w z.Unsized) k c b = none-some k c
  counted-size (number_tree v w z.Sized) k c b = none-some k c
  counted-size (name x) k c b = name-size x (meaning l x) k c b
  counted-size (index x i) k c b = none-some k c
  counted-size (part x kind i j) k c b = none-some k c
  counted-size (unary op a) k c b = judged-has (counted_size l.names (unary op a)) (whole l.names (unary op a)) (unary_term op (read l a)) k c (unary-size op a (counted_size l.names a) k c (counted-size a)) b
  counted-size (binary op x y) k c b = judged-has (counted_size l.names (binary op x y)) (whole l.names (binary op x y)) (ordered_term l op x y) k c
      (λ w. binary-size op x y (counted_size l.names x) (counted_size l.names y) k c (counted-size x) (counted-size y) (none_of_both (binary_term op (read l x) (read l y)).broken _ w).0) b
  counted-size (choice i x y) k c b = judged-has (counted_size l.names (choice i x y)) (whole l.names (choice i x y)) (choice_term (read l i) (read l x) (read l y)) k c
      (choice-size i x y (counted_size l.names i) (counted_size l.names x) (counted_size l.names y) k c (counted-size x) (counted-size y)) b
  counted-size (join parts) k c b = none-some k c
  counted-size (repeat count parts) k c b = none-some k c
  counted-size (paren a) k c b = counted-size a k c b

  -- ---- a counted expression of 32 bits is a number

  abbrev IsPlain : Expr → Type 0
  IsPlain e = (n : ℕ) × (e ≡ Number 32 n) × (within 32 n ≡ Some n)

  module _ (is : IsFit l) where
    name-plain : (x : _) (m : Option Meaning) → meaning l x ≡ m → option_map (λ (p : Param). p.width) (option_and_then if_counted m) ≡ Some 32 → IsPlain (meant_term l x m).expr
    name-plain x (Some (a_param p)) e c = go p.is_counted refl c
      where
        go : (t : Bool) → p.is_counted ≡ t → option_map (λ (p : Param). p.width) (cond t (Some p) None) ≡ Some 32 → IsPlain (Number p.width p.value)
        go true d c = let w = some-same p.width 32 c in (p.value, ap (λ k. Number k p.value) w, ap (λ k. within k p.value) (sym w) ∙ (is.params x p e).whole d)
        go false d c = none-some 32 c
    name-plain x (Some (a_signal s)) e c = none-some 32 c
    name-plain x (Some (a_memory a)) e c = none-some 32 c
    name-plain x (Some no_value) e c = none-some 32 c
    name-plain x None e c = none-some 32 c

    judged-plain : (o n : Option ℕ) (t : Term) → o ≡ Some 32 → ((m : ℕ) → n ≡ Some m → within 32 m ≡ Some m) → (judged_whole l o n t).broken ≡ [] → IsPlain (judged_whole l o n t).expr
    judged-plain o n t c h = subst (λ o. (judged_whole l o n t).broken ≡ [] → IsPlain (judged_whole l o n t).expr) (sym c) (go n h)
      where
        go : (n : Option ℕ) → ((m : ℕ) → n ≡ Some m → within 32 m ≡ Some m) → (whole_number l n).broken ≡ [] → IsPlain (whole_number l n).expr
        go None h b = some-break _ [] b
        go (Some m) h b = (m, refl, h m refl)

    counted-plain : (e : ExprTree) → IsFormed e → counted_size l.names e ≡ Some 32 → (read l e).broken ≡ [] → IsPlain (read l e).expr
    counted-plain (number_tree v w z.Plain) f c b = let p = f.3 refl in (v, ap (λ k. Number k v) p.0, ap (λ t. cond t (Some v) None) (lt-ltb v (2 ^ 31) p.1))
    counted-plain (number_tree v w z.Unsized) f c b = none-some 32 c
    counted-plain (number_tree v w z.Sized) f c b = none-some 32 c
    counted-plain (name x) f c b = name-plain x (meaning l x) refl c
    counted-plain (index x i) f c b = none-some 32 c
    counted-plain (part x kind i j) f c b = none-some 32 c
    counted-plain (unary op a) f c b = judged-plain (counted_size l.names (unary op a)) (whole l.names (unary op a)) (unary_term op (read l a)) c (λ m d. (fit l is (unary op a) f).wholes 32 m c d) b
    counted-plain (binary op x y) f c b = judged-plain (counted_size l.names (binary op x y)) (whole l.names (binary op x y)) (ordered_term l op x y) c (λ m d. (fit l is (binary op x y) f).wholes 32 m c d) b
    counted-plain (choice i x y) f c b = judged-plain (counted_size l.names (choice i x y)) (whole l.names (choice i x y)) (choice_term (read l i) (read l x) (read l y)) c (λ m d. (fit l is (choice i x y) f).wholes 32 m c d) b
    counted-plain (join parts) f c b = none-some 32 c
    counted-plain (repeat count parts) f c b = none-some 32 c
    counted-plain (paren a) f c b = counted-plain a f c b

    -- the value of such a number
    plain-value : (n : ℕ) → n < 2 ^ 31 → assigned_value (Number 32 n) 32 ≡ n
    plain-value n h = sym (is_number n (value nothing (Number 32 n) (max 32 32)) 32 (let k : n < 2 ^ 32 = omega (arith, h) in k) (λ i k. sym (ap (λ t. t && bit_at n i) (lt-ltb i 32 k))))

    plain-within : (e : Expr) → IsPlain e → within 32 (assigned_value e 32) ≡ Some (assigned_value e 32)
    plain-within e p =
        let v : assigned_value e 32 ≡ p.0 = ap (λ x. assigned_value x 32) p.1 ∙ plain-value p.0 (within-below 32 p.0 p.0 p.2) in
        ap (within 32) v ∙ p.2 ∙ ap Some (sym v)

    pub counted-value : (e : ExprTree) → IsFormed e → (read l e).broken ≡ [] → is_some (counted_size l.names e) ≡ true → IsCountedValue (read l e).expr
    counted-value e f b = go (counted_size l.names e) refl
      where
        by-size : (k : ℕ) → is_counted_size k ≡ true → counted_size l.names e ≡ Some k → (is_counted_size k ≡ true) × (within k (assigned_value (read l e).expr k) ≡ Some (assigned_value (read l e).expr k))
        by-size k h = counted-is k (λ k. counted_size l.names e ≡ Some k → (is_counted_size k ≡ true) × (within k (assigned_value (read l e).expr k) ≡ Some (assigned_value (read l e).expr k))) h
            (λ c. (refl, ap (λ t. cond t (Some (assigned_value (read l e).expr 1)) None) (lt-ltb (assigned_value (read l e).expr 1) 2 (number-lt (value nothing (read l e).expr (max 1 (size (read l e).expr))) 1))))
            (λ c. (refl, plain-within (read l e).expr (counted-plain e f c b)))

        go : (o : Option ℕ) → counted_size l.names e ≡ o → is_some o ≡ true → IsCountedValue (read l e).expr
        go None c h = absurd (search (rules, h))
        go (Some k) c h =
            subst (λ j. (is_counted_size j ≡ true) × (within j (assigned_value (read l e).expr j) ≡ Some (assigned_value (read l e).expr j))) (sym (counted-size e k c b))
            (by-size k ((fit l is e f).sizes k c) c)
