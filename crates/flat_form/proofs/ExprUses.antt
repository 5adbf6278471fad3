-- What is read, form by form, while a set grows by it.
use Rattle.std.proofs.Common.{◌≡◌, ℕ, ◌+◌, ◌<◌, Bool, true, false, ◌&&◌, ◌||◌, ◌==◌, nat_lt, List, ◌∷◌, map, length, drop, get_or, Box, Global, refl, sym, subst, ap, ◌∙◌, lt-ltb}
use Rattle.std.proofs.lemmas.List.{drop_more}
use Rattle.std.proofs.Math.Bool.{or-false}
use Rattle.cell_graph.specs.Tree.{bit_at}
use Rattle.flat_form.specs.declared.flat.FUnaryOp.{FUnaryOp}
use Rattle.verilog_ast.specs.declared.BinaryOp.{BinaryOp}
use Rattle.flat_meaning.specs.Flat as f
use Rattle.flat_meaning.specs.Deps.{Bits, union, span}
use Rattle.flat_meaning.specs.Assigned.{is_within}
use Rattle.flat_form.specs.declared.flat.FExpr.{FExpr}
use Rattle.flat_form.specs.declared.flat.FExpr.TheVariants as e
use Rattle.flat_form.specs.declared.masks.Masks.{Masks}
use Rattle.flat_form.specs.View.{unary_of, binary_of, expr_of, exprs_of}
use Rattle.flat_form.specs.Masks.{bits_in, Adds}
use Rattle.flat_meaning.specs.Law.{expr_reads}
use Rattle.flat_form.specs.Uses.{exprs_read}
use Rattle.flat_form.proofs.MaskSets.{Left, left-step, left-same, adds-same}
use Rattle.flat_form.proofs.Folds.{expr_of-Number, expr_of-Read, expr_of-At, expr_of-Unary, expr_of-Binary, expr_of-Choose, expr_of-Gate, expr_of-Join, expr_of-Repeat}

or-comm : (a b : Bool) → (a || b) ≡ (b || a)
or-comm true true = refl
or-comm true false = refl
or-comm false true = refl
or-comm false false = refl

-- the last bits that were left
pub left-last : (old : Masks) (now next : Masks) (b whole : Bits) → Left (bits_in old) now b whole → Adds now next b → Adds old next whole
left-last old now next b whole h a s i l = a s i l ∙ h s i l

-- the second of two is added first
pub left-second : (old : Bits) (now next : Masks) (b rest whole : Bits) → Left old now (union rest b) whole → Adds now next b → Left old next rest whole
left-second old now next b rest whole h a = left-step old now next b rest whole (left-same old now (union rest b) (union b rest) whole (λ s i l. or-comm (b s i) (rest s i)) h) a

-- a mask of some bits of a signal
pub adds-span : (old now : Masks) (sig mask at w : ℕ) → ((i : ℕ) → bit_at mask i ≡ (nat_lt i 64 && is_within at w i)) → Adds old now (λ s i. (s == sig) && bit_at mask i) → Adds old now (span sig at w)
adds-span old now sig mask at w m h = adds-same old now (λ s i. (s == sig) && bit_at mask i) (span sig at w)
    (λ s i l. ap (λ b. (s == sig) && b) (m i ∙ ap (λ b. b && is_within at w i) (lt-ltb i 64 l))) h

pub adds-whole : (old now : Masks) (sig mask w : ℕ) → ((i : ℕ) → i < 64 → bit_at mask i ≡ is_within 0 w i) → Adds old now (λ s i. (s == sig) && bit_at mask i) → Adds old now (span sig 0 w)
adds-whole old now sig mask w m h = adds-same old now (λ s i. (s == sig) && bit_at mask i) (span sig 0 w) (λ s i l. ap (λ b. (s == sig) && b) (m i l)) h

-- one more item of a list whose bits are added in turn
module _ {X : Type 0} (rs : List X → Bits) (r : X → Bits) (old : Bits) (now next : Masks) (whole : Bits) where
  pub list-step : (all : List X) (k : ℕ) (x : X) → k < length all → x ≡ get_or all k x → rs (x ∷ drop (k + 1) all) ≡ union (r x) (rs (drop (k + 1) all))
      → Left old now (rs (drop k all)) whole → Adds now next (r x) → Left old next (rs (drop (k + 1) all)) whole
  list-step all k x l is step h a =
      left-step old now next (r x) (rs (drop (k + 1) all)) whole
      (subst (λ b. Left old now b whole) (ap rs (drop_more all k x l ∙ ap (λ z. z ∷ drop (k + 1) all) (sym is)) ∙ step) h) a

module _ (wid : ℕ → ℕ) (old : Masks) (now : Masks) (whole : Bits) (x : FExpr) (h : Left (bits_in old) now (expr_reads wid (expr_of x)) whole) where
  seen : (e : f.Expr) → expr_of x ≡ e → Left (bits_in old) now (expr_reads wid e) whole
  seen e is = subst (λ (z : f.Expr). Left (bits_in old) now (expr_reads wid z) whole) is h

  pub reads-number : (value w : ℕ) → x ≡ e.Number value w → Adds old now whole
  reads-number value w is s i l = sym (or-false (bits_in now s i)) ∙ seen (f.Number w value) (ap expr_of is ∙ expr_of-Number value w) s i l

  module _ (next : Masks) where
    pub reads-read : (sig at w mask : ℕ) → x ≡ e.Read sig at w → ((i : ℕ) → bit_at mask i ≡ (nat_lt i 64 && is_within at w i)) → Adds now next (λ s i. (s == sig) && bit_at mask i) → Adds old next whole
    reads-read sig at w mask is m a = left-last old now next (span sig at w) whole (seen (f.Read sig at w) (ap expr_of is ∙ expr_of-Read sig at w)) (adds-span now next sig mask at w m a)

    pub reads-at : (sig mask : ℕ) (index : Box FExpr Global) (w : ℕ) → x ≡ e.At sig index w → ((i : ℕ) → i < 64 → bit_at mask i ≡ is_within 0 (wid sig) i) → Adds now next (λ s i. (s == sig) && bit_at mask i)
        → Left (bits_in old) next (expr_reads wid (expr_of index.value)) whole
    reads-at sig mask index w is m a = left-step (bits_in old) now next (span sig 0 (wid sig)) (expr_reads wid (expr_of index.value)) whole
        (seen (f.At sig (expr_of index.value)) (ap expr_of is ∙ expr_of-At sig index w)) (adds-whole now next sig mask (wid sig) m a)

    pub reads-binary : (op : BinaryOp) (a b : Box FExpr Global) (w : ℕ) → x ≡ e.Binary op a b w → Adds now next (expr_reads wid (expr_of b.value)) → Left (bits_in old) next (expr_reads wid (expr_of a.value)) whole
    reads-binary op a b w is k = left-second (bits_in old) now next (expr_reads wid (expr_of b.value)) (expr_reads wid (expr_of a.value)) whole
        (seen (f.Binary (binary_of op) (expr_of a.value) (expr_of b.value)) (ap expr_of is ∙ expr_of-Binary op a b w)) k

    pub reads-choose : (last : Masks) (c y z : Box FExpr Global) (w : ℕ) → x ≡ e.Choose c y z w → Adds now next (expr_reads wid (expr_of c.value)) → Adds next last (expr_reads wid (expr_of y.value))
        → Left (bits_in old) last (expr_reads wid (expr_of z.value)) whole
    reads-choose last c y z w is k m = left-step (bits_in old) next last (expr_reads wid (expr_of y.value)) (expr_reads wid (expr_of z.value)) whole
        (left-step (bits_in old) now next (expr_reads wid (expr_of c.value)) (union (expr_reads wid (expr_of y.value)) (expr_reads wid (expr_of z.value))) whole
        (seen (f.Choose (expr_of c.value) (expr_of y.value) (expr_of z.value)) (ap expr_of is ∙ expr_of-Choose c y z w)) k) m

    pub reads-gate : (op : BinaryOp) (inputs : List FExpr) → x ≡ e.Gate op inputs → Adds now next (exprs_read wid (exprs_of (map expr_of inputs))) → Adds old next whole
    reads-gate op inputs is k = left-last old now next (exprs_read wid (exprs_of (map expr_of inputs))) whole (seen (f.Gate (binary_of op) (exprs_of (map expr_of inputs))) (ap expr_of is ∙ expr_of-Gate op inputs)) k

    pub reads-join : (parts : List FExpr) (w : ℕ) → x ≡ e.Join parts w → Adds now next (exprs_read wid (exprs_of (map expr_of parts))) → Adds old next whole
    reads-join parts w is k = left-last old now next (exprs_read wid (exprs_of (map expr_of parts))) whole (seen (f.Join (exprs_of (map expr_of parts))) (ap expr_of is ∙ expr_of-Join parts w)) k

    pub reads-repeat : (count : ℕ) (parts : List FExpr) (w : ℕ) → x ≡ e.Repeat count parts w → Adds now next (exprs_read wid (exprs_of (map expr_of parts))) → Adds old next whole
    reads-repeat count parts w is k = left-last old now next (exprs_read wid (exprs_of (map expr_of parts))) whole (seen (f.Repeat count (exprs_of (map expr_of parts))) (ap expr_of is ∙ expr_of-Repeat count parts w)) k

  pub reads-unary : (op : FUnaryOp) (a : Box FExpr Global) (w : ℕ) → x ≡ e.Unary op a w → Left (bits_in old) now (expr_reads wid (expr_of a.value)) whole
  reads-unary op a w is = seen (f.Unary (unary_of op) (expr_of a.value)) (ap expr_of is ∙ expr_of-Unary op a w)
