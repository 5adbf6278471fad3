-- Kept widths that are right are sizes, of 1 to 64 bits.
use Rattle.std.proofs.Common.{◌≡◌, ℕ, ◌+◌, ◌*◌, ◌≤◌, max, Bool, true, ◌&&◌, ◌==◌, nat_le, List, [], ◌∷◌, map, refl, sym, ap, ap₂, subst, ◌∙◌, arith, eqb-true, leb-true, le-leb}
use Rattle.std.proofs.lemmas.Bool.{and_parts}
use Rattle.flat_form.specs.declared.flat.FExpr.{FExpr, map-FExpr}
use Rattle.flat_form.specs.declared.flat.FExpr.TheOpen.{FExpr-F}
use Rattle.flat_form.specs.declared.flat.FExpr.TheFolds.{ind-FExpr, fold-roll-FExpr}
use Rattle.flat_form.specs.declared.flat.FExpr.TheViews.{roll-FExpr}
use Rattle.flat_form.specs.declared.flat.FTarget.TheViews.{roll-FTarget}
use Rattle.flat_form.specs.declared.flat.FTarget.{FTarget, map-FTarget}
use Rattle.flat_form.specs.declared.flat.FTarget.TheOpen.{FTarget-F}
use Rattle.flat_form.specs.declared.flat.FTarget.TheFolds.{ind-FTarget, fold-roll-FTarget}
use Rattle.flat_meaning.specs.Flat as f
use Rattle.flat_form.specs.View as v
use Rattle.flat_form.specs.View.{unary_of, binary_of, exprs_of, expr_step, expr_of, targets_of, target_of}
use Rattle.flat_form.specs.Sizes as s
use Rattle.flat_form.specs.Sizes.{Kept, is_word, kept_of, is_sized, kept_step, target_kept, sum, all_right}

-- a width of 1 to 64 bits
pub record IsWidth (w : ℕ) : Type 0 where
  pub some : 1 ≤ w
  pub most : w ≤ 64

pub word_width : (w : ℕ) → is_word w ≡ true → IsWidth w
word_width w h = let p = and_parts (nat_le 1 w) (nat_le w 64) h in record { some = leb-true 1 w p.0; most = leb-true w 64 p.1 }

pub width_word : (w : ℕ) → IsWidth w → is_word w ≡ true
width_word w h = ap₂ (λ a b. a && b) (le-leb 1 w h.some) (le-leb w 64 h.most)

one_width : IsWidth 1
one_width = record { some = omega arith; most = omega arith }

unary_width : (op : f.UnaryOp) (m : ℕ) → IsWidth m → IsWidth (f.unary_size op m)
unary_width f.complement m h = h
unary_width f.logical_not m h = one_width
unary_width f.reduce_and m h = one_width
unary_width f.reduce_or m h = one_width
unary_width f.reduce_xor m h = one_width
unary_width f.reduce_nand m h = one_width
unary_width f.reduce_nor m h = one_width
unary_width f.reduce_xnor m h = one_width

max_width : (m n : ℕ) → IsWidth m → IsWidth n → IsWidth (max m n)
max_width m n h k = let a = h.some in let b = h.most in let c = k.most in record { some = omega arith; most = omega arith }

binary_width : (op : f.BinaryOp) (m n : ℕ) → IsWidth m → IsWidth n → IsWidth (f.binary_size op m n)
binary_width f.times m n h k = max_width m n h k
binary_width f.divided m n h k = max_width m n h k
binary_width f.remainder m n h k = max_width m n h k
binary_width f.plus m n h k = max_width m n h k
binary_width f.minus m n h k = max_width m n h k
binary_width f.shift_left m n h k = h
binary_width f.shift_right m n h k = h
binary_width f.is_less m n h k = one_width
binary_width f.is_at_most m n h k = one_width
binary_width f.is_greater m n h k = one_width
binary_width f.is_at_least m n h k = one_width
binary_width f.is_equal m n h k = one_width
binary_width f.is_unequal m n h k = one_width
binary_width f.bitwise_and m n h k = max_width m n h k
binary_width f.bitwise_or m n h k = max_width m n h k
binary_width f.bitwise_xor m n h k = max_width m n h k
binary_width f.bitwise_xnor m n h k = max_width m n h k
binary_width f.logical_and m n h k = one_width
binary_width f.logical_or m n h k = one_width

-- what is kept, where it is right, is a size
record Shows (k : Kept) (n : ℕ) : Type 0 where
  pub size : k.width ≡ n
  pub wide : IsWidth k.width

abbrev Says : Kept → ℕ → Type 0
Says k n = k.right ≡ true → Shows k n

shows : (w n : ℕ) (b : Bool) → w ≡ n → IsWidth w → Shows (record { width = w; right = b }) n
shows w n b e h = record { size = e; wide = h }

-- ---- expressions

abbrev E : Type 0
E = (e : FExpr) × Says (kept_of e) (f.size (expr_of e))

parts_size : (es : List E) → all_right (map kept_of (map (λ e. e.0) es)) ≡ true → sum (map kept_of (map (λ e. e.0) es)) ≡ f.sizes (exprs_of (map expr_of (map (λ e. e.0) es)))
parts_size [] h = refl
parts_size (e ∷ es) h = let p = and_parts (is_sized e.0) (all_right (map kept_of (map (λ e. e.0) es))) h in ap₂ (λ m n. m + n) (e.1 p.0).size (parts_size es p.1)

abbrev kept_layer : FExpr-F FExpr → Kept
kept_layer x = kept_step (map-FExpr FExpr Kept kept_of x)

abbrev expr_layer : FExpr-F FExpr → f.Expr
expr_layer x = expr_step (map-FExpr FExpr f.Expr expr_of x)

abbrev plain : FExpr-F E → FExpr-F FExpr
plain = map-FExpr E FExpr (λ e. e.0)

layer_size : (y : FExpr-F E) → Says (kept_layer (plain y)) (f.size (expr_layer (plain y)))
layer_size (FExpr-F.Number value width) h = let p = and_parts (is_word width) _ h in shows _ _ _ refl (word_width width p.0)
layer_size (FExpr-F.Read sig at width) h = shows _ _ _ refl (word_width width h)
layer_size (FExpr-F.At sig index width) h =
    let p = and_parts (width == 1) (is_sized index.value.0) h in let e = eqb-true width 1 p.0 in shows _ _ _ e (subst IsWidth (sym e) one_width)
layer_size (FExpr-F.Unary op a width) h =
    let w = f.unary_size (unary_of op) (kept_of a.value.0).width in
    let p = and_parts (width == w) (is_sized a.value.0) h in
    let e = eqb-true width w p.0 in let i = a.value.1 p.1 in
    shows _ _ _ (e ∙ ap (f.unary_size (unary_of op)) i.size) (subst IsWidth (sym e) (unary_width (unary_of op) (kept_of a.value.0).width i.wide))
layer_size (FExpr-F.Binary op a b width) h =
    let m = (kept_of a.value.0).width in let n = (kept_of b.value.0).width in let w = f.binary_size (binary_of op) m n in
    let p = and_parts (width == w) (is_sized a.value.0 && is_sized b.value.0) h in
    let q = and_parts (is_sized a.value.0) (is_sized b.value.0) p.1 in
    let e = eqb-true width w p.0 in let i = a.value.1 q.0 in let j = b.value.1 q.1 in
    shows _ _ _ (e ∙ ap₂ (f.binary_size (binary_of op)) i.size j.size) (subst IsWidth (sym e) (binary_width (binary_of op) m n i.wide j.wide))
layer_size (FExpr-F.Choose c x y width) h =
    let m = (kept_of x.value.0).width in let n = (kept_of y.value.0).width in
    let p = and_parts (width == max m n) (is_sized c.value.0 && (is_sized x.value.0 && is_sized y.value.0)) h in
    let q = and_parts (is_sized c.value.0) (is_sized x.value.0 && is_sized y.value.0) p.1 in
    let r = and_parts (is_sized x.value.0) (is_sized y.value.0) q.1 in
    let e = eqb-true width (max m n) p.0 in let i = x.value.1 r.0 in let j = y.value.1 r.1 in
    shows _ _ _ (e ∙ ap₂ max i.size j.size) (subst IsWidth (sym e) (max_width m n i.wide j.wide))
layer_size (FExpr-F.Gate op inputs) h = shows _ _ _ refl one_width
layer_size (FExpr-F.Join parts width) h =
    let ks = map kept_of (map (λ (e : E). e.0) parts) in
    let p = and_parts (width == sum ks) (is_word width && all_right ks) h in
    let q = and_parts (is_word width) (all_right ks) p.1 in
    shows _ _ _ (eqb-true width (sum ks) p.0 ∙ parts_size parts q.1) (word_width width q.0)
layer_size (FExpr-F.Repeat count parts width) h =
    let ks = map kept_of (map (λ (e : E). e.0) parts) in
    let p = and_parts (width == count * sum ks) (is_word width && all_right ks) h in
    let q = and_parts (is_word width) (all_right ks) p.1 in
    shows _ _ _ (eqb-true width (count * sum ks) p.0 ∙ ap (λ n. count * n) (parts_size parts q.1)) (word_width width q.0)

shown : (e : FExpr) → Says (kept_of e) (f.size (expr_of e))
shown = ind-FExpr (λ e. Says (kept_of e) (f.size (expr_of e))) (λ x y is.
    subst (λ (k : Kept). Says k (f.size (expr_of (roll-FExpr x)))) (sym (fold-roll-FExpr Kept kept_step x)) (subst (Says (kept_layer x)) (ap f.size (sym (fold-roll-FExpr f.Expr expr_step x))) (subst (λ z. Says (kept_layer z) (f.size (expr_layer z))) is (layer_size y))))

-- the width that a sized expression keeps is its size
pub sized_width : (e : FExpr) → is_sized e ≡ true → (kept_of e).width ≡ f.size (expr_of e)
sized_width e h = (shown e h).size

pub sized_word : (e : FExpr) → is_sized e ≡ true → is_word (kept_of e).width ≡ true
sized_word e h = width_word (kept_of e).width (shown e h).wide

pub sized_range : (e : FExpr) → is_sized e ≡ true → IsWidth (kept_of e).width
sized_range e h = (shown e h).wide

-- ---- targets

module _ (wid : ℕ → ℕ) where
  abbrev T : Type 0
  T = (t : FTarget) × Says (target_kept wid t) (f.target_size wid (target_of t))

  targets_size : (ts : List T) → all_right (map (target_kept wid) (map (λ t. t.0) ts)) ≡ true
      → sum (map (target_kept wid) (map (λ t. t.0) ts)) ≡ f.target_sizes wid (targets_of (map target_of (map (λ t. t.0) ts)))
  targets_size [] h = refl
  targets_size (t ∷ ts) h =
      let p = and_parts (target_kept wid t.0).right (all_right (map (target_kept wid) (map (λ t. t.0) ts))) h in ap₂ (λ m n. m + n) (t.1 p.0).size (targets_size ts p.1)

  abbrev target_kept_layer : FTarget-F FTarget → Kept
  target_kept_layer x = s.target_step wid (map-FTarget FTarget Kept (target_kept wid) x)

  abbrev target_layer : FTarget-F FTarget → f.Target
  target_layer x = v.target_step (map-FTarget FTarget f.Target target_of x)

  abbrev plain_target : FTarget-F T → FTarget-F FTarget
  plain_target = map-FTarget T FTarget (λ t. t.0)

  target_layer_size : (y : FTarget-F T) → Says (target_kept_layer (plain_target y)) (f.target_size wid (target_layer (plain_target y)))
  target_layer_size (FTarget-F.Whole sig) h = shows _ _ _ refl (word_width (wid sig) h)
  target_layer_size (FTarget-F.At sig index) h = shows _ _ _ refl one_width
  target_layer_size (FTarget-F.Part sig at width) h = let p = and_parts (is_word width) _ h in shows _ _ _ refl (word_width width p.0)
  target_layer_size (FTarget-F.Join parts) h =
      let ks = map (target_kept wid) (map (λ (t : T). t.0) parts) in
      let p = and_parts (is_word (sum ks)) (all_right ks) h in
      shows _ _ _ (targets_size parts p.1) (word_width (sum ks) p.0)

  target_shown : (t : FTarget) → Says (target_kept wid t) (f.target_size wid (target_of t))
  target_shown = ind-FTarget (λ t. Says (target_kept wid t) (f.target_size wid (target_of t))) (λ x y is.
      subst (λ (k : Kept). Says k (f.target_size wid (target_of (roll-FTarget x)))) (sym (fold-roll-FTarget Kept (s.target_step wid) x)) (subst (Says (target_kept_layer x)) (ap (f.target_size wid) (sym (fold-roll-FTarget f.Target v.target_step x))) (subst (λ z. Says (target_kept_layer z) (f.target_size wid (target_layer z))) is (target_layer_size y))))

  -- the width that a sized target keeps is its size
  pub sized_target : (t : FTarget) → (target_kept wid t).right ≡ true → (target_kept wid t).width ≡ f.target_size wid (target_of t)
  sized_target t h = (target_shown t h).size

  pub target_range : (t : FTarget) → (target_kept wid t).right ≡ true → IsWidth (target_kept wid t).width
  target_range t h = (target_shown t h).wide
