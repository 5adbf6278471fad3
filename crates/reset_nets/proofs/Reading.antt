-- Reads as numbers, and signals that are all known.
use Rattle.std.proofs.Common.{◌≡◌, ℕ, ◌+◌, ◌-◌, ◌*◌, ◌^◌, ◌<◌, ◌≤◌, ◌==◌, max, Bool, true, false, not, ◌&&◌, nat_lt, List, [], ◌∷◌, ◌++◌, length, map, Option, refl, sym, ap, ◌∙◌, arith, eqb-true, lt-ltb, leb-true}
use Rattle.std.specs.Prelude.{is_some, nat_le}
use Rattle.std.specs.List.{list_all}
use Rattle.std.proofs.lemmas.Bool.{and_parts}
use Rattle.std.proofs.lemmas.Nat.{pow-add, pow_pos}
use Rattle.flat_form.specs.declared.flat.FExpr.{FExpr}
use Rattle.flat_form.specs.declared.flat.FExpr.TheVariants as e
use Rattle.flat_form.specs.View.{expr_of, exprs_of}
use Rattle.flat_form.specs.Sizes.{Kept, is_word, is_sized, kept_of}
use Rattle.flat_form.proofs.Folds.{kept_of-Number, kept_of-Read}
use Rattle.flat_form.proofs.Numbers.{byte-is}
use Rattle.flat_form.proofs.Sized.{sized_width}
use mir.Val.{bool_byte}
use Rattle.std.proofs.lemmas.List.{append-nil}
use Rattle.cell_graph.specs.Tree.{number}
use Rattle.flat_meaning.specs.Meaning.{value}
use Rattle.flat_meaning.specs.Full.{nothing}
use Rattle.flat_unfolding.specs.Constants.{assigned_value}
use Rattle.flat_meaning.specs.Flat.{expr}
use Rattle.reset_nets.specs.Nets.{with_levels, all_with_levels, value_at}
use Rattle.reset_nets.specs.Finding.{are_known}

-- a number of one bit fits in each word
bit_fits : (v w : ℕ) → v ≤ 1 → (is_word w && nat_lt v (2 ^ w)) ≡ is_word w
bit_fits v w l = go (is_word w) refl
  where
    more : (k : ℕ) → 1 ≤ k → v < 2 ^ k
    more k h =
        let d : k ≡ 1 + (k - 1) = omega (arith, h) in
        let e : 2 ^ k ≡ 2 * 2 ^ (k - 1) = ap (λ n. 2 ^ n) d ∙ pow-add 2 1 (k - 1) in
        let p = pow_pos (k - 1) in
        omega (arith, l, e, p)

    go : (b : Bool) → is_word w ≡ b → (b && nat_lt v (2 ^ w)) ≡ b
    go false e = refl
    go true e = lt-ltb v (2 ^ w) (more w (leb-true 1 w (and_parts (nat_le 1 w) (nat_le w 64) e).0))

pub read_kept : (sig at v w : ℕ) → v ≤ 1 → kept_of (e.Number v w) ≡ kept_of (e.Read sig at w)
read_kept sig at v w l =
    kept_of-Number v w ∙ ap (λ (b : Bool). let k : Kept = record { width = w; right = b } in k) (bit_fits v w l) ∙ sym (kept_of-Read sig at w)

pub all_levels : (levels : ℕ → Bool) (es : List FExpr) → exprs_of (map (λ (x : FExpr). with_levels levels (expr_of x)) es) ≡ all_with_levels levels (exprs_of (map expr_of es))
all_levels levels [] = refl
all_levels levels (x ∷ es) = ap (λ xs. expr (with_levels levels (expr_of x)) xs) (all_levels levels es)

-- all expressions of a list are done
pub all_done : (levels : ℕ → Bool) (done rest from : List FExpr) → rest ≡ []
    → map expr_of done ++ map (λ (x : FExpr). with_levels levels (expr_of x)) rest ≡ map (λ (x : FExpr). with_levels levels (expr_of x)) from
    → exprs_of (map expr_of done) ≡ all_with_levels levels (exprs_of (map expr_of from))
all_done levels done rest from none h =
    ap exprs_of (sym (append-nil (map expr_of done)) ∙ ap (λ (ys : List FExpr). map expr_of done ++ map (λ (x : FExpr). with_levels levels (expr_of x)) ys) (sym none) ∙ h)
    ∙ all_levels levels from

pub small_bit : (b : Bool) (n : ℕ) → n ≡ bool_byte b → n ≤ 1
small_bit true n e = let k : n ≡ 1 = e ∙ byte-is true in omega (arith, k)
small_bit false n e = let k : n ≡ 0 = e ∙ byte-is false in omega (arith, k)

-- the value of one bit that is assigned, of an expression whose reads are numbers
pub value_is : (levels : ℕ → Bool) (fixed from : FExpr) (r : ℕ) → is_sized from ≡ true → expr_of fixed ≡ with_levels levels (expr_of from) → kept_of fixed ≡ kept_of from
    → (is_sized fixed ≡ true → r ≡ number (value nothing (expr_of fixed) (max 1 (kept_of fixed).width)) 1) → not (r == 0) ≡ value_at levels (expr_of from)
value_is levels fixed from r sized same kept is =
    let k : is_sized fixed ≡ true = ap (λ (q : Kept). q.right) kept ∙ sized in
    ap (λ n. not (n == 0)) (is k ∙ ap (λ n. number (value nothing (expr_of fixed) (max 1 n)) 1) (sized_width fixed k))
    ∙ ap (λ x. not (assigned_value x 1 == 0)) same

-- ---- all known

pub some_fails : (known : ℕ → Option Bool) (ss : List ℕ) → false ≡ list_all (λ s. is_some (known s)) ss → false ≡ are_known known ss
some_fails known [] h = refl
some_fails known (s ∷ rest) h = h

pub all_pass : (known : ℕ → Option Bool) (ss : List ℕ) (b : Bool) → true ≡ list_all (λ s. is_some (known s)) ss → b ≡ (length ss == 0) → not b ≡ are_known known ss
all_pass known [] b h e = ap not e
all_pass known (s ∷ rest) true h e = let k = eqb-true (length (s ∷ rest)) 0 (sym e) in absurd (omega arith)
all_pass known (s ∷ rest) false h e = h

pub all_not : (P : ℕ → Bool) (x : ℕ) (rest : List ℕ) (b : Bool) → list_all P (x ∷ rest) ≡ b → P x ≡ false → false ≡ b
all_not P x rest b h e = ap (λ t. t && list_all P rest) (sym e) ∙ h

pub all_then : (P : ℕ → Bool) (x : ℕ) (rest : List ℕ) (b : Bool) → list_all P (x ∷ rest) ≡ b → P x ≡ true → list_all P rest ≡ b
all_then P x rest b h e = ap (λ t. t && list_all P rest) (sym e) ∙ h
