-- Selects of what a name stands for, against what the definition reads.
use Rattle.std.proofs.Common.{◌≡◌, Result, Ok, Err, Box, Global, ℕ, suc, ◌+◌, ◌-◌, ◌*◌, ◌/◌, ◌%◌, ◌^◌, ◌<◌, ◌≤◌, Bool, true, false, cond, not, ◌&&◌, ◌==◌, nat_lt, nat_le, List, [], ◌++◌, length, Option, Some, None, is_none, is_some, refl, sym, ap, ap₂, subst, ◌∙◌, arith, lt-ltb, le-leb, leb-true, eq-eqb, ne_eqb, pow_pos, pow_mono}
use Rattle.std.specs.Prelude.{option_map, option_and_then, slice_get, IfOk}
use Rattle.std.specs.Option.{option_map_or}
use Rattle.std.proofs.lemmas.List.{append_assoc}
use Rattle.std.proofs.Math.Nat.{mod-lt, div-eq_of_lt, lt-div-mul-add}
use Rattle.std.proofs.lemmas.Bool.{and_parts, false≢true}
use Rattle.cell_graph.specs.Tree.{number}
use Rattle.flat_meaning.specs.Flat.{Expr, Number, At, Binary, Choose, is_equal, size}
use Rattle.flat_meaning.specs.Meaning.{value}
use Rattle.flat_meaning.specs.Full.{nothing}
use Rattle.flat_meaning.proofs.Words.{by_lt}
use Rattle.flat_form.specs.declared.flat.FExpr.{FExpr}
use Rattle.flat_form.specs.declared.flat.FExpr.TheVariants as f
use Rattle.flat_form.specs.View.{expr_of}
use Rattle.flat_form.specs.Sizes.{Kept, is_word, kept_of, is_sized}
use Rattle.flat_form.proofs.Folds.{expr_of-Number, kept_of-Number, kept_of-Read, expr_of-At, kept_of-At}
use Rattle.flat_form.proofs.Sized.{IsWidth, word_width, width_word, sized_width, sized_word}
use Rattle.verilog_ast.specs.declared.PartKind.{PartKind}
use Rattle.verilog_ast.specs.declared.PartKind.TheVariants as k
use Rattle.flat_unfolding.specs.Outcome.{Text, Broken, breaks, breaks_if}
use Rattle.flat_unfolding.specs.Names as n
use Rattle.flat_unfolding.specs.Names.{Range, span, offset, offset_in, width_of, range_at, width_at, reset_at}
use Rattle.flat_unfolding.specs.Constants.{own_value, both}
use Rattle.flat_unfolding.specs.Expressions as definition
use Rattle.flat_unfolding.specs.Expressions.{Term, is_empty, is_sound, as_constant, as_bound, as_count, as_second, range_of, spoilt, no_expr, Select, one_bit, bit_select, word_bits, word_of, words_from, variable, is_index, bits_between, ascends, part_select, indices_select, kind_select, param_bits, signal_bits, param_index, signal_index, index_term, part_term}
use Rattle.flat_meaning.specs.Law.{expr_reads}
use Rattle.flat_names.specs.declared.scope.Meaning.{Meaning}
use Rattle.flat_names.specs.declared.scope.Meaning.TheVariants as m
use Rattle.flat_names.specs.declared.scope.Look.{Look}
use Rattle.flat_names.specs.declared.design.Reset.{Reset}
use Rattle.flat_names.specs.declared.design.Entry.{Entry}
use Rattle.flat_names.specs.declared.resolved.Resolved.{Resolved}
use Rattle.flat_names.specs.Looks.{meaning_of, kept_in, as_value, meant, one_if, bits_of, Shows, IsFit, IsFitParam}
use Rattle.flat_names.specs.Noting.{Noted, noted, all_noted}
use Rattle.flat_names.specs.declared.signs.Signs.{Signs}
use Rattle.flat_names.specs.Signs.{no_signs}
use Rattle.flat_names.specs.Pieces.{IsRead, Makes, SameReads, out_of_range}
use Rattle.flat_names.specs.Selects.{is_param, index_at, index_of, part_at, bound_notes, second_notes, part_in, part_notes, StandsFor, IsSelected}
use Rattle.flat_names.proofs.Options.{none-some, some-same}
use Rattle.flat_names.proofs.Notes.{noted-both}
use Rattle.flat_names.proofs.Terms.{empty-both, empty-if}
use Rattle.flat_names.proofs.Repeats.{bound-sound, count-sound}
use Rattle.flat_names.proofs.Looked.{own-is, width-is, meant-is, level-is, bits-expr, is-there}

-- ---- orders

le-false : (a b : ℕ) → b < a → nat_le a b ≡ false
le-false a b h = go (nat_le a b) refl
  where
    go : (v : Bool) → nat_le a b ≡ v → nat_le a b ≡ false
    go true e = absurd (let l = leb-true a b e in omega arith)
    go false e = e

pub lt-false : (a b : ℕ) → b ≤ a → nat_lt a b ≡ false
lt-false a b h = by_lt (λ v. v ≡ false) a b (λ l. absurd (omega arith)) (λ l. refl)

pub by_le : (P : Bool → Type 0) (a b : ℕ) → (a ≤ b → P true) → (b < a → P false) → P (nat_le a b)
by_le P a b h k = by_lt (λ v. P (nat_le a b)) b a (λ l. subst P (sym (le-false a b l)) (k l)) (λ l. subst P (sym (le-leb a b l)) (h l))

pub select-as : (bs : List Broken) (t : Term) (old new back : Noted) (r q : Resolved) → new ≡ back → r ≡ q → IsSelected bs t old back q → IsSelected bs t old new r
select-as bs t old new back r q e d s = subst (λ z. IsSelected bs t old z r) (sym e) (subst (IsSelected bs t old back) (sym d) s)

pub if-ok : {A E : Type 0} (P Q : A → Type 0) (r : Result A E) → ((a : A) → P a → Q a) → IfOk r P → IfOk r Q
if-ok P Q (Ok a) f h = f a h
if-ok P Q (Err e) f h = h

-- ---- a variable index

-- a quotient is 0 where the divisor is greater
pub quotient-some : (a p : ℕ) → 1 ≤ p → not (a / p == 0) ≡ nat_le p a
quotient-some a p h = by_le (λ v. not (a / p == 0) ≡ v) p a
    (λ l. ap not (ne_eqb (a / p) 0 (λ z. let k = lt-div-mul-add {a = a} {b = p} (omega arith) in let j : a / p * p ≡ 0 * p = ap (λ q. q * p) z in omega arith)))
    (λ l. ap not (eq-eqb (a / p) 0 (div-eq_of_lt l)))

pub quotient-none : (a w : ℕ) → a < 2 ^ 64 → 64 ≤ w → false ≡ nat_le (2 ^ w) a
quotient-none a w h l = let k = pow_mono {i = 64} {j = w} l in sym (le-false (2 ^ w) a (omega arith))

-- ---- bounds

pub constant-value : (t : Term) (r : Resolved) (v : ℕ) → IsRead (as_constant t) r → r.is_sound ≡ true
    → v ≡ number (value nothing (expr_of r.expr) (kept_of r.expr).width) (kept_of r.expr).width → v ≡ own_value t.expr
constant-value t r v h s e = own-is r.expr v (h.sized s) e ∙ ap own_value (h.expr s)

pub index-value : (t : Term) (r : Resolved) (o : Option ℕ) (q : Option Range) → IsRead t r → r.is_sound ≡ true → o ≡ offset_in q (own_value (expr_of r.expr)) → o ≡ offset_in q (own_value t.expr)
index-value t r o q h s e = e ∙ ap (λ x. offset_in q (own_value x)) (h.expr s)

abbrev IsBound : Term → Option ℕ → Noted → Noted → Type 0
IsBound t b old new = (b ≡ cond (is_sound (as_bound t)) (Some (own_value t.expr)) None) × (new ≡ all_noted old (bound_notes t))

bound-by : (t : Term) (old : Noted) (s b : Bool) → is_sound (as_constant t) ≡ s → nat_le (2 ^ 31) (own_value t.expr) ≡ b
    → IsBound t (cond (s && not b) (Some (own_value t.expr)) None) old (all_noted old (breaks_if (s && b) 307 []))
bound-by t old s b es eb =
    (ap (λ x. cond x (Some (own_value t.expr)) None) (sym (bound-sound t ∙ ap₂ (λ x y. x && not y) es eb)), ap (λ x. all_noted old (breaks_if x 307 [])) (sym (ap₂ (λ x y. x && y) es eb)))

pub bound-unsound : (t : Term) (r : Resolved) (old : Noted) → IsRead (as_constant t) r → r.is_sound ≡ false → IsBound t None old old
bound-unsound t r old h s = bound-by t old false (nat_le (2 ^ 31) (own_value t.expr)) (sym h.sound ∙ s) refl

pub bound-large : (t : Term) (r : Resolved) (old : Noted) → IsRead (as_constant t) r → r.is_sound ≡ true → 2 ^ 31 ≤ own_value t.expr → IsBound t None old (noted old out_of_range)
bound-large t r old h s l = bound-by t old true true (sym h.sound ∙ s) (le-leb (2 ^ 31) (own_value t.expr) l)

pub bound-right : (t : Term) (r : Resolved) (old : Noted) → IsRead (as_constant t) r → r.is_sound ≡ true → own_value t.expr < 2 ^ 31 → IsBound t (Some (own_value t.expr)) old old
bound-right t r old h s l = bound-by t old true false (sym h.sound ∙ s) (le-false (2 ^ 31) (own_value t.expr) l)

abbrev pub as_range : ℕ → ℕ → Range
as_range a b = record { left = a; right = b }

pub bounds-between : (l r : Term) (a b : Option ℕ) → a ≡ cond (is_sound l) (Some (own_value l.expr)) None → b ≡ cond (is_sound r) (Some (own_value r.expr)) None → both as_range a b ≡ range_of l r
bounds-between l r a b h k = ap₂ (both as_range) h k ∙ go (is_sound l) (is_sound r)
  where
    go : (s t : Bool) → both as_range (cond s (Some (own_value l.expr)) None) (cond t (Some (own_value r.expr)) None) ≡ cond (s && t) (Some (as_range (own_value l.expr) (own_value r.expr))) None
    go true true = refl
    go true false = refl
    go false true = refl
    go false false = refl

-- ---- parts of a range

pub offset-within : (i : ℕ) (r : Range) (k : ℕ) → offset i r ≡ Some k → k < span r
offset-within i r k h = by_lt (λ b. cond b (cond (nat_le r.left i && nat_le i r.right) (Some (r.right - i)) None) (cond (nat_le r.right i && nat_le i r.left) (Some (i - r.right)) None) ≡ Some k → k < span r) r.left r.right
    (λ l. up (nat_le r.left i && nat_le i r.right) refl) (λ l. down (nat_le r.right i && nat_le i r.left) refl) h
  where
    up : (b : Bool) → (nat_le r.left i && nat_le i r.right) ≡ b → cond b (Some (r.right - i)) None ≡ Some k → k < span r
    up true e d = let p = and_parts (nat_le r.left i) (nat_le i r.right) e in let a = leb-true r.left i p.0 in let c = leb-true i r.right p.1 in let s : r.right - i ≡ k = some-same (r.right - i) k d in omega arith
    up false e d = none-some k d

    down : (b : Bool) → (nat_le r.right i && nat_le i r.left) ≡ b → cond b (Some (i - r.right)) None ≡ Some k → k < span r
    down true e d = let p = and_parts (nat_le r.right i) (nat_le i r.left) e in let a = leb-true r.right i p.0 in let c = leb-true i r.left p.1 in let s : i - r.right ≡ k = some-same (i - r.right) k d in omega arith
    down false e d = none-some k d

-- a part of a range of a word is a word
pub select-word : (r : Option Range) (p : Range) (s : Select) → width_of r ≤ 64 → part_select r p ≡ Some s → is_word s.bits ≡ true
select-word None p s h e = none-some s e
select-word (Some q) p s h e = go (offset p.left q) (offset p.right q) refl e
  where
    go : (a b : Option ℕ) → offset p.left q ≡ a → bits_between a b ≡ Some s → is_word s.bits ≡ true
    go None b i k = none-some s k
    go (Some high) None i k = none-some s k
    go (Some high) (Some low) i k = by_lt (λ v. cond v None (Some (record { at = low; bits = high - low + 1 })) ≡ Some s → is_word s.bits ≡ true) high low
        (λ l d. none-some s d)
        (λ l d. let w = offset-within p.left q high i in width_word s.bits (subst IsWidth (ap (λ (x : Select). x.bits) (some-same (record { at = low; bits = high - low + 1 }) s d)) (record { some = omega arith; most = omega arith }))) k

pub kind-word : (r : Option Range) (kind : PartKind) (p : Range) (s : Select) → width_of r ≤ 64 → kind_select r kind p ≡ Some s → is_word s.bits ≡ true
kind-word r k.Range p s h e = select-word r p s h e
kind-word r k.Up p s h e = select-word r _ s h e
kind-word r k.Down p s h e = go (nat_lt p.left (p.right - 1)) e
  where
    go : (b : Bool) → cond b None (indices_select r (p.left - (p.right - 1)) p.left) ≡ Some s → is_word s.bits ≡ true
    go true e = none-some s e
    go false e = select-word r _ s h e

-- the higher index stands first where the range descends
pub by-ascent : (o : Option Select) (r : Option Range) (low high : ℕ) (b : Bool) → ascends r ≡ b → o ≡ part_select r (as_range (cond b low high) (cond b high low)) → o ≡ indices_select r low high
by-ascent o r low high b e h = h ∙ ap (λ t. part_select r (as_range (cond t low high) (cond t high low))) (sym e)

-- indices below 0 are outside
pub down-outside : (r : Option Range) (b n : ℕ) → b < n - 1 → None ≡ kind_select r k.Down (as_range b n)
down-outside r b n h = by_lt (λ t. None ≡ cond t None (indices_select r (b - (n - 1)) b)) b (n - 1) (λ l. refl) (λ l. absurd (omega arith))

pub down-inside : (r : Option Range) (b n : ℕ) → n - 1 ≤ b → indices_select r (b - (n - 1)) b ≡ kind_select r k.Down (as_range b n)
down-inside r b n h = by_lt (λ t. indices_select r (b - (n - 1)) b ≡ cond t None (indices_select r (b - (n - 1)) b)) b (n - 1) (λ l. absurd (omega arith)) (λ l. refl)

-- ---- the second number of a part

pub second-broken : (kind : PartKind) (t : Term) → (as_second kind t).broken ≡ (as_constant t).broken ++ second_notes kind t
second-broken k.Range t = refl
second-broken k.Up t = append_assoc (as_constant t).broken (bound_notes t) _
second-broken k.Down t = append_assoc (as_constant t).broken (bound_notes t) _

-- a count is a bound
pub count-small : (t : Term) (n : ℕ) → cond (is_sound (as_count t)) (Some (own_value t.expr)) None ≡ Some n → n < 2 ^ 31
count-small t n h = go (is_sound (as_constant t)) (nat_le (2 ^ 31) (own_value t.expr)) (own_value t.expr == 0) refl
    (ap (λ b. cond b (Some (own_value t.expr)) None) (sym (count-sound t ∙ ap (λ b. b && not (own_value t.expr == 0)) (bound-sound t))) ∙ h)
  where
    go : (s b z : Bool) → nat_le (2 ^ 31) (own_value t.expr) ≡ b → cond ((s && not b) && not z) (Some (own_value t.expr)) None ≡ Some n → n < 2 ^ 31
    go true true z e k = none-some n k
    go false b z e k = none-some n k
    go true false true e k = none-some n k
    go true false false e k = let d = some-same (own_value t.expr) n k in by_le (λ v. v ≡ false → n < 2 ^ 31) (2 ^ 31) (own_value t.expr) (λ l i. absurd (false≢true (sym i))) (λ l i. omega arith) e

-- ---- what stands for what

pub number-stands : (v w : ℕ) → is_word w ≡ true → StandsFor (f.Number (v % 2 ^ w) w) (Number w (v % 2 ^ w))
number-stands v w h = (expr_of-Number (v % 2 ^ w) w, ap (λ (k : Kept). k.right) (kept_of-Number (v % 2 ^ w) w) ∙ ap₂ (λ a b. a && b) h (lt-ltb (v % 2 ^ w) (2 ^ w) (mod-lt v (pow_pos w))))

pub nothing-reads : (x : FExpr) → x ≡ f.Number 0 1 → SameReads (expr_of x) no_expr
nothing-reads x h = λ wid s i. ap (λ y. expr_reads wid y s i) (ap expr_of h ∙ expr_of-Number 0 1)

bits-sized : (o : Option Reset) (active : Bool) (s at w : ℕ) → is_word w ≡ true → is_sized (bits_of o active s at w) ≡ true
bits-sized None active s at w h = ap (λ (k : Kept). k.right) (kept_of-Read s at w) ∙ h
bits-sized (Some q) active s at w h = ap (λ (k : Kept). k.right) (kept_of-Number _ w) ∙ ap₂ (λ a b. a && b) h (lt-ltb _ (2 ^ w) (small _))
  where
    small : (b : Bool) → one_if b < 2 ^ w
    small true = let i = (word_width w h).some in let k = pow_mono {i = 1} {j = w} i in omega arith
    small false = pow_pos w

-- the bits of a signal
pub read-stands : (k : Look) (l : n.Look) (s at w : ℕ) (x : FExpr) → Shows k l → is_word w ≡ true
    → (1 ≤ w → x ≡ bits_of (option_and_then (λ (y : Entry). y.reset) (slice_get k.entries.now s)) k.active s at w) → StandsFor x (n.bits_of l s at w)
read-stands k l s at w x h i d =
    let e = d (word_width w i).some in
    let o = option_and_then (λ (y : Entry). y.reset) (slice_get k.entries.now s) in
    (ap expr_of e ∙ bits-expr o (reset_at l.entries s) k.active s at w (level-is k l h s) l refl (sym h.active), ap is_sized e ∙ bits-sized o k.active s at w i)

pub signal-range : (l : n.Look) → IsFit l → (s : ℕ) → width_of (range_at l.entries s) ≤ 64
signal-range l h s = go (slice_get l.entries s) refl
  where
    go : (o : Option n.Entry) → slice_get l.entries s ≡ o → width_of (option_and_then (λ (x : n.Entry). x.range) o) ≤ 64
    go None e = omega arith
    go (Some x) e = (word_width (width_of x.range) (h.entries s x e)).most

pub signal-word : (l : n.Look) → IsFit l → (s : ℕ) → s < length l.entries → is_word (width_at l.entries s) ≡ true
signal-word l h s i = go (slice_get l.entries s) refl
  where
    go : (o : Option n.Entry) → slice_get l.entries s ≡ o → is_word (option_map_or (λ (x : n.Entry). width_of x.range) o 0) ≡ true
    go None e = absurd (is-there l.entries s i e)
    go (Some x) e = h.entries s x e

pub param-range : (p : n.Param) → IsFitParam p → width_of p.range ≤ 64
param-range p h = go p.range refl
  where
    go : (o : Option Range) → p.range ≡ o → width_of o ≤ 64
    go None e = omega arith
    go (Some b) e = let s = h.range b e in let w = (word_width p.width h.width).most in omega arith

-- a whole signal
pub whole-stands : (k : Look) (l : n.Look) (s w : ℕ) (x : FExpr) → Shows k l → IsFit l → s < length l.entries → w ≡ option_map_or (λ (y : Entry). y.width) (slice_get k.entries.now s) 1
    → (1 ≤ w → x ≡ bits_of (option_and_then (λ (y : Entry). y.reset) (slice_get k.entries.now s)) k.active s 0 w) → StandsFor x (n.whole_of l s)
whole-stands k l s w x h i j e d =
    let z : w ≡ width_at l.entries s = e ∙ width-is k l h s j in
    subst (λ v. StandsFor x (n.bits_of l s 0 v)) z (read-stands k l s 0 w x h (ap is_word z ∙ signal-word l i s j) d)

-- ---- what a name stands for

pub meant-kept : (k : Look) (x : Text) (v : Meaning) → meant k.names.now x ≡ Some v → kept_in k.names.now x ≡ Some v
meant-kept k x v h = go (kept_in k.names.now x) refl h
  where
    go : (o : Option Meaning) → kept_in k.names.now x ≡ o → option_and_then as_value o ≡ Some v → kept_in k.names.now x ≡ Some v
    go None e d = none-some v d
    go (Some (m.Param p)) e d = e ∙ d
    go (Some (m.Signal s)) e d = e ∙ d
    go (Some (m.Memory a)) e d = e ∙ d
    go (Some m.NoValue) e d = none-some v d

pub never-no_value : (k : Look) (x : Text) (o : Option Meaning) → o ≡ meant k.names.now x → o ≡ Some m.NoValue → meant k.names.now x ≡ None
never-no_value k x o h i = go (kept_in k.names.now x) (sym h ∙ i)
  where
    other : {A : Type 0} (v : Meaning) → Some v ≡ Some m.NoValue → is_some (as_value v) ≡ true → A
    other v d e = absurd (false≢true (ap (λ w. is_some (as_value w)) (sym (some-same v m.NoValue d)) ∙ e))

    go : (q : Option Meaning) → option_and_then as_value q ≡ Some m.NoValue → option_and_then as_value q ≡ None
    go None d = refl
    go (Some (m.Param p)) d = other (m.Param p) d refl
    go (Some (m.Signal s)) d = other (m.Signal s) d refl
    go (Some (m.Memory a)) d = other (m.Memory a) d refl
    go (Some m.NoValue) d = refl

pub means : (k : Look) (l : n.Look) → Shows k l → (x : Text) (o : Option Meaning) → o ≡ meant k.names.now x → n.meaning l x ≡ option_map meaning_of o
means k l h x o e = meant-is k l h x ∙ ap (option_map meaning_of) (sym e)

pub means-nothing : (k : Look) (l : n.Look) → Shows k l → (x : Text) → meant k.names.now x ≡ None → n.meaning l x ≡ None
means-nothing k l h x e = meant-is k l h x ∙ ap (option_map meaning_of) e

-- ---- selects that break no rule, and others

pub select-sound : (bs : List Broken) (x : FExpr) (y : Expr) (c : Bool) (old : Noted) → is_empty bs ≡ true → StandsFor x y
    → IsSelected bs (spoilt y c []) old old (record { expr = x; is_sound = true; is_constant = c; count = None; signs = no_signs })
select-sound bs x y c old h s = (
  record {
    sound = sym (empty-both bs [] ∙ ap (λ b. b && true) h);
    constant = refl;
    expr = λ o. s.0;
    sized = λ o. s.1;
    reads = λ wid a i. ap (λ z. expr_reads wid z a i) s.0;
  },
  refl,
  refl,
  refl,
)

pub select-broken : (bs : List Broken) (t : Term) (x : FExpr) (c : Bool) (old new : Noted) → (is_empty bs && is_empty t.broken) ≡ false → c ≡ t.is_constant → SameReads (expr_of x) t.expr → new ≡ all_noted old t.broken
    → IsSelected bs t old new (record { expr = x; is_sound = false; is_constant = c; count = None; signs = no_signs })
select-broken bs t x c old new h k s d = (
  record {
    sound = sym (empty-both bs t.broken ∙ h);
    constant = k;
    expr = λ o. absurd (false≢true o);
    sized = λ o. absurd (false≢true o);
    reads = s;
  },
  refl,
  d,
  refl,
)

and-false : (b : Bool) → (b && false) ≡ false
and-false true = refl
and-false false = refl

-- a select that is outside
pub select-missed : (bs : List Broken) (x : FExpr) (c : Bool) (y : Text) (old : Noted) → x ≡ f.Number 0 1
    → IsSelected bs (spoilt no_expr c (breaks 314 y)) old (noted old (record { number = 314; name = y; place = None })) (record { expr = x; is_sound = false; is_constant = c; count = None; signs = no_signs })
select-missed bs x c y old h = select-broken bs (spoilt no_expr c (breaks 314 y)) x c old (noted old (record { number = 314; name = y; place = None })) (and-false (is_empty bs)) refl (nothing-reads x h) refl

abbrev pub missed : Noted → ℕ → Text → Noted
missed old k y = noted old (record { number = k; name = y; place = None })

abbrev pub broken_as : FExpr → Bool → Resolved
broken_as x c = record { expr = x; is_sound = false; is_constant = c; count = None; signs = no_signs }

abbrev pub sound_with : Signs → FExpr → Bool → Resolved
sound_with g x c = record { expr = x; is_sound = true; is_constant = c; count = None; signs = g }

abbrev pub sound_as : FExpr → Bool → Resolved
sound_as = sound_with no_signs

-- ---- an index

module _ (l : n.Look) (x : Text) (t : Term) (r : Resolved) (old : Noted) where
  -- it breaks a rule itself
  pub index-unsound : (o : Option n.Meaning) (c : Bool) → IsRead t r → r.is_sound ≡ false → c ≡ (is_param o && r.is_constant) → IsSelected t.broken (index_of l x t o) old old (broken_as r.expr c)
  index-unsound o c h s d =
      let e : is_sound t ≡ false = sym h.sound ∙ s in
      subst (λ b. IsSelected t.broken (cond b (index_at l x t o) (spoilt t.expr (is_param o && t.is_constant) [])) old old (broken_as r.expr c)) (sym e)
      (select-broken t.broken (spoilt t.expr (is_param o && t.is_constant) []) r.expr c old old (ap (λ b. b && true) e) (d ∙ ap (λ b. is_param o && b) h.constant) h.reads refl)

  pub index-sound : (o : Option n.Meaning) (new : Noted) (q : Resolved) → IsRead t r → r.is_sound ≡ true → (is_empty t.broken ≡ true → IsSelected t.broken (index_at l x t o) old new q) → IsSelected t.broken (index_of l x t o) old new q
  index-sound o new q h s k =
      let e : is_sound t ≡ true = sym h.sound ∙ s in
      subst (λ b. IsSelected t.broken (cond b (index_at l x t o) (spoilt t.expr (is_param o && t.is_constant) [])) old new q) (sym e) (k e)

  -- its name stands for nothing
  pub index-unknown : IsRead t r → IsSelected (breaks_if true 305 x ++ t.broken) (index_of l x t None) old old (broken_as r.expr false)
  index-unknown h = go (is_sound t)
    where
      go : (b : Bool) → IsSelected (breaks_if true 305 x ++ t.broken) (cond b (spoilt t.expr false []) (spoilt t.expr false [])) old old (broken_as r.expr false)
      go true = select-broken (breaks_if true 305 x ++ t.broken) (spoilt t.expr false []) r.expr false old old refl refl h.reads refl
      go false = select-broken (breaks_if true 305 x ++ t.broken) (spoilt t.expr false []) r.expr false old old refl refl h.reads refl

  pub index-done : (o : Option n.Meaning) (new : Noted) (q : Resolved) → n.meaning l x ≡ o → IsSelected (breaks_if (is_none o) 305 x ++ t.broken) (index_of l x t o) old new q
      → IsRead (index_term l x t) q × (q.count ≡ None) × (new ≡ all_noted old (index_of l x t (n.meaning l x)).broken) × (q.signs ≡ no_signs)
  index-done o new q e s =
      let k = subst (λ z. IsSelected (breaks_if (is_none z) 305 x ++ t.broken) (index_of l x t z) old new q) (sym e) s in
      (subst (λ z. IsRead (spoilt z.expr z.is_constant ((breaks_if (is_none (n.meaning l x)) 305 x ++ t.broken) ++ z.broken)) q) (sym (same (n.meaning l x))) k.0, k.1, k.2, k.3)
    where
      same : (z : Option n.Meaning) → cond (is_sound t) (definition.meant_index l x t z) (spoilt t.expr (definition.is_param l z && t.is_constant) []) ≡ index_of l x t z
      same None = refl
      same (Some (n.a_param p)) = refl
      same (Some (n.a_signal s)) = refl
      same (Some (n.a_memory a)) = refl
      same (Some n.no_value) = refl

  pub index-all : {E : Type 0} (o : Option n.Meaning) (new : Noted) (q : Result Resolved E) → n.meaning l x ≡ o → IfOk q (λ z. IsSelected (breaks_if (is_none o) 305 x ++ t.broken) (index_of l x t o) old new z)
      → IfOk q (λ z. IsRead (index_term l x t) z × (z.count ≡ None) × (new ≡ all_noted old (index_of l x t (n.meaning l x)).broken) × (z.signs ≡ no_signs))
  index-all o new (Ok q) e s = index-done o new q e s
  index-all o new (Err q) e s = s

  -- ---- of a parameter

  module _ (p : n.Param) where
    pub param-variable : IsRead t r → r.is_sound ≡ true → r.is_constant ≡ false → IsSelected t.broken (index_of l x t (Some (n.a_param p))) old (missed old 315 x) (broken_as r.expr false)
    param-variable h s k = index-sound (Some (n.a_param p)) (missed old 315 x) (broken_as r.expr false) h s (λ d.
        subst (λ b. IsSelected t.broken (cond b (param_bits l x p (one_bit (offset_in p.range (own_value t.expr)))) (spoilt t.expr false (breaks 315 x))) old (missed old 315 x) (broken_as r.expr false)) (sym (sym h.constant ∙ k))
        (select-broken t.broken (spoilt t.expr false (breaks 315 x)) r.expr false old (missed old 315 x) (and-false (is_empty t.broken)) refl h.reads refl))

    param-bit : (o : Option ℕ) (new : Noted) (q : Resolved) → IsRead t r → r.is_sound ≡ true → r.is_constant ≡ true → o ≡ offset_in p.range (own_value t.expr)
        → (is_empty t.broken ≡ true → IsSelected t.broken (param_bits l x p (one_bit o)) old new q) → IsSelected t.broken (index_of l x t (Some (n.a_param p))) old new q
    param-bit o new q h s k e w = index-sound (Some (n.a_param p)) new q h s (λ d.
        subst (λ b. IsSelected t.broken (cond b (param_bits l x p (one_bit (offset_in p.range (own_value t.expr)))) (spoilt t.expr false (breaks 315 x))) old new q) (sym (sym h.constant ∙ k))
        (subst (λ z. IsSelected t.broken (param_bits l x p (one_bit z)) old new q) e (w d)))

    pub param-hit : (at : ℕ) → IsRead t r → r.is_sound ≡ true → r.is_constant ≡ true → Some at ≡ offset_in p.range (own_value t.expr)
        → IsSelected t.broken (index_of l x t (Some (n.a_param p))) old old (sound_as (f.Number (p.value / 2 ^ at % 2 ^ 1) 1) true)
    param-hit at h s k e = param-bit (Some at) old (sound_as (f.Number (p.value / 2 ^ at % 2 ^ 1) 1) true) h s k e (λ d. select-sound t.broken (f.Number (p.value / 2 ^ at % 2 ^ 1) 1) (Number 1 (p.value / 2 ^ at % 2 ^ 1)) true old d (number-stands (p.value / 2 ^ at) 1 refl))

    pub param-missed : (y : FExpr) → IsRead t r → r.is_sound ≡ true → r.is_constant ≡ true → None ≡ offset_in p.range (own_value t.expr) → y ≡ f.Number 0 1
        → IsSelected t.broken (index_of l x t (Some (n.a_param p))) old (missed old 314 x) (broken_as y true)
    param-missed y h s k e z = param-bit None (missed old 314 x) (broken_as y true) h s k e (λ d. select-missed t.broken y true x old z)

  -- ---- of a signal

  module _ (sig : ℕ) where
    pub signal-constant : (new : Noted) (q : Resolved) → IsRead t r → r.is_sound ≡ true → r.is_constant ≡ true
        → (is_empty t.broken ≡ true → IsSelected t.broken (signal_bits l x sig (bit_select (range_at l.entries sig) (own_value (expr_of r.expr)))) old new q) → IsSelected t.broken (index_of l x t (Some (n.a_signal sig))) old new q
    signal-constant new q h s k w = index-sound (Some (n.a_signal sig)) new q h s (λ d.
        subst (λ b. IsSelected t.broken (cond b (signal_bits l x sig (bit_select (range_at l.entries sig) (own_value t.expr))) (spoilt (At sig t.expr) false (breaks_if (not (definition.may_index (range_at l.entries sig) (size t.expr))) 315 x))) old new q) (sym (sym h.constant ∙ k))
        (subst (λ z. IsSelected t.broken (signal_bits l x sig (bit_select (range_at l.entries sig) (own_value z))) old new q) (h.expr s) (w d)))

    pub signal-all : {E : Type 0} (new : Noted) (q : Result Resolved E) → IsRead t r → r.is_sound ≡ true → r.is_constant ≡ true
        → (is_empty t.broken ≡ true → IfOk q (λ z. IsSelected t.broken (signal_bits l x sig (bit_select (range_at l.entries sig) (own_value (expr_of r.expr)))) old new z)) → IfOk q (λ z. IsSelected t.broken (index_of l x t (Some (n.a_signal sig))) old new z)
    signal-all new (Ok q) h s k w = signal-constant new q h s k w
    signal-all new (Err q) h s k w = w (sym h.sound ∙ s)

    pub signal-variable : (p : Box FExpr Global) (v : Bool) (g : Signs) (new : Noted) → IsRead t r → r.is_sound ≡ true → r.is_constant ≡ false → p.value ≡ r.expr
        → v ≡ definition.may_index (range_at l.entries sig) (kept_of r.expr).width → new ≡ all_noted old (breaks_if (not v) 315 x) → g ≡ no_signs
        → IsSelected t.broken (index_of l x t (Some (n.a_signal sig))) old new (record { expr = f.At sig p 1; is_sound = v; is_constant = false; count = None; signs = g })
    signal-variable p v g new h s k i e w y = index-sound (Some (n.a_signal sig)) new (record { expr = f.At sig p 1; is_sound = v; is_constant = false; count = None; signs = g }) h s (λ d.
        subst (λ b. IsSelected t.broken (cond b (signal_bits l x sig (bit_select (range_at l.entries sig) (own_value t.expr))) (spoilt (At sig t.expr) false (breaks_if (not may) 315 x))) old new (record { expr = f.At sig p 1; is_sound = v; is_constant = false; count = None; signs = g })) (sym (sym h.constant ∙ k)) (
          record {
            sound = meets ∙ sym (empty-both t.broken (breaks_if (not may) 315 x) ∙ ap₂ (λ a b. a && b) d (empty-if (not may) 315 x) ∙ not-not may);
            constant = refl;
            expr = λ o. whole;
            sized = λ o. ap (λ (z : Kept). z.right) (kept_of-At sig p 1) ∙ ap is_sized i ∙ h.sized s;
            reads = λ wid a b. ap (λ z. expr_reads wid z a b) whole;
          },
          refl,
          w ∙ ap (λ b. all_noted old (breaks_if (not b) 315 x)) meets,
          y,
        ))
      where
        may : Bool
        may = definition.may_index (range_at l.entries sig) (size t.expr)

        meets : v ≡ may
        meets = e ∙ ap (definition.may_index (range_at l.entries sig)) (sized_width r.expr (h.sized s) ∙ ap size (h.expr s))

        whole : expr_of (f.At sig p 1) ≡ At sig t.expr
        whole = expr_of-At sig p 1 ∙ ap (λ z. At sig (expr_of z)) i ∙ ap (At sig) (h.expr s)

        not-not : (b : Bool) → (true && not (not b)) ≡ b
        not-not true = refl
        not-not false = refl

  -- ---- of a memory

  module _ (a : n.Memory) where
    memory-by : (b c : Bool) (new : Noted) (q : Resolved) → IsRead t r → r.is_sound ≡ true → r.is_constant ≡ b → (nat_le (2 ^ size t.expr) a.words) ≡ c
        → (is_empty t.broken ≡ true → IsSelected t.broken (cond b (word_bits l x (word_of a (own_value t.expr))) (cond c (variable (words_from l a t.expr 0 (2 ^ size t.expr - 1))) (spoilt t.expr false (breaks 315 x)))) old new q)
        → IsSelected t.broken (index_of l x t (Some (n.a_memory a))) old new q
    memory-by b c new q h s k e w = index-sound (Some (n.a_memory a)) new q h s (λ d.
        subst (λ z. IsSelected t.broken (cond z (word_bits l x (word_of a (own_value t.expr))) (cond (nat_le (2 ^ size t.expr) a.words) (variable (words_from l a t.expr 0 (2 ^ size t.expr - 1))) (spoilt t.expr false (breaks 315 x)))) old new q) (sym (sym h.constant ∙ k))
        (subst (λ z. IsSelected t.broken (cond b (word_bits l x (word_of a (own_value t.expr))) (cond z (variable (words_from l a t.expr 0 (2 ^ size t.expr - 1))) (spoilt t.expr false (breaks 315 x)))) old new q) (sym e) (w d)))

    pub memory-constant : (new : Noted) (q : Resolved) → IsRead t r → r.is_sound ≡ true → r.is_constant ≡ true
        → (is_empty t.broken ≡ true → IsSelected t.broken (word_bits l x (word_of a (own_value (expr_of r.expr)))) old new q) → IsSelected t.broken (index_of l x t (Some (n.a_memory a))) old new q
    memory-constant new q h s k w = memory-by true (nat_le (2 ^ size t.expr) a.words) new q h s k refl (λ d. subst (λ z. IsSelected t.broken (word_bits l x (word_of a (own_value z))) old new q) (h.expr s) (w d))

    pub memory-all : {E : Type 0} (new : Noted) (q : Result Resolved E) → IsRead t r → r.is_sound ≡ true → r.is_constant ≡ true
        → (is_empty t.broken ≡ true → IfOk q (λ z. IsSelected t.broken (word_bits l x (word_of a (own_value (expr_of r.expr)))) old new z)) → IfOk q (λ z. IsSelected t.broken (index_of l x t (Some (n.a_memory a))) old new z)
    memory-all new (Ok q) h s k w = memory-constant new q h s k w
    memory-all new (Err q) h s k w = w (sym h.sound ∙ s)

    -- the size at which the index is kept
    width-size : IsRead t r → r.is_sound ≡ true → (kept_of r.expr).width ≡ size t.expr
    width-size h s = sized_width r.expr (h.sized s) ∙ ap size (h.expr s)

    -- the index may miss a word
    pub memory-wide : (b : Bool) → IsRead t r → r.is_sound ≡ true → r.is_constant ≡ false → b ≡ nat_le (2 ^ (kept_of r.expr).width) a.words → b ≡ false
        → IsSelected t.broken (index_of l x t (Some (n.a_memory a))) old (missed old 315 x) (broken_as r.expr false)
    memory-wide b h s k i e = memory-by false false (missed old 315 x) (broken_as r.expr false) h s k
        (ap (λ w. nat_le (2 ^ w) a.words) (sym (width-size h s)) ∙ sym i ∙ e)
        (λ d. select-broken t.broken (spoilt t.expr false (breaks 315 x)) r.expr false old (missed old 315 x) (and-false (is_empty t.broken)) refl h.reads refl)

    pub memory-chosen : (b : Bool) (y : FExpr) → IsRead t r → r.is_sound ≡ true → r.is_constant ≡ false → b ≡ nat_le (2 ^ (kept_of r.expr).width) a.words → b ≡ true
        → StandsFor y (words_from l a (expr_of r.expr) 0 (2 ^ (kept_of r.expr).width - 1)) → IsSelected t.broken (index_of l x t (Some (n.a_memory a))) old old (sound_as y false)
    memory-chosen b y h s k i e z = memory-by false true old (sound_as y false) h s k
        (ap (λ w. nat_le (2 ^ w) a.words) (sym (width-size h s)) ∙ sym i ∙ e)
        (λ d. select-sound t.broken y (words_from l a t.expr 0 (2 ^ size t.expr - 1)) false old d
        (subst (λ w. StandsFor y (words_from l a t.expr 0 (2 ^ w - 1))) (width-size h s) (subst (λ m. StandsFor y (words_from l a m 0 (2 ^ (kept_of r.expr).width - 1))) (h.expr s) z)))

-- ---- bits and words of constant indices

module _ (l : n.Look) (x : Text) (bs : List Broken) (old : Noted) where
  pub bit-hit : (sig i at : ℕ) (y : FExpr) → is_empty bs ≡ true → Some at ≡ offset_in (range_at l.entries sig) i → StandsFor y (n.bits_of l sig at 1)
      → IsSelected bs (signal_bits l x sig (bit_select (range_at l.entries sig) i)) old old (sound_as y false)
  bit-hit sig i at y b e z = subst (λ o. IsSelected bs (signal_bits l x sig (one_bit o)) old old (sound_as y false)) e (select-sound bs y (n.bits_of l sig at 1) false old b z)

  pub bit-missed : (sig i : ℕ) (y : FExpr) → None ≡ offset_in (range_at l.entries sig) i → y ≡ f.Number 0 1
      → IsSelected bs (signal_bits l x sig (bit_select (range_at l.entries sig) i)) old (missed old 314 x) (broken_as y false)
  bit-missed sig i y e z = subst (λ o. IsSelected bs (signal_bits l x sig (one_bit o)) old (missed old 314 x) (broken_as y false)) e (select-missed bs y false x old z)

  pub word-hit : (a : n.Memory) (i s : ℕ) (y : FExpr) → is_empty bs ≡ true → Some s ≡ word_of a i → StandsFor y (n.whole_of l s) → IsSelected bs (word_bits l x (word_of a i)) old old (sound_as y false)
  word-hit a i s y b e z = subst (λ o. IsSelected bs (word_bits l x o) old old (sound_as y false)) e (select-sound bs y (n.whole_of l s) false old b z)

  pub word-missed : (a : n.Memory) (i : ℕ) (y : FExpr) → None ≡ word_of a i → y ≡ f.Number 0 1 → IsSelected bs (word_bits l x (word_of a i)) old (missed old 314 x) (broken_as y false)
  word-missed a i y e z = subst (λ o. IsSelected bs (word_bits l x o) old (missed old 314 x) (broken_as y false)) e (select-missed bs y false x old z)

pub word-within : (a : n.Memory) (i s : ℕ) → Some s ≡ word_of a i → s < a.first + a.words
word-within a i s h = by_lt (λ b. Some s ≡ cond b (Some (a.first + i)) None → s < a.first + a.words) i a.words (λ l e. let d = some-same s (a.first + i) e in omega arith) (λ l e. none-some s (sym e)) h

-- the words that an index chooses among, one word more
pub words-step : (l : n.Look) (a : n.Memory) (i : Expr) (c w r y : FExpr) (n_ p more rest width : ℕ) → n_ ≡ suc p → rest ≡ suc more → expr_of c ≡ is_index i p → is_sized c ≡ true → StandsFor w (n.whole_of l (a.first + p)) → StandsFor r (words_from l a i n_ more)
    → Makes y (Choose (expr_of c) (expr_of w) (expr_of r)) (record { width = width; right = is_sized c && (is_sized w && is_sized r) }) → StandsFor y (words_from l a i p rest)
words-step l a i c w r y n_ p more rest width e d hc sc hw hr m = subst (λ z. StandsFor y (words_from l a i p z)) (sym d) (
  m.expr ∙ ap₂ (λ u v. Choose u v (expr_of r)) hc hw.0 ∙ ap (Choose (is_index i p) (n.whole_of l (a.first + p))) (hr.0 ∙ ap (λ z. words_from l a i z more) e),
  ap (λ (k : Kept). k.right) m.kept ∙ ap₂ (λ u v. u && v) sc (ap₂ (λ u v. u && v) hw.1 hr.1),
)

-- ---- a part

module _ (l : n.Look) (x : Text) (kind : PartKind) (bs : List Broken) (old : Noted) where
  pub part-param-hit : (p : n.Param) (o : Option Range) (s : Select) → IsFitParam p → is_empty bs ≡ is_some o → Some s ≡ part_in p.range kind o
      → IsSelected bs (part_at l x kind o (Some (n.a_param p))) old (all_noted old (part_notes x p.range kind o)) (sound_as (f.Number (p.value / 2 ^ s.at % 2 ^ s.bits) s.bits) true)
  part-param-hit p None s h b e = none-some s (sym e)
  part-param-hit p (Some q) s h b e = subst (λ z. IsSelected bs (param_bits l x p z) old (all_noted old (breaks_if (is_none z) 314 x)) (sound_as (f.Number (p.value / 2 ^ s.at % 2 ^ s.bits) s.bits) true)) e
      (select-sound bs (f.Number (p.value / 2 ^ s.at % 2 ^ s.bits) s.bits) (Number s.bits (p.value / 2 ^ s.at % 2 ^ s.bits)) true old b (number-stands (p.value / 2 ^ s.at) s.bits (kind-word p.range kind q s (param-range p h) (sym e))))

  pub part-param-missed : (p : n.Param) (o : Option Range) (y : FExpr) → is_empty bs ≡ is_some o → None ≡ part_in p.range kind o → y ≡ f.Number 0 1
      → IsSelected bs (part_at l x kind o (Some (n.a_param p))) old (all_noted old (part_notes x p.range kind o)) (broken_as y true)
  part-param-missed p None y b e z = select-broken bs (spoilt no_expr true []) y true old old (ap (λ v. v && true) b) refl (nothing-reads y z) refl
  part-param-missed p (Some q) y b e z = subst (λ w. IsSelected bs (param_bits l x p w) old (all_noted old (breaks_if (is_none w) 314 x)) (broken_as y true)) e (select-missed bs y true x old z)

  pub part-signal-hit : (sig : ℕ) (o : Option Range) (s : Select) (y : FExpr) → is_empty bs ≡ is_some o → Some s ≡ part_in (range_at l.entries sig) kind o → StandsFor y (n.bits_of l sig s.at s.bits)
      → IsSelected bs (part_at l x kind o (Some (n.a_signal sig))) old (all_noted old (part_notes x (range_at l.entries sig) kind o)) (sound_as y false)
  part-signal-hit sig None s y b e z = none-some s (sym e)
  part-signal-hit sig (Some q) s y b e z = subst (λ w. IsSelected bs (signal_bits l x sig w) old (all_noted old (breaks_if (is_none w) 314 x)) (sound_as y false)) e
      (select-sound bs y (n.bits_of l sig s.at s.bits) false old b z)

  pub part-signal-missed : (sig : ℕ) (o : Option Range) (y : FExpr) → is_empty bs ≡ is_some o → None ≡ part_in (range_at l.entries sig) kind o → y ≡ f.Number 0 1
      → IsSelected bs (part_at l x kind o (Some (n.a_signal sig))) old (all_noted old (part_notes x (range_at l.entries sig) kind o)) (broken_as y false)
  part-signal-missed sig None y b e z = select-broken bs (spoilt no_expr false []) y false old old (ap (λ v. v && true) b) refl (nothing-reads y z) refl
  part-signal-missed sig (Some q) y b e z = subst (λ w. IsSelected bs (signal_bits l x sig w) old (all_noted old (breaks_if (is_none w) 314 x)) (broken_as y false)) e (select-missed bs y false x old z)

  pub part-memory : (a : n.Memory) (o : Option Range) (y : FExpr) → y ≡ f.Number 0 1 → IsSelected bs (part_at l x kind o (Some (n.a_memory a))) old (missed old 319 x) (broken_as y false)
  part-memory a None y z = select-broken bs (spoilt no_expr false (breaks 319 x)) y false old (missed old 319 x) (and-false (is_empty bs)) refl (nothing-reads y z) refl
  part-memory a (Some q) y z = select-broken bs (spoilt no_expr false (breaks 319 x)) y false old (missed old 319 x) (and-false (is_empty bs)) refl (nothing-reads y z) refl

  pub part-word : (r : Option Range) (o : Option Range) (s : Select) → width_of r ≤ 64 → Some s ≡ part_in r kind o → is_word s.bits ≡ true
  part-word r None s h e = none-some s (sym e)
  part-word r (Some q) s h e = kind-word r kind q s h (sym e)

pub part-unknown : (l : n.Look) (x : Text) (kind : PartKind) (bs : List Broken) (o : Option Range) (y : FExpr) (old : Noted) → is_empty bs ≡ false → y ≡ f.Number 0 1 → IsSelected bs (part_at l x kind o None) old old (broken_as y false)
part-unknown l x kind bs None y old b z = select-broken bs (spoilt no_expr false []) y false old old (ap (λ v. v && true) b) refl (nothing-reads y z) refl
part-unknown l x kind bs (Some q) y old b z = select-broken bs (spoilt no_expr false []) y false old old (ap (λ v. v && true) b) refl (nothing-reads y z) refl

-- what the bounds break
abbrev pub part_broken : Text → PartKind → Option n.Meaning → Term → Term → List Broken
part_broken x kind o t u = breaks_if (is_none o) 305 x ++ (as_bound t).broken ++ (as_second kind u).broken

pub part-bounds : (x : Text) (kind : PartKind) (v : n.Meaning) (t u : Term) → is_empty (part_broken x kind (Some v) t u) ≡ is_some (range_of (as_bound t) (as_second kind u))
part-bounds x kind v t u = empty-both (as_bound t).broken (as_second kind u).broken ∙ go (is_sound (as_bound t) && is_sound (as_second kind u))
  where
    go : (b : Bool) → b ≡ is_some (cond b (Some (as_range (own_value t.expr) (own_value (as_second kind u).expr))) None)
    go true = refl
    go false = refl

pub part-done : (l : n.Look) (x : Text) (kind : PartKind) (t u : Term) (o : Option n.Meaning) (p : Option Range) (old mid new : Noted) (q : Resolved) → n.meaning l x ≡ o → p ≡ range_of (as_bound t) (as_second kind u) → mid ≡ all_noted old (bound_notes t ++ second_notes kind u)
    → IsSelected (part_broken x kind o t u) (part_at l x kind p o) mid new q
    → IsRead (part_term l x kind t u) q × (q.count ≡ None) × (new ≡ all_noted old (bound_notes t ++ second_notes kind u ++ (part_at l x kind (range_of (as_bound t) (as_second kind u)) (n.meaning l x)).broken)) × (q.signs ≡ no_signs)
part-done l x kind t u o p old mid new q e d i s =
    let g = range_of (as_bound t) (as_second kind u) in
    let k = subst (λ z. IsSelected (part_broken x kind z t u) (part_at l x kind p z) mid new q) (sym e) s in
    let j = subst (λ z. IsSelected (part_broken x kind (n.meaning l x) t u) (part_at l x kind z (n.meaning l x)) mid new q) d k in (
      subst (λ z. IsRead (spoilt z.expr z.is_constant (part_broken x kind (n.meaning l x) t u ++ z.broken)) q) (sym (same g (n.meaning l x))) j.0,
      j.1,
      j.2 ∙ ap (λ z. all_noted z (part_at l x kind g (n.meaning l x)).broken) i ∙ sym (noted-both old (bound_notes t ++ second_notes kind u) (part_at l x kind g (n.meaning l x)).broken),
      j.3,
    )
  where
    same : (g : Option Range) (z : Option n.Meaning) → definition.meant_part l x kind g z ≡ part_at l x kind g z
    same None None = refl
    same None (Some (n.a_param p)) = refl
    same None (Some (n.a_signal s)) = refl
    same None (Some (n.a_memory a)) = refl
    same None (Some n.no_value) = refl
    same (Some r) None = refl
    same (Some r) (Some (n.a_param p)) = refl
    same (Some r) (Some (n.a_signal s)) = refl
    same (Some r) (Some (n.a_memory a)) = refl
    same (Some r) (Some n.no_value) = refl

pub part-all : {E : Type 0} (l : n.Look) (x : Text) (kind : PartKind) (t u : Term) (o : Option n.Meaning) (p : Option Range) (old mid new : Noted) (q : Result Resolved E) → n.meaning l x ≡ o → p ≡ range_of (as_bound t) (as_second kind u) → mid ≡ all_noted old (bound_notes t ++ second_notes kind u)
    → IfOk q (λ z. IsSelected (part_broken x kind o t u) (part_at l x kind p o) mid new z)
    → IfOk q (λ z. IsRead (part_term l x kind t u) z × (z.count ≡ None) × (new ≡ all_noted old (bound_notes t ++ second_notes kind u ++ (part_at l x kind (range_of (as_bound t) (as_second kind u)) (n.meaning l x)).broken)) × (z.signs ≡ no_signs))
part-all l x kind t u o p old mid new (Ok q) e d i s = part-done l x kind t u o p old mid new q e d i s
part-all l x kind t u o p old mid new (Err q) e d i s = s

pub some-map : {A B : Type 0} (g : A → B) (o : Option A) → is_some o ≡ is_some (option_map g o)
some-map g None = refl
some-map g (Some a) = refl

-- an index beside a number
pub equals-number : (c i y : FExpr) (v k w : ℕ) → Makes c (expr_of i) (kept_of i) → v ≡ k → w ≡ (kept_of i).width → is_sized i ≡ true → k < 2 ^ (kept_of i).width
    → Makes y (Binary is_equal (expr_of c) (expr_of (f.Number v w))) (record { width = 1; right = is_sized c && is_sized (f.Number v w) }) → Makes y (is_index (expr_of i) k) (record { width = 1; right = is_sized i })
equals-number c i y v k w h ev ew s b m = record {
  expr = m.expr ∙ ap₂ (Binary is_equal) h.expr (expr_of-Number v w ∙ ap₂ Number (ew ∙ sized_width i s) ev);
  kept = m.kept ∙ ap (λ z. one z) (ap₂ (λ a z. a && z) (ap (λ (z : Kept). z.right) h.kept ∙ s) (ap (λ (z : Kept). z.right) (kept_of-Number v w) ∙ ap₂ (λ a z. a && z) (ap is_word ew ∙ sized_word i s) (ap₂ (λ a z. nat_lt a (2 ^ z)) ev ew ∙ lt-ltb k (2 ^ (kept_of i).width) b)) ∙ sym s);
}
  where
    one : Bool → Kept
    one z = record { width = 1; right = z }
