-- What the operators make of what was read.
use Rattle.std.proofs.Common.{◌≡◌, ◌≢◌, ℕ, ◌^◌, ◌<◌, max, Bool, true, false, not, ◌&&◌, ◌||◌, ◌==◌, List, [], ◌∷◌, ◌++◌, Option, Some, None, refl, sym, ap, ap₂, subst, ◌∙◌, eqb-true, lt-ltb}
use Rattle.std.specs.Prelude.{option_map, unwrap_or}
use Rattle.std.specs.Option.{option_map_or}
use Rattle.std.proofs.lemmas.Bool.{and_parts, false≢true}
use Rattle.verilog_ast.specs.declared.UnaryOp.{UnaryOp}
use Rattle.verilog_ast.specs.declared.BinaryOp.{BinaryOp}
use Rattle.flat_form.specs.declared.flat.FUnaryOp.{FUnaryOp}
use Rattle.flat_meaning.specs.Flat.{Expr, Number, Binary, Choose, unary_size, binary_size}
use Rattle.flat_meaning.specs.Flat as flat
use Rattle.flat_form.specs.declared.flat.FExpr.{FExpr}
use Rattle.flat_form.specs.declared.flat.FExpr.TheVariants as f
use Rattle.flat_form.specs.View.{expr_of, unary_of, binary_of}
use Rattle.flat_unfolding.specs.Constants.{plain_unary, own_unary}
use Rattle.flat_form.specs.Sizes.{Kept, kept_of, is_sized}
use Rattle.flat_form.proofs.Folds.{expr_of-Number, kept_of-Number}
use Rattle.flat_unfolding.specs.Outcome.{Text, Broken, breaks_if}
use Rattle.flat_unfolding.specs.Names.{Look}
use Rattle.flat_unfolding.specs.Expressions.{Term, also, is_empty, is_sound, unary_expr, unary_term, binary_term, choice_term, is_whole_only}
use Rattle.flat_meaning.specs.Law.{expr_reads}
use Rattle.flat_names.specs.declared.resolved.Count.{Count}
use Rattle.flat_names.specs.declared.resolved.Resolved.{Resolved}
use Rattle.flat_names.specs.declared.signs.Signs.{Signs}
use Rattle.flat_names.specs.Signs.{number_signs, judged_signs}
use Rattle.flat_names.specs.Pieces.{IsRead, Makes, IsOver, Piece, IsPiece, is_counted_size, numbered, flagged, judged_piece}
use Rattle.flat_names.proofs.Options.{none-some, some-same}

pub empty-both : (bs cs : List Broken) → is_empty (bs ++ cs) ≡ (is_empty bs && is_empty cs)
empty-both [] cs = refl
empty-both (b ∷ bs) cs = refl

pub empty-if : (t : Bool) (n : ℕ) (x : Text) → is_empty (breaks_if t n x) ≡ not t
empty-if true n x = refl
empty-if false n x = refl

-- ---- forms

-- a unary expression reads what its operand reads
over-reads : (o : Option FUnaryOp) (x : Expr) (wid : ℕ → ℕ) (s i : ℕ) → expr_reads wid (unary_expr o x) s i ≡ expr_reads wid x s i
over-reads None x wid s i = refl
over-reads (Some op) x wid s i = refl

pub is-unary : (op : UnaryOp) (t : Term) (r : Resolved) (e : FExpr) (c : Option Count) (g : Signs) → IsRead t r → IsOver op r.expr e
    → IsRead (unary_term op t) (record { expr = e; is_sound = r.is_sound; is_constant = r.is_constant; count = c; signs = g })
is-unary op t r e c g h m = record {
  sound = h.sound;
  constant = h.constant;
  expr = λ s. m.expr (h.sized s) ∙ ap (unary_expr (plain_unary op)) (h.expr s);
  sized = λ s. ap (λ (k : Kept). k.right) m.kept ∙ h.sized s;
  reads = λ wid s i. m.reads wid s i ∙ h.reads wid s i ∙ sym (over-reads (plain_unary op) t.expr wid s i);
}

and-nor : (a x w : Bool) → (a && not (x || w)) ≡ ((a && not x) && not w)
and-nor true true w = refl
and-nor true false w = refl
and-nor false x w = refl

-- with a break of E307 of its own
pub is-binary : (op : BinaryOp) (t u : Term) (r q : Resolved) (e : FExpr) (n : ℕ) (s k w : Bool) (c : Option Count) (g : Signs) → IsRead t r → IsRead u q
    → Makes e (Binary (binary_of op) (expr_of r.expr) (expr_of q.expr)) (record { width = n; right = is_sized r.expr && is_sized q.expr })
    → s ≡ ((r.is_sound && q.is_sound) && not (is_whole_only op || w)) → k ≡ (r.is_constant && q.is_constant)
    → IsRead (also (binary_term op t u) (breaks_if w 307 [])) (record { expr = e; is_sound = s; is_constant = k; count = c; signs = g })
is-binary op t u r q e n s k w c g h i m es ek = record {
  sound = es ∙ ap₂ (λ x y. (x && y) && not (is_whole_only op || w)) h.sound i.sound ∙ and-nor (is_sound t && is_sound u) (is_whole_only op) w
      ∙ sym (empty-both (t.broken ++ u.broken ++ breaks_if (is_whole_only op) 307 []) (breaks_if w 307 [])
      ∙ ap₂ (λ x y. x && y) (empty-both (t.broken ++ u.broken) (breaks_if (is_whole_only op) 307 []) ∙ ap₂ (λ x y. x && y) (empty-both t.broken u.broken) (empty-if (is_whole_only op) 307 [])) (empty-if w 307 []));
  constant = ek ∙ ap₂ (λ x y. x && y) h.constant i.constant;
  expr = λ o. let p = parts o in m.expr ∙ ap₂ (Binary (binary_of op)) (h.expr p.0) (i.expr p.1);
  sized = λ o. let p = parts o in ap (λ (x : Kept). x.right) m.kept ∙ ap₂ (λ x y. x && y) (h.sized p.0) (i.sized p.1);
  reads = λ wid a j. ap (λ x. expr_reads wid x a j) m.expr ∙ ap₂ (λ x y. x || y) (h.reads wid a j) (i.reads wid a j);
}
  where
    parts : s ≡ true → (r.is_sound ≡ true) × (q.is_sound ≡ true)
    parts o = let p = and_parts (r.is_sound && q.is_sound) (not (is_whole_only op || w)) (sym es ∙ o) in and_parts r.is_sound q.is_sound p.0

pub is-choice : (t u v : Term) (r q o : Resolved) (e : FExpr) (n : ℕ) (s k : Bool) (c : Option Count) (g : Signs) → IsRead t r → IsRead u q → IsRead v o
    → Makes e (Choose (expr_of r.expr) (expr_of q.expr) (expr_of o.expr)) (record { width = n; right = is_sized r.expr && (is_sized q.expr && is_sized o.expr) })
    → s ≡ ((r.is_sound && q.is_sound) && o.is_sound) → k ≡ ((r.is_constant && q.is_constant) && o.is_constant)
    → IsRead (choice_term t u v) (record { expr = e; is_sound = s; is_constant = k; count = c; signs = g })
is-choice t u v r q o e n s k c g h i j m es ek = record {
  sound = es ∙ ap₂ (λ x y. (x && y) && o.is_sound) h.sound i.sound ∙ ap (λ z. (is_sound t && is_sound u) && z) j.sound
      ∙ sym (empty-both (t.broken ++ u.broken) v.broken ∙ ap (λ x. x && is_empty v.broken) (empty-both t.broken u.broken));
  constant = ek ∙ ap₂ (λ x y. (x && y) && o.is_constant) h.constant i.constant ∙ ap (λ z. (t.is_constant && u.is_constant) && z) j.constant ∙ and-right t.is_constant u.is_constant v.is_constant;
  expr = λ x. let p = parts x in m.expr ∙ ap₂ (λ a b. Choose a b (expr_of o.expr)) (h.expr p.0) (i.expr p.1) ∙ ap (Choose t.expr u.expr) (j.expr p.2);
  sized = λ x. let p = parts x in ap (λ (z : Kept). z.right) m.kept ∙ ap₂ (λ a b. a && (b && is_sized o.expr)) (h.sized p.0) (i.sized p.1) ∙ j.sized p.2;
  reads = λ wid a z. ap (λ x. expr_reads wid x a z) m.expr ∙ ap₂ (λ x y. x || y) (h.reads wid a z) (ap₂ (λ x y. x || y) (i.reads wid a z) (j.reads wid a z));
}
  where
    and-right : (x y z : Bool) → ((x && y) && z) ≡ (x && (y && z))
    and-right true y z = refl
    and-right false y z = refl

    parts : s ≡ true → (r.is_sound ≡ true) × (q.is_sound ≡ true) × (o.is_sound ≡ true)
    parts x = let p = and_parts (r.is_sound && q.is_sound) o.is_sound (sym es ∙ x) in let q_ = and_parts r.is_sound q.is_sound p.0 in (q_.0, q_.1, p.1)

-- ---- sizes of counted expressions

is-one : is_counted_size 1 ≡ true
is-one = refl

pub counted-unary : (op : flat.UnaryOp) (k : ℕ) → is_counted_size k ≡ true → is_counted_size (unary_size op k) ≡ true
counted-unary flat.complement k h = h
counted-unary flat.logical_not k h = refl
counted-unary flat.reduce_and k h = refl
counted-unary flat.reduce_or k h = refl
counted-unary flat.reduce_xor k h = refl
counted-unary flat.reduce_nand k h = refl
counted-unary flat.reduce_nor k h = refl
counted-unary flat.reduce_xnor k h = refl

pub counted-own : (op : UnaryOp) (k : ℕ) → is_counted_size k ≡ true → is_counted_size (own_unary op k) ≡ true
counted-own op k h = go (plain_unary op)
  where
    go : (o : Option FUnaryOp) → is_counted_size (option_map_or (λ f. unary_size (unary_of f) k) o k) ≡ true
    go None = h
    go (Some f) = counted-unary (unary_of f) k h

-- it is 1 or 32
pub counted-is : (k : ℕ) (P : ℕ → Type 0) → is_counted_size k ≡ true → P 1 → P 32 → P k
counted-is k P h one whole = go (k == 1) refl
  where
    last : (v : Bool) → (k == 1) ≡ false → (k == 32) ≡ v → P k
    last true e d = subst P (sym (eqb-true k 32 d)) whole
    last false e d = absurd (false≢true (sym (ap₂ (λ x y. x || y) e d) ∙ h))

    go : (v : Bool) → (k == 1) ≡ v → P k
    go true e = subst P (sym (eqb-true k 1 e)) one
    go false e = last (k == 32) e refl

pub counted-max : (j k : ℕ) → is_counted_size j ≡ true → is_counted_size k ≡ true → is_counted_size (max j k) ≡ true
counted-max j k h i = counted-is j (λ a. is_counted_size (max a k) ≡ true) h (counted-is k (λ b. is_counted_size (max 1 b) ≡ true) i refl refl) (counted-is k (λ b. is_counted_size (max 32 b) ≡ true) i refl refl)

pub counted-binary : (op : flat.BinaryOp) (j k : ℕ) → is_counted_size j ≡ true → is_counted_size k ≡ true → is_counted_size (binary_size op j k) ≡ true
counted-binary flat.times j k h i = counted-max j k h i
counted-binary flat.divided j k h i = counted-max j k h i
counted-binary flat.remainder j k h i = counted-max j k h i
counted-binary flat.plus j k h i = counted-max j k h i
counted-binary flat.minus j k h i = counted-max j k h i
counted-binary flat.shift_left j k h i = h
counted-binary flat.shift_right j k h i = h
counted-binary flat.is_less j k h i = refl
counted-binary flat.is_at_most j k h i = refl
counted-binary flat.is_greater j k h i = refl
counted-binary flat.is_at_least j k h i = refl
counted-binary flat.is_equal j k h i = refl
counted-binary flat.is_unequal j k h i = refl
counted-binary flat.bitwise_and j k h i = counted-max j k h i
counted-binary flat.bitwise_or j k h i = counted-max j k h i
counted-binary flat.bitwise_xor j k h i = counted-max j k h i
counted-binary flat.bitwise_xnor j k h i = counted-max j k h i
counted-binary flat.logical_and j k h i = refl
counted-binary flat.logical_or j k h i = refl

pub counted-whole : (k : ℕ) → is_counted_size k ≡ true → k ≢ 1 → k ≡ 32
counted-whole k h d = counted-is k (λ x. x ≢ 1 → x ≡ 32) h (λ e. absurd (e refl)) (λ e. refl) d

-- ---- pieces

abbrev pub with_size : Piece → Option ℕ → Piece
with_size p s = record { term = p.term; size = s; whole = p.whole; signs = p.signs }

pub counted-of : (p : Piece) (r : Resolved) (c : Count) → IsPiece p r → r.count ≡ Some c → (k : ℕ) × (p.size ≡ Some k) × (p.whole ≡ c.whole)
counted-of p r c h e = go p.size refl (sym h.count ∙ ap (option_map (λ (x : Count). x.whole)) e)
  where
    go : (s : Option ℕ) → p.size ≡ s → option_map (λ k. p.whole) s ≡ Some c.whole → (k : ℕ) × (p.size ≡ Some k) × (p.whole ≡ c.whole)
    go None i j = none-some c.whole j
    go (Some k) i j = (k, i, some-same p.whole c.whole j)

pub open-of : (p : Piece) (r : Resolved) → IsPiece p r → r.count ≡ None → p.size ≡ None
open-of p r h e = go p.size refl (sym h.count ∙ ap (option_map (λ (x : Count). x.whole)) e)
  where
    go : (s : Option ℕ) → p.size ≡ s → option_map (λ k. p.whole) s ≡ None → p.size ≡ None
    go None i j = i
    go (Some k) i j = none-some p.whole (sym j)

number-sized : (n : ℕ) → n < 2 ^ 32 → is_sized (f.Number n 32) ≡ true
number-sized n h = ap (λ (k : Kept). k.right) (kept_of-Number n 32) ∙ lt-ltb n (2 ^ 32) h

pub number-piece : (l : Look) (v : Option ℕ) (t : Term) (g : Signs) → ((n : ℕ) → v ≡ Some n → n < 2 ^ 32) → IsPiece (judged_piece l (Some 32) v t g) (numbered v (unwrap_or v 0) 32 number_signs)
number-piece l None t g h = record {
  is = record {
    sound = refl;
    constant = refl;
    expr = λ s. absurd (false≢true s);
    sized = λ s. absurd (false≢true s);
    reads = λ wid s i. ap (λ x. expr_reads wid x s i) (expr_of-Number 0 32);
  };
  count = refl;
  width = λ k e. ap (λ (x : Kept). x.width) (kept_of-Number 0 32) ∙ some-same 32 k e;
  signs = refl;
}
number-piece l (Some n) t g h = record {
  is = record {
    sound = refl;
    constant = refl;
    expr = λ s. expr_of-Number n 32;
    sized = λ s. number-sized n (h n refl);
    reads = λ wid s i. ap (λ x. expr_reads wid x s i) (expr_of-Number n 32);
  };
  count = refl;
  width = λ k e. ap (λ (x : Kept). x.width) (kept_of-Number n 32) ∙ some-same 32 k e;
  signs = refl;
}

pub flag-piece : (l : Look) (v : Option ℕ) (t : Term) (e : FExpr) (s : Bool) (g f : Signs) → IsRead t (flagged e s v f) → (kept_of e).width ≡ 1 → f ≡ judged_signs (Some 1) g
    → IsPiece (judged_piece l (Some 1) v t g) (flagged e s v f)
flag-piece l v t e s g f h i d = record { is = h; count = refl; width = λ k q. i ∙ some-same 1 k q; signs = d }

pub open-piece : (l : Look) (v : Option ℕ) (t : Term) (g : Signs) (r : Resolved) → IsRead t r → r.count ≡ None → r.signs ≡ judged_signs None g → IsPiece (judged_piece l None v t g) r
open-piece l v t g r h e d = record { is = h; count = ap (option_map (λ (c : Count). c.whole)) e; width = λ k q. none-some k q; signs = d }
