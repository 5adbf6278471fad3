-- What holds of the pieces of written expressions.
use Rattle.std.proofs.Common.{◌≡◌, ◌≢◌, ℕ, ◌^◌, ◌<◌, max, Bool, true, false, cond, not, ◌&&◌, ◌==◌, nat_le, List, [], ◌∷◌, ◌++◌, Option, Some, None, is_some, is_none, refl, sym, ap, ap₂, subst, ◌∙◌, arith, lt-ltb}
use Rattle.std.specs.Prelude.{option_map, option_and_then}
use Rattle.cdc_base.specs.declared.size.NumberSize.TheVariants as z
use Rattle.verilog_ast.specs.declared.UnaryOp.{UnaryOp}
use Rattle.verilog_ast.specs.declared.PartKind.{PartKind}
use Rattle.verilog_ast.specs.declared.PartKind.TheVariants as k
use Rattle.verilog_ast.specs.declared.BinaryOp.{BinaryOp}
use Rattle.verilog_reading.specs.ExprTree.{ExprTree, number, name, index, part, unary, binary, choice, join, repeat, paren, ExprTrees, no_trees, and_trees}
use Rattle.flat_meaning.specs.Flat.{size, binary_size}
use Rattle.flat_form.specs.View.{binary_of}
use Rattle.flat_unfolding.specs.Outcome.{Text, Broken, breaks, breaks_if}
use Rattle.flat_unfolding.specs.Names.{Range, Param, Meaning, a_param, a_signal, a_memory, no_value, Look, meaning, unknown}
use Rattle.flat_unfolding.specs.Constants.{own_unary, within, whole_unary, whole_binary}
use Rattle.flat_unfolding.specs.Expressions.{Term, also, is_empty, is_sound, all_broken, spoilt, as_constant, as_bound, as_count, as_second, range_of, Select, param_bits, signal_bits, word_bits, index_term, part_term, unary_term, binary_term, choice_term, join_term, repeat_term, is_whole_only, whole_number, read, read_parts}
use Rattle.flat_names.specs.declared.signs.Signs.{Signs}
use Rattle.flat_names.specs.Signs.{unary_signs, binary_signs, choice_signs, orders_signed}
use Rattle.flat_names.specs.Pieces.{EachIs, Piece, piece, IsFitPiece, out_of_range, is_counted_size, judged_piece, unary_piece, binary_piece, choice_piece}
use Rattle.flat_unfolding.specs.Formed.{IsFormed, AreFormed}
use Rattle.flat_names.specs.Selects.{name_at, name_piece, index_at, index_of, part_at, behind, is_param}
use Rattle.flat_names.specs.Looks.{IsFitParam, IsFit}
use Rattle.flat_names.proofs.Notes.{IsOne}
use Rattle.flat_names.proofs.Options.{none-some, some-same}
use Rattle.flat_names.proofs.Wholes.{within-same}
use Rattle.flat_names.proofs.Terms.{with_size, counted-is, counted-own, counted-binary, counted-max}

-- ---- E307 is told in one way

pub ones-both : (bs cs : List Broken) → EachIs IsOne bs → EachIs IsOne cs → EachIs IsOne (bs ++ cs)
ones-both [] cs h i = i
ones-both (b ∷ bs) cs h i = (h.0, ones-both bs cs h.1 i)

pub one-range : (t : Bool) → EachIs IsOne (breaks_if t 307 [])
one-range true = (λ e. refl, tt)
one-range false = tt

pub one-other : (t : Bool) (k : ℕ) (x : Text) → k ≢ 307 → EachIs IsOne (breaks_if t k x)
one-other true k x h = (λ e. absurd (h e), tt)
one-other false k x h = tt

one-break : (k : ℕ) (x : Text) → k ≢ 307 → EachIs IsOne (breaks k x)
one-break k x h = (λ e. absurd (h e), tt)

pub one-unknown : (l : Look) (x : Text) → EachIs IsOne (unknown l x)
one-unknown l x = one-other (is_none (meaning l x)) 305 x (λ e. omega arith)

pub one-constant : (t : Term) → EachIs IsOne t.broken → EachIs IsOne (as_constant t).broken
one-constant t h = ones-both t.broken _ h (one-range (not t.is_constant))

one-bound : (t : Term) → EachIs IsOne t.broken → EachIs IsOne (as_bound t).broken
one-bound t h = ones-both (as_constant t).broken _ (one-constant t h) (one-range _)

one-count : (t : Term) → EachIs IsOne t.broken → EachIs IsOne (as_count t).broken
one-count t h = ones-both (as_bound t).broken _ (one-bound t h) (one-range _)

one-second : (kind : PartKind) (t : Term) → EachIs IsOne t.broken → EachIs IsOne (as_second kind t).broken
one-second k.Range t h = one-bound t h
one-second k.Up t h = one-count t h
one-second k.Down t h = one-count t h

-- ---- all breaks of some terms

abbrev pub AllOne : List Term → Type 0
AllOne [] = Unit {0}
AllOne (t ∷ ts) = EachIs IsOne t.broken × AllOne ts

pub one-all : (ts : List Term) → AllOne ts → EachIs IsOne (all_broken ts)
one-all [] h = tt
one-all (t ∷ ts) h = ones-both t.broken (all_broken ts) h.0 (one-all ts h.1)

one-join : (ts : List Term) → AllOne ts → EachIs IsOne (join_term ts).broken
one-join ts h = ones-both (all_broken ts) _ (one-all ts h) (one-other _ 308 [] (λ e. omega arith))

one-repeat : (t : Term) (ts : List Term) → EachIs IsOne t.broken → AllOne ts → EachIs IsOne (repeat_term t ts).broken
one-repeat t ts h i = ones-both ((as_count t).broken ++ all_broken ts) _ (ones-both (as_count t).broken (all_broken ts) (one-count t h) (one-all ts i)) (one-other _ 308 [] (λ e. omega arith))

one-param_bits : (l : Look) (x : Text) (p : Param) (s : Option Select) → EachIs IsOne (param_bits l x p s).broken
one-param_bits l x p None = one-break 314 x (λ e. omega arith)
one-param_bits l x p (Some s) = tt

one-signal_bits : (l : Look) (x : Text) (s : ℕ) (o : Option Select) → EachIs IsOne (signal_bits l x s o).broken
one-signal_bits l x s None = one-break 314 x (λ e. omega arith)
one-signal_bits l x s (Some o) = tt

one-word_bits : (l : Look) (x : Text) (o : Option ℕ) → EachIs IsOne (word_bits l x o).broken
one-word_bits l x None = one-break 314 x (λ e. omega arith)
one-word_bits l x (Some s) = tt

one-cond : (c : Bool) (t u : Term) → EachIs IsOne t.broken → EachIs IsOne u.broken → EachIs IsOne (cond c t u).broken
one-cond true t u h i = h
one-cond false t u h i = i

one-index_at : (l : Look) (x : Text) (t : Term) (m : Option Meaning) → EachIs IsOne (index_at l x t m).broken
one-index_at l x t (Some (a_param p)) = one-cond t.is_constant _ _ (one-param_bits l x p _) (one-break 315 x (λ e. omega arith))
one-index_at l x t (Some (a_signal s)) = one-cond t.is_constant _ _ (one-signal_bits l x s _) (one-other _ 315 x (λ e. omega arith))
one-index_at l x t (Some (a_memory a)) = one-cond t.is_constant _ _ (one-word_bits l x _) (one-cond (nat_le (2 ^ size t.expr) a.words) _ _ tt (one-break 315 x (λ e. omega arith)))
one-index_at l x t (Some no_value) = tt
one-index_at l x t None = tt

pub index-is : (l : Look) (x : Text) (t : Term) → index_term l x t ≡ behind (unknown l x ++ t.broken) (index_of l x t (meaning l x))
index-is l x t = refl

one-index : (l : Look) (x : Text) (t : Term) → EachIs IsOne t.broken → EachIs IsOne (index_term l x t).broken
one-index l x t h = subst (λ u. EachIs IsOne u.broken) (sym (index-is l x t))
    (ones-both (unknown l x ++ t.broken) (index_of l x t (meaning l x)).broken (ones-both (unknown l x) t.broken (one-unknown l x) h)
    (one-cond (is_sound t) (index_at l x t (meaning l x)) (spoilt t.expr (is_param (meaning l x) && t.is_constant) []) (one-index_at l x t (meaning l x)) tt))

-- ---- names

pub name-is : (l : Look) (x : Text) → piece l (name x) ≡ name_piece l x (meaning l x)
name-is l x = refl

-- a piece that isn't counted
pub open-fit : (p : Piece) → p.size ≡ None → EachIs IsOne p.term.broken → IsFitPiece p
open-fit p e h = record {
  sizes = λ k d. none-some k (sym e ∙ d);
  wholes = λ k n d. none-some k (sym e ∙ d);
  bounds = λ k d. none-some k (sym e ∙ d);
  constant = λ k d. none-some k (sym e ∙ d);
  judged = λ d. none-some 32 (sym e ∙ d);
  one = h;
}

-- a piece that stands as a number, and breaks no rule
number-fit : (t : Term) (k : ℕ) (v : Option ℕ) (g : Signs) → t.broken ≡ [] → t.is_constant ≡ true → is_counted_size k ≡ true → is_some v ≡ true → ((n : ℕ) → v ≡ Some n → within k n ≡ Some n)
    → IsFitPiece (record { term = t; size = Some k; whole = v; signs = g })
number-fit t k v g b c h s w = record {
  sizes = λ j d. subst (λ i. is_counted_size i ≡ true) (some-same k j d) h;
  wholes = λ j n d e. subst (λ i. within i n ≡ Some n) (some-same k j d) (w n e);
  bounds = λ j d. subst (λ bs. EachIs (λ a. a ≡ out_of_range) bs) (sym b) tt;
  constant = λ j d. c;
  judged = λ d. ap is_empty b ∙ sym s;
  one = subst (λ bs. EachIs IsOne bs) (sym b) tt;
}

fit-param : (l : Look) (x : Text) (p : Param) (g : Signs) → IsFitParam p → (t : Bool) → p.is_counted ≡ t
    → IsFitPiece (record { term = name_at l x (Some (a_param p)); size = option_map (λ (q : Param). q.width) (cond t (Some p) None); whole = option_and_then (λ (q : Param). within q.width q.value) (cond t (Some p) None); signs = g })
fit-param l x p g h true e = number-fit (name_at l x (Some (a_param p))) p.width (within p.width p.value) g refl refl (h.counted e) (ap is_some (h.whole e))
    (λ n d. let s = some-same p.value n (sym (h.whole e) ∙ d) in ap (λ v. within p.width v) (sym s) ∙ h.whole e ∙ ap Some s)
fit-param l x p g h false e = open-fit _ refl tt

fit-name : (l : Look) (x : Text) → IsFit l → (m : Option Meaning) → meaning l x ≡ m → IsFitPiece (name_piece l x m)
fit-name l x h (Some (a_param p)) e = fit-param l x p _ (h.params x p e) p.is_counted refl
fit-name l x h (Some (a_signal s)) e = open-fit _ refl tt
fit-name l x h (Some (a_memory a)) e = open-fit _ refl (one-break 319 x (λ e. omega arith))
fit-name l x h (Some no_value) e = open-fit _ refl (one-unknown l x)
fit-name l x h None e = open-fit _ refl (one-unknown l x)

-- ---- parts

pub part-is : (l : Look) (x : Text) (kind : PartKind) (t u : Term) → part_term l x kind t u
    ≡ behind (unknown l x ++ (as_bound t).broken ++ (as_second kind u).broken) (part_at l x kind (range_of (as_bound t) (as_second kind u)) (meaning l x))
part-is l x kind t u = refl

one-part_at : (l : Look) (x : Text) (kind : PartKind) (r : Option Range) (m : Option Meaning) → EachIs IsOne (part_at l x kind r m).broken
one-part_at l x kind (Some p) (Some (a_param a)) = one-param_bits l x a _
one-part_at l x kind (Some p) (Some (a_signal s)) = one-signal_bits l x s _
one-part_at l x kind (Some p) (Some (a_memory a)) = one-break 319 x (λ e. omega arith)
one-part_at l x kind (Some p) (Some no_value) = tt
one-part_at l x kind (Some p) None = tt
one-part_at l x kind None (Some (a_param a)) = tt
one-part_at l x kind None (Some (a_signal s)) = tt
one-part_at l x kind None (Some (a_memory a)) = one-break 319 x (λ e. omega arith)
one-part_at l x kind None (Some no_value) = tt
one-part_at l x kind None None = tt

one-part : (l : Look) (x : Text) (kind : PartKind) (t u : Term) → EachIs IsOne t.broken → EachIs IsOne u.broken → EachIs IsOne (part_term l x kind t u).broken
one-part l x kind t u h i = subst (λ v. EachIs IsOne v.broken) (sym (part-is l x kind t u))
    (ones-both (unknown l x ++ (as_bound t).broken ++ (as_second kind u).broken) _
    (ones-both (unknown l x ++ (as_bound t).broken) _ (ones-both (unknown l x) _ (one-unknown l x) (one-bound t h)) (one-second kind u i)) (one-part_at l x kind _ (meaning l x)))

-- ---- operators

-- a counted piece that is whole, or keeps its form
judged-fit : (l : Look) (k : ℕ) (v : Option ℕ) (t : Term) (g : Signs) → is_counted_size k ≡ true → ((n : ℕ) → v ≡ Some n → within k n ≡ Some n)
    → EachIs (λ b. b ≡ out_of_range) t.broken → EachIs IsOne t.broken → t.is_constant ≡ true → IsFitPiece (judged_piece l (Some k) v t g)
judged-fit l k v t g h w b o c = counted-is k (λ k. ((n : ℕ) → v ≡ Some n → within k n ≡ Some n) → IsFitPiece (judged_piece l (Some k) v t g)) h
    (λ w. record {
      sizes = λ j d. subst (λ i. is_counted_size i ≡ true) (some-same 1 j d) refl;
      wholes = λ j n d e. subst (λ i. within i n ≡ Some n) (some-same 1 j d) (w n e);
      bounds = λ j d. b;
      constant = λ j d. c;
      judged = λ d. absurd (let e = some-same 1 32 d in omega arith);
      one = o;
    })
    (λ w. whole-fit v w)
    w
  where
    whole-fit : (v : Option ℕ) → ((n : ℕ) → v ≡ Some n → within 32 n ≡ Some n) → IsFitPiece (judged_piece l (Some 32) v t g)
    whole-fit None w = record {
      sizes = λ j d. subst (λ i. is_counted_size i ≡ true) (some-same 32 j d) refl;
      wholes = λ j n d e. none-some n e;
      bounds = λ j d. (refl, tt);
      constant = λ j d. refl;
      judged = λ d. refl;
      one = (λ e. refl, tt);
    }
    whole-fit (Some m) w = number-fit (whole_number l (Some m)) 32 (Some m) _ refl refl refl refl w

some-within : (k : ℕ) (v : Option ℕ) (n : ℕ) → option_and_then (within k) v ≡ Some n → within k n ≡ Some n
some-within k None n h = none-some n h
some-within k (Some m) n h = within-same k m n h

pub then-within : (k : ℕ) (f : ℕ → Option ℕ) (v : Option ℕ) (n : ℕ) → option_and_then (λ m. option_and_then (within k) (f m)) v ≡ Some n → within k n ≡ Some n
then-within k f None n h = none-some n h
then-within k f (Some m) n h = some-within k (f m) n h

pub both-within : (k : ℕ) (f : ℕ → ℕ → Option ℕ) (u v : Option ℕ) (n : ℕ) → option_and_then (λ m. option_and_then (λ n. option_and_then (within k) (f m n)) v) u ≡ Some n → within k n ≡ Some n
both-within k f None v n h = none-some n h
both-within k f (Some m) None n h = none-some n h
both-within k f (Some m) (Some j) n h = some-within k (f m j) n h

pub choice-within : (k : ℕ) (c x y : Option ℕ) (n : ℕ) → option_and_then (λ i. option_and_then (within k) (cond (i == 0) y x)) c ≡ Some n → within k n ≡ Some n
choice-within k None x y n h = none-some n h
choice-within k (Some i) x y n h = some-within k (cond (i == 0) y x) n h

pub alls-both : (bs cs : List Broken) → EachIs (λ b. b ≡ out_of_range) bs → EachIs (λ b. b ≡ out_of_range) cs → EachIs (λ b. b ≡ out_of_range) (bs ++ cs)
alls-both [] cs h i = i
alls-both (b ∷ bs) cs h i = (h.0, alls-both bs cs h.1 i)

pub all-range : (t : Bool) → EachIs (λ b. b ≡ out_of_range) (breaks_if t 307 [])
all-range true = (refl, tt)
all-range false = tt

pub fit-unary : (l : Look) (op : UnaryOp) (p : Piece) → IsFitPiece p → IsFitPiece (unary_piece l op p)
fit-unary l op p h = go p.size h
  where
    go : (s : Option ℕ) → IsFitPiece (with_size p s) → IsFitPiece (unary_piece l op (with_size p s))
    go None i = open-fit _ refl i.one
    go (Some k) i = judged-fit l (own_unary op k) _ (unary_term op p.term) (unary_signs op p.signs) (counted-own op k (i.sizes k refl)) (then-within (own_unary op k) (whole_unary op k) p.whole)
        (i.bounds k refl) i.one (i.constant k refl)

one-binary : (op : BinaryOp) (t u : Term) (w : Bool) → EachIs IsOne t.broken → EachIs IsOne u.broken → EachIs IsOne (also (binary_term op t u) (breaks_if w 307 [])).broken
one-binary op t u w h i = ones-both (binary_term op t u).broken _ (ones-both (t.broken ++ u.broken) _ (ones-both t.broken u.broken h i) (one-range (is_whole_only op))) (one-range w)

pub fit-binary : (l : Look) (op : BinaryOp) (p q : Piece) → IsFitPiece p → IsFitPiece q → IsFitPiece (binary_piece l op p q)
fit-binary l op p q h i = go p.size q.size h i
  where
    orders : Bool
    orders = orders_signed op p.signs q.signs

    go : (s r : Option ℕ) → IsFitPiece (with_size p s) → IsFitPiece (with_size q r) → IsFitPiece (binary_piece l op (with_size p s) (with_size q r))
    go None None a b = open-fit _ refl (one-binary op p.term q.term (orders && true) a.one b.one)
    go None (Some k) a b = open-fit _ refl (one-binary op p.term q.term (orders && true) a.one b.one)
    go (Some j) None a b = open-fit _ refl (one-binary op p.term q.term (orders && true) a.one b.one)
    go (Some j) (Some k) a b = judged-fit l (binary_size (binary_of op) j k) _ (also (binary_term op p.term q.term) (breaks_if (orders && false) 307 [])) (binary_signs op p.signs q.signs) (counted-binary (binary_of op) j k (a.sizes j refl) (b.sizes k refl))
        (both-within (binary_size (binary_of op) j k) (whole_binary op) p.whole q.whole)
        (alls-both (binary_term op p.term q.term).broken _ (alls-both (p.term.broken ++ q.term.broken) _ (alls-both p.term.broken q.term.broken (a.bounds j refl) (b.bounds k refl)) (all-range (is_whole_only op))) (all-range (orders && false)))
        (one-binary op p.term q.term (orders && false) a.one b.one) (ap₂ (λ x y. x && y) (a.constant j refl) (b.constant k refl))

one-choice : (t u v : Term) → EachIs IsOne t.broken → EachIs IsOne u.broken → EachIs IsOne v.broken → EachIs IsOne (choice_term t u v).broken
one-choice t u v h i j = ones-both (t.broken ++ u.broken) v.broken (ones-both t.broken u.broken h i) j

pub fit-choice : (l : Look) (p q o : Piece) → IsFitPiece p → IsFitPiece q → IsFitPiece o → IsFitPiece (choice_piece l p q o)
fit-choice l p q o h i j = go p.size q.size o.size h i j
  where
    go : (s r u : Option ℕ) → IsFitPiece (with_size p s) → IsFitPiece (with_size q r) → IsFitPiece (with_size o u) → IsFitPiece (choice_piece l (with_size p s) (with_size q r) (with_size o u))
    go None None None a b c = open-fit _ refl (one-choice p.term q.term o.term a.one b.one c.one)
    go None None (Some k) a b c = open-fit _ refl (one-choice p.term q.term o.term a.one b.one c.one)
    go None (Some k) None a b c = open-fit _ refl (one-choice p.term q.term o.term a.one b.one c.one)
    go None (Some j) (Some k) a b c = open-fit _ refl (one-choice p.term q.term o.term a.one b.one c.one)
    go (Some n) None None a b c = open-fit _ refl (one-choice p.term q.term o.term a.one b.one c.one)
    go (Some n) None (Some k) a b c = open-fit _ refl (one-choice p.term q.term o.term a.one b.one c.one)
    go (Some n) (Some k) None a b c = open-fit _ refl (one-choice p.term q.term o.term a.one b.one c.one)
    go (Some n) (Some j) (Some k) a b c = judged-fit l (max j k) _ (choice_term p.term q.term o.term) (choice_signs q.signs o.signs) (counted-max j k (b.sizes j refl) (c.sizes k refl))
        (choice-within (max j k) p.whole q.whole o.whole)
        (alls-both (p.term.broken ++ q.term.broken) o.term.broken (alls-both p.term.broken q.term.broken (a.bounds n refl) (b.bounds j refl)) (c.bounds k refl))
        (one-choice p.term q.term o.term a.one b.one c.one) (ap₂ (λ x y. x && (y && o.term.is_constant)) (a.constant n refl) (b.constant j refl) ∙ c.constant k refl)

-- ---- expressions

fit-plain : (l : Look) (v w : ℕ) → w ≡ 32 → v < 2 ^ 31 → IsFitPiece (piece l (number v w z.Plain))
fit-plain l v w e h =
    let within_v : within 32 v ≡ Some v = ap (λ t. cond t (Some v) None) (lt-ltb v (2 ^ 31) h) in
    number-fit (read l (number v w z.Plain)) w (within 32 v) _ refl refl (ap is_counted_size e) (ap is_some within_v)
    (λ n d. ap (λ i. within i n) e ∙ within-same 32 v n d)

mutual
  pub fit : (l : Look) → IsFit l → (e : ExprTree) → IsFormed e → IsFitPiece (piece l e)
  fit l h (number v w z.Plain) k = let r = k.3 refl in fit-plain l v w r.0 r.1
  fit l h (number v w z.Unsized) k = open-fit _ refl tt
  fit l h (number v w z.Sized) k = open-fit _ refl tt
  fit l h (name x) k = fit-name l x h (meaning l x) refl
  fit l h (index x i) k = open-fit _ refl (one-index l x (read l i) (fit l h i k).one)
  fit l h (part x kind a b) k = open-fit _ refl (one-part l x kind (read l a) (read l b) (fit l h a k.0).one (fit l h b k.1).one)
  fit l h (unary op a) k = fit-unary l op (piece l a) (fit l h a k)
  fit l h (binary op a b) k = fit-binary l op (piece l a) (piece l b) (fit l h a k.0) (fit l h b k.1)
  fit l h (choice c a b) k = fit-choice l (piece l c) (piece l a) (piece l b) (fit l h c k.0) (fit l h a k.1) (fit l h b k.2)
  fit l h (join parts) k = open-fit _ refl (one-join (read_parts l parts) (fits l h parts k.1))
  fit l h (repeat count parts) k = open-fit _ refl (one-repeat (read l count) (read_parts l parts) (fit l h count k.0).one (fits l h parts k.2))
  fit l h (paren a) k = fit l h a k

  pub fits : (l : Look) → IsFit l → (es : ExprTrees) → AreFormed es → AllOne (read_parts l es)
  fits l h no_trees k = tt
  fits l h (and_trees a rest) k = (ones-both (read l a).broken _ (fit l h a k.0).one (one-other _ 308 [] (λ e. omega arith)), fits l h rest k.1)
