-- What each form of a written expression reads as, and what it notes, step by step.
use Rattle.std.proofs.Common.{◌≡◌, ℕ, not, List, [], ◌∷◌, ◌++◌, map, Option, Some, None, is_some, Result, IfOk, ◌&&◌, ◌==◌, refl, sym, ap, ◌∙◌, append_assoc}
use Rattle.std.proofs.lemmas.List.{append-nil}
use Rattle.std.specs.Prelude.{option_map}
use Rattle.cdc_base.specs.declared.list.NoMemory.{NoMemory}
use Rattle.verilog_ast.specs.declared.UnaryOp.{UnaryOp}
use Rattle.verilog_ast.specs.declared.BinaryOp.{BinaryOp}
use Rattle.verilog_ast.specs.declared.Expr.{Expr}
use Rattle.verilog_reading.specs.ExprTree.{ExprTree, index, part, unary, binary, choice, join, repeat, ExprTrees, no_trees, and_trees, tree_of, trees_of}
use Rattle.verilog_ast.specs.declared.PartKind.{PartKind}
use Rattle.flat_unfolding.specs.Outcome.{Text, Broken, breaks_if}
use Rattle.flat_unfolding.specs.Names.{Look, meaning, unknown}
use Rattle.flat_unfolding.specs.Constants.{own_value}
use Rattle.flat_unfolding.specs.Expressions.{Term, is_sound, all_broken, as_constant, as_bound, as_count, as_second, range_of, index_term, part_term, join_term, repeat_term, read, read_parts}
use Rattle.flat_unfolding.specs.Formed.{IsFormed, AreFormed, AreSome}
use Rattle.flat_names.specs.declared.resolved.Count.{Count}
use Rattle.flat_names.specs.declared.resolved.Resolved.{Resolved}
use Rattle.flat_names.specs.declared.resolved.Parts.{Parts}
use Rattle.flat_names.specs.Noting.{Noted, all_noted}
use Rattle.flat_names.specs.Looks.{IsFit}
use Rattle.flat_names.specs.Signs.{no_signs}
use Rattle.flat_names.specs.Pieces.{Piece, piece, IsPiece, IsRead, AreRead, as_part, pending, at_once, unary_piece, binary_piece, choice_piece, binary_notes, choice_notes, join_notes, count_notes, repeat_notes}
use Rattle.flat_names.specs.Selects.{index_of, part_at, bound_notes, second_notes}
use Rattle.flat_names.proofs.Selected.{second-broken}
use Rattle.flat_names.proofs.Notes.{noted-both, noted-late, then-noted}
use Rattle.flat_names.proofs.Options.{ok-map}
use Rattle.flat_names.proofs.Fit.{fit, fits, all-range, alls-both, one-constant, one-all}
use Rattle.flat_names.proofs.Arms.{settled-notes, unary-notes, binary-notes-are, choice-notes-are}
use Rattle.flat_names.proofs.Named.{Reads, open-read}

-- ---- notes behind notes

pub settled-after : (f g h : Noted) (p : Piece) → g ≡ all_noted f (at_once p) → h ≡ all_noted g (pending p) → h ≡ all_noted f p.term.broken
settled-after f g h p d e = e ∙ ap (λ x. all_noted x (pending p)) d ∙ settled-notes f p

-- with what it breaks besides
also-after : (f g h : Noted) (p : Piece) (bs : List Broken) → g ≡ all_noted f (at_once p) → h ≡ all_noted g (pending p ++ bs) → h ≡ all_noted f (p.term.broken ++ bs)
also-after f g h p bs d e = then-noted f (all_noted g (pending p)) h p.term.broken bs (settled-after f g (all_noted g (pending p)) p d refl) (e ∙ noted-both g (pending p) bs)

pub constant-after : (f g h : Noted) (p : Piece) → g ≡ all_noted f (at_once p) → h ≡ all_noted g (pending p ++ breaks_if (not p.term.is_constant) 307 []) → h ≡ all_noted f (as_constant p.term).broken
constant-after f g h p = also-after f g h p (breaks_if (not p.term.is_constant) 307 [])

pub part-after : (f g h : Noted) (p : Piece) → g ≡ all_noted f (at_once p) → h ≡ all_noted g (pending p ++ breaks_if p.signs.is_unsized 308 []) → h ≡ all_noted f (as_part p).broken
part-after f g h p = also-after f g h p (breaks_if p.signs.is_unsized 308 [])

pub counted-same : (p : Piece) (r : Resolved) → IsPiece p r → is_some r.count ≡ is_some p.size
counted-same p r h = left r.count ∙ ap is_some h.count ∙ sym (right p.size)
  where
    left : (o : Option Count) → is_some o ≡ is_some (option_map (λ (c : Count). c.whole) o)
    left None = refl
    left (Some c) = refl

    right : (o : Option ℕ) → is_some o ≡ is_some (option_map (λ k. p.whole) o)
    right None = refl
    right (Some k) = refl

-- ---- selects

pub index-reads : (l : Look) (x : Text) (i : ExprTree) (f0 f1 f2 f3 f4 : Noted) (r : Resolved) → f1 ≡ all_noted f0 (unknown l x) → f2 ≡ all_noted f1 (at_once (piece l i))
    → f3 ≡ all_noted f2 (pending (piece l i)) → IsRead (index_term l x (read l i)) r × (r.count ≡ None) × (f4 ≡ all_noted f3 (index_of l x (read l i) (meaning l x)).broken) × (r.signs ≡ no_signs)
    → Reads l (index x i) f0 f4 r
index-reads l x i f0 f1 f2 f3 f4 r e1 e2 e3 h = (
  open-read (piece l (index x i)) r refl h.0 h.1 h.3,
  then-noted f0 f3 f4 (unknown l x ++ (read l i).broken) (index_of l x (read l i) (meaning l x)).broken
      (then-noted f0 f1 f3 (unknown l x) (read l i).broken e1 (settled-after f1 f2 f3 (piece l i) e2 e3)) h.2,
)

pub part-reads : (l : Look) (x : Text) (kind : PartKind) (a b : ExprTree) (f0 f1 f2 f3 f4 f5 f6 : Noted) (r : Resolved) → IsFit l → IsFormed b → f1 ≡ all_noted f0 (unknown l x)
    → f2 ≡ all_noted f1 (at_once (piece l a)) → f3 ≡ all_noted f2 (pending (piece l a) ++ breaks_if (not (read l a).is_constant) 307 [])
    → f4 ≡ all_noted f3 (at_once (piece l b)) → f5 ≡ all_noted f4 (pending (piece l b) ++ breaks_if (not (read l b).is_constant) 307 [])
    → IsRead (part_term l x kind (read l a) (read l b)) r × (r.count ≡ None)
    × (f6 ≡ all_noted f5 (bound_notes (read l a) ++ second_notes kind (read l b) ++ (part_at l x kind (range_of (as_bound (read l a)) (as_second kind (read l b))) (meaning l x)).broken)) × (r.signs ≡ no_signs)
    → Reads l (part x kind a b) f0 f6 r
part-reads l x kind a b f0 f1 f2 f3 f4 f5 f6 r is formed e1 e2 e3 e4 e5 h = (
  open-read (piece l (part x kind a b)) r refl h.0 h.1 h.3,
  then-noted f0 upper f6 ((unknown l x ++ (as_bound (read l a)).broken) ++ (as_second kind (read l b)).broken) rest
      (both ∙ ap (λ bs. all_noted f0 ((unknown l x ++ (left ++ low)) ++ bs)) (sym (second-broken kind (read l b)))) last,
)
  where
    left : List Broken
    left = (as_constant (read l a)).broken

    right : List Broken
    right = (as_constant (read l b)).broken

    low : List Broken
    low = bound_notes (read l a)

    high : List Broken
    high = second_notes kind (read l b)

    rest : List Broken
    rest = (part_at l x kind (range_of (as_bound (read l a)) (as_second kind (read l b))) (meaning l x)).broken

    lower : Noted
    lower = all_noted f3 low

    upper : Noted
    upper = all_noted (all_noted f5 low) high

    is_left : f3 ≡ all_noted f1 left
    is_left = constant-after f1 f2 f3 (piece l a) e2 e3

    is_right : f5 ≡ all_noted f3 right
    is_right = constant-after f3 f4 f5 (piece l b) e4 e5

    -- the left bound's own note stands behind the right one's constant
    moved : all_noted f5 low ≡ all_noted lower right
    moved = ap (λ g. all_noted g low) is_right ∙ noted-late f3 low right (all-range _) (one-constant (read l b) (fit l is b formed).one)

    both : upper ≡ all_noted f0 ((unknown l x ++ (left ++ low)) ++ (right ++ high))
    both = then-noted f0 lower upper (unknown l x ++ (left ++ low)) (right ++ high)
        (then-noted f0 f1 lower (unknown l x) (left ++ low) e1 (then-noted f1 f3 lower left low is_left refl))
        (then-noted lower (all_noted f5 low) upper right high moved refl)

    last : f6 ≡ all_noted upper rest
    last = h.2 ∙ noted-both f5 (low ++ high) rest ∙ ap (λ g. all_noted g rest) (noted-both f5 low high)

-- ---- operators

pub unary-reads : (l : Look) (op : UnaryOp) (a : ExprTree) (f0 f1 : Noted) (r : Resolved) → f1 ≡ all_noted f0 (at_once (piece l a)) → IsPiece (unary_piece l op (piece l a)) r
    → Reads l (unary op a) f0 f1 r
unary-reads l op a f0 f1 r e h = (h, e ∙ ap (all_noted f0) (sym (unary-notes l op (piece l a))))

abbrev pub Also : (p : Piece) (old new : Noted) (bs : List Broken) → Resolved → Type 0
Also p old new bs r = IsPiece p r × (new ≡ all_noted old bs)

pub binary-reads : (l : Look) (op : BinaryOp) (a b : ExprTree) (f0 f1 f2 f3 : Noted) (r : Resolved) → IsFit l → IsFormed a → IsFormed b
    → f1 ≡ all_noted f0 (at_once (piece l a)) → f2 ≡ all_noted f1 (at_once (piece l b))
    → Also (binary_piece l op (piece l a) (piece l b)) f2 f3 (binary_notes op (piece l a) (piece l b)) r → Reads l (binary op a b) f0 f3 r
binary-reads l op a b f0 f1 f2 f3 r is fa fb e1 e2 h = (
  h.0,
  h.1 ∙ ap (λ g. all_noted g (binary_notes op (piece l a) (piece l b))) (e2 ∙ ap (λ g. all_noted g (at_once (piece l b))) e1)
      ∙ binary-notes-are l op f0 (piece l a) (piece l b) (fit l is a fa) (fit l is b fb),
)

pub choice-reads : (l : Look) (c a b : ExprTree) (f0 f1 f2 f3 f4 : Noted) (r : Resolved) → IsFit l → IsFormed c → IsFormed a → IsFormed b
    → f1 ≡ all_noted f0 (at_once (piece l c)) → f2 ≡ all_noted f1 (at_once (piece l a)) → f3 ≡ all_noted f2 (at_once (piece l b))
    → Also (choice_piece l (piece l c) (piece l a) (piece l b)) f3 f4 (choice_notes (piece l c) (piece l a) (piece l b)) r → Reads l (choice c a b) f0 f4 r
choice-reads l c a b f0 f1 f2 f3 f4 r is fc fa fb e1 e2 e3 h = (
  h.0,
  h.1
      ∙ ap (λ g. all_noted g (choice_notes (piece l c) (piece l a) (piece l b)))
      (e3 ∙ ap (λ g. all_noted g (at_once (piece l b))) (e2 ∙ ap (λ g. all_noted g (at_once (piece l a))) e1))
      ∙ choice-notes-are l f0 (piece l c) (piece l a) (piece l b) (fit l is c fc) (fit l is a fa) (fit l is b fb),
)

-- ---- concatenations and replications

pub join-reads : (l : Look) (parts : ExprTrees) (f0 f1 f2 : Noted) (p : Parts) (s : Result Resolved NoMemory) → AreSome parts
    → AreRead (read_parts l parts) p × (f1 ≡ all_noted f0 (all_broken (read_parts l parts)))
    → ((t : Term) (ts : List Term) → AreRead (t ∷ ts) p → IfOk s (λ r. IsRead (join_term (t ∷ ts)) r × (r.count ≡ None) × (f2 ≡ all_noted f1 (join_notes (t ∷ ts))) × (r.signs ≡ no_signs)))
    → IfOk s (Reads l (join parts) f0 f2)
join-reads l no_trees f0 f1 f2 p s some h k = absurd some
join-reads l (and_trees a rest) f0 f1 f2 p s some h k = ok-map s
    (λ r i. (open-read (piece l (join (and_trees a rest))) r refl i.0 i.1 i.3, then-noted f0 f1 f2 (all_broken (read_parts l (and_trees a rest))) (join_notes (read_parts l (and_trees a rest))) h.1 i.2))
    (k (as_part (piece l a)) (read_parts l rest) h.0)

repeat-broken : (l : Look) (n : ExprTree) (parts : ExprTrees) (f0 f1 f2 f3 f4 : Noted) → IsFit l → AreFormed parts → f1 ≡ all_noted f0 (at_once (piece l n))
    → f2 ≡ all_noted f1 (pending (piece l n) ++ breaks_if (not (read l n).is_constant) 307 []) → f3 ≡ all_noted f2 (all_broken (read_parts l parts))
    → f4 ≡ all_noted f3 (count_notes (read l n) ++ repeat_notes (read l n) (read_parts l parts)) → f4 ≡ all_noted f0 (repeat_term (read l n) (read_parts l parts)).broken
repeat-broken l n parts f0 f1 f2 f3 f4 is formed e1 e2 e3 e4 = then-noted f0 (all_noted f3 (low ++ zero_)) f4 ((as_count t).broken ++ all_broken ts) (repeat_notes t ts) before (e4 ∙ noted-both f3 (low ++ zero_) (repeat_notes t ts))
  where
    t : Term
    t = read l n

    ts : List Term
    ts = read_parts l parts

    low : List Broken
    low = bound_notes t

    zero_ : List Broken
    zero_ = breaks_if (is_sound (as_bound t) && (own_value t.expr == 0)) 307 []

    is_count : f2 ≡ all_noted f0 (as_constant t).broken
    is_count = constant-after f0 f1 f2 (piece l n) e1 e2

    -- the count's own notes stand behind the parts'
    moved : all_noted f3 (low ++ zero_) ≡ all_noted (all_noted f2 (low ++ zero_)) (all_broken ts)
    moved = ap (λ g. all_noted g (low ++ zero_)) e3 ∙ noted-late f2 (low ++ zero_) (all_broken ts) (alls-both low zero_ (all-range _) (all-range _)) (one-all ts (fits l is parts formed))

    counted : all_noted f2 (low ++ zero_) ≡ all_noted f0 (as_count t).broken
    counted = then-noted f0 (all_noted f2 low) (all_noted f2 (low ++ zero_)) (as_bound t).broken zero_ (then-noted f0 f2 (all_noted f2 low) (as_constant t).broken low is_count refl) (noted-both f2 low zero_)

    before : all_noted f3 (low ++ zero_) ≡ all_noted f0 ((as_count t).broken ++ all_broken ts)
    before = then-noted f0 (all_noted f2 (low ++ zero_)) (all_noted f3 (low ++ zero_)) (as_count t).broken (all_broken ts) counted moved

pub repeat-reads : (l : Look) (n : ExprTree) (parts : ExprTrees) (f0 f1 f2 f3 f4 : Noted) (c : Resolved) (p : Parts) (s : Result Resolved NoMemory) → IsFit l → AreSome parts → AreFormed parts
    → f1 ≡ all_noted f0 (at_once (piece l n)) → IsRead (as_constant (read l n)) c → f2 ≡ all_noted f1 (pending (piece l n) ++ breaks_if (not (read l n).is_constant) 307 [])
    → AreRead (read_parts l parts) p × (f3 ≡ all_noted f2 (all_broken (read_parts l parts)))
    → ((k t : Term) (ts : List Term) → IsRead (as_constant k) c → AreRead (t ∷ ts) p
    → IfOk s (λ r. IsRead (repeat_term k (t ∷ ts)) r × (r.count ≡ None) × (f4 ≡ all_noted f3 (count_notes k ++ repeat_notes k (t ∷ ts))) × (r.signs ≡ no_signs)))
    → IfOk s (Reads l (repeat n parts) f0 f4)
repeat-reads l n no_trees f0 f1 f2 f3 f4 c p s is some formed e1 h e2 g k = absurd some
repeat-reads l n (and_trees a rest) f0 f1 f2 f3 f4 c p s is some formed e1 h e2 g k = ok-map s
    (λ r i. (open-read (piece l (repeat n (and_trees a rest))) r refl i.0 i.1 i.3, repeat-broken l n (and_trees a rest) f0 f1 f2 f3 f4 is formed e1 e2 g.1 i.2))
    (k (read l n) (as_part (piece l a)) (read_parts l rest) h g.0)

-- ---- parts, one after another

abbrev pub trees : List Expr → ExprTrees
trees xs = trees_of (map tree_of xs)

all-more : (ts : List Term) (t : Term) → all_broken (ts ++ t ∷ []) ≡ all_broken ts ++ t.broken
all-more [] t = append-nil t.broken
all-more (u ∷ ts) t = ap (λ bs. u.broken ++ bs) (all-more ts t) ∙ sym (append_assoc u.broken (all_broken ts) t.broken)

-- what is read so far, and what is left
pub record IsPartly (l : Look) (all rest : List Expr) (old new : Noted) (p : Parts) : Type 0 where
  pub done : List Term
  pub terms : done ++ read_parts l (trees rest) ≡ read_parts l (trees all)
  pub formed : AreFormed (trees rest)
  pub read : AreRead done p
  pub notes : new ≡ all_noted old (all_broken done)

pub next-part : (l : Look) (all rest : List Expr) (x : Expr) (f0 f1 f2 f3 : Noted) (p q : Parts) (r : Resolved) → IsPartly l all (x ∷ rest) f0 f1 p
    → f2 ≡ all_noted f1 (at_once (piece l (tree_of x))) → f3 ≡ all_noted f2 (pending (piece l (tree_of x)) ++ breaks_if (piece l (tree_of x)).signs.is_unsized 308 []) → IsRead (as_part (piece l (tree_of x))) r
    → ((ts : List Term) (t : Term) → AreRead ts p → IsRead t r → AreRead (ts ++ t ∷ []) q) → IsPartly l all rest f0 f3 q
next-part l all rest x f0 f1 f2 f3 p q r h e1 e2 i k = let t = as_part (piece l (tree_of x)) in record {
  done = h.done ++ t ∷ [];
  terms = append_assoc h.done (t ∷ []) (read_parts l (trees rest)) ∙ h.terms;
  formed = h.formed.1;
  read = k h.done t h.read i;
  notes = then-noted f0 f1 f3 (all_broken h.done) t.broken h.notes (part-after f1 f2 f3 (piece l (tree_of x)) e1 e2) ∙ ap (all_noted f0) (sym (all-more h.done t));
}
