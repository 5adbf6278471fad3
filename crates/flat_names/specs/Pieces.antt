-- Resolved expressions, against what the definition reads.
use Rattle.std.specs.Prelude.{◌≡◌, ℕ, ◌*◌, Bool, true, cond, ◌&&◌, ◌||◌, ◌==◌, nat_lt, nat_le, max, List, [], ◌∷◌, ◌++◌, map, min, ◌^◌, ◌-◌, not, Option, Some, None, is_some, option_map, option_and_then, unwrap_or}
use Rattle.verilog_ast.specs.declared.UnaryOp.{UnaryOp}
use Rattle.verilog_ast.specs.declared.BinaryOp.{BinaryOp}
use Rattle.verilog_reading.specs.ExprTree.{ExprTree}
use Rattle.flat_meaning.specs.Flat.{Expr, sizes, binary_size}
use Rattle.flat_form.specs.View.{expr_of, exprs_of, binary_of}
use Rattle.flat_form.specs.Sizes.{Kept, kept_of, is_sized, sum, all_right}
use Rattle.flat_form.specs.declared.flat.FExpr.{FExpr}
use Rattle.flat_form.specs.declared.flat.FExpr.TheVariants as f
use Rattle.flat_unfolding.specs.Outcome.{Broken, breaks_if}
use Rattle.flat_unfolding.specs.Names.{Look}
use Rattle.flat_unfolding.specs.Constants.{own_value, both, plain_unary, own_unary, counted_size, whole, within, whole_unary, whole_binary}
use Rattle.flat_unfolding.specs.Expressions.{Term, also, is_sound, as_constant, as_bound, as_count, all_sound, all_constant, joined, unary_expr, unary_term, binary_term, choice_term, is_whole_only, judged_whole, read}
use Rattle.flat_meaning.specs.Law.{expr_reads}
use Rattle.flat_form.specs.Uses.{exprs_read}
use Rattle.flat_names.specs.declared.resolved.Parts.{Parts}
use Rattle.flat_names.specs.declared.resolved.Count.{Count}
use Rattle.flat_names.specs.declared.resolved.Resolved.{Resolved}
use Rattle.flat_names.specs.declared.signs.Signs.{Signs}
use Rattle.flat_names.specs.Signs.{signs_of, judged_signs, unary_signs, binary_signs, choice_signs, orders_signed}

-- they read the same bits
abbrev pub SameReads : Expr → Expr → Type 0
SameReads a b = (wid : ℕ → ℕ) (s i : ℕ) → expr_reads wid a s i ≡ expr_reads wid b s i

-- a resolved expression is what was read: where no rule is broken, that very expression; else it tells what is read
pub record IsRead (t : Term) (r : Resolved) : Type 0 where
  pub sound : r.is_sound ≡ is_sound t
  pub constant : r.is_constant ≡ t.is_constant
  pub expr : r.is_sound ≡ true → expr_of r.expr ≡ t.expr
  pub sized : r.is_sound ≡ true → is_sized r.expr ≡ true
  pub reads : SameReads (expr_of r.expr) t.expr

-- an expression as a part of another one: what it reads as, its own size where it is counted, its value as a whole number, and its signs
pub record Piece : Type 0 where
  pub term : Term
  pub size : Option ℕ
  pub whole : Option ℕ
  pub signs : Signs

abbrev pub piece : Look → ExprTree → Piece
piece look e = record { term = read look e; size = counted_size look.names e; whole = whole look.names e; signs = signs_of look.names e }

pub record IsPiece (p : Piece) (r : Resolved) : Type 0 where
  pub is : IsRead p.term r
  pub count : option_map (λ (c : Count). c.whole) r.count ≡ option_map (λ k. p.whole) p.size
  pub width : (k : ℕ) → p.size ≡ Some k → (kept_of r.expr).width ≡ k
  pub signs : r.signs ≡ p.signs

-- E307 as expressions break it
abbrev pub out_of_range : Broken
out_of_range = record { number = 307; name = []; place = None }

abbrev pub EachIs : (Broken → Type 0) → List Broken → Type 0
EachIs P [] = Unit {0}
EachIs P (b ∷ bs) = P b × EachIs P bs

abbrev pub is_counted_size : ℕ → Bool
is_counted_size k = (k == 1) || (k == 32)

-- what holds of the pieces of expressions. A counted one has size 1 or 32 and breaks no other rule than E307
pub record IsFitPiece (p : Piece) : Type 0 where
  pub sizes : (k : ℕ) → p.size ≡ Some k → is_counted_size k ≡ true
  pub wholes : (k n : ℕ) → p.size ≡ Some k → p.whole ≡ Some n → within k n ≡ Some n
  pub bounds : (k : ℕ) → p.size ≡ Some k → EachIs (λ b. b ≡ out_of_range) p.term.broken
  pub constant : (k : ℕ) → p.size ≡ Some k → p.term.is_constant ≡ true
  pub judged : p.size ≡ Some 32 → is_sound p.term ≡ is_some p.whole
  pub one : EachIs (λ b. b.number ≡ 307 → b ≡ out_of_range) p.term.broken

-- the rules that a counted expression breaks are noted once it is known to stand in no greater one
abbrev pub pending : Piece → List Broken
pending p = cond (is_some p.size) p.term.broken []

abbrev pub at_once : Piece → List Broken
at_once p = cond (is_some p.size) [] p.term.broken

-- a counted expression that stands as a number, and one that keeps its form
abbrev pub numbered : Option ℕ → (value width : ℕ) → Signs → Resolved
numbered w v n g = record { expr = f.Number v n; is_sound = is_some w; is_constant = true; count = Some (record { whole = w }); signs = g }

abbrev pub flagged : FExpr → Bool → Option ℕ → Signs → Resolved
flagged e sound w g = record { expr = e; is_sound = sound; is_constant = true; count = Some (record { whole = w }); signs = g }

-- an expression over others, by what it stands for and by what is kept
pub record Makes (e : FExpr) (x : Expr) (k : Kept) : Type 0 where
  pub expr : expr_of e ≡ x
  pub kept : kept_of e ≡ k

-- a unary expression over another one. Its form is the definition's where the operand breaks no rule
pub record IsOver (op : UnaryOp) (a e : FExpr) : Type 0 where
  pub expr : is_sized a ≡ true → expr_of e ≡ unary_expr (plain_unary op) (expr_of a)
  pub kept : kept_of e ≡ record { width = own_unary op (kept_of a).width; right = is_sized a }
  pub reads : SameReads (expr_of e) (expr_of a)

-- parts of a concatenation, side by side with what was read; a width that passes a word is held at its top
pub record AreRead (ts : List Term) (p : Parts) : Type 0 where
  pub sound : p.is_sound ≡ all_sound ts
  pub constant : p.is_constant ≡ all_constant ts
  pub exprs : p.is_sound ≡ true → map expr_of p.items.items ≡ map (λ (t : Term). t.expr) ts
  pub sized : p.is_sound ≡ true → all_right (map kept_of p.items.items) ≡ true
  pub width : p.width ≡ min (2 ^ 64 - 1) (sum (map kept_of p.items.items))
  pub reads : (wid : ℕ → ℕ) (s i : ℕ) → exprs_read wid (exprs_of (map expr_of p.items.items)) s i ≡ exprs_read wid (joined ts) s i

-- a part of a concatenation or a replication. E308: it has a size of its own
abbrev pub as_part : Piece → Term
as_part p = also p.term (breaks_if p.signs.is_unsized 308 [])

-- ---- operators over pieces

module _ (look : Look) where
  abbrev pub judged_piece : (size value : Option ℕ) → Term → Signs → Piece
  judged_piece size value t g = record { term = judged_whole look size value t; size = size; whole = value; signs = judged_signs size g }

  abbrev pub unary_piece : UnaryOp → Piece → Piece
  unary_piece op a = let size = option_map (own_unary op) a.size in
      judged_piece size (option_and_then (λ m. option_and_then (within (unwrap_or size 0)) (whole_unary op (unwrap_or a.size 0) m)) a.whole) (unary_term op a.term) (unary_signs op a.signs)

  abbrev pub binary_piece : BinaryOp → Piece → Piece → Piece
  binary_piece op a b = let size = both (binary_size (binary_of op)) a.size b.size in
      judged_piece size (option_and_then (λ m. option_and_then (λ n. option_and_then (within (unwrap_or size 0)) (whole_binary op m n)) b.whole) a.whole)
      (also (binary_term op a.term b.term) (breaks_if (orders_signed op a.signs b.signs && not (is_some size)) 307 [])) (binary_signs op a.signs b.signs)

  abbrev pub choice_piece : Piece → Piece → Piece → Piece
  choice_piece c a b = let size = both (λ k n. n) c.size (both max a.size b.size) in
      judged_piece size (option_and_then (λ k. option_and_then (within (unwrap_or size 0)) (cond (k == 0) b.whole a.whole)) c.whole) (choice_term c.term a.term b.term) (choice_signs a.signs b.signs)

-- what an operator notes where it stands in no greater counted expression
abbrev pub binary_notes : BinaryOp → Piece → Piece → List Broken
binary_notes op a b = cond (is_some (both (λ m n. m) a.size b.size)) [] (pending a ++ pending b ++ breaks_if (is_whole_only op) 307 [] ++ breaks_if (orders_signed op a.signs b.signs) 307 [])

abbrev pub choice_notes : Piece → Piece → Piece → List Broken
choice_notes c a b = cond (is_some (both (λ k m. k) c.size (both (λ m n. m) a.size b.size))) [] (pending c ++ pending a ++ pending b)

-- a width of at most 64 bits
abbrev pub within_word : (sound : Bool) → ℕ → Option ℕ
within_word sound n = cond sound (cond (nat_lt 64 n) None (Some n)) None

-- what a concatenation, a count and a replication break besides their parts
abbrev pub join_notes : List Term → List Broken
join_notes ts = breaks_if (all_sound ts && nat_lt 64 (sizes (joined ts))) 308 []

abbrev pub count_notes : Term → List Broken
count_notes t = breaks_if (is_sound (as_constant t) && nat_le (2 ^ 31) (own_value t.expr)) 307 [] ++ breaks_if (is_sound (as_bound t) && (own_value t.expr == 0)) 307 []

abbrev pub repeat_notes : Term → List Term → List Broken
repeat_notes t ts = breaks_if (is_sound (as_count t) && all_sound ts && nat_lt 64 (own_value t.expr * sizes (joined ts))) 308 []
