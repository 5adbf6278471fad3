-- A full case: its labels are constants that take every value of its size.
use Rattle.std.specs.Prelude.{◌≡◌, ℕ, ◌^◌, Bool, true, false, ◌&&◌, ◌||◌, ◌==◌}
use Rattle.cell_graph.specs.Tree.{number, all_below}
use Rattle.flat_meaning.specs.Values.{Word, Words}
use Rattle.flat_meaning.specs.Flat.{Expr, Number, Read, At, Unary, Binary, Choose, Gate, Join, Repeat, Exprs, no_exprs, expr, Items, no_items, default_item, item}
use Rattle.flat_meaning.specs.Meaning.{value, is_one_of}

abbrev mutual
  pub is_const : Expr → Bool
  is_const (Number w n) = true
  is_const (Read s at w) = false
  is_const (At s e) = false
  is_const (Unary op a) = is_const a
  is_const (Binary op a b) = is_const a && is_const b
  is_const (Choose c x y) = is_const c && (is_const x && is_const y)
  is_const (Gate op es) = are_const es
  is_const (Join es) = are_const es
  is_const (Repeat n es) = are_const es

  pub are_const : Exprs → Bool
  are_const no_exprs = true
  are_const (expr e es) = is_const e && are_const es

-- a constant has its value whatever the signals' values are
abbrev pub nothing : Words
nothing s i = false

abbrev pub has_label : ℕ → ℕ → Exprs → Bool
has_label w x no_exprs = false
has_label w x (expr e es) = (x == number (value nothing e w) w) || has_label w x es

abbrev pub labels_const : Items → Bool
labels_const no_items = true
labels_const (default_item body) = true
labels_const (item ls body rest) = are_const ls && labels_const rest

abbrev pub some_label : ℕ → ℕ → Items → Bool
some_label w x no_items = false
some_label w x (default_item body) = false
some_label w x (item ls body rest) = has_label w x ls || some_label w x rest

abbrev pub is_full : ℕ → Items → Bool
is_full w is = labels_const is && all_below (λ x. some_label w x is) (2 ^ w)

-- a label of some item has the subject's value
abbrev pub is_met : Words → ℕ → Word → Items → Bool
is_met v w f no_items = false
is_met v w f (default_item body) = false
is_met v w f (item ls body rest) = is_one_of v w f ls || is_met v w f rest

-- in a full case, whatever the values are, some item runs
abbrev pub FullLaw : Type 0
FullLaw = (v : Words) (w : ℕ) (f : Word) (is : Items) → is_full w is ≡ true → is_met v w f is ≡ true
