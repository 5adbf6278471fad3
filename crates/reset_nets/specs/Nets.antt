-- Reset nets: the declared resets of a source, and the signals that single assignments make of such nets alone.
use Rattle.std.specs.Prelude.{◌≡◌, ◌≢◌, ◌↔◌, ℕ, ◌==◌, Bool, not, cond, ◌&&◌, List, [], ◌∷◌, ◌++◌, length, filter, Option, Some, None, is_none, option_map, option_and_then, slice_get}
use Rattle.std.specs.List.{Contains}
use Rattle.cdc_base.specs.declared.signal.ResetPin.{ResetPin}
use Rattle.flat_meaning.specs.Flat.{Expr, Number, Read, At, Unary, Binary, Choose, Gate, Join, Repeat, Exprs, no_exprs, expr, Target, Whole, is_target}
use Rattle.flat_unfolding.specs.Outcome.{Outcome, good, bad}
use Rattle.flat_unfolding.specs.Names.{Entry, pin_of, width_at}
use Rattle.flat_unfolding.specs.Constants.{assigned_value, truth}
use Rattle.flat_unfolding.specs.Design.{Design}

-- ---- values that read nets

-- the signals that an expression reads, each as often as it stands there
abbrev mutual
  pub reads_of : Expr → List ℕ
  reads_of (Number w n) = []
  reads_of (Read s at w) = s ∷ []
  reads_of (At s i) = s ∷ reads_of i
  reads_of (Unary op a) = reads_of a
  reads_of (Binary op a b) = reads_of a ++ reads_of b
  reads_of (Choose c x y) = reads_of c ++ (reads_of x ++ reads_of y)
  reads_of (Gate op es) = all_reads_of es
  reads_of (Join es) = all_reads_of es
  reads_of (Repeat n es) = all_reads_of es

  pub all_reads_of : Exprs → List ℕ
  all_reads_of no_exprs = []
  all_reads_of (expr e es) = reads_of e ++ all_reads_of es

-- each read of a signal is the number of its level, in its lowest bit
abbrev mutual
  pub with_levels : (ℕ → Bool) → Expr → Expr
  with_levels levels (Number w n) = Number w n
  with_levels levels (Read s at w) = Number w (cond (at == 0) (truth (levels s)) 0)
  with_levels levels (At s i) = At s (with_levels levels i)
  with_levels levels (Unary op a) = Unary op (with_levels levels a)
  with_levels levels (Binary op a b) = Binary op (with_levels levels a) (with_levels levels b)
  with_levels levels (Choose c x y) = Choose (with_levels levels c) (with_levels levels x) (with_levels levels y)
  with_levels levels (Gate op es) = Gate op (all_with_levels levels es)
  with_levels levels (Join es) = Join (all_with_levels levels es)
  with_levels levels (Repeat n es) = Repeat n (all_with_levels levels es)

  pub all_with_levels : (ℕ → Bool) → Exprs → Exprs
  all_with_levels levels no_exprs = no_exprs
  all_with_levels levels (expr e es) = expr (with_levels levels e) (all_with_levels levels es)

-- the value of one bit that is assigned while signals have these levels
abbrev pub value_at : (ℕ → Bool) → Expr → Bool
value_at levels e = not (assigned_value (with_levels levels e) 1 == 0)

-- ---- nets

-- The least set of nets, each with its inactive level: declared resets, and signals that are made of nets alone by a value which isn't the same with
-- all of these at their inactive levels as with all at their active ones. `declared` tells the inactive level of a declared reset, and `made` the
-- only value that is assigned to another signal of one bit
pub data IsNet (declared : ℕ → Option Bool) (made : ℕ → Option Expr) : ℕ → Bool → Type 0 where
  a_declared : {s : ℕ} {l : Bool} → declared s ≡ Some l → IsNet declared made s l
  a_made : {s : ℕ} {l : Bool} (e : Expr) (levels : ℕ → Bool) → made s ≡ Some e → reads_of e ≢ []
      → ((t : ℕ) → Contains (reads_of e) t → IsNet declared made t (levels t))
      → value_at levels e ≢ value_at (λ t. not (levels t)) e → l ≡ value_at levels e → IsNet declared made s l

-- a reset that is active low is inactive at 1
abbrev pub inactive : ResetPin → Bool
inactive r = not r.high

-- the inactive level of the reset that a signal of one bit is declared as, by its printed name
abbrev pub level_of : List ResetPin → Entry → Option Bool
level_of pins e = option_map inactive (pin_of pins e)

abbrev pub declared_level : List ResetPin → Design → ℕ → Option Bool
declared_level pins d s = option_and_then (level_of pins) (slice_get d.entries s)

-- the value of an assignment that stands alone, and names its target plainly
abbrev pub plain_value : List (Target × Expr) → Option Expr
plain_value ((Whole s, e) ∷ []) = Some e
plain_value given = None

abbrev pub goes_to : ℕ → Target × Expr → Bool
goes_to s a = is_target a.0 s

-- the value that makes a signal of one bit, which is no declared reset: that of the only assignment which goes to it, under its plain name
abbrev pub made_by : List ResetPin → Design → ℕ → Option Expr
made_by pins d s = cond ((width_at d.entries s == 1) && is_none (declared_level pins d s)) (plain_value (filter (goes_to s) d.assigns)) None

abbrev pub IsResetNet : List ResetPin → Design → ℕ → Bool → Type 0
IsResetNet pins d = IsNet (declared_level pins d) (made_by pins d)

-- ---- the nets beside the declared resets, as resets of their own

-- a net of this level, unless it is declared
abbrev pub pin_if : Option Bool → Entry → Option Bool → List ResetPin
pin_if None e (Some l) = record { name = e.printed; high = not l } ∷ []
pin_if declared e level = []

-- the nets among signals, in ascending order; there is a level for each that is a net
abbrev pub further_pins : List ResetPin → List Entry → List (Option Bool) → List ResetPin
further_pins pins (e ∷ es) (l ∷ ls) = pin_if (level_of pins e) e l ++ further_pins pins es ls
further_pins pins es ls = []

-- the nets beside the declared resets are all that there are
pub record AreNets (pins : List ResetPin) (d : Design) (nets : List ResetPin) : Type 0 where
  pub levels : List (Option Bool)
  pub size : length levels ≡ length d.entries
  pub exact : (s : ℕ) (l : Bool) → (slice_get levels s ≡ Some (Some l)) ↔ IsResetNet pins d s l
  pub listed : nets ≡ further_pins pins d.entries levels

-- there are none where the wires of a source aren't known
abbrev pub AreNetsIn : List ResetPin → Outcome Design → List ResetPin → Type 0
AreNetsIn pins (good d) nets = AreNets pins d nets
AreNetsIn pins (bad f) nets = nets ≡ []
