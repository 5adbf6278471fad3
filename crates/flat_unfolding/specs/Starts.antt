-- Start values of registers, by declarations and by `initial`.
use Rattle.std.specs.Prelude.{ℕ, ◌+◌, ◌-◌, Bool, true, false, cond, not, ◌&&◌, ◌||◌, ◌==◌, nat_le, nat_lt, List, [], ◌∷◌, ◌++◌, Option, Some, None, slice_get}
use Rattle.std.specs.Option.{option_map_or, option_or}
use Rattle.std.specs.List.{list_any}
use Rattle.cdc_base.specs.declared.fault.Place.{Place}
use Rattle.cell_graph.specs.Tree.{bit_at}
use Rattle.verilog_reading.specs.ExprTree.{ExprTree, TargetTree, whole, index_of}
use Rattle.verilog_reading.specs.StmtTree.{StmtTree, set, block, StmtTrees, no_rows, and_rows}
use Rattle.flat_meaning.specs.Flat.{Target, Whole}
use Rattle.flat_unfolding.specs.Outcome.{Text, Broken, breaks, breaks_if, Outcome, judged, by_number}
use Rattle.flat_unfolding.specs.Names.{Meaning, a_signal, a_memory, Entry, Look, meaning, width_at}
use Rattle.flat_unfolding.specs.Constants.{assigned_value}
use Rattle.flat_unfolding.specs.Expressions.{Term, read}
use Rattle.flat_unfolding.specs.Targets.{of_registers, aim, first_name}
use Rattle.flat_unfolding.specs.Statements.{neither, done}
use Rattle.flat_unfolding.specs.Design.{Start, Given, Design, Stage, look_of, with_design}

-- the start values so far, and the rules that were broken on the way
pub record Starts : Type 0 where
  pub starts : List Start
  pub broken : List Broken

abbrev pub starts_with : List Start → ℕ → Bool
starts_with starts s = list_any (λ (a : Start). a.sig == s) starts

-- the first start value of a register
abbrev pub first_start : List Start → ℕ → Option ℕ
first_start [] s = None
first_start (b ∷ rest) s = cond (b.sig == s) (Some b.value) (first_start rest s)

-- E309: a register has a start value twice; it stands at the register's declaration
abbrev pub twice_rule : List Entry → List Start → ℕ → List Broken
twice_rule entries starts s = cond (starts_with starts s) (go (slice_get entries s)) []
  where
    go : Option Entry → List Broken
    go None = []
    go (Some e) = record { number = 309; name = e.printed; place = Some e.place } ∷ []

module _ (look : Look) where
  -- E313: a start value is a constant
  abbrev pub start : (name : Text) → ℕ → Term → Starts → Starts
  start x s v before = record {
    starts = before.starts ++ (record { sig = s; value = assigned_value v.expr (width_at look.entries s) } ∷ []);
    broken = before.broken ++ v.broken ++ breaks_if (not v.is_constant) 313 x ++ twice_rule look.entries before.starts s;
  }

  -- a whole register by its name, or a word of a memory by a constant index
  abbrev pub names_register : TargetTree → Bool
  names_register (whole x) = go (meaning look x)
    where
      go : Option Meaning → Bool
      go (Some (a_memory m)) = false
      go m = true
  names_register (index_of x i) = go (meaning look x)
    where
      go : Option Meaning → Bool
      go (Some (a_memory m)) = (read look i).is_constant
      go m = false
  names_register t = false

  -- E313: `initial` has blocking assignments of constants to whole registers
  abbrev pub initial_row : Starts → StmtTree → Starts
  initial_row before (set blocking delay t e) = let a = aim look of_registers t in let v = read look e in
      go (record { starts = before.starts; broken = before.broken ++ a.broken ++ breaks_if (not blocking || not (names_register t)) 313 (first_name t) }) v a.target
    where
      go : Starts → Term → Target → Starts
      go b v (Whole s) = cond (option_map_or (λ (r : Entry). r.is_reg) (slice_get look.entries s) false) (start (first_name t) s v b) (record b { broken = b.broken ++ v.broken })
      go b v g = record b { broken = b.broken ++ v.broken }
  initial_row before s = record before { broken = before.broken ++ breaks 313 [] ++ (done look neither s).broken }

  abbrev pub initial_rows : Starts → StmtTrees → Starts
  initial_rows before no_rows = before
  initial_rows before (and_rows s rest) = initial_rows (initial_row before s) rest

  -- one of these, or one block of these
  abbrev pub initial_starts : Starts → StmtTree → Starts
  initial_starts before (block rows) = initial_rows before rows
  initial_starts before s = initial_row before s

abbrev pub with_starts : Stage → Place → Starts → Outcome Stage
with_starts s p a = judged by_number p a.broken (with_design s (record s.design { starts = a.starts }))

abbrev pub so_far : Stage → Starts
so_far s = record { starts = s.design.starts; broken = [] }

abbrev pub initial_item : Stage → Place → StmtTree → Outcome Stage
initial_item s p body = with_starts s p (initial_starts (look_of s) (so_far s) body)

-- `reg x = value`
abbrev pub start_of : Stage → Place → Text → Option Meaning → Term → Outcome Stage
start_of s p x (Some (a_signal sig)) v = with_starts s p (start (look_of s) x sig v (so_far s))
start_of s p x m v = judged by_number p v.broken s

abbrev pub declared_start : Stage → Place → Text → ExprTree → Outcome Stage
declared_start s p x e = start_of s p x (meaning (look_of s) x) (read (look_of s) e)

-- ---- the start value of a bit, where it is known: a reset's wins over others, and a later one over earlier ones

abbrev pub given_bit : List Given → (sig at : ℕ) → Option Bool
given_bit [] s i = None
given_bit (g ∷ rest) s i = option_or (given_bit rest s i) (cond ((g.sig == s) && (nat_le g.at i && nat_lt i (g.at + g.bits))) (Some (bit_at g.value (i - g.at))) None)

abbrev pub start_bit : List Start → (sig at : ℕ) → Option Bool
start_bit [] s i = None
start_bit (a ∷ rest) s i = cond (a.sig == s) (Some (bit_at a.value i)) (start_bit rest s i)

abbrev pub known_bit : Design → (sig at : ℕ) → Option Bool
known_bit d s i = option_or (given_bit d.givens s i) (start_bit d.starts s i)
