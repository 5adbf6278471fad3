-- Targets with their names resolved, and the rules that they break.
use Rattle.std.specs.Prelude.{ℕ, ◌+◌, ◌^◌, Bool, true, false, cond, not, ◌&&◌, ◌||◌, nat_lt, nat_le, List, [], ◌∷◌, ◌++◌, length, map, flat_map, Option, Some, None, slice_get, option_map}
use Rattle.std.specs.List.{list_any}
use Rattle.std.specs.Option.{option_map_or, option_or}
use Rattle.verilog_ast.specs.declared.PartKind.{PartKind}
use Rattle.verilog_reading.specs.ExprTree.{ExprTree, name, index, part, join, ExprTrees, no_trees, and_trees, TargetTree, whole, index_of, part_of, join_of, TargetTrees, no_parts, and_parts}
use Rattle.cell_graph.specs.Tree.{any_below}
use Rattle.flat_meaning.specs.Assigned.{reaches}
use Rattle.flat_meaning.specs.Flat.{Expr, size, Target, Whole, Part, Pick, Group, Targets, no_targets, target}
use Rattle.flat_form.specs.View.{targets_of}
use Rattle.flat_form.specs.Uses.{target_reads}
use Rattle.flat_unfolding.specs.Outcome.{Text, Broken, breaks, breaks_if}
use Rattle.flat_unfolding.specs.Names.{Range, Memory, Meaning, a_param, a_signal, a_memory, Direction, inner, inward, outward, Entry, Look, meaning, width_at, range_at, own_at, unknown}
use Rattle.flat_unfolding.specs.Constants.{own_value, both}
use Rattle.flat_unfolding.specs.Expressions.{Term, is_sound, as_bound, as_second, range_of, Select, bit_select, kind_select, may_index, word_of, read}

-- a target as it was read: its bits, where no part of it breaks a rule; what breaks one assigns nothing
pub record Aim : Type 0 where
  pub target : Target
  pub bits : Option ℕ
  pub broken : List Broken

abbrev pub nowhere : List Broken → Aim
nowhere bs = record { target = Group no_targets; bits = None; broken = bs }

abbrev pub aim_at : Target → ℕ → Aim
aim_at t n = record { target = t; bits = Some n; broken = [] }

abbrev pub behind : List Broken → Aim → Aim
behind bs a = record { target = a.target; bits = a.bits; broken = bs ++ a.broken }

-- `assign`, gates and outputs of instances assign wires; processes and `initial` assign registers
pub data Use : Type 0 where
  of_wires of_registers : Use

abbrev pub is_input : Direction → Bool
is_input inner = false
is_input inward = true
is_input outward = false

abbrev pub takes : Use → Entry → Bool
takes of_wires e = not e.is_reg && not (is_input e.direction)
takes of_registers e = e.is_reg

-- a memory's words are registers, and a parameter is neither
abbrev pub is_assignable : Use → List Entry → Option Meaning → Bool
is_assignable use_ entries (Some (a_signal s)) = option_map_or (takes use_) (slice_get entries s) false
is_assignable of_wires entries (Some (a_memory m)) = false
is_assignable of_registers entries (Some (a_memory m)) = true
is_assignable use_ entries (Some (a_param p)) = false
is_assignable use_ entries m = true

-- the bits of a target concatenation, and E308 where they are more than 64
abbrev pub total : List Aim → Option ℕ
total [] = Some 0
total (a ∷ rest) = both (λ m n. m + n) a.bits (total rest)

abbrev pub group_of : List Aim → Option ℕ → Aim
group_of parts n = let is_wide = option_map_or (nat_lt 64) n false in record {
  target = Group (targets_of (map (λ (a : Aim). a.target) parts));
  bits = cond is_wide None n;
  broken = flat_map (λ (a : Aim). a.broken) parts ++ breaks_if is_wide 308 [];
}

-- the first name in a target
abbrev mutual
  pub first_name : TargetTree → Text
  first_name (whole x) = x
  first_name (index_of x i) = x
  first_name (part_of x kind l r) = x
  first_name (join_of parts) = first_name_in parts

  pub first_name_in : TargetTrees → Text
  first_name_in no_parts = []
  first_name_in (and_parts t rest) = first_name t

-- a word of a memory that a variable index chooses may be a target by itself in a process alone
pub data Goal : Type 0 where
  fixed : Aim → Goal
  a_word : Memory → (index : Expr) → List Broken → Goal

-- a part of a target concatenation: the name in it, and what it assigns
pub record Piece : Type 0 where
  pub name : Text
  pub target : Target

module _ (entries : List Entry) where
  -- some bit of a signal is among these
  abbrev pub some_bit : (ℕ → Bool) → ℕ → Bool
  some_bit among s = any_below among (width_at entries s)

  abbrev pub assigns_bits_of : Target → Target → ℕ → Bool
  assigns_bits_of t g s = some_bit (λ i. reaches (width_at entries) t s i && reaches (width_at entries) g s i) s

  abbrev pub reads_what_is_assigned : Target → Target → ℕ → Bool
  reads_what_is_assigned t g s = some_bit (target_reads (width_at entries) t s) s && some_bit (reaches (width_at entries) g s) s

  abbrev pub in_some_signal : (ℕ → Bool) → Bool
  in_some_signal p = any_below p (length entries)

  -- a part may assign a bit that an earlier one may assign, or its index reads a signal that the concatenation assigns
  abbrev pub meets : (all before : List Piece) → Piece → Bool
  meets all before p = list_any (λ (q : Piece). in_some_signal (assigns_bits_of p.target q.target)) before
      || list_any (λ (q : Piece). in_some_signal (reads_what_is_assigned p.target q.target)) all

  -- E313, with the part's name: the order in which the parts are assigned would count
  abbrev pub meeting : (all before : List Piece) → List Piece → List Broken
  meeting all before [] = []
  meeting all before (p ∷ rest) = breaks_if (meets all before p) 313 p.name ++ meeting all (before ++ p ∷ []) rest

module _ (look : Look) (use_ : Use) where
  -- E305, and E313: what may not be assigned so
  abbrev pub name_rules : Text → List Broken
  name_rules x = unknown look x ++ breaks_if (not (is_assignable use_ look.entries (meaning look x))) 313 x

  abbrev pub meant_whole : Text → Option Meaning → Aim
  meant_whole x (Some (a_signal s)) = aim_at (Whole s) (width_at look.entries s)
  meant_whole x (Some (a_memory m)) = nowhere (breaks 319 x)
  meant_whole x m = nowhere []

  abbrev pub whole_aim : Text → Aim
  whole_aim x = behind (name_rules x) (meant_whole x (meaning look x))

  -- a constant select: E314 outside the range
  abbrev pub select_aim : Text → ℕ → Option Select → Aim
  select_aim x s None = nowhere (breaks 314 x)
  select_aim x s (Some p) = aim_at (Part s p.at p.bits) p.bits

  -- a variable index: E315 where it may miss
  abbrev pub signal_aim : Text → ℕ → Term → Aim
  signal_aim x s i = cond i.is_constant (select_aim x s (bit_select (range_at look.entries s) (own_value i.expr)))
      (record { target = Pick s i.expr; bits = Some 1; broken = breaks_if (not (may_index (range_at look.entries s) (size i.expr))) 315 x })

  abbrev pub word_aim : Text → Option ℕ → Aim
  word_aim x None = nowhere (breaks 314 x)
  word_aim x (Some s) = aim_at (Whole s) (width_at look.entries s)

  abbrev pub memory_goal : Text → Memory → Term → Goal
  memory_goal x m i = cond i.is_constant (fixed (word_aim x (word_of m (own_value i.expr))))
      (cond (nat_le (2 ^ size i.expr) m.words) (a_word m i.expr []) (fixed (nowhere (breaks 315 x))))

  abbrev pub after : List Broken → Goal → Goal
  after bs (fixed a) = fixed (behind bs a)
  after bs (a_word m e cs) = a_word m e (bs ++ cs)

  abbrev pub meant_goal : Text → Term → Option Meaning → Goal
  meant_goal x i (Some (a_signal s)) = fixed (signal_aim x s i)
  meant_goal x i (Some (a_memory m)) = memory_goal x m i
  meant_goal x i m = fixed (nowhere [])

  abbrev pub index_goal : Text → Term → Goal
  index_goal x i = after (name_rules x ++ i.broken) (cond (is_sound i) (meant_goal x i (meaning look x)) (fixed (nowhere [])))

  -- E319: such a word stands in a target concatenation, or where no process assigns
  abbrev pub as_fixed : Text → Goal → Aim
  as_fixed x (fixed a) = a
  as_fixed x (a_word m i bs) = nowhere (bs ++ breaks 319 x)

  abbrev pub meant_range : Text → PartKind → Option Range → Option Meaning → Aim
  meant_range x kind (Some p) (Some (a_signal s)) = select_aim x s (kind_select (range_at look.entries s) kind p)
  meant_range x kind o (Some (a_memory m)) = nowhere (breaks 319 x)
  meant_range x kind o m = nowhere []

  abbrev pub part_aim : Text → PartKind → Term → Term → Aim
  part_aim x kind left right = let l = as_bound left in let r = as_second kind right in
      behind (name_rules x ++ l.broken ++ r.broken) (meant_range x kind (range_of l r) (meaning look x))

  abbrev mutual
    pub aim : TargetTree → Aim
    aim (whole x) = whole_aim x
    aim (index_of x i) = as_fixed x (index_goal x (read look i))
    aim (part_of x kind l r) = part_aim x kind (read look l) (read look r)
    aim (join_of parts) = group_of (aims parts) (total (aims parts))

    pub aims : TargetTrees → List Aim
    aims no_parts = []
    aims (and_parts t rest) = aim t ∷ aims rest

  -- the parts of a target concatenation that are none themselves, from the left
  abbrev mutual
    pub pieces : TargetTree → List Piece
    pieces (whole x) = record { name = x; target = (aim (whole x)).target } ∷ []
    pieces (index_of x i) = record { name = x; target = (aim (index_of x i)).target } ∷ []
    pieces (part_of x kind l r) = record { name = x; target = (aim (part_of x kind l r)).target } ∷ []
    pieces (join_of parts) = pieces_in parts

    pub pieces_in : TargetTrees → List Piece
    pieces_in no_parts = []
    pieces_in (and_parts t rest) = pieces t ++ pieces_in rest

  abbrev pub piece_rules : TargetTree → List Broken
  piece_rules (join_of parts) = meeting look.entries (pieces_in parts) [] (pieces_in parts)
  piece_rules t = []

  abbrev pub with_piece_rules : TargetTree → Aim
  with_piece_rules t = let a = aim t in record a { broken = a.broken ++ piece_rules t }

-- the target of an assignment in a process
abbrev pub goal : Look → TargetTree → Goal
goal look (index_of x i) = index_goal look of_registers x (read look i)
goal look t = fixed (with_piece_rules look of_registers t)

-- the first signal of which a variable index chooses a bit
abbrev mutual
  pub first_pick : Target → Option ℕ
  first_pick (Whole s) = None
  first_pick (Part s at w) = None
  first_pick (Pick s e) = Some s
  first_pick (Group ts) = first_pick_in ts

  pub first_pick_in : Targets → Option ℕ
  first_pick_in no_targets = None
  first_pick_in (target t ts) = option_or (first_pick t) (first_pick_in ts)

-- E313: no variable index chooses what `assign`, a gate or an output assigns
abbrev pub picked_rule : Look → Option ℕ → List Broken
picked_rule look None = []
picked_rule look (Some s) = breaks 313 (own_at look.entries s)

abbrev pub pick_rule : Look → Target → List Broken
pick_rule look t = picked_rule look (first_pick t)

abbrev pub wire_aim : Look → TargetTree → Aim
wire_aim look t = let a = with_piece_rules look of_wires t in record a { broken = a.broken ++ pick_rule look a.target }

-- what an expression reads as where a target is wanted: a terminal or a connection
abbrev mutual
  pub as_target : ExprTree → Option TargetTree
  as_target (name x) = Some (whole x)
  as_target (index x i) = Some (index_of x i)
  as_target (part x kind l r) = Some (part_of x kind l r)
  as_target (join parts) = option_map join_of (as_targets parts)
  as_target e = None

  pub as_targets : ExprTrees → Option TargetTrees
  as_targets no_trees = Some no_parts
  as_targets (and_trees e rest) = both and_parts (as_target e) (as_targets rest)

-- the target that a gate's first terminal or an output's connection drives: E313 where it is no target
abbrev pub driven_at : Look → Option TargetTree → Term → Aim
driven_at look (Some t) r = wire_aim look t
driven_at look None r = record { target = Group no_targets; bits = cond (is_sound r) (Some (size r.expr)) None; broken = r.broken ++ breaks 313 [] }

abbrev pub driven : Look → ExprTree → Aim
driven look e = driven_at look (as_target e) (read look e)
