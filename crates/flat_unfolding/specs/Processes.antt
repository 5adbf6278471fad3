-- `always`: processes of wires and clocked ones.
use Rattle.std.specs.Prelude.{ℕ, Bool, true, false, cond, not, ◌&&◌, ◌||◌, ◌==◌, List, [], ◌∷◌, ◌++◌, flat_map, map, Option, Some, None, is_some, is_none, unwrap_or, option_and_then}
use Rattle.std.specs.Option.{option_map_or}
use Rattle.std.specs.List.{list_all, list_any}
use Rattle.cdc_base.specs.declared.fault.Place.{Place}
use Rattle.verilog_ast.specs.declared.Edge.{Edge}
use Rattle.verilog_ast.specs.declared.EdgeKind.{EdgeKind}
use Rattle.verilog_ast.specs.declared.EdgeKind.TheVariants as edge
use Rattle.verilog_ast.specs.declared.Event.{Event}
use Rattle.verilog_ast.specs.declared.Event.TheVariants as event
use Rattle.verilog_reading.specs.StmtTree.{StmtTree}
use Rattle.flat_meaning.specs.Flat.{Read, Target, Whole, Part, Pick, Group, Targets, no_targets, target, Stmt, Null, Set, If, Case, Block, Stmts, no_stmts, stmt, assigns}
use Rattle.flat_unfolding.specs.Outcome.{Text, Broken, breaks, breaks_if, Outcome, then_, judged, by_number}
use Rattle.flat_unfolding.specs.Names.{Meaning, a_signal, a_memory, Look, meaning, width_at, unknown}
use Rattle.flat_unfolding.specs.Mentions.{unlisted, first_mixed}
use Rattle.flat_unfolding.specs.Delays.{first_clash}
use Rattle.flat_unfolding.specs.Statements.{of_wires, clocked, neither, Kind, done}
use Rattle.flat_unfolding.specs.Reads.{latch_rule}
use Rattle.flat_unfolding.specs.Resets.{ResetForm, is_reset, reset_form, reset_rules}
use Rattle.flat_unfolding.specs.Design.{Given, Stage, look_of, with_design}

-- E313 with a name
abbrev pub wrong_name : Option Text → List Broken
wrong_name None = []
wrong_name (Some x) = breaks 313 x

-- two nonblocking assignments on one path give one name two delays
abbrev pub delay_rules : StmtTree → List Broken
delay_rules body = wrong_name (first_clash body)

abbrev pub is_rising : EdgeKind → Bool
is_rising edge.Pos = true
is_rising k = false

abbrev pub is_an_edge : EdgeKind → Bool
is_an_edge edge.Level = false
is_an_edge k = true

-- one `posedge`, or two edges with `posedge` or `negedge`, at least one of them a `posedge`
abbrev pub has_form : List Edge → Bool
has_form [] = false
has_form (c ∷ []) = is_rising c.kind
has_form (c ∷ e ∷ []) = is_an_edge c.kind && is_an_edge e.kind && (is_rising c.kind || is_rising e.kind)
has_form (c ∷ e ∷ f ∷ rest) = false

abbrev pub is_level : EdgeKind → Bool
is_level k = not (is_an_edge k)

-- `@*`, or a list of levels, which stands for it
abbrev pub is_of_wires : Event → Bool
is_of_wires event.Star = true
is_of_wires (event.Edges edges) = list_all (λ (e : Edge). is_level e.kind) edges

abbrev pub edges_of : Event → List Edge
edges_of event.Star = []
edges_of (event.Edges edges) = edges

abbrev pub first_edge : List Edge → Text
first_edge [] = []
first_edge (e ∷ rest) = e.name

abbrev pub are_two : List Edge → Bool
are_two (c ∷ e ∷ []) = true
are_two edges = false

-- ---- registers that the first branch of reset form alone assigns keep their values

-- some statements as one
abbrev pub as_one : Stmts → Stmt
as_one (stmt s no_stmts) = s
as_one rows = Block rows

module _ (wid : ℕ → ℕ) (body : Stmt) where
  -- in front of further statements, what a target of the branch keeps: where the body assigns nothing of its signal, it gets its own value
  abbrev mutual
    pub kept : Target → Stmts → Stmts
    kept (Whole s) rest = cond (assigns body s) rest (stmt (Set false (Whole s) (Read s 0 (wid s))) rest)
    kept (Part s at w) rest = cond (assigns body s) rest (stmt (Set false (Part s at w) (Read s at w)) rest)
    kept (Pick s e) rest = rest
    kept (Group ts) rest = all_kept ts rest

    pub all_kept : Targets → Stmts → Stmts
    all_kept no_targets rest = rest
    all_kept (target t ts) rest = kept t (all_kept ts rest)

  -- the branch is an assignment or a block of these
  abbrev mutual
    pub branch_kept : Stmt → Stmts → Stmts
    branch_kept Null rest = rest
    branch_kept (Set b t e) rest = kept t rest
    branch_kept (If c x y) rest = rest
    branch_kept (Case e is) rest = rest
    branch_kept (Block ss) rest = rows_kept ss rest

    pub rows_kept : Stmts → Stmts → Stmts
    rows_kept no_stmts rest = rest
    rows_kept (stmt s ss) rest = branch_kept s (rows_kept ss rest)

  -- the body behind what the branch keeps
  abbrev pub with_kept : (branch : Stmt) → Stmt
  with_kept branch = as_one (branch_kept branch (stmt body no_stmts))

module _ (look : Look) where
  -- E305, and E316: the name of an edge is that of a signal
  abbrev pub meant_edge : Text → Edge → Option Meaning → List Broken
  meant_edge first e (Some (a_signal s)) = []
  meant_edge first e (Some m) = breaks 316 first
  meant_edge first e None = unknown look e.name

  abbrev pub edge_rules : Text → Edge → List Broken
  edge_rules first e = meant_edge first e (meaning look e.name)

  abbrev pub meant_signal : Option Meaning → Option ℕ
  meant_signal (Some (a_signal s)) = Some s
  meant_signal m = None

  -- the signal that an edge names
  abbrev pub edge_signal : Edge → Option ℕ
  edge_signal e = meant_signal (meaning look e.name)

  abbrev pub is_wide : Edge → Bool
  is_wide e = option_map_or (λ s. not (width_at look.entries s == 1)) (edge_signal e) false

  abbrev pub names_reset : Edge → Bool
  names_reset e = option_map_or (is_reset look) (edge_signal e) false

  -- ---- a list of levels

  abbrev pub needs_level : Option Meaning → Bool
  needs_level (Some (a_signal s)) = true
  needs_level (Some (a_memory m)) = true
  needs_level m = false

  -- whether a signal or a memory that the process reads, and that is no target of it, isn't in the list
  abbrev pub lacks_level : List Edge → StmtTree → Bool
  lacks_level levels body = list_any (λ x. needs_level (meaning look x)) (unlisted (map (λ (e : Edge). e.name) levels) body)

  -- E305, and E316: its names are those of signals, and none is missing
  abbrev pub list_rules : List Edge → StmtTree → List Broken
  list_rules levels body = flat_map (edge_rules (first_edge levels)) levels ++ breaks_if (lacks_level levels body) 316 (first_edge levels)

  abbrev pub level_rules : Event → StmtTree → List Broken
  level_rules event.Star body = []
  level_rules (event.Edges levels) body = list_rules levels body

  -- of two edges the one that names a reset, where the other one doesn't
  abbrev pub reset_edge : List Edge → Option Edge
  reset_edge (c ∷ e ∷ []) = cond (names_reset e) (cond (names_reset c) None (Some e)) (cond (names_reset c) (Some c) None)
  reset_edge edges = None

  -- and the clock's: the other one, or the first
  abbrev pub clock_edge : List Edge → Option Edge
  clock_edge [] = None
  clock_edge (c ∷ e ∷ []) = Some (cond (names_reset c && not (names_reset e)) e c)
  clock_edge (c ∷ rest) = Some c

  abbrev pub clock_of : List Edge → Option ℕ
  clock_of edges = option_and_then edge_signal (clock_edge edges)

  -- the clock's edge rises; where no edge is known to be a reset's, E317 comes
  abbrev pub is_clock_falling : List Edge → Bool
  is_clock_falling edges = is_some (reset_edge edges) && option_map_or (λ (c : Edge). not (is_rising c.kind)) (clock_edge edges) false

  -- E316: the event has its form, and its edges have one bit
  abbrev pub event_rules : List Edge → List Broken
  event_rules edges = flat_map (edge_rules (first_edge edges)) edges
      ++ breaks_if (not (has_form edges) || list_any is_wide edges) 316 (first_edge edges)

  -- a process whose event has no form is no clocked one
  abbrev pub edge_kind : List Edge → Kind
  edge_kind edges = cond (has_form edges) clocked neither

  abbrev pub form_of : List Edge → StmtTree → Option ResetForm
  form_of edges body = cond (has_form edges) (reset_form look body) None

  abbrev pub clocked_rules : List Edge → StmtTree → List Broken
  clocked_rules edges body = event_rules edges ++ (done look (edge_kind edges) body).broken ++ delay_rules body

  -- E317: of two edges one alone is a reset's. E316: the other one is the clock's, which rises
  abbrev pub pair_rules : List Edge → List Broken
  pair_rules edges = breaks_if (are_two edges && is_none (reset_edge edges)) 317 (first_edge edges) ++ breaks_if (is_clock_falling edges) 316 (first_edge edges)

  -- the rules of resets, which are tried behind all items
  abbrev pub taking_rules : List Edge → StmtTree → List Broken
  taking_rules edges body = pair_rules edges ++ reset_rules look (first_edge edges) (reset_edge edges) (form_of edges body)

  -- what reset form leaves, else the whole
  abbrev pub body_without : StmtTree → Option ResetForm → Stmt
  body_without body None = (done look clocked body).stmt
  body_without body (Some f) = f.rest

  abbrev pub reset_gives : Option ResetForm → List Given
  reset_gives None = []
  reset_gives (Some f) = unwrap_or f.given []

  -- the first branch
  abbrev pub reset_branch : Option ResetForm → Stmt
  reset_branch None = Null
  reset_branch (Some f) = (done look clocked f.branch).stmt

  -- what is left of a body, and what its first branch keeps
  abbrev pub body_with : StmtTree → Option ResetForm → Stmt
  body_with body form = with_kept (width_at look.entries) (body_without body form) (reset_branch form)

  abbrev pub clocked_body : List Edge → StmtTree → Stmt
  clocked_body edges body = body_with body (form_of edges body)

  -- what drivers need to know of the reset: the signal of its edge, and the first branch
  abbrev pub reset_signal : List Edge → Option ℕ
  reset_signal edges = option_and_then edge_signal (reset_edge edges)

  abbrev pub reset_of : List Edge → StmtTree → Option ℕ × Stmt
  reset_of edges body = (reset_signal edges, reset_branch (form_of edges body))

-- E313: `@*` assigns by `<=` what it also reads, or assigns by `=`, or assigns with a delay
abbrev pub later_rules : StmtTree → List Broken
later_rules body = wrong_name (first_mixed body)

abbrev pub wires_process : Stage → Place → Event → StmtTree → Outcome Stage
wires_process s p e body = let look = look_of s in let b = done look of_wires body in
    judged by_number p (level_rules look e body ++ b.broken ++ later_rules body ++ latch_rule look.entries b.stmt) (with_design s (record s.design { combs = s.design.combs ++ (b.stmt ∷ []) }))

abbrev pub clocked_process : Stage → Place → List Edge → StmtTree → Outcome Stage
clocked_process s p edges body = let look = look_of s in
    judged by_number p (clocked_rules look edges body) (with_design s (record s.design {
      clocked = s.design.clocked ++ ((unwrap_or (clock_of look edges) 0, clocked_body look edges body) ∷ []);
      resets = s.design.resets ++ (reset_of look edges body ∷ []);
      givens = s.design.givens ++ reset_gives look (form_of look edges body);
      late = then_ s.design.late (λ u. judged by_number p (taking_rules look edges body) (tt {0}));
    }))

abbrev pub always_item : Stage → Place → Event → StmtTree → Outcome Stage
always_item s p e body = cond (is_of_wires e) (wires_process s p e body) (clocked_process s p (edges_of e) body)
