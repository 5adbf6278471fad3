-- Processes, side by side with the definition's.
use Rattle.std.specs.Prelude.{◌≡◌, ℕ, Bool, true, false, cond, ◌&&◌, List, [], length, Option, Some, None, is_some, is_none, option_map, Vec}
use Rattle.std.specs.Option.{option_map_or}
use Rattle.std.specs.Global.{Global}
use Rattle.verilog_ast.specs.declared.Edge.{Edge}
use Rattle.verilog_reading.specs.StmtTree.{StmtTree}
use Rattle.flat_meaning.specs.Flat.{Stmt}
use Rattle.flat_form.specs.View.{stmt_of, reset_of}
use Rattle.flat_form.specs.declared.flat.FStmt.{FStmt}
use Rattle.flat_unfolding.specs.Outcome.{Broken}
use Rattle.flat_unfolding.specs.Names as n
use Rattle.flat_unfolding.specs.Widths.{stmt_keeps_sizes}
use Rattle.flat_unfolding.specs.Statements.{clocked, done}
use Rattle.flat_unfolding.specs.Resets as q
use Rattle.flat_unfolding.specs.Processes.{are_two, reset_edge, reset_branch}
use Rattle.flat_unfolding.specs.Design as u
use Rattle.flat_names.specs.declared.design.Late.{Late}
use Rattle.flat_statements.specs.Statements.{IsDone}
use Rattle.flat_process.specs.declared.reset.Given.{Given}
use Rattle.flat_process.specs.declared.always.Clocked.{Clocked}
use Rattle.flat_process.specs.declared.always.ResetForm.{ResetForm}
use Rattle.flat_process.specs.Resets.{AreGiven, AreGivenIf}

-- whether there are two edges of which not exactly one names a reset
abbrev pub lacks_reset : n.Look → List Edge → Bool
lacks_reset l edges = are_two edges && is_none (reset_edge l edges)

-- a body, where none of these rules is broken
pub record IsBody (x : Stmt) (bs : List Broken) (r : FStmt) : Type 0 where
  pub stmt : bs ≡ [] → stmt_of r ≡ x
  pub sizes : bs ≡ [] → stmt_keeps_sizes r ≡ true

-- what the reset of a process tells of its drivers, where its event has its form and its reset's edge this signal
abbrev pub reset_with : n.Look → Option ℕ → StmtTree → Option ℕ × Stmt
reset_with l edge body = (edge, reset_branch l (q.reset_form l body))

-- a clocked process in a design of so many signals: its clock, its body and what its reset tells where none of these rules is broken, and what its reset gives
pub record IsClocked (n c : ℕ) (x : Stmt) (r : Option ℕ × Stmt) (us : List u.Given) (bs : List Broken) (p : Clocked) : Type 0 where
  pub clock : p.clock ≡ c
  pub body : IsBody x bs p.body
  pub reset : bs ≡ [] → reset_of p.reset ≡ r
  pub given : AreGiven n us p.given.items

-- whether a process is kept whose resets break a rule
abbrev pub has_rule : Option Late → Bool
has_rule o = option_map_or (λ (k : Late). is_some k.faults.found) o false

-- a process in reset form, whose body breaks these rules
pub record IsForm (l : n.Look) (bs : List Broken) (f : q.ResetForm) (r : ResetForm) : Type 0 where
  pub signals : r.signals.items ≡ f.signals
  pub other : r.reads_other ≡ q.reads_other l f.signals f.reads
  pub branch : IsDone (done l clocked f.branch) r.branch
  pub given : AreGivenIf (length l.entries) f.given (option_map (λ (v : Vec Given Global). v.items) r.given)
  pub rest : IsBody f.rest bs r.rest

abbrev pub IsFormIf : n.Look → List Broken → Option q.ResetForm → Option ResetForm → Type 0
IsFormIf l bs None None = Unit {0}
IsFormIf l bs (Some f) (Some r) = IsForm l bs f r
IsFormIf l bs f r = ⊥
