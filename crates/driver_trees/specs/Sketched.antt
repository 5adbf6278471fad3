-- The drivers of a design that are drafted so far.
use Rattle.std.specs.Prelude.{◌≡◌, ◌≢◌, ℕ, zero, suc, ◌<◌, Bool, true, false, cond, ◌==◌, List, [], ◌∷◌, ◌++◌, All, Option, Some, None, option_map}
use Rattle.std.specs.Option.{option_map_or}
use Rattle.std.specs.Ordering.{nat_cmp}
use Rattle.std.specs.BTreeMap.{BTreeMap, get}
use Rattle.cdc_base.specs.declared.signal.Signal.{Signal}
use Rattle.cell_graph.specs.declared.cell.CellId.{CellId}
use Rattle.cell_graph.specs.Tree.{Tree, Var, Const, bit_at}
use Rattle.flat_form.specs.declared.flat.FlatAssign.{FlatAssign}
use Rattle.flat_form.specs.View.{target_of, expr_of}
use Rattle.flat_meaning.specs.Flat.{Target, Expr, Stmt, assigns}
use Rattle.flat_meaning.specs.Trees.{Selects, Trees, after}
use Rattle.flat_meaning.specs.Assigned.{may_assign}
use Rattle.flat_meaning.specs.Law.{AreWords}
use Rattle.flat_meaning.specs.Pieces as meaning
use Rattle.flat_meaning.specs.Pieces.{whole_piece}
use Rattle.flat_meaning.specs.Design.{kind_in, kind_is_variable}
use Rattle.flat_meaning.specs.SignalTrees.{sharing, giver, joined_runs, clock_tree_in}
use Rattle.driver_trees.specs.declared.draft.Draft.{Draft}
use Rattle.driver_trees.specs.declared.present.Present.{Present}
use Rattle.driver_trees.specs.declared.shared.Giver.{Giver}
use Rattle.driver_trees.specs.declared.sketch.Next.{Next}
use Rattle.driver_trees.specs.declared.sketch.Piece.{Piece}
use Rattle.driver_trees.specs.declared.sketch.Register.{Register}
use Rattle.driver_trees.specs.declared.target.Put.{Put}
use Rattle.driver_trees.specs.Drafts.{tree_in, IsDraftOf}
use Rattle.driver_trees.specs.Presents.{width_in, present_of, IsRead}
use Rattle.driver_trees.specs.Changes.{IsWordOf}
use Rattle.driver_trees.specs.Shares.{Place, all, bits, chosen, Share, IsPlaced}
use Rattle.driver_trees.specs.Sketches.{pieces_in, IsPieceIn}

-- between processes no signal has a present tree
pub record IsIdle (wid : ℕ → ℕ) (p : Present) : Type 0 where
  pub words : AreWords wid
  pub widths : (s : ℕ) → width_in p s ≡ wid s
  pub none : (s : ℕ) → present_of p s ≡ None

-- the pieces of each signal, by what selects stand for
abbrev pub Driven : Type 0
Driven = Selects → ℕ → List meaning.Piece

pub record ArePieces (ds : List Draft) (ps : List Piece) (driven : Driven) : Type 0 where
  pub stand : All (IsPieceIn ds) ps
  pub pieces : (sel : Selects) (x : ℕ) → pieces_in sel ds ps x ≡ driven sel x

-- with what is left, the pieces so far are the whole
pub record ArePiecesWith (ds : List Draft) (ps : List Piece) (left whole : Driven) : Type 0 where
  pub stand : All (IsPieceIn ds) ps
  pub pieces : (sel : Selects) (x : ℕ) → pieces_in sel ds ps x ++ left sel x ≡ whole sel x

-- an assignment of right sizes, in which only bits that are there are read and assigned
pub record IsAssignRead (wid : ℕ → ℕ) (a : FlatAssign) : Type 0 where
  pub target : IsPlaced wid a.target
  pub value : IsRead wid a.value

abbrev pub assign_of : FlatAssign → Target × Expr
assign_of a = (target_of a.target, expr_of a.value)

abbrev pub drafted_piece : Put → (at width : ℕ) → Piece
drafted_piece p at w = record { sig = p.sig; at = at; width = w; tree = p.tree; inside = 0 }

-- what an assigned word drives of a signal
abbrev pub placed_pieces : (ℕ → ℕ) → (x sig : ℕ) → Place → Tree → List meaning.Piece
placed_pieces wid x s all t = cond (x == s) (whole_piece 0 (wid s) t ∷ []) []
placed_pieces wid x s (bits at w) t = cond (x == s) (whole_piece at w t ∷ []) []
placed_pieces wid x s (chosen index m) t = []

abbrev pub share_pieces : (ℕ → ℕ) → (x : ℕ) → List Share → List meaning.Piece
share_pieces wid x [] = []
share_pieces wid x (s ∷ ss) = placed_pieces wid x s.sig s.place s.word ++ share_pieces wid x ss

-- the trees with which a process begins: wires are zero, a register is itself
abbrev pub begin_tree : (blocking : Bool) → (target : ℕ → Bool) → (ℕ → ℕ) → Selects → Trees
begin_tree true target wid sel x = Const (wid x) 0
begin_tree false target wid sel x = cond (target x) (sel x 0 (wid x)) (Var x (wid x))

abbrev pub last_tree : (ℕ → ℕ) → Selects → Stmt → Trees
last_tree wid sel body = after wid (λ ts. sel) body (begin_tree false (assigns body) wid sel)

-- the tree that a process gives the register, by the process's number; behind the last process, what the register's own select stands for
abbrev pub given_in : (ℕ → ℕ) → Selects → List Stmt → ℕ → (number : ℕ) → Tree
given_in wid sel [] x k = sel x 0 (wid x)
given_in wid sel (body ∷ bodies) x zero = last_tree wid sel body x
given_in wid sel (body ∷ bodies) x (suc k) = given_in wid sel bodies x k

-- a register's next value by the processes that assign it; one that none assigns stays
abbrev pub next_by : (ℕ → ℕ) → Selects → List Stmt → ℕ → Tree
next_by wid sel [] x = sel x 0 (wid x)
next_by wid sel (body ∷ []) x = last_tree wid sel body x
next_by wid sel (body ∷ other ∷ bodies) x = let all = body ∷ other ∷ bodies in joined_runs (wid x) (given_in wid sel all x) (giver wid all x)

abbrev pub next_in : (ℕ → ℕ) → List (ℕ × Stmt) → Selects → Trees
next_in wid ps sel x = next_by wid sel (sharing ps x) x

abbrev pub clock_in : List (ℕ × Stmt) → Selects → Trees
clock_in ps sel x = clock_tree_in sel ps x

-- the next value and the clock of a register
pub record IsNext (wid : ℕ → ℕ) (ds : List Draft) (e : CellId × CellId) (x : ℕ) (ts cs : Selects → Trees) : Type 0 where
  pub next : IsWordOf wid ds e.0 x ts
  pub clock : IsDraftOf ds e.1 1
  pub clock_tree : (sel : Selects) → tree_in sel ds e.1 ≡ cs sel x

-- what a process gives a register: its last tree, and the bits that it may assign
pub record IsGiver (wid : ℕ → ℕ) (ds : List Draft) (x : ℕ) (g : Giver) (body : Stmt) : Type 0 where
  pub word : IsWordOf wid ds g.tree x (λ sel. last_tree wid sel body)
  pub bits : (i : ℕ) → i < 64 → bit_at g.bits i ≡ may_assign wid body x i

-- these givers are those processes, one by one
abbrev pub AreGivers : (ℕ → ℕ) → List Draft → ℕ → List Giver → List Stmt → Type 0
AreGivers wid ds x [] [] = Unit {0}
AreGivers wid ds x [] (body ∷ bodies) = ⊥
AreGivers wid ds x (g ∷ gs) [] = ⊥
AreGivers wid ds x (g ∷ gs) (body ∷ bodies) = IsGiver wid ds x g body × AreGivers wid ds x gs bodies

-- those that give a register bits; none where it isn't in the map
abbrev pub givers_in : BTreeMap ℕ Next → ℕ → List Giver
givers_in nexts x = option_map_or (λ (n : Next). n.givers.items) (get nat_cmp nexts x) []

abbrev pub clock_at : BTreeMap ℕ Next → ℕ → Option CellId
clock_at nexts x = option_map (λ (n : Next). n.clock) (get nat_cmp nexts x)

-- a register's clock, which is known exactly where a process assigns it
abbrev pub IsClockOf : List Draft → ℕ → Option CellId → List (ℕ × Stmt) → Type 0
IsClockOf ds x None ps = sharing ps x ≡ []
IsClockOf ds x (Some id) ps = IsDraftOf ds id 1 × ((sel : Selects) → tree_in sel ds id ≡ clock_in ps sel x) × (sharing ps x ≢ [])

-- what those processes give each register, and the register's clock
pub record AreNexts (wid : ℕ → ℕ) (ds : List Draft) (nexts : BTreeMap ℕ Next) (ps : List (ℕ × Stmt)) : Type 0 where
  pub shares : (x : ℕ) → AreGivers wid ds x (givers_in nexts x) (sharing ps x)
  pub clocks : (x : ℕ) → IsClockOf ds x (clock_at nexts x) ps

-- what a process gives a register that has that last tree in it; nothing where it has none
abbrev pub given_by : Option CellId → (mask : ℕ) → List Giver
given_by None mask = []
given_by (Some id) mask = record { tree = id; bits = mask } ∷ []

-- a register of the design with its next value and clock
pub record IsRegisterOf (wid : ℕ → ℕ) (signals : List Signal) (ds : List Draft) (r : Register) (ts cs : Selects → Trees) : Type 0 where
  pub is_variable : kind_is_variable (kind_in signals r.sig) ≡ true
  pub given : IsNext wid ds (r.next, r.clock) r.sig ts cs
