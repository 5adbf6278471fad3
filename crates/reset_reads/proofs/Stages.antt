-- Designs that spare what is declared a reset, as they grow, and what the items of a module make of them.
use Rattle.std.proofs.Common.{◌≡◌, ℕ, ◌<◌, Bool, true, false, cond, ◌||◌, List, [], ◌∷◌, length, map, Option, Some, None, subst}
use Rattle.std.specs.Prelude.{All}
use Rattle.std.proofs.lemmas.List.Elements.{All-push}
use Rattle.cdc_base.specs.declared.fault.Place.{Place}
use Rattle.cdc_base.specs.declared.signal.ResetPin.{ResetPin}
use Rattle.verilog_ast.specs.declared.DeclKind.{DeclKind}
use Rattle.verilog_ast.specs.declared.DeclKind.TheVariants as k
use Rattle.verilog_ast.specs.declared.Edge.{Edge}
use Rattle.verilog_ast.specs.declared.Event.{Event}
use Rattle.verilog_ast.specs.declared.GateKind.{GateKind}
use Rattle.verilog_reading.specs.ExprTree.{ExprTree, TargetTree, whole}
use Rattle.verilog_reading.specs.StmtTree.{StmtTree}
use Rattle.flat_meaning.specs.Flat.{complement, Expr, Unary, Gate, Target, Stmt, assigns}
use Rattle.flat_unfolding.specs.Outcome.{Text, Broken, good, Order, by_number, judged}
use Rattle.flat_unfolding.specs.Names.{Meaning, a_param, a_signal, a_memory, no_value, meaning, Entry, reset_at}
use Rattle.flat_unfolding.specs.Expressions.{Term, joined, read}
use Rattle.flat_unfolding.specs.Targets.{wire_aim, driven}
use Rattle.flat_unfolding.specs.Statements.{of_wires, done}
use Rattle.flat_unfolding.specs.Processes.{is_of_wires, edges_of, clocked_body, wires_process, clocked_process, always_item}
use Rattle.flat_unfolding.specs.Starts.{Starts, with_starts, start_of}
use Rattle.flat_unfolding.specs.Wires.{assign_item, gate_op, is_inverted, gate_value, gate_item}
use Rattle.flat_unfolding.specs.Design.{Design, Stage, look_of, with_design, assigned}
use Rattle.flat_unfolding.specs.Unfolding.{value_item}
use Rattle.flat_unfolding.proofs.Steps.{good_is, judged_is}
use Rattle.flat_unfolding.proofs.Fit.{true_left, true_right}
use Rattle.reset_reads.proofs.Spares.{Spares, AllSpare, TargetSpares, StmtSpares}
use Rattle.reset_reads.proofs.Terms.{AreHeld, IsHeldIf, held, read_spares}
use Rattle.reset_reads.proofs.Aims.{wire_spares, driven_spares}
use Rattle.reset_reads.proofs.Stmts.{done_spares}
use Rattle.reset_reads.proofs.Processes.{clocked_spares}
use Rattle.reset_reads.proofs.Settled.{unpinned, AreSettled, unpinned_is}

module _ (resets : List ResetPin) (may : ℕ → Bool) where
  -- what is declared and no reset may be read
  abbrev pub Allows : List Entry → Type 0
  Allows es = (s : ℕ) → unpinned resets es s ≡ true → may s ≡ true

  abbrev pub AssignSpares : Target × Expr → Type 0
  AssignSpares a = TargetSpares may a.0 × Spares may a.1

  -- a clocked process may read what it assigns itself
  abbrev pub may_in : Stmt → ℕ → Bool
  may_in body s = may s || assigns body s

  abbrev pub ProcessSpares : ℕ × Stmt → Type 0
  ProcessSpares p = StmtSpares (may_in p.1) p.1

  -- what is read in a design may be read
  pub record AllReadSparely (d : Design) : Type 0 where
    pub assigns : All AssignSpares d.assigns
    pub combs : All (StmtSpares may) d.combs
    pub clocked : All ProcessSpares d.clocked

  -- all signals are settled, and where `may` allows what is no reset, nothing else is read
  pub record IsSpareDesign (d : Design) : Type 0 where
    pub pins : d.pins ≡ resets
    pub settled : AreSettled resets d.entries
    pub spares : Allows d.entries → AllReadSparely d

  pub record IsSpareStage (s : Stage) : Type 0 where
    pub names : AreHeld (length s.design.entries) s.names
    pub design : IsSpareDesign s.design

  judged_next : (order : Order) (p : Place) (bs : List Broken) (a t : Stage) → IsSpareStage a → judged order p bs a ≡ good t → IsSpareStage t
  judged_next order p bs a t h e = subst IsSpareStage (judged_is order p bs a t e).1 h

  -- ---- items

  module _ (s : Stage) (h : IsSpareStage s) where
    abbrev es : List Entry
    es = s.design.entries

    pub free : Allows es → (i : ℕ) → i < length es → reset_at es i ≡ None → may i ≡ true
    free a i l r = a i (unpinned_is resets es i l (h.design.settled i) r)

    known : (x : Text) → IsHeldIf (length es) (meaning (look_of s) x)
    known x = held (length es) s.names x h.names

    pub expr_next : Allows es → (e : ExprTree) → Spares may (read (look_of s) e).expr
    expr_next a = read_spares may (look_of s) (free a) known

    pub driven_next : Allows es → (e : ExprTree) → TargetSpares may (driven (look_of s) e).target
    driven_next a = driven_spares may (look_of s) (free a) known

    -- a further assignment
    pub next_assign : (t : Target) (e : Expr) → (Allows es → AssignSpares (t, e)) → IsSpareStage (with_design s (assigned s.design t e))
    next_assign t e f = record {
      names = h.names;
      design = record {
        pins = h.design.pins;
        settled = h.design.settled;
        spares = λ a. let k = h.design.spares a in record { assigns = All-push AssignSpares s.design.assigns (t, e) k.assigns (f a); combs = k.combs; clocked = k.clocked };
      };
    }

    pub assign_next : (p : Place) (x : TargetTree) (e : ExprTree) (t : Stage) → assign_item s p x e ≡ good t → IsSpareStage t
    assign_next p x e t = judged_next by_number p _ _ t (next_assign (wire_aim (look_of s) x).target (read (look_of s) e).expr (λ a. (wire_spares may (look_of s) (free a) known x, expr_next a e)))

    inputs_spare : Allows es → (rest : List ExprTree) → AllSpare may (joined (map (read (look_of s)) rest))
    inputs_spare a [] = tt
    inputs_spare a (e ∷ rest) = (expr_next a e, inputs_spare a rest)

    value_spares : (kind : GateKind) (vs : List Term) → AllSpare may (joined vs) → Spares may (gate_value kind vs)
    value_spares kind vs k = go (is_inverted kind)
      where
        go : (b : Bool) → Spares may (cond b (Unary complement (Gate (gate_op kind) (joined vs))) (Gate (gate_op kind) (joined vs)))
        go true = k
        go false = k

    pub gate_next : (p : Place) (kind : GateKind) (terminals : List ExprTree) (t : Stage) → gate_item s p kind terminals ≡ good t → IsSpareStage t
    gate_next p kind [] t = judged_next by_number p _ s t h
    gate_next p kind (x ∷ rest) t =
        let vs = map (read (look_of s)) rest in
        judged_next by_number p _ _ t (next_assign (driven (look_of s) x).target (gate_value kind vs) (λ a. (driven_next a x, value_spares kind vs (inputs_spare a rest))))

    -- ---- processes

    wires_next : (p : Place) (e : Event) (body : StmtTree) (t : Stage) → wires_process s p e body ≡ good t → IsSpareStage t
    wires_next p e body t = judged_next by_number p _ _ t record {
      names = h.names;
      design = record {
        pins = h.design.pins;
        settled = h.design.settled;
        spares = λ a. let k = h.design.spares a in record {
          assigns = k.assigns;
          combs = All-push (StmtSpares may) s.design.combs (done (look_of s) of_wires body).stmt k.combs (done_spares may (look_of s) (free a) known of_wires body);
          clocked = k.clocked;
        };
      };
    }

    clocked_next : (p : Place) (edges : List Edge) (body : StmtTree) (t : Stage) → clocked_process s p edges body ≡ good t → IsSpareStage t
    clocked_next p edges body t = judged_next by_number p _ _ t record {
      names = h.names;
      design = record {
        pins = h.design.pins;
        settled = h.design.settled;
        spares = λ a. let k = h.design.spares a in record {
          assigns = k.assigns;
          combs = k.combs;
          clocked = All-push ProcessSpares s.design.clocked _ k.clocked
              (clocked_spares (may_in b) (look_of s) (λ i l r. true_left (may i) (assigns b i) (free a i l r)) known edges body (λ i e. true_right (may i) (assigns b i) e));
        };
      };
    }
      where
        b : Stmt
        b = clocked_body (look_of s) edges body

    pub always_next : (p : Place) (e : Event) (body : StmtTree) (t : Stage) → always_item s p e body ≡ good t → IsSpareStage t
    always_next p event body t = go (is_of_wires event)
      where
        go : (b : Bool) → cond b (wires_process s p event body) (clocked_process s p (edges_of event) body) ≡ good t → IsSpareStage t
        go true e = wires_next p event body t e
        go false e = clocked_next p (edges_of event) body t e

    -- ---- start values

    pub starts_next : (p : Place) (a : Starts) (t : Stage) → with_starts s p a ≡ good t → IsSpareStage t
    starts_next p a t = judged_next by_number p a.broken _ t record {
      names = h.names;
      design = record {
        pins = h.design.pins;
        settled = h.design.settled;
        spares = λ b. let k = h.design.spares b in record { assigns = k.assigns; combs = k.combs; clocked = k.clocked };
      };
    }

    start_next : (p : Place) (x : Text) (m : Option Meaning) (v : Term) (t : Stage) → start_of s p x m v ≡ good t → IsSpareStage t
    start_next p x (Some (a_signal n)) v t e = starts_next p _ t e
    start_next p x (Some (a_param q)) v t e = judged_next by_number p v.broken s t h e
    start_next p x (Some (a_memory q)) v t e = judged_next by_number p v.broken s t h e
    start_next p x (Some no_value) v t e = judged_next by_number p v.broken s t h e
    start_next p x None v t e = judged_next by_number p v.broken s t h e

    pub value_next : (p : Place) (x : Text) (o : Option ExprTree) (kind : DeclKind) (t : Stage) → value_item s p x o kind ≡ good t → IsSpareStage t
    value_next p x None kind t e = subst IsSpareStage (good_is s t e) h
    value_next p x (Some v) k.Wire t e = assign_next p (whole x) v t e
    value_next p x (Some v) kind t e = start_next p x (meaning (look_of s) x) (read (look_of s) v) t e
