-- Designs that are well sized as they grow, and what the items of a module make of them.
use Rattle.std.proofs.Common.{◌≡◌, ℕ, zero, suc, ◌+◌, ◌<◌, ◌≤◌, Bool, true, false, cond, not, ◌&&◌, ◌||◌, ◌==◌, List, [], ◌∷◌, ◌++◌, length, map, Option, Some, None, refl, sym, ap, ap₂, subst, ◌∙◌, arith, rules, eqb-true}
use Rattle.std.specs.Prelude.{slice_get, All, is_none, flat_map, unwrap_or}
use Rattle.std.specs.Option.{option_map_or}
use Rattle.std.specs.List.{list_any}
use Rattle.std.proofs.lemmas.Bool.{and_parts}
use Rattle.std.proofs.lemmas.List.Elements.{All-head, All-tail, All-push}
use Rattle.cdc_base.specs.declared.fault.Place.{Place}
use Rattle.verilog_ast.specs.declared.DeclKind.{DeclKind}
use Rattle.verilog_ast.specs.declared.DeclKind.TheVariants as k
use Rattle.verilog_ast.specs.declared.Edge.{Edge}
use Rattle.verilog_ast.specs.declared.Event.{Event}
use Rattle.verilog_ast.specs.declared.GateKind.{GateKind}
use Rattle.verilog_ast.specs.declared.GateKind.TheVariants as g
use Rattle.verilog_reading.specs.ExprTree.{ExprTree, TargetTree, whole}
use Rattle.verilog_reading.specs.StmtTree.{StmtTree, null, set, when, either, Subject, switch, switch_else, block, StmtTrees, no_rows, and_rows, ArmTrees, no_arms, and_arms}
use Rattle.flat_meaning.specs.Flat.{Expr, Gate, Unary, complement, size, largest, Target, Whole, Part, Pick, Group, Targets, no_targets, target, Stmt, Null, Set, If, Case, Block, Stmts, no_stmts, stmt, assigns}
use Rattle.flat_meaning.specs.Fits.{is_gate}
use Rattle.flat_meaning.specs.Law.{AreWords}
use Rattle.flat_unfolding.specs.Outcome.{Text, Broken, good, Order, by_number, judged}
use Rattle.flat_unfolding.specs.Names.{width_of, Meaning, a_param, a_signal, a_memory, no_value, meaning, Entry, width_at}
use Rattle.flat_unfolding.specs.Expressions.{Term, is_sound, joined, read}
use Rattle.flat_unfolding.specs.Targets.{is_input, of_wires, takes, first_pick, wire_aim, driven}
use Rattle.flat_unfolding.specs.Statements.{of_wires as wires, clocked, neither, Done, masks_broken, ways_broken, chained, nothing_done, mask_of, done, done_all, ways}
use Rattle.flat_unfolding.specs.Reads.{is_latch, latch_rule}
use Rattle.flat_unfolding.specs.Resets.{peeled, peeled_rows, Tested, tested, item_tested, ResetForm, other_branch, left, form_with, items_form, form_in, reset_form}
use Rattle.flat_unfolding.specs.Processes.{delay_rules, later_rules, level_rules, is_of_wires, edges_of, has_form, first_edge, meant_edge, edge_rules, meant_signal, edge_signal, is_wide, names_reset, clock_of, event_rules, edge_kind, form_of, as_one, kept, all_kept, branch_kept, rows_kept, with_kept, body_with, wires_process, clocked_process, always_item}
use Rattle.flat_unfolding.specs.Starts.{Starts, with_starts, start_of}
use Rattle.flat_unfolding.specs.Wires.{assign_item, has_terminals, gate_op, is_inverted, gate_value, output_rule, input_rules, count_rule, gate_item}
use Rattle.flat_unfolding.specs.Design.{Design, Stage, look_of, with_design, assigned}
use Rattle.flat_unfolding.specs.Unfolding.{value_item}
use Rattle.flat_unfolding.specs.Formed.{IsFormed, IsFormedIf, IsTargetFormed, IsStmtFormed, AreRowsFormed, AreArmsFormed}
use Rattle.flat_unfolding.specs.Sized.{IsSized, AreSized, IsTargetSized, AreTargetsSized, IsStmtSized, AreStmtsSized}
use Rattle.flat_unfolding.proofs.Steps.{good_is, judged_is, not_broken, none_of_both, some_is}
use Rattle.flat_unfolding.proofs.Known.{reg_at, top_at, StandsIf, AreNamed, stands}
use Rattle.flat_unfolding.proofs.Terms.{sound_is, not_one, sized}
use Rattle.flat_unfolding.proofs.Aims.{not_true, wire_sized, driven_sized}
use Rattle.flat_unfolding.proofs.Stmts.{done_sized}
use Rattle.flat_unfolding.proofs.Alike.{no_latch_on, no_latches}
use Rattle.flat_unfolding.proofs.Grown.{expr_agrees, target_agrees, stmt_agrees, Grows, grows_itself, all_on}

-- ---- what the first branch of reset form keeps

module _ (wid : ℕ → ℕ) (may : ℕ → Bool) where
  as_one_sized : (ss : Stmts) → AreStmtsSized wid may ss → IsStmtSized wid may (as_one ss)
  as_one_sized no_stmts h = h
  as_one_sized (stmt s no_stmts) h = h.0
  as_one_sized (stmt s (stmt x ss)) h = h

  module _ (body : Stmt) where
    unless_sized : (b : Bool) (x : Stmt) (rest : Stmts) → IsStmtSized wid may x → AreStmtsSized wid may rest → AreStmtsSized wid may (cond b rest (stmt x rest))
    unless_sized true x rest h k = k
    unless_sized false x rest h k = (h, k)

    mutual
      kept_sized : (t : Target) (rest : Stmts) → IsTargetSized wid may t → AreStmtsSized wid may rest → AreStmtsSized wid may (kept wid body t rest)
      kept_sized (Whole s) rest h k = unless_sized (assigns body s) _ rest (h, (h.1, let l : 0 + wid s ≤ wid s = omega arith in l)) k
      kept_sized (Part s at w) rest h k = unless_sized (assigns body s) _ rest (h, (h.1, h.2)) k
      kept_sized (Pick s e) rest h k = k
      kept_sized (Group ts) rest h k = all_kept_sized ts rest h.2 k

      all_kept_sized : (ts : Targets) (rest : Stmts) → AreTargetsSized wid may ts → AreStmtsSized wid may rest → AreStmtsSized wid may (all_kept wid body ts rest)
      all_kept_sized no_targets rest h k = k
      all_kept_sized (target t ts) rest h k = kept_sized t (all_kept wid body ts rest) h.0 (all_kept_sized ts rest h.1 k)

    mutual
      branch_kept_sized : (x : Stmt) (rest : Stmts) → IsStmtSized wid may x → AreStmtsSized wid may rest → AreStmtsSized wid may (branch_kept wid body x rest)
      branch_kept_sized Null rest h k = k
      branch_kept_sized (Set b t e) rest h k = kept_sized t rest h.0 k
      branch_kept_sized (If c x y) rest h k = k
      branch_kept_sized (Case e is) rest h k = k
      branch_kept_sized (Block ss) rest h k = rows_kept_sized ss rest h k

      rows_kept_sized : (ss : Stmts) (rest : Stmts) → AreStmtsSized wid may ss → AreStmtsSized wid may rest → AreStmtsSized wid may (rows_kept wid body ss rest)
      rows_kept_sized no_stmts rest h k = k
      rows_kept_sized (stmt s ss) rest h k = branch_kept_sized s (rows_kept wid body ss rest) h.0 (rows_kept_sized ss rest h.1 k)

    with_kept_sized : (branch : Stmt) → IsStmtSized wid may body → IsStmtSized wid may branch → IsStmtSized wid may (with_kept wid body branch)
    with_kept_sized branch h k = as_one_sized _ (branch_kept_sized branch (stmt body no_stmts) k (h, tt))

-- ---- what is known of a design

-- an input is no register, and a top input is an input
pub record IsEntry (e : Entry) : Type 0 where
  pub narrow : width_of e.range ≤ 64
  pub input : is_input e.direction ≡ true → e.is_reg ≡ false
  pub top : e.is_top_input ≡ true → is_input e.direction ≡ true

pub words_of : (es : List Entry) → All IsEntry es → AreWords (width_at es)
words_of [] h s = let l : 0 ≤ 64 = omega arith in l
words_of (e ∷ es) h zero = (All-head IsEntry e es h).narrow
words_of (e ∷ es) h (suc s) = words_of es (All-tail IsEntry e es h) s

-- no top input, and no register
abbrev pub drivable_at : List Entry → ℕ → Bool
drivable_at es s = not (top_at es s) && not (reg_at es s)

abbrev pub IsAssignIn : List Entry → Target × Expr → Type 0
IsAssignIn es a = IsTargetSized (width_at es) (drivable_at es) a.0 × (first_pick a.0 ≡ None) × IsSized (width_at es) a.1

-- no latch
abbrev pub IsCombIn : List Entry → Stmt → Type 0
IsCombIn es body = IsStmtSized (width_at es) (reg_at es) body × ((s i : ℕ) → i < width_at es s → is_latch (width_at es) body s i ≡ false)

abbrev pub IsClockedIn : List Entry → ℕ × Stmt → Type 0
IsClockedIn es p = (width_at es p.0 ≡ 1) × IsStmtSized (width_at es) (reg_at es) p.1

pub record IsDesign (d : Design) : Type 0 where
  pub entries : All IsEntry d.entries
  pub assigns : All (IsAssignIn d.entries) d.assigns
  pub combs : All (IsCombIn d.entries) d.combs
  pub clocked : All (IsClockedIn d.entries) d.clocked
  pub outputs : All (λ s. 1 ≤ width_at d.entries s) d.outputs

pub record IsStage (s : Stage) : Type 0 where
  pub names : AreNamed s.design.entries s.names
  pub design : IsDesign s.design

pub record IsNext (s t : Stage) : Type 0 where
  pub stage : IsStage t
  pub grows : Grows s.design.entries t.design.entries

module _ (es fs : List Entry) (g : Grows es fs) where
  agree : (s : ℕ) → 1 ≤ width_at es s → width_at fs s ≡ width_at es s
  agree s h = (g s h).width

  registers : (s : ℕ) → 1 ≤ width_at es s → reg_at es s ≡ true → reg_at fs s ≡ true
  registers s h e = (g s h).reg ∙ e

  drivables : (s : ℕ) → 1 ≤ width_at es s → drivable_at es s ≡ true → drivable_at fs s ≡ true
  drivables s h e = ap₂ (λ a b. not a && not b) (g s h).top (g s h).reg ∙ e

  pub stmt_on : (body : Stmt) → IsStmtSized (width_at es) (reg_at es) body → IsStmtSized (width_at fs) (reg_at fs) body
  stmt_on = stmt_agrees (width_at es) (width_at fs) agree (reg_at es) (reg_at fs) registers

  pub assign_on : (a : Target × Expr) → IsAssignIn es a → IsAssignIn fs a
  assign_on a h = (target_agrees (width_at es) (width_at fs) agree (drivable_at es) (drivable_at fs) drivables a.0 h.0, h.1, expr_agrees (width_at es) (width_at fs) agree a.1 h.2)

  pub comb_on : (body : Stmt) → IsCombIn es body → IsCombIn fs body
  comb_on body h = (stmt_on body h.0, λ s i l. no_latch_on (width_at es) (width_at fs) agree (reg_at es) body h.0 h.1 s i)

  pub clocked_on : (p : ℕ × Stmt) → IsClockedIn es p → IsClockedIn fs p
  clocked_on p h = let e = h.0 in (agree p.0 (let l : 1 ≤ width_at es p.0 = omega arith in l) ∙ h.0, stmt_on p.1 h.1)

  pub output_on : (s : ℕ) → 1 ≤ width_at es s → 1 ≤ width_at fs s
  output_on s h = subst (λ w. 1 ≤ w) (sym (agree s h)) h

-- a design stays well sized over further signals
pub design_on : (d : Design) (fs : List Entry) → Grows d.entries fs → All IsEntry fs → IsDesign d → IsDesign (record d { entries = fs })
design_on d fs g a h = record {
  entries = a;
  assigns = all_on (IsAssignIn d.entries) (IsAssignIn fs) d.assigns (assign_on d.entries fs g) h.assigns;
  combs = all_on (IsCombIn d.entries) (IsCombIn fs) d.combs (comb_on d.entries fs g) h.combs;
  clocked = all_on (IsClockedIn d.entries) (IsClockedIn fs) d.clocked (clocked_on d.entries fs g) h.clocked;
  outputs = all_on (λ s. 1 ≤ width_at d.entries s) (λ s. 1 ≤ width_at fs s) d.outputs (output_on d.entries fs g) h.outputs;
}

pub stays : (s : Stage) → IsStage s → IsNext s s
stays s h = record { stage = h; grows = grows_itself s.design.entries }

pub judged_next : (order : Order) (p : Place) (bs : List Broken) (s a t : Stage) → (bs ≡ [] → IsNext s a) → judged order p bs a ≡ good t → IsNext s t
judged_next order p bs s a t h e = let j = judged_is order p bs a t e in subst (IsNext s) j.1 (h j.0)

-- ---- items

allows_wires : (es : List Entry) → All IsEntry es → (s : ℕ) → option_map_or (takes of_wires) (slice_get es s) false ≡ true → drivable_at es s ≡ true
allows_wires [] h s e = absurd (search (rules, e))
allows_wires (x ∷ es) h zero e = go x.is_top_input refl
  where
    go : (b : Bool) → x.is_top_input ≡ b → (not b && not x.is_reg) ≡ true
    go false k = (and_parts (not x.is_reg) (not (is_input x.direction)) e).0
    go true k =
        let i = (All-head IsEntry x es h).top k in let p = and_parts (not x.is_reg) (not (is_input x.direction)) e in
        let q = p.1 in absurd (search (rules, q, i))
allows_wires (x ∷ es) h (suc s) e = allows_wires es (All-tail IsEntry x es h) s e

module _ (s : Stage) (h : IsStage s) where
  abbrev es : List Entry
  es = s.design.entries

  pub words : AreWords (width_at es)
  words = words_of es h.design.entries

  pub known : (x : Text) → StandsIf es (meaning (look_of s) x)
  known x = stands es s.names x h.names

  -- a further assignment
  pub with_assign : (t : Target) (e : Expr) → IsAssignIn es (t, e) → IsDesign (assigned s.design t e)
  with_assign t e a = record {
    entries = h.design.entries;
    assigns = All-push (IsAssignIn es) s.design.assigns (t, e) h.design.assigns a;
    combs = h.design.combs;
    clocked = h.design.clocked;
    outputs = h.design.outputs;
  }

  next_assign : (t : Target) (e : Expr) → IsAssignIn es (t, e) → IsNext s (with_design s (assigned s.design t e))
  next_assign t e a = record { stage = record { names = h.names; design = with_assign t e a }; grows = grows_itself es }

  pub wire_next : (t : TargetTree) → IsTargetFormed t → (wire_aim (look_of s) t).broken ≡ [] → IsTargetSized (width_at es) (drivable_at es) (wire_aim (look_of s) t).target × (first_pick (wire_aim (look_of s) t).target ≡ None)
  wire_next = wire_sized (look_of s) words known (drivable_at es) (allows_wires es h.design.entries)

  pub driven_next : (e : ExprTree) → IsFormed e → (driven (look_of s) e).broken ≡ [] → IsTargetSized (width_at es) (drivable_at es) (driven (look_of s) e).target × (first_pick (driven (look_of s) e).target ≡ None)
  driven_next = driven_sized (look_of s) words known (drivable_at es) (allows_wires es h.design.entries)

  pub read_next : (e : ExprTree) → IsFormed e → (read (look_of s) e).broken ≡ [] → IsSized (width_at es) (read (look_of s) e).expr
  read_next = sized (look_of s) words known

  pub assign_next : (p : Place) (x : TargetTree) (e : ExprTree) (t : Stage) → IsTargetFormed x → IsFormed e → assign_item s p x e ≡ good t → IsNext s t
  assign_next p x e t f g = judged_next by_number p ((wire_aim (look_of s) x).broken ++ (read (look_of s) e).broken) s _ t (λ b.
      let q = none_of_both (wire_aim (look_of s) x).broken (read (look_of s) e).broken b in
      let a = wire_next x f q.0 in
      next_assign (wire_aim (look_of s) x).target (read (look_of s) e).expr (a.0, a.1, read_next e g q.1))

  -- ---- gates

  gate_is : (kind : GateKind) → is_gate (gate_op kind) ≡ true
  gate_is g.And = refl
  gate_is g.Nand = refl
  gate_is g.Or = refl
  gate_is g.Nor = refl
  gate_is kind = refl

  inputs_sized : (kind : GateKind) (rest : List ExprTree) → All IsFormed rest → flat_map (input_rules kind) (map (read (look_of s)) rest) ≡ [] → AreSized (width_at es) (joined (map (read (look_of s)) rest))
  inputs_sized kind [] f e = tt
  inputs_sized kind (a ∷ rest) f e =
      let v = read (look_of s) a in
      let p = none_of_both (input_rules kind v) (flat_map (input_rules kind) (map (read (look_of s)) rest)) e in
      let q = none_of_both v.broken _ p.0 in
      (read_next a (All-head IsFormed a rest f) q.0, inputs_sized kind rest (All-tail IsFormed a rest f) p.1)

  one_bit : (kind : GateKind) (v : Term) → input_rules kind v ≡ [] → size v.expr ≡ 1
  one_bit kind v e =
      let p = none_of_both v.broken _ e in
      let n = not_broken (is_sound v && not (size v.expr == 1)) 306 _ p.1 in
      eqb-true (size v.expr) 1 (not_true (size v.expr == 1) (not_one (is_sound v) (not (size v.expr == 1)) n (sound_is v p.0)))

  all_one : (kind : GateKind) (vs : List Term) → flat_map (input_rules kind) vs ≡ [] → largest (joined vs) ≤ 1
  all_one kind [] e = let l : 0 ≤ 1 = omega arith in l
  all_one kind (v ∷ vs) e =
      let p = none_of_both (input_rules kind v) (flat_map (input_rules kind) vs) e in
      let a = one_bit kind v p.0 in let b = all_one kind vs p.1 in omega arith

  some_one : (kind : GateKind) (v : Term) (vs : List Term) → flat_map (input_rules kind) (v ∷ vs) ≡ [] → largest (joined (v ∷ vs)) ≡ 1
  some_one kind v vs e =
      let p = none_of_both (input_rules kind v) (flat_map (input_rules kind) vs) e in
      let a = one_bit kind v p.0 in let b = all_one kind vs p.1 in omega arith

  value_sized : (kind : GateKind) (vs : List Term) → largest (joined vs) ≡ 1 → AreSized (width_at es) (joined vs) → IsSized (width_at es) (gate_value kind vs)
  value_sized kind vs l a = go (is_inverted kind)
    where
      go : (b : Bool) → IsSized (width_at es) (cond b (Unary complement (Gate (gate_op kind) (joined vs))) (Gate (gate_op kind) (joined vs)))
      go true = (gate_is kind, l, a)
      go false = (gate_is kind, l, a)

  one_terminal : (kind : GateKind) → has_terminals kind 1 ≡ false
  one_terminal g.Buf = refl
  one_terminal g.Not = refl
  one_terminal kind = refl

  pub gate_next : (p : Place) (kind : GateKind) (terminals : List ExprTree) (t : Stage) → All IsFormed terminals → gate_item s p kind terminals ≡ good t → IsNext s t
  gate_next p kind [] t f = judged_next by_number p _ s s t (λ b. stays s h)
  gate_next p kind (x ∷ rest) t f =
      let a = driven (look_of s) x in
      judged_next by_number p _ s _ t (λ b.
      let q = none_of_both (count_rule kind (length (x ∷ rest)) ++ a.broken ++ output_rule kind a.bits) (flat_map (input_rules kind) (map (read (look_of s)) rest)) b in
      let r = none_of_both (count_rule kind (length (x ∷ rest)) ++ a.broken) (output_rule kind a.bits) q.0 in
      let u = none_of_both (count_rule kind (length (x ∷ rest))) a.broken r.0 in
      let d = driven_next x (All-head IsFormed x rest f) u.1 in
      next_assign a.target (gate_value kind (map (read (look_of s)) rest))
      (d.0, d.1, value_sized kind (map (read (look_of s)) rest) (counted rest u.0 q.1) (inputs_sized kind rest (All-tail IsFormed x rest f) q.1)))
    where
      counted : (rest : List ExprTree) → count_rule kind (length (x ∷ rest)) ≡ [] → flat_map (input_rules kind) (map (read (look_of s)) rest) ≡ [] → largest (joined (map (read (look_of s)) rest)) ≡ 1
      counted [] c e = let n = not_true (has_terminals kind 1) (not_broken (not (has_terminals kind 1)) 306 _ c) in let m = one_terminal kind in absurd (search (rules, m, n))
      counted (a ∷ rest) c e = some_one kind (read (look_of s) a) (map (read (look_of s)) rest) e

  -- ---- processes

  wires_next : (p : Place) (e : Event) (body : StmtTree) (t : Stage) → IsStmtFormed body → wires_process s p e body ≡ good t → IsNext s t
  wires_next p e body t f = judged_next by_number p _ s _ t (λ b.
      let d = done (look_of s) wires body in
      let listed = level_rules (look_of s) e body in
      let m = none_of_both (listed ++ d.broken ++ later_rules body) (latch_rule es d.stmt) b in
      let q = none_of_both listed d.broken (none_of_both (listed ++ d.broken) (later_rules body) m.0).0 in
      record {
        stage = record {
          names = h.names;
          design = record {
            entries = h.design.entries;
            assigns = h.design.assigns;
            combs = All-push (IsCombIn es) s.design.combs d.stmt h.design.combs (done_sized (look_of s) words known wires body f q.1, no_latches es d.stmt m.1);
            clocked = h.design.clocked;
            outputs = h.design.outputs;
          };
        };
        grows = grows_itself es;
      })

  -- a statement that breaks no rule, and is well formed
  abbrev IsFine : StmtTree → Type 0
  IsFine body = IsStmtFormed body × ((done (look_of s) clocked body).broken ≡ [])

  mutual
    peeled_fine : (body : StmtTree) → IsFine body → IsFine (peeled body)
    peeled_fine (block rows) f = rows_fine rows f.0 f.1
    peeled_fine null f = f
    peeled_fine (set b delay t e) f = f
    peeled_fine (when c x) f = f
    peeled_fine (either c x y) f = f
    peeled_fine (switch c rows) f = f
    peeled_fine (switch_else c rows d) f = f

    rows_fine : (rows : StmtTrees) → AreRowsFormed rows → (done_all (look_of s) clocked rows).broken ≡ [] → IsFine (peeled_rows rows)
    rows_fine no_rows f e = (f, e)
    rows_fine (and_rows x no_rows) f e = peeled_fine x (f.0, (none_of_both (done (look_of s) clocked x).broken [] e).0)
    rows_fine (and_rows x (and_rows y rest)) f e = (f, e)

  fine_sized : (body : StmtTree) → IsFine body → IsStmtSized (width_at es) (reg_at es) (done (look_of s) clocked body).stmt
  fine_sized body f = done_sized (look_of s) words known clocked body f.0 f.1

  -- the first branch of reset form, and what is left
  abbrev IsFineForm : ResetForm → Type 0
  IsFineForm r = IsFine r.branch × IsStmtSized (width_at es) (reg_at es) r.rest

  other_sized : (x : Stmt) → IsStmtSized (width_at es) (reg_at es) x → IsStmtSized (width_at es) (reg_at es) (other_branch x)
  other_sized Null h = h
  other_sized (Set b t e) h = h
  other_sized (If c x y) h = h.2
  other_sized (Case e is) h = h
  other_sized (Block ss) h = h

  left_sized : (b : Bool) (x : Stmt) → IsStmtSized (width_at es) (reg_at es) x → IsStmtSized (width_at es) (reg_at es) (left b x)
  left_sized true x h = other_sized x h
  left_sized false x h = h

  form_fine : (o : Option Tested) (x all : StmtTree) → IsFine x → IsFine all → (r : ResetForm) → form_with (look_of s) o x all ≡ Some r → IsFineForm r
  form_fine None x all d f r e = absurd (search (rules, e))
  form_fine (Some q) x all d f r e = subst IsFineForm (some_is _ r e) (d, left_sized q.alone (done (look_of s) clocked all).stmt (fine_sized all f))

  items_fine : (c : Subject) (rows : ArmTrees) (all : StmtTree) → AreArmsFormed rows → (c.masks ≡ true → ways_broken (ways (look_of s) clocked rows) ≡ []) → IsFine all
      → (r : ResetForm) → items_form (look_of s) c rows all ≡ Some r → IsFineForm r
  items_fine c no_arms all f w g r e = absurd (search (rules, e))
  items_fine c (and_arms labels x rest) all f w g r e = go c.masks refl e
    where
      go : (b : Bool) → c.masks ≡ b → cond b (form_with (look_of s) (item_tested (look_of s) c.value (and_arms labels x rest)) x all) None ≡ Some r → IsFineForm r
      go true m i =
          let ms = map (mask_of (look_of s) clocked) labels in let bs = (done (look_of s) clocked x).broken in
          let p = none_of_both (masks_broken ms ++ bs) (ways_broken (ways (look_of s) clocked rest)) (w m) in
          form_fine (item_tested (look_of s) c.value (and_arms labels x rest)) x all (f.1, (none_of_both (masks_broken ms) bs p.0).1) g r i
      go false m i = absurd (search (rules, i))

  -- the chain that a `casez` stands for
  masked : (b : Bool) (x y : Done) → b ≡ true → (cond b x y).broken ≡ [] → x.broken ≡ []
  masked true x y m e = e
  masked false x y m e = absurd (search (rules, m))

  parts_fine : (body : StmtTree) → IsFine body → (r : ResetForm) → form_in (look_of s) body ≡ Some r → IsFineForm r
  parts_fine (when c x) f r e =
      let p = none_of_both (read (look_of s) c).broken (done (look_of s) clocked x).broken f.1 in
      form_fine (tested (look_of s) c) x (when c x) (f.0.1, p.1) f r e
  parts_fine (either c x y) f r e =
      let p = none_of_both ((read (look_of s) c).broken ++ (done (look_of s) clocked x).broken) (done (look_of s) clocked y).broken f.1 in
      let q = none_of_both (read (look_of s) c).broken (done (look_of s) clocked x).broken p.0 in
      form_fine (tested (look_of s) c) x (either c x y) (f.0.1, q.1) f r e
  parts_fine (switch c rows) f r e =
      let k = read (look_of s) c.value in let ws = ways (look_of s) clocked rows in
      items_fine c rows (switch c rows) f.0.1 (λ m.
      let b = masked c.masks (chained k ws nothing_done) _ m f.1 in
      (none_of_both k.broken (ways_broken ws) (none_of_both (k.broken ++ ways_broken ws) [] b).0).1) f r e
  parts_fine (switch_else c rows x) f r e =
      let k = read (look_of s) c.value in let ws = ways (look_of s) clocked rows in let d = done (look_of s) clocked x in
      items_fine c rows (switch_else c rows x) f.0.1 (λ m.
      let b = masked c.masks (chained k ws d) _ m f.1 in
      (none_of_both k.broken (ways_broken ws) (none_of_both (k.broken ++ ways_broken ws) d.broken b).0).1) f r e
  parts_fine null f r e = absurd (search (rules, e))
  parts_fine (set b delay t v) f r e = absurd (search (rules, e))
  parts_fine (block rows) f r e = absurd (search (rules, e))

  body_sized : (body : StmtTree) → IsFine body → (o : Option ResetForm) → ((r : ResetForm) → o ≡ Some r → IsFineForm r)
      → IsStmtSized (width_at es) (reg_at es) (body_with (look_of s) body o)
  body_sized body f None r = with_kept_sized (width_at es) (reg_at es) _ Null (fine_sized body f) tt
  body_sized body f (Some q) r = let i = r q refl in
      with_kept_sized (width_at es) (reg_at es) _ (done (look_of s) clocked q.branch).stmt i.1 (fine_sized q.branch i.0)

  neither_holds : (a b : Bool) → (a || b) ≡ false → (a ≡ false) × (b ≡ false)
  neither_holds false b e = (refl, e)
  neither_holds true b e = absurd (search (rules, e))

  -- an edge that breaks no rule names a signal of one bit
  edge_one : (first : Text) (x : Edge) → edge_rules (look_of s) first x ≡ [] → is_wide (look_of s) x ≡ false
      → width_at es (unwrap_or (edge_signal (look_of s) x) 0) ≡ 1
  edge_one first x = go (meaning (look_of s) x.name) refl
    where
      go : (o : Option Meaning) → meaning (look_of s) x.name ≡ o → meant_edge (look_of s) first x o ≡ []
          → option_map_or (λ n. not (width_at es n == 1)) (meant_signal (look_of s) o) false ≡ false
          → width_at es (unwrap_or (meant_signal (look_of s) o) 0) ≡ 1
      go None m e w = let u = not_broken (is_none (meaning (look_of s) x.name)) 305 x.name e in absurd (search (rules, sym (ap is_none m) ∙ u))
      go (Some (a_signal n)) m e w = eqb-true (width_at es n) 1 (not_true (width_at es n == 1) w)
      go (Some (a_param q)) m e w = absurd (search (rules, e))
      go (Some (a_memory q)) m e w = absurd (search (rules, e))
      go (Some no_value) m e w = absurd (search (rules, e))

  -- so the clock has one bit, whichever edge is its
  edges_one : (first : Text) (edges : List Edge) → has_form edges ≡ true → flat_map (edge_rules (look_of s) first) edges ≡ []
      → list_any (is_wide (look_of s)) edges ≡ false
      → width_at es (unwrap_or (clock_of (look_of s) edges) 0) ≡ 1
  edges_one first [] f e w = absurd (search (rules, f))
  edges_one first (x ∷ []) f e w = edge_one first x (none_of_both _ [] e).0 (neither_holds (is_wide (look_of s) x) false w).0
  edges_one first (x ∷ y ∷ []) f e w =
      let p = none_of_both (edge_rules (look_of s) first x) (edge_rules (look_of s) first y ++ []) e in
      let q = neither_holds (is_wide (look_of s) x) (is_wide (look_of s) y || false) w in
      go (names_reset (look_of s) x && not (names_reset (look_of s) y)) (edge_one first x p.0 q.0)
      (edge_one first y (none_of_both (edge_rules (look_of s) first y) [] p.1).0 (neither_holds (is_wide (look_of s) y) false q.1).0)
    where
      go : (b : Bool) → width_at es (unwrap_or (edge_signal (look_of s) x) 0) ≡ 1 → width_at es (unwrap_or (edge_signal (look_of s) y) 0) ≡ 1
          → width_at es (unwrap_or (edge_signal (look_of s) (cond b y x)) 0) ≡ 1
      go true h k = k
      go false h k = h
  edges_one first (x ∷ y ∷ z ∷ edges) f e w = absurd (search (rules, f))

  clock_one : (edges : List Edge) → event_rules (look_of s) edges ≡ []
      → (has_form edges ≡ true) × (width_at es (unwrap_or (clock_of (look_of s) edges) 0) ≡ 1)
  clock_one edges e =
      let wide = list_any (is_wide (look_of s)) edges in
      let p = none_of_both (flat_map (edge_rules (look_of s) (first_edge edges)) edges) _ e in
      let a = neither_holds (not (has_form edges)) wide (not_broken (not (has_form edges) || wide) 316 _ p.1) in
      let f = not_true (has_form edges) a.0 in
      (f, edges_one (first_edge edges) edges f p.0 a.1)

  clocked_next : (p : Place) (edges : List Edge) (body : StmtTree) (t : Stage) → IsStmtFormed body → clocked_process s p edges body ≡ good t → IsNext s t
  clocked_next p edges body t f = judged_next by_number p _ s _ t (λ b.
      let look = look_of s in
      let q = none_of_both (event_rules look edges ++ (done look (edge_kind look edges) body).broken) (delay_rules body) b in
      let r = none_of_both (event_rules look edges) (done look (edge_kind look edges) body).broken q.0 in
      let c = clock_one edges r.0 in
      let i : (done look clocked body).broken ≡ [] = ap (λ b. (done look (cond b clocked neither) body).broken) (sym c.0) ∙ r.1 in
      let fine : IsFine body = (f, i) in
      record {
        stage = record {
          names = h.names;
          design = record {
            entries = h.design.entries;
            assigns = h.design.assigns;
            combs = h.design.combs;
            clocked = All-push (IsClockedIn es) s.design.clocked _ h.design.clocked (c.1, body_sized body fine (form_of look edges body) (formed_parts edges body fine));
            outputs = h.design.outputs;
          };
        };
        grows = grows_itself es;
      })
    where
      formed_parts : (edges : List Edge) (body : StmtTree) → IsFine body → (r : ResetForm) → form_of (look_of s) edges body ≡ Some r → IsFineForm r
      formed_parts edges body fine r = go (has_form edges)
        where
          go : (b : Bool) → cond b (reset_form (look_of s) body) None ≡ Some r → IsFineForm r
          go true e = parts_fine (peeled body) (peeled_fine body fine) r e
          go false e = absurd (search (rules, e))

  pub always_next : (p : Place) (e : Event) (body : StmtTree) (t : Stage) → IsStmtFormed body → always_item s p e body ≡ good t → IsNext s t
  always_next p event body t f = go (is_of_wires event)
    where
      go : (b : Bool) → cond b (wires_process s p event body) (clocked_process s p (edges_of event) body) ≡ good t → IsNext s t
      go true e = wires_next p event body t f e
      go false e = clocked_next p (edges_of event) body t f e

  -- ---- start values

  pub starts_next : (p : Place) (a : Starts) (t : Stage) → with_starts s p a ≡ good t → IsNext s t
  starts_next p a t = judged_next by_number p a.broken s _ t (λ b. record {
    stage = record {
      names = h.names;
      design = record { entries = h.design.entries; assigns = h.design.assigns; combs = h.design.combs; clocked = h.design.clocked; outputs = h.design.outputs };
    };
    grows = grows_itself es;
  })

  start_next : (p : Place) (x : Text) (m : Option Meaning) (v : Term) (t : Stage) → start_of s p x m v ≡ good t → IsNext s t
  start_next p x (Some (a_signal n)) v t e = starts_next p _ t e
  start_next p x (Some (a_param q)) v t e = judged_next by_number p v.broken s s t (λ b. stays s h) e
  start_next p x (Some (a_memory q)) v t e = judged_next by_number p v.broken s s t (λ b. stays s h) e
  start_next p x (Some no_value) v t e = judged_next by_number p v.broken s s t (λ b. stays s h) e
  start_next p x None v t e = judged_next by_number p v.broken s s t (λ b. stays s h) e

  pub value_next : (p : Place) (x : Text) (o : Option ExprTree) (kind : DeclKind) (t : Stage) → IsFormedIf o → value_item s p x o kind ≡ good t → IsNext s t
  value_next p x None kind t f e = subst (IsNext s) (good_is s t e) (stays s h)
  value_next p x (Some v) k.Wire t f e = assign_next p (whole x) v t tt f e
  value_next p x (Some v) kind t f e = start_next p x (meaning (look_of s) x) (read (look_of s) v) t e
