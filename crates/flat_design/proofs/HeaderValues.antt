-- The values of the declarations in a header, port by port.
use Rattle.std.proofs.Common.{◌≡◌, true, false, List, [], ◌∷◌, Option, Some, None, refl, sym, ap, subst, ◌∙◌, rules}
use Rattle.std.specs.Prelude.{Result, Ok, Err, filter_map}
use Rattle.cdc_base.specs.declared.fault.Place.{Place}
use Rattle.cdc_base.specs.declared.fault.Stop.{Stop}
use Rattle.cdc_base.specs.declared.fault.Stop.TheVariants.{Refused, Memory}
use Rattle.cdc_base.specs.declared.signal.ResetPin.{ResetPin}
use denote.Enum.Bare.{sameb}
use Rattle.verilog_ast.specs.declared.Port.{Port}
use Rattle.verilog_ast.specs.declared.Decl.{Decl}
use Rattle.verilog_ast.specs.declared.Expr.{Expr}
use Rattle.verilog_ast.specs.declared.DeclKind.{DeclKind}
use Rattle.verilog_ast.specs.declared.DeclKind.TheVariants as kinds
use Rattle.verilog_ast.specs.contracts.DeclKind.{the_type}
use Rattle.verilog_reading.specs.ExprTree.{ExprTree, whole, tree_of}
use Rattle.verilog_reading.specs.SourceTree.{maybe, DeclTree, PortTree, decl_of, port_of}
use Rattle.flat_unfolding.specs.Wires.{assign_item}
use Rattle.flat_unfolding.specs.Starts.{declared_start}
use Rattle.flat_unfolding.specs.Formed.{IsFormed, IsFormedIf, IsDeclFormed, IsPortFormed}
use Rattle.flat_unfolding.specs.Outcome.{Text, Outcome, good, bad, then_, each}
use Rattle.flat_unfolding.specs.Design.{Stage, look_of}
use Rattle.flat_unfolding.specs.Unfolding.{value_item, declared_value}
use Rattle.flat_names.specs.declared.design.Design.{Design}
use Rattle.flat_names.specs.Looks.{IsFit}
use Rattle.flat_names.specs.Designs.{ShowsStage, Meets}
use Rattle.flat_design.specs.Visiting.{Table}
use Rattle.flat_design.proofs.Fits.{still-fit, values-look}

module _ (place : Place) where
  abbrev pub one_value : Stage → DeclTree → Outcome Stage
  one_value t d = declared_value t place d

  abbrev pub values_of : List PortTree → Stage → Outcome Stage
  values_of ps s = each one_value s (filter_map (λ (p : PortTree). p.decl) ps)

  first-then : (p : PortTree) (ps : List PortTree) (s : Stage) → values_of (p ∷ ps) s ≡ then_ (values_of (p ∷ []) s) (values_of ps)
  first-then p ps s = go p.decl
    where
      after : (o : Outcome Stage) → then_ o (values_of ps) ≡ then_ (then_ o (λ (t : Stage). good t)) (values_of ps)
      after (good t) = refl
      after (bad e) = refl

      go : (o : Option DeclTree) → values_of (record { name = p.name; decl = o } ∷ ps) s ≡ then_ (values_of (record { name = p.name; decl = o } ∷ []) s) (values_of ps)
      go None = refl
      go (Some d) = after (one_value s d)

  -- as far as the header was done
  abbrev pub AreDone : List ResetPin → Table → Design → List PortTree → Outcome Stage → Type 0
  AreDone pins table kept ps o = (t : Stage) × (o ≡ values_of ps t) × ShowsStage pins table kept t × IsFit (look_of t)

  module _ (pins : List ResetPin) (table : Table) (old : Design) (o : Outcome Stage) (p : PortTree) (ps left : List PortTree) (next : left ≡ p ∷ ps) (h : AreDone pins table old left o) where
    split : o ≡ then_ (values_of (p ∷ []) h.0) (values_of ps)
    split = h.1 ∙ ap (λ (qs : List PortTree). values_of qs h.0) next ∙ first-then p ps h.0

    pub value-done : (new : Design) → Meets pins table (values_of (p ∷ []) h.0) (Ok tt) new → AreDone pins table new ps o
    value-done new m = (
      m.0,
      split ∙ ap (λ (q : Outcome Stage). then_ q (values_of ps)) m.1,
      m.2,
      still-fit h.0 m.0 (values-look place h.0 (filter_map (λ (q : PortTree). q.decl) (p ∷ [])) m.0 m.1) h.3,
    )

    pub value-refused : (new : Design) (e : Stop) → Meets pins table (values_of (p ∷ []) h.0) (Err e) new → Meets pins table o (Err e) new
    value-refused new (Refused f) m = split ∙ ap (λ (q : Outcome Stage). then_ q (values_of ps)) m
    value-refused new Memory m = tt

  pub values-done : (pins : List ResetPin) (table : Table) (kept : Design) (o : Outcome Stage) (left : List PortTree) → left ≡ [] → AreDone pins table kept left o → Meets pins table o (Ok tt) kept
  values-done pins table kept o left none h = (h.0, h.1 ∙ ap (λ (ps : List PortTree). values_of ps h.0) none, h.2)

-- a declaration's value by its kind
wire-value : (s : Stage) (p : Place) (x : Text) (e : ExprTree) (kind : DeclKind) → sameb the_type kind kinds.Wire ≡ true → value_item s p x (Some e) kind ≡ assign_item s p (whole x) e
wire-value s p x e kinds.Wire h = refl
wire-value s p x e kinds.Reg h = absurd (search (rules, h))
wire-value s p x e kinds.Input h = absurd (search (rules, h))
wire-value s p x e kinds.Output h = absurd (search (rules, h))
wire-value s p x e kinds.OutputReg h = absurd (search (rules, h))

start-value : (s : Stage) (p : Place) (x : Text) (e : ExprTree) (kind : DeclKind) → sameb the_type kind kinds.Wire ≡ false → value_item s p x (Some e) kind ≡ declared_start s p x e
start-value s p x e kinds.Wire h = absurd (search (rules, h))
start-value s p x e kinds.Reg h = refl
start-value s p x e kinds.Input h = refl
start-value s p x e kinds.Output h = refl
start-value s p x e kinds.OutputReg h = refl

module _ (pins : List ResetPin) (table : Table) (s : Stage) (p : Place) (x : Text) (o : Option Expr) (e : Expr) (is : o ≡ Some e) (kind : DeclKind) (r : Result (Unit {0}) Stop) (new : Design) where
  pub wire-meets : sameb the_type kind kinds.Wire ≡ true → Meets pins table (assign_item s p (whole x) (tree_of e)) r new → Meets pins table (value_item s p x (maybe tree_of o) kind) r new
  wire-meets w h = subst (λ (q : Option Expr). Meets pins table (value_item s p x (maybe tree_of q) kind) r new) (sym is)
      (subst (λ (q : Outcome Stage). Meets pins table q r new) (sym (wire-value s p x (tree_of e) kind w)) h)

  pub start-meets : sameb the_type kind kinds.Wire ≡ false → Meets pins table (declared_start s p x (tree_of e)) r new → Meets pins table (value_item s p x (maybe tree_of o) kind) r new
  start-meets w h = subst (λ (q : Option Expr). Meets pins table (value_item s p x (maybe tree_of q) kind) r new) (sym is)
      (subst (λ (q : Outcome Stage). Meets pins table q r new) (sym (start-value s p x (tree_of e) kind w)) h)

  pub value-formed : IsFormedIf (maybe tree_of o) → IsFormed (tree_of e)
  value-formed h = subst (λ (q : Option Expr). IsFormedIf (maybe tree_of q)) is h

-- the value of a port with a declaration
module _ (pins : List ResetPin) (table : Table) (s : Stage) (place : Place) (p : Port) (d : Decl) (is : p.decl ≡ Some d) where
  pub port-meets : (r : Result (Unit {0}) Stop) (new : Design) → Meets pins table (declared_value s place (decl_of d)) r new → Meets pins table (values_of place (port_of p ∷ []) s) r new
  port-meets r new h = subst (λ (o : Option Decl). Meets pins table (values_of place (port_of (record p { decl = o }) ∷ []) s) r new) (sym is)
      (subst (λ (q : Outcome Stage). Meets pins table q r new) (sym (one (declared_value s place (decl_of d)))) h)
    where
      one : (q : Outcome Stage) → then_ q (λ t. good t) ≡ q
      one (good t) = refl
      one (bad f) = refl

  pub port-formed : IsPortFormed (port_of p) → IsFormedIf (decl_of d).init
  port-formed h = let k : IsDeclFormed (decl_of d) = subst (λ (o : Option Decl). IsPortFormed (port_of (record p { decl = o }))) is h in k.2
