-- The unfolding of a source from its top: the flat design, or the first broken rule.
use Rattle.std.specs.Prelude.{◌≡◌, Result, Ok, Err, ℕ, zero, suc, ◌-◌, cond, List, [], ◌∷◌, ◌++◌, length, find, Option, Some, None, bytes_eq, codes}
use Rattle.std.specs.List.{list_any}
use Rattle.cdc_base.specs.declared.fault.Place.{Place}
use Rattle.cdc_base.specs.declared.signal.ResetPin.{ResetPin}
use Rattle.cdc_base.specs.Words.{is_in}
use Rattle.verilog_ast.specs.declared.DeclKind.{DeclKind}
use Rattle.verilog_ast.specs.declared.DeclKind.TheVariants as k
use Rattle.verilog_ast.specs.declared.Source.{Source}
use Rattle.verilog_reading.specs.ExprTree.{ExprTree, whole}
use Rattle.verilog_reading.specs.SourceTree.{DeclTree, ConnsTree, ItemTree, BodyTree, param, decl, assign, gate, instance, always, initial, ModuleTree, source_of}
use Rattle.flat_meaning.specs.Flat.{Stmt}
use Rattle.flat_meaning.specs.Design.{Flat}
use Rattle.flat_form.specs.declared.flat.Flat as f
use Rattle.flat_form.specs.View.{flat_of}
use Rattle.cdc_base.specs.declared.fault.Stop.{Stop}
use Rattle.cdc_base.specs.declared.fault.Stop.TheVariants.{Refused, Memory}
use Rattle.flat_unfolding.specs.Outcome.{Text, Outcome, good, bad, then_, each, refused, refused_if, by_number, judged}
use Rattle.flat_unfolding.specs.Names.{Direction, inward, direction_at, Meaning, a_signal, no_value, is_declared, meaning_in, Entry, pin_of, printed_part}
use Rattle.flat_unfolding.specs.Parameters.{Overrides, parameters}
use Rattle.flat_unfolding.specs.Declarations.{header_of, header_decls, declarations}
use Rattle.flat_unfolding.specs.Wires.{assign_item, gate_item}
use Rattle.flat_unfolding.specs.Processes.{always_item}
use Rattle.flat_unfolding.specs.Starts.{declared_start, initial_item}
use Rattle.flat_unfolding.specs.Instances.{override_rules, overrides_of, connection_rules, links_of, connected, leaning_of, is_short}
use Rattle.flat_unfolding.specs.Drivers.{driven_once}
use Rattle.flat_unfolding.specs.Signals.{from_outside, with_free, with_constants, flat_design}
use Rattle.flat_unfolding.specs.Design.{Design, no_design, Stage, look_of, with_design, change_entry, change_from}

abbrev pub module_named : Text → List ModuleTree → Option ModuleTree
module_named x modules = find (λ (m : ModuleTree). bytes_eq m.name x) modules

-- the value of a declaration: an assignment to a wire, or a register's start value
abbrev pub value_item : Stage → Place → Text → Option ExprTree → DeclKind → Outcome Stage
value_item s p x None kind = good s
value_item s p x (Some e) k.Wire = assign_item s p (whole x) e
value_item s p x (Some e) kind = declared_start s p x e

abbrev pub declared_value : Stage → Place → DeclTree → Outcome Stage
declared_value s p d = value_item s p d.name d.init d.kind

-- the visit of a module: the printed names of the instances from the top to it, each with its dot; the modules that are being visited;
-- the overrides; and what is done to its ports once they are declared. It gives the design and the module's names
abbrev pub Visit : Type 0
Visit = (prefix : Text) → (visiting : List Text) → ModuleTree → Overrides → (Stage → Stage) → Design → Outcome Stage

module _ (modules : List ModuleTree) (visiting : List Text) (prefix : Text) (visit : Visit) where
  -- E302, E303, E304, then the rules of its overrides and connections; then its module is visited, and E306 of what is too short for it
  abbrev pub instance_of : Stage → Place → ModuleTree → ConnsTree → Text → ConnsTree → Outcome Stage
  instance_of s p m params x ports = let look = look_of s in
      then_ (refused_if (is_in visiting m.name) 303 (Some p) m.name) (λ u.
      then_ (refused_if (is_declared s.names x) 304 (Some p) x) (λ u.
      then_ (judged by_number p (override_rules look m params ++ connection_rules look m ports) (tt {0})) (λ u.
      then_ (visit (prefix ++ printed_part x ++ codes ".") (m.name ∷ visiting) m (overrides_of look m params) (connected (links_of look m ports)) s.design) (λ t.
      then_ (refused_if (list_any (is_short t) (leaning_of look m params ports)) 306 (Some p) m.name) (λ u.
      good (record { names = s.names ++ ((x, no_value) ∷ []); design = t.design }))))))

  abbrev pub instance_item : Stage → Place → Option ModuleTree → (child : Text) → ConnsTree → Text → ConnsTree → Outcome Stage
  instance_item s p None child params x ports = refused 302 (Some p) child
  instance_item s p (Some m) child params x ports = instance_of s p m params x ports

  -- any item but a parameter, which was read before
  abbrev pub item_of : Stage → Place → BodyTree → Outcome Stage
  item_of s p (param q) = good s
  item_of s p (decl d) = declared_value s p d
  item_of s p (assign t e) = assign_item s p t e
  item_of s p (gate kind terminals) = gate_item s p kind terminals
  item_of s p (instance child params x ports) = instance_item s p (module_named child modules) child params x ports
  item_of s p (always event body) = always_item s p event body
  item_of s p (initial body) = initial_item s p body

  abbrev pub item : Stage → ItemTree → Outcome Stage
  item s i = item_of s i.place i.body

-- the values of an ANSI header's declarations are its first items
abbrev pub header_values : ModuleTree → Stage → Outcome Stage
header_values m s = each (λ t d. declared_value t m.place d) s (header_decls m)

-- a signal with the printed name of a reset is that reset
abbrev pub declared_reset : List ResetPin → Entry → Entry
declared_reset pins e = record e { reset = pin_of pins e }

-- so are the signals from number n on
abbrev pub with_resets : ℕ → Stage → Stage
with_resets n s = let d = s.design in with_design s (record d { entries = change_from (declared_reset d.pins) n (length d.entries - n) d.entries })

-- parameters, declarations, then all other items. The number bounds the depth: a chain of modules none of which is inside itself is no longer
-- than their list, so that 0 isn't met
abbrev pub visit : List ModuleTree → ℕ → Visit
visit modules zero prefix visiting m overrides ports d = refused 303 (Some m.place) m.name
visit modules (suc n) prefix visiting m overrides ports d =
    then_ (parameters overrides m (record { names = []; design = d })) (λ s.
    then_ (declarations prefix m s) (λ t.
    then_ (header_values m (ports (with_resets (length d.entries) t))) (λ u.
    each (item modules visiting prefix (visit modules n)) u m.items)))

-- the ports of the top: its inputs come from outside; its outputs in the header's order
abbrev pub directed_port : Design → ℕ → Direction → Design
directed_port d s inward = record d { entries = change_entry from_outside s d.entries }
directed_port d s side = record d { outputs = d.outputs ++ (s ∷ []) }

abbrev pub top_port : Design → Option Meaning → Design
top_port d (Some (a_signal s)) = directed_port d s (direction_at d.entries s)
top_port d m = d

abbrev pub top_ports : List Text → Stage → Stage
top_ports [] s = s
top_ports (x ∷ rest) s = top_ports rest (with_design s (top_port s.design (meaning_in s.names x)))

-- E304: the first module that has the name of one before it
abbrev pub module_twice : (before : List Text) → List ModuleTree → Option ModuleTree
module_twice before [] = None
module_twice before (m ∷ rest) = cond (is_in before m.name) (Some m) (module_twice (m.name ∷ before) rest)

abbrev pub modules_differ : List ModuleTree → Outcome (Unit {0})
modules_differ modules = go (module_twice [] modules)
  where
    go : Option ModuleTree → Outcome (Unit {0})
    go None = good tt
    go (Some m) = refused 304 (Some m.place) m.name

abbrev pub checked : Flat → List (Option ℕ × Stmt) → Outcome Flat
checked f resets = then_ (driven_once f resets) (λ u. good f)

-- the rules of resets, then the drivers. `named` are the names that the constraints have beside their resets'
abbrev pub finished : (named : List Text) → Design → Outcome Flat
finished named d = then_ d.late (λ u. checked (flat_design (with_constants (with_free named d))) d.resets)

abbrev pub from_top : List ModuleTree → List ResetPin → (named : List Text) → (top : Text) → Option ModuleTree → Outcome Flat
from_top modules resets named top None = refused 301 None top
from_top modules resets named top (Some m) = then_ (visit modules (length modules) [] (m.name ∷ []) m [] (top_ports (header_of m)) (no_design resets)) (λ s. finished named s.design)

-- modules of one name, then the top, then its visit, then the drivers
abbrev pub unfolded : List ModuleTree → (top : Text) → List ResetPin → (named : List Text) → Outcome Flat
unfolded modules top resets named = then_ (modules_differ modules) (λ u. from_top modules resets named top (module_named top modules))

abbrev pub unfolded_source : Source → (top : Text) → List ResetPin → (named : List Text) → Outcome Flat
unfolded_source source top resets named = unfolded (source_of source) top resets named

-- what flattening may answer: the unfolding, or want of memory
abbrev pub IsUnfolding : Outcome Flat → Result f.Flat Stop → Type 0
IsUnfolding o (Ok f) = o ≡ good (flat_of f)
IsUnfolding o (Err (Refused e)) = o ≡ bad e
IsUnfolding o (Err Memory) = Unit {0}
