-- What visits keep: the limits of signals.
use Rattle.std.proofs.Common.{◌≡◌, ℕ, zero, suc, ◌-◌, ◌≤◌, false, not, ◌&&◌, List, [], ◌∷◌, ◌++◌, length, map, Option, Some, None, refl, sym, ap, subst, ◌∙◌, rules, Bool, true, cond}
use Rattle.std.specs.Prelude.{codes}
use Rattle.std.specs.List.{list_any}
use Rattle.cdc_base.specs.declared.fault.Place.{Place}
use Rattle.cdc_base.specs.declared.signal.ResetPin.{ResetPin}
use Rattle.cdc_base.specs.Words.{is_in}
use Rattle.verilog_ast.specs.declared.DeclKind.{DeclKind}
use Rattle.verilog_ast.specs.declared.DeclKind.TheVariants as k
use Rattle.verilog_ast.specs.declared.GateKind.{GateKind}
use Rattle.verilog_ast.specs.declared.Event.{Event}
use Rattle.verilog_reading.specs.ExprTree.{ExprTree, TargetTree, whole}
use Rattle.verilog_reading.specs.StmtTree.{StmtTree}
use Rattle.verilog_reading.specs.SourceTree.{ParamTree, DeclTree, ConnsTree, BodyTree, param, decl, assign, gate, instance, always, initial, ModuleTree}
use Rattle.flat_meaning.specs.Flat.{Expr, Target}
use Rattle.flat_meaning.specs.Law.{AreWords}
use Rattle.flat_meaning.specs.Design.{Flat, width_in, size_in}
use Rattle.flat_meaning.specs.Flat.{Stmt}
use Rattle.flat_unfolding.specs.Outcome.{Text, Broken, good, each, refused_if, Order, by_number, judged}
use Rattle.flat_unfolding.specs.Names.{Range, width_of, meaning, Meaning, a_signal, Names, is_declared, meaning_in, Direction, inward, Entry, width_at, direction_at, printed_part}
use Rattle.flat_unfolding.specs.Expressions.{Term, read}
use Rattle.flat_unfolding.specs.Memories.{word_names}
use Rattle.flat_unfolding.specs.Design.{Design, no_design, Stage, look_of, with_design}
use Rattle.flat_unfolding.specs.Starts.{start_of}
use Rattle.flat_unfolding.specs.Wires.{assign_item, gate_item}
use Rattle.flat_unfolding.specs.Processes.{is_of_wires, edges_of, wires_process, clocked_process, always_item}
use Rattle.flat_unfolding.specs.Parameters.{range_read, Overrides, parameter_order, parameter, params_of, parameters}
use Rattle.flat_unfolding.specs.Declarations.{is_plain_port, declaration_order, Site, again, range_rule, array_read, declaration_rules, entry, declared_again, add_declared, declaration, header_of, header_decls, sites, header_twice, has_direction, directed, declarations}
use Rattle.flat_unfolding.specs.Instances.{override_rules, overrides_of, Link, into, out_of, connection_rules, links_of, resolving_to, into_port, out_of_port, connect_one, connect_all, connected, leaning_of, is_short}
use Rattle.flat_unfolding.specs.Drivers.{driven_once}
use Rattle.flat_unfolding.specs.Signals.{from_outside, with_constants, with_free, signals_from, flat_design}
use Rattle.flat_unfolding.specs.Unfolding.{module_named, value_item, declared_value, Visit, instance_of, instance_item, item_of, item, header_values, declared_reset, with_resets, visit, directed_port, top_port, top_ports, modules_differ, checked, finished, from_top}
use Rattle.flat_unfolding.specs.Laws.{OneDriverLaw, LimitsLaw, NumbersLaw}
use Rattle.flat_unfolding.proofs.Steps.{good_is, good_then, judged_is, none_of_both, each_keeps}
use Rattle.flat_unfolding.proofs.Entries.{Fine, change_keeps, none_are_fine, from_keeps, range_narrow, narrow_entries, Sound, sound_itself, change_sound, added_sound}
use Rattle.flat_unfolding.proofs.OneDriver.{one_driver}
use Rattle.flat_unfolding.proofs.Free.{free_keeps, free_width}

-- the flat design that comes of a design
abbrev pub flattened : List Text → Design → Flat
flattened named d = flat_design (with_constants (with_free named d))

-- where it is accepted its drivers were tried
pub accepted : (named : List Text) (d : Design) (f : Flat) → finished named d ≡ good f → (u : Unit {0}) × (driven_once (flattened named d) d.resets ≡ good u) × (flattened named d ≡ f)
accepted named d f e =
    let c = flattened named d in
    let l = good_then d.late (λ u. checked c d.resets) f e in
    let g = good_then (driven_once c d.resets) (λ u. good c) f l.2 in
    (g.0, g.1, good_is c f g.2)

tried : (named : List Text) (d : Design) (f : Flat) → finished named d ≡ good f → (u : Unit {0}) × (driven_once f d.resets ≡ good u)
tried named d f e = let a = accepted named d f e in (a.0, subst (λ x. driven_once x d.resets ≡ good a.0) a.2 a.1)

from_top_tried : (modules : List ModuleTree) (resets : List ResetPin) (named : List Text) (top : Text) (o : Option ModuleTree) (f : Flat)
    → from_top modules resets named top o ≡ good f
    → (rs : List (Option ℕ × Stmt)) × (u : Unit {0}) × (driven_once f rs ≡ good u)
from_top_tried modules resets named top None f e = absurd (search (rules, e))
from_top_tried modules resets named top (Some m) f e =
    let g = good_then (visit modules (length modules) [] (m.name ∷ []) m [] (top_ports (header_of m)) (no_design resets)) (λ (s : Stage). finished named s.design) f e in let t = tried named g.0.design f g.2 in (g.0.design.resets, t.0, t.1)

pub one_driver_law : OneDriverLaw
one_driver_law modules top resets named f e =
    let g = good_then (modules_differ modules) (λ u. from_top modules resets named top (module_named top modules)) f e in
    let h = from_top_tried modules resets named top (module_named top modules) f g.2 in
    one_driver f h.0 h.1 h.2

-- ---- what a step makes of signals that are sound over those before

module _ (before : List Entry) where
  abbrev SoundStage : Stage → Type 0
  SoundStage s = Sound before s.design.entries

  judged_keeps : (order : Order) (p : Place) (bs : List Broken) (s t : Stage) → judged order p bs s ≡ good t → SoundStage s → SoundStage t
  judged_keeps order p bs s t e h = subst SoundStage (judged_is order p bs s t e).1 h

  good_keeps : (s t : Stage) → good s ≡ good t → SoundStage s → SoundStage t
  good_keeps s t e h = subst SoundStage (good_is s t e) h

  -- ---- items

  assign_keeps : (s : Stage) (p : Place) (x : TargetTree) (v : ExprTree) (t : Stage) → assign_item s p x v ≡ good t → SoundStage s → SoundStage t
  assign_keeps s p x v t e h = judged_keeps by_number p _ _ t e h

  gate_keeps : (s : Stage) (p : Place) (kind : GateKind) (es : List ExprTree) (t : Stage) → gate_item s p kind es ≡ good t → SoundStage s → SoundStage t
  gate_keeps s p kind [] t e h = judged_keeps by_number p _ _ t e h
  gate_keeps s p kind (x ∷ es) t e h = judged_keeps by_number p _ _ t e h

  always_keeps : (s : Stage) (p : Place) (event : Event) (body : StmtTree) (t : Stage) → always_item s p event body ≡ good t → SoundStage s → SoundStage t
  always_keeps s p event body t e h = go (is_of_wires event) e
    where
      go : (b : Bool) → cond b (wires_process s p event body) (clocked_process s p (edges_of event) body) ≡ good t → SoundStage t
      go true e = judged_keeps by_number p _ _ t e h
      go false e = judged_keeps by_number p _ _ t e h

  start_keeps : (s : Stage) (p : Place) (x : Text) (m : Option Meaning) (v : Term) (t : Stage) → start_of s p x m v ≡ good t → SoundStage s → SoundStage t
  start_keeps s p x (Some (a_signal n)) v t e h = judged_keeps by_number p _ _ t e h
  start_keeps s p x m v t e h = judged_keeps by_number p _ _ t e h

  value_keeps : (s : Stage) (p : Place) (x : Text) (o : Option ExprTree) (kind : DeclKind) (t : Stage) → value_item s p x o kind ≡ good t → SoundStage s → SoundStage t
  value_keeps s p x None kind t e h = good_keeps s t e h
  value_keeps s p x (Some v) k.Wire t e h = assign_keeps s p (whole x) v t e h
  value_keeps s p x (Some v) kind t e h = start_keeps s p x (meaning (look_of s) x) (read (look_of s) v) t e h

  -- ---- ports

  into_keeps : (d : Design) (v : Expr) (r : Option ResetPin) (m : Option Meaning) → Sound before d.entries → Sound before (into_port d v r m).entries
  into_keeps d v r (Some (a_signal s)) h = change_sound (resolving_to r) (λ a. refl) s before d.entries h
  into_keeps d v r m h = h

  out_keeps : (d : Design) (g : Target) (m : Option Meaning) → Sound before d.entries → Sound before (out_of_port d g m).entries
  out_keeps d g (Some (a_signal s)) h = h
  out_keeps d g m h = h

  one_keeps : (names : Names) (d : Design) (l : Link) → Sound before d.entries → Sound before (connect_one names d l).entries
  one_keeps names d (into x v r) h = into_keeps d v r (meaning_in names x) h
  one_keeps names d (out_of x g) h = out_keeps d g (meaning_in names x) h

  all_keep : (names : Names) (d : Design) (ls : List Link) → Sound before d.entries → Sound before (connect_all names d ls).entries
  all_keep names d [] h = h
  all_keep names d (l ∷ ls) h = all_keep names (connect_one names d l) ls (one_keeps names d l h)

  side_keeps : (d : Design) (s : ℕ) (side : Direction) → Sound before d.entries → Sound before (directed_port d s side).entries
  side_keeps d s inward h = change_sound from_outside (λ a. refl) s before d.entries h
  side_keeps d s side h = h

  port_keeps : (d : Design) (m : Option Meaning) → Sound before d.entries → Sound before (top_port d m).entries
  port_keeps d (Some (a_signal s)) h = side_keeps d s (direction_at d.entries s) h
  port_keeps d m h = h

  top_keeps : (xs : List Text) (s : Stage) → SoundStage s → SoundStage (top_ports xs s)
  top_keeps [] s h = h
  top_keeps (x ∷ xs) s h = top_keeps xs (with_design s (top_port s.design (meaning_in s.names x))) (port_keeps s.design (meaning_in s.names x) h)

  resets_keep : (n : ℕ) (s : Stage) → SoundStage s → SoundStage (with_resets n s)
  resets_keep n s h =
      let d = s.design in let f = declared_reset d.pins in
      from_keeps (Sound before) f (λ i es. change_sound f (λ a. refl) i before es) n (length d.entries - n) d.entries h

  -- ---- parameters and declarations

  parameter_keeps : (overrides : Overrides) (s : Stage) (q : Place × ParamTree) (t : Stage) → parameter overrides s q ≡ good t → SoundStage s → SoundStage t
  parameter_keeps overrides s q t e h = judged_keeps parameter_order q.0 _ _ t e h

  declared_keeps : (s : Stage) (at : Site) (d : DeclTree) (r : Option Range) (again words : Option ℕ) (t : Stage) → add_declared s at d r again words ≡ good t
      → width_of r ≤ 64 → SoundStage s → SoundStage t
  declared_keeps s at d r (Some n) words t e l h = good_keeps _ t e (change_sound (declared_again d.kind) (λ a. refl) n before s.design.entries h)
  declared_keeps s at d r None (Some n) t e l h =
      added_sound s (map (entry at d.kind r false) (word_names d.name 0 n)) _ t e (narrow_entries (entry at d.kind r false) (width_of r) l (λ x. refl) (word_names d.name 0 n)) before h
  declared_keeps s at d r None None t e l h =
      added_sound s (entry at d.kind r (is_plain_port d.kind && not at.in_header) d.name ∷ []) ((d.name, a_signal (length s.design.entries)) ∷ []) t e (narrow_entries (entry at d.kind r (is_plain_port d.kind && not at.in_header)) (width_of r) l (λ x. refl) (d.name ∷ [])) before h

  declaration_keeps : (s : Stage) (q : Site × DeclTree) (t : Stage) → declaration s q ≡ good t → SoundStage s → SoundStage t
  declaration_keeps s q t e h =
      let look = look_of s in let rules_of = declaration_rules look q.0 q.1 in let r = range_read look q.1.name q.1.range in
      let g = good_then (judged declaration_order q.0.place rules_of (tt {0})) _ t e in
      let none = (judged_is declaration_order q.0.place rules_of (tt {0}) g.0 g.1).0 in
      let a = (none_of_both _ (array_read look q.1 q.1.array).broken none).0 in
      let b = (none_of_both _ (range_rule look q.1 r.range (again look q.1)) a).0 in
      let c = (none_of_both _ r.broken b).1 in
      declared_keeps s q.0 q.1 r.range (again look q.1) (array_read look q.1 q.1.array).count t g.2 (range_narrow look q.1.name q.1.range c) h

  directed_keeps : (m : ModuleTree) (s : Stage) (x : Text) (t : Stage) → directed m s x ≡ good t → SoundStage s → SoundStage t
  directed_keeps m s x t e h = let g = good_then (refused_if (not (has_direction (look_of s) x)) 306 (Some m.place) x) (λ u. good s) t e in good_keeps s t g.2 h

  declarations_keep : (prefix : Text) (m : ModuleTree) (s t : Stage) → declarations prefix m s ≡ good t → SoundStage s → SoundStage t
  declarations_keep prefix m s t e h =
      let g = good_then (header_twice m) _ t e in
      let k = good_then (each declaration s (sites prefix m)) _ t g.2 in
      each_keeps SoundStage (directed m) (directed_keeps m) k.0 (header_of m) t k.2 (each_keeps SoundStage declaration declaration_keeps s (sites prefix m) k.0 k.1 h)

-- ---- visits

-- the visit of a module keeps the limits, whatever keeps them is done to its ports
abbrev Keeps : Visit → Type 0
Keeps v = (before : List Entry) (prefix : Text) (visiting : List Text) (m : ModuleTree) (overrides : Overrides) (ports : Stage → Stage) → ((s : Stage) → SoundStage before s → SoundStage before (ports s))
    → (d : Design) (e : Stage) → v prefix visiting m overrides ports d ≡ good e → Sound before d.entries → SoundStage before e

module _ (modules : List ModuleTree) (visiting : List Text) (prefix : Text) (v : Visit) (keeps : Keeps v) (before : List Entry) where
  instance_keeps : (s : Stage) (p : Place) (m : ModuleTree) (params : ConnsTree) (x : Text) (ports : ConnsTree) (t : Stage)
      → instance_of modules visiting prefix v s p m params x ports ≡ good t → SoundStage before s → SoundStage before t
  instance_keeps s p m params x ports t e h =
      let look = look_of s in
      let a = good_then (refused_if (is_in visiting m.name) 303 (Some p) m.name) _ t e in
      let b = good_then (refused_if (is_declared s.names x) 304 (Some p) x) _ t a.2 in
      let c = good_then (judged by_number p (override_rules look m params ++ connection_rules look m ports) (tt {0})) _ t b.2 in
      let links = links_of look m ports in
      let d = good_then (v (prefix ++ printed_part x ++ codes ".") (m.name ∷ visiting) m (overrides_of look m params) (connected links) s.design) _ t c.2 in
      let f = good_then (refused_if (list_any (is_short d.0) (leaning_of look m params ports)) 306 (Some p) m.name) _ t d.2 in
      good_keeps before _ t f.2 (keeps before _ _ m _ (connected links) (λ u k. all_keep before u.names u.design links k) s.design d.0 d.1 h)

  item_keeps : (s : Stage) (p : Place) (body : BodyTree) (t : Stage) → item_of modules visiting prefix v s p body ≡ good t → SoundStage before s → SoundStage before t
  item_keeps s p (param q) t e h = good_keeps before s t e h
  item_keeps s p (decl d) t e h = value_keeps before s p d.name d.init d.kind t e h
  item_keeps s p (assign x w) t e h = assign_keeps before s p x w t e h
  item_keeps s p (gate kind es) t e h = gate_keeps before s p kind es t e h
  item_keeps s p (instance child params x ports) t e h = by_module (module_named child modules) t e h
    where
      by_module : (o : Option ModuleTree) (t : Stage) → instance_item modules visiting prefix v s p o child params x ports ≡ good t → SoundStage before s → SoundStage before t
      by_module None t e h = absurd (search (rules, e))
      by_module (Some m) t e h = instance_keeps s p m params x ports t e h
  item_keeps s p (always event body) t e h = always_keeps before s p event body t e h
  item_keeps s p (initial body) t e h = judged_keeps before by_number p _ _ t e h

visit_keeps : (modules : List ModuleTree) (n : ℕ) → Keeps (visit modules n)
visit_keeps modules zero before prefix visiting m overrides ports k d e q h = absurd (search (rules, q))
visit_keeps modules (suc n) before prefix visiting m overrides ports k d e q h =
    let first : Stage = record { names = []; design = d } in
    let a = good_then (parameters overrides m first) _ e q in
    let b = good_then (declarations prefix m a.0) _ e a.2 in
    let r = with_resets (length d.entries) b.0 in
    let c = good_then (header_values m (ports r)) _ e b.2 in
    let fa = each_keeps (SoundStage before) (parameter overrides) (parameter_keeps before overrides) first (params_of m) a.0 a.1 h in
    let fb = declarations_keep before prefix m a.0 b.0 b.1 fa in
    let fc = each_keeps (SoundStage before) (λ s (x : DeclTree). declared_value s m.place x) (λ s x t. value_keeps before s m.place x.name x.init x.kind t)
    (ports r) (header_decls m) c.0 c.1 (k r (resets_keep before (length d.entries) b.0 fb)) in
    each_keeps (SoundStage before) (item modules visiting prefix (visit modules n)) (λ s x t. item_keeps modules visiting prefix (visit modules n) (visit_keeps modules n) before s x.place x.body t)
    c.0 m.items e c.2 fc

-- ---- the flat design

pub signal_widths : (d : Design) (n : ℕ) (es : List Entry) (s : ℕ) → width_in (signals_from d n es) s ≡ width_at es s
signal_widths d n [] s = refl
signal_widths d n (e ∷ es) zero = refl
signal_widths d n (e ∷ es) (suc s) = signal_widths d (suc n) es s

pub flat_widths : (named : List Text) (d : Design) (s : ℕ) → size_in (flattened named d) s ≡ width_at d.entries s
flat_widths named d s = signal_widths (with_constants (with_free named d)) 0 (with_free named d).entries s ∙ free_width named d s

signal_count : (d : Design) (n : ℕ) (es : List Entry) → length (signals_from d n es) ≡ length es
signal_count d n [] = refl
signal_count d n (e ∷ es) = ap suc (signal_count d (suc n) es)

abbrev IsLimited : Flat → Type 0
IsLimited f = AreWords (size_in f) × (length f.signals ≤ 1048576)

limited : (named : List Text) (d : Design) (f : Flat) → finished named d ≡ good f → Fine d.entries → IsLimited f
limited named d f e h =
    let c = with_constants (with_free named d) in
    let k = free_keeps Fine (λ n es. change_keeps from_outside (λ x. refl) n es) named d h in
    subst IsLimited (accepted named d f e).2
    ((λ s. subst (λ w. w ≤ 64) (sym (signal_widths c 0 c.entries s)) (k.narrow s)), subst (λ n. n ≤ 1048576) (sym (signal_count c 0 c.entries)) k.few)

top_limited : (modules : List ModuleTree) (resets : List ResetPin) (named : List Text) (top : Text) (o : Option ModuleTree) (f : Flat)
    → from_top modules resets named top o ≡ good f → IsLimited f
top_limited modules resets named top None f e = absurd (search (rules, e))
top_limited modules resets named top (Some m) f e =
    let g = good_then (visit modules (length modules) [] (m.name ∷ []) m [] (top_ports (header_of m)) (no_design resets)) (λ (s : Stage). finished named s.design) f e in
    limited named g.0.design f g.2 ((visit_keeps modules (length modules) [] [] (m.name ∷ []) m [] (top_ports (header_of m)) (top_keeps [] (header_of m)) (no_design resets) g.0 g.1 (sound_itself [])).fine none_are_fine)

pub limits_law : LimitsLaw
limits_law modules top resets named f e =
    let g = good_then (modules_differ modules) (λ u. from_top modules resets named top (module_named top modules)) f e in
    top_limited modules resets named top (module_named top modules) f g.2

pub numbers_law : NumbersLaw
numbers_law modules n prefix visiting m overrides links d e h =
    (visit_keeps modules n d.entries prefix visiting m overrides (connected links) (λ s k. all_keep d.entries s.names s.design links k) d e h (sound_itself d.entries)).behind
