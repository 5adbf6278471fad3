-- Stages stay fit while modules are visited.
use Rattle.std.proofs.Common.{◌≡◌, ℕ, zero, suc, ◌+◌, ◌-◌, ◌^◌, ◌<◌, ◌≤◌, Bool, true, false, cond, List, [], ◌∷◌, length, Option, Some, None, refl, sym, ap, subst, ◌∙◌, arith, rules}
use Rattle.std.specs.Prelude.{slice_get}
use Rattle.verilog_ast.specs.declared.DeclKind.{DeclKind}
use Rattle.verilog_ast.specs.declared.DeclKind.TheVariants as k
use Rattle.verilog_ast.specs.declared.Edge.{Edge}
use Rattle.verilog_ast.specs.declared.Event.{Event}
use Rattle.verilog_ast.specs.declared.GateKind.{GateKind}
use Rattle.cdc_base.specs.declared.fault.Place.{Place}
use Rattle.verilog_reading.specs.ExprTree.{ExprTree, TargetTree, whole}
use Rattle.verilog_reading.specs.StmtTree.{StmtTree}
use Rattle.verilog_reading.specs.SourceTree.{DeclTree, BodyTree, param, decl, assign, gate, instance, always, initial, ModuleTree}
use Rattle.flat_unfolding.specs.Outcome.{Text, good, by_number, each}
use Rattle.flat_unfolding.specs.Names as n
use Rattle.flat_unfolding.specs.Names.{Names, Meaning, a_signal, a_param, a_memory, no_value, meaning, meaning_in, width_of, Direction, inner, inward, outward, direction_at}
use Rattle.flat_unfolding.specs.Design.{Design, Stage, look_of, with_design, change_entry, change_from}
use Rattle.flat_unfolding.specs.Expressions.{Term, read}
use Rattle.flat_unfolding.specs.Starts.{Starts, with_starts, start_of, initial_starts, so_far}
use Rattle.flat_unfolding.specs.Wires.{assign_item, gate_item}
use Rattle.flat_unfolding.specs.Processes.{is_of_wires, edges_of, wires_process, clocked_process, always_item}
use Rattle.flat_unfolding.specs.Signals.{from_outside}
use Rattle.flat_unfolding.specs.Unfolding.{Visit, value_item, declared_value, item_of, directed_port, top_port, top_ports, declared_reset, with_resets}
use Rattle.flat_unfolding.proofs.Steps.{judged_is, good_is, good_then, some_is}
use Rattle.flat_unfolding.proofs.Entries.{same_length}
use Rattle.flat_form.specs.Sizes.{is_word}
use Rattle.flat_names.specs.Looks.{IsFit}
use Rattle.flat_design.specs.Chosen.{chosen_item_of}
use Rattle.flat_design.specs.Visiting.{AreFitNames, IsFitDesign, IsPlain}

-- names and a design that are fit
pub fit-stage : (names : Names) (d : Design) → AreFitNames names (length d.entries) → IsFitDesign d → IsFit (look_of (record { names = names; design = d }))
fit-stage names d h k = record { params = h.params; signals = h.signals; memories = h.memories; entries = k.entries; few = k.few }

pub names-fit : (s : Stage) → IsFit (look_of s) → AreFitNames s.names (length s.design.entries)
names-fit s h = record { params = h.params; signals = h.signals; memories = h.memories }

pub design-fit : (s : Stage) → IsFit (look_of s) → IsFitDesign s.design
design-fit s h = record { entries = h.entries; few = h.few }

-- with more signals names stay fit
pub more-fit : (names : Names) (a b : ℕ) → a ≤ b → AreFitNames names a → AreFitNames names b
more-fit names a b l h = record {
  params = h.params;
  signals = λ x s e. let k = h.signals x s e in let m : s < b = omega (arith, k, l) in m;
  memories = λ x q e. let k = h.memories x q e in let r = k.1 in (k.0, let m : q.first + q.words ≤ b = omega (arith, r, l) in m);
}

-- ---- items that declare nothing keep names and signals

abbrev pub KeepsLook : Stage → Stage → Type 0
KeepsLook s t = look_of t ≡ look_of s

pub still-fit : (s t : Stage) → KeepsLook s t → IsFit (look_of s) → IsFit (look_of t)
still-fit s t e h = subst IsFit (sym e) h

assign-looks : (s t : Stage) (p : Place) (x : TargetTree) (v : ExprTree) → assign_item s p x v ≡ good t → KeepsLook s t
assign-looks s t p x v e = subst (KeepsLook s) (judged_is by_number p _ _ t e).1 refl

gate-looks : (s t : Stage) (p : Place) (kind : GateKind) (es : List ExprTree) → gate_item s p kind es ≡ good t → KeepsLook s t
gate-looks s t p kind [] e = subst (KeepsLook s) (judged_is by_number p _ _ t e).1 refl
gate-looks s t p kind (x ∷ es) e = subst (KeepsLook s) (judged_is by_number p _ _ t e).1 refl

wires-looks : (s t : Stage) (p : Place) (event : Event) (body : StmtTree) → wires_process s p event body ≡ good t → KeepsLook s t
wires-looks s t p event body e = subst (KeepsLook s) (judged_is by_number p _ _ t e).1 refl

clocked-looks : (s t : Stage) (p : Place) (edges : List Edge) (body : StmtTree) → clocked_process s p edges body ≡ good t → KeepsLook s t
clocked-looks s t p edges body e = subst (KeepsLook s) (judged_is by_number p _ _ t e).1 refl

always-looks : (s t : Stage) (p : Place) (event : Event) (body : StmtTree) → always_item s p event body ≡ good t → KeepsLook s t
always-looks s t p event body e = go (is_of_wires event) e
  where
    go : (b : Bool) → cond b (wires_process s p event body) (clocked_process s p (edges_of event) body) ≡ good t → KeepsLook s t
    go true h = wires-looks s t p event body h
    go false h = clocked-looks s t p (edges_of event) body h

starts-look : (s t : Stage) (p : Place) (a : Starts) → with_starts s p a ≡ good t → KeepsLook s t
starts-look s t p a e = subst (KeepsLook s) (judged_is by_number p a.broken _ t e).1 refl

start-looks : (s t : Stage) (p : Place) (x : Text) (m : Option Meaning) (v : Term) → start_of s p x m v ≡ good t → KeepsLook s t
start-looks s t p x (Some (a_signal sig)) v e = starts-look s t p _ e
start-looks s t p x (Some (a_param q)) v e = subst (KeepsLook s) (judged_is by_number p v.broken s t e).1 refl
start-looks s t p x (Some (a_memory a)) v e = subst (KeepsLook s) (judged_is by_number p v.broken s t e).1 refl
start-looks s t p x (Some no_value) v e = subst (KeepsLook s) (judged_is by_number p v.broken s t e).1 refl
start-looks s t p x None v e = subst (KeepsLook s) (judged_is by_number p v.broken s t e).1 refl

value-looks : (s t : Stage) (p : Place) (x : Text) (o : Option ExprTree) (kind : DeclKind) → value_item s p x o kind ≡ good t → KeepsLook s t
value-looks s t p x None kind e = ap look_of (sym (good_is s t e))
value-looks s t p x (Some v) k.Wire e = assign-looks s t p (whole x) v e
value-looks s t p x (Some v) k.Reg e = start-looks s t p x (meaning (look_of s) x) (read (look_of s) v) e
value-looks s t p x (Some v) k.Input e = start-looks s t p x (meaning (look_of s) x) (read (look_of s) v) e
value-looks s t p x (Some v) k.Output e = start-looks s t p x (meaning (look_of s) x) (read (look_of s) v) e
value-looks s t p x (Some v) k.OutputReg e = start-looks s t p x (meaning (look_of s) x) (read (look_of s) v) e

pub declared-looks : (s t : Stage) (p : Place) (d : DeclTree) → declared_value s p d ≡ good t → KeepsLook s t
declared-looks s t p d e = value-looks s t p d.name d.init d.kind e

pub item-looks : (modules : List ModuleTree) (visiting : List Text) (prefix : Text) (inside : Visit) (s t : Stage) (p : Place) (b : BodyTree) → IsPlain b → item_of modules visiting prefix inside s p b ≡ good t → KeepsLook s t
item-looks modules visiting prefix inside s t p (param q) h e = ap look_of (sym (good_is s t e))
item-looks modules visiting prefix inside s t p (decl d) h e = declared-looks s t p d e
item-looks modules visiting prefix inside s t p (assign x v) h e = assign-looks s t p x v e
item-looks modules visiting prefix inside s t p (gate kind es) h e = gate-looks s t p kind es e
item-looks modules visiting prefix inside s t p (instance child params x ports) h e = absurd h
item-looks modules visiting prefix inside s t p (always event body) h e = always-looks s t p event body e
item-looks modules visiting prefix inside s t p (initial body) h e = starts-look s t p (initial_starts (look_of s) (so_far s) body) e

-- so do the items that are wanted
pub chosen-looks : (wires_only : Bool) (modules : List ModuleTree) (visiting : List Text) (prefix : Text) (inside : Visit) (s t : Stage) (p : Place) (b : BodyTree) → IsPlain b
    → chosen_item_of wires_only modules visiting prefix inside s p b ≡ good t → KeepsLook s t
chosen-looks wires modules visiting prefix inside s t p (param q) h e = item-looks modules visiting prefix inside s t p (param q) h e
chosen-looks wires modules visiting prefix inside s t p (decl d) h e = item-looks modules visiting prefix inside s t p (decl d) h e
chosen-looks wires modules visiting prefix inside s t p (assign x v) h e = item-looks modules visiting prefix inside s t p (assign x v) h e
chosen-looks wires modules visiting prefix inside s t p (gate kind es) h e = item-looks modules visiting prefix inside s t p (gate kind es) h e
chosen-looks wires modules visiting prefix inside s t p (instance child params x ports) h e = absurd h
chosen-looks true modules visiting prefix inside s t p (always event body) h e = ap look_of (sym (good_is s t e))
chosen-looks false modules visiting prefix inside s t p (always event body) h e = item-looks modules visiting prefix inside s t p (always event body) h e
chosen-looks wires modules visiting prefix inside s t p (initial body) h e = item-looks modules visiting prefix inside s t p (initial body) h e

pub values-look : (p : Place) (s : Stage) (ds : List DeclTree) (t : Stage) → each (λ u (d : DeclTree). declared_value u p d) s ds ≡ good t → KeepsLook s t
values-look p s [] t e = ap look_of (sym (good_is s t e))
values-look p s (d ∷ ds) t e =
    let g = good_then (declared_value s p d) (λ u. each (λ v (b : DeclTree). declared_value v p b) u ds) t e in
    values-look p g.0 ds t g.2 ∙ declared-looks s g.0 p d g.1

-- ---- changes that keep ranges

entry-after : (f : n.Entry → n.Entry) (t : ℕ) (es : List n.Entry) → ((a : n.Entry) → (f a).range ≡ a.range) → ((s : ℕ) (a : n.Entry) → slice_get es s ≡ Some a → is_word (width_of a.range) ≡ true)
    → (s : ℕ) (a : n.Entry) → slice_get (change_entry f t es) s ≡ Some a → is_word (width_of a.range) ≡ true
entry-after f t [] h k s a e = absurd (search (rules, e))
entry-after f zero (b ∷ es) h k zero a e = ap (λ (c : n.Entry). is_word (width_of c.range)) (sym (some_is (f b) a e)) ∙ ap (λ r. is_word (width_of r)) (h b) ∙ k 0 b refl
entry-after f zero (b ∷ es) h k (suc s) a e = k (suc s) a e
entry-after f (suc t) (b ∷ es) h k zero a e = k 0 a e
entry-after f (suc t) (b ∷ es) h k (suc s) a e = entry-after f t es h (λ i. k (suc i)) s a e

pub changed-fit : (f : n.Entry → n.Entry) (t : ℕ) (d e : Design) → e.entries ≡ change_entry f t d.entries → ((a : n.Entry) → (f a).range ≡ a.range) → IsFitDesign d → IsFitDesign e
changed-fit f t d e is h k = record {
  entries = λ s a at. entry-after f t d.entries h k.entries s a (ap (λ es. slice_get es s) (sym is) ∙ at);
  few = subst (λ (c : ℕ). c ≤ 2 ^ 32) (sym (ap length is ∙ same_length f t d.entries)) k.few;
}

-- the ports of the top
directed-length : (d : Design) (s : ℕ) (side : Direction) → length (directed_port d s side).entries ≡ length d.entries
directed-length d s inward = same_length from_outside s d.entries
directed-length d s inner = refl
directed-length d s outward = refl

pub port-length : (d : Design) (m : Option Meaning) → length (top_port d m).entries ≡ length d.entries
port-length d (Some (a_signal s)) = directed-length d s (direction_at d.entries s)
port-length d (Some (a_param q)) = refl
port-length d (Some (a_memory a)) = refl
port-length d (Some no_value) = refl
port-length d None = refl

directed-fit : (d : Design) (s : ℕ) (side : Direction) → IsFitDesign d → IsFitDesign (directed_port d s side)
directed-fit d s inward h = changed-fit from_outside s d (directed_port d s inward) refl (λ a. refl) h
directed-fit d s inner h = record { entries = h.entries; few = h.few }
directed-fit d s outward h = record { entries = h.entries; few = h.few }

pub port-fit : (d : Design) (m : Option Meaning) → IsFitDesign d → IsFitDesign (top_port d m)
port-fit d (Some (a_signal s)) h = directed-fit d s (direction_at d.entries s) h
port-fit d (Some (a_param q)) h = h
port-fit d (Some (a_memory a)) h = h
port-fit d (Some no_value) h = h
port-fit d None h = h

pub top-fit : (xs : List Text) (s : Stage) → IsFit (look_of s) → IsFit (look_of (top_ports xs s))
top-fit [] s h = h
top-fit (x ∷ xs) s h =
    let m = meaning_in s.names x in let d = top_port s.design m in
    top-fit xs (with_design s d) (fit-stage s.names d (subst (AreFitNames s.names) (sym (port-length s.design m)) (names-fit s h)) (port-fit s.design m (design-fit s h)))

-- the resets that are declared
pub from-length : (f : n.Entry → n.Entry) (t more : ℕ) (es : List n.Entry) → length (change_from f t more es) ≡ length es
from-length f t zero es = refl
from-length f t (suc more) es = from-length f (suc t) more (change_entry f t es) ∙ same_length f t es

from-fit : (f : n.Entry → n.Entry) → ((a : n.Entry) → (f a).range ≡ a.range) → (t more : ℕ) (es : List n.Entry) → ((s : ℕ) (a : n.Entry) → slice_get es s ≡ Some a → is_word (width_of a.range) ≡ true)
    → (s : ℕ) (a : n.Entry) → slice_get (change_from f t more es) s ≡ Some a → is_word (width_of a.range) ≡ true
from-fit f h t zero es k = k
from-fit f h t (suc more) es k = from-fit f h (suc t) more (change_entry f t es) (entry-after f t es h k)

pub resets-length : (first : ℕ) (s : Stage) → length (with_resets first s).design.entries ≡ length s.design.entries
resets-length first s = from-length (declared_reset s.design.pins) first (length s.design.entries - first) s.design.entries

pub resets-fit : (first : ℕ) (s : Stage) → IsFit (look_of s) → IsFit (look_of (with_resets first s))
resets-fit first s h =
    let d = s.design in let e = (with_resets first s).design in let f = declared_reset d.pins in let same = sym (resets-length first s) in
    fit-stage s.names e (subst (AreFitNames s.names) same (names-fit s h))
    record { entries = from-fit f (λ a. refl) first (length d.entries - first) d.entries h.entries; few = subst (λ (c : ℕ). c ≤ 2 ^ 32) same h.few }
