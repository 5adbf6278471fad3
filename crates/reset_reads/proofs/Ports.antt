-- What instances connect, and the ports of the top.
use Rattle.std.proofs.Common.{◌≡◌, ℕ, List, [], ◌∷◌, ◌++◌, length, Option, Some, None, refl, sym, subst, ◌∙◌, Bool, true, false, ◌||◌}
use Rattle.std.specs.Prelude.{All, is_some, filter_map}
use Rattle.std.specs.Option.{option_or}
use Rattle.std.specs.List.{cons_option}
use Rattle.std.proofs.lemmas.List.Elements.{All-cons, All-head, All-nil, All-tail}
use Rattle.cdc_base.specs.declared.signal.ResetPin.{ResetPin}
use Rattle.verilog_reading.specs.ExprTree.{ExprTree}
use Rattle.verilog_reading.specs.SourceTree.{ConnsTree, ModuleTree}
use Rattle.flat_meaning.specs.Flat.{Expr, Target, Whole}
use Rattle.flat_unfolding.specs.Outcome.{Text}
use Rattle.flat_unfolding.specs.Names.{Meaning, a_param, a_signal, a_memory, no_value, Names, meaning_in, Direction, inner, inward, outward, Entry, width_at, direction_at}
use Rattle.flat_unfolding.specs.Declarations.{header_of}
use Rattle.flat_unfolding.specs.Instances.{Joint, joints, port_direction, Link, into, out_of, linked_at, linked_to, linked, links_of, resolving_to, into_port, out_of_port, connect_one, connect_all, connected}
use Rattle.flat_unfolding.specs.Design.{Design, Stage, look_of, with_design, change_entry}
use Rattle.flat_unfolding.specs.Signals.{from_outside}
use Rattle.flat_unfolding.specs.Unfolding.{directed_port, top_port, top_ports}
use Rattle.flat_unfolding.proofs.Entries.{same_length}
use Rattle.flat_unfolding.proofs.Fit.{true_right}
use Rattle.flat_unfolding.proofs.Grown.{told_same}
use Rattle.reset_reads.proofs.Spares.{Spares, TargetSpares}
use Rattle.reset_reads.proofs.Terms.{AreHeld, IsHeldIf, held, bits_spare}
use Rattle.reset_reads.proofs.Settled.{told_kept, is_unpinned, is_settled}
use Rattle.reset_reads.proofs.Stages.{Allows, IsSpareStage, free, expr_next, driven_next, next_assign}

module _ (resets : List ResetPin) (may : ℕ → Bool) where
  -- ---- links

  abbrev pub LinkSpares : Link → Type 0
  LinkSpares (into x e r) = Spares may e
  LinkSpares (out_of x t) = TargetSpares may t

  module _ (s : Stage) (h : IsSpareStage resets may s) (a : Allows resets may s.design.entries) (m : ModuleTree) where
    abbrev LinkSparesIf : Option Link → Type 0
    LinkSparesIf None = Unit {0}
    LinkSparesIf (Some l) = LinkSpares l

    port_spares : (x : Text) (v : ExprTree) (o : Option Direction) → LinkSparesIf (linked_at (look_of s) v x o).link
    port_spares x v None = tt
    port_spares x v (Some inward) = expr_next resets may s h a v
    port_spares x v (Some inner) = driven_next resets may s h a v
    port_spares x v (Some outward) = driven_next resets may s h a v

    linked_spares : (v : ExprTree) (o : Option Text) → LinkSparesIf (linked_to (look_of s) v m o).link
    linked_spares v None = tt
    linked_spares v (Some x) = port_spares x v (port_direction m x)

    joints_spare : (js : List Joint) → All LinkSpares (filter_map (λ (j : Joint). (linked (look_of s) m j).link) js)
    joints_spare [] = All-nil LinkSpares
    joints_spare (j ∷ js) = go (linked (look_of s) m j).link (linked_spares j.value j.name) (joints_spare js)
      where
        go : (o : Option Link) → LinkSparesIf o → All LinkSpares (filter_map (λ (j : Joint). (linked (look_of s) m j).link) js) → All LinkSpares (cons_option o (filter_map (λ (j : Joint). (linked (look_of s) m j).link) js))
        go None k rest = rest
        go (Some l) k rest = All-cons LinkSpares l _ k rest

    pub links_spare : (given : ConnsTree) → All LinkSpares (links_of (look_of s) m given)
    links_spare given = joints_spare (joints (header_of m) given)

  -- ---- changes of one entry

  module _ (f : Entry → Entry) (keeps : (e : Entry) → is_settled resets e ≡ true → is_settled resets (f e) ≡ true) (same : (e : Entry) → is_unpinned resets (f e) ≡ is_unpinned resets e) where
    changed_allows : (n : ℕ) (es : List Entry) → Allows resets may (change_entry f n es) → Allows resets may es
    changed_allows n es a i u = a i (told_same (is_unpinned resets) false f same n es i ∙ u)

    changed_next : (n : ℕ) (s : Stage) → IsSpareStage resets may s → IsSpareStage resets may (with_design s (record s.design { entries = change_entry f n s.design.entries }))
    changed_next n s h =
        let es = s.design.entries in
        record {
          names = subst (λ m. AreHeld m s.names) (sym (same_length f n es)) h.names;
          design = record {
            pins = h.design.pins;
            settled = λ i. told_kept (is_settled resets) true f keeps n es i (h.design.settled i);
            spares = λ a. let k = h.design.spares (changed_allows n es a) in record { assigns = k.assigns; combs = k.combs; clocked = k.clocked };
          };
        }

  -- ---- ports of an instance

  -- what a port resolves to, if it is no reset itself
  resolving_settled : (r : Option ResetPin) (e : Entry) → is_settled resets e ≡ true → is_settled resets (resolving_to r e) ≡ true
  resolving_settled r e = go e.reset
    where
      go : (o : Option ResetPin) → (is_some o || is_unpinned resets e) ≡ true → (is_some (option_or o r) || is_unpinned resets e) ≡ true
      go None k = true_right (is_some r) (is_unpinned resets e) k
      go (Some q) k = refl

  abbrev over : Names → Design → Stage
  over own d = record { names = own; design = d }

  -- a connected design
  pub record IsConnected (own : Names) (before after : Design) : Type 0 where
    pub stage : IsSpareStage resets may (over own after)
    pub allows : Allows resets may after.entries → Allows resets may before.entries

  module _ (own : Names) where
    still : (d : Design) → IsSpareStage resets may (over own d) → IsConnected own d d
    still d h = record { stage = h; allows = λ a. a }

    into_next : (d : Design) (e : Expr) (r : Option ResetPin) (o : Option Meaning) → (Allows resets may d.entries → Spares may e) → IsSpareStage resets may (over own d) → IsConnected own d (into_port d e r o)
    into_next d e r None k h = still d h
    into_next d e r (Some (a_param p)) k h = still d h
    into_next d e r (Some (a_memory p)) k h = still d h
    into_next d e r (Some no_value) k h = still d h
    into_next d e r (Some (a_signal n)) k h =
        let f = resolving_to r in let fs = change_entry f n d.entries in let back = changed_allows f (resolving_settled r) (λ x. refl) n d.entries in
        record {
          stage = next_assign resets may (over own (record d { entries = fs })) (changed_next f (resolving_settled r) (λ x. refl) n (over own d) h) (Whole n) e (λ a. (tt, k (back a)));
          allows = back;
        }

    out_next : (d : Design) (t : Target) (o : Option Meaning) → IsHeldIf (length d.entries) o → (Allows resets may d.entries → TargetSpares may t) → IsSpareStage resets may (over own d) → IsConnected own d (out_of_port d t o)
    out_next d t None l k h = still d h
    out_next d t (Some (a_param p)) l k h = still d h
    out_next d t (Some (a_memory p)) l k h = still d h
    out_next d t (Some no_value) l k h = still d h
    out_next d t (Some (a_signal n)) l k h = record {
      stage = next_assign resets may (over own d) h t _ (λ a. (k a, bits_spare may (look_of (over own d)) (free resets may (over own d) h a) n 0 (width_at d.entries n) l));
      allows = λ a. a;
    }

    one_next : (d : Design) (l : Link) → (Allows resets may d.entries → LinkSpares l) → IsSpareStage resets may (over own d) → IsConnected own d (connect_one own d l)
    one_next d (into x e r) k h = into_next d e r (meaning_in own x) k h
    one_next d (out_of x t) k h = out_next d t (meaning_in own x) (held (length d.entries) own x h.names) k h

    all_next : (d : Design) (ls : List Link) → (Allows resets may d.entries → All LinkSpares ls) → IsSpareStage resets may (over own d) → IsSpareStage resets may (over own (connect_all own d ls))
    all_next d [] k h = h
    all_next d (l ∷ ls) k h =
        let o = one_next d l (λ a. All-head LinkSpares l ls (k a)) h in
        all_next (connect_one own d l) ls (λ a. All-tail LinkSpares l ls (k (o.allows a))) o.stage

  -- what is done to the ports of a declared module
  abbrev pub OpensSparely : Design → (Stage → Stage) → Type 0
  OpensSparely d ports = (t : Stage) → IsSpareStage resets may t → (Allows resets may t.design.entries → Allows resets may d.entries) → IsSpareStage resets may (ports t)

  pub connected_opens : (d : Design) (links : List Link) → (Allows resets may d.entries → All LinkSpares links) → OpensSparely d (connected links)
  connected_opens d links k t h back = all_next t.names t.design links (λ a. k (back a)) h

  -- ---- ports of the top

  output_next : (s : Stage) (n : ℕ) → IsSpareStage resets may s → IsSpareStage resets may (with_design s (record s.design { outputs = s.design.outputs ++ (n ∷ []) }))
  output_next s n h = record {
    names = h.names;
    design = record {
      pins = h.design.pins;
      settled = h.design.settled;
      spares = λ a. let k = h.design.spares a in record { assigns = k.assigns; combs = k.combs; clocked = k.clocked };
    };
  }

  side_next : (s : Stage) (n : ℕ) (side : Direction) → IsSpareStage resets may s → IsSpareStage resets may (with_design s (directed_port s.design n side))
  side_next s n inward h = changed_next from_outside (λ e k. k) (λ e. refl) n s h
  side_next s n inner h = output_next s n h
  side_next s n outward h = output_next s n h

  port_next : (s : Stage) (o : Option Meaning) → IsSpareStage resets may s → IsSpareStage resets may (with_design s (top_port s.design o))
  port_next s None h = h
  port_next s (Some (a_param p)) h = h
  port_next s (Some (a_memory p)) h = h
  port_next s (Some no_value) h = h
  port_next s (Some (a_signal n)) h = side_next s n (direction_at s.design.entries n) h

  pub top_opens : (xs : List Text) (s : Stage) → IsSpareStage resets may s → IsSpareStage resets may (top_ports xs s)
  top_opens [] s h = h
  top_opens (x ∷ xs) s h = top_opens xs (with_design s (top_port s.design (meaning_in s.names x))) (port_next s (meaning_in s.names x) h)
