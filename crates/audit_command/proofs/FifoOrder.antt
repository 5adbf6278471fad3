-- Words go through FIFOs in what a flat design means as they do in the design of its net.
use Rattle.std.proofs.Common.{◌≡◌, ◌∙◌, refl, sym, ap, ap₂, subst, ℕ, ◌+◌, ◌<◌, ◌≤◌, Bool, true, false, cond, ◌&&◌, nat_lt, ltb-true, Option, Some, None, is_some, unwrap_or, List, [], ◌∷◌, Contains, ◌⊎◌, inl, inr}
use Rattle.std.specs.Bool.{beq}
use Rattle.std.specs.List.{AllByRecursion}
use Rattle.std.proofs.Math.Path.{fun_ext}
use Rattle.std.proofs.lemmas.Bool.{and_parts}
use Rattle.std.proofs.lemmas.Option.{slice_get_cases}
use Rattle.cdc_base.specs.declared.bit.Bit.{Bit}
use Rattle.cdc_base.specs.declared.signal.SigKind.{SigKind}
use Rattle.cdc_base.specs.declared.signal.SigKind.TheVariants.{Input, Register, Wire}
use Rattle.cell_graph.specs.declared.net.Net.{Net}
use Rattle.cell_graph.specs.Nets.{bit_count, is_register, next_cell}
use Rattle.cell_graph.specs.Reading.{Reading, bit_eq}
use Rattle.cell_graph.specs.Tree.{Tree}
use Rattle.cell_graph.proofs.Bits.{bit_eq-true}
use Rattle.clock_constraints.specs.declared.Constraints.{Constraints}
use Rattle.domains.specs.declared.Domains.{Domains}
use Rattle.domains.specs.declared.port.Role.{Role}
use Rattle.domains.specs.declared.port.Role.TheVariants.{Clocked, Pin, Reset, Static}
use Rattle.domains.specs.Assignment.{clock_of}
use Rattle.domains.specs.Clocks.{Roles, input_clock, role_at, signal_name}
use Rattle.cdc_model.specs.declared.scheme.GrayReg.{GrayReg}
use Rattle.cdc_model.specs.declared.verdict.Verdict.{Verdict as VerdictEntry}
use Rattle.cdc_model.specs.Design.{Design, bits_from, flipped}
use Rattle.cdc_model.specs.Listed.{IsVerdictOf}
use Rattle.cdc_model.specs.Nets.{net_trees, start_of}
use Rattle.cdc_model.specs.Nets as net_model
use Rattle.cdc_model.specs.Runs.{State, Trace, Start, Then, now, ticks, IsRun}
use Rattle.cdc_model.specs.Schemes.{IsSync, Sync}
use Rattle.cdc_model.specs.Syncs.{syncs_of}
use Rattle.cdc_model.specs.Verdict.{sync_key}
use Rattle.cdc_model.proofs.Justify.{in_slice}
use Rattle.cdc_model.proofs.NetDesign.{cond_some}
use Rattle.cdc_model.proofs.Ordered.{one_list}
use Rattle.cdc_model.proofs.Synced.{syncs_are_all}
use Rattle.fifo_laws.specs.Fifos.{Fifo, IsFifo}
use Rattle.fifo_laws.specs.Order.{IsWithinDepth, ReadsOldest, agree_on, changes, pops, pushes}
use Rattle.fifo_laws.specs.Words.{Column, IsReadOf}
use Rattle.fifo_laws.proofs.Cross.{leads_to}
use Rattle.flat_meaning.specs.Design.{Flat, given, kind_in, kind_value, size_in}
use Rattle.flat_meaning.specs.Design as flat
use Rattle.flat_meaning.specs.Trees.{Selects}
use Rattle.flat_meaning.proofs.Unfolded.{trees_law}
use Rattle.flat_model.specs.Clocked.{clock_by_kind, clock_of_signal, has_state, inactive_level, pin_for, pins_of}
use Rattle.flat_model.specs.Designs.{IsMeaning, design_of, next_tree}
use Rattle.flat_model.specs.Laws.{IsNetOf, IsSameDesign}
use Rattle.flat_model.specs.Pinned.{IsHeld, IsPinned}
use Rattle.flat_model.proofs.Fields.{next_trees, same_bits}
use Rattle.flat_model.proofs.Meanings.{same_design}
use Rattle.flat_model.proofs.PinnedRuns.{clocked_free, flipped_pinned, pinned_run, run_pinned}
use Rattle.flat_model.proofs.Words.{cond_self}
use Rattle.fifo_scheme.specs.declared.found.Fifo.{Fifo as FifoEntry}
use Rattle.fifo_scheme.specs.Entries.{IsEntry}
use Rattle.net_verdict.specs.Fifos.{IsInOrder}
use Rattle.audit_command.specs.Audits.{IsInOrderBy, KeepsOrder, levels_of, run_at, state_at}
use Rattle.audit_command.proofs.FifoNext.{fifo_same}

-- ---- levels

-- a level is one, whatever the reading
at_level : (kind : SigKind) (p : flat.Pin) (r q : Reading) (b : Bit) → r b ≡ kind_value kind p q b
    → kind_value kind p r b ≡ kind_value kind p q b
at_level Input flat.StatePin r q b e = e
at_level Input flat.ClockPin r q b e = refl
at_level Input (flat.ResetPin inactive) r q b e = refl
at_level Register p r q b e = e
at_level Wire p r q b e = refl

given_again : (f : Flat) (pins : ℕ → flat.Pin) (r : Reading) → given f pins (given f pins r) ≡ given f pins r
given_again f pins r = fun_ext (λ (b : Bit). at_level (kind_in f.signals b.sig) (pins b.sig) (given f pins r) r b refl)

-- what has state is as the reading has it
state_free : (kind : SigKind) (o : Option Role) (inactive : Bool) → has_state kind o ≡ true
    → (r : Reading) (b : Bit) → kind_value kind (pin_for o inactive) r b ≡ r b
state_free Register o inactive h r b = refl
state_free Input None inactive h r b = refl
state_free Input (Some (Pin k)) inactive h r b = cc
state_free Input (Some (Clocked k)) inactive h r b = refl
state_free Input (Some Reset) inactive h r b = cc
state_free Input (Some Static) inactive h r b = refl
state_free Wire o inactive h r b = cc

-- and what has none is at one level, is no register and has no clock
one_level : (kind : SigKind) (o : Option Role) (inactive : Bool) → has_state kind o ≡ false
    → (r q : Reading) (b : Bit) → kind_value kind (pin_for o inactive) r b ≡ kind_value kind (pin_for o inactive) q b
one_level Register o inactive h r q b = cc
one_level Input None inactive h r q b = cc
one_level Input (Some (Pin k)) inactive h r q b = refl
one_level Input (Some (Clocked k)) inactive h r q b = cc
one_level Input (Some Reset) inactive h r q b = refl
one_level Input (Some Static) inactive h r q b = cc
one_level Wire o inactive h r q b = refl

no_register : (kind : SigKind) (o : Option Role) → has_state kind o ≡ false → is_register kind ≡ false
no_register Register o h = cc
no_register Input o h = refl
no_register Wire o h = refl

no_input_clock : (o : Option Role) → has_state Input o ≡ false → input_clock o ≡ None
no_input_clock None h = refl
no_input_clock (Some (Pin k)) h = refl
no_input_clock (Some (Clocked k)) h = cc
no_input_clock (Some Reset) h = refl
no_input_clock (Some Static) h = refl

no_clock : (f : Flat) (sel : Selects) (roles : Roles) (sig : ℕ) (kind : SigKind) → has_state kind (role_at roles sig) ≡ false
    → clock_by_kind f sel roles sig kind ≡ None
no_clock f sel roles sig Register h = cc
no_clock f sel roles sig Input h = no_input_clock (role_at roles sig) h
no_clock f sel roles sig Wire h = refl

-- ---- runs at levels

-- a word changes as often where its bits stay at no level
module _ (levels : Reading → Reading) (P : Bit → Type 0) (free : (b : Bit) → P b → (r : Reading) → levels r b ≡ r b) where
  agree_at : (bits : List Bit) → AllByRecursion P bits → (r q : Reading) → agree_on bits (levels r) (levels q) ≡ agree_on bits r q
  agree_at [] h r q = refl
  agree_at (b ∷ bs) h r q = ap₂ (λ (x y : Bool). x && y) (ap₂ beq (free b h.0 r) (free b h.0 q)) (agree_at bs h.1 r q)

  now_at : (run : Trace) → now (run_at levels run) ≡ state_at levels (now run)
  now_at (Start s) = refl
  now_at (Then past edges s) = refl

  changes_at : (bits : List Bit) → AllByRecursion P bits → (run : Trace) → changes bits (run_at levels run) ≡ changes bits run
  changes_at bits h (Start s) = refl
  changes_at bits h (Then past edges s) = ap₂ (λ (n : ℕ) (same : Bool). n + cond same 0 1) (changes_at bits h past)
      (ap (λ (z : State). agree_on bits z.values (levels s.values)) (now_at past) ∙ agree_at bits h (now past).values s.values)

-- ---- what the design means

-- each bit of a column's words is on the clock that writes
word_clock : (d : Design) (tree : ℕ → Tree) (syncs : List Sync) (grays : List GrayReg) (f : Fifo) (k : IsFifo d tree syncs grays f) (c : Column)
    → Contains f.columns c → (b : Bit) → Contains c.words b → d.clock b ≡ Some k.write.clock
word_clock d tree syncs grays f k c i b j =
    let p = k.columns.only c i in
    let column = (leads_to (λ t i. IsReadOf d tree k.write k.read c (Some (t, i))) (tree p.0.sig) p.0.at p.2).2.0 in
    (column.words j.0 b (in_slice c.words b j)).clock

module _ (f : Flat) (c : Constraints) (d : Design) (m : IsMeaning f c d) where
  abbrev levels : Reading → Reading
  levels = levels_of f c d m

  abbrev meant : Design
  meant = design_of f m.sel m.domains m.values

  abbrev kind_of : Bit → SigKind
  kind_of b = kind_in f.signals b.sig

  abbrev role_of : Bit → Option Role
  role_of b = role_at m.roles b.sig

  abbrev inactive : Bit → Bool
  inactive b = inactive_level c (signal_name f.signals b.sig)

  clock_none : (b : Bit) → clock_of_signal f m.sel m.roles b.sig ≡ None → clock_of m.domains b ≡ None
  clock_none b none =
      let clocks = m.are_domains.clock_by_sig in
      elim (slice_get_cases m.domains.clock_by_sig b.sig).1 [
        | inl s ↦ ap (λ o. unwrap_or o None) (clocks.1 b.sig (subst (λ n. b.sig < n) clocks.0 s.1)) ∙ none
        | inr p ↦ ap (λ o. unwrap_or o None) p.1
      ]

  held : (b : Bit) → has_state (kind_of b) (role_of b) ≡ false → IsHeld meant levels b
  held b h =
      let register = no_register (kind_of b) (role_of b) h in
      let clock = clock_none b (no_clock f m.sel m.roles b.sig (kind_of b) h) in
      let within = nat_lt b.at (size_in f b.sig) in
      record {
        register = ap (λ t. t && within) register;
        clock = ap (λ o. cond within o None) clock ∙ cond_self within None;
        start = ap (λ t. cond (t && within) (start_of f.signals b) None) register;
        one = λ r q. one_level (kind_of b) (role_of b) (inactive b) h r q b;
      }

  bits_are : (b : Bit) → IsHeld meant levels b ⊎ ((r : Reading) → levels r b ≡ r b)
  bits_are b = go (has_state (kind_of b) (role_of b)) refl
    where
      go : (state : Bool) → has_state (kind_of b) (role_of b) ≡ state → IsHeld meant levels b ⊎ ((r : Reading) → levels r b ≡ r b)
      go true h = inr (λ r. state_free (kind_of b) (role_of b) (inactive b) h r b)
      go false h = inl (held b h)

  -- the present state of a run at levels is at them
  now_kept : (run : Trace) → levels (now (run_at levels run)).values ≡ (now (run_at levels run)).values
  now_kept (Start s) = given_again f (pins_of f c m.roles) s.values
  now_kept (Then past edges s) = given_again f (pins_of f c m.roles) s.values

  module _ (sel : Selects) (net : Net) (domains : Domains) (n : IsNetOf f sel c net domains) where
    abbrev net_design : Design
    net_design = net_model.design_of net domains

    same : IsSameDesign f c net domains d m
    same = same_design f sel c net domains n d m

    same_trees : net_model.next_tree net ≡ next_tree f m.sel
    same_trees =
        let law = trees_law f n.sound n.loop_free in
        fun_ext (next_trees f sel c net domains n)
        ∙ ap (next_tree f) (fun_ext (λ s. fun_ext (λ at. fun_ext (λ w. law.2 sel n.are_trees s at w ∙ sym (law.2 m.sel m.trees s at w)))))

    net_bits : (b : Bit) → IsHeld net_design levels b ⊎ ((r : Reading) → levels r b ≡ r b)
    net_bits b = elim (bits_are b) [
      | inl h ↦ let k = subst (λ (e : Design). IsHeld e levels b) (sym m.is ∙ same.fields) h in
          inl (record { register = k.register; clock = k.clock; start = k.start; one = k.one })
      | inr free ↦ inr free
    ]

    pinned : IsPinned net_design levels d.next
    pinned = record {
      registers = λ b h. ltb-true b.at (bit_count net.graph.signals b.sig)
          (and_parts (is_some (next_cell net.regs b.sig)) (nat_lt b.at (bit_count net.graph.signals b.sig)) h).1;
      clocked = λ b k h. ltb-true b.at (bit_count net.graph.signals b.sig)
          (cond_some (nat_lt b.at (bit_count net.graph.signals b.sig)) (clock_of domains b) k h).0;
      bits = net_bits;
      nexts = λ r x l. same.next r x (subst (λ w. x.at < w) (same_bits f sel c net domains n x.sig) l);
    }

    -- a run of what the design means, at levels, is one of the net's
    run_is : (run : Trace) → pinned_run net_design levels d.next pinned run ≡ run_at levels run
    run_is (Start s) = refl
    run_is (Then past edges s) = ap (λ (t : Trace). Then t edges (state_at levels s)) (run_is past)

    is_run_at : (run : Trace) → IsRun d run → IsRun net_design (run_at levels run)
    is_run_at run h =
        subst (IsRun net_design) (run_is run)
        (run_pinned net_design levels d.next pinned run (subst (λ (e : Design). IsRun e run) same.fields h))

    -- the net's synchronizers are its verdict's
    same_syncs : (extra : Bit → Bit → Bool) (e : VerdictEntry) (w : IsVerdictOf net domains extra e) → syncs_of net domains ≡ w.syncs
    same_syncs extra e w =
        one_list sync_key (IsSync net_design (net_trees net w.grays)) (syncs_of net domains) w.syncs
        (syncs_are_all net domains w.grays n.is_net n.fit) w.is_verdict.all_syncs

    module _ (syncs : List Sync) (grays : List GrayReg) (fifo : Fifo) (k : IsFifo net_design (net_model.next_tree net) syncs grays fifo) where
      fifo_is : IsFifo d (next_tree f m.sel) syncs grays fifo
      fifo_is =
          subst (λ (e : Design). IsFifo e (next_tree f m.sel) syncs grays fifo) (sym same.fields)
          (fifo_same net_design (next_tree f m.sel) net_design.next d.next syncs grays fifo
          (subst (λ (tree : ℕ → Tree). IsFifo net_design tree syncs grays fifo) same_trees k))

      -- as much is pushed and popped in the run at levels
      abbrev IsOn : ℕ → Bit → Type 0
      IsOn clock b = net_design.clock b ≡ Some clock

      free_on : (clock : ℕ) (b : Bit) → IsOn clock b → (r : Reading) → levels r b ≡ r b
      free_on clock b h r = clocked_free net_design levels d.next pinned b clock h r

      pushes_at : (run : Trace) → pushes fifo (run_at levels run) ≡ pushes fifo run
      pushes_at run = changes_at levels (IsOn k.write.clock) (free_on k.write.clock) (bits_from fifo.wb 0 fifo.width)
          (subst (AllByRecursion (IsOn k.write.clock)) (ap₂ (λ sig w. bits_from sig 0 w) k.named.0 k.wide.2) k.writes.clock) run

      pops_at : (run : Trace) → pops fifo (run_at levels run) ≡ pops fifo run
      pops_at run = changes_at levels (IsOn k.read.clock) (free_on k.read.clock) (bits_from fifo.rb 0 fifo.width)
          (subst (AllByRecursion (IsOn k.read.clock)) (ap₂ (λ sig w. bits_from sig 0 w) k.named.2 k.wide.3) k.reads.clock) run

      within_at : (run : Trace) → IsWithinDepth fifo (run_at levels run) → IsWithinDepth fifo run
      within_at run h =
          let popped = pops fifo (run_at levels run) in
          subst (λ (out : ℕ). (out ≤ pushes fifo run) × (pushes fifo run ≤ out + fifo.depth)) (pops_at run)
          (subst (λ (into : ℕ). (popped ≤ into) × (into ≤ popped + fifo.depth)) (pushes_at run) h)

      -- at levels next values are the net's, also with a word's bit flipped
      next_at : (r : Reading) (x : Bit) → x.at < bit_count net.graph.signals x.sig → levels r ≡ r → d.next r x ≡ net_design.next r x
      next_at r x l kept = pinned.nexts r x l ∙ ap (λ (q : Reading). net_design.next q x) kept

      none_held : (clock : ℕ) (b a : Bit) → IsOn clock b → bit_eq b a ≡ true → IsHeld net_design levels a → ⊥
      none_held clock b a h e held = let none : Some clock ≡ None = sym h ∙ ap net_design.clock (bit_eq-true b a e) ∙ held.clock in cc

      flip_kept : (clock : ℕ) (b : Bit) → IsOn clock b → (r : Reading) → levels r ≡ r
          → levels (flipped (bit_eq b) r) ≡ flipped (bit_eq b) r
      flip_kept clock b h r kept =
          flipped_pinned net_design levels d.next pinned (bit_eq b) r (λ a e. none_held clock b a h e) ∙ ap (flipped (bit_eq b)) kept

      oldest_at : (past : Trace) (edges : ℕ → Bool) (new : State) → ReadsOldest net_design fifo (run_at levels past) edges new
          → ReadsOldest d fifo (run_at levels past) edges new
      oldest_at past edges new h x b column reader tick listed word differ =
          let r = (now (run_at levels past)).values in
          let lies = pinned.clocked x k.read.clock (k.readers.only x reader).clock in
          let on = word_clock net_design (net_model.next_tree net) syncs grays fifo k column listed b word in
          h x b column reader (ap (λ (e : Design). ticks e edges x) (sym same.fields) ∙ tick) listed word
          (λ e. differ (next_at r x lies (now_kept past) ∙ e
          ∙ sym (next_at (flipped (bit_eq b) r) x lies (flip_kept k.write.clock b on r (now_kept past)))))

-- words that go in order through a FIFO of the net over listed synchronizers and Gray registers do so in all that the flat design means
pub in_order_over : (f : Flat) (sel : Selects) (c : Constraints) (net : Net) (domains : Domains) → IsNetOf f sel c net domains
    → (syncs : List Sync) (grays : List GrayReg) (entry : FifoEntry) (fifo : Fifo)
    → IsFifo (net_model.design_of net domains) (net_model.next_tree net) syncs grays fifo → IsEntry net.graph fifo entry
    → ((run : Trace) → IsRun (net_model.design_of net domains) run → IsWithinDepth fifo run)
    → ((past : Trace) (edges : ℕ → Bool) (new : State) → IsRun (net_model.design_of net domains) (Then past edges new)
    → ReadsOldest (net_model.design_of net domains) fifo past edges new) → IsInOrderBy f c net.graph syncs grays entry
in_order_over f sel c net domains n syncs grays entry fifo is_fifo is_entry within oldest d m =
    let at = run_at (levels_of f c d m) in
    let is_run = is_run_at f c d m sel net domains n in
    record {
      fifo = fifo;
      is_fifo = fifo_is f c d m sel net domains n syncs grays fifo is_fifo;
      entry = is_entry;
      within = λ run is. within_at f c d m sel net domains n syncs grays fifo is_fifo run (within (at run) (is_run run is));
      oldest = λ past edges new is.
          let there = state_at (levels_of f c d m) new in
          oldest_at f c d m sel net domains n syncs grays fifo is_fifo past edges there
          (oldest (at past) edges there (is_run (Then past edges new) is));
    }

-- so do those that go through a FIFO over all synchronizers, by a verdict's
pub in_order_by : (f : Flat) (sel : Selects) (c : Constraints) (net : Net) (domains : Domains) → IsNetOf f sel c net domains
    → (extra : Bit → Bit → Bool) (e : VerdictEntry) (w : IsVerdictOf net domains extra e) (entry : FifoEntry)
    → IsInOrder net domains e.grays entry → IsInOrderBy f c net.graph w.syncs e.grays entry
in_order_by f sel c net domains n extra e w entry order d m =
    subst (λ (ss : List Sync). KeepsOrder f c d m net.graph ss e.grays entry) (same_syncs f c d m sel net domains n extra e w)
    (in_order_over f sel c net domains n (syncs_of net domains) e.grays entry order.fifo order.is_fifo order.entry order.within order.oldest d m)
