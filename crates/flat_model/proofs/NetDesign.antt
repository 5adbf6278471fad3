-- The net of a flat design means the same as the design.
use Rattle.std.proofs.Common.{◌≡◌, ◌∙◌, refl, sym, ap, subst, arith, ℕ, ◌<◌, Bool, true, false, cond, not, ◌&&◌, List, [], length, Option, Some, None, is_some, option_map, unwrap_or, slice_get, ◌⊎◌, inl, inr, nat_lt, ltb-true}
use Rattle.std.specs.Option.{option_map_or}
use Rattle.std.proofs.lemmas.Bool.{and_parts}
use Rattle.std.proofs.lemmas.List.Elements.{All-weaker}
use Rattle.std.proofs.lemmas.List.{length-map}
use Rattle.std.proofs.lemmas.Option.{same_Some, slice_get-map, slice_get_cases, slice_get_past}
use Rattle.cdc_base.specs.declared.bit.Bit.{Bit}
use Rattle.cdc_base.specs.declared.signal.Signal.{Signal}
use Rattle.cdc_base.specs.declared.signal.SigKind.{SigKind}
use Rattle.cdc_base.specs.declared.signal.SigKind.TheVariants.{Input, Register, Wire}
use Rattle.cell_graph.specs.declared.net.Net.{Net}
use Rattle.cell_graph.specs.declared.net.Reg.{Reg}
use Rattle.cell_graph.specs.Cofactor.{reads}
use Rattle.cell_graph.specs.Feeds.{node}
use Rattle.cell_graph.specs.Nets.{is_register}
use Rattle.cell_graph.specs.Origin.{origin}
use Rattle.cell_graph.specs.Reading.{Reading}
use Rattle.cell_graph.specs.Tree.{Tree, Const, bit}
use Rattle.cell_graph.specs.Unfolded.{IsNodeOf}
use Rattle.cell_graph.proofs.Sound.{reads_sound}
use Rattle.cell_graph.proofs.Words.{bit-zero}
use Rattle.clock_constraints.specs.declared.Constraints.{Constraints}
use Rattle.cofactor.specs.contracts.nodes.PlainCofactors.TheImpl as plain
use Rattle.domains.specs.declared.Domains.{Domains}
use Rattle.domains.specs.declared.port.Role.{Role}
use Rattle.domains.specs.declared.port.Role.TheVariants.{Pin, Clocked, Reset, Static}
use Rattle.domains.specs.Assignment.{clock_of, port_roles}
use Rattle.domains.specs.Clocks.{Roles, ReadsNone, input_clock, pin_at, pin_bits, register_of, role_at, signal_name, HasClock}
use Rattle.domains.specs.Clocks as net_clocks
use Rattle.domains.specs.Fit.{IsClockedAs}
use Rattle.cdc_model.specs.declared.scheme.Cover.{Cover}
use Rattle.cdc_model.specs.declared.scheme.GrayReg.{GrayReg}
use Rattle.cdc_model.specs.Design.{Design}
use Rattle.cdc_model.specs.Nets.{start_of}
use Rattle.cdc_model.specs.Nets as net_model
use Rattle.cdc_model.specs.Nets.{net_trees}
use Rattle.cdc_model.specs.Runs.{IsRun, Trace}
use Rattle.cdc_model.specs.Schemes.{AreTrees, Sync, Trees}
use Rattle.cdc_model.specs.Sound.{Sound}
use Rattle.cdc_model.specs.Together.{IsTogether}
use Rattle.cdc_model.specs.GrayShape.{IsGrayReg}
use Rattle.cdc_model.proofs.Net.{trees_are}
use Rattle.cdc_model.proofs.NetDesign.{cond_some, settles}
use Rattle.flat_meaning.specs.Values.{Words}
use Rattle.flat_meaning.specs.Design.{Flat, Next, bit_of, given, is_variable, kind_in, kind_is_variable, kind_value, pin_value, size_in}
use Rattle.flat_meaning.specs.Design as flat
use Rattle.flat_meaning.specs.SignalTrees.{clock_tree_of, next_tree_of}
use Rattle.flat_meaning.specs.Trees.{Selects}
use Rattle.flat_meaning.proofs.Elaboration.{law_of_elaboration}
use Rattle.flat_meaning.proofs.Placed.{each_of}
use Rattle.elaborate.specs.NetTrees.{IsRegisterOf}
use Rattle.elaborate.specs.Words.{as_word}
use Rattle.flat_model.specs.Clocked.{AreClocks, AreDomains, IsClocked, ReadsStateAlone, ReadsNoPin, has_state, stays, clock_by_kind, clock_of_signal, pin_for, pins_of, inactive_level}
use Rattle.flat_model.specs.Designs.{AreValues, IsMeaning, design_of, flat_trees, is_read_by_output, next_bit, next_tree, start_bit}
use Rattle.flat_model.specs.Laws.{IsNetOf}
use Rattle.flat_model.specs.Pinned.{IsHeld, IsPinned}
use Rattle.flat_model.proofs.Executed.{next_same}
use Rattle.flat_model.proofs.Fields.{found, made, next_trees, registers, same_bits, same_made, same_trees}
use Rattle.flat_model.proofs.PinnedRuns.{pinned_run, run_pinned}
use Rattle.flat_model.proofs.PinnedSound.{pinned_is_sound}
use Rattle.flat_model.proofs.PinnedTogether.{together_pinned}
use Rattle.flat_model.proofs.Registers.{next_of_register, register_has}
use Rattle.flat_model.proofs.Words.{cond_self, port_roles_word}

is_there : (o : Option Reg) → is_some o ≡ true → (r : Reg) × (o ≡ Some r)
is_there None h = cc
is_there (Some r) h = (r, refl)

is_missing : (o : Option Reg) → is_some o ≡ false → o ≡ None
is_missing None h = refl
is_missing (Some r) h = cc

module _ (f : Flat) (sel : Selects) (c : Constraints) (net : Net) (domains : Domains) (n : IsNetOf f sel c net domains) where
  -- the cells of a register have its trees
  register_cells : (sig : ℕ) → kind_in f.signals sig ≡ Register → (r : Reg) × (register_of net.regs sig ≡ Some r)
  register_cells sig e = is_there (register_of net.regs sig) (found f sel c net domains n sig ∙ ap is_register e)

  other_cells : (sig : ℕ) → is_register (kind_in f.signals sig) ≡ false → register_of net.regs sig ≡ None
  other_cells sig e = is_missing (register_of net.regs sig) (found f sel c net domains n sig ∙ e)

  -- ---- domains

  role_count : length f.signals ≡ length n.assigned.roles
  role_count = sym (length-map f.signals as_word) ∙ ap length (sym n.signals) ∙ sym n.fit.one_per_signal ∙ n.assigned.clock_by_sig.0

  clock_listed : (sig : ℕ) → sig < length f.signals → slice_get domains.clock_by_sig sig ≡ Some (net_clocks.clock_of_signal net.graph n.assigned.roles sig (register_of net.regs sig))
  clock_listed sig l = n.assigned.clock_by_sig.1 sig (subst (λ m. sig < m) role_count l)

  -- a wire has none
  wire_clock : (sig : ℕ) → sig < length f.signals → kind_in f.signals sig ≡ Wire → net_clocks.clock_of_signal net.graph n.assigned.roles sig (register_of net.regs sig) ≡ None
  wire_clock sig l e = elim (slice_get_cases f.signals sig).1 [
    | inl s ↦ (
        let kind : s.0.kind ≡ Wire = sym (ap (λ o. option_map_or (λ (x : Signal). x.kind) o Wire) s.2) ∙ e in
        let none : slice_get domains.clock_by_sig sig ≡ Some None = subst (IsClockedAs domains sig) kind (n.fit.signals sig (as_word s.0) (ap (λ (ss : List Signal). slice_get ss sig) n.signals ∙ slice_get-map as_word f.signals sig ∙ ap (option_map as_word) s.2)) in
        same_Some (net_clocks.clock_of_signal net.graph n.assigned.roles sig (register_of net.regs sig)) None (sym (clock_listed sig l) ∙ none))
    | inr p ↦ absurd (omega (arith, p.0))
  ]

  -- the clock of each signal is that by the design's trees
  same_clock : (sig : ℕ) → sig < length f.signals → net_clocks.clock_of_signal net.graph n.assigned.roles sig (register_of net.regs sig) ≡ clock_of_signal f sel n.assigned.roles sig
  same_clock sig l = go (kind_in f.signals sig) refl
    where
      go : (kind : SigKind) → kind_in f.signals sig ≡ kind → net_clocks.clock_of_signal net.graph n.assigned.roles sig (register_of net.regs sig) ≡ clock_by_kind f sel n.assigned.roles sig kind
      go Register e =
          let r = register_cells sig e in
          let has = register_has (IsRegisterOf f sel net.graph) net.regs sig r.0 n.has_trees.registers r.1 in
          ap (net_clocks.clock_of_signal net.graph n.assigned.roles sig) r.1
          ∙ ap (λ (t : Tree). pin_at n.assigned.roles (origin t 0)) (has.1.clock ∙ ap (clock_tree_of f sel) has.0)
      go Input e = ap (net_clocks.clock_of_signal net.graph n.assigned.roles sig) (other_cells sig (ap is_register e))
      go Wire e = wire_clock sig l e

  clocks_are : AreClocks f sel n.assigned.roles domains
  clocks_are = (n.assigned.clock_by_sig.0 ∙ sym role_count, λ sig l. clock_listed sig l ∙ ap Some (same_clock sig l))

  clock_is : (b : Bit) → clock_of domains b ≡ clock_of_signal f sel n.assigned.roles b.sig
  clock_is b = elim (slice_get_cases f.signals b.sig).1 [
    | inl s ↦ ap (λ o. unwrap_or o None) (clocks_are.1 b.sig s.1)
    | inr p ↦ ap (λ o. unwrap_or o None) (slice_get_past domains.clock_by_sig b.sig (omega (arith, p.0, clocks_are.0)))
        ∙ sym (ap (λ o. clock_by_kind f sel n.assigned.roles b.sig (option_map_or (λ (x : Signal). x.kind) o Wire)) p.1)
  ]

  -- a register's next value reads no pin
  reads_no_pin : (sig : ℕ) (r : Reg) → register_of net.regs sig ≡ Some r → ReadsNone plain.ghosts.reads net.graph (pin_bits 0 n.assigned.roles) r.next → ReadsNoPin f sel n.assigned.roles sig
  reads_no_pin sig r e none i l =
      let cell = n.next_cells sig r.next (next_of_register net.regs sig ∙ ap (option_map (λ (q : Reg). q.next)) e) in
      let wide = cell.1 ∙ same_bits f sel c net domains n sig in
      let has = register_has (IsRegisterOf f sel net.graph) net.regs sig r n.has_trees.registers e in
      let is_node : IsNodeOf net.graph (node r.next i) = (cell.0, omega (arith, wide, l)) in
      All-weaker (λ b. plain.ghosts.reads net.graph (node r.next i) b false) (λ b. reads [] (next_tree_of f sel sig) i b ≡ false)
      (λ b h. ap (λ (t : Tree). reads [] t i b) (sym (has.1.next ∙ ap (next_tree_of f sel) has.0)) ∙ sym (h n.is_net.graph is_node))
      (pin_bits 0 n.assigned.roles) (none i (omega (arith, wide, l)))

  registers_clocked : (sig : ℕ) → kind_in f.signals sig ≡ Register → IsClocked f sel n.assigned.roles sig
  registers_clocked sig e =
      let r = register_cells sig e in
      let has = register_has (IsRegisterOf f sel net.graph) net.regs sig r.0 n.has_trees.registers r.1 in
      let clocked = (register_has (λ (r : Reg). (k : ℕ) × HasClock plain.ghosts.reads net.graph n.assigned.roles r k) net.regs sig r.0 n.assigned.registers r.1).1 in (
        (clocked.0, ap (clock_by_kind f sel n.assigned.roles sig) e ∙ sym (ap (λ (t : Tree). pin_at n.assigned.roles (origin t 0)) (has.1.clock ∙ ap (clock_tree_of f sel) has.0)) ∙ clocked.1.0),
        reads_no_pin sig r.0 r.1 clocked.1.1,
      )

  pub are_domains : AreDomains f sel c n.assigned.roles domains
  are_domains = record {
    ports = sym (ap (λ (ss : List Signal). port_roles ss c) n.signals ∙ port_roles_word f.signals c n.sized) ∙ n.assigned.ports;
    registers = registers_clocked;
    clocks = n.assigned.clocks;
    groups = n.assigned.groups;
    group_by_clock = n.assigned.group_by_clock;
    clock_by_sig = clocks_are;
    statics = n.assigned.statics;
  }

  -- ---- pins

  abbrev pins : ℕ → flat.Pin
  pins = pins_of f c n.assigned.roles

  abbrev cells_design : Design
  cells_design = made (size_in f) (start_bit f) (registers f sel c net domains n) (next_tree f sel) domains

  -- a bit of no register and no clock is held where readings give it one value
  held : (b : Bit) → is_register (kind_in f.signals b.sig) ≡ false → clock_of_signal f sel n.assigned.roles b.sig ≡ None
      → ((r q : Reading) → given f pins r b ≡ given f pins q b) → IsHeld cells_design (given f pins) b
  held b e k one = record {
    register = ap (λ t. t && nat_lt b.at (size_in f b.sig)) e;
    clock = ap (λ o. cond (nat_lt b.at (size_in f b.sig)) o None) (clock_is b ∙ k) ∙ cond_self (nat_lt b.at (size_in f b.sig)) None;
    start = ap (λ t. cond (t && nat_lt b.at (size_in f b.sig)) (start_of f.signals b) None) e;
    one = one;
  }

  bits_are : (b : Bit) → IsHeld cells_design (given f pins) b ⊎ ((r : Reading) → given f pins r b ≡ r b)
  bits_are b = go (kind_in f.signals b.sig) refl
    where
      clock_at : (kind : SigKind) → kind_in f.signals b.sig ≡ kind → clock_of_signal f sel n.assigned.roles b.sig ≡ clock_by_kind f sel n.assigned.roles b.sig kind
      clock_at kind e = ap (clock_by_kind f sel n.assigned.roles b.sig) e

      value_at : (kind : SigKind) → kind_in f.signals b.sig ≡ kind → (r : Reading) → given f pins r b ≡ kind_value kind (pins b.sig) r b
      value_at kind e r = ap (λ k. kind_value k (pins b.sig) r b) e

      input : kind_in f.signals b.sig ≡ Input → (o : Option Role) → role_at n.assigned.roles b.sig ≡ o
          → IsHeld cells_design (given f pins) b ⊎ ((r : Reading) → given f pins r b ≡ r b)
      input e o h = by_role o h (λ r. value_at Input e r ∙ ap (λ o. pin_value (pin_for o (inactive_level c (signal_name f.signals b.sig))) r b) h) (clock_at Input e ∙ ap input_clock h)
        where
          by_role : (o : Option Role) → role_at n.assigned.roles b.sig ≡ o
              → ((r : Reading) → given f pins r b ≡ pin_value (pin_for o (inactive_level c (signal_name f.signals b.sig))) r b) → clock_of_signal f sel n.assigned.roles b.sig ≡ input_clock o
              → IsHeld cells_design (given f pins) b ⊎ ((r : Reading) → given f pins r b ≡ r b)
          by_role None h value clock = inr value
          by_role (Some (Pin k)) h value clock = inl (held b (ap is_register e) clock (λ r q. value r ∙ sym (value q)))
          by_role (Some (Clocked k)) h value clock = inr value
          by_role (Some Reset) h value clock = inl (held b (ap is_register e) clock (λ r q. value r ∙ sym (value q)))
          by_role (Some Static) h value clock = inr value

      go : (kind : SigKind) → kind_in f.signals b.sig ≡ kind → IsHeld cells_design (given f pins) b ⊎ ((r : Reading) → given f pins r b ≡ r b)
      go Register e = inr (value_at Register e)
      go Input e = input e (role_at n.assigned.roles b.sig) refl
      go Wire e = inl (held b (ap is_register e) (clock_at Wire e) (λ r q. value_at Wire e r ∙ sym (value_at Wire e q)))

  -- ---- next values

  module _ (values : Reading → Words) (are : AreValues f c n.assigned.roles values) where
    -- the next value of a bit is that of its tree in the reading where a register bit's is
    next_by : (r q : Reading) (x : Bit) → (kind_in f.signals x.sig ≡ Register → Next f (values r) x.sig x.at ≡ bit q (next_tree_of f sel x.sig) x.at)
        → next_bit f (values r) x ≡ bit q (next_tree f sel x.sig) x.at
    next_by r q x h = go (kind_in f.signals x.sig) refl
      where
        at_kind : (kind : SigKind) → kind_in f.signals x.sig ≡ kind → cond (is_register kind) (Next f (values r) x.sig x.at) false ≡ bit q (cond (is_register kind) (next_tree_of f sel x.sig) (Const 1 0)) x.at
            → next_bit f (values r) x ≡ bit q (next_tree f sel x.sig) x.at
        at_kind kind e k =
            ap (λ k. cond (is_register k) (Next f (values r) x.sig x.at) false) e ∙ k
            ∙ sym (ap (λ k. bit q (cond (is_register k) (next_tree_of f sel x.sig) (Const 1 0)) x.at) e)

        go : (kind : SigKind) → kind_in f.signals x.sig ≡ kind → next_bit f (values r) x ≡ bit q (next_tree f sel x.sig) x.at
        go Register e = at_kind Register e (h e)
        go Input e = at_kind Input e (sym (bit-zero x.at))
        go Wire e = at_kind Wire e (sym (bit-zero x.at))

    register_next : (r : Reading) (x : Bit) → x.at < size_in f x.sig → kind_in f.signals x.sig ≡ Register → Next f (values r) x.sig x.at ≡ bit (given f pins r) (next_tree_of f sel x.sig) x.at
    register_next r x l e =
        let law = law_of_elaboration f n.sound n.loop_free sel n.are_trees pins r in
        next_same f n.sound.sized (values r) law.values (law.one (values r) (are r)) f.clocked (each_of _ f.clocked n.sound.clocked) x.sig x.at l
        ∙ sym ((law.nexts x.sig (ap kind_is_variable e)).1 x.at l)

    next_is : (r : Reading) (x : Bit) → x.at < size_in f x.sig → next_bit f (values r) x ≡ bit (given f pins r) (next_tree f sel x.sig) x.at
    next_is r x l = next_by r (given f pins r) x (register_next r x l)

    -- ---- in every reading

    -- a state bit is as the reading has it
    is_given : (b : Bit) → has_state (kind_in f.signals b.sig) (role_at n.assigned.roles b.sig) ≡ true → (r : Reading) → given f pins r b ≡ r b
    is_given b h r = go (kind_in f.signals b.sig) refl h
      where
        by_role : (o : Option Role) → not (stays o) ≡ true → pin_value (pin_for o (inactive_level c (signal_name f.signals b.sig))) r b ≡ r b
        by_role None h = refl
        by_role (Some (Pin k)) h = cc
        by_role (Some (Clocked k)) h = refl
        by_role (Some Reset) h = cc
        by_role (Some Static) h = refl

        go : (kind : SigKind) → kind_in f.signals b.sig ≡ kind → has_state kind (role_at n.assigned.roles b.sig) ≡ true → given f pins r b ≡ r b
        go Register e h = ap (λ k. kind_value k (pins b.sig) r b) e
        go Input e h = ap (λ k. kind_value k (pins b.sig) r b) e ∙ by_role (role_at n.assigned.roles b.sig) h
        go Wire e h = cc

    next_anywhere : ReadsStateAlone f sel n.assigned.roles → (r : Reading) (x : Bit) → x.at < size_in f x.sig → next_bit f (values r) x ≡ bit r (next_tree f sel x.sig) x.at
    next_anywhere alone r x l = next_by r r x (λ e. register_next r x l e
        ∙ reads_sound [] (given f pins r) r tt tt (next_tree_of f sel x.sig) x.at (λ b h. is_given b (alone x.sig x.at b e l h) r))

    pub next_always : ReadsStateAlone f sel n.assigned.roles → (r : Reading) (x : Bit) → x.at < size_in f x.sig → next_bit f (values r) x ≡ (net_model.design_of net domains).next r x
    next_always none r x l = next_anywhere none r x l ∙ sym (ap (λ (t : Tree). bit r t x.at) (next_trees f sel c net domains n x.sig))

    -- ---- the design

    is_pinned : IsPinned cells_design (given f pins) (λ r x. next_bit f (values r) x)
    is_pinned = record {
      registers = λ b h. ltb-true b.at (size_in f b.sig) (and_parts (registers f sel c net domains n b.sig) (nat_lt b.at (size_in f b.sig)) h).1;
      clocked = λ b k h. ltb-true b.at (size_in f b.sig) (cond_some (nat_lt b.at (size_in f b.sig)) (clock_of domains b) k h).0;
      bits = bits_are;
      nexts = next_is;
    }

    -- and they are the next values of the net, where the reading has the pins' levels
    pub next_at_levels : (r : Reading) (x : Bit) → x.at < size_in f x.sig → next_bit f (values r) x ≡ (net_model.design_of net domains).next (given f pins r) x
    next_at_levels r x l = next_is r x l ∙ sym (ap (λ (t : Tree). bit (given f pins r) t x.at) (next_trees f sel c net domains n x.sig))

    pub sound_design : (covers : List Cover) (rings : List (List Bit)) (is_extra : Bit → Bit → Bool)
        → Sound (net_model.design_of net domains) covers rings is_extra → Sound (design_of f sel domains values) covers rings is_extra
    sound_design covers rings is_extra s =
        pinned_is_sound cells_design (given f pins) (λ r x. next_bit f (values r) x) is_pinned covers rings is_extra
        (subst (λ (d : Design). Sound d covers rings is_extra) (same_made f sel c net domains n) s)

    -- what the trees show is so, where no next value reads a level
    pub shows : ReadsStateAlone f sel n.assigned.roles → (grays : GrayReg → Bool) → ((g : GrayReg) → grays g ≡ true → IsGrayReg (design_of f sel domains values) (next_tree f sel) g)
        → AreTrees (design_of f sel domains values) (flat_trees f sel grays)
    shows none grays h = trees_are (design_of f sel domains values) (next_tree f sel) (is_read_by_output f sel) grays
        (record { next = λ r x reg. next_anywhere none r x (is_pinned.registers x reg); copied = λ x reg. refl })
        (settles net domains n.fit) is_pinned.clocked h

    -- runs of the flat design, with the pins at their levels, are runs of the net's
    pub net_run : Trace → Trace
    net_run run = pinned_run cells_design (given f pins) (λ r x. next_bit f (values r) x) is_pinned run

    pub is_net_run : (run : Trace) → IsRun (design_of f sel domains values) run → IsRun (net_model.design_of net domains) (net_run run)
    unfolding net_run
    is_net_run run h = subst (λ (d : Design). IsRun d (net_run run)) (sym (same_made f sel c net domains n)) (run_pinned cells_design (given f pins) (λ r x. next_bit f (values r) x) is_pinned run h)

    pub together_design : (grays : GrayReg → Bool) (syncs : List Sync) (run : Trace) (x : Bit) (group depth : ℕ)
        → IsTogether (net_model.design_of net domains) (net_trees net grays) syncs (net_run run) x group depth
        → IsTogether (design_of f sel domains values) (flat_trees f sel grays) syncs run x group depth
    unfolding net_run
    together_design grays syncs run x group depth h =
        together_pinned cells_design (given f pins) (λ r x. next_bit f (values r) x) is_pinned (flat_trees f sel grays) syncs x group depth run
        (subst (λ (t : Trees). IsTogether cells_design t syncs (net_run run) x group depth) (sym (same_trees f sel c net domains n grays))
        (subst (λ (d : Design). IsTogether d (net_trees net grays) syncs (net_run run) x group depth) (same_made f sel c net domains n) h))

  -- ---- there are such values

  abbrev some_values : Reading → Words
  some_values r = (law_of_elaboration f n.sound n.loop_free sel n.are_trees pins r).values

  pub has_meaning : (d : Design) × IsMeaning f c d
  has_meaning = (
    design_of f sel domains some_values,
    record {
      sel = sel;
      trees = n.are_trees;
      roles = n.assigned.roles;
      domains = domains;
      are_domains = are_domains;
      values = some_values;
      are_values = λ r. (law_of_elaboration f n.sound n.loop_free sel n.are_trees pins r).consistent;
      is = refl;
    },
  )
