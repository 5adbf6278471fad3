-- A record is replayed alike on a net and on the flat design of which it has the trees, where no expression reads a reset.
use Rattle.std.proofs.Common.{◌≡◌, ◌∙◌, refl, sym, ap, ap₂, subst, arith, ℕ, zero, suc, ◌+◌, ◌<◌, Bool, true, false, cond, not, ◌&&◌, ◌||◌, ◌==◌, eqb-true, nat_lt, ltb-true, List, [], ◌∷◌, ◌++◌, map, Option, Some, None, is_some, option_map, unwrap_or, slice_get, Ok, Result, inl, inr}
use Rattle.std.specs.List.{AllByRecursion as Each, list_any}
use Rattle.std.specs.Option.{option_map_or}
use Rattle.std.proofs.lemmas.Bool.{and_parts, or_parts}
use Rattle.std.proofs.lemmas.Option.{slice_get-map, slice_get_cases, slice_get_past}
use Rattle.std.proofs.Math.Path.{fun_ext}
use Rattle.cdc_base.specs.declared.bit.Bit.{Bit}
use Rattle.cdc_base.specs.declared.fault.Fault.{Fault}
use Rattle.cdc_base.specs.declared.signal.ResetPin.{ResetPin}
use Rattle.cdc_base.specs.declared.signal.Signal.{Signal}
use Rattle.cdc_base.specs.declared.signal.SigKind.{SigKind}
use Rattle.cdc_base.specs.declared.signal.SigKind.TheVariants.{Input, Register, Wire}
use Rattle.cell_graph.specs.declared.net.Net.{Net}
use Rattle.cell_graph.specs.Nets.{is_register}
use Rattle.cell_graph.specs.Reading.{Reading}
use Rattle.cell_graph.specs.Tree.{Const, Tree, bit}
use Rattle.clock_constraints.specs.declared.Constraints.{Constraints}
use Rattle.domains.specs.declared.Domains.{Domains}
use Rattle.domains.specs.declared.port.Role.{Role}
use Rattle.domains.specs.declared.port.Role.TheVariants.{Pin, Clocked, Reset, Static}
use Rattle.domains.specs.Assignment.{clock_of, port_roles}
use Rattle.domains.specs.Clocks.{Roles, input_clock, role_at, static_signals}
use Rattle.domains.specs.Clocks as clocks
use Rattle.domains.specs.Ports as ports
use Rattle.cdc_model.specs.declared.record.Record.{Record}
use Rattle.cdc_model.specs.Design.{Design}
use Rattle.cdc_model.specs.Nets.{bit_count, design_of, next_cell}
use Rattle.cdc_model.specs.Nets as net_model
use Rattle.cdc_model.specs.Replay.{replayed}
use Rattle.cdc_model.proofs.NetDesign.{cond_some}
use Rattle.flat_meaning.specs.Design.{Flat, given, is_variable, kind_in, kind_is_variable, kind_value, once, pin_value, size_in}
use Rattle.flat_meaning.specs.Design as flat
use Rattle.flat_meaning.specs.Flat.{Expr, Stmt, Target, assigns}
use Rattle.flat_meaning.specs.SignalTrees.{next_tree_of}
use Rattle.flat_meaning.specs.Trees.{Selects}
use Rattle.flat_meaning.proofs.Depth.{by_bool}
use Rattle.flat_meaning.proofs.Placed.{each_and, each_map, each_of}
use Rattle.flat_unfolding.specs.Drivers.{assigned_by}
use Rattle.flat_unfolding.specs.Laws.{IsWellClocked}
use Rattle.elaborate.specs.Words.{as_word}
use Rattle.settling_sim.specs.Starts.{HasStarts}
use Rattle.settling_sim.specs.State.{has_kind, is_clocked_input, is_state_signal, is_static}
use Rattle.settling_sim.specs.State as state
use Rattle.run_file.specs.Files as run_file
use Rattle.flat_model.specs.Clocked.{AreDomains, clock_by_kind, clock_of_signal, inactive_level, pin_for, pins_of}
use Rattle.flat_model.specs.Designs.{IsMeaning}
use Rattle.flat_model.specs.Laws.{IsNetOf}
use Rattle.flat_model.proofs.Fields.{next_trees, same_bits}
use Rattle.flat_model.proofs.Meanings.{same_design}
use Rattle.flat_model.proofs.NetDesign.{are_domains}
use Rattle.flat_model.proofs.OtherReplay.{IsAlike, IsQuiet, replay_held}
use Rattle.flat_model.proofs.Words.{cond_self}
use Rattle.signal_names.specs.Laws.{AreDifferent, names_in}
use Rattle.reset_reads.specs.Read.{Reads, TargetReads}
use Rattle.reset_reads.specs.Laws as unread
use Rattle.reset_reads.specs.Laws.{ReadsNoReset, is_reset_input, is_reset_signal, may_read}
use Rattle.replay_laws.proofs.Named.{holds, meaning_held, opened_quiet}
use Rattle.replay_laws.proofs.Roles.{declared_roles, reset_is, role_is}
use Rattle.replay_laws.proofs.Unread.{IsUnread, next_levels}

-- ---- static inputs

static_listed : (k : ℕ) (rs : Roles) (x : ℕ) → list_any (λ s. s == x) (static_signals k rs) ≡ true → (j : ℕ) × (x ≡ k + j) × (clocks.is_static (role_at rs j) ≡ true)
static_listed k [] x e = cc
static_listed k (r ∷ rs) x e = go (clocks.is_static r) refl e (static_listed (k + 1) rs x)
  where
    Found : Type 0
    Found = (j : ℕ) × (x ≡ k + j) × (clocks.is_static (role_at (r ∷ rs) j) ≡ true)

    later : ((j : ℕ) × (x ≡ (k + 1) + j) × (clocks.is_static (role_at rs j) ≡ true)) → Found
    later q = (suc q.0, (let e = q.1 in omega arith), q.2)

    first : (b : Bool) → (k == x) ≡ b → clocks.is_static r ≡ true → (b || list_any (λ s. s == x) (static_signals (k + 1) rs)) ≡ true
        → (list_any (λ s. s == x) (static_signals (k + 1) rs) ≡ true → (j : ℕ) × (x ≡ (k + 1) + j) × (clocks.is_static (role_at rs j) ≡ true)) → Found
    first true s t e rest = (zero, (let f = eqb-true k x s in omega arith), t)
    first false s t e rest = later (rest e)

    go : (b : Bool) → clocks.is_static r ≡ b → list_any (λ s. s == x) (cond b (k ∷ static_signals (k + 1) rs) (static_signals (k + 1) rs)) ≡ true
        → (list_any (λ s. s == x) (static_signals (k + 1) rs) ≡ true → (j : ℕ) × (x ≡ (k + 1) + j) × (clocks.is_static (role_at rs j) ≡ true)) → Found
    go true t e rest = first (k == x) refl t e rest
    go false t e rest = later (rest e)

-- ---- which bits hold state

-- a clock's pin and a reset are at 0
abbrev lowered_for : Option Role → flat.Pin
lowered_for None = flat.StatePin
lowered_for (Some (Pin k)) = flat.ClockPin
lowered_for (Some (Clocked k)) = flat.StatePin
lowered_for (Some Reset) = flat.ClockPin
lowered_for (Some Static) = flat.StatePin

abbrev is_low : flat.Pin → Bool
is_low flat.StatePin = false
is_low flat.ClockPin = true
is_low (flat.ResetPin inactive) = false

module _ (f : Flat) (sel : Selects) (c : Constraints) (net : Net) (domains : Domains) (n : IsNetOf f sel c net domains) where
  abbrev rs : Roles
  rs = n.assigned.roles

  are : AreDomains f sel c rs domains
  are = are_domains f sel c net domains n

  kind_is : (test : SigKind → Bool) → test Wire ≡ false → (sig : ℕ) → has_kind net test sig ≡ test (kind_in f.signals sig)
  kind_is test w sig =
      ap (λ (ss : List Signal). option_map_or (λ (s : Signal). test s.kind) (slice_get ss sig) false) n.signals
      ∙ ap (λ (o : Option Signal). option_map_or (λ (s : Signal). test s.kind) o false) (slice_get-map as_word f.signals sig)
      ∙ go (slice_get f.signals sig)
    where
      go : (o : Option Signal) → option_map_or (λ (s : Signal). test s.kind) (option_map as_word o) false ≡ test (option_map_or (λ (x : Signal). x.kind) o Wire)
      go None = sym w
      go (Some s) = refl

  clock_is : (b : Bit) → clock_of domains b ≡ clock_of_signal f sel rs b.sig
  clock_is b = elim (slice_get_cases f.signals b.sig).1 [
    | inl s ↦ ap (λ o. unwrap_or o None) (are.clock_by_sig.1 b.sig s.1)
    | inr p ↦ ap (λ o. unwrap_or o None) (slice_get_past domains.clock_by_sig b.sig (let l = p.0 in let m = are.clock_by_sig.0 in omega arith))
        ∙ sym (ap (λ o. clock_by_kind f sel rs b.sig (option_map_or (λ (x : Signal). x.kind) o Wire)) p.1)
  ]

  clock_at : (b : Bit) (kind : SigKind) → kind_in f.signals b.sig ≡ kind → clock_of domains b ≡ clock_by_kind f sel rs b.sig kind
  clock_at b kind e = clock_is b ∙ ap (clock_by_kind f sel rs b.sig) e

  -- what is declared is an input
  declared_input : (sig : ℕ) (role : Role) → role_at rs sig ≡ Some role → kind_in f.signals sig ≡ Input
  declared_input sig role e =
      let (x, there, input, is) = role_is _ f.signals rs sig role (declared_roles f c rs are.ports) e in
      ap (λ (o : Option Signal). option_map_or (λ (y : Signal). y.kind) o Wire) there ∙ go x.kind input
    where
      go : (k : SigKind) → ports.is_input k ≡ true → k ≡ Input
      go Input h = refl
      go Register h = cc
      go Wire h = cc

  static_is : (sig : ℕ) (o : Option Role) → role_at rs sig ≡ o → clocks.is_static o ≡ false → is_static domains sig ≡ false
  static_is sig o e h = by_bool (is_static domains sig)
      (λ t. let (j, at, is) = static_listed 0 rs sig (ap (list_any (λ s. s == sig)) (sym are.statics) ∙ t) in
      let same : j ≡ sig = omega arith in
      never (sym is ∙ ap (λ k. clocks.is_static (role_at rs k)) same ∙ ap clocks.is_static e ∙ h))
      (λ t. t)
    where
      never : true ≡ false → is_static domains sig ≡ false
      never k = cc

  -- what a signal has that isn't a register, has no clock of its own and isn't static
  none_held : (b : Bit) (k : SigKind) → kind_in f.signals b.sig ≡ k → is_register k ≡ false → clock_of domains b ≡ None → is_static domains b.sig ≡ false → holds net domains b ≡ false
  none_held b k e r clock s =
      ap₂ (λ x y. x || y)
      (ap₂ (λ x y. x || y) (kind_is is_register refl b.sig ∙ ap is_register e ∙ r)
      (ap (λ o. has_kind net state.is_input b.sig && is_some o) clock ∙ no_more (has_kind net state.is_input b.sig)))
      s
    where
      no_more : (t : Bool) → (t && false) ≡ false
      no_more true = refl
      no_more false = refl

  -- wires, clocks' pins and resets hold no state
  wire_none : (b : Bit) → kind_in f.signals b.sig ≡ Wire → holds net domains b ≡ false
  wire_none b e = none_held b Wire e refl (clock_at b Wire e) (by_role (role_at rs b.sig) refl)
    where
      by_role : (o : Option Role) → role_at rs b.sig ≡ o → is_static domains b.sig ≡ false
      by_role None h = static_is b.sig None h refl
      by_role (Some role) h = let i = declared_input b.sig role h in let z : Wire ≡ Input = sym e ∙ i in cc

  low_none : (b : Bit) → kind_in f.signals b.sig ≡ Input → (o : Option Role) → role_at rs b.sig ≡ o → is_low (lowered_for o) ≡ true → holds net domains b ≡ false
  low_none b e None h l = cc
  low_none b e (Some (Pin k)) h l = none_held b Input e refl (clock_at b Input e ∙ ap input_clock h) (static_is b.sig (Some (Pin k)) h refl)
  low_none b e (Some (Clocked k)) h l = cc
  low_none b e (Some Reset) h l = none_held b Input e refl (clock_at b Input e ∙ ap input_clock h) (static_is b.sig (Some Reset) h refl)
  low_none b e (Some Static) h l = cc

  -- a bit that holds no state has no clock
  unclocked : (b : Bit) → holds net domains b ≡ false → (design_of net domains).clock b ≡ None
  unclocked b h = ap (λ o. cond (net_model.is_within net b) o None) (go (kind_in f.signals b.sig) refl) ∙ cond_self (net_model.is_within net b) None
    where
      parts : ((has_kind net is_register b.sig || is_clocked_input net domains b.sig) ≡ false) × (is_static domains b.sig ≡ false)
      parts = or_parts (has_kind net is_register b.sig || is_clocked_input net domains b.sig) (is_static domains b.sig) h

      both : (has_kind net is_register b.sig ≡ false) × (is_clocked_input net domains b.sig ≡ false)
      both = or_parts (has_kind net is_register b.sig) (is_clocked_input net domains b.sig) parts.0

      none : (o : Option ℕ) → (true && is_some o) ≡ false → o ≡ None
      none None e = refl
      none (Some k) e = cc

      go : (k : SigKind) → kind_in f.signals b.sig ≡ k → clock_of domains b ≡ None
      go Register e = let r : true ≡ false = sym (kind_is is_register refl b.sig ∙ ap is_register e) ∙ both.0 in cc
      go Input e = none (clock_of domains b) (ap (λ t. t && is_some (clock_of domains b)) (sym (kind_is state.is_input refl b.sig ∙ ap state.is_input e)) ∙ both.1)
      go Wire e = clock_at b Wire e

  -- ---- readings of state bits alone

  abbrev lowered : ℕ → flat.Pin
  lowered s = lowered_for (role_at rs s)

  quiet_given : (r : Reading) → IsQuiet (holds net domains) r → given f lowered r ≡ r
  quiet_given r quiet = fun_ext (λ b. go b (kind_in f.signals b.sig) refl)
    where
      by_role : (b : Bit) → kind_in f.signals b.sig ≡ Input → (o : Option Role) → role_at rs b.sig ≡ o → pin_value (lowered_for o) r b ≡ r b
      by_role b e None h = refl
      by_role b e (Some (Pin k)) h = sym (quiet b (low_none b e (Some (Pin k)) h refl))
      by_role b e (Some (Clocked k)) h = refl
      by_role b e (Some Reset) h = sym (quiet b (low_none b e (Some Reset) h refl))
      by_role b e (Some Static) h = refl

      go : (b : Bit) (k : SigKind) → kind_in f.signals b.sig ≡ k → kind_value (kind_in f.signals b.sig) (lowered b.sig) r b ≡ r b
      go b Register e = ap (λ k. kind_value k (lowered b.sig) r b) e
      go b Input e = ap (λ k. kind_value k (lowered b.sig) r b) e ∙ by_role b e (role_at rs b.sig) refl
      go b Wire e = ap (λ k. kind_value k (lowered b.sig) r b) e ∙ sym (quiet b (wire_none b e))

  -- ---- nothing reads a reset

  module _ (nets : List ResetPin) (reads : ReadsNoReset (c.resets ++ nets) f) (clocked : IsWellClocked f) (differ : AreDifferent (names_in f)) where
    abbrev may : ℕ → Bool
    may = may_read (c.resets ++ nets) f

    reset_kind : (s : ℕ) → may s ≡ false → kind_in f.signals s ≡ Input
    reset_kind s = go (slice_get f.signals s)
      where
        input : (k : SigKind) (b : Bool) → not (unread.is_input k && b) ≡ false → k ≡ Input
        input Input b e = refl
        input Register b e = cc
        input Wire b e = cc

        go : (o : Option Signal) → not (option_map_or (is_reset_signal (c.resets ++ nets)) o false) ≡ false → option_map_or (λ (x : Signal). x.kind) o Wire ≡ Input
        go None e = cc
        go (Some x) e = input x.kind _ e

    may_of : (s : ℕ) (k : SigKind) → kind_in f.signals s ≡ k → unread.is_input k ≡ false → may s ≡ true
    may_of s k e i = by_bool (may s) (λ m. m) (λ m. never (sym (ap unread.is_input (sym e ∙ reset_kind s m)) ∙ i))
      where
        never : true ≡ false → may s ≡ true
        never h = cc

    locals : (ps : List (ℕ × Stmt)) → ((s : ℕ) → may s ≡ false → assigned_by (map (λ p. p.1) ps) s ≡ 0) → Each (λ (p : ℕ × Stmt). (s : ℕ) → assigns p.1 s ≡ true → may s ≡ true) ps
    locals [] h = tt
    locals (p ∷ ps) h = (
      λ s a. by_bool (may s) (λ m. m) (λ m. let z = h s m in let o : once (assigns p.1 s) ≡ 1 = ap once a in absurd (omega arith)),
      locals ps (λ s m. let z = h s m in omega arith),
    )

    abbrev AssignReads : Target × Expr → Type 0
    AssignReads a = TargetReads may may a.0 × Reads may may a.1

    unread_resets : IsUnread f may
    unread_resets = record {
      wires = λ s e. wire s (kind_in f.signals s) refl e;
      values = each_map {P = AssignReads} (λ a h. h.1) f.assigns (each_of _ f.assigns reads.assigns);
      combs = each_of _ f.combs reads.combs;
      clocked = each_and _ _ f.clocked (each_of _ f.clocked reads.clocked)
          (locals f.clocked (λ s m. clocked.others s (λ e. let z : Register ≡ Input = sym e ∙ reset_kind s m in different z)));
    }
      where
        different : Register ≡ Input → ⊥
        different e = cc

        wire : (s : ℕ) (k : SigKind) → kind_in f.signals s ≡ k → is_variable f s ≡ false → may s ≡ true
        wire s Register e v = let z : true ≡ false = sym (ap kind_is_variable e) ∙ v in cc
        wire s Input e v = let z : true ≡ false = sym (ap kind_is_variable e) ∙ v in cc
        wire s Wire e v = may_of s Wire e refl

    same_pins : (s : ℕ) → may s ≡ true → pins_of f c rs s ≡ lowered s
    same_pins s m = go (role_at rs s) refl
      where
        go : (o : Option Role) → role_at rs s ≡ o → pin_for o (inactive_level c (clocks.signal_name f.signals s)) ≡ lowered_for o
        go None e = refl
        go (Some (Pin k)) e = refl
        go (Some (Clocked k)) e = refl
        go (Some Reset) e = let z : false ≡ true = sym (ap not (reset_is f c rs are.ports differ nets s e)) ∙ m in cc
        go (Some Static) e = refl

    -- next values are the net's where the resets are at 0, too
    next_quiet : (r : Reading) (x : Bit) → IsQuiet (holds net domains) r → x.at < size_in f x.sig
        → (design_of net domains).next (given f (pins_of f c rs) r) x ≡ (design_of net domains).next r x
    next_quiet r x quiet l =
        ap (λ (t : Tree). bit (given f (pins_of f c rs) r) t x.at) (next_trees f sel c net domains n x.sig)
        ∙ go (kind_in f.signals x.sig) refl
        ∙ sym (ap (λ (t : Tree). bit r t x.at) (next_trees f sel c net domains n x.sig))
      where
        tree_for : SigKind → Tree
        tree_for k = cond (is_register k) (next_tree_of f sel x.sig) (Const 1 0)

        go : (k : SigKind) → kind_in f.signals x.sig ≡ k → bit (given f (pins_of f c rs) r) (tree_for (kind_in f.signals x.sig)) x.at ≡ bit r (tree_for (kind_in f.signals x.sig)) x.at
        go Register e = subst (λ k. bit (given f (pins_of f c rs) r) (tree_for k) x.at ≡ bit r (tree_for k) x.at) (sym e)
            (next_levels f n.sound may unread_resets (pins_of f c rs) lowered same_pins r n.loop_free sel n.are_trees x.sig x.at (ap kind_is_variable e) (may_of x.sig Register e refl) l
            ∙ ap (λ (q : Reading). bit q (next_tree_of f sel x.sig) x.at) (quiet_given r quiet))
        go Input e = subst (λ k. bit (given f (pins_of f c rs) r) (tree_for k) x.at ≡ bit r (tree_for k) x.at) (sym e) refl
        go Wire e = subst (λ k. bit (given f (pins_of f c rs) r) (tree_for k) x.at ≡ bit r (tree_for k) x.at) (sym e) refl

    module _ (d : Design) (m : IsMeaning f c d) where
      same_roles : m.roles ≡ rs
      same_roles = one (port_roles f.signals c) m.roles rs m.are_domains.ports are.ports
        where
          one : (a : Result Roles Fault) (x y : Roles) → a ≡ Ok x → a ≡ Ok y → x ≡ y
          one a x y e g = let z : Ok x ≡ Ok y = sym e ∙ g in cc

      alike : IsAlike (design_of net domains) (holds net domains) d.next
      alike = record {
        registers = λ b h. ltb-true b.at (bit_count net.graph.signals b.sig) (and_parts (is_some (next_cell net.regs b.sig)) (nat_lt b.at (bit_count net.graph.signals b.sig)) h).1;
        clocked = λ b k h. ltb-true b.at (bit_count net.graph.signals b.sig) (cond_some (nat_lt b.at (bit_count net.graph.signals b.sig)) (clock_of domains b) k h).0;
        unclocked = unclocked;
        same = λ r x quiet l.
            let k = subst (λ w. x.at < w) (same_bits f sel c net domains n x.sig) l in
            (same_design f sel c net domains n d m).next r x k
            ∙ ap (λ (q : Roles). (design_of net domains).next (given f (pins_of f c q) r) x) same_roles
            ∙ next_quiet r x quiet k;
      }

      -- a record that was read is replayed alike
      pub replays_alike : HasStarts net domains → (bytes : List ℕ) (r : Record) → run_file.IsMeaning net domains bytes r → replayed d r ≡ replayed (design_of net domains) r
      replays_alike starts bytes r means =
          ap (λ (e : Design). replayed e r) (same_design f sel c net domains n d m).fields
          ∙ replay_held (design_of net domains) (holds net domains) d.next alike r (opened_quiet net domains n.is_net starts bytes r means) (meaning_held net domains bytes r means)
