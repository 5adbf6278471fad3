-- A flat design has one meaning under constraints, but for the values of bits that aren't there.
use Rattle.std.proofs.Common.{◌≡◌, ◌∙◌, refl, sym, ap, ap₂, subst, arith, ℕ, zero, suc, ◌<◌, Bool, true, false, cond, List, [], ◌∷◌, ◌++◌, map, length, Option, Some, Result, Ok, slice_get, is_some, nat_lt, ltb-true}
use Rattle.std.specs.List.{AllZip, list_any}
use Rattle.std.specs.Str.{bytes_eq}
use Rattle.std.proofs.Math.Path.{fun_ext}
use Rattle.std.proofs.lemmas.Bool.{and_parts, both_ways, false_from_ne_true, or_left, or_right}
use Rattle.std.proofs.lemmas.List.Folds.{list_any-append}
use Rattle.std.proofs.lemmas.Slice.Eq.{bytes_eq-Decides}
use Rattle.cdc_base.specs.declared.bit.Bit.{Bit}
use Rattle.cdc_base.specs.declared.fault.Fault.{Fault}
use Rattle.cell_graph.specs.declared.net.Net.{Net}
use Rattle.cell_graph.specs.Nets.{bit_count, next_cell}
use Rattle.cell_graph.specs.Reading.{Reading}
use Rattle.cell_graph.specs.Tree.{Tree}
use Rattle.clock_constraints.specs.declared.ClockPin.{ClockPin}
use Rattle.clock_constraints.specs.declared.Constraints.{Constraints}
use Rattle.clock_constraints.specs.Refusals.{Text}
use Rattle.domains.specs.declared.Domains.{Domains}
use Rattle.domains.specs.Assignment.{clock_of, port_roles}
use Rattle.domains.specs.Clocks.{Roles}
use Rattle.domains.specs.Groups.{IsInGroup, mentions}
use Rattle.cdc_model.specs.declared.scheme.GrayReg.{GrayReg}
use Rattle.cdc_model.specs.Design.{Design}
use Rattle.cdc_model.specs.GrayShape.{IsGrayReg}
use Rattle.cdc_model.specs.Nets.{net_trees}
use Rattle.cdc_model.specs.Nets as net_model
use Rattle.cdc_model.specs.Recorded.{IsFinite}
use Rattle.cdc_model.specs.Replay.{replayed}
use Rattle.cdc_model.specs.Runs.{IsRun, Trace}
use Rattle.cdc_model.specs.Schemes.{AreTrees, Sync, Trees}
use Rattle.cdc_model.specs.Sound.{Sound}
use Rattle.cdc_model.specs.Together.{IsTogether}
use Rattle.cdc_model.specs.Verdict.{IsVerdict}
use Rattle.cdc_model.proofs.NetDesign.{cond_some, net_is_finite}
use Rattle.flat_meaning.specs.Design.{Flat, given}
use Rattle.flat_meaning.specs.Trees.{Selects}
use Rattle.flat_meaning.proofs.Unfolded.{trees_law}
use Rattle.flat_model.specs.Clocked.{AreDomains, ReadsStateAlone, pins_of}
use Rattle.flat_model.specs.Designs.{AreValues, IsMeaning, design_of, flat_trees, next_bit, next_tree}
use Rattle.flat_model.specs.Laws.{DesignsAreFinite, DesignsShowWhatIsSo, IsNetOf, IsSameDesign, NetsAreTheirDesigns, NextsAreTheNets, ReplaysAreTheNets, SoundNetsAreSoundDesigns, VerdictsAreTheDesigns}
use Rattle.flat_model.proofs.Fields.{next_trees, same_bits, same_made, same_trees}
use Rattle.flat_model.proofs.NetDesign.{are_domains, is_net_run, net_run, next_always, next_at_levels, shows, sound_design, together_design}
use Rattle.flat_model.proofs.OtherNext.{gray_reg, verdict_same}
use Rattle.flat_model.proofs.OtherReplay.{replay_same}

-- ---- groups

-- what was mentioned before is left out
mentioned_new : (before ns : List Text) (i : ℕ) (n : Text) → slice_get (mentions before ns) i ≡ Some n → list_any (bytes_eq n) before ≡ false
mentioned_new before [] i n h = cc
mentioned_new before (m ∷ ns) i n h = go (list_any (bytes_eq m) before) refl i h (mentioned_new before ns) (mentioned_new (before ++ m ∷ []) ns)
  where
    shorter : list_any (bytes_eq n) (before ++ m ∷ []) ≡ false → list_any (bytes_eq n) before ≡ false
    shorter k = false_from_ne_true (list_any (bytes_eq n) before)
        (λ t. both_ways (list_any (bytes_eq n) (before ++ m ∷ [])) k (list_any-append (bytes_eq n) before (m ∷ []) ∙ or_left (list_any (bytes_eq n) before) (list_any (bytes_eq n) (m ∷ [])) t))

    go : (b : Bool) → list_any (bytes_eq m) before ≡ b → (i : ℕ) → slice_get (cond b (mentions before ns) (m ∷ mentions (before ++ m ∷ []) ns)) i ≡ Some n
        → ((j : ℕ) (q : Text) → slice_get (mentions before ns) j ≡ Some q → list_any (bytes_eq q) before ≡ false)
        → ((j : ℕ) (q : Text) → slice_get (mentions (before ++ m ∷ []) ns) j ≡ Some q → list_any (bytes_eq q) (before ++ m ∷ []) ≡ false) → list_any (bytes_eq n) before ≡ false
    go true e i h same more = same i n h
    go false e zero h same more = let first : m ≡ n = cc in ap (λ k. list_any (bytes_eq k) before) (sym first) ∙ e
    go false e (suc i) h same more = shorter (more i n h)

-- a group has one number
mentioned_once : (before ns : List Text) (i j : ℕ) (n : Text) → slice_get (mentions before ns) i ≡ Some n → slice_get (mentions before ns) j ≡ Some n → i ≡ j
mentioned_once before [] i j n h k = cc
mentioned_once before (m ∷ ns) i j n h k = go (list_any (bytes_eq m) before) i j h k (λ i j. mentioned_once before ns i j n) (λ i j. mentioned_once (before ++ m ∷ []) ns i j n)
  where
    again : (i : ℕ) → slice_get (mentions (before ++ m ∷ []) ns) i ≡ Some n → m ≡ n → ⊥
    again i h e = both_ways (list_any (bytes_eq n) (before ++ m ∷ [])) (mentioned_new (before ++ m ∷ []) ns i n h)
        (list_any-append (bytes_eq n) before (m ∷ []) ∙ or_right (list_any (bytes_eq n) before) (list_any (bytes_eq n) (m ∷ []))
        (or_left (bytes_eq n m) false ((bytes_eq-Decides n m).1 (sym e))))

    go : (b : Bool) (i j : ℕ) → slice_get (cond b (mentions before ns) (m ∷ mentions (before ++ m ∷ []) ns)) i ≡ Some n
        → slice_get (cond b (mentions before ns) (m ∷ mentions (before ++ m ∷ []) ns)) j ≡ Some n
        → ((i j : ℕ) → slice_get (mentions before ns) i ≡ Some n → slice_get (mentions before ns) j ≡ Some n → i ≡ j)
        → ((i j : ℕ) → slice_get (mentions (before ++ m ∷ []) ns) i ≡ Some n → slice_get (mentions (before ++ m ∷ []) ns) j ≡ Some n → i ≡ j) → i ≡ j
    go true i j h k same more = same i j h k
    go false zero zero h k same more = refl
    go false zero (suc j) h k same more = absurd (again j k (let first : m ≡ n = cc in first))
    go false (suc i) zero h k same more = absurd (again i h (let first : m ≡ n = cc in first))
    go false (suc i) (suc j) h k same more = ap suc (more i j h k)

one_group : (groups ns : List Text) → groups ≡ mentions [] ns → (cs : List ClockPin) (ks js : List ℕ) → AllZip (IsInGroup groups) cs ks → AllZip (IsInGroup groups) cs js → ks ≡ js
one_group groups ns e [] [] [] h k = refl
one_group groups ns e [] [] (j ∷ js) h k = absurd k
one_group groups ns e [] (i ∷ ks) js h k = absurd h
one_group groups ns e (c ∷ cs) [] js h k = absurd h
one_group groups ns e (c ∷ cs) (i ∷ ks) [] h k = absurd k
one_group groups ns e (c ∷ cs) (i ∷ ks) (j ∷ js) h k =
    ap₂ (λ x xs. x ∷ xs) (mentioned_once [] ns i j c.group (ap (λ gs. slice_get gs i) (sym e) ∙ h.0) (ap (λ gs. slice_get gs j) (sym e) ∙ k.0))
    (one_group groups ns e cs ks js h.1 k.1)

-- ---- domains

-- lists with the same items are the same
same_list : {A : Type 0} (xs ys : List A) → length xs ≡ length ys → ((i : ℕ) → i < length xs → slice_get xs i ≡ slice_get ys i) → xs ≡ ys
same_list [] [] l h = refl
same_list [] (y ∷ ys) l h = absurd (omega (arith, l))
same_list (x ∷ xs) [] l h = absurd (omega (arith, l))
same_list (x ∷ xs) (y ∷ ys) l h = ap₂ (λ z zs. z ∷ zs) (let first : Some x ≡ Some y = h zero (omega arith) in cc) (same_list xs ys (omega (arith, l)) (λ i k. h (suc i) (omega (arith, k))))

module _ (f : Flat) (sel : Selects) (c : Constraints) (roles : Roles) where
  abbrev of_fields : List ClockPin → List Text → List (Option ℕ) → List ℕ → List ℕ → Domains
  of_fields clocks groups by_sig by_clock statics = record { clocks = clocks; groups = groups; clock_by_sig = by_sig; group_by_clock = by_clock; statics = statics }

  one_domains : (d e : Domains) → AreDomains f sel c roles d → AreDomains f sel c roles e → d ≡ e
  one_domains d e a b =
      ap₂ (λ clocks groups. of_fields clocks groups d.clock_by_sig d.group_by_clock d.statics) (a.clocks ∙ sym b.clocks) same_groups
      ∙ ap₂ (λ by_sig by_clock. of_fields e.clocks e.groups by_sig by_clock d.statics)
      (same_list d.clock_by_sig e.clock_by_sig (a.clock_by_sig.0 ∙ sym b.clock_by_sig.0)
      (λ i l. let k = a.clock_by_sig.0 in a.clock_by_sig.1 i (omega (arith, k, l)) ∙ sym (b.clock_by_sig.1 i (omega (arith, k, l)))))
      (one_group e.groups (map (λ (k : ClockPin). k.group) c.clocks) b.groups c.clocks d.group_by_clock e.group_by_clock
      (subst (λ (gs : List Text). AllZip (IsInGroup gs) c.clocks d.group_by_clock) same_groups a.group_by_clock) b.group_by_clock)
      ∙ ap (of_fields e.clocks e.groups e.clock_by_sig e.group_by_clock) (a.statics ∙ sym b.statics)
    where
      same_groups : d.groups ≡ e.groups
      same_groups = a.groups ∙ sym b.groups

-- ---- meanings

same_ok : {A : Type 0} (r : Result A Fault) (x y : A) → r ≡ Ok x → r ≡ Ok y → x ≡ y
same_ok r x y h k = let e : Ok x ≡ Ok y = sym h ∙ k in cc

module _ (f : Flat) (sel : Selects) (c : Constraints) (net : Net) (domains : Domains) (n : IsNetOf f sel c net domains) (d : Design) (m : IsMeaning f c d) where
  same_sel : m.sel ≡ sel
  same_sel =
      let law = trees_law f n.sound n.loop_free in
      fun_ext (λ s. fun_ext (λ at. fun_ext (λ w. law.2 m.sel m.trees s at w ∙ sym (law.2 sel n.are_trees s at w))))

  same_roles : m.roles ≡ n.assigned.roles
  same_roles = same_ok (port_roles f.signals c) m.roles n.assigned.roles m.are_domains.ports (are_domains f sel c net domains n).ports

  same_domains : m.domains ≡ domains
  same_domains = one_domains f sel c n.assigned.roles m.domains domains
      (subst (λ (roles : Roles). AreDomains f sel c roles m.domains) same_roles (subst (λ (s : Selects). AreDomains f s c m.roles m.domains) same_sel m.are_domains))
      (are_domains f sel c net domains n)

  pub values_are : AreValues f c n.assigned.roles m.values
  values_are = subst (λ (roles : Roles). AreValues f c roles m.values) same_roles m.are_values

  -- what it means is the design by the net's domains
  pub meaning_is : d ≡ design_of f sel domains m.values
  meaning_is = m.is ∙ ap₂ (λ (s : Selects) (k : Domains). design_of f s k m.values) same_sel same_domains

pub same_design : NetsAreTheirDesigns
same_design f sel c net domains n d m =
    let is = meaning_is f sel c net domains n d m in
    record {
      fields = is ∙ sym (ap (λ (e : Design). record e { next = λ r x. next_bit f (m.values r) x }) (same_made f sel c net domains n))
          ∙ ap (λ (next : Reading → Bit → Bool). record (net_model.design_of net domains) { next = next }) (sym (ap (λ (e : Design). e.next) is));
      next = λ r x l. ap (λ (e : Design). e.next r x) is ∙ next_at_levels f sel c net domains n m.values (values_are f sel c net domains n d m) r x l
          ∙ ap (λ (roles : Roles). (net_model.design_of net domains).next (given f (pins_of f c roles) r) x) (sym (same_roles f sel c net domains n d m));
      trees = λ grays. ap (λ (s : Selects). flat_trees f s grays) (same_sel f sel c net domains n d m) ∙ same_trees f sel c net domains n grays;
    }

pub nexts_meaning : NextsAreTheNets
nexts_meaning f sel c net domains n d m none r x l =
    ap (λ (e : Design). e.next r x) (meaning_is f sel c net domains n d m)
    ∙ next_always f sel c net domains n m.values (values_are f sel c net domains n d m)
    (subst (λ (roles : Roles). ReadsStateAlone f sel roles) (same_roles f sel c net domains n d m) (subst (λ (s : Selects). ReadsStateAlone f s m.roles) (same_sel f sel c net domains n d m) none)) r x l

pub replays_meaning : ReplaysAreTheNets
replays_meaning f sel c net domains n d m none r =
    let net_design = net_model.design_of net domains in
    let same = same_design f sel c net domains n d m in
    ap (λ (e : Design). replayed e r) same.fields
    ∙ replay_same net_design d.next
    (λ b h. ltb-true b.at (bit_count net.graph.signals b.sig) (and_parts (is_some (next_cell net.regs b.sig)) (nat_lt b.at (bit_count net.graph.signals b.sig)) h).1)
    (λ b k h. ltb-true b.at (bit_count net.graph.signals b.sig) (cond_some (nat_lt b.at (bit_count net.graph.signals b.sig)) (clock_of domains b) k h).0)
    (λ q x l. nexts_meaning f sel c net domains n d m none q x (subst (λ w. x.at < w) (same_bits f sel c net domains n x.sig) l)) r

pub trees_meaning : DesignsShowWhatIsSo
trees_meaning f sel c net domains n d m none grays h =
    let is = meaning_is f sel c net domains n d m in
    let sels = same_sel f sel c net domains n d m in
    subst (λ (e : Design). AreTrees e (flat_trees f m.sel grays)) (sym is)
    (subst (λ (s : Selects). AreTrees (design_of f sel domains m.values) (flat_trees f s grays)) (sym sels)
    (shows f sel c net domains n m.values (values_are f sel c net domains n d m)
    (subst (λ (roles : Roles). ReadsStateAlone f sel roles) (same_roles f sel c net domains n d m) (subst (λ (s : Selects). ReadsStateAlone f s m.roles) sels none)) grays
    (λ g k. subst (λ (s : Selects). IsGrayReg (design_of f sel domains m.values) (next_tree f s) g) sels (subst (λ (e : Design). IsGrayReg e (next_tree f m.sel) g) is (h g k)))))

pub finite_meaning : DesignsAreFinite
finite_meaning f sel c net domains n d m =
    let finite = net_is_finite net domains n.fit in
    subst IsFinite (sym (same_design f sel c net domains n d m).fields)
    (record { registers = finite.registers; inputs = finite.inputs; numbered = finite.numbered; input_clock = finite.input_clock })

pub sound_meaning : SoundNetsAreSoundDesigns
sound_meaning f sel c net domains n covers rings is_extra s d m =
    subst (λ (e : Design). Sound e covers rings is_extra) (sym (meaning_is f sel c net domains n d m))
    (sound_design f sel c net domains n m.values (values_are f sel c net domains n d m) covers rings is_extra s)

-- runs of what it means, with the pins at their levels, are runs of the net's design
module _ (f : Flat) (sel : Selects) (c : Constraints) (net : Net) (domains : Domains) (n : IsNetOf f sel c net domains) (d : Design) (m : IsMeaning f c d) where
  abbrev pub net_run_of : Trace → Trace
  net_run_of = net_run f sel c net domains n m.values (values_are f sel c net domains n d m)

  pub is_net_run_of : (run : Trace) → IsRun d run → IsRun (net_model.design_of net domains) (net_run_of run)
  is_net_run_of run h = is_net_run f sel c net domains n m.values (values_are f sel c net domains n d m) run
      (subst (λ (e : Design). IsRun e run) (meaning_is f sel c net domains n d m) h)

  pub register_same : (x : Bit) → d.is_register x ≡ true → (net_model.design_of net domains).is_register x ≡ true
  register_same x h = ap (λ (e : Design). e.is_register x) (same_made f sel c net domains n) ∙ ap (λ (e : Design). e.is_register x) (sym (meaning_is f sel c net domains n d m)) ∙ h

  pub together_meaning : (grays : GrayReg → Bool) (syncs : List Sync) (run : Trace) (x : Bit) (group depth : ℕ)
      → IsTogether (net_model.design_of net domains) (net_trees net grays) syncs (net_run_of run) x group depth
      → IsTogether d (flat_trees f m.sel grays) syncs run x group depth
  together_meaning grays syncs run x group depth h =
      subst (λ (e : Design). IsTogether e (flat_trees f m.sel grays) syncs run x group depth) (sym (meaning_is f sel c net domains n d m))
      (subst (λ (s : Selects). IsTogether (design_of f sel domains m.values) (flat_trees f s grays) syncs run x group depth) (sym (same_sel f sel c net domains n d m))
      (together_design f sel c net domains n m.values (values_are f sel c net domains n d m) grays syncs run x group depth h))

-- the verdict is the net's
pub verdict_meaning : VerdictsAreTheDesigns
verdict_meaning f sel c net domains n is_extra e w d m = record {
  grays = w.grays;
  finds = λ g. (λ h. to_flat g ((w.finds g).0 h), λ h. (w.finds g).1 (from_flat g h));
  syncs = w.syncs;
  loads = w.loads;
  is_verdict =
      subst (λ (x : Design). IsVerdict x (flat_trees f m.sel w.grays) is_extra w.syncs w.loads w.verdict) (sym same.fields)
      (verdict_same (net_model.design_of net domains) (flat_trees f m.sel w.grays) (net_model.design_of net domains).next d.next is_extra w.syncs w.loads w.verdict
      (subst (λ (t : Trees). IsVerdict (net_model.design_of net domains) t is_extra w.syncs w.loads w.verdict) (sym (same.trees w.grays)) w.is_verdict));
}
  where
    same : IsSameDesign f c net domains d m
    same = same_design f sel c net domains n d m

    trees_same : net_model.next_tree net ≡ next_tree f m.sel
    trees_same = fun_ext (next_trees f sel c net domains n) ∙ ap (next_tree f) (sym (same_sel f sel c net domains n d m))

    to_flat : (g : GrayReg) → IsGrayReg (net_model.design_of net domains) (net_model.next_tree net) g → IsGrayReg d (next_tree f m.sel) g
    to_flat g h =
        subst (λ (x : Design). IsGrayReg x (next_tree f m.sel) g) (sym same.fields)
        (gray_reg (net_model.design_of net domains) (net_trees net w.grays) (net_model.design_of net domains).next d.next (next_tree f m.sel) g
        (subst (λ (tree : ℕ → Tree). IsGrayReg (net_model.design_of net domains) tree g) trees_same h))

    from_flat : (g : GrayReg) → IsGrayReg d (next_tree f m.sel) g → IsGrayReg (net_model.design_of net domains) (net_model.next_tree net) g
    from_flat g h =
        subst (λ (tree : ℕ → Tree). IsGrayReg (net_model.design_of net domains) tree g) (sym trees_same)
        (gray_reg (net_model.design_of net domains) (net_trees net w.grays) d.next (net_model.design_of net domains).next (next_tree f m.sel) g
        (subst (λ (x : Design). IsGrayReg x (next_tree f m.sel) g) same.fields h))
