-- What visits make of a design that is well sized, and the flat design that comes of it.
use Rattle.std.proofs.Common.{◌≡◌, ℕ, zero, suc, ◌+◌, ◌≤◌, false, List, [], ◌∷◌, ◌++◌, length, Option, Some, None, refl, sym, subst, ◌∙◌, arith, rules}
use Rattle.std.specs.Prelude.{All, codes}
use Rattle.std.specs.List.{list_any}
use Rattle.std.proofs.lemmas.List.Elements.{All-cons, All-nil, All-push, All-append}
use Rattle.cdc_base.specs.declared.fault.Place.{Place}
use Rattle.cdc_base.specs.declared.signal.Signal.{Signal}
use Rattle.cdc_base.specs.declared.signal.ResetPin.{ResetPin}
use Rattle.cdc_base.specs.Words.{is_in}
use Rattle.verilog_reading.specs.SourceTree.{DeclTree, ConnsTree, BodyTree, param, decl, assign, gate, instance, always, initial, ItemTree, ModuleTree}
use Rattle.flat_meaning.specs.Flat.{Expr, size, Target, Stmt}
use Rattle.flat_meaning.specs.Design.{Flat, size_in}
use Rattle.flat_unfolding.specs.Outcome.{Text, Outcome, good, then_, each, refused_if, by_number, judged}
use Rattle.flat_unfolding.specs.Names.{no_value, Meaning, is_declared, Entry, width_at, printed_part}
use Rattle.flat_unfolding.specs.Parameters.{Override, Overrides, parameter, params_of, parameters}
use Rattle.flat_unfolding.specs.Declarations.{header_of, header_decls, declarations}
use Rattle.flat_unfolding.specs.Instances.{override_rules, overrides_of, connection_rules, links_of, connected, leaning_of, is_short}
use Rattle.flat_unfolding.specs.Design.{Design, no_design, Stage, look_of}
use Rattle.flat_unfolding.specs.Signals.{constants_from, with_constants, with_free, signal_of, signals_from}
use Rattle.flat_unfolding.specs.Starts.{initial_starts, so_far}
use Rattle.flat_unfolding.specs.Unfolding.{module_named, declared_value, Visit, instance_of, instance_item, item_of, item, header_values, with_resets, visit, top_ports, modules_differ, finished, from_top, unfolded}
use Rattle.flat_unfolding.specs.Formed.{IsDeclFormed, IsBodyFormed, IsModuleFormed, IsSourceFormed}
use Rattle.flat_unfolding.specs.Sized.{IsSized, IsTargetSized, IsStmtSized, any, IsSizedFlat}
use Rattle.flat_unfolding.specs.Laws.{SizesLaw}
use Rattle.flat_unfolding.proofs.Steps.{good_is, good_then, judged_is, none_of_both, each_all}
use Rattle.flat_unfolding.proofs.Formed.{IsParamIn, params_formed, header_formed, found_formed}
use Rattle.flat_unfolding.proofs.Terms.{IsWide}
use Rattle.flat_unfolding.proofs.Known.{reg_at, top_at, IsNamed}
use Rattle.flat_unfolding.proofs.Grown.{told_none, width_some, Grows, grows_itself, grows_on, names_on, all_on, expr_agrees, target_agrees, stmt_agrees}
use Rattle.flat_unfolding.proofs.Stages.{words_of, drivable_at, IsAssignIn, IsCombIn, IsClockedIn, IsDesign, IsStage, IsNext, stays, assign_next, gate_next, always_next, starts_next, value_next}
use Rattle.flat_unfolding.proofs.Declared.{IsDeclaring, AreWide, parameter_declares, declarations_declare}
use Rattle.flat_unfolding.proofs.Directed.{declarations_know_ports}
use Rattle.flat_unfolding.proofs.Ports.{links_fine, overrides_fine, OpensPorts, resets_declare, connected_opens, top_opens}
use Rattle.flat_unfolding.proofs.Free.{free_width}
use Rattle.flat_unfolding.proofs.Constants.{constants_hold}
use Rattle.flat_unfolding.proofs.Visits.{flattened, accepted, flat_widths}

-- a stage behind the first
record IsBehind (d : Design) (s : Stage) : Type 0 where
  pub stage : IsStage s
  pub grows : Grows d.entries s.design.entries

next_behind : (d : Design) (s t : Stage) → IsNext s t → IsBehind d s → IsBehind d t
next_behind d s t n h = record { stage = n.stage; grows = grows_on d.entries s.design.entries t.design.entries h.grows n.grows }

-- ---- visits

-- a visit keeps designs well sized, and only declares further signals
abbrev pub KeepsSizes : Visit → Type 0
KeepsSizes v = (prefix : Text) (visiting : List Text) (m : ModuleTree) (overrides : Overrides) (ports : Stage → Stage) (d : Design) (e : Stage) → v prefix visiting m overrides ports d ≡ good e
    → IsModuleFormed m → AreWide overrides → OpensPorts m d ports → IsDesign d → IsDesign e.design × Grows d.entries e.design.entries

-- what a visit does of a module, whatever it does of the items
pub level_sizes : (step : Stage → ItemTree → Outcome Stage) → ((s : Stage) (i : ItemTree) (t : Stage) → IsBodyFormed i.body → step s i ≡ good t → IsStage s → IsNext s t)
    → (prefix : Text) (m : ModuleTree) (overrides : Overrides) (ports : Stage → Stage) (d : Design) (e : Stage)
    → then_ (parameters overrides m (record { names = []; design = d })) (λ s. then_ (declarations prefix m s) (λ t.
    then_ (header_values m (ports (with_resets (length d.entries) t))) (λ u. each step u m.items))) ≡ good e
    → IsModuleFormed m → AreWide overrides → OpensPorts m d ports → IsDesign d → IsDesign e.design × Grows d.entries e.design.entries
level_sizes step keeps prefix m overrides ports d e q f o k h =
    let first : Stage = record { names = []; design = d } in
    let a = good_then (parameters overrides m first) _ e q in
    let b = good_then (declarations prefix m a.0) _ e a.2 in
    let r = with_resets (length d.entries) b.0 in
    let c = good_then (header_values m (ports r)) _ e b.2 in
    let begun : IsDeclaring d first = record {
      same = refl;
      grows = grows_itself d.entries;
      entries = h.entries;
      names = All-nil _;
      fresh = All-nil _;
      plain = none_beyond d.entries;
    } in
    let fa = each_all IsParamIn (IsDeclaring d) (parameter overrides) (λ s q t w. parameter_declares d overrides o s q t w.1) first (params_of m) a.0 (params_formed m f) a.1 begun in
    let fb = declarations_declare d prefix m a.0 b.0 b.1 fa in
    let fr = resets_declare m d (length d.entries) b.0 fb (declarations_know_ports d prefix m a.0 b.0 b.1 fa) in
    let opened = k r h fr.0 fr.1 in
    let fo : IsBehind d (ports r) = record { stage = opened.stage; grows = opened.grows } in
    let fc = each_all IsDeclFormed (IsBehind d) (λ s (x : DeclTree). declared_value s m.place x) (λ s x t w z y. next_behind d s t (value_next s y.stage m.place x.name x.init x.kind t w.2 z) y)
    (ports r) (header_decls m) c.0 (header_formed m.ports f.ports) c.1 fo in
    let fi = each_all (λ (x : ItemTree). IsBodyFormed x.body) (IsBehind d) step (λ s x t w z y. next_behind d s t (keeps s x t w z y.stage) y) c.0 m.items e f.items c.2 fc in
    (fi.stage.design, fi.grows)
  where
    none_beyond : (es : List Entry) (i : ℕ) → length es ≤ i → top_at es i ≡ false
    none_beyond es i l = told_none (λ (e : Entry). e.is_top_input) false es i l

module _ (modules : List ModuleTree) (formed : IsSourceFormed modules) where
  module _ (visiting : List Text) (prefix : Text) (v : Visit) (keeps : KeepsSizes v) where
    instance_next : (s : Stage) → IsStage s → (p : Place) (m : ModuleTree) → IsModuleFormed m → (params : ConnsTree) (x : Text) (ports : ConnsTree) → IsBodyFormed (instance m.name params x ports) → (t : Stage)
        → instance_of modules visiting prefix v s p m params x ports ≡ good t → IsNext s t
    instance_next s h p m f params x ports g t e =
        let look = look_of s in let links = links_of look m ports in
        let a = good_then (refused_if (is_in visiting m.name) 303 (Some p) m.name) _ t e in
        let b = good_then (refused_if (is_declared s.names x) 304 (Some p) x) _ t a.2 in
        let c = good_then (judged by_number p (override_rules look m params ++ connection_rules look m ports) (tt {0})) _ t b.2 in
        let j = none_of_both (override_rules look m params) (connection_rules look m ports) (judged_is by_number p _ _ c.0 c.1).0 in
        let d = good_then (v (prefix ++ printed_part x ++ codes ".") (m.name ∷ visiting) m (overrides_of look m params) (connected links) s.design) _ t c.2 in
        let k = keeps (prefix ++ printed_part x ++ codes ".") (m.name ∷ visiting) m (overrides_of look m params) (connected links) s.design d.0 d.1 f
        (overrides_fine s h m params g.0 j.0) (connected_opens m s.design links (links_fine s h m ports g.1 j.1)) h.design in
        let l = good_then (refused_if (list_any (is_short d.0) (leaning_of look m params ports)) 306 (Some p) m.name) _ t d.2 in
        let es = d.0.design.entries in
        subst (IsNext s) (good_is _ t l.2) record {
          stage = record {
            names = All-push (λ (q : Text × Meaning). IsNamed es q.1) s.names (x, no_value) (names_on s.design.entries es s.names k.1 h.names) tt;
            design = k.0;
          };
          grows = k.1;
        }

    pub item_next : (s : Stage) → IsStage s → (p : Place) (body : BodyTree) → IsBodyFormed body → (t : Stage) → item_of modules visiting prefix v s p body ≡ good t → IsNext s t
    item_next s h p (param q) f t e = subst (IsNext s) (good_is s t e) (stays s h)
    item_next s h p (decl d) f t e = value_next s h p d.name d.init d.kind t f.2 e
    item_next s h p (assign x w) f t e = assign_next s h p x w t f.0 f.1 e
    item_next s h p (gate kind es) f t e = gate_next s h p kind es t f e
    item_next s h p (instance child params x ports) f t e = go (module_named child modules) (found_formed child modules formed) e
      where
        go : (o : Option ModuleTree) → ((m : ModuleTree) → o ≡ Some m → IsModuleFormed m) → instance_item modules visiting prefix v s p o child params x ports ≡ good t → IsNext s t
        go None k e = absurd (search (rules, e))
        go (Some m) k e = instance_next s h p m (k m refl) params x ports f t e
    item_next s h p (always event body) f t e = always_next s h p event body t f e
    item_next s h p (initial body) f t e = starts_next s h p (initial_starts (look_of s) (so_far s) body) t e

  visit_sizes : (n : ℕ) → KeepsSizes (visit modules n)
  visit_sizes zero prefix visiting m overrides ports d e q f o k h = absurd (search (rules, q))
  visit_sizes (suc n) prefix visiting m overrides ports d e q f o k h =
      level_sizes (item modules visiting prefix (visit modules n)) (λ s x t w z y. item_next visiting prefix (visit modules n) (visit_sizes n) s y x.place x.body w t z) prefix m overrides ports d e q f o k h

pub no_design_is : (resets : List ResetPin) → IsDesign (no_design resets)
no_design_is resets = record { entries = All-nil _; assigns = All-nil _; combs = All-nil _; clocked = All-nil _; outputs = All-nil _ }

-- what an unfolding was before its drivers were tried
pub reached : (modules : List ModuleTree) → IsSourceFormed modules → (top : Text) (resets : List ResetPin) (named : List Text) (f : Flat)
    → unfolded modules top resets named ≡ good f → (d : Design) × IsDesign d × (finished named d ≡ good f)
reached modules formed top resets named f e =
    let g = good_then (modules_differ modules) (λ u. from_top modules resets named top (module_named top modules)) f e in
    go (module_named top modules) (found_formed top modules formed) g.2
  where
    go : (o : Option ModuleTree) → ((m : ModuleTree) → o ≡ Some m → IsModuleFormed m) → from_top modules resets named top o ≡ good f → (d : Design) × IsDesign d × (finished named d ≡ good f)
    go None k e = absurd (search (rules, e))
    go (Some m) k e =
        let g = good_then (visit modules (length modules) [] (m.name ∷ []) m [] (top_ports (header_of m)) (no_design resets)) (λ (s : Stage). finished named s.design) f e in
        let v = visit_sizes modules formed (length modules) [] (m.name ∷ []) m [] (top_ports (header_of m)) (no_design resets) g.0 g.1 (k m refl) (All-nil (λ (q : Text × Override). IsWide (size q.1.value))) (top_opens m resets (header_of m)) (no_design_is resets) in
        (g.0.design, v.0, g.2)

-- ---- the flat design

pub flat_agrees : (named : List Text) (d : Design) (s : ℕ) → 1 ≤ width_at d.entries s → size_in (flattened named d) s ≡ width_at d.entries s
flat_agrees named d s h = flat_widths named d s

signals_sized : (d : Design) (n : ℕ) (es : List Entry) → ((s : ℕ) → width_at es s ≤ 64)
    → All (λ (x : Signal). (1 ≤ x.width) × (x.width ≤ 64)) (signals_from d n es)
signals_sized d n [] h = All-nil _
signals_sized d n (e ∷ es) h =
    All-cons (λ (x : Signal). (1 ≤ x.width) × (x.width ≤ 64)) (signal_of d n e) (signals_from d (suc n) es) (width_some e.range, h 0)
    (signals_sized d (suc n) es (λ s. h (suc s)))

abbrev IsAssignSized : (ℕ → ℕ) → Target × Expr → Type 0
IsAssignSized wid a = IsTargetSized wid any a.0 × IsSized wid a.1

pub flat_sized : (named : List Text) (d : Design) → IsDesign d → IsSizedFlat (flattened named d)
flat_sized named d h =
    let wid = width_at d.entries in let c = with_free named d in let flat = size_in (flattened named d) in let agree = flat_agrees named d in
    record {
      signals = signals_sized (with_constants c) 0 c.entries narrow;
      assigns = All-append (IsAssignSized flat) d.assigns (constants_from c 0 c.entries)
          (all_on (IsAssignIn d.entries) (IsAssignSized flat) d.assigns (λ a k. (target_agrees wid flat agree (drivable_at d.entries) any (λ s l e. refl) a.0 k.0, expr_agrees wid flat agree a.1 k.2)) h.assigns)
          (constants_hold (IsAssignSized flat) c 0 c.entries (λ s t v i p o l m. ((refl, some s t i l), (l, narrow s, m))));
      combs = all_on (IsCombIn d.entries) (IsStmtSized flat any) d.combs (λ body k. stmt_agrees wid flat agree (reg_at d.entries) any (λ s l e. refl) body k.0) h.combs;
      clocked = all_on (IsClockedIn d.entries) (λ (p : ℕ × Stmt). IsStmtSized flat any p.1) d.clocked (λ p k. stmt_agrees wid flat agree (reg_at d.entries) any (λ s l e. refl) p.1 k.1) h.clocked;
    }
  where
    narrow : (s : ℕ) → width_at (with_free named d).entries s ≤ 64
    narrow s = subst (λ w. w ≤ 64) (sym (free_width named d s)) (words_of d.entries h.entries s)

    some : (s t : ℕ) → 0 + s ≡ t → 1 ≤ width_at (with_free named d).entries s → 1 ≤ size_in (flattened named d) t
    some s t i l =
        let z : s ≡ t = omega (arith, i) in
        subst (λ n. 1 ≤ size_in (flattened named d) n) z (subst (λ w. 1 ≤ w) (sym (flat_widths named d s ∙ sym (free_width named d s))) l)

pub sizes_law : SizesLaw
sizes_law modules formed top resets named f e =
    let r = reached modules formed top resets named f e in
    subst IsSizedFlat (accepted named r.0 f r.2).2 (flat_sized named r.0 r.1)
