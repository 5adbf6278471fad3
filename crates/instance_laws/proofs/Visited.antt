-- The visit of an instance is that of its module, moved, wherever the instance stands.
use Rattle.std.proofs.Common.{◌≡◌, ℕ, zero, suc, ◌<◌, ◌≤◌, Bool, true, false, cond, List, [], ◌∷◌, ◌++◌, length, map, Option, Some, None, refl, sym, ap, ap₂, subst, ◌∙◌, arith, rules, append_assoc, bytes_eq}
use Rattle.std.specs.Prelude.{slice_get, codes, option_and_then}
use Rattle.std.specs.Option.{option_map_or}
use Rattle.std.specs.List.{list_any}
use Rattle.std.proofs.lemmas.List.{map_push}
use mathlib.Core.Path.{fun_ext}
use Rattle.cdc_base.specs.declared.fault.Place.{Place}
use Rattle.cdc_base.specs.Words.{found_in, is_in}
use Rattle.verilog_reading.specs.SourceTree.{DeclTree, ConnsTree, BodyTree, param, decl, assign, gate, instance, always, initial, ItemTree, ModuleTree}
use Rattle.flat_meaning.specs.Flat.{Expr}
use Rattle.flat_unfolding.specs.Outcome.{Text, Broken, Outcome, good, then_, each, refused_if, by_number, judged}
use Rattle.flat_unfolding.specs.Names.{width_of, Meaning, no_value, Names, as_value, meaning_in, is_declared, Entry, width_at, printed_part}
use Rattle.flat_unfolding.specs.Parameters.{Overrides, parameters}
use Rattle.flat_unfolding.specs.Declarations.{header_decls, declarations}
use Rattle.flat_unfolding.specs.Instances.{override_rules, overrides_of, Link, connection_rules, links_of, connected, leaning_of, is_short}
use Rattle.flat_unfolding.specs.Design.{Design, Stage, look_of}
use Rattle.flat_unfolding.specs.Unfolding.{module_named, declared_value, instance_of, instance_item, item_of, item, header_values, with_resets, visit}
use Rattle.flat_unfolding.specs.Laws.{Kept, kept, StandsBehind}
use Rattle.flat_unfolding.proofs.Visits.{numbers_law}
use Rattle.reset_reads.proofs.Visited.{kept_count, behind_longer}
use Rattle.instance_laws.specs.Moved.{moved_expr, moved_name}
use Rattle.instance_laws.specs.Laws.{behind as design_behind}
use Rattle.instance_laws.proofs.Looks.{declared_moved}
use Rattle.instance_laws.proofs.Terms.{ap₃}
use Rattle.instance_laws.proofs.Bits.{length_moved}
use Rattle.instance_laws.proofs.Follows.{over, Follows, good_follows, then_follows, bind_follows, each_follows, Stays, assign_follows, gate_follows, initial_follows, value_follows}
use Rattle.instance_laws.proofs.Processes.{AreUnreset, always_follows}
use Rattle.instance_laws.proofs.Declared.{KeepsValues, moved_alike, given, IsPlain, parameters_follow, declarations_follow, resets_over, resets_plain}
use Rattle.instance_laws.proofs.Ports.{moved_link, connection_rules_moved, links_moved, override_rules_moved, overrides_moved, leaning_moved, short_moved, links_none, connected_moved, connected_plain}

-- ---- what stays of the names and signals of a module

-- the name of an instance stands for no value
also_none : (names : Names) (x y : Text) → meaning_in (names ++ ((x, no_value) ∷ [])) y ≡ meaning_in names y
also_none names x y = go names
  where
    last : (c : Bool) → option_and_then as_value (cond c (Some no_value) None) ≡ None
    last true = refl
    last false = refl

    one : (c : Bool) (m : Meaning) (o q : Option Meaning) → option_and_then as_value o ≡ option_and_then as_value q
        → option_and_then as_value (cond c (Some m) o) ≡ option_and_then as_value (cond c (Some m) q)
    one true m o q e = refl
    one false m o q e = e

    go : (names : Names) → meaning_in (names ++ ((x, no_value) ∷ [])) y ≡ meaning_in names y
    go [] = last (bytes_eq x y)
    go (p ∷ names) = one (bytes_eq p.0 y) p.1 (found_in (names ++ ((x, no_value) ∷ [])) y) (found_in names y) (go names)

module _ (es fs : List Entry) (h : StandsBehind es fs) where
  width_behind : (i : ℕ) → i < length es → width_at fs i ≡ width_at es i
  width_behind i l =
      sym (told fs i) ∙ ap (λ ks. width_in ks i) h.1 ∙ before (map kept es) i (let a = kept_count es in let m : i < length (map kept es) = omega (arith, a, l) in m) ∙ told es i
    where
      width_in : List Kept → ℕ → ℕ
      width_in ks i = option_map_or (λ (q : Kept). width_of q.range) (slice_get ks i) 0

      told : (gs : List Entry) (i : ℕ) → width_in (map kept gs) i ≡ width_at gs i
      told [] i = refl
      told (g ∷ gs) zero = refl
      told (g ∷ gs) (suc i) = told gs i

      before : (xs : List Kept) (i : ℕ) → i < length xs → width_in (xs ++ h.0) i ≡ width_in xs i
      before [] i l = absurd (omega (arith, l))
      before (x ∷ xs) zero l = refl
      before (x ∷ xs) (suc i) l = before xs i (let m : i < length xs = omega (arith, l) in m)

-- a stage that is reached from one whose ports are wired
pub record IsLater (start s : Stage) : Type 0 where
  pub plain : IsPlain s
  pub names : (x : Text) → meaning_in s.names x ≡ meaning_in start.names x
  pub widths : (i : ℕ) → i < length start.design.entries → width_at s.design.entries i ≡ width_at start.design.entries i
  pub longer : length start.design.entries ≤ length s.design.entries

pub no_later : (start : Stage) → IsPlain start → IsLater start start
no_later start h = record { plain = h; names = λ x. refl; widths = λ i l. refl; longer = (let l : length start.design.entries ≤ length start.design.entries = omega arith in l) }

module _ (prefix : Text) (b : Design) (start : Stage) where
  stays_later : Stays prefix b (IsLater start)
  stays_later s d p e h = record {
    plain = record { pins = sym p ∙ h.plain.pins; unreset = subst AreUnreset e h.plain.unreset };
    names = h.names;
    widths = λ i l. ap (λ es. width_at es i) (sym e) ∙ h.widths i l;
    longer = subst (λ es. length start.design.entries ≤ length es) e h.longer;
  }

-- ---- visits

module _ (prefix : Text) (b : Design) (modules : List ModuleTree) where
  abbrev k : ℕ
  k = length b.entries

  abbrev above : Stage → Stage
  above s = over prefix b s

  abbrev Next : (Stage → Type 0) → Outcome Stage → Stage → Type 0
  Next P o t = Follows prefix b P o t

  -- what is done to the ports of a module, and what is done to those of the instance
  pub record MovePorts (own there : Stage → Stage) : Type 0 where
    pub moves : (s : Stage) → IsPlain s → there (above s) ≡ above (own s)
    pub plain : (s : Stage) → IsPlain s → IsPlain (own s)

  abbrev pub Moves : ℕ → Type 0
  Moves n = (inner : Text) (visiting : List Text) (m : ModuleTree) (f : Expr → Expr) → KeepsValues f → (overrides : Overrides) (own there : Stage → Stage) → MovePorts own there
      → (d : Design) → IsPlain (record { names = []; design = d }) → (t : Stage) → visit modules n (prefix ++ inner) visiting m (given f overrides) there
      (design_behind prefix b d) ≡ good t
      → Next IsPlain (visit modules n inner visiting m overrides own d) t

  module _ (n : ℕ) (moves : Moves n) (visiting : List Text) (inner : Text) (start : Stage) where
    -- an instance inside the module that is visited
    module _ (p : Place) (m : ModuleTree) (params : ConnsTree) (x : Text) (ports : ConnsTree) where
      abbrev finished : (s u : Stage) → Stage
      finished s u = record { names = s.names ++ ((x, no_value) ∷ []); design = u.design }

      abbrev sized : (s u : Stage) → Outcome Stage
      sized s u = then_ (refused_if (list_any (is_short u) (leaning_of (look_of s) m params ports)) 306 (Some p) m.name) (λ v. good (finished s u))

      abbrev inside : Text → Text
      inside z = z ++ printed_part x ++ codes "."

      abbrev its_visit : (z : Text) → Stage → Outcome Stage
      its_visit z s = visit modules n (inside z) (m.name ∷ visiting) m (overrides_of (look_of s) m params) (connected (links_of (look_of s) m ports)) s.design

      abbrev rules_of : Stage → List Broken
      rules_of s = override_rules (look_of s) m params ++ connection_rules (look_of s) m ports

      abbrev ruled : (z : Text) → Stage → List Broken → Outcome Stage
      ruled z s bs = then_ (judged by_number p bs (tt {0})) (λ u. then_ (its_visit z s) (sized s))

      abbrev named : (z : Text) → Stage → Bool → Outcome Stage
      named z s c = then_ (refused_if c 304 (Some p) x) (λ u. ruled z s (rules_of s))

      module _ (s : Stage) (h : IsLater start s) where
        abbrev links : List Link
        links = links_of (look_of s) m ports

        finished_later : (u : Stage) → its_visit inner s ≡ good u → IsPlain u → IsLater start (finished s u)
        finished_later u c q =
            let stand = numbers_law modules n (inside inner) (m.name ∷ visiting) m (overrides_of (look_of s) m params) links s.design u c in
            let es = s.design.entries in let fs = u.design.entries in let more = behind_longer es fs stand in let first = h.longer in
            record {
              plain = record { pins = q.pins; unreset = q.unreset };
              names = λ y. also_none s.names x y ∙ h.names y;
              widths = λ i l. width_behind es fs stand i (let g : i < length es = omega (arith, l, first) in g) ∙ h.widths i l;
              longer = (let g : length start.design.entries ≤ length fs = omega (arith, more, first) in g);
            }

        sized_follows : (u t : Stage) → its_visit inner s ≡ good u → IsPlain u → sized (above s) (above u) ≡ good t → Next (IsLater start) (sized s u) t
        sized_follows u t c q e =
            subst (λ c. Next (IsLater start) (then_ (refused_if c 306 (Some p) m.name) (λ v. good (finished s u))) t)
            (ap₂ list_any (fun_ext (short_moved prefix b u)) (leaning_moved prefix b s m params ports))
            (then_follows prefix b (IsLater start) (refused_if (list_any (is_short (above u)) (leaning_of (look_of (above s)) m params ports)) 306 (Some p) m.name) _ _ t
            (λ v i j. good_follows prefix b (IsLater start) (finished s u) t (finished_later u c q)
            (ap (λ ns. good (record { names = ns; design = (above u).design })) (map_push (moved_name k) s.names (x, no_value)) ∙ j)) e)

        visit_follows : (u : Stage) → its_visit (prefix ++ inner) (above s) ≡ good u → Next IsPlain (its_visit inner s) u
        visit_follows u e =
            moves (inside inner) (m.name ∷ visiting) m (moved_expr k) (moved_alike k) (overrides_of (look_of s) m params) (connected links) (connected (map (moved_link k) links))
            record { moves = λ u q. connected_moved prefix b links u; plain = λ u q. connected_plain links u (links_none prefix b s h.plain m ports) q } s.design
            record { pins = h.plain.pins; unreset = h.plain.unreset } u
            (sym (ap₃ (λ z os ls. visit modules n z (m.name ∷ visiting) m os (connected ls) (above s).design)
            (ap (λ z. z ++ codes ".") (append_assoc prefix inner (printed_part x)) ∙ append_assoc prefix (inner ++ printed_part x) (codes "."))
            (overrides_moved prefix b s m params) (links_moved prefix b s m ports)) ∙ e)

        ruled_follows : (t : Stage) → ruled (prefix ++ inner) (above s) (rules_of (above s)) ≡ good t → Next (IsLater start) (ruled inner s (rules_of s)) t
        ruled_follows t e =
            subst (λ bs. Next (IsLater start) (ruled inner s bs) t) (ap₂ (λ xs ys. xs ++ ys) (override_rules_moved prefix b s m params) (connection_rules_moved prefix b s m ports))
            (then_follows prefix b (IsLater start) (judged by_number p (rules_of (above s)) (tt {0})) _ _ t
            (λ u i j. bind_follows prefix b (IsLater start) IsPlain (its_visit (prefix ++ inner) (above s)) (its_visit inner s) (sized (above s)) (sized s) t visit_follows
            (λ u c q. sized_follows u t c q) j) e)

        named_follows : (t : Stage) → named (prefix ++ inner) (above s) (is_declared (above s).names x) ≡ good t → Next (IsLater start) (named inner s (is_declared s.names x)) t
        named_follows t e =
            subst (λ c. Next (IsLater start) (named inner s c) t) (declared_moved k s.names x)
            (then_follows prefix b (IsLater start) (refused_if (is_declared (above s).names x) 304 (Some p) x) _ _ t (λ u i. ruled_follows t) e)

        instance_follows : (t : Stage) → instance_of modules visiting (prefix ++ inner) (visit modules n) (above s) p m params x ports ≡ good t
            → Next (IsLater start) (instance_of modules visiting inner (visit modules n) s p m params x ports) t
        instance_follows t e = then_follows prefix b (IsLater start) (refused_if (is_in visiting m.name) 303 (Some p) m.name) _ _ t (λ u i. named_follows t) e

    item_follows : (s : Stage) → IsLater start s → (p : Place) (body : BodyTree) (t : Stage)
        → item_of modules visiting (prefix ++ inner) (visit modules n) (above s) p body ≡ good t
        → Next (IsLater start) (item_of modules visiting inner (visit modules n) s p body) t
    item_follows s h p (param q) t e = good_follows prefix b (IsLater start) s t h e
    item_follows s h p (decl d) t e = value_follows prefix b (IsLater start) (stays_later prefix b start) s h p d.name d.init d.kind t e
    item_follows s h p (assign x v) t e = assign_follows prefix b (IsLater start) (stays_later prefix b start) s h p x v t e
    item_follows s h p (gate kind es) t e = gate_follows prefix b (IsLater start) (stays_later prefix b start) s h p kind es t e
    item_follows s h p (instance child params x ports) t e = go (module_named child modules) e
      where
        go : (o : Option ModuleTree) → instance_item modules visiting (prefix ++ inner) (visit modules n) (above s) p o child params x ports ≡ good t
            → Next (IsLater start) (instance_item modules visiting inner (visit modules n) s p o child params x ports) t
        go None e = absurd (search (rules, e))
        go (Some m) e = instance_follows p m params x ports s h t e
    item_follows s h p (always event body) t e = always_follows prefix b (IsLater start) (stays_later prefix b start) s h h.plain.unreset p event body t e
    item_follows s h p (initial body) t e = initial_follows prefix b (IsLater start) (stays_later prefix b start) s h p body t e

    -- all that comes behind the ports
    pub items_follow : (m : ModuleTree) → IsPlain start → (t : Stage)
        → then_ (header_values m (above start)) (λ u. each (item modules visiting (prefix ++ inner) (visit modules n)) u m.items) ≡ good t
        → Next (IsLater start) (then_ (header_values m start) (λ u. each (item modules visiting inner (visit modules n)) u m.items)) t
    items_follow m h t e =
        bind_follows prefix b (IsLater start) (IsLater start) (header_values m (above start)) _ _ (λ u. each (item modules visiting inner (visit modules n)) u m.items) t
        (λ u e. each_follows prefix b (IsLater start) (λ s (x : DeclTree). declared_value s m.place x) (λ s (x : DeclTree). declared_value s m.place x)
        (λ s x t h e. value_follows prefix b (IsLater start) (stays_later prefix b start) s h m.place x.name x.init x.kind t e) start (header_decls m) u (no_later start h) e)
        (λ u c q e. each_follows prefix b (IsLater start) (item modules visiting (prefix ++ inner) (visit modules n)) (item modules visiting inner (visit modules n))
        (λ s (x : ItemTree) t h e. item_follows s h x.place x.body t e) u m.items t q e) e

  only_plain : (start : Stage) (o : Outcome Stage) (t : Stage) → Next (IsLater start) o t → Next IsPlain o t
  only_plain start o t h = record { own = h.own; is = h.is; over_it = h.over_it; holds = h.holds.plain }

  module _ (none : b.pins ≡ []) where
    pub visit_moves : (n : ℕ) → Moves n
    visit_moves zero inner visiting m f keeps overrides own there ports d h t e = absurd (search (rules, e))
    visit_moves (suc n) inner visiting m f keeps overrides own there ports d h t e =
        bind_follows prefix b IsPlain IsPlain (parameters (given f overrides) m (above first)) _ _ (λ s. then_ (declarations inner m s) ready) t
        (λ u e. parameters_follow prefix b f keeps overrides m first u h e)
        (λ s c q e. bind_follows prefix b IsPlain IsPlain (declarations (prefix ++ inner) m (above s)) _ _ ready t
        (λ u e. declarations_follow prefix b inner m s u q e)
        (λ s c q e.
        let at = with_resets (length d.entries) s in
        let opened =
        ap (λ i. there (with_resets i (above s))) (length_moved prefix b.entries d.entries) ∙ ap there (resets_over prefix b none (length d.entries) s q)
        ∙ ports.moves at (resets_plain prefix b (length d.entries) s q) in
        only_plain (own at) _ t (items_follow n (visit_moves n) visiting inner (own at) m (ports.plain at (resets_plain prefix b (length d.entries) s q)) t
        (subst (λ u. then_ (header_values m u) (λ u. each (item modules visiting (prefix ++ inner) (visit modules n)) u m.items) ≡ good t) opened e))) e) e
      where
        first : Stage
        first = record { names = []; design = d }

        ready : Stage → Outcome Stage
        ready s = then_ (header_values m (own (with_resets (length d.entries) s))) (λ u. each (item modules visiting inner (visit modules n)) u m.items)
