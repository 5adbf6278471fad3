-- Processes of an instance are those of its module, moved.
use Rattle.std.proofs.Common.{◌≡◌, ℕ, zero, suc, ◌+◌, ◌==◌, Bool, true, false, cond, not, ◌||◌, List, [], ◌∷◌, ◌++◌, length, map, Option, Some, None, refl, sym, ap, ap₂, subst, ◌∙◌, rules}
use Rattle.std.specs.Prelude.{All, is_none, flat_map, option_map, option_and_then, unwrap_or}
use Rattle.std.specs.Option.{option_map_or}
use Rattle.std.specs.List.{list_any}
use Rattle.std.proofs.lemmas.Bool.{or_parts}
use Rattle.std.proofs.lemmas.List.Elements.{All-head, All-tail}
use Rattle.cdc_base.specs.declared.fault.Place.{Place}
use Rattle.verilog_ast.specs.declared.Edge.{Edge}
use Rattle.verilog_ast.specs.declared.Event.{Event}
use Rattle.verilog_ast.specs.declared.Event.TheVariants as events
use Rattle.verilog_reading.specs.StmtTree.{StmtTree}
use Rattle.flat_meaning.specs.Flat.{Stmt, Null}
use Rattle.flat_unfolding.specs.Outcome.{Text, breaks_if, Outcome, good, bad, then_, by_number}
use Rattle.flat_unfolding.specs.Names.{Meaning, a_param, a_signal, a_memory, no_value, Entry, Look, meaning, width_at, reset_at}
use Rattle.flat_unfolding.specs.Mentions.{unlisted}
use Rattle.flat_unfolding.specs.Statements.{of_wires, clocked, Done, done}
use Rattle.flat_unfolding.specs.Reads.{latch_rule}
use Rattle.flat_unfolding.specs.Processes.{delay_rules, has_form, is_of_wires, edges_of, first_edge, meant_edge, edge_rules, meant_signal, edge_signal, is_wide, needs_level, lacks_level, level_rules, clock_of, event_rules, edge_kind, clocked_rules, later_rules, wires_process, clocked_process, always_item}
use Rattle.flat_unfolding.specs.Design.{Design, Stage, look_of, with_design}
use Rattle.flat_unfolding.proofs.Steps.{not_broken, none_of_both}
use Rattle.instance_laws.specs.Moved.{moved_stmt, moved_clocked, moved_reset}
use Rattle.instance_laws.proofs.Looks.{moved_if, far, width_moved, reset_moved, unknown_moved}
use Rattle.instance_laws.proofs.Terms.{ap₃, known}
use Rattle.instance_laws.proofs.Bits.{latches_moved}
use Rattle.instance_laws.proofs.Stmts.{done_moved}
use Rattle.instance_laws.proofs.Follows.{one_more, over, Follows, judged_follows, Stays}
use Rattle.instance_laws.proofs.Unreset.{first_of, clock_is_first, edge_late, also_clocked, clocked_is}

-- ---- signals that resolve to no reset

abbrev pub IsUnreset : Entry → Type 0
IsUnreset e = e.reset ≡ None

abbrev pub AreUnreset : List Entry → Type 0
AreUnreset es = All IsUnreset es

pub unreset_at : (es : List Entry) → AreUnreset es → (s : ℕ) → reset_at es s ≡ None
unreset_at [] h s = refl
unreset_at (e ∷ es) h zero = All-head IsUnreset e es h
unreset_at (e ∷ es) h (suc s) = unreset_at es (All-tail IsUnreset e es h) s

abbrev after : Outcome (Unit {0}) → Outcome (Unit {0}) → Outcome (Unit {0})
after o p = then_ o (λ u. p)

after_both : (o p q : Outcome (Unit {0})) → after (after o p) q ≡ after o (after p q)
after_both (good u) p q = refl
after_both (bad e) p q = refl

module _ (prefix : Text) (b : Design) (look : Look) where
  abbrev k : ℕ
  k = length b.entries

  abbrev there : Look
  there = far prefix b.entries look

  -- ---- edges

  edge_rules_moved : (first : Text) (e : Edge) → edge_rules there first e ≡ edge_rules look first e
  edge_rules_moved first e = ap (meant_edge there first e) (known prefix b.entries look e.name) ∙ go (meaning look e.name)
    where
      go : (o : Option Meaning) → meant_edge there first e (moved_if k o) ≡ meant_edge look first e o
      go None = unknown_moved prefix b.entries look e.name
      go (Some (a_param p)) = refl
      go (Some (a_signal s)) = refl
      go (Some (a_memory m)) = refl
      go (Some no_value) = refl

  all_edge_rules_moved : (first : Text) (es : List Edge) → flat_map (edge_rules there first) es ≡ flat_map (edge_rules look first) es
  all_edge_rules_moved first [] = refl
  all_edge_rules_moved first (e ∷ es) = ap₂ (λ x y. x ++ y) (edge_rules_moved first e) (all_edge_rules_moved first es)

  edge_signal_moved : (e : Edge) → edge_signal there e ≡ option_map (λ s. k + s) (edge_signal look e)
  edge_signal_moved e = ap (meant_signal there) (known prefix b.entries look e.name) ∙ go (meaning look e.name)
    where
      go : (o : Option Meaning) → meant_signal there (moved_if k o) ≡ option_map (λ s. k + s) (meant_signal look o)
      go None = refl
      go (Some (a_param p)) = refl
      go (Some (a_signal s)) = refl
      go (Some (a_memory m)) = refl
      go (Some no_value) = refl

  wide_moved : (e : Edge) → is_wide there e ≡ is_wide look e
  wide_moved e = ap (λ o. option_map_or (λ s. not (width_at there.entries s == 1)) o false) (edge_signal_moved e) ∙ go (edge_signal look e)
    where
      go : (o : Option ℕ) → option_map_or (λ s. not (width_at there.entries s == 1)) (option_map (λ s. k + s) o) false
          ≡ option_map_or (λ s. not (width_at look.entries s == 1)) o false
      go None = refl
      go (Some s) = ap (λ w. not (w == 1)) (width_moved prefix b.entries look.entries s)

  wides_moved : (es : List Edge) → list_any (is_wide there) es ≡ list_any (is_wide look) es
  wides_moved [] = refl
  wides_moved (e ∷ es) = ap₂ (λ p q. p || q) (wide_moved e) (wides_moved es)

  event_rules_moved : (es : List Edge) → event_rules there es ≡ event_rules look es
  event_rules_moved es = ap₂ (λ bs w. bs ++ breaks_if (not (has_form es) || w) 316 (first_edge es)) (all_edge_rules_moved (first_edge es) es) (wides_moved es)

  clocked_rules_moved : (es : List Edge) (body : StmtTree) → clocked_rules there es body ≡ clocked_rules look es body
  clocked_rules_moved es body = ap₂ (λ bs (d : Done). bs ++ d.broken ++ delay_rules body) (event_rules_moved es) (done_moved prefix b.entries look (edge_kind look es) body)

  -- ---- a list of levels

  needs_moved : (x : Text) → needs_level there (meaning there x) ≡ needs_level look (meaning look x)
  needs_moved x = ap (needs_level there) (known prefix b.entries look x) ∙ go (meaning look x)
    where
      go : (o : Option Meaning) → needs_level there (moved_if k o) ≡ needs_level look o
      go None = refl
      go (Some (a_param p)) = refl
      go (Some (a_signal s)) = refl
      go (Some (a_memory m)) = refl
      go (Some no_value) = refl

  lacks_moved : (levels : List Edge) (body : StmtTree) → lacks_level there levels body ≡ lacks_level look levels body
  lacks_moved levels body = go (unlisted (map (λ (e : Edge). e.name) levels) body)
    where
      go : (xs : List Text) → list_any (λ x. needs_level there (meaning there x)) xs ≡ list_any (λ x. needs_level look (meaning look x)) xs
      go [] = refl
      go (x ∷ xs) = ap₂ (λ p q. p || q) (needs_moved x) (go xs)

  level_rules_moved : (e : Event) (body : StmtTree) → level_rules there e body ≡ level_rules look e body
  level_rules_moved events.Star body = refl
  level_rules_moved (events.Edges levels) body = ap₂ (λ bs c. bs ++ breaks_if c 316 (first_edge levels)) (all_edge_rules_moved (first_edge levels) levels) (lacks_moved levels body)

  -- ---- no name stands for a reset

  module _ (plain : AreUnreset look.entries) where
    pub unreset_names : (x : Text) (s : ℕ) → meaning look x ≡ Some (a_signal s) → reset_at look.entries s ≡ None
    unreset_names x s e = unreset_at look.entries plain s

    pub unreset_there : (x : Text) (s : ℕ) → meaning there x ≡ Some (a_signal s) → reset_at there.entries s ≡ None
    unreset_there x s e = go (meaning look x) (sym (known prefix b.entries look x) ∙ e)
      where
        go : (o : Option Meaning) → moved_if k o ≡ Some (a_signal s) → reset_at there.entries s ≡ None
        go None e = absurd (search (rules, e))
        go (Some (a_param p)) e = absurd (search (rules, e))
        go (Some (a_signal n)) e = let i : k + n ≡ s = search (rules, e) in
            ap (reset_at there.entries) (sym i) ∙ reset_moved prefix b.entries look.entries n ∙ unreset_at look.entries plain n
        go (Some (a_memory m)) e = absurd (search (rules, e))
        go (Some no_value) e = absurd (search (rules, e))

    -- an accepted event has a clock
    clock_moved : (es : List Edge) → event_rules look es ≡ [] → unwrap_or (clock_of there es) 0 ≡ k + unwrap_or (clock_of look es) 0
    clock_moved es e =
        let p = none_of_both (flat_map (edge_rules look (first_edge es)) es) _ e in
        let f = or_parts (not (has_form es)) (list_any (is_wide look) es) (not_broken _ 316 (first_edge es) p.1) in
        ap (λ o. unwrap_or o 0) (clock_is_first there unreset_there es) ∙ first es f.0 p.0 ∙ ap (λ o. k + unwrap_or o 0) (sym (clock_is_first look unreset_names es))
      where
        named : (first : Text) (c : Edge) (o : Option Meaning) → meaning look c.name ≡ o → meant_edge look first c o ≡ []
            → unwrap_or (option_map (λ s. k + s) (meant_signal look o)) 0 ≡ k + unwrap_or (meant_signal look o) 0
        named first c None m e = let u = not_broken (is_none (meaning look c.name)) 305 c.name e in absurd (search (rules, sym (ap is_none m) ∙ u))
        named first c (Some (a_signal n)) m e = refl
        named first c (Some (a_param q)) m e = absurd (search (rules, e))
        named first c (Some (a_memory q)) m e = absurd (search (rules, e))
        named first c (Some no_value) m e = absurd (search (rules, e))

        first : (es : List Edge) → not (has_form es) ≡ false → flat_map (edge_rules look (first_edge es)) es ≡ []
            → unwrap_or (option_and_then (edge_signal there) (first_of es)) 0 ≡ k + unwrap_or (option_and_then (edge_signal look) (first_of es)) 0
        first [] f e = absurd (search (rules, f))
        first (c ∷ es) f e =
            ap (λ o. unwrap_or o 0) (edge_signal_moved c)
            ∙ named c.name c (meaning look c.name) refl (none_of_both (edge_rules look c.name c) (flat_map (edge_rules look c.name) es) e).0

module _ (prefix : Text) (b : Design) (P : Stage → Type 0) (stays : Stays prefix b P) (s : Stage) (h : P s) (plain : AreUnreset s.design.entries) where
  abbrev own : Look
  own = look_of s

  abbrev here : Stage
  here = over prefix b s

  wires_follows : (p : Place) (e : Event) (body : StmtTree) (t : Stage) → wires_process here p e body ≡ good t → Follows prefix b P (wires_process s p e body) t
  wires_follows p e body t =
      let d = done_moved prefix b.entries own of_wires body in let after = s.design.combs ++ ((done own of_wires body).stmt ∷ []) in
      judged_follows prefix b P by_number p _ _ (with_design s (record s.design { combs = after })) _ t
      (λ i.
      let q = none_of_both _ (latch_rule (look_of here).entries (done (look_of here) of_wires body).stmt) i in
      let rules_same = ap₂ (λ xs (y : Done). xs ++ y.broken ++ later_rules body) (level_rules_moved prefix b own e body) d in
      ap₂ (λ xs ys. xs ++ ys) (sym rules_same ∙ q.0)
      (latches_moved prefix b.entries own.entries (done own of_wires body).stmt (sym (ap (λ (y : Done). latch_rule (look_of here).entries y.stmt) d) ∙ q.1)))
      (λ i. ap (λ (y : Done). with_design here (record here.design { combs = here.design.combs ++ (y.stmt ∷ []) })) d
      ∙ ap (λ zs. with_design here (record here.design { combs = zs })) (one_more (moved_stmt (length b.entries)) b.combs s.design.combs (done own of_wires body).stmt))
      (stays s (record s.design { combs = after }) refl refl h)

  clocked_follows : (p : Place) (es : List Edge) (body : StmtTree) (t : Stage) → clocked_process here p es body ≡ good t → Follows prefix b P (clocked_process s p es body) t
  clocked_follows p es body t e =
      subst (λ o. Follows prefix b P o t) (sym (clocked_is s (unreset_names prefix b own plain) p es body))
      (judged_follows prefix b P by_number p (clocked_rules (look_of here) es body) (clocked_rules own es body) (with_design s next) _ t
      (λ i. sym (clocked_rules_moved prefix b own es body) ∙ i) same (stays s next refl refl h)
      (sym (clocked_is here (unreset_there prefix b own plain) p es body) ∙ e))
    where
      n : ℕ
      n = length b.entries

      c : ℕ
      c = unwrap_or (clock_of own es) 0

      x : Stmt
      x = (done own clocked body).stmt

      next : Design
      next = also_clocked s.design c x (edge_late es p)

      with_parts : List (ℕ × Stmt) → List (Option ℕ × Stmt) → Outcome (Unit {0}) → Stage
      with_parts ps rs o = with_design here (record here.design { clocked = ps; resets = rs; late = o })

      same : clocked_rules (look_of here) es body ≡ []
          → with_design here (also_clocked here.design (unwrap_or (clock_of (look_of here) es) 0) (done (look_of here) clocked body).stmt (edge_late es p))
          ≡ over prefix b (with_design s next)
      same i =
          let r = sym (clocked_rules_moved prefix b own es body) ∙ i in
          let ev = (none_of_both (event_rules own es) _ (none_of_both _ (delay_rules body) r).0).0 in
          ap₂ (λ m (y : Done). with_design here (also_clocked here.design m y.stmt (edge_late es p))) (clock_moved prefix b own plain es ev)
          (done_moved prefix b.entries own clocked body)
          ∙ ap₃ with_parts (one_more (moved_clocked n) b.clocked s.design.clocked (c, x)) (one_more (moved_reset n) b.resets s.design.resets (None, Null))
          (after_both b.late s.design.late (edge_late es p))

  pub always_follows : (p : Place) (e : Event) (body : StmtTree) (t : Stage) → always_item here p e body ≡ good t → Follows prefix b P (always_item s p e body) t
  always_follows p e body t = go (is_of_wires e)
    where
      go : (w : Bool) → cond w (wires_process here p e body) (clocked_process here p (edges_of e) body) ≡ good t
          → Follows prefix b P (cond w (wires_process s p e body) (clocked_process s p (edges_of e) body)) t
      go true q = wires_follows p e body t q
      go false q = clocked_follows p (edges_of e) body t q
