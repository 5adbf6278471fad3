-- Where no name stands for a reset, no process has reset form, and no edge is a reset's.
use Rattle.std.proofs.Common.{◌≡◌, ℕ, Bool, true, false, cond, not, ◌&&◌, List, [], ◌∷◌, ◌++◌, Option, Some, None, refl, ap, ap₂, ◌∙◌, append-nil}
use Rattle.std.specs.Prelude.{is_some, is_none, option_map, option_and_then, unwrap_or}
use Rattle.std.specs.Option.{option_map_or, option_or}
use Rattle.std.specs.List.{list_all}
use Rattle.cdc_base.specs.declared.fault.Place.{Place}
use Rattle.verilog_ast.specs.declared.Edge.{Edge}
use Rattle.verilog_reading.specs.ExprTree.{ExprTree, number, name, index, part, unary, binary, choice, join, repeat, paren}
use Rattle.verilog_reading.specs.StmtTree.{StmtTree, null, set, when, either, Subject, switch, switch_else, block, ArmTrees, no_arms, and_arms}
use Rattle.flat_meaning.specs.Flat.{Stmt, Null}
use Rattle.flat_unfolding.specs.Outcome.{Text, breaks_if, Outcome, then_, by_number, judged}
use Rattle.flat_unfolding.specs.Names.{Meaning, a_param, a_signal, a_memory, no_value, Look, meaning, reset_at}
use Rattle.flat_unfolding.specs.Mentions.{names_in}
use Rattle.flat_unfolding.specs.Statements.{clocked, done}
use Rattle.flat_unfolding.specs.Resets.{peeled, Tested, signals_among, is_reset, are_resets, at_level, is_test, reset_signals, is_or, both_signals, tested_signals, tested, resets_in, tested_with, labels_met, item_tested, ResetForm, form_with, items_form, form_in, reset_rules}
use Rattle.flat_unfolding.specs.Processes.{has_form, is_rising, first_edge, are_two, meant_signal, edge_signal, names_reset, reset_edge, clock_edge, clock_of, form_of, clocked_rules, reset_gives, reset_branch, body_with, clocked_process}
use Rattle.flat_unfolding.specs.Design.{Given, Design, Stage, look_of, with_design}

abbrev pub first_of : List Edge → Option Edge
first_of [] = None
first_of (c ∷ rest) = Some c

pub same_both : {A : Type 0} (c : Bool) (a : A) → cond c a a ≡ a
same_both true a = refl
same_both false a = refl

module _ (look : Look) (none : (x : Text) (s : ℕ) → meaning look x ≡ Some (a_signal s) → reset_at look.entries s ≡ None) where
  not_reset : (x : Text) (s : ℕ) → meaning look x ≡ Some (a_signal s) → is_reset look s ≡ false
  not_reset x s e = ap is_some (none x s e)

  -- ---- conditions

  abbrev FirstIsNone : Option (List ℕ) → Type 0
  FirstIsNone None = Unit {0}
  FirstIsNone (Some ss) = are_resets look ss ≡ false

  abbrev also_among : Option Meaning → Option (List ℕ) → Option (List ℕ)
  also_among (Some (a_param p)) o = o
  also_among (Some (a_signal s)) o = option_map (λ ss. s ∷ ss) o
  also_among m o = None

  among_none : (xs : List Text) → FirstIsNone (signals_among look xs)
  among_none [] = refl
  among_none (x ∷ xs) = go (meaning look x) refl (signals_among look xs) (among_none xs)
    where
      go : (m : Option Meaning) → meaning look x ≡ m → (o : Option (List ℕ)) → FirstIsNone o → FirstIsNone (also_among m o)
      go None e o h = tt
      go (Some (a_param p)) e o h = h
      go (Some (a_signal s)) e None h = tt
      go (Some (a_signal s)) e (Some ss) h = ap (λ b. b && list_all (is_reset look) ss) (not_reset x s e)
      go (Some (a_memory m)) e o h = tt
      go (Some no_value) e o h = tt

  abbrev if_tested : ExprTree → Option (List ℕ) → Option (List ℕ)
  if_tested c None = None
  if_tested c (Some ss) = cond (are_resets look ss && is_test look (at_level look false c) (at_level look true c)) (Some ss) None

  untested : (c : ExprTree) → reset_signals look c ≡ None
  untested c = go (signals_among look (names_in c)) (among_none (names_in c))
    where
      go : (o : Option (List ℕ)) → FirstIsNone o → if_tested c o ≡ None
      go None h = refl
      go (Some ss) h = ap (λ b. cond (b && is_test look (at_level look false c) (at_level look true c)) (Some ss) None) h

  no_signals : (c : ExprTree) → tested_signals look c ≡ None
  no_signals (number v w spelt) = untested (number v w spelt)
  no_signals (name x) = untested (name x)
  no_signals (index x i) = untested (index x i)
  no_signals (part x kind l r) = untested (part x kind l r)
  no_signals (unary op a) = untested (unary op a)
  no_signals (binary op a b) =
      ap₂ (λ o p. option_or o (cond (is_or look op a b) p None)) (untested (binary op a b)) (ap₂ (both_signals look) (no_signals a) (no_signals b))
      ∙ same_both (is_or look op a b) None
  no_signals (choice c a b) = untested (choice c a b)
  no_signals (join parts) = untested (join parts)
  no_signals (repeat c parts) = untested (repeat c parts)
  no_signals (paren a) = no_signals a

  no_test : (c : ExprTree) → tested look c ≡ None
  no_test c = ap (λ o. option_map (λ ss. tests ss (is_some (reset_signals look c))) o) (no_signals c)
    where
      tests : List ℕ → Bool → Tested
      tests ss b = record { signals = ss; alone = b }

  abbrev if_resets : Option (List ℕ) → Option (List ℕ)
  if_resets None = None
  if_resets (Some ss) = cond (are_resets look ss) (Some ss) None

  no_resets_in : (e : ExprTree) → resets_in look e ≡ None
  no_resets_in e = go (signals_among look (names_in e)) (among_none (names_in e))
    where
      go : (o : Option (List ℕ)) → FirstIsNone o → if_resets o ≡ None
      go None h = refl
      go (Some ss) h = ap (λ b. cond b (Some ss) None) h

  no_item_test : (e : ExprTree) (rows : ArmTrees) → item_tested look e rows ≡ None
  no_item_test e rows = ap (λ o. tested_with look o (labels_met (record look { active = false }) e rows) (labels_met (record look { active = true }) e rows)) (no_resets_in e)

  -- ---- reset form

  no_items : (c : Subject) (rows : ArmTrees) (all : StmtTree) → items_form look c rows all ≡ None
  no_items c no_arms all = refl
  no_items c (and_arms labels s rest) all = ap (λ o. cond c.masks (form_with look o s all) None) (no_item_test c.value (and_arms labels s rest)) ∙ same_both c.masks None

  no_form_in : (s : StmtTree) → form_in look s ≡ None
  no_form_in (when c s) = ap (λ o. form_with look o s (when c s)) (no_test c)
  no_form_in (either c s z) = ap (λ o. form_with look o s (either c s z)) (no_test c)
  no_form_in (switch c rows) = no_items c rows (switch c rows)
  no_form_in (switch_else c rows d) = no_items c rows (switch_else c rows d)
  no_form_in null = refl
  no_form_in (set b delay t v) = refl
  no_form_in (block rows) = refl

  no_form : (edges : List Edge) (body : StmtTree) → form_of look edges body ≡ None
  no_form edges body = ap (λ o. cond (has_form edges) o None) (no_form_in (peeled body)) ∙ same_both (has_form edges) None

  -- ---- edges

  no_edge : (e : Edge) → names_reset look e ≡ false
  no_edge e = go (meaning look e.name) refl
    where
      go : (o : Option Meaning) → meaning look e.name ≡ o → option_map_or (is_reset look) (meant_signal look o) false ≡ false
      go None h = refl
      go (Some (a_param p)) h = refl
      go (Some (a_signal s)) h = not_reset e.name s h
      go (Some (a_memory m)) h = refl
      go (Some no_value) h = refl

  no_reset_edge : (edges : List Edge) → reset_edge look edges ≡ None
  no_reset_edge [] = refl
  no_reset_edge (c ∷ []) = refl
  no_reset_edge (c ∷ e ∷ []) = ap₂ (λ a b. cond a (cond b None (Some e)) (cond b (Some c) None)) (no_edge e) (no_edge c)
  no_reset_edge (c ∷ e ∷ f ∷ rest) = refl

  pub clock_is_first : (edges : List Edge) → clock_of look edges ≡ option_and_then (edge_signal look) (first_of edges)
  clock_is_first edges = ap (option_and_then (edge_signal look)) (go edges)
    where
      go : (edges : List Edge) → clock_edge look edges ≡ first_of edges
      go [] = refl
      go (c ∷ []) = refl
      go (c ∷ e ∷ []) = ap (λ b. Some (cond (b && not (names_reset look e)) e c)) (no_edge c)
      go (c ∷ e ∷ f ∷ rest) = refl

-- ---- clocked processes

-- what an edge that is no reset's breaks
abbrev pub edge_late : List Edge → Place → Outcome (Unit {0})
edge_late edges p = judged by_number p ((breaks_if (are_two edges && true) 317 (first_edge edges) ++ []) ++ []) (tt {0})

-- a further clocked process without a reset
abbrev pub also_clocked : Design → ℕ → Stmt → Outcome (Unit {0}) → Design
also_clocked d c body late = record d { clocked = d.clocked ++ ((c, body) ∷ []); resets = d.resets ++ ((None, Null) ∷ []); late = then_ d.late (λ u. late) }

module _ (s : Stage) (none : (x : Text) (n : ℕ) → meaning (look_of s) x ≡ Some (a_signal n) → reset_at s.design.entries n ≡ None) where
  abbrev look : Look
  look = look_of s

  pub clocked_is : (p : Place) (edges : List Edge) (body : StmtTree)
      → clocked_process s p edges body ≡ judged by_number p (clocked_rules look edges body)
      (with_design s (also_clocked s.design (unwrap_or (clock_of look edges) 0) (done look clocked body).stmt (edge_late edges p)))
  clocked_is p edges body = ap₂ with_form (no_form look none edges body) (no_reset_edge look none edges) ∙ ap with_givens (append-nil s.design.givens)
    where
      with_form : Option ResetForm → Option Edge → Outcome Stage
      with_form f r = judged by_number p (clocked_rules look edges body) (with_design s (record s.design {
        clocked = s.design.clocked ++ ((unwrap_or (clock_of look edges) 0, body_with look body f) ∷ []);
        resets = s.design.resets ++ ((option_and_then (edge_signal look) r, reset_branch look f) ∷ []);
        givens = s.design.givens ++ reset_gives look f;
        late = then_ s.design.late (λ u. judged by_number p ((breaks_if (are_two edges && is_none r) 317 (first_edge edges)
            ++ breaks_if (is_some r && option_map_or (λ (c : Edge). not (is_rising c.kind)) (clock_edge look edges) false) 316 (first_edge edges))
            ++ reset_rules look (first_edge edges) r f) (tt {0}));
      }))

      with_givens : List Given → Outcome Stage
      with_givens gs =
          judged by_number p (clocked_rules look edges body) (with_design s
          (record (also_clocked s.design (unwrap_or (clock_of look edges) 0) (done look clocked body).stmt (edge_late edges p)) { givens = gs }))
