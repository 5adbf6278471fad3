-- The law of hierarchy.
use Rattle.std.proofs.Common.{◌≡◌, ℕ, zero, suc, ◌+◌, ◌-◌, ◌<◌, ◌≤◌, true, List, [], ◌∷◌, ◌++◌, length, map, Option, Some, None, refl, sym, ap, ap₂, subst, ◌∙◌, arith, rules, append-nil}
use Rattle.std.proofs.lemmas.List.Elements.{All-nil}
use Rattle.verilog_reading.specs.SourceTree.{ModuleTree}
use Rattle.flat_meaning.specs.Flat.{Expr, Target}
use Rattle.flat_unfolding.specs.Outcome.{Text, Outcome, good, bad, then_, each}
use Rattle.flat_unfolding.specs.Names.{Meaning, a_param, a_signal, a_memory, no_value, meaning_in, width_at, reset_at}
use Rattle.flat_unfolding.specs.Parameters.{Overrides, parameter, params_of, parameters}
use Rattle.flat_unfolding.specs.Declarations.{declarations}
use Rattle.flat_unfolding.specs.Instances.{Link, connected}
use Rattle.flat_unfolding.specs.Design.{Design, no_design, Stage, with_design}
use Rattle.flat_unfolding.specs.Unfolding.{item, header_values, with_resets, visit}
use Rattle.flat_unfolding.proofs.Steps.{good_then, each_keeps}
use Rattle.flat_unfolding.proofs.Entries.{same_length, from_keeps}
use Rattle.reset_reads.proofs.Terms.{IsHeldIf, held}
use Rattle.reset_reads.proofs.Declared.{IsBegun, parameter_begins, declarations_begin}
use Rattle.instance_laws.specs.Moved.{moved_assign, moved_names}
use Rattle.instance_laws.specs.Laws.{entries_behind, behind as design_behind, placed, HaveNoReset, InstancesAreModules}
use Rattle.instance_laws.proofs.Looks.{moved_if, meaning_moved, behind, width_moved, reset_moved}
use Rattle.instance_laws.proofs.Bits.{length_moved}
use Rattle.instance_laws.proofs.Follows.{over, Follows}
use Rattle.instance_laws.proofs.Processes.{unreset_at}
use Rattle.instance_laws.proofs.Declared.{alike_itself, given, IsPlain, parameters_follow, declarations_follow, resets_over, resets_plain}
use Rattle.instance_laws.proofs.Ports.{wires, connect_wires, wires_same}
use Rattle.instance_laws.proofs.Visited.{IsLater, items_follow, visit_moves}

-- ---- a module alone

late_same : (o : Outcome (Unit {0})) → then_ o (λ u. good (tt {0})) ≡ o
late_same (good u) = refl
late_same (bad e) = refl

-- behind it stands no more than before
nothing_behind : (prefix : Text) (d : Design) → design_behind prefix d (no_design []) ≡ d
nothing_behind prefix d =
    rw (
      append-nil d.entries,
      append-nil d.assigns,
      append-nil d.combs,
      append-nil d.clocked,
      append-nil d.resets,
      append-nil d.outputs,
      append-nil d.starts,
      append-nil d.givens,
      late_same d.late,
    )

same_given : (overrides : Overrides) → given (λ e. e) overrides ≡ overrides
same_given [] = refl
same_given (o ∷ overrides) = ap (λ os. o ∷ os) (same_given overrides)

abbrev alone : Design
alone = no_design []

abbrev first : Stage
first = record { names = []; design = alone }

-- what was declared, and nothing else
module _ (overrides : Overrides) (m : ModuleTree) (s t : Stage) (e : parameters overrides m first ≡ good s) (f : declarations [] m s ≡ good t) where
  begun : IsBegun [] (λ i. true) alone t
  begun = declarations_begin [] (λ i. true) alone [] m s t f
      (each_keeps (IsBegun [] (λ i. true) alone) (parameter overrides) (parameter_begins [] (λ i. true) alone overrides) first (params_of m) s e
      (record { same = refl; longer = (let l : 0 ≤ 0 = omega arith in l); before = λ i l. absurd (omega (arith, l)); allows = λ i. i; names = All-nil _ }))

  nothing_assigned : t.design.assigns ≡ []
  nothing_assigned = ap (λ (d : Design). d.assigns) begun.same

  -- names stand for signals that are declared
  among : (x : Text) (n : ℕ) → meaning_in t.names x ≡ Some (a_signal n) → n < length t.design.entries
  among x n i = subst (IsHeldIf (length t.design.entries)) i (held (length t.design.entries) t.names x begun.names)

-- ---- the law

module _ (prefix : Text) (links : List Link) (d : Design) (none : d.pins ≡ []) (g : HaveNoReset links) where
  abbrev k : ℕ
  k = length d.entries

  -- a design with further assignments
  abbrev wired : List (Target × Expr) → Design
  wired xs = record d { assigns = d.assigns ++ xs }

  abbrev wires_of : Stage → List (Target × Expr)
  wires_of s = wires (moved_names k s.names) (behind prefix d.entries s.design.entries) links

  -- the ports of a module that assigns nothing so far
  ports_wired : (s : Stage) → s.design.assigns ≡ [] → connected links (over prefix d s) ≡ over prefix (wired (wires_of s)) s
  ports_wired s h = ap (with_design (over prefix d s)) (connect_wires (moved_names k s.names) (over prefix d s).design links g) ∙ ap (λ xs. over_with xs) (go s.design.assigns h)
    where
      over_with : List (Target × Expr) → Stage
      over_with xs = with_design (over prefix d s) (record (over prefix d s).design { assigns = xs })

      go : (xs : List (Target × Expr)) → xs ≡ [] → (d.assigns ++ map (moved_assign k) xs) ++ wires_of s ≡ (d.assigns ++ wires_of s) ++ map (moved_assign k) xs
      go [] e = ap (λ ys. ys ++ wires_of s) (append-nil d.assigns) ∙ sym (append-nil (d.assigns ++ wires_of s))
      go (x ∷ xs) e = absurd (search (rules, e))

  -- the names of ports mean the same signals once all items are there
  wires_later : (s own : Stage) → IsPlain s → ((x : Text) (i : ℕ) → meaning_in s.names x ≡ Some (a_signal i) → i < length s.design.entries) → IsLater s own
      → wires_of own ≡ wires_of s
  wires_later s own h among l =
      wires_same (moved_names k s.names) (moved_names k own.names) (behind prefix d.entries s.design.entries) (behind prefix d.entries own.design.entries)
      (λ x. meaning_moved k own.names x ∙ ap (moved_if k) (l.names x) ∙ sym (meaning_moved k s.names x))
      (λ x i e. signal x i (meaning_in s.names x) refl (sym (meaning_moved k s.names x) ∙ e)) links
    where
      signal : (x : Text) (i : ℕ) (o : Option Meaning) → meaning_in s.names x ≡ o → moved_if k o ≡ Some (a_signal i)
          → (width_at (behind prefix d.entries own.design.entries) i ≡ width_at (behind prefix d.entries s.design.entries) i)
          × (reset_at (behind prefix d.entries own.design.entries) i ≡ reset_at (behind prefix d.entries s.design.entries) i)
      signal x i None m e = absurd (search (rules, e))
      signal x i (Some (a_param p)) m e = absurd (search (rules, e))
      signal x i (Some (a_signal n)) m e =
          let j : k + n ≡ i = search (rules, e) in
          subst (λ i. (width_at (behind prefix d.entries own.design.entries) i ≡ width_at (behind prefix d.entries s.design.entries) i)
          × (reset_at (behind prefix d.entries own.design.entries) i ≡ reset_at (behind prefix d.entries s.design.entries) i)) j (
            width_moved prefix d.entries own.design.entries n ∙ l.widths n (among x n m) ∙ sym (width_moved prefix d.entries s.design.entries n),
            reset_moved prefix d.entries own.design.entries n ∙ unreset_at own.design.entries l.plain.unreset n ∙ sym (unreset_at s.design.entries h.unreset n)
                ∙ sym (reset_moved prefix d.entries s.design.entries n),
          )
      signal x i (Some (a_memory p)) m e = absurd (search (rules, e))
      signal x i (Some no_value) m e = absurd (search (rules, e))

  placed_is : (own : Stage) → over prefix (wired (wires_of own)) own ≡ placed prefix links d own
  placed_is own =
      ap (λ xs. over prefix (record d { assigns = xs }) own) (sym (ap (λ (c : Design). c.assigns)
      (connect_wires (moved_names k own.names) (entries_behind prefix d own.design) links g)))

  module _ (modules : List ModuleTree) (n : ℕ) (visiting : List Text) (m : ModuleTree) (overrides : Overrides) (e : Stage) where
    abbrev items : Text → Stage → Outcome Stage
    items inner s = then_ (header_values m s) (λ u. each (item modules visiting inner (visit modules n)) u m.items)

    abbrev Result : Type 0
    Result = (own : Stage) × (visit modules (suc n) [] visiting m overrides (λ s. s) alone ≡ good own) × (e ≡ placed prefix links d own)

    -- the ports of the instance, once it is declared
    abbrev ports : Stage → Stage
    ports t = connected links (with_resets (length (behind prefix d.entries [])) t)

    behind_declarations : (s t : Stage) → parameters overrides m first ≡ good s → declarations [] m s ≡ good t → IsPlain t
        → items (prefix ++ []) (ports (over prefix d t)) ≡ good e → Result
    behind_declarations s t i j h q = (
      v.own,
      ap (λ o. then_ o (λ u. then_ (declarations [] m u) (λ w. items [] (with_resets 0 w)))) i ∙ ap (λ o. then_ o (λ w. items [] (with_resets 0 w))) j ∙ v.is,
      v.over_it ∙ ap (λ xs. over prefix (wired xs) v.own) (sym (wires_later start v.own plain in_range v.holds)) ∙ placed_is v.own,
    )
      where
        start : Stage
        start = with_resets 0 t

        plain : IsPlain start
        plain = resets_plain prefix d 0 t h

        opened : ports (over prefix d t) ≡ over prefix (wired (wires_of start)) start
        opened =
            ap (λ n. connected links (with_resets n (over prefix d t))) (length_moved prefix d.entries []) ∙ ap (connected links) (resets_over prefix d none 0 t h)
            ∙ ports_wired start (nothing_assigned overrides m s t i j)

        v : Follows prefix (wired (wires_of start)) (IsLater start) (items [] start) e
        v = items_follow prefix (wired (wires_of start)) modules n (visit_moves prefix (wired (wires_of start)) modules none n) visiting [] start m plain e
            (subst (λ u. items (prefix ++ []) u ≡ good e) opened q)

        as_many : length start.design.entries ≡ length t.design.entries
        as_many = from_keeps (λ es. length es ≡ length t.design.entries) _ (λ n es k. same_length _ n es ∙ k) 0 (length t.design.entries - 0) t.design.entries refl

        in_range : (x : Text) (n : ℕ) → meaning_in start.names x ≡ Some (a_signal n) → n < length start.design.entries
        in_range x n k = subst (λ c. n < c) (sym as_many) (among overrides m s t i j x n k)

    is_placed : visit modules (suc n) (prefix ++ []) visiting m (given (λ x. x) overrides) (connected links) (design_behind prefix d alone) ≡ good e → Result
    is_placed q =
        let bare : IsPlain first = record { pins = refl; unreset = All-nil _ } in
        let a = good_then (parameters (given (λ x. x) overrides) m (over prefix d first)) _ e q in
        let s = parameters_follow prefix d (λ x. x) alike_itself overrides m first a.0 bare a.1 in
        let r = subst (λ u. then_ (declarations (prefix ++ []) m u) (λ t. items (prefix ++ []) (ports t)) ≡ good e) s.over_it a.2 in
        let c = good_then (declarations (prefix ++ []) m (over prefix d s.own)) _ e r in
        let t = declarations_follow prefix d [] m s.own c.0 s.holds c.1 in
        behind_declarations s.own t.own s.is t.is t.holds (subst (λ u. items (prefix ++ []) (ports u) ≡ good e) {y = over prefix d t.own} t.over_it c.2)

pub instances_are_modules : InstancesAreModules
instances_are_modules modules zero prefix visiting m overrides links d e none g q = absurd (search (rules, q))
instances_are_modules modules (suc n) prefix visiting m overrides links d e none g q =
    is_placed prefix links d none g modules n visiting m overrides e
    (ap (λ z. visit modules (suc n) z visiting m (given (λ x. x) overrides) (connected links) (design_behind prefix d alone)) (append-nil prefix)
    ∙ ap₂ (λ os c. visit modules (suc n) prefix visiting m os (connected links) c) (same_given overrides) (nothing_behind prefix d) ∙ q)
