-- Declarations of a module: what they make of the signals before and of the names, and that all signals are settled once they are the resets that they are declared as.
use Rattle.std.proofs.Common.{◌≡◌, ℕ, zero, suc, ◌+◌, ◌-◌, ◌<◌, ◌≤◌, Bool, true, false, not, ◌&&◌, nat_lt, List, [], ◌∷◌, ◌++◌, length, map, Option, Some, None, refl, sym, ap, subst, ◌∙◌, arith, rules, ltb-true, ltb-false}
use Rattle.std.proofs.lemmas.List.Elements.{All-cons, All-nil, All-push, All-append}
use Rattle.cdc_base.specs.declared.fault.Place.{Place}
use Rattle.cdc_base.specs.declared.signal.ResetPin.{ResetPin}
use Rattle.verilog_reading.specs.SourceTree.{ParamTree, DeclTree, ModuleTree}
use Rattle.flat_unfolding.specs.Outcome.{Text, good, each, refused_if, judged}
use Rattle.flat_unfolding.specs.Names.{Range, Meaning, a_param, a_signal, a_memory, no_value, Names, Entry}
use Rattle.flat_unfolding.specs.Memories.{word_names}
use Rattle.flat_unfolding.specs.Parameters.{range_read, Overrides, held as held_value, parameter_order, value_of, override_of, parameter}
use Rattle.flat_unfolding.specs.Declarations.{is_plain_port, declaration_order, Site, again, array_read, declaration_rules, entry, added, taken_names, add_signal, add_memory, declared_again, add_declared, declaration, header_of, sites, header_twice, has_direction, directed, declarations}
use Rattle.flat_unfolding.specs.Design.{Design, Stage, look_of, with_design, change_entry, change_from}
use Rattle.flat_unfolding.specs.Unfolding.{declared_reset, with_resets}
use Rattle.flat_unfolding.proofs.Steps.{good_is, good_then, judged_is, each_keeps}
use Rattle.flat_unfolding.proofs.Entries.{length_of_both, same_length, from_keeps}
use Rattle.flat_unfolding.proofs.Grown.{told_same, told_before, told_none, all_on}
use Rattle.reset_reads.proofs.Terms.{IsHeld, AreHeld}
use Rattle.reset_reads.proofs.Settled.{told_kept, is_unpinned, is_settled, unpinned, settled, becomes, settles}
use Rattle.reset_reads.proofs.Stages.{Allows, AllReadSparely, IsSpareDesign, IsSpareStage}

-- ---- names among more signals

held_on : (n k : ℕ) → n ≤ k → (m : Meaning) → IsHeld n m → IsHeld k m
held_on n k l (a_param p) h = h
held_on n k l (a_signal s) h = let x : s < k = omega (arith, l, h) in x
held_on n k l (a_memory m) h = λ i j. let a = h i j in let x : m.first + i < k = omega (arith, l, a) in x
held_on n k l no_value h = h

pub are_held_on : (n k : ℕ) → n ≤ k → (names : Names) → AreHeld n names → AreHeld k names
are_held_on n k l names = all_on (λ (p : Text × Meaning). IsHeld n p.1) (λ (p : Text × Meaning). IsHeld k p.1) names (λ p. held_on n k l p.1)

taken_held : (n : ℕ) (xs : List Text) → AreHeld n (taken_names xs)
taken_held n [] = All-nil (λ (p : Text × Meaning). IsHeld n p.1)
taken_held n (x ∷ xs) = All-cons (λ (p : Text × Meaning). IsHeld n p.1) (x, no_value) (taken_names xs) tt (taken_held n xs)

words_count : (f : Text → Entry) (x : Text) (n more : ℕ) → length (map f (word_names x n more)) ≡ more
words_count f x n zero = refl
words_count f x n (suc more) = ap suc (words_count f x (suc n) more)

module _ (resets : List ResetPin) (may : ℕ → Bool) (d : Design) where
  -- a module whose names are being declared: signals are declared further, and nothing else changes
  pub record IsBegun (s : Stage) : Type 0 where
    pub same : s.design ≡ record d { entries = s.design.entries }
    pub longer : length d.entries ≤ length s.design.entries
    pub before : (i : ℕ) → i < length d.entries → settled resets s.design.entries i ≡ true
    pub allows : Allows resets may s.design.entries → Allows resets may d.entries
    pub names : AreHeld (length s.design.entries) s.names

  pub parameter_begins : (overrides : Overrides) (s : Stage) (q : Place × ParamTree) (t : Stage) → parameter overrides s q ≡ good t → IsBegun s → IsBegun t
  parameter_begins overrides s q t e h =
      let r = range_read (look_of s) q.1.name q.1.range in let v = value_of (look_of s) q.1 (override_of overrides q.1) in
      let n = length s.design.entries in
      subst IsBegun (judged_is parameter_order q.0 _ _ t e).1 record {
        same = h.same;
        longer = h.longer;
        before = h.before;
        allows = h.allows;
        names = All-push (λ (p : Text × Meaning). IsHeld n p.1) s.names (q.1.name, a_param (held_value r.range v.value v.is_counted v.is_signed)) h.names tt;
      }

  -- ---- a change of one entry

  changed_begins : (f : Entry → Entry) → ((e : Entry) → is_settled resets e ≡ true → is_settled resets (f e) ≡ true) → ((e : Entry) → is_unpinned resets (f e) ≡ is_unpinned resets e) → (n : ℕ) (s : Stage)
      → IsBegun s → IsBegun (with_design s (record s.design { entries = change_entry f n s.design.entries }))
  changed_begins f k u n s h =
      let es = s.design.entries in let fs = change_entry f n es in let l = sym (same_length f n es) in
      record {
        same = ap (λ (x : Design). record x { entries = fs }) h.same;
        longer = subst (λ m. length d.entries ≤ m) l h.longer;
        before = λ i j. told_kept (is_settled resets) true f k n es i (h.before i j);
        allows = λ a. h.allows (λ i e. a i (told_same (is_unpinned resets) false f u n es i ∙ e));
        names = subst (λ m. AreHeld m s.names) l h.names;
      }

  -- ---- further entries

  among : (es : List Entry) (i : ℕ) → unpinned resets es i ≡ true → i < length es
  among es i e = go (nat_lt i (length es)) refl
    where
      go : (b : Bool) → nat_lt i (length es) ≡ b → i < length es
      go true k = ltb-true i (length es) k
      go false k = let n = told_none (is_unpinned resets) false es i (ltb-false i (length es) k) in absurd (search (rules, n, e))

  added_begins : (s : Stage) (fs : List Entry) (names : Names) (t : Stage) → added s fs names ≡ good t → AreHeld (length (s.design.entries ++ fs)) names → IsBegun s → IsBegun t
  added_begins s fs names t e k h =
      let es = s.design.entries in let n = length_of_both es fs in
      let g = good_then (refused_if (nat_lt 1048576 (length es + length fs)) 601 None []) _ t e in
      let more : length es ≤ length (es ++ fs) = omega (arith, n) in
      let first = h.longer in
      subst IsBegun (good_is _ t g.2) record {
        same = ap (λ (x : Design). record x { entries = es ++ fs }) h.same;
        longer = let l : length d.entries ≤ length (es ++ fs) = omega (arith, first, more) in l;
        before = λ i j. told_before (is_settled resets) true es fs i (let l : i < length es = omega (arith, first, j) in l) ∙ h.before i j;
        allows = λ a. h.allows (λ i u. a i (told_before (is_unpinned resets) false es fs i (among es i u) ∙ u));
        names = All-append (λ (p : Text × Meaning). IsHeld (length (es ++ fs)) p.1) s.names names (are_held_on (length es) (length (es ++ fs)) more s.names h.names) k;
      }

  module _ (s : Stage) (h : IsBegun s) (at : Site) (x : DeclTree) (r : Option Range) where
    abbrev es : List Entry
    es = s.design.entries

    signal_begins : (t : Stage) → add_signal s at x r ≡ good t → IsBegun t
    signal_begins t e =
        let f = entry at x.kind r (is_plain_port x.kind && not at.in_header) x.name in
        let n = length_of_both es (f ∷ []) in let m : Meaning = a_signal (length es) in
        added_begins s (f ∷ []) ((x.name, m) ∷ []) t e
        (All-cons (λ (p : Text × Meaning). IsHeld (length (es ++ f ∷ [])) p.1) (x.name, m) [] (let k : length es < length (es ++ f ∷ []) = omega arith in k) (All-nil (λ (p : Text × Meaning). IsHeld (length (es ++ f ∷ [])) p.1))) h

    memory_begins : (n : ℕ) (t : Stage) → add_memory s at x r n ≡ good t → IsBegun t
    memory_begins n t e =
        let f = entry at x.kind r false in let xs = word_names x.name 0 n in let gs = es ++ map f xs in
        let m : Meaning = a_memory (record { first = length es; words = n }) in
        let many = length_of_both es (map f xs) in let count = words_count f x.name 0 n in
        added_begins s (map f xs) (taken_names xs ++ ((x.name, m) ∷ [])) t e
        (All-append (λ (p : Text × Meaning). IsHeld (length gs) p.1) (taken_names xs) ((x.name, m) ∷ []) (taken_held (length gs) xs)
        (All-cons (λ (p : Text × Meaning). IsHeld (length gs) p.1) (x.name, m) [] (λ i j. let k : length es + i < length gs = omega (arith, many, count, j) in k) (All-nil (λ (p : Text × Meaning). IsHeld (length gs) p.1)))) h

    adds_begin : (o n : Option ℕ) (t : Stage) → add_declared s at x r o n ≡ good t → IsBegun t
    adds_begin (Some i) n t e = subst IsBegun (good_is _ t e) (changed_begins (declared_again x.kind) (λ e k. k) (λ e. refl) i s h)
    adds_begin None (Some n) t e = memory_begins n t e
    adds_begin None None t e = signal_begins t e

  declaration_begins : (s : Stage) (q : Site × DeclTree) (t : Stage) → declaration s q ≡ good t → IsBegun s → IsBegun t
  declaration_begins s q t e h =
      let look = look_of s in
      let g = good_then (judged declaration_order q.0.place (declaration_rules look q.0 q.1) (tt {0})) _ t e in
      adds_begin s h q.0 q.1 (range_read look q.1.name q.1.range).range (again look q.1) (array_read look q.1 q.1.array).count t g.2

  directed_begins : (m : ModuleTree) (s : Stage) (x : Text) (t : Stage) → directed m s x ≡ good t → IsBegun s → IsBegun t
  directed_begins m s x t e h = let g = good_then (refused_if (not (has_direction (look_of s) x)) 306 (Some m.place) x) (λ u. good s) t e in subst IsBegun (good_is s t g.2) h

  pub declarations_begin : (prefix : Text) (m : ModuleTree) (s t : Stage) → declarations prefix m s ≡ good t → IsBegun s → IsBegun t
  declarations_begin prefix m s t e h =
      let g = good_then (header_twice m) _ t e in
      let k = good_then (each declaration s (sites prefix m)) _ t g.2 in
      each_keeps IsBegun (directed m) (directed_begins m) k.0 (header_of m) t k.2 (each_keeps IsBegun declaration declaration_begins s (sites prefix m) k.0 k.1 h)

  -- ---- the declared resets

  -- a module that is declared, whose signals are settled
  pub record IsReady (s : Stage) : Type 0 where
    pub stage : IsSpareStage resets may s
    pub allows : Allows resets may s.design.entries → Allows resets may d.entries

  pub resets_ready : (s : Stage) → IsSpareDesign resets may d → IsBegun s → IsReady (with_resets (length d.entries) s)
  resets_ready s k h = subst (λ ps. IsReady (over ps)) (sym known) ready
    where
      n : ℕ
      n = length d.entries

      es : List Entry
      es = s.design.entries

      known : s.design.pins ≡ resets
      known = ap (λ (x : Design). x.pins) h.same ∙ k.pins

      with_entries : List Entry → Stage
      with_entries fs = with_design s (record s.design { entries = fs })

      over : List ResetPin → Stage
      over ps = with_entries (change_from (declared_reset ps) n (length es - n) es)

      begun : IsBegun (over resets)
      begun = from_keeps (λ fs. IsBegun (with_entries fs)) (declared_reset resets) (λ i fs. changed_begins (declared_reset resets) (λ e j. becomes resets e) (λ e. refl) i (with_entries fs)) n (length es - n) es h

      all_read : AllReadSparely resets may d → AllReadSparely resets may (record d { entries = (over resets).design.entries })
      all_read a = record { assigns = a.assigns; combs = a.combs; clocked = a.clocked }

      ready : IsReady (over resets)
      ready = let l = h.longer in record {
        stage = record {
          names = begun.names;
          design = record {
            pins = known;
            settled = settles resets n (length es - n) es (let m : length es ≤ n + (length es - n) = omega (arith, l) in m) h.before;
            spares = λ a. subst (AllReadSparely resets may) (sym begun.same) (all_read (k.spares (begun.allows a)));
          };
        };
        allows = begun.allows;
      }
