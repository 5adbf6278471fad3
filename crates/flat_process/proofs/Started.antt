-- Start values that are added one by one.
use Rattle.std.proofs.Common.{◌≡◌, ℕ, zero, suc, ◌<◌, ◌≤◌, max, Bool, true, false, cond, not, ◌||◌, ◌==◌, List, [], ◌∷◌, ◌++◌, length, map, Option, Some, None, Result, refl, sym, ap, ap₂, subst, ◌∙◌, arith, rules, append_assoc, append-nil, eqb-true, Vec, Global}
use Rattle.std.specs.Prelude.{IfOk, is_some, option_map, option_and_then, slice_get, slice_set, slice_index_or}
use Rattle.std.specs.Option.{option_map_or}
use Rattle.std.proofs.Math.Dec.{eqb-zero-suc, eqb-suc-zero, eqb-suc-suc}
use Rattle.std.proofs.lemmas.Bool.{false≢true}
use Rattle.std.proofs.lemmas.List.{length-map}
use Rattle.std.proofs.lemmas.Option.{slice_get_within, slice_get-map}
use Rattle.indexmap.specs.IndexMap.{IndexMap}
use Rattle.cdc_base.specs.declared.signal.ResetPin.{ResetPin}
use Rattle.cdc_base.specs.declared.fault.Place.{Place}
use Rattle.cdc_base.specs.declared.fault.Stop.{Stop}
use Rattle.cdc_base.specs.declared.list.NoMemory.{NoMemory}
use Rattle.cdc_base.specs.declared.signal.Signal.{Signal}
use Rattle.cell_graph.specs.Tree.{bit_at, number}
use Rattle.verilog_ast.specs.declared.Delay.{Delay}
use Rattle.verilog_ast.specs.declared.Expr.{Expr}
use Rattle.verilog_ast.specs.declared.Target as tv
use Rattle.verilog_ast.specs.declared.Target.TheOpen.{Target-F}
use Rattle.verilog_ast.specs.declared.Target.TheFolds.{fold-roll-Target}
use Rattle.verilog_ast.specs.declared.Target.TheVariants as vt
use Rattle.verilog_ast.specs.declared.Stmt.{Stmt, roll-Stmt, map-Stmt}
use Rattle.verilog_ast.specs.declared.Stmt.TheOpen.{Stmt-F}
use Rattle.verilog_ast.specs.declared.Stmt.TheFolds.{ind-Stmt, fold-roll-Stmt}
use Rattle.verilog_ast.specs.declared.Stmt.TheVariants as st
use Rattle.verilog_ast.specs.declared.CaseItem.{CaseItem}
use Rattle.verilog_reading.specs.ExprTree.{ExprTree, tree_of, TargetTree, index_of, target_tree_step, target_tree_of}
use Rattle.verilog_reading.specs.StmtTree.{StmtTree, null, set, when, either, switch, switch_else, block, StmtTrees, ArmTree, stmt_tree_step, arm_tree_step, stmt_tree_of}
use Rattle.flat_meaning.specs.Meaning.{value}
use Rattle.flat_meaning.specs.Full.{nothing}
use Rattle.flat_meaning.specs.Flat.{Target, Whole, Part, Pick, Group}
use Rattle.flat_form.specs.View.{expr_of}
use Rattle.flat_form.specs.Sizes.{kept_of, is_sized}
use Rattle.flat_form.proofs.Sized.{sized_width, word_width}
use Rattle.flat_unfolding.specs.Outcome.{Text, Broken, breaks, breaks_if, judged, by_number}
use Rattle.flat_unfolding.specs.Names as n
use Rattle.flat_unfolding.specs.Names.{reset_at}
use Rattle.flat_unfolding.specs.Constants.{assigned_value}
use Rattle.flat_unfolding.specs.Expressions.{Term, is_empty, read}
use Rattle.flat_unfolding.specs.Targets.{of_registers, aim, first_name}
use Rattle.flat_unfolding.specs.Starts.{Starts, starts_with, twice_rule, start, names_register, initial_row, initial_rows, initial_starts, so_far, with_starts, start_of, first_start}
use Rattle.flat_unfolding.specs.Statements.{neither, done}
use Rattle.flat_unfolding.specs.Design as u
use Rattle.flat_unfolding.specs.Design.{Stage, look_of, with_design}
use Rattle.flat_unfolding.specs.Formed.{AreRowsFormed}
use Rattle.flat_unfolding.proofs.Steps.{none_of_both}
use Rattle.flat_names.specs.declared.scope.Meaning.{Meaning}
use Rattle.flat_names.specs.declared.scope.Look.{Look}
use Rattle.flat_names.specs.declared.design.Design.{Design}
use Rattle.flat_names.specs.declared.design.Entry.{Entry}
use Rattle.flat_names.specs.declared.resolved.Resolved.{Resolved}
use Rattle.flat_names.specs.Noting.{Noted, noted, all_noted, Raises}
use Rattle.flat_names.specs.Looks.{Seen, seen, shown, Shows, IsFit}
use Rattle.flat_names.specs.Pieces.{IsRead}
use Rattle.flat_names.specs.Designs.{signal_of, start_at, known_at, value_at, reset_of, IsReset, ShowsNames, ShowsDesign, Meets}
use Rattle.flat_names.proofs.Options.{none-some, some-same, ok-map}
use Rattle.flat_names.proofs.Notes.{then-noted}
use Rattle.flat_names.proofs.Looked.{entry-is, width-is, is-there}
use Rattle.flat_names.proofs.Named.{signal-word}
use Rattle.flat_statements.specs.Statements.{arm_tree_of}
use Rattle.flat_process.specs.declared.start.Start.{Start}
use Rattle.flat_process.specs.Starts.{AreStarts, with_start, IsStart, One, IsOne, with_one, is_reg_at, one_of, one_at, value_broken, row_one, row_broken, declared_one, declared_broken, is_memory_of}
use Rattle.flat_process.specs.Assigns.{fresh}
use Rattle.flat_process.proofs.Ended.{raised-ends, stage-ends, look-shown}

-- ---- rows

with-nothing : (es : List n.Entry) (bs : List Broken) (a : Starts) → with_one es None bs a ≡ record { starts = a.starts; broken = a.broken ++ bs }
with-nothing es bs a = ap (λ cs. record { starts = a.starts; broken = cs }) (append-nil (a.broken ++ bs))

three : {A : Type 0} (x a b c : List A) → x ++ a ++ b ++ c ≡ x ++ (a ++ b ++ c)
three x a b c = simp append_assoc

five : {A : Type 0} (x a b c d t : List A) → x ++ a ++ b ++ c ++ d ++ t ≡ x ++ (a ++ b ++ (c ++ d)) ++ t
five x a b c d t = simp append_assoc

-- what `initial_row` does adds what the row gives
module _ (l : n.Look) where
  -- a row that is no assignment
  other : (a : Starts) (cs ds : List Broken) → record a { broken = a.broken ++ cs ++ ds } ≡ with_one l.entries None (cs ++ ds) a
  other a cs ds = ap (λ xs. record { starts = a.starts; broken = xs }) (append_assoc a.broken cs ds) ∙ sym (with-nothing l.entries (cs ++ ds) a)

  -- what `initial_row` does with a target
  abbrev at_target : TargetTree → Starts → Term → Target → Starts
  at_target t b v (Whole s) = cond (is_reg_at l s) (start l (first_name t) s v b) (record b { broken = b.broken ++ v.broken })
  at_target t b v g = record b { broken = b.broken ++ v.broken }

  pub row-is : (a : Starts) (s : StmtTree) → initial_row l a s ≡ with_one l.entries (row_one l s) (row_broken l s) a
  row-is a (set blocking delay t e) = go (aim l of_registers t).target
    where
      v : Term
      v = read l e

      hs : List Broken
      hs = (aim l of_registers t).broken

      bs : List Broken
      bs = breaks_if (not blocking || not (names_register l t)) 313 (first_name t)

      b : Starts
      b = record { starts = a.starts; broken = a.broken ++ hs ++ bs }

      plain : record b { broken = b.broken ++ v.broken } ≡ with_one l.entries None (hs ++ bs ++ v.broken) a
      plain = ap (λ cs. record { starts = a.starts; broken = cs }) (three a.broken hs bs v.broken) ∙ sym (with-nothing l.entries (hs ++ bs ++ v.broken) a)

      whole : (s : ℕ) (c : Bool) → cond c (start l (first_name t) s v b) (record b { broken = b.broken ++ v.broken })
          ≡ with_one l.entries (cond c (Some (one_of l s v)) None) (hs ++ bs ++ cond c (v.broken ++ breaks_if (not v.is_constant) 313 (first_name t)) v.broken) a
      whole s true = ap (λ cs. record { starts = a.starts ++ (record { sig = s; value = (one_of l s v).1 }) ∷ []; broken = cs }) (five a.broken hs bs v.broken (breaks_if (not v.is_constant) 313 (first_name t)) (twice_rule l.entries a.starts s))
      whole s false = plain

      go : (g : Target) → at_target t b v g ≡ with_one l.entries (one_at l v g) (hs ++ bs ++ value_broken l (first_name t) v g) a
      go (Whole s) = whole s (is_reg_at l s)
      go (Part s at w) = plain
      go (Pick s i) = plain
      go (Group ts) = plain
  row-is a null = other a (breaks 313 []) (done l neither null).broken
  row-is a (when c s) = other a (breaks 313 []) (done l neither (when c s)).broken
  row-is a (either c s z) = other a (breaks 313 []) (done l neither (either c s z)).broken
  row-is a (switch c rows) = other a (breaks 313 []) (done l neither (switch c rows)).broken
  row-is a (switch_else c rows d) = other a (breaks 313 []) (done l neither (switch_else c rows d)).broken
  row-is a (block rows) = other a (breaks 313 []) (done l neither (block rows)).broken

-- ---- the first start value of a signal

starts-push : (zs : List u.Start) (z : u.Start) (s : ℕ) → starts_with (zs ++ z ∷ []) s ≡ (starts_with zs s || (z.sig == s))
starts-push [] z s = go (z.sig == s)
  where
    go : (b : Bool) → (b || false) ≡ (false || b)
    go true = refl
    go false = refl
starts-push (y ∷ zs) z s = ap (λ b. (y.sig == s) || b) (starts-push zs z s) ∙ go (y.sig == s) (starts_with zs s) (z.sig == s)
  where
    go : (a b c : Bool) → (a || (b || c)) ≡ ((a || b) || c)
    go true b c = refl
    go false b c = refl

first-some : (zs : List u.Start) (s : ℕ) → is_some (first_start zs s) ≡ starts_with zs s
first-some [] s = refl
first-some (z ∷ zs) s = go (z.sig == s) (first-some zs s)
  where
    go : (b : Bool) → is_some (first_start zs s) ≡ starts_with zs s → is_some (cond b (Some z.value) (first_start zs s)) ≡ (b || starts_with zs s)
    go true e = refl
    go false e = e

first-push : (zs : List u.Start) (z : u.Start) (s : ℕ) → first_start (zs ++ z ∷ []) s ≡ cond (is_some (first_start zs s)) (first_start zs s) (cond (z.sig == s) (Some z.value) None)
first-push [] z s = refl
first-push (y ∷ zs) z s = go (y.sig == s) (first-push zs z s)
  where
    go : (b : Bool) → first_start (zs ++ z ∷ []) s ≡ cond (is_some (first_start zs s)) (first_start zs s) (cond (z.sig == s) (Some z.value) None)
        → cond b (Some y.value) (first_start (zs ++ z ∷ []) s) ≡ cond (is_some (cond b (Some y.value) (first_start zs s))) (cond b (Some y.value) (first_start zs s)) (cond (z.sig == s) (Some z.value) None)
    go true e = refl
    go false e = e

some-kept : (o : Option ℕ) → cond (is_some o) o None ≡ o
some-kept None = refl
some-kept (Some x) = refl

-- ---- entries of which one got a start value

-- what doesn't ask for the start value stays
map-same : {A : Type 0} (g : Entry → A) (v : ℕ) → ((x : Entry) → g (record x { start = Some v }) ≡ g x) → (s : ℕ) (xs : List Entry) → map g (with_start s v xs) ≡ map g xs
map-same g v e s [] = refl
map-same g v e zero (x ∷ xs) = ap (λ y. y ∷ map g xs) (e x)
map-same g v e (suc s) (x ∷ xs) = ap (λ ys. g x ∷ ys) (map-same g v e s xs)

at-same : {A : Type 0} (g : Option Entry → A) (v : ℕ) → ((x : Entry) → g (Some (record x { start = Some v })) ≡ g (Some x)) → (s : ℕ) (xs : List Entry) (k : ℕ) → g (slice_get (with_start s v xs) k) ≡ g (slice_get xs k)
at-same g v e s [] k = refl
at-same g v e zero (x ∷ xs) zero = e x
at-same g v e zero (x ∷ xs) (suc k) = refl
at-same g v e (suc s) (x ∷ xs) zero = refl
at-same g v e (suc s) (x ∷ xs) (suc k) = at-same g v e s xs k

-- the start values of the entries
start-behind : (s v : ℕ) (xs : List Entry) (k : ℕ) → s < length xs → start_at (with_start s v xs) k ≡ cond (s == k) (Some v) (start_at xs k)
start-behind s v [] k h = absurd (omega (arith, h))
start-behind zero v (x ∷ xs) zero h = refl
start-behind zero v (x ∷ xs) (suc k) h = sym (ap (λ b. cond b (Some v) (start_at xs k)) (eqb-zero-suc k))
start-behind (suc s) v (x ∷ xs) zero h = sym (ap (λ b. cond b (Some v) x.start) (eqb-suc-zero s))
start-behind (suc s) v (x ∷ xs) (suc k) h = start-behind s v xs k (omega (arith, h)) ∙ sym (ap (λ b. cond b (Some v) (start_at xs k)) (eqb-suc-suc s k))

-- the entries where there is one at that place, and where there is none
pub set-is : (s v : ℕ) (xs : List Entry) (x y : Entry) → s < length xs → x ≡ slice_index_or xs s x → y ≡ record x { start = Some v } → slice_set xs s y ≡ with_start s v xs
set-is s v [] x y h e q = absurd (omega (arith, h))
set-is zero v (z ∷ xs) x y h e q = ap (λ w. w ∷ xs) (q ∙ ap (λ (w : Entry). record w { start = Some v }) e)
set-is (suc s) v (z ∷ xs) x y h e q = ap (λ ws. z ∷ ws) (set-is s v xs x y (omega (arith, h)) e q)

pub set-past : (s v : ℕ) (xs : List Entry) → length xs ≤ s → with_start s v xs ≡ xs
set-past s v [] h = refl
set-past zero v (x ∷ xs) h = absurd (omega (arith, h))
set-past (suc s) v (x ∷ xs) h = ap (λ ys. x ∷ ys) (set-past s v xs (omega (arith, h)))

module _ (pins : List ResetPin) (d : Design) (e : u.Design) (zs : List u.Start) (h : ShowsDesign pins d (record e { starts = zs })) where
  as-many : length d.entries.items ≡ length e.entries
  as-many = sym (length-map d.entries.items seen) ∙ ap length h.entries ∙ length-map e.entries shown

  -- a first start value
  shows-start : (w : Vec Entry Global) (s v : ℕ) → w.items ≡ with_start s v d.entries.items → s < length e.entries → starts_with zs s ≡ false
      → ShowsDesign pins (record d { entries = w }) (record e { starts = zs ++ (record { sig = s; value = v }) ∷ [] })
  shows-start w s v i inside first = record {
    entries = ap (map seen) i ∙ map-same seen v (λ x. refl) s d.entries.items ∙ h.entries;
    may_repeat = ap (map (λ (x : Entry). x.is_open)) i ∙ map-same (λ (x : Entry). x.is_open) v (λ x. refl) s d.entries.items ∙ h.may_repeat;
    signals = h.signals;
    resets = λ k. subst (λ o. IsReset pins o (reset_at e.entries k)) (sym (ap (λ ys. reset_of ys k) i ∙ at-same (option_and_then (λ (x : Entry). x.reset)) v (λ x. refl) s d.entries.items k)) (h.resets k);
    assigns = h.assigns;
    combs = h.combs;
    clocked = h.clocked;
    declared = h.declared;
    process_resets = h.process_resets;
    late = h.late;
    outputs = h.outputs;
    starts = λ k. ap (λ ys. start_at ys k) i ∙ start-behind s v d.entries.items k (subst (λ m. s < m) (sym as-many) inside)
        ∙ ap (λ o. cond (s == k) (Some v) o) (h.starts k) ∙ go k (s == k) refl ∙ sym (first-push zs (record { sig = s; value = v }) k);
    givens = λ k. record {
      known = λ j b. ap (λ m. bit_at m j) (ap (λ ys. known_at ys k) i ∙ at-same (λ o. option_map_or (λ (x : Entry). x.reset_known) o 0) v (λ x. refl) s d.entries.items k) ∙ (h.givens k).known j b;
      value = λ j b. ap (λ m. bit_at m j) (ap (λ ys. value_at ys k) i ∙ at-same (λ o. option_map_or (λ (x : Entry). x.reset_start) o 0) v (λ x. refl) s d.entries.items k) ∙ (h.givens k).value j b;
    };
    sizes = h.sizes;
  }
    where
      go : (k : ℕ) (b : Bool) → (s == k) ≡ b → cond b (Some v) (first_start zs k) ≡ cond (is_some (first_start zs k)) (first_start zs k) (cond b (Some v) None)
      go k true q = sym (ap (λ c. cond c (first_start zs k) (Some v)) (first-some zs k ∙ ap (starts_with zs) (sym (eqb-true s k q)) ∙ first))
      go k false q = sym (some-kept (first_start zs k))

-- ---- a second start value

-- E309 at the entry of its signal
abbrev twice_at : Option n.Entry → List Broken
twice_at None = []
twice_at (Some x) = (record { number = 309; name = x.printed; place = Some x.place }) ∷ []

once : (es : List n.Entry) (zs : List u.Start) (s : ℕ) → starts_with zs s ≡ false → twice_rule es zs s ≡ []
once es zs s t = ap (λ c. cond c (twice_at (slice_get es s)) []) t

twice : (es : List n.Entry) (zs : List u.Start) (s : ℕ) (x : n.Entry) → starts_with zs s ≡ true → slice_get es s ≡ Some x → twice_rule es zs s ≡ (record { number = 309; name = x.printed; place = Some x.place }) ∷ []
twice es zs s x t i = ap₂ (λ c o. cond c (twice_at o) []) t i

-- ---- one more start value

module _ (pins : List ResetPin) (d : Design) (e : u.Design) (a : Starts) (bs : List Broken) (h : AreStarts pins d e a) where
  no-more : AreStarts pins d e (with_one e.entries None bs a)
  no-more = record { starts = h.starts; shows = h.shows; same = h.same; sound = λ q. h.sound (none_of_both a.broken bs (none_of_both (a.broken ++ bs) [] q).0).0 }

  -- a second one, which breaks a rule
  second : (s n : ℕ) (b : Broken) → starts_with a.starts s ≡ true → twice_rule e.entries a.starts s ≡ b ∷ [] → AreStarts pins d e (with_one e.entries (Some (s, n)) bs a)
  second s n b t r = record {
    starts = h.starts;
    shows = h.shows;
    same = λ k. h.same k ∙ go k (s == k) refl ∙ sym (starts-push a.starts (record { sig = s; value = n }) k);
    sound = λ q. let p = (none_of_both (a.broken ++ bs) (twice_rule e.entries a.starts s) q).1 in let z = sym r ∙ p in absurd (search (rules, z));
  }
    where
      go : (k : ℕ) (c : Bool) → (s == k) ≡ c → starts_with a.starts k ≡ (starts_with a.starts k || c)
      go k false q = or-false (starts_with a.starts k)
        where
          or-false : (x : Bool) → x ≡ (x || false)
          or-false true = refl
          or-false false = refl
      go k true q = or-true (starts_with a.starts k) (ap (starts_with a.starts) (sym (eqb-true s k q)) ∙ t)
        where
          or-true : (x : Bool) → x ≡ true → x ≡ (x || true)
          or-true true y = refl
          or-true false y = y

  first-one : (w : Vec Entry Global) (s n v : ℕ) → w.items ≡ with_start s v d.entries.items → (bs ≡ [] → v ≡ n) → s < length e.entries → starts_with a.starts s ≡ false
      → AreStarts pins (record d { entries = w }) e (with_one e.entries (Some (s, n)) bs a)
  first-one w s n v i q inside t = record {
    starts = h.starts ++ (record { sig = s; value = v }) ∷ [];
    shows = shows-start pins d e h.starts h.shows w s v i inside (h.same s ∙ t);
    same = λ k. starts-push h.starts (record { sig = s; value = v }) k ∙ ap (λ x. x || (s == k)) (h.same k) ∙ sym (starts-push a.starts (record { sig = s; value = n }) k);
    sound = λ z. let p = none_of_both a.broken bs (none_of_both (a.broken ++ bs) (twice_rule e.entries a.starts s) z).0 in
        ap₂ (λ (xs : List u.Start) (y : ℕ). xs ++ (record { sig = s; value = y }) ∷ []) (h.sound p.0) (q p.1);
  }

  has-it : (o : Option Entry) → option_map_or (λ (x : Entry). is_some x.start) o false ≡ is_some (option_and_then (λ (x : Entry). x.start) o)
  has-it None = refl
  has-it (Some x) = refl

  -- whether the signal has one already
  pub has-start : (s m : ℕ) (xs : List Entry) (b : Bool) → m ≡ s → xs ≡ d.entries.items → b ≡ option_map_or (λ (x : Entry). is_some x.start) (slice_get xs m) false → b ≡ starts_with a.starts s
  has-start s m xs b i j k = k ∙ ap₂ (λ ys q. option_map_or (λ (x : Entry). is_some x.start) (slice_get ys q) false) j i ∙ has-it (slice_get d.entries.items s) ∙ ap is_some (h.shows.starts s) ∙ first-some h.starts s ∙ h.same s

  -- none, the first one and a second one are kept as the definition keeps them
  pub keep-none : (o : One) (b : Option Start) (f g : Noted) → b ≡ None → IsOne o bs b → g ≡ all_noted f (a.broken ++ bs) → AreStarts pins d e (with_one e.entries o bs a) × (g ≡ all_noted f (with_one e.entries o bs a).broken)
  keep-none None b f g i j k = (no-more, k ∙ ap (all_noted f) (sym (append-nil (a.broken ++ bs))))
  keep-none (Some p) None f g i j k = absurd j
  keep-none (Some p) (Some b) f g i j k = none-some b (sym i)

  pub keep-first : (w : Vec Entry Global) (p : ℕ × ℕ) (b : Start) (f g : Noted) → w.items ≡ with_start p.0 b.value d.entries.items → IsStart p.0 p.1 bs b → p.0 < length e.entries → starts_with a.starts p.0 ≡ false
      → g ≡ all_noted f (a.broken ++ bs) → AreStarts pins (record d { entries = w }) e (with_one e.entries (Some p) bs a) × (g ≡ all_noted f (with_one e.entries (Some p) bs a).broken)
  keep-first w p b f g i is inside t k = (
    first-one w p.0 p.1 b.value i is.value inside t,
    k ∙ ap (all_noted f) (sym (append-nil (a.broken ++ bs)) ∙ ap (λ cs. a.broken ++ bs ++ cs) (sym (once e.entries a.starts p.0 t))),
  )

  pub keep-second : (p : ℕ × ℕ) (f g m : Noted) (r : Result (Unit {0}) NoMemory) → p.0 < length e.entries → starts_with a.starts p.0 ≡ true → g ≡ all_noted f (a.broken ++ bs)
      → ((x : Signal) → slice_get d.signals.items p.0 ≡ Some x → IfOk r (λ _. m ≡ noted g (record { number = 309; name = x.name; place = Some x.place })))
      → IfOk r (λ _. AreStarts pins d e (with_one e.entries (Some p) bs a) × (m ≡ all_noted f (with_one e.entries (Some p) bs a).broken))
  keep-second p f g m r inside t before after = go (slice_get e.entries p.0) refl
    where
      go : (o : Option n.Entry) → slice_get e.entries p.0 ≡ o → IfOk r (λ _. AreStarts pins d e (with_one e.entries (Some p) bs a) × (m ≡ all_noted f (with_one e.entries (Some p) bs a).broken))
      go None q = absurd (is-there e.entries p.0 inside q)
      go (Some x) q =
          let b : Broken = record { number = 309; name = x.printed; place = Some x.place } in
          let w = twice e.entries a.starts p.0 x t q in
          ok-map r (λ _ i. (second p.0 p.1 b t w, then-noted f g m (a.broken ++ bs) (b ∷ []) before i ∙ ap (λ cs. all_noted f (a.broken ++ bs ++ cs)) (sym w)))
          (after (signal_of x) (ap (λ ss. slice_get ss p.0) h.shows.signals ∙ slice_get-map signal_of e.entries p.0 ∙ ap (option_map signal_of) q))

-- ---- start values of one item

-- more rules may be broken
start-later : (s n : ℕ) (b : Start) (bs cs : List Broken) → (cs ≡ [] → bs ≡ []) → IsStart s n bs b → IsStart s n cs b
start-later s n b bs cs f h = record { sig = h.sig; value = λ e. h.value (f e) }

one-later : (o : One) (b : Option Start) (bs cs : List Broken) → (cs ≡ [] → bs ≡ []) → IsOne o bs b → IsOne o cs b
one-later None None bs cs f h = h
one-later None (Some b) bs cs f h = h
one-later (Some p) None bs cs f h = h
one-later (Some p) (Some b) bs cs f h = start-later p.0 p.1 b bs cs f h

first-none : {A : Type 0} (xs ys : List A) → xs ++ ys ≡ [] → xs ≡ []
first-none xs ys e = (none_of_both xs ys e).0

last-none : {A : Type 0} (xs ys : List A) → xs ++ ys ≡ [] → ys ≡ []
last-none xs ys e = (none_of_both xs ys e).1

module _ (k : Look) (l : n.Look) (shows : Shows k l) where
  -- the value of a start
  pub start-value : (s w v : ℕ) (t : Term) (r : Resolved) → IsFit l → s < length l.entries → IsRead t r → w ≡ option_map_or (λ (x : Entry). x.width) (slice_get k.entries.now s) 1
      → (is_sized r.expr ≡ true → w ≤ 64 → v ≡ number (value nothing (expr_of r.expr) (max w (kept_of r.expr).width)) w)
      → IsStart s (one_of l s t).1 t.broken (record { sig = s; value = v })
  start-value s w v t r fit inside is e h = record {
    sig = refl;
    value = λ b. let sound = is.sound ∙ ap is_empty b in let sized = is.sized sound in let wide = e ∙ width-is k l shows s inside in
        h sized (subst (λ m. m ≤ 64) (sym wide) (word_width _ (signal-word l s fit inside)).most)
        ∙ ap (λ m. number (value nothing (expr_of r.expr) (max w m)) w) (sized_width r.expr sized)
        ∙ ap (λ x. assigned_value x w) (is.expr sound) ∙ ap (assigned_value t.expr) wide;
  }

  -- a declared register
  reg-of : (o : Option Entry) (q : Option n.Entry) → option_map seen o ≡ option_map shown q → option_map_or (λ (x : Entry). x.is_reg) o false ≡ option_map_or (λ (x : n.Entry). x.is_reg) q false
  reg-of None None e = refl
  reg-of None (Some y) e = none-some (shown y) e
  reg-of (Some x) None e = none-some (seen x) (sym e)
  reg-of (Some x) (Some y) e = ap (λ (z : Seen). z.is_reg) (some-same (seen x) (shown y) e)

  pub reg-is : (s : ℕ) → option_map_or (λ (x : Entry). x.is_reg) (slice_get k.entries.now s) false ≡ is_reg_at l s
  reg-is s = reg-of (slice_get k.entries.now s) (slice_get l.entries s) (entry-is k l shows s)

-- the start value of a declared signal
pub declared-signal : (l : n.Look) (x y : Text) (s : ℕ) (v : Term) (b : Start) (f g : Noted) → n.meaning l x ≡ Some (n.a_signal s) → y ≡ x → IsStart s (one_of l s v).1 v.broken b
    → g ≡ all_noted f (v.broken ++ breaks_if (not v.is_constant) 313 y)
    → IsOne (declared_one l (n.meaning l x) v) (declared_broken l x (n.meaning l x) v) (Some b) × (g ≡ all_noted f (declared_broken l x (n.meaning l x) v))
declared-signal l x y s v b f g m e h i = subst (λ o. IsOne (declared_one l o v) (declared_broken l x o v) (Some b) × (g ≡ all_noted f (declared_broken l x o v))) (sym m) (
  start-later s (one_of l s v).1 b v.broken (v.broken ++ breaks_if (not v.is_constant) 313 x) (first-none v.broken (breaks_if (not v.is_constant) 313 x)) h,
  i ∙ ap (λ z. all_noted f (v.broken ++ breaks_if (not v.is_constant) 313 z)) e,
)

-- the start value of a whole register
pub at-register : (l : n.Look) (x : Text) (t : Target) (s : ℕ) (v : Term) (b : Start) (f g : Noted) → t ≡ Whole s → is_reg_at l s ≡ true → IsStart s (one_of l s v).1 v.broken b
    → g ≡ all_noted f (v.broken ++ breaks_if (not v.is_constant) 313 x)
    → IsOne (one_at l v t) (value_broken l x v t) (Some b) × (g ≡ all_noted f (value_broken l x v t))
at-register l x t s v b f g e r h i =
    let bs = breaks_if (not v.is_constant) 313 x in
    subst (λ z. IsOne (one_at l v z) (value_broken l x v z) (Some b) × (g ≡ all_noted f (value_broken l x v z))) (sym e)
    (subst (λ c. IsOne (cond c (Some (one_of l s v)) None) (cond c (v.broken ++ bs) v.broken) (Some b) × (g ≡ all_noted f (cond c (v.broken ++ bs) v.broken))) (sym r)
    (start-later s (one_of l s v).1 b v.broken (v.broken ++ bs) (first-none v.broken bs) h, i))

-- the start value of a row, behind what its target breaks
pub row-later : (o : One) (b : Option Start) (hs bs cs : List Broken) (f f1 f2 f3 : Noted) → f1 ≡ all_noted f hs → f2 ≡ all_noted f1 bs → IsOne o cs b → f3 ≡ all_noted f2 cs
    → IsOne o (hs ++ bs ++ cs) b × (f3 ≡ all_noted f (hs ++ bs ++ cs))
row-later o b hs bs cs f f1 f2 f3 e1 e2 h e3 = (one-later o b cs (hs ++ bs ++ cs) (last-none (hs ++ bs) cs) h, then-noted f f2 f3 (hs ++ bs) cs (then-noted f f1 f2 hs bs e1 e2) e3)

-- a start value is that of a signal which is there
module _ (l : n.Look) where
  pub reg-there : (s : ℕ) → is_reg_at l s ≡ true → s < length l.entries
  reg-there s r = go (slice_get l.entries s) refl r
    where
      go : (o : Option n.Entry) → slice_get l.entries s ≡ o → option_map_or (λ (x : n.Entry). x.is_reg) o false ≡ true → s < length l.entries
      go None e i = absurd (false≢true i)
      go (Some x) e i = slice_get_within l.entries s x e

  reg-inside : (s : ℕ) (c : Bool) → is_reg_at l s ≡ c → (p q : ℕ × ℕ) → q.0 ≡ s → cond c (Some q) None ≡ Some p → p.0 < length l.entries
  reg-inside s false r p q e h = none-some p h
  reg-inside s true r p q e h = subst (λ m. m < length l.entries) (sym e ∙ ap (λ (x : ℕ × ℕ). x.0) (some-same q p h)) (reg-there s r)

  at-inside : (v : Term) (t : Target) (p : ℕ × ℕ) → one_at l v t ≡ Some p → p.0 < length l.entries
  at-inside v (Whole s) p h = reg-inside s (is_reg_at l s) refl p (one_of l s v) refl h
  at-inside v (Part s i w) p h = none-some p h
  at-inside v (Pick s i) p h = none-some p h
  at-inside v (Group ts) p h = none-some p h

  pub row-inside : (s : StmtTree) (p : ℕ × ℕ) → row_one l s ≡ Some p → p.0 < length l.entries
  row-inside (set blocking delay t e) p h = at-inside (read l e) (aim l of_registers t).target p h
  row-inside null p h = none-some p h
  row-inside (when c s) p h = none-some p h
  row-inside (either c s z) p h = none-some p h
  row-inside (switch c rows) p h = none-some p h
  row-inside (switch_else c rows d) p h = none-some p h
  row-inside (block rows) p h = none-some p h

  pub declared-inside : IsFit l → (x : Text) (v : Term) (p : ℕ × ℕ) → declared_one l (n.meaning l x) v ≡ Some p → p.0 < length l.entries
  declared-inside fit x v p h = go (n.meaning l x) refl h
    where
      go : (m : Option n.Meaning) → n.meaning l x ≡ m → declared_one l m v ≡ Some p → p.0 < length l.entries
      go None e h = none-some p h
      go (Some (n.a_param q)) e h = none-some p h
      go (Some (n.a_signal s)) e h = subst (λ m. m < length l.entries) (ap (λ (x : ℕ × ℕ). x.0) (some-same (one_of l s v) p h)) (fit.signals x s e)
      go (Some (n.a_memory a)) e h = none-some p h
      go (Some n.no_value) e h = none-some p h

-- ---- rows that are no start value

-- a statement that is no assignment
abbrev IsOther : StmtTree → Type 0
IsOther (set blocking delay t e) = ⊥
IsOther s = Unit {0}

abbrev IsNoSet : Stmt → Type 0
IsNoSet s = (blocking : Bool) (delay : Option Delay) (t : tv.Target) (e : Expr) → s ≡ st.Set blocking delay t e → ⊥

other-layer : (x : Stmt-F Stmt CaseItem) → IsNoSet (roll-Stmt x) → IsOther (stmt_tree_step (map-Stmt Stmt CaseItem StmtTree ArmTree stmt_tree_of arm_tree_of x))
other-layer Stmt-F.Null h = tt
other-layer (Stmt-F.Set b d t e) h = absurd (h b d t e (st.rolls-Set b d t e))
other-layer (Stmt-F.If c s None) h = tt
other-layer (Stmt-F.If c s (Some z)) h = tt
other-layer (Stmt-F.Case masks c is None) h = tt
other-layer (Stmt-F.Case masks c is (Some z)) h = tt
other-layer (Stmt-F.Block xs) h = tt

pub other-tree : (s : Stmt) → IsNoSet s → IsOther (stmt_tree_of s)
other-tree = ind-Stmt (λ s. IsNoSet s → IsOther (stmt_tree_of s)) (λ i. Unit {0})
    (λ x y is h. subst IsOther (sym (fold-roll-Stmt StmtTree ArmTree stmt_tree_step arm_tree_step x)) (other-layer x h))
    (λ x y is. tt)

pub other-row : (l : n.Look) (s : StmtTree) (f f1 f2 : Noted) → IsOther s → f1 ≡ all_noted f (breaks 313 []) → f2 ≡ all_noted f1 (done l neither s).broken → IsOne (row_one l s) (row_broken l s) None × (f2 ≡ all_noted f (row_broken l s))
other-row l (set blocking delay t e) f f1 f2 h i j = absurd h
other-row l null f f1 f2 h i j = (tt, then-noted f f1 f2 (breaks 313 []) (done l neither null).broken i j)
other-row l (when c s) f f1 f2 h i j = (tt, then-noted f f1 f2 (breaks 313 []) (done l neither (when c s)).broken i j)
other-row l (either c s z) f f1 f2 h i j = (tt, then-noted f f1 f2 (breaks 313 []) (done l neither (either c s z)).broken i j)
other-row l (switch c rows) f f1 f2 h i j = (tt, then-noted f f1 f2 (breaks 313 []) (done l neither (switch c rows)).broken i j)
other-row l (switch_else c rows d) f f1 f2 h i j = (tt, then-noted f f1 f2 (breaks 313 []) (done l neither (switch_else c rows d)).broken i j)
other-row l (block rows) f f1 f2 h i j = (tt, then-noted f f1 f2 (breaks 313 []) (done l neither (block rows)).broken i j)

-- a statement that is no block
abbrev IsSingle : StmtTree → Type 0
IsSingle (block rows) = ⊥
IsSingle s = Unit {0}

abbrev IsNoBlock : Stmt → Type 0
IsNoBlock s = (xs : List Stmt) → s ≡ st.Block xs → ⊥

single-layer : (x : Stmt-F Stmt CaseItem) → IsNoBlock (roll-Stmt x) → IsSingle (stmt_tree_step (map-Stmt Stmt CaseItem StmtTree ArmTree stmt_tree_of arm_tree_of x))
single-layer Stmt-F.Null h = tt
single-layer (Stmt-F.Set b d t e) h = tt
single-layer (Stmt-F.If c s None) h = tt
single-layer (Stmt-F.If c s (Some z)) h = tt
single-layer (Stmt-F.Case masks c is None) h = tt
single-layer (Stmt-F.Case masks c is (Some z)) h = tt
single-layer (Stmt-F.Block xs) h = absurd (h xs (st.rolls-Block xs))

pub single-tree : (s : Stmt) → IsNoBlock s → IsSingle (stmt_tree_of s)
single-tree = ind-Stmt (λ s. IsNoBlock s → IsSingle (stmt_tree_of s)) (λ i. Unit {0})
    (λ x y is h. subst IsSingle (sym (fold-roll-Stmt StmtTree ArmTree stmt_tree_step arm_tree_step x)) (single-layer x h))
    (λ x y is. tt)

pub single-starts : (l : n.Look) (a : Starts) (s : StmtTree) → IsSingle s → initial_row l a s ≡ initial_starts l a s
single-starts l a (set blocking delay t e) h = refl
single-starts l a null h = refl
single-starts l a (when c s) h = refl
single-starts l a (either c s z) h = refl
single-starts l a (switch c rows) h = refl
single-starts l a (switch_else c rows d) h = refl
single-starts l a (block rows) h = absurd h

-- what the name of an indexed target has to be: that of a memory
abbrev names_word : n.Look → ExprTree → Option n.Meaning → Bool
names_word l i (Some (n.a_memory m)) = (read l i).is_constant
names_word l i m = false

pub tree-at : (x : Text) (i : Expr) → target_tree_of (vt.At x i) ≡ index_of x (tree_of i)
tree-at x i = ap target_tree_of (sym (vt.rolls-At x i)) ∙ fold-roll-Target TargetTree target_tree_step (Target-F.At x i)

pub names-word : (l : n.Look) (t : tv.Target) (x : Text) (i : Expr) (b : Bool) → t ≡ vt.At x i → is_memory_of (n.meaning l x) ≡ true → b ≡ (read l (tree_of i)).is_constant → b ≡ names_register l (target_tree_of t)
names-word l t x i b e h k = k ∙ sym (ap (names_register l) (ap target_tree_of e ∙ tree-at x i) ∙ go (n.meaning l x) h)
  where
    go : (m : Option n.Meaning) → is_memory_of m ≡ true → names_word l (tree_of i) m ≡ (read l (tree_of i)).is_constant
    go None q = absurd (false≢true q)
    go (Some (n.a_param p)) q = absurd (false≢true q)
    go (Some (n.a_signal s)) q = absurd (false≢true q)
    go (Some (n.a_memory m)) q = refl
    go (Some n.no_value) q = absurd (false≢true q)

-- ---- items

-- an item that starts with the design's start values
pub at-first : (pins : List ResetPin) (d : Design) (s : Stage) → ShowsDesign pins d s.design → AreStarts pins d s.design (so_far s)
at-first pins d s h = record { starts = s.design.starts; shows = h; same = λ k. refl; sound = λ q. refl }

-- the start value of a declaration is added as any other
pub declared-is : (s : Stage) (p : Place) (x : Text) (m : Option n.Meaning) (v : Term)
    → start_of s p x m v ≡ with_starts s p (with_one s.design.entries (declared_one (look_of s) m v) (declared_broken (look_of s) x m v) (so_far s))
declared-is s p x None v = ap (λ bs. judged by_number p bs s) (sym (append-nil v.broken))
declared-is s p x (Some (n.a_param q)) v = ap (λ bs. judged by_number p bs s) (sym (append-nil v.broken))
declared-is s p x (Some (n.a_signal sig)) v = refl
declared-is s p x (Some (n.a_memory a)) v = ap (λ bs. judged by_number p bs s) (sym (append-nil v.broken))
declared-is s p x (Some n.no_value) v = ap (λ bs. judged by_number p bs s) (sym (append-nil v.broken))

-- an item ends with its start values, or with the refusal
pub starts-end : {S : Type 0} (pins : List ResetPin) (table : IndexMap Text Meaning S) (d : Design) (s : Stage) (p : Place) (a : Starts) (m : Noted) (r : Result (Unit {0}) Stop)
    → ShowsNames table s.names → AreStarts pins d s.design a → m ≡ all_noted fresh a.broken → Raises m.found p r → Meets pins table (with_starts s p a) r d
starts-end pins table d s p a m r names h all raises =
    let e = record s.design { starts = a.starts } in
    stage-ends pins table d s by_number p a.broken e r names
    (raised-ends (ShowsDesign pins d) p a.broken e m r all raises (λ q. subst (λ zs. ShowsDesign pins d (record s.design { starts = zs })) (h.sound q) h.shows))

-- start values change no names and nothing that expressions read
pub look-of : (pins : List ResetPin) (k : Look) (d : Design) (s : Stage) (a : Starts) → ShowsNames k.names.now s.names → AreStarts pins d s.design a → k.entries.now ≡ d.entries.items → k.active ≡ false → Shows k (look_of s)
look-of pins k d s a names h e i = look-shown pins k d (with_design s (record s.design { starts = h.starts })) names h.shows e i

-- ---- one after another

-- a block so far: what is left of it leads to what the whole does
pub record IsPartly (pins : List ResetPin) (d : Design) (e : u.Design) (l : n.Look) (all : Starts) (rows : StmtTrees) (f g : Noted) : Type 0 where
  pub done : Starts
  pub starts : AreStarts pins d e done
  pub rest : initial_rows l done rows ≡ all
  pub formed : AreRowsFormed rows
  pub noted : g ≡ all_noted f done.broken
