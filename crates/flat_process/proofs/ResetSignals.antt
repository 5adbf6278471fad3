-- The signals of a condition, and the resets that they resolve to.
use Rattle.std.proofs.Common.{◌≡◌, ℕ, Bool, true, false, cond, not, ◌&&◌, ◌==◌, List, [], ◌∷◌, ◌++◌, length, Option, Some, None, refl, sym, ap, ap₂, subst, ◌∙◌, arith, append_assoc, eqb-true}
use Rattle.std.specs.Prelude.{option_map, is_some}
use Rattle.std.specs.Option.{option_map_or, option_or}
use Rattle.std.specs.List.{list_all}
use Rattle.std.proofs.lemmas.Bool.{false≢true}
use Rattle.cdc_base.specs.declared.signal.ResetPin.{ResetPin}
use Rattle.flat_meaning.specs.Flat.{size}
use Rattle.flat_form.specs.Sizes.{kept_of}
use Rattle.flat_form.proofs.Sized.{sized_width}
use Rattle.flat_unfolding.specs.Outcome.{Text}
use Rattle.flat_unfolding.specs.Names.{Meaning, a_param, a_signal, a_memory, no_value, Look, meaning, reset_at}
use Rattle.flat_unfolding.specs.Expressions.{Term, is_sound}
use Rattle.verilog_ast.specs.declared.BinaryOp.{BinaryOp}
use Rattle.verilog_reading.specs.ExprTree.{ExprTree, binary}
use Rattle.flat_unfolding.specs.Mentions.{names_in}
use Rattle.flat_unfolding.specs.Resets.{signals_among, is_reset, are_resets, is_test, at_level, reset_signals, is_or, both_signals, tested_signals, resets_in}
use Rattle.flat_names.specs.declared.design.Reset.{Reset}
use Rattle.flat_names.specs.declared.scope.Look as v
use Rattle.flat_names.specs.declared.resolved.Resolved.{Resolved}
use Rattle.flat_names.specs.Looks.{Shows}
use Rattle.flat_names.specs.Pieces.{IsRead}
use Rattle.flat_names.specs.Designs.{reset_of}
use Rattle.flat_names.proofs.Looked.{level-is}
use Rattle.flat_targets.proofs.Reading.{some-map}
use Rattle.flat_process.specs.declared.reset.Signals.{Signals}
use Rattle.flat_process.specs.Resets.{signals_of, joined}

-- ---- signals so far, and one name after another

start-joined : (a : Option (List ℕ)) → a ≡ joined (Some []) a
start-joined None = refl
start-joined (Some xs) = refl

joined-assoc : (a b c : Option (List ℕ)) → joined (joined a b) c ≡ joined a (joined b c)
joined-assoc None b c = refl
joined-assoc (Some xs) None c = refl
joined-assoc (Some xs) (Some ys) None = refl
joined-assoc (Some xs) (Some ys) (Some zs) = ap Some (append_assoc xs ys zs)

-- what a name adds, by what it stands for
abbrev pub by_meaning : Option Meaning → Option (List ℕ) → Option (List ℕ)
by_meaning (Some (a_param p)) o = o
by_meaning (Some (a_signal s)) o = option_map (λ ss. s ∷ ss) o
by_meaning m o = None

by-joined : (m : Option Meaning) (a b : Option (List ℕ)) → by_meaning m (joined a b) ≡ joined (by_meaning m a) b
by-joined None a b = refl
by-joined (Some (a_param p)) a b = refl
by-joined (Some (a_signal s)) None b = refl
by-joined (Some (a_signal s)) (Some xs) None = refl
by-joined (Some (a_signal s)) (Some xs) (Some ys) = refl
by-joined (Some (a_memory m)) a b = refl
by-joined (Some no_value) a b = refl

module _ (l : Look) where
  among-both : (xs ys : List Text) → signals_among l (xs ++ ys) ≡ joined (signals_among l xs) (signals_among l ys)
  among-both [] ys = start-joined (signals_among l ys)
  among-both (x ∷ xs) ys = ap (by_meaning (meaning l x)) (among-both xs ys) ∙ by-joined (meaning l x) (signals_among l xs) (signals_among l ys)

  -- names, and the names behind them
  pub then-among : (a b c : Option (List ℕ)) (xs ys : List Text) → b ≡ joined a (signals_among l xs) → c ≡ joined b (signals_among l ys) → c ≡ joined a (signals_among l (xs ++ ys))
  then-among a b c xs ys h i = i ∙ ap (λ o. joined o (signals_among l ys)) h ∙ joined-assoc a (signals_among l xs) (signals_among l ys) ∙ ap (joined a) (sym (among-both xs ys))

  -- the step of a loop over names
  pub among-step : (b c d : Option (List ℕ)) (xs ys : List Text) → joined b (signals_among l (xs ++ ys)) ≡ d → c ≡ joined b (signals_among l xs) → joined c (signals_among l ys) ≡ d
  among-step b c d xs ys h i = ap (λ o. joined o (signals_among l ys)) i ∙ joined-assoc b (signals_among l xs) (signals_among l ys) ∙ ap (joined b) (sym (among-both xs ys)) ∙ h

-- ---- resets

-- whether the code knows a reset of a signal
pub reset-is : (k : v.Look) (l : Look) → Shows k l → (s : ℕ) (o : Option Reset) → o ≡ reset_of k.entries.now s → is_some o ≡ is_reset l s
reset-is k l h s o e = ap is_some e ∙ sym (some-map (λ (q : Reset). q.is_high) (reset_of k.entries.now s)) ∙ ap is_some (level-is k l h s) ∙ some-map (λ (q : ResetPin). q.high) (reset_at l.entries s)

-- signals among which one is no reset, and those that all are
pub some-fails : (l : Look) (ss : List ℕ) → false ≡ list_all (is_reset l) ss → false ≡ are_resets l ss
some-fails l [] h = refl
some-fails l (s ∷ rest) h = h

pub all-pass : (l : Look) (ss : List ℕ) (b : Bool) → true ≡ list_all (is_reset l) ss → b ≡ (length ss == 0) → not b ≡ are_resets l ss
all-pass l [] b h e = ap not e
all-pass l (s ∷ rest) true h e = let k = eqb-true (length (s ∷ rest)) 0 (sym e) in absurd (omega arith)
all-pass l (s ∷ rest) false h e = h

-- the step of a loop over them
pub all-not : (P : ℕ → Bool) (x : ℕ) (rest : List ℕ) (b : Bool) → list_all P (x ∷ rest) ≡ b → P x ≡ false → false ≡ b
all-not P x rest b h e = ap (λ t. t && list_all P rest) (sym e) ∙ h

pub all-then : (P : ℕ → Bool) (x : ℕ) (rest : List ℕ) (b : Bool) → list_all P (x ∷ rest) ≡ b → P x ≡ true → list_all P rest ≡ b
all-then P x rest b h e = ap (λ t. t && list_all P rest) (sym e) ∙ h

not-flips : (a b : Bool) → a ≡ not b → not a ≡ b
not-flips a true e = ap not e
not-flips a false e = ap not e

pub not-true : (b : Bool) → true ≡ not b → false ≡ b
not-true b e = not-flips true b e

pub not-false : (b : Bool) → false ≡ not b → true ≡ b
not-false b e = not-flips false b e

-- ---- the signals of a condition that tests resets alone

module _ (l : Look) (e : ExprTree) (a : Signals) (h : signals_of a ≡ signals_among l (names_in e)) where
  abbrev tests : Bool
  tests = is_test l (at_level l false e) (at_level l true e)

  abbrev by_signals : Option (List ℕ) → Option (List ℕ)
  by_signals None = None
  by_signals (Some ss) = cond (are_resets l ss && tests) (Some ss) None

  signals-by : reset_signals l e ≡ by_signals (signals_of a)
  signals-by = ap by_signals (sym h)

  pub tested : true ≡ option_map_or (are_resets l) (signals_of a) false → tests ≡ true → Some a.numbers.items ≡ reset_signals l e
  tested i j = go a.has_others refl ∙ sym signals-by
    where
      go : (b : Bool) → a.has_others ≡ b → Some a.numbers.items ≡ by_signals (signals_of a)
      go true k = absurd (false≢true (sym (i ∙ ap (λ b. option_map_or (are_resets l) (cond b None (Some a.numbers.items)) false) k)))
      go false k =
          let one : true ≡ are_resets l a.numbers.items = i ∙ ap (λ b. option_map_or (are_resets l) (cond b None (Some a.numbers.items)) false) k in
          ap₂ (λ x y. cond (x && y) (Some a.numbers.items) None) one (sym j) ∙ ap (λ b. by_signals (cond b None (Some a.numbers.items))) (sym k)

  pub not-one : false ≡ option_map_or (are_resets l) (signals_of a) false → None ≡ reset_signals l e
  not-one i = go a.has_others refl ∙ sym signals-by
    where
      go : (b : Bool) → a.has_others ≡ b → None ≡ by_signals (signals_of a)
      go true k = ap (λ b. by_signals (cond b None (Some a.numbers.items))) (sym k)
      go false k =
          let one : false ≡ are_resets l a.numbers.items = i ∙ ap (λ b. option_map_or (are_resets l) (cond b None (Some a.numbers.items)) false) k in
          ap (λ x. cond (x && tests) (Some a.numbers.items) None) one ∙ ap (λ b. by_signals (cond b None (Some a.numbers.items))) (sym k)

  pub not-tested : tests ≡ false → None ≡ reset_signals l e
  not-tested j = go (signals_of a) ∙ sym signals-by
    where
      no : (b : Bool) (ss : List ℕ) → None ≡ cond (b && false) (Some ss) None
      no true ss = refl
      no false ss = refl

      go : (o : Option (List ℕ)) → None ≡ by_signals o
      go None = refl
      go (Some ss) = no (are_resets l ss) ss ∙ ap (λ t. cond (are_resets l ss && t) (Some ss) None) (sym j)

-- ---- the signals of an expression that names resets alone

module _ (l : Look) (e : ExprTree) (a : Signals) (h : signals_of a ≡ signals_among l (names_in e)) where
  abbrev if_resets : Option (List ℕ) → Option (List ℕ)
  if_resets None = None
  if_resets (Some ss) = cond (are_resets l ss) (Some ss) None

  resets-by : resets_in l e ≡ if_resets (signals_of a)
  resets-by = ap if_resets (sym h)

  pub resets-named : true ≡ option_map_or (are_resets l) (signals_of a) false → Some a.numbers.items ≡ resets_in l e
  resets-named i = go a.has_others refl ∙ sym resets-by
    where
      go : (b : Bool) → a.has_others ≡ b → Some a.numbers.items ≡ if_resets (signals_of a)
      go true k = absurd (false≢true (sym (i ∙ ap (λ b. option_map_or (are_resets l) (cond b None (Some a.numbers.items)) false) k)))
      go false k =
          let all : true ≡ are_resets l a.numbers.items = i ∙ ap (λ b. option_map_or (are_resets l) (cond b None (Some a.numbers.items)) false) k in
          ap (λ x. cond x (Some a.numbers.items) None) all ∙ ap (λ b. if_resets (cond b None (Some a.numbers.items))) (sym k)

  pub no-resets-named : false ≡ option_map_or (are_resets l) (signals_of a) false → None ≡ resets_in l e
  no-resets-named i = go a.has_others refl ∙ sym resets-by
    where
      go : (b : Bool) → a.has_others ≡ b → None ≡ if_resets (signals_of a)
      go true k = ap (λ b. if_resets (cond b None (Some a.numbers.items))) (sym k)
      go false k =
          let none : false ≡ are_resets l a.numbers.items = i ∙ ap (λ b. option_map_or (are_resets l) (cond b None (Some a.numbers.items)) false) k in
          ap (λ x. cond x (Some a.numbers.items) None) none ∙ ap (λ b. if_resets (cond b None (Some a.numbers.items))) (sym k)

pub first-joined : (l : Look) (a b : Signals) (xs : List Text) → a.has_others ≡ false → a.numbers.items ≡ [] → signals_of b ≡ joined (signals_of a) (signals_among l xs) → signals_of b ≡ signals_among l xs
first-joined l a b xs h i j = j ∙ ap (λ o. joined o (signals_among l xs)) (ap₂ (λ (c : Bool) (ss : List ℕ). cond c None (Some ss)) h i) ∙ sym (start-joined (signals_among l xs))

-- ---- operands of one bit

module _ (t : Term) (r : Resolved) (h : IsRead t r) where
  pub bits-of : (n : ℕ) → r.is_sound ≡ true → n ≡ (kept_of r.expr).width → (n == 1) ≡ (is_sound t && (size t.expr == 1))
  bits-of n s e = ap (λ k. k == 1) (e ∙ sized_width r.expr (h.sized s) ∙ ap size (h.expr s)) ∙ ap (λ b. b && (size t.expr == 1)) (sym s ∙ h.sound)

  pub no-bits : r.is_sound ≡ false → false ≡ (is_sound t && (size t.expr == 1))
  no-bits s = ap (λ b. b && (size t.expr == 1)) (sym s ∙ h.sound)

-- ---- the signals that a condition of two operands tests

module _ (l : Look) (t : ExprTree) (op : BinaryOp) (a b : ExprTree) (e : t ≡ binary op a b) where
  abbrev of_operands : Option (List ℕ)
  of_operands = cond (is_or l op a b) (both_signals l (tested_signals l a) (tested_signals l b)) None

  by-operands : (o : Option (List ℕ)) → o ≡ reset_signals l t → option_or o of_operands ≡ tested_signals l t
  by-operands o h = subst (λ x. o ≡ reset_signals l x → option_or o of_operands ≡ tested_signals l x) (sym e) (λ i. ap (λ q. option_or q of_operands) i) h

  pub tested-whole : (ss : List ℕ) → Some ss ≡ reset_signals l t → Some ss ≡ tested_signals l t
  tested-whole ss h = by-operands (Some ss) h

  pub tested-neither : None ≡ reset_signals l t → false ≡ is_or l op a b → None ≡ tested_signals l t
  tested-neither h i = ap (λ c. cond c (both_signals l (tested_signals l a) (tested_signals l b)) None) i ∙ by-operands None h

  pub tested-both : (o : Option (List ℕ)) → None ≡ reset_signals l t → true ≡ is_or l op a b → o ≡ both_signals l (tested_signals l a) (tested_signals l b) → o ≡ tested_signals l t
  tested-both o h i j = j ∙ ap (λ c. cond c (both_signals l (tested_signals l a) (tested_signals l b)) None) i ∙ by-operands None h
