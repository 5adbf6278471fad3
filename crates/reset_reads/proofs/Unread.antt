-- Every unfolding reads no input that is a declared reset.
use Rattle.std.proofs.Common.{◌≡◌, ℕ, zero, suc, ◌+◌, ◌≤◌, Bool, true, false, cond, not, ◌&&◌, ◌||◌, ◌==◌, List, [], ◌∷◌, length, Option, Some, None, refl, sym, ap, subst, ◌∙◌, arith, rules, find, bytes_eq, eqb-true}
use Rattle.std.specs.Prelude.{All, slice_get, is_some, is_none}
use Rattle.std.specs.Option.{option_map_or}
use Rattle.std.specs.List.{list_any}
use Rattle.std.proofs.lemmas.List.Elements.{All-cons, All-head, All-nil, All-tail, All-append}
use Rattle.cdc_base.specs.declared.signal.ResetPin.{ResetPin}
use Rattle.cdc_base.specs.declared.signal.Signal.{Signal}
use Rattle.verilog_reading.specs.SourceTree.{ModuleTree}
use Rattle.flat_meaning.specs.Flat.{Expr, Target, Stmt, assigns}
use Rattle.flat_meaning.specs.Design.{Flat, width_in, size_in}
use Rattle.flat_meaning.specs.Law.{AreWords}
use Rattle.flat_unfolding.specs.Outcome.{Text, good}
use Rattle.flat_unfolding.specs.Names.{width_of, Entry}
use Rattle.flat_unfolding.specs.Declarations.{header_of}
use Rattle.flat_unfolding.specs.Design.{Design, no_design, Stage}
use Rattle.flat_unfolding.specs.Signals.{is_register, constants_from, with_constants, from_outside, with_free, kind_of, signal_of, signals_from}
use Rattle.flat_unfolding.specs.Unfolding.{module_named, visit, top_ports, modules_differ, finished, from_top, unfolded}
use Rattle.flat_unfolding.specs.Sized.{IsSized, IsTargetSized, IsStmtSized, any, IsSizedFlat}
use Rattle.flat_unfolding.proofs.Steps.{good_then}
use Rattle.flat_unfolding.proofs.Fit.{true_left, true_right}
use Rattle.flat_unfolding.proofs.Grown.{told_same}
use Rattle.flat_unfolding.proofs.Free.{free_keeps}
use Rattle.flat_unfolding.proofs.Constants.{constants_hold}
use Rattle.flat_unfolding.proofs.Visits.{flattened, accepted, limits_law}
use Rattle.flat_unfolding.proofs.Visited.{sizes_law}
use Rattle.reset_reads.specs.Read.{Reads, TargetReads, StmtReads}
use Rattle.reset_reads.specs.Laws.{is_input, is_reset_signal, may_read, ReadsNoReset, ResetsAreUnread}
use Rattle.reset_reads.proofs.Spares.{StmtSpares, expr_reads, target_reads, stmt_reads}
use Rattle.reset_reads.proofs.Settled.{is_unpinned, unpinned}
use Rattle.reset_reads.proofs.Stages.{AssignSpares, may_in, ProcessSpares, AllReadSparely, IsSpareDesign}
use Rattle.reset_reads.proofs.Ports.{top_opens}
use Rattle.reset_reads.proofs.Visited.{visit_spares}

-- ---- signals that are no such input: those of two bits, those that are declared as no reset, and registers

module _ (pins : List ResetPin) where
  abbrev is_reset_at : List Signal → ℕ → Bool
  is_reset_at xs s = option_map_or (is_reset_signal pins) (slice_get xs s) false

  narrow_only : (x : Signal) → 2 ≤ x.width → is_reset_signal pins x ≡ false
  narrow_only x h = go (is_input x.kind) (x.width == 1) refl
    where
      go : (a b : Bool) → (x.width == 1) ≡ b → (a && (b && is_some (find (λ (r : ResetPin). bytes_eq r.name x.name) pins))) ≡ false
      go false b e = refl
      go true false e = refl
      go true true e = let w = eqb-true x.width 1 e in absurd (omega (arith, w, h))

  wide_unread : (xs : List Signal) (s : ℕ) → 2 ≤ width_in xs s → is_reset_at xs s ≡ false
  wide_unread [] s h = refl
  wide_unread (x ∷ xs) zero h = narrow_only x h
  wide_unread (x ∷ xs) (suc s) h = wide_unread xs s h

  unpinned_only : (d : Design) (n : ℕ) (e : Entry) → is_unpinned pins e ≡ true → is_reset_signal pins (signal_of d n e) ≡ false
  unpinned_only d n e h = go (is_input (kind_of e (is_register d n))) (width_of e.range == 1) (find (λ (r : ResetPin). bytes_eq r.name e.printed) pins) h
    where
      go : (a b : Bool) (o : Option ResetPin) → is_none (cond b o None) ≡ true → (a && (b && is_some o)) ≡ false
      go false b o h = refl
      go true false o h = refl
      go true true None h = refl
      go true true (Some r) h = absurd (search (rules, h))

  unpinned_unread : (d : Design) (n : ℕ) (es : List Entry) (s : ℕ) → unpinned pins es s ≡ true → is_reset_at (signals_from d n es) s ≡ false
  unpinned_unread d n [] s h = refl
  unpinned_unread d n (e ∷ es) zero h = unpinned_only d n e h
  unpinned_unread d n (e ∷ es) (suc s) h = unpinned_unread d (suc n) es s h

  register_unread : (d : Design) (n : ℕ) (es : List Entry) (s t : ℕ) → n + s ≡ t → is_register d t ≡ true → is_reset_at (signals_from d n es) s ≡ false
  register_unread d n [] s t i h = refl
  register_unread d n (e ∷ es) zero t i h =
      let q : t ≡ n = omega (arith, i) in let k : is_register d n ≡ true = subst (λ m. is_register d m ≡ true) q h in
      ap (λ b. is_input (kind_of e b) && ((width_of e.range == 1) && is_some (find (λ (r : ResetPin). bytes_eq r.name e.printed) pins))) k
  register_unread d n (e ∷ es) (suc s) t i h = register_unread d (suc n) es s t (let k : suc n + s ≡ t = omega (arith, i) in k) h

-- ---- the flat design

both_hold : {A : Type 0} (P Q R : A → Type 0) (xs : List A) → ((x : A) → P x → Q x → R x) → All P xs → All Q xs → All R xs
both_hold P Q R [] h k l = All-nil R
both_hold P Q R (x ∷ xs) h k l = All-cons R x xs (h x (All-head P x xs k) (All-head Q x xs l)) (both_hold P Q R xs h (All-tail P x xs k) (All-tail Q x xs l))

-- of a list each item may know that it is one of them
among_all : {A : Type 0} (P Q : A → Type 0) (p : A → ℕ → Bool) (all xs : List A) → ((s : ℕ) → list_any (λ x. p x s) xs ≡ true → list_any (λ x. p x s) all ≡ true)
    → ((x : A) → ((s : ℕ) → p x s ≡ true → list_any (λ y. p y s) all ≡ true) → P x → Q x) → All P xs → All Q xs
among_all P Q p all [] a h k = All-nil Q
among_all P Q p all (x ∷ xs) a h k =
    All-cons Q x xs (h x (λ s e. a s (true_left (p x s) (list_any (λ y. p y s) xs) e)) (All-head P x xs k))
    (among_all P Q p all xs (λ s e. a s (true_right (p x s) (list_any (λ y. p y s) xs) e)) h (All-tail P x xs k))

module _ (pins : List ResetPin) (named : List Text) (d : Design) (h : AllReadSparely pins (unpinned pins d.entries) d) where
  abbrev f : Flat
  f = flattened named d

  abbrev after : List Entry
  after = (with_free named d).entries

  -- free signals stay what they are declared as
  same_after : (s : ℕ) → unpinned pins after s ≡ unpinned pins d.entries s
  same_after s = free_keeps (λ es. unpinned pins es s ≡ unpinned pins d.entries s) (λ n es e. told_same (is_unpinned pins) false from_outside (λ x. refl) n es s ∙ e) named d refl

  unpinned_may : (s : ℕ) → unpinned pins d.entries s ≡ true → may_read pins f s ≡ true
  unpinned_may s e = ap not (unpinned_unread pins (with_constants (with_free named d)) 0 after s (same_after s ∙ e))

  register_may : (s : ℕ) → is_register d s ≡ true → may_read pins f s ≡ true
  register_may s e = ap not (register_unread pins (with_constants (with_free named d)) 0 after s s (let z : 0 + s ≡ s = omega arith in z) e)

  wide_may : (s : ℕ) → 2 ≤ size_in f s → may_read pins f s ≡ true
  wide_may s l = ap not (wide_unread pins f.signals s l)

  flat_unread : IsSizedFlat f → AreWords (size_in f) → ReadsNoReset pins f
  flat_unread sized words = record {
    assigns = both_hold (AssignSpares pins may) AssignSized AssignReads f.assigns (λ a k l. (target_reads may can wid words unpinned_may wide_may a.0 l.0 k.0, expr_reads may can wid words unpinned_may wide_may a.1 l.1 k.1))
        (All-append (AssignSpares pins may) d.assigns (constants_from c 0 c.entries) h.assigns (constants_hold (AssignSpares pins may) c 0 c.entries (λ s t v i p o l m. (tt, tt)))) sized.assigns;
    combs = both_hold (StmtSpares may) (IsStmtSized wid any) (StmtReads can can) f.combs (λ b k l. stmt_reads may can wid words unpinned_may wide_may b l k) h.combs sized.combs;
    clocked = both_hold (λ (p : ℕ × Stmt). ProcessSpares pins may p × IsOwn p) (λ (p : ℕ × Stmt). IsStmtSized wid any p.1) (λ (p : ℕ × Stmt). StmtReads can can p.1) f.clocked
        (λ p k l. stmt_reads (may_in pins may p.1) can wid words (own_may p.1 k.1) wide_may p.1 l k.0)
        (among_all (ProcessSpares pins may) (λ (p : ℕ × Stmt). ProcessSpares pins may p × IsOwn p) (λ p s. assigns p.1 s) d.clocked d.clocked (λ s e. e) (λ p o k. (k, o)) h.clocked) sized.clocked;
  }
    where
      c : Design
      c = with_free named d

      may : ℕ → Bool
      may = unpinned pins d.entries

      can : ℕ → Bool
      can = may_read pins f

      wid : ℕ → ℕ
      wid = size_in f

      AssignSized : Target × Expr → Type 0
      AssignSized a = IsTargetSized wid any a.0 × IsSized wid a.1

      AssignReads : Target × Expr → Type 0
      AssignReads a = TargetReads can can a.0 × Reads can can a.1

      -- what it assigns is a register
      IsOwn : ℕ × Stmt → Type 0
      IsOwn p = (s : ℕ) → assigns p.1 s ≡ true → is_register d s ≡ true

      own_may : (b : Stmt) → ((s : ℕ) → assigns b s ≡ true → is_register d s ≡ true) → (s : ℕ) → may_in pins may b s ≡ true → can s ≡ true
      own_may b o s e = go (may s) refl e
        where
          go : (a : Bool) → may s ≡ a → (a || assigns b s) ≡ true → can s ≡ true
          go true k e = unpinned_may s k
          go false k e = register_may s (o s e)

-- ---- unfoldings

nothing_spares : (pins : List ResetPin) (may : ℕ → Bool) → IsSpareDesign pins may (no_design pins)
nothing_spares pins may = record { pins = refl; settled = λ s. refl; spares = λ a. record { assigns = All-nil _; combs = All-nil _; clocked = All-nil _ } }

unfolded_unread : (modules : List ModuleTree) (top : Text) (pins : List ResetPin) (named : List Text) (f : Flat) → IsSizedFlat f → AreWords (size_in f) → unfolded modules top pins named ≡ good f → ReadsNoReset pins f
unfolded_unread modules top pins named f sized words e =
    let g = good_then (modules_differ modules) (λ u. from_top modules pins named top (module_named top modules)) f e in
    go (module_named top modules) g.2
  where
    go : (o : Option ModuleTree) → from_top modules pins named top o ≡ good f → ReadsNoReset pins f
    go None e = absurd (search (rules, e))
    go (Some m) e =
        let g = good_then (visit modules (length modules) [] (m.name ∷ []) m [] (top_ports (header_of m)) (no_design pins)) (λ (s : Stage). finished named s.design) f e in
        let d = g.0.design in let may = unpinned pins d.entries in
        let k = visit_spares pins may modules (length modules) [] (m.name ∷ []) m [] (top_ports (header_of m)) (no_design pins) g.0 g.1 (λ t h b. top_opens pins may (header_of m) t h) (nothing_spares pins may) in
        let same = (accepted named d f g.2).2 in
        subst (ReadsNoReset pins) same (flat_unread pins named d (k.spares (λ s u. u)) (subst IsSizedFlat (sym same) sized) (subst (λ (x : Flat). AreWords (size_in x)) (sym same) words))

pub resets_are_unread : ResetsAreUnread
resets_are_unread modules formed top pins named f e = unfolded_unread modules top pins named f (sizes_law modules formed top pins named f e) (limits_law modules top pins named f e).0 e
