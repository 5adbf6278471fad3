-- The parts make the whole sketch.
use Rattle.std.proofs.Common.{◌≡◌, ℕ, zero, suc, ◌≤◌, true, List, [], ◌∷◌, All, Some, None, map, slice_get, sym, ap, subst, ◌∙◌}
use Rattle.std.specs.List.{AllByRecursion as Each, list_all}
use Rattle.std.proofs.lemmas.Bool.{and_parts}
use Rattle.std.proofs.lemmas.Option.{same_Some}
use Rattle.cdc_base.specs.declared.signal.Signal.{Signal}
use Rattle.flat_form.specs.declared.flat.FlatClocked.{FlatClocked}
use Rattle.flat_form.specs.View.{flat_of, stmt_of}
use Rattle.flat_form.specs.Sizes.{is_word}
use Rattle.flat_form.proofs.Sized.{word_width}
use Rattle.flat_meaning.specs.Flat.{Stmt}
use Rattle.flat_meaning.specs.Design.{size_in, width_in}
use Rattle.flat_meaning.specs.Sound.{IsSoundClocked}
use Rattle.flat_meaning.proofs.Placed.{each_of}
use Rattle.driver_trees.specs.declared.draft.Draft.{Draft}
use Rattle.driver_trees.specs.declared.sketch.Register.{Register}
use Rattle.driver_trees.specs.Drafts.{AreDrafts}
use Rattle.driver_trees.specs.Statements.{IsStmtRead}
use Rattle.driver_trees.specs.Sketched.{IsIdle, AreNexts, IsRegisterOf, next_in, clock_in}
use Rattle.driver_trees.proofs.Growing.{still-grows}
use Rattle.driver_trees.proofs.Readable.{clocked_read}
use Rattle.driver_trees.proofs.Drafted.{pieces_grow}
use Rattle.driver_trees.proofs.Registers.{register_in, registers_grow}
use Rattle.driver_trees.proofs.sketch.Sketch.of.Goals as goal

no_drafts : (wid : ℕ → ℕ) (ds : List Draft) → ds ≡ [] → AreDrafts wid ds
no_drafts wid ds e = subst (AreDrafts wid) (sym e) (λ n d h. never h)
  where
    never : {P : Type 0} {d : Draft} → None ≡ Some d → P
    never h = cc

widths : (ss : List Signal) → list_all (λ (s : Signal). is_word s.width) ss ≡ true → (n : ℕ) (x : Signal) → slice_get ss n ≡ Some x → 1 ≤ x.width
widths [] h n x e = never e
  where
    never : {P : Type 0} {d : Signal} → None ≡ Some d → P
    never h = cc
widths (s ∷ ss) h zero x e = subst (λ (y : Signal). 1 ≤ y.width) (same_Some s x e) (word_width s.width (and_parts (is_word s.width) (list_all (λ (s : Signal). is_word s.width) ss) h).0).some
widths (s ∷ ss) h (suc n) x e = widths ss (and_parts (is_word s.width) (list_all (λ (s : Signal). is_word s.width) ss) h).1 n x e

pub returns-clause-exact : goal.returns-clause-exact
returns-clause-exact c = λ sized sound.
    let F = c.args.flat.now in let f = flat_of F in let wid = size_in f in
    let d0 = c.new-drafts.result in let d1 = c.pieces.new.drafts in let d2 = c.all_nexts.new.drafts in let d3 = c.registers.new.drafts in let d4 = c.outputs.new.drafts in
    let signals = c.as_slice-signals.ensures in
    let idle : IsIdle wid c.in_ok-present.present = record { words = sound.sized; widths = λ s. c.in_ok-present.ensures.widths s ∙ ap (λ ss. width_in ss s) signals; none = c.in_ok-present.ensures.trees } in
    let p = c.in_ok-pieces.ensures.exact sized sound (no_drafts wid d0 c.new-drafts.ensures) idle in
    let processes = subst (Each (λ (p : FlatClocked). IsStmtRead wid p.body × (1 ≤ wid p.clock))) (sym c.as_slice.ensures)
    (clocked_read f F.clocked sized.clocked (each_of (λ (p : ℕ × Stmt). IsSoundClocked f p.1) f.clocked sound.clocked) (each_of (λ (p : ℕ × Stmt). 1 ≤ wid p.0) f.clocked sound.clocks)) in
    let n = c.in_ok-nexts.ensures.nexts wid p.0.drafts p.1 processes in
    let nexts = subst (λ l. AreNexts wid d2 c.in_ok-nexts.nexts (map (λ (p : FlatClocked). (p.clock, stmt_of p.body)) l)) c.as_slice.ensures n.2 in
    let r = c.in_ok-registers.ensures.exact wid f.clocked n.0.drafts sound.sized (λ s. ap (λ ss. width_in ss s) signals)
    (subst (λ ss. (n : ℕ) (x : Signal) → slice_get ss n ≡ Some x → 1 ≤ x.width) (sym signals) (widths F.signals sized.signals)) nexts in
    let o = c.in_ok-outputs.ensures.exact wid r.0.drafts n.1 (subst (Each (λ s. 1 ≤ wid s)) (sym c.as_slice-2.ensures) (each_of (λ s. 1 ≤ wid s) f.outputs sound.outputs)) in
    let g = still-grows wid d1 d2 d4 n.0 (still-grows wid d2 d3 d4 r.0 o.0) in
    let all = pieces_grow wid d1 d4 g c.in_ok-pieces.pieces.items _ p.2 in
    let rs = registers_grow wid F.signals d3 d4 o.0 c.in_ok-registers.registers.items (next_in wid f.clocked) (clock_in f.clocked)
    (subst (λ ss. All (λ (r : Register). IsRegisterOf wid ss d3 r (next_in wid f.clocked) (clock_in f.clocked)) c.in_ok-registers.registers.items) signals r.1) in
    record {
      drafts = o.0.drafts;
      stand = all.stand;
      ordered = p.3;
      pieces = all.pieces;
      registers = λ k d l. register_in f sound.clocked d4 _ (rs k d l);
      outputs_stand = o.1;
      outputs = λ sel. o.2 sel ∙ ap (map (λ s. sel s 0 (wid s))) c.as_slice-2.ensures;
    }
