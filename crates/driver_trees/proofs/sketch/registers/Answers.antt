-- Each register is added.
use Rattle.std.proofs.Common.{◌≡◌, ℕ, zero, suc, ◌+◌, Bool, true, false, cond, List, [], ◌∷◌, ◌++◌, Some, map, drop, slice_get, refl, sym, ap, ◌∙◌, arith, append_assoc}
use Rattle.std.specs.Prelude.{if◌then◌else◌}
use Rattle.std.specs.Option.{option_map_or}
use Rattle.std.proofs.lemmas.List.{drop_more}
use Rattle.cdc_base.specs.declared.signal.Signal.{Signal}
use Rattle.cell_graph.specs.Nets.{is_register, register_signals}
use Rattle.driver_trees.specs.declared.sketch.Register.{Register}
use Rattle.driver_trees.proofs.Growing.{still-grows}
use Rattle.driver_trees.proofs.Begun.{nexts_grow}
use Rattle.driver_trees.proofs.sketch.registers.Goals as goal

next_signal : (b : Bool) (k : ℕ) (ks : List ℕ) → cond b (k ∷ []) [] ++ ks ≡ (if b then k ∷ ks else ks)
next_signal true k ks = refl
next_signal false k ks = refl

got : (xs : List Signal) (k : ℕ) (x : Signal) (rest : List Signal) → drop k xs ≡ x ∷ rest → slice_get xs k ≡ Some x
got [] zero x rest e = cc
got [] (suc k) x rest e = cc
got (y ∷ ys) zero x rest e = ap (λ l. slice_get l 0) e
got (y ∷ ys) (suc k) x rest e = got ys k x rest e

pub loop-place-preserved : goal.loop-place-preserved
loop-place-preserved c =
    let i = c.loop-place.invariant in let xs = c.args.signals.now in let k = c.loop-place.place in let signal = c.index-signals-place.result in let rest = drop (k + 1) xs in
    let old = map (λ (r : Register). r.sig) c.loop-place.registers.items in let ds = c.loop-place.drafts in
    let next : drop k xs ≡ signal ∷ rest = drop_more xs k signal (omega (arith, c.loop-place-test.true, c.loop-place.auto.place-end)) ∙ ap (λ y. y ∷ rest) (sym c.index-signals-place.is) in
    let at = got xs k signal rest next in (
      ap (λ l. l ++ register_signals (k + 1) rest) c.in_ok-add_register.ensures.signals
          ∙ append_assoc old (cond (is_register signal.kind) (k ∷ []) []) (register_signals (k + 1) rest)
          ∙ ap (λ l. old ++ l) (next_signal (is_register signal.kind) k (register_signals (k + 1) rest)) ∙ ap (λ l. old ++ register_signals k l) (sym next) ∙ i.0,
      λ wid all drafts words widths sizes nexts.
          let j = i.1 wid all drafts words widths sizes nexts in
          let r = c.in_ok-add_register.ensures.exact wid xs all j.0.drafts words at (sym (ap (λ o. option_map_or (λ (x : Signal). x.width) o 0) at) ∙ widths k) (sizes k signal at)
          (nexts_grow wid c.args.drafts.now ds j.0 c.args.nexts.now all nexts) j.1 in
          (still-grows wid c.args.drafts.now ds c.add_register.new.drafts j.0 r.0, r.1),
    )
