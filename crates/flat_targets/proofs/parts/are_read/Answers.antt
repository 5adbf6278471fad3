use Rattle.std.proofs.Common.{◌≡◌, ℕ, false, ◌+◌, ◌∷◌, ◌++◌, [], List, take, get_or, sym, subst, ap, ◌∙◌}
use Rattle.std.specs.Prelude.{Contains}
use Rattle.std.proofs.lemmas.List.{take_more, take_all}
use Rattle.flat_form.specs.Masks.{bits_in}
use Rattle.flat_targets.specs.Parts.{width_among, is_read}
use Rattle.flat_targets.proofs.Shared.{read-found, read-none, none-more}
use Rattle.flat_targets.proofs.parts.are_read.Goals as goal

pub returns-then-is_read : goal.returns-then-is_read
returns-then-is_read c = λ n w. sym (read-found (width_among c.args.entries.now) n w (bits_in c.args.reads.now) (bits_in c.args.assigned.now) (get_or c.signals-sig-items.result.now c.loop-sig.sig-index 0) (sym c.is_read.ensures ∙ c.if-is_read.true))

pub loop-sig-preserved : goal.loop-sig-preserved
loop-sig-preserved c =
    let p = is_read (width_among c.args.entries.now) (bits_in c.args.reads.now) (bits_in c.args.assigned.now) in
    let all = c.signals-sig-items.result.now in
    let k = c.loop-sig.sig-index in
    let x = get_or all k 0 in
    subst (λ (xs : List ℕ). (y : ℕ) → Contains xs y → p y ≡ false) (sym (take_more all k 0 c.loop-sig-test.true)) (none-more p (take k all) x c.loop-sig.invariant (sym c.is_read.ensures ∙ c.if-is_read.false))

pub returns : goal.returns
returns c = λ n w.
    let p = is_read (width_among c.args.entries.now) (bits_in c.args.reads.now) (bits_in c.args.assigned.now) in
    let all = c.signals-sig-items.result.now in
    let none = subst (λ (xs : List ℕ). (y : ℕ) → Contains xs y → p y ≡ false) (take_all c.loop-sig.sig-index all c.loop-sig-test.false) c.loop-sig.invariant in
    sym (read-none (width_among c.args.entries.now) n w (bits_in c.args.reads.now) (bits_in c.args.assigned.now) (λ s b. none s (c.signals-sig-items.ensures.listed s b.0 b.1)))
