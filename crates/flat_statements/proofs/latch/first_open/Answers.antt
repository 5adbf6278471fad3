use Rattle.std.proofs.Common.{ℕ, Bool, not, ◌&&◌, List, ◌∷◌, [], ◌++◌, take, get_or, Some, sym, subst, ap, ◌∙◌}
use Rattle.std.proofs.lemmas.Bool.{and_parts}
use Rattle.std.proofs.lemmas.List.{take_more, take_all}
use Rattle.flat_form.specs.Masks.{bits_in}
use Rattle.flat_statements.specs.Latches.{some_bit, open_bits}
use Rattle.flat_statements.proofs.Firsts.{IsLeast, least-skip, least-more, least-first, some-bit}
use Rattle.flat_statements.proofs.latch.first_open.Goals as goal
use Rattle.flat_statements.proofs.latch.first_open.Goals.{then-is_open, else-is_open}

pub loop-sig-preserved : goal.loop-sig-preserved
loop-sig-preserved c =
    let p : ℕ → Bool = λ s. some_bit (open_bits c.args.may.now c.args.paths.now s) in
    let all = c.signals-sig-items.result.now in
    let k = c.loop-sig.sig-index in
    let x = get_or all k 0 in
    subst (λ (xs : List ℕ). IsLeast p xs c.if-is_open.first) (sym (take_more all k 0 c.loop-sig-test.true)) (elim c.if-is_open.branch [
      | then-is_open w ↦ subst (IsLeast p (take k all ++ x ∷ [])) (sym (w.first-is ∙ ap Some w.least.ensures))
          (least-more p (take k all) x c.loop-sig.first c.loop-sig.invariant (sym c.is_open.ensures ∙ w.if-is_open.true))
      | else-is_open w ↦ subst (IsLeast p (take k all ++ x ∷ [])) (sym w.first-is) (least-skip p (take k all) x c.loop-sig.first c.loop-sig.invariant (sym c.is_open.ensures ∙ w.if-is_open.false))
    ])

pub returns : goal.returns
returns c = λ n within.
    let may = c.args.may.now in
    let paths = c.args.paths.now in
    let p : ℕ → Bool = λ s. some_bit (open_bits may paths s) in
    let all = c.signals-sig-items.result.now in
    least-first p all n c.loop-sig.first (subst (λ (xs : List ℕ). IsLeast p xs c.loop-sig.first) (take_all c.loop-sig.sig-index all c.loop-sig-test.false) c.loop-sig.invariant) (λ s t.
    let b = some-bit (open_bits may paths s) t in
    let m = (and_parts (bits_in may s b.0) (not (bits_in paths.surely s b.0 && not (bits_in paths.exposed s b.0))) b.2).0 in
    (within s b.0 b.1 m, c.signals-sig-items.ensures.listed s b.0 m))
