use Rattle.std.proofs.Common.{false, cond, Some, None, sym, ap, ◌∙◌}
use Rattle.std.specs.Option.{option_map_or}
use Rattle.flat_unfolding.specs.Resets.{are_resets}
use Rattle.flat_process.proofs.reset.Signals.are_resets.Goals as goal

pub returns-then-not-self : goal.returns-then-not-self
returns-then-not-self c = λ l shows.
    let s = c.args.self.now in
    c.are_resets.ensures l shows ∙ ap (are_resets l) c.as_slice.ensures.value ∙ ap (λ b. option_map_or (are_resets l) (cond b None (Some s.numbers.items)) false) (sym c.if-not-self.true)
