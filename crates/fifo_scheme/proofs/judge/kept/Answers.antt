-- One place more.
use Rattle.std.proofs.Common.{◌≡◌, ◌∙◌, ◌++◌, [], ◌∷◌, sym, ap, get_or, drop, ◌+◌, Vec, ℕ, Global, List, rules}
use Rattle.fifo_scheme.specs.Met.{kept_by}
use Rattle.fifo_scheme.proofs.Items.{kept_left, kept_put}
use Rattle.fifo_scheme.proofs.judge.kept.Goals as goal
use Rattle.fifo_scheme.proofs.judge.kept.Goals.{then-is_true+in_ok-map_err, else-is_true}

pub loop-k-preserved : goal.loop-k-preserved
loop-k-preserved c =
    let ns = c.args.places.now in
    let bs = c.args.answers.now in
    let k = c.loop-k.k in
    let old = c.loop-k.kept.items in
    elim c.if-is_true.branch [
      | then-is_true+in_ok-map_err w ↦
          let pushed : w.push.new.self.items ≡ old ++ get_or ns k 0 ∷ [] = search rules in
          kept_put ns bs k 0 (kept_by ns bs) old c.if-is_true.kept.items c.loop-k-test.true c.loop-k.invariant (sym c.is_true.ensures ∙ w.if-is_true.true) (ap (λ (v : Vec ℕ Global). v.items) w.kept-is ∙ pushed)
      | else-is_true w ↦
          let same : c.if-is_true.kept.items ≡ old = ap (λ (v : Vec ℕ Global). v.items) w.kept-is in
          let step = kept_left ns bs k 0 (kept_by ns bs) old c.loop-k-test.true c.loop-k.invariant (sym c.is_true.ensures ∙ w.if-is_true.false) in
          step ∙ ap (λ (ms : List ℕ). ms ++ kept_by (drop (k + 1) ns) (drop (k + 1) bs)) (sym same)
    ]
