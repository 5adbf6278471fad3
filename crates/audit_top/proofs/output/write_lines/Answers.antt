use Rattle.std.proofs.Common.{◌≡◌, ◌∙◌, ◌++◌, ap, ap₂, List, ℕ, rules}
use Rattle.std.proofs.lemmas.List.{take-append-drop}
use Rattle.audit_top.proofs.Added.{piece_added, front_added}
use Rattle.audit_top.proofs.output.write_lines.Goals as goal

pub loop-left-preserved : goal.loop-left-preserved
loop-left-preserved g c =
    let so_far = c.loop-left.invariant.added in
    let split : c.split_at.result.0.now ++ c.split_at.result.1.now ≡ c.loop-left.left.now
    = ap₂ (λ (x : List ℕ) (y : List ℕ). x ++ y) c.split_at.ensures.front c.split_at.ensures.back
    ∙ take-append-drop c.line_length.result c.loop-left.left.now in
    record {
      rising = search rules;
      added = piece_added _ _ _ _ _ _ _ _ so_far.1 split so_far.2 c.in-Ok.ensures.added;
    }

pub returns-in-Err-clause-front : goal.returns-in-Err-clause-front
returns-in-Err-clause-front g c =
    let so_far = c.loop-left.invariant.added in
    let split : c.split_at.result.0.now ++ c.split_at.result.1.now ≡ c.loop-left.left.now
    = ap₂ (λ (x : List ℕ) (y : List ℕ). x ++ y) c.split_at.ensures.front c.split_at.ensures.back
    ∙ take-append-drop c.line_length.result c.loop-left.left.now in
    front_added _ _ _ so_far.0 c.split_at.result.0.now c.split_at.result.1.now _
    (ap (λ (w : List ℕ). so_far.0 ++ w) split ∙ so_far.1) so_far.2 c.in-Err.ensures.front
