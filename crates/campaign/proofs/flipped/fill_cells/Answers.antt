-- One cell more has its value, and at the end the top one has its own.
use Rattle.std.proofs.Common.{◌≡◌, ◌∙◌, ℕ, ◌+◌, List, [], ◌∷◌, get_or, Some, slice_get, length, ap, sym, subst, arith}
use Rattle.std.proofs.lemmas.List.{length-set}
use Rattle.std.proofs.lemmas.Option.{slice_get-get_or}
use Rattle.cell_graph.specs.declared.cell.CellId.{CellId}
use Rattle.settling_sim.specs.Words.{flip_in}
use Rattle.campaign.proofs.ConeValues.{AreDone, one-cell, top-done}
use Rattle.campaign.proofs.flipped.fill_cells.Goals as goal

abbrev no-id : CellId
no-id = record { 0 = 0 }

pub loop-id-preserved : goal.loop-id-preserved
loop-id-preserved c =
    let i = c.loop-id.id-index in
    let id = get_or c.args.cells.now i no-id in
    let words = flip_in c.args.words.now c.args.words.now (c.args.flipped ∷ []) in
    record {
      counted = ap length c.put_word.ensures ∙ length-set c.loop-id.values id.0 c.value_of-value.result ∙ c.loop-id.invariant.counted;
      done = λ well fit has len top cone.
          subst (λ (vs : List ℕ). AreDone c.args.graph.now well words fit c.args.cells.now top cone (i + 1) vs) (sym c.put_word.ensures)
          (one-cell c.args.graph.now well words fit c.args.cells.now top cone c.loop-id.values i id c.value_of-value.result (c.loop-id.invariant.counted ∙ len)
          (c.loop-id.invariant.done well fit has len top cone) (slice_get-get_or c.args.cells.now i no-id c.loop-id-test.true) (c.value_of-value.ensures has));
    }

pub returns-clause-filled : goal.returns-clause-filled
returns-clause-filled c = λ well fit has len top cone.
    top-done c.args.graph.now well (flip_in c.args.words.now c.args.words.now (c.args.flipped ∷ [])) fit c.args.cells.now top cone c.loop-id.values c.loop-id.id-index c.loop-id-test.false
    (c.loop-id.invariant.done well fit has len top cone)
