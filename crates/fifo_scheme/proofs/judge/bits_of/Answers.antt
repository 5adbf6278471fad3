-- One place more.
use Rattle.std.proofs.Common.{◌≡◌, ◌∙◌, ◌+◌, ◌++◌, ap, ℕ, List, [], ◌∷◌, get_or, drop, rules}
use Rattle.std.proofs.lemmas.List.{drop_more}
use Rattle.fifo_scheme.specs.Met.{bits_at}
use Rattle.fifo_scheme.proofs.Items.{bit_left, bit_put, got_none, got_some, none_of}
use Rattle.fifo_scheme.proofs.judge.bits_of.Goals as goal
use Rattle.fifo_scheme.proofs.judge.bits_of.Goals.{in-Some+in_ok-push, in_default}

pub loop-place-preserved : goal.loop-place-preserved
loop-place-preserved c =
    let rs = c.args.index.now.readings in
    let ns = c.args.places.now in
    let k = c.loop-place.place-index in
    let old = c.loop-place.bits in
    let step : bits_at rs ns ≡ old ++ bits_at rs (get_or ns k 0 ∷ drop (k + 1) ns) = c.loop-place.invariant ∙ ap (λ (ms : List ℕ). old ++ bits_at rs ms) (drop_more ns k 0 c.loop-place-test.true) in
    elim c.match-get.branch [
      | in-Some+in_ok-push w ↦
          let pushed : w.push.new.self ≡ old ++ w.in-Some.reading.now.bit ∷ [] = search rules in
          bit_put rs (get_or ns k 0) (drop (k + 1) ns) (bits_at rs ns) old c.match-get.bits w.in-Some.reading.now step (got_some rs c.as_slice.result.now c.as_slice.ensures (get_or ns k 0) c.get.result w.in-Some.reading c.get.ensures.lookup w.in-Some.is) (w.bits-is ∙ pushed)
      | in_default w ↦
          bit_left rs (get_or ns k 0) (drop (k + 1) ns) (bits_at rs ns) old c.match-get.bits step (got_none rs c.as_slice.result.now c.as_slice.ensures (get_or ns k 0) c.get.result c.get.ensures.lookup (none_of c.get.result w.in_default.not-Some)) w.bits-is
    ]
