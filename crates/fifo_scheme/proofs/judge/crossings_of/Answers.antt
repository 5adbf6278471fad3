-- The crossings to one reader more, and in the end all.
use Rattle.std.proofs.Common.{◌≡◌, ◌∙◌, ◌+◌, ◌++◌, ap, ℕ, List, ◌∷◌, get_or, drop, rules}
use Rattle.std.proofs.lemmas.List.{drop_more}
use Rattle.std.specs.HashSet as set
use Rattle.fifo_ways.specs.Marked.{same_bit}
use Rattle.fifo_scheme.specs.Met.{crossings_at, crossings_into}
use Rattle.fifo_scheme.proofs.Items.{crossings_left, crossings_put, got_none, got_some, none_of}
use Rattle.fifo_scheme.proofs.judge.crossings_of.Goals as goal
use Rattle.fifo_scheme.proofs.judge.crossings_of.Goals.{in-Some+in_ok-add_crossings, in_default}

pub loop-place-preserved : goal.loop-place-preserved
loop-place-preserved c =
    let rs = c.args.index.now.readings in
    let ns = c.args.readers.now in
    let k = c.loop-place.place-index in
    let old = c.loop-place.crossings in
    let test = set.contains same_bit c.in_ok-words.words in
    let step : crossings_at test rs ns ≡ old ++ crossings_at test rs (get_or ns k 0 ∷ drop (k + 1) ns) =
    c.loop-place.invariant ∙ ap (λ (ms : List ℕ). old ++ crossings_at test rs ms) (drop_more ns k 0 c.loop-place-test.true) in
    elim c.match-get.branch [
      | in-Some+in_ok-add_crossings w ↦
          let added : w.add_crossings.new.crossings ≡ old ++ crossings_into test w.in-Some.reading.now = search rules in
          crossings_put rs (get_or ns k 0) (drop (k + 1) ns) test (crossings_at test rs ns) old c.match-get.crossings w.in-Some.reading.now step
          (got_some rs c.as_slice.result.now c.as_slice.ensures (get_or ns k 0) c.get.result w.in-Some.reading c.get.ensures.lookup w.in-Some.is) (w.crossings-is ∙ added)
      | in_default w ↦
          crossings_left rs (get_or ns k 0) (drop (k + 1) ns) test (crossings_at test rs ns) old c.match-get.crossings step
          (got_none rs c.as_slice.result.now c.as_slice.ensures (get_or ns k 0) c.get.result c.get.ensures.lookup (none_of c.get.result w.in_default.not-Some)) w.crossings-is
    ]
