-- One place more, and in the end all reads.
use Rattle.std.proofs.Common.{◌+◌, sym, subst, arith, get_or, List, ℕ, take}
use Rattle.std.proofs.lemmas.List.{take_all}
use Rattle.std.proofs.lemmas.List.Elements.{Contains-get_or}
use Rattle.fifo_scheme.specs.Met.{IsFoundRead}
use Rattle.fifo_scheme.proofs.Items.{none_of}
use Rattle.fifo_scheme.proofs.MetFound.{counted_at, reads_end}
use Rattle.fifo_scheme.proofs.MetReads.{AreReadsSoFar, reads_grow, reads_stay}
use Rattle.fifo_scheme.proofs.judge.reads_of.Goals as goal
use Rattle.fifo_scheme.proofs.judge.reads_of.Goals.{in-Some+in_ok-add, in_default}

pub loop-place-preserved : goal.loop-place-preserved
loop-place-preserved c = λ syncs grays write read met numbers.
    let net = c.args.shown.net.now in
    let domains = c.args.shown.domains.now in
    let i = c.args.index.now in
    let ns = c.reads_of-place-items.result.now in
    let k = c.loop-place.place-index in
    let so_far = c.loop-place.invariant syncs grays write read met numbers in
    let found = c.read_at.ensures syncs grays write read met numbers
    (counted_at c.args.shown.net.now c.args.shown.domains.now c.args.shown.table.now syncs grays c.args.index.now c.args.pair.now write read met ns c.reads_of-place-items.ensures (get_or ns k 0) (Contains-get_or ns k 0 c.loop-place-test.true)) in
    elim c.match-read_at.branch [
      | in-Some+in_ok-add w ↦
          subst (AreReadsSoFar net domains i write read (take (k + 1) ns)) (sym w.reads-is)
          (reads_grow net domains i write read c.loop-place.reads w.add.new.self ns k 0 c.loop-place-test.true so_far w.in-Some.found
          (subst (IsFoundRead net domains i write read (get_or ns k 0)) w.in-Some.is found) w.in_ok-add.ensures.nodes w.in_ok-add.ensures.columns)
      | in_default w ↦
          reads_stay net domains i write read c.loop-place.reads c.match-read_at.reads ns k 0 c.loop-place-test.true so_far w.reads-is
          (subst (IsFoundRead net domains i write read (get_or ns k 0)) (none_of c.read_at.result w.in_default.not-Some) found)
    ]

pub returns : goal.returns
returns c = λ syncs grays write read met numbers.
    let ns = c.reads_of-place-items.result.now in
    reads_end c.args.shown.net.now c.args.shown.domains.now c.args.shown.table.now syncs grays c.args.index.now c.args.pair.now write read met ns c.loop-place.reads c.reads_of-place-items.ensures
    (subst (λ (ms : List ℕ). AreReadsSoFar c.args.shown.net.now c.args.shown.domains.now c.args.index.now write read ms c.loop-place.reads) (take_all c.loop-place.place-index ns (let l = c.loop-place-test.false in omega arith))
    (c.loop-place.invariant syncs grays write read met numbers))
