-- The read that is there, by the value of its words.
use Rattle.std.proofs.Common.{◌≡◌, sym, subst, Some, None, List, length}
use Rattle.cdc_base.specs.declared.bit.Bit.{Bit}
use Rattle.cdc_model.specs.Nets.{design_of}
use Rattle.fifo_laws.specs.Words.{depth_of}
use Rattle.fifo_scheme.specs.Met.{IsFoundRead, IsValue}
use Rattle.fifo_scheme.proofs.Items.{got_some}
use Rattle.fifo_scheme.proofs.MetFound.{length_met, read_absent, read_there}
use Rattle.fifo_scheme.proofs.judge.read_at.Goals as goal

pub returns-in_err-value : goal.returns-in_err-value
returns-in_err-value c = λ syncs grays write read met numbers counted.
    let r = c.in_ok-read.read.now in
    let at = got_some c.args.index.now.reads c.as_slice.result.now c.as_slice.ensures c.args.place c.get.result c.in_ok-read.read c.get.ensures.lookup c.in_ok-read.was in
    let words : c.as_slice-2.result.now ≡ r.words = c.as_slice-2.ensures in
    let l = length_met c.args.shown.net.now c.args.shown.domains.now c.args.shown.table.now syncs grays c.args.index.now c.args.pair.now write read met c.args.place r at (counted r at) in
    let value = c.value_of.ensures syncs grays write read met numbers
    (subst (λ (ws : List Bit). length ws ≡ depth_of (design_of c.args.shown.net.now c.args.shown.domains.now) write) (sym words) l) in
    subst (IsFoundRead c.args.shown.net.now c.args.shown.domains.now c.args.index.now write read c.args.place) (sym c.from_residual-in_err-value.ensures)
    (read_absent c.args.shown.net.now c.args.shown.domains.now c.args.shown.table.now syncs grays c.args.index.now c.args.pair.now write read met c.args.place r at
    (subst (λ (ws : List Bit). IsValue c.args.shown.net.now c.args.shown.domains.now write read ws None) words (subst (IsValue c.args.shown.net.now c.args.shown.domains.now write read c.as_slice-2.result.now) c.in_err-value.was value)))

pub returns : goal.returns
returns c = λ syncs grays write read met numbers counted.
    let r = c.in_ok-read.read.now in
    let at = got_some c.args.index.now.reads c.as_slice.result.now c.as_slice.ensures c.args.place c.get.result c.in_ok-read.read c.get.ensures.lookup c.in_ok-read.was in
    let words : c.as_slice-2.result.now ≡ r.words = c.as_slice-2.ensures in
    let l = length_met c.args.shown.net.now c.args.shown.domains.now c.args.shown.table.now syncs grays c.args.index.now c.args.pair.now write read met c.args.place r at (counted r at) in
    let value = c.value_of.ensures syncs grays write read met numbers
    (subst (λ (ws : List Bit). length ws ≡ depth_of (design_of c.args.shown.net.now c.args.shown.domains.now) write) (sym words) l) in
    read_there c.args.shown.net.now c.args.shown.domains.now c.args.shown.table.now syncs grays c.args.index.now c.args.pair.now write read met c.args.place r c.in_ok-value.value at (counted r at)
    (subst (λ (ws : List Bit). IsValue c.args.shown.net.now c.args.shown.domains.now write read ws (Some c.in_ok-value.value)) words
    (subst (IsValue c.args.shown.net.now c.args.shown.domains.now write read c.as_slice-2.result.now) c.in_ok-value.was value))
