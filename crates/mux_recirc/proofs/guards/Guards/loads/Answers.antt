-- The load of one crossing more, and in the end of all.
use Rattle.mux_recirc.proofs.AllLoads.{no_loads, loads_more, loads_all}
use Rattle.mux_recirc.proofs.guards.Guards.loads.Goals as goal

pub loop-place-init : goal.loop-place-init
loop-place-init c = λ net domains rings are. no_loads net domains c.args.crossings.now rings c.new-loads.result c.new-loads.ensures

pub loop-place-preserved : goal.loop-place-preserved
loop-place-preserved c = λ net domains rings are.
    loads_more net domains c.args.crossings.now rings c.args.self.now are c.loop-place.place c.loop-place.loads c.add_load.new.loads c.load_at.result c.loop-place-test.true
    (c.load_at.ensures net domains rings are) c.in_ok-add_load.ensures (c.loop-place.invariant net domains rings are)

pub returns : goal.returns
returns c = record {
  exact = λ net domains grays rings are.
      loads_all net domains c.args.crossings.now rings c.args.self.now are grays c.loop-place.place c.loop-place.loads c.loop-place-test.false (c.loop-place.invariant net domains rings are);
}
