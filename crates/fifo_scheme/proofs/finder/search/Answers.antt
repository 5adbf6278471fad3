-- By what the parts of the search found; where no code is brought back there is no FIFO.
use Rattle.std.proofs.Common.{◌≡◌, ◌∙◌, false, List, [], sym, subst}
use Rattle.cdc_model.specs.declared.scheme.Sync.{Sync as SyncEntry}
use Rattle.cdc_model.specs.Ordered.{IsAll}
use Rattle.cdc_model.specs.Tables.{ShowsNet}
use Rattle.fifo_scheme.specs.Candidates.{IsReadTo, OfOne, is_returned, ways_of}
use Rattle.fifo_scheme.specs.Entries.{IsListedFifo, fifo_key}
use Rattle.fifo_scheme.proofs.Brought.{none_is_all}
use Rattle.fifo_scheme.proofs.Searched.{IsSearched, all_are_found, are_listed}
use Rattle.fifo_scheme.proofs.finder.search.Goals as goal
use Rattle.fifo_scheme.proofs.finder.search.Goals.{In_ok-fifos}

searched : (c : In_ok-fifos) → ShowsNet c.args.net.now [] c.args.table.now
    → IsSearched c.args.net.now c.args.domains.now c.args.syncs.now c.args.grays.now (OfOne (IsReadTo c.args.net.now c.in_ok-index.index) c.in_ok-index.index.reads) c.in_ok-index.index c.in_ok-candidates.candidates c.in_ok-fifos.fifos
searched c shown = record {
  table = c.args.table.now;
  after = c.of.new.table;
  same = c.of.ensures.unchanged;
  shows = λ well. shown;
  index = c.in_ok-index.ensures.found;
  candidates = c.in_ok-candidates.ensures;
  made = c.in_ok-fifos.ensures.made;
  ordered = c.in_ok-fifos.ensures.ordered;
}

pub returns-clause-sound : goal.returns-clause-sound
returns-clause-sound c = λ syncs given shown. are_listed (searched (goal.at.returns-clause-sound c).In_ok-fifos shown) syncs given

pub returns-clause-exact : goal.returns-clause-exact
returns-clause-exact c = λ syncs t given shown lists. all_are_found (searched (goal.at.returns-clause-exact c).In_ok-fifos shown) syncs given t lists (λ k h. h)

pub returns-then-not-branch-clause-exact : goal.returns-then-not-branch-clause-exact
returns-then-not-branch-clause-exact c = λ syncs t given shown lists.
    let net = c.args.net.now in
    let domains = c.args.domains.now in
    let grays = c.args.grays.now in
    let none : is_returned (ways_of domains c.args.syncs.now grays) ≡ false = sym c.in_ok-are_codes_returned.ensures ∙ c.if-not-branch.true in
    subst (IsAll (IsListedFifo net domains syncs grays) fifo_key) (sym c.new.ensures)
    (none_is_all net domains grays syncs lists.are_grays (IsListedFifo net domains syncs grays) fifo_key (λ e (f, fifo, entry). (f, fifo))
    (subst (λ (entries : List SyncEntry). is_returned (ways_of domains entries grays) ≡ false) given.listed none))
