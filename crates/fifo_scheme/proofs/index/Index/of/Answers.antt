use Rattle.std.proofs.Common.{◌≡◌, ℕ, List, Contains, subst}
use Rattle.std.specs.HashMap as hash
use Rattle.cdc_base.specs.contracts.bit.BitPartialEq.TheImpl as equality
use Rattle.cdc_base.specs.declared.bit.Bit.{Bit}
use Rattle.fifo_scheme.specs.declared.index.Reading.{Reading}
use Rattle.fifo_parts.specs.declared.reads.Read.{Read}
use Rattle.fifo_parts.specs.declared.side.Side.{Side}
use Rattle.fifo_parts.specs.declared.words.Taking.{Taking}
use Rattle.fifo_parts.specs.Brought.{places_at}
use Rattle.fifo_parts.specs.Words.{lowest}
use Rattle.fifo_scheme.specs.Indexed.{IsFoundFrom, IsPlaceOf}
use Rattle.fifo_scheme.specs.Judged.{ArePlaces}
use Rattle.fifo_parts.specs.Tellers.{IsShown}
use Rattle.fifo_scheme.proofs.IndexMade.{said_at}
use Rattle.fifo_scheme.proofs.index.Index.of.Goals as goal

pub returns-clause-found : goal.returns-clause-found
returns-clause-found c = λ meant is has fits shared shows listed.
    let net = c.args.net.now in
    let shown : IsShown net c.args.table.now = record { is_net = is; has_next = has; is_shared = shared; shows = shows } in
    let sides = c.in_ok-sides.sides.items in
    let ts = c.in_ok-takings.takings in
    let by = c.in_ok-sides_by_count.sides_by_count in
    let at : (count : ℕ) → ArePlaces (λ (s : Side). s.reg.count ≡ count) sides (places_at by (lowest count)) =
    subst (λ (xs : List Side). (count : ℕ) → ArePlaces (λ (s : Side). s.reg.count ≡ count) xs
    (places_at by (lowest count))) c.as_slice.ensures.value c.in_ok-sides_by_count.ensures in
    let takings = c.in_ok-takings.ensures shown in
    let said : (count : ℕ) → ArePlaces (IsFoundFrom net by count) ts (places_at c.in_ok-takings_by_count.takings_by_count (lowest count)) =
    subst (λ (xs : List Taking). (count : ℕ) → ArePlaces (IsFoundFrom net by count) xs
    (places_at c.in_ok-takings_by_count.takings_by_count (lowest count))) c.as_slice-2.ensures c.in_ok-takings_by_count.ensures in
    record {
      sources = c.in_ok-sources.ensures meant listed;
      comparisons = c.in_ok-comparisons.ensures shown;
      sides = c.in_ok-sides.ensures shown;
      takings = takings;
      reads = c.in_ok-reads.ensures c.args.domains.now shown;
      readings = c.in_ok-readings.ensures.found is has fits shows;
      sides_at = at;
      takings_at = λ count counter. said_at net sides by ts at count counter (places_at c.in_ok-takings_by_count.takings_by_count (lowest count))
          (said count);
      taking_at = subst (λ (xs : List Taking). (b : Bit) → IsPlaceOf xs b
          (hash.get equality.ghosts.eq c.in_ok-taking_by_bit.taking_by_bit b)) c.as_slice-3.ensures c.in_ok-taking_by_bit.ensures;
      reads_at = subst (λ (xs : List Read). (count : ℕ) → ArePlaces (λ (r : Read). r.count ≡ count) xs
          (places_at c.in_ok-reads_by_count.reads_by_count (lowest count))) c.as_slice-4.ensures c.in_ok-reads_by_count.ensures;
      readings_at = subst (λ (xs : List Reading). (b : Bit) → ArePlaces (λ (r : Reading). Contains r.reads b) xs
          (places_at c.in_ok-readings_by_word.readings_by_word b)) c.as_slice-5.ensures c.in_ok-readings_by_word.ensures;
    }
