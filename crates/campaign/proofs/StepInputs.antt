-- The inputs of a step are those that the model draws.
use Rattle.std.proofs.Common.{◌≡◌, ◌≢◌, ◌∙◌, ℕ, Bool, true, false, cond, List, length, get_or, replicate, Contains, None, ap, subst, arith}
use Rattle.std.specs.Prelude.{filter, All, AllPairs}
use Rattle.std.specs.List.{AllByRecursion}
use Rattle.std.proofs.lemmas.List.Elements.{All-from_recursion, recursion_from_All, Contains-get_or}
use Rattle.std.proofs.lemmas.List.Sorted.{All-permutation}
use Rattle.std.proofs.lemmas.Nat.{pow_pos}
use Rattle.cell_graph.specs.declared.net.Net.{Net}
use Rattle.cell_graph.specs.Values.{word_at}
use Rattle.domains.specs.declared.Domains.{Domains}
use Rattle.domains.specs.Assignment.{clock_of}
use Rattle.domains.specs.Fit.{Fit}
use Rattle.domains.specs.Nets.{IsNet}
use Rattle.cdc_model.specs.declared.record.Given.{Given}
use Rattle.cdc_model.specs.declared.record.Race.{Race}
use Rattle.cdc_model.specs.Design.{Design}
use Rattle.cdc_model.specs.Nets.{bit_count, design_of, is_within, HasNextCells}
use Rattle.cdc_model.specs.Replay.{has_edge, Unticked, unless, first_fault, input_fault}
use Rattle.cdc_model.specs.Runs.{is_in}
use Rattle.cdc_model.proofs.Ascending.{from_filter, from_map}
use Rattle.cdc_model.proofs.ReadBits.{filter-same}
use Rattle.settling_sim.specs.Edges.{mark_in}
use Rattle.settling_sim.specs.Runs.{HasCells, IsInput}
use Rattle.settling_sim.specs.State.{is_clocked_input}
use Rattle.settling_sim.specs.Trial.{register_ticks}
use Rattle.settling_sim.proofs.Ticks.{tick-is}
use Rattle.campaign.specs.Draws.{behind_all}
use Rattle.campaign.specs.Drawn.{given_for, input_ticks, inputs_in, step_with, values_in, word_for}
use Rattle.campaign.specs.Plan.{AreNamed, inputs_of}
use Rattle.campaign.specs.Tested.{behind_passing, givens_in, put_drawn}
use Rattle.campaign.proofs.DrawnInputs.{named-apart, numbers-rise, put-word, values-are}
use Rattle.campaign.proofs.Members.{input-there, input-within}
use Rattle.campaign.proofs.Passing.{apart-mapped, apart-passing, apart-pairs, behind-passing, each-mapped, each-of, each-passing, of-each}
use Rattle.campaign.proofs.FlopRaces.{no-faults}

module _ (net : Net) (domains : Domains) (is : IsNet net) (has : HasNextCells net) (runs : HasCells net) (fit : Fit net domains) (named : List ℕ) (are_named : AreNamed net domains named) where
  abbrev D : Design
  D = design_of net domains

  module _ (edges : List ℕ) where
    abbrev ticking : List Bool
    ticking = mark_in (replicate (length domains.clocks) false) edges

    ticks-same : (sig : ℕ) → is_within net (record { sig = sig; at = 0 }) ≡ true → register_ticks domains ticking sig ≡ input_ticks net domains edges sig
    ticks-same sig w = tick-is net domains fit edges (record { sig = sig; at = 0 }) w ∙ ap (λ t. is_in (cond t (clock_of domains (record { sig = sig; at = 0 })) None) (has_edge edges)) w

    listed-same : (sig : ℕ) → Contains (inputs_of net domains) sig → register_ticks domains ticking sig ≡ input_ticks net domains edges sig
    listed-same sig i = ticks-same sig (input-within net domains is has runs sig (input-there net domains is has runs sig i).0)

    inputs-same : filter (register_ticks domains ticking) (inputs_of net domains) ≡ inputs_in net domains edges
    inputs-same = filter-same (register_ticks domains ticking) (input_ticks net domains edges) (inputs_of net domains) listed-same

    -- a word is drawn for each input that changes
    pub behind-inputs : (rng : List ℕ) → behind_passing (register_ticks domains ticking) (inputs_of net domains) rng ≡ behind_all (length (inputs_in net domains edges)) rng
    behind-inputs rng = behind-passing (register_ticks domains ticking) (inputs_of net domains) rng ∙ ap (λ ss. behind_all (length ss) rng) inputs-same

    -- and it has the low bits of its word
    pub inputs-are : (rng drawn : List ℕ) → length drawn ≡ length net.graph.signals
        → givens_in net.graph.signals (put_drawn (register_ticks domains ticking) (inputs_of net domains) rng drawn) (register_ticks domains ticking) named ≡ values_in net domains named edges rng
    inputs-are rng drawn long =
        values-are net.graph.signals (put_drawn (register_ticks domains ticking) (inputs_of net domains) rng drawn) (register_ticks domains ticking) (input_ticks net domains edges)
        (word_for rng (inputs_in net domains edges)) named
        (All-permutation
        (λ s. (register_ticks domains ticking s ≡ input_ticks net domains edges s)
        × (register_ticks domains ticking s ≡ true → word_at (put_drawn (register_ticks domains ticking) (inputs_of net domains) rng drawn) s ≡ word_for rng (inputs_in net domains edges) s))
        (inputs_of net domains) named are_named.same
        (λ i d l.
        let s = get_or (inputs_of net domains) i d in
        let there = Contains-get_or (inputs_of net domains) i d l in (
          listed-same s there,
          λ h.
              put-word (register_ticks domains ticking) (inputs_of net domains) rng drawn s 0 (numbers-rise (is_clocked_input net domains) 0 (length net.graph.signals))
              (λ u k. let p = (input-there net domains is has runs u k).1 in omega (arith, p, long)) there h
              ∙ ap (λ ss. word_for rng ss s) inputs-same,
        )))

    module _ (rng : List ℕ) where
      abbrev inputs : List Given
      inputs = values_in net domains named edges rng

      abbrev given : ℕ → Given
      given = given_for net.graph.signals rng (inputs_in net domains edges)

      named-there : All (λ s. is_clocked_input net domains s ≡ true) named
      named-there = All-permutation (λ s. is_clocked_input net domains s ≡ true) (inputs_of net domains) named are_named.same
          (λ i d l. (input-there net domains is has runs (get_or (inputs_of net domains) i d) (Contains-get_or (inputs_of net domains) i d l)).0)

      named-each : AllByRecursion (λ s. is_clocked_input net domains s ≡ true) (filter (input_ticks net domains edges) named)
      named-each = each-passing (λ s. is_clocked_input net domains s ≡ true) (input_ticks net domains edges) named (recursion_from_All (λ s. is_clocked_input net domains s ≡ true) named named-there)

      pub inputs-fit : All (IsInput net domains) inputs
      inputs-fit = All-from_recursion (IsInput net domains) inputs (each-mapped (IsInput net domains) given (filter (input_ticks net domains edges) named)
          (each-of (λ s. IsInput net domains (given s)) (filter (input_ticks net domains edges) named) (λ s i. record {
            clocked = of-each (λ s. is_clocked_input net domains s ≡ true) (filter (input_ticks net domains edges) named) s named-each i;
            fits = (let p = pow_pos (bit_count net.graph.signals s) in omega (arith, p));
          })))

      pub inputs-once : AllPairs (λ (g : Given) (h : Given). g.sig ≢ h.sig) inputs
      inputs-once = apart-pairs (λ (g : Given). g.sig) inputs (apart-mapped (λ (g : Given). g.sig) given (filter (input_ticks net domains edges) named)
          (apart-passing (λ (x : ℕ). x) (input_ticks net domains edges) named
          (named-apart 0 (inputs_of net domains) named (numbers-rise (is_clocked_input net domains) 0 (length net.graph.signals)) are_named.same)))

      pub inputs-tick : (races : List Race) → first_fault (input_fault D (step_with edges inputs races)) inputs ≡ None
      inputs-tick races = no-faults (input_fault D (step_with edges inputs races)) inputs (λ g i.
          let p = from_map given (filter (input_ticks net domains edges) named) g i in
          let q = from_filter (input_ticks net domains edges) named p.0 p.1 in
          let w = input-within net domains is has runs p.0 (of-each (λ s. is_clocked_input net domains s ≡ true) (filter (input_ticks net domains edges) named) p.0 named-each p.1) in
          subst (λ (g : Given). input_fault D (step_with edges inputs races) g ≡ None) p.2
          (ap (λ t. unless (is_in (cond t (clock_of domains (record { sig = p.0; at = 0 })) None) (has_edge edges)) (Unticked (record { sig = p.0; at = 0 }))) w
          ∙ ap (λ t. unless t (Unticked (record { sig = p.0; at = 0 }))) q.1))
