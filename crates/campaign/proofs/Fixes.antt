-- The steps that a campaign draws are fixed, and so is the step of a capture.
use Rattle.std.proofs.Common.{◌≡◌, ◌≢◌, ◌∙◌, ℕ, zero, suc, ◌<◌, ◌==◌, ◌%◌, Bool, true, false, cond, not, ◌||◌, List, [], ◌∷◌, ◌++◌, map, length, Contains, Option, Some, None, inl, inr, refl, sym, ap, ap₂, subst, arith, eqb-true}
use Rattle.std.specs.Bool.{beq}
use Rattle.std.proofs.lemmas.Bool.{and_parts, both_ways}
use Rattle.std.proofs.lemmas.List.Elements.{Contains-append_left, Contains-append_right}
use Rattle.cdc_base.specs.declared.bit.Bit.{Bit}
use Rattle.cell_graph.specs.declared.net.Net.{Net}
use Rattle.cell_graph.specs.Cofactor.{reads, same}
use Rattle.cell_graph.specs.Reading.{Reading}
use Rattle.cell_graph.specs.Tree.{bit, bit_at}
use Rattle.cell_graph.proofs.Bits.{bit_eq-refl}
use Rattle.cell_graph.proofs.Sound.{IsBit, same_sound}
use Rattle.domains.specs.declared.Domains.{Domains}
use Rattle.cdc_model.specs.declared.record.Given.{Given}
use Rattle.cdc_model.specs.declared.record.Race.{Race}
use Rattle.cdc_model.specs.declared.scheme.Crossing.{Crossing}
use Rattle.cdc_model.specs.Design.{Design, are_async, flipped}
use Rattle.cdc_model.specs.Nets.{design_of, is_register_bit, next_tree, net_trees}
use Rattle.cdc_model.specs.Replay.{flips_of, given_to, has_bit, has_edge, is_loose, next_value, stepped, race_of, StepFault, NoEdge, Unticked, NotLoose, NotOther, unless, or_else, any_edge, tick_fault, race_fault, other_fault, step_fault, AreClocks}
use Rattle.cdc_model.specs.Runs.{State, ticks}
use Rattle.cdc_model.specs.Schemes.{AreSyncs}
use Rattle.cdc_model.specs.Syncs.{syncs_of}
use Rattle.cdc_model.proofs.Ascending.{from_filter, here}
use Rattle.cdc_model.proofs.Net.{self_reads}
use Rattle.cdc_model.proofs.Replay.{beq_differ}
use Rattle.cdc_model.proofs.Synced.{syncs_are_all}
use Rattle.campaign.specs.declared.toss.Toss.{Toss}
use Rattle.campaign.specs.Campaign.{captures, own_race, captured_races, races_before, races_behind}
use Rattle.campaign.specs.Draws.{behind_all, with_words, word}
use Rattle.campaign.specs.Drawn.{inputs_in, is_torn, race_of_toss, step_with, torn_in, toss, values_in}
use Rattle.campaign.specs.Edges.{edges_of, behind_edges, is_full, or_first}
use Rattle.campaign.specs.Numbers.{numbers_from}
use Rattle.campaign.specs.Plan.{AreNamed, flops_of, pairs_of, settles}
use Rattle.campaign.specs.Run.{CanRun}
use Rattle.campaign.specs.Torn.{IsPair}
use Rattle.campaign.proofs.DrawnInputs.{number-passes}
use Rattle.campaign.proofs.Faultless.{any-in, loose-same, one-group, reader-clock, taken-same}
use Rattle.campaign.proofs.FlopRaces.{IsFlop, no-faults, race-at, race-bit, race-from, race-none, races-apart}
use Rattle.campaign.proofs.Members.{flop-is, flops-apart, pair-is, pair-reads}
use Rattle.campaign.proofs.Passing.{AreApart, apart-passing}
use Rattle.campaign.proofs.Raced.{captured-apart, captured-from, race-absent, toss-from, tosses-apart}
use Rattle.campaign.proofs.StepInputs.{inputs-tick}

-- without the first fault or the second one there is none
none-of : (a b : Option StepFault) → a ≡ None → b ≡ None → or_else a b ≡ None
none-of None b e f = f
none-of (Some g) b e f = cc

-- ---- the clocks of a step

some-numbers : (n : ℕ) → n ≢ 0 → any_edge (numbers_from (λ c. true) 0 n) ≡ true
some-numbers zero h = absurd (h refl)
some-numbers (suc n) h = refl

first-there : (cs : List ℕ) → any_edge (or_first cs) ≡ true
first-there [] = refl
first-there (c ∷ cs) = refl

-- the clocks that a word marks
abbrev marked-in : Domains → List ℕ → List ℕ
marked-in domains rng = numbers_from (λ c. bit_at (word rng) (c % 64)) 0 (length domains.clocks)

-- some clock ticks
pub some-edge : (domains : Domains) (number : ℕ) (rng : List ℕ) → length domains.clocks ≢ 0 → any_edge (edges_of domains number rng) ≡ true
some-edge domains number rng h =
    go (is_full number) (numbers_from (λ c. true) 0 (length domains.clocks)) (or_first (marked-in domains rng)) (some-numbers (length domains.clocks) h) (first-there (marked-in domains rng))
  where
    go : (t : Bool) (xs ys : List ℕ) → any_edge xs ≡ true → any_edge ys ≡ true → any_edge (cond t xs ys) ≡ true
    go true xs ys e f = e
    go false xs ys e f = f

number-below : (test : ℕ → Bool) (n c : ℕ) → has_edge (numbers_from test 0 n) c ≡ true → c < n
number-below test n c h =
    let p = any-in (λ e. e == c) (numbers_from test 0 n) h in
    let q = number-passes test 0 n p.0 p.1 in
    let e = eqb-true p.0 c p.2 in
    omega (arith, q.1, e)

first-below : (n : ℕ) → n ≢ 0 → (cs : List ℕ) → ((c : ℕ) → has_edge cs c ≡ true → c < n) → (c : ℕ) → has_edge (or_first cs) c ≡ true → c < n
first-below n ne [] h c e = (let z = eqb-true 0 c (or-zero (0 == c) e) in omega (arith, z, ne))
  where
    or-zero : (t : Bool) → (t || false) ≡ true → t ≡ true
    or-zero true f = refl
    or-zero false f = cc
first-below n ne (d ∷ cs) h c e = h c e

-- and those that tick are clocks
pub edges-below : (domains : Domains) (number : ℕ) (rng : List ℕ) → length domains.clocks ≢ 0 → (c : ℕ) → has_edge (edges_of domains number rng) c ≡ true → c < length domains.clocks
edges-below domains number rng h c =
    go (is_full number) (numbers_from (λ c. true) 0 (length domains.clocks)) (or_first (marked-in domains rng)) (number-below (λ c. true) (length domains.clocks) c)
    (first-below (length domains.clocks) h (marked-in domains rng) (number-below (λ c. bit_at (word rng) (c % 64)) (length domains.clocks)) c)
  where
    go : (t : Bool) (xs ys : List ℕ) → (has_edge xs c ≡ true → c < length domains.clocks) → (has_edge ys c ≡ true → c < length domains.clocks) → has_edge (cond t xs ys) c ≡ true → c < length domains.clocks
    go true xs ys e f = e
    go false xs ys e f = f

-- ---- what the race of a settling flop asks for

copy-takes : (net : Net) (v : Reading) (x b : Bit) → same [] (next_tree net x.sig) x.at ≡ Some b → bit v (next_tree net x.sig) x.at ≡ v b
copy-takes net v x b e = subst (λ (o : Option Bit). IsBit v o (bit v (next_tree net x.sig) x.at)) e (same_sound [] v tt (next_tree net x.sig) x.at)

turned : (v : Bool) (f : StepFault) → unless (not (beq v (not v))) f ≡ None
turned true f = refl
turned false f = refl

turned-back : (v : Bool) (f : StepFault) → unless (not (beq (not v) v)) f ≡ None
turned-back true f = refl
turned-back false f = refl

flip-only : (r : Reading) (b : Bit) → flipped (has_bit (b ∷ [])) r b ≡ not (r b)
flip-only r b = ap (λ t. cond (t || false) (not (r b)) (r b)) (bit_eq-refl b)

-- its source is loose for it
toss-loose : (d : Design) (s : State) (t : Reading) (w : ℕ) (c : Crossing) → is_loose d s t c.to c.from ≡ true → race_fault d s t (race_of_toss (toss w c)) ≡ None
toss-loose d s t w c e = go (bit_at w 0)
  where
    go : (o : Bool) → race_fault d s t (race_of_toss (record { flop = c.to; source = c.from; other = o })) ≡ None
    go true = ap (λ v. or_else (or_else (unless v (NotLoose c.to c.from)) None) None) e
    go false = ap (λ v. or_else (unless v (NotLoose c.to c.from)) None) e

-- and its other bits give the other value
toss-other : (net : Net) (domains : Domains) (s : State) (t : Reading) (w : ℕ) (c : Crossing) → IsFlop net c
    → t c.to ≡ bit (flipped (has_bit (race_of_toss (toss w c)).flip) s.values) (next_tree net c.to.sig) c.to.at → other_fault (design_of net domains) s t (race_of_toss (toss w c)) ≡ None
toss-other net domains s t w c flop = go (bit_at w 0)
  where
    plain : bit (flipped (has_bit []) s.values) (next_tree net c.to.sig) c.to.at ≡ s.values c.from
    plain = copy-takes net (flipped (has_bit []) s.values) c.to c.from flop.copy

    flips : bit (flipped (has_bit (c.from ∷ [])) s.values) (next_tree net c.to.sig) c.to.at ≡ not (s.values c.from)
    flips = copy-takes net (flipped (has_bit (c.from ∷ [])) s.values) c.to c.from flop.copy ∙ flip-only s.values c.from

    go : (o : Bool) → t c.to ≡ bit (flipped (has_bit (race_of_toss (record { flop = c.to; source = c.from; other = o })).flip) s.values) (next_tree net c.to.sig) c.to.at
        → other_fault (design_of net domains) s t (race_of_toss (record { flop = c.to; source = c.from; other = o })) ≡ None
    go true e = ap₂ (λ u v. unless (not (beq u v)) (NotOther c.to)) plain (e ∙ flips) ∙ turned (s.values c.from) (NotOther c.to)
    go false e = ap₂ (λ u v. unless (not (beq u v)) (NotOther c.to)) flips (e ∙ plain) ∙ turned-back (s.values c.from) (NotOther c.to)

and-left : (a b : Bool) → cond a b false ≡ true → a ≡ true
and-left true b h = refl
and-left false b h = cc

and-right : (a b : Bool) → cond a b false ≡ true → b ≡ true
and-right true b h = h
and-right false b h = cc

module _ (net : Net) (domains : Domains) (can : CanRun net domains) (some : length domains.clocks ≢ 0) where
  abbrev d : Design
  d = design_of net domains

  are-syncs : AreSyncs d (net_trees net (λ g. false)) (syncs_of net domains)
  are-syncs = (syncs_are_all net domains (λ g. false) can.is can.opens.fit).only

  -- a settling flop isn't of another group than a bit that reads it
  pub source-clock : (x b : Bit) → is_register_bit net x ≡ true → reads [] (next_tree net x.sig) x.at b ≡ true → settles net domains b ≡ true → are_async d b x ≡ false
  source-clock x b register read h = one-group d b x (reader-clock d (net_trees net (λ g. false)) (syncs_of net domains) are-syncs b x h register read)

  -- so what is of another group is none
  pub source-plain : (x b : Bit) → is_register_bit net x ≡ true → reads [] (next_tree net x.sig) x.at b ≡ true → are_async d b x ≡ true → settles net domains b ≡ false
  source-plain x b register read h = go (settles net domains b) refl
    where
      go : (t : Bool) → settles net domains b ≡ t → settles net domains b ≡ false
      go true e = absurd (both_ways (are_async d b x) (source-clock x b register read e) h)
      go false e = e

  module _ (named : List ℕ) (are_named : AreNamed net domains named) (number : ℕ) (s : State) (rng : List ℕ) where
    abbrev edges : List ℕ
    edges = edges_of domains number rng

    abbrev rng1 : List ℕ
    rng1 = behind_edges number rng

    abbrev inputs : List Given
    inputs = values_in net domains named edges rng1

    abbrev rng2 : List ℕ
    rng2 = behind_all (length (inputs_in net domains edges)) rng1

    abbrev torn : List Crossing
    torn = torn_in net domains edges inputs s

    abbrev tosses : List Toss
    tosses = with_words toss rng2 torn

    abbrev races : List Race
    races = map race_of_toss tosses

    torn-from : (c : Crossing) → Contains torn c → Contains (flops_of net domains) c × (is_torn d edges s (stepped d s (step_with edges inputs [])).values c ≡ true)
    torn-from c i = from_filter (is_torn d edges s (stepped d s (step_with edges inputs [])).values) (flops_of net domains) c i

    torn-flop : (c : Crossing) → Contains torn c → IsFlop net c × (settles net domains c.to ≡ true)
    torn-flop c i = flop-is net domains can.is can.has can.opens.cells c (torn-from c i).0

    torn-ticks : (c : Crossing) → Contains torn c → ticks d (has_edge edges) c.to ≡ true
    torn-ticks c i = and-left (ticks d (has_edge edges) c.to) _ (torn-from c i).1

    torn-apart : AreApart (λ (c : Crossing). c.to) torn
    torn-apart = apart-passing (λ (c : Crossing). c.to) (is_torn d edges s (stepped d s (step_with edges inputs [])).values) (flops_of net domains) (flops-apart net domains can.is can.has can.opens.cells)

    -- a source that is torn is loose under races in which no plain bit races but where it isn't read
    torn-loose : (rs : List Race) (c : Crossing) → Contains torn c → (settles net domains c.from ≡ false → race_of rs c.from ≡ None)
        → is_loose d s (stepped d s (step_with edges inputs rs)).values c.to c.from ≡ true
    torn-loose rs c i quiet =
        let flop = (torn-flop c i).0 in
        loose-same d s (stepped d s (step_with edges inputs rs)).values (stepped d s (step_with edges inputs [])).values c.to c.from (λ h.
        taken-same d s edges inputs rs [] c.from (quiet (source-plain c.to c.from flop.register (self_reads [] (next_tree net c.to.sig) c.to.at c.from flop.copy) h)))
        ∙ and-right (ticks d (has_edge edges) c.to) _ (torn-from c i).1

    -- what a racing register bit takes
    racing : (rs : List Race) (x : Bit) (r : Race) → is_register_bit net x ≡ true → ticks d (has_edge edges) x ≡ true → race_of rs x ≡ Some r
        → (stepped d s (step_with edges inputs rs)).values x ≡ bit (flipped (has_bit r.flip) s.values) (next_tree net x.sig) x.at
    racing rs x r register now e =
        ap (λ t. cond t (next_value d s (step_with edges inputs rs) x) (s.values x)) now
        ∙ ap (λ t. cond t (d.next (flipped (flips_of (race_of rs x)) s.values) x) (cond (d.is_input x) (given_to inputs x (s.values x)) (s.values x))) register
        ∙ ap (λ (o : Option Race). bit (flipped (flips_of o) s.values) (next_tree net x.sig) x.at) e

    -- races of torn flops and of one more bit make no fault where each does
    step-passes : (rs : List Race) → ((r : Race) → Contains rs r → ticks d (has_edge edges) r.bit ≡ true)
        → ((r : Race) → Contains rs r → race_fault d s (stepped d s (step_with edges inputs rs)).values r ≡ None)
        → ((r : Race) → Contains rs r → other_fault d s (stepped d s (step_with edges inputs rs)).values r ≡ None)
        → step_fault d s (step_with edges inputs rs) ≡ None
    step-passes rs now loose others =
        none-of _ _ (ap (λ t. unless t NoEdge) (some-edge domains number rng some))
        (none-of _ _ (inputs-tick net domains can.is can.has can.opens.cells can.opens.fit named are_named edges rng1 rs)
        (none-of _ _ (no-faults (tick_fault d (step_with edges inputs rs)) rs (λ r i. ap (λ t. unless t (Unticked r.bit)) (now r i)))
        (none-of _ _ (no-faults (race_fault d s (stepped d s (step_with edges inputs rs)).values) rs loose)
        (no-faults (other_fault d s (stepped d s (step_with edges inputs rs)).values) rs others))))

    pub step-clocks : (rs : List Race) → AreClocks d (step_with edges inputs rs)
    step-clocks rs = record { edges = edges-below domains number rng some }

    -- ---- the step that is drawn

    plain-quiet : (b : Bit) → settles net domains b ≡ false → race_of races b ≡ None
    plain-quiet b h = race-none torn rng2 b (λ c i e. both_ways (settles net domains b) h (ap (settles net domains) (sym e) ∙ (torn-flop c i).1))

    pub drawn-passes : step_fault d s (step_with edges inputs races) ≡ None
    drawn-passes = step-passes races
        (λ r i. let p = race-from torn rng2 r i in ap (ticks d (has_edge edges)) (sym (ap (λ (q : Race). q.bit) p.3) ∙ race-bit (toss p.0 p.1)) ∙ torn-ticks p.1 p.2)
        (λ r i. let p = race-from torn rng2 r i in
        subst (λ (q : Race). race_fault d s (stepped d s (step_with edges inputs races)).values q ≡ None) p.3
        (toss-loose d s (stepped d s (step_with edges inputs races)).values p.0 p.1 (torn-loose races p.1 p.2 (plain-quiet p.1.from))))
        (λ r i. let p = race-from torn rng2 r i in
        let at : r.bit ≡ p.1.to = sym (ap (λ (q : Race). q.bit) p.3) ∙ race-bit (toss p.0 p.1) in
        let there : race_of races p.1.to ≡ Some (race_of_toss (toss p.0 p.1)) = ap (race_of races) (sym at) ∙ race-at races r (races-apart torn rng2 torn-apart) i ∙ ap Some (sym p.3) in
        subst (λ (q : Race). other_fault d s (stepped d s (step_with edges inputs races)).values q ≡ None) p.3
        (toss-other net domains s (stepped d s (step_with edges inputs races)).values p.0 p.1 (torn-flop p.1 p.2).0
        (racing races p.1.to (race_of_toss (toss p.0 p.1)) (torn-flop p.1 p.2).0.register (torn-ticks p.1 p.2) there)))

    -- ---- the step of a capture

    module _ (c : Crossing) (pair : Contains (pairs_of net domains) c) (shows : captures d edges s (stepped d s (step_with edges inputs races)).values c ≡ true) where
      abbrev own : List Race
      own = captured_races tosses c

      abbrev ended : Reading
      ended = (stepped d s (step_with edges inputs own)).values

      pub end-pair : IsPair net c × (settles net domains c.to ≡ false)
      end-pair = pair-is net domains can.is can.has can.opens.cells c pair

      reads-it : reads [] (next_tree net c.to.sig) c.to.at c.from ≡ true
      reads-it = pair-reads net domains c pair

      shown : (ticks d (has_edge edges) c.to ≡ true) × (is_loose d s (stepped d s (step_with edges inputs races)).values c.to c.from ≡ true)
          × (not (beq (d.next (flipped (has_bit (c.from ∷ [])) s.values) c.to) (d.next s.values c.to)) ≡ true)
      shown =
          let p = and_parts (ticks d (has_edge edges) c.to) _ shows in
          let q = and_parts (is_loose d s (stepped d s (step_with edges inputs races)).values c.to c.from) _ p.1 in
          (p.0, q.0, q.1)

      pub end-ticks : ticks d (has_edge edges) c.to ≡ true
      end-ticks = shown.0

      plain-flop : (t : Toss) → Contains tosses t → t.flop ≢ c.to
      plain-flop t i e =
          let p = toss-from torn rng2 t i in
          both_ways (settles net domains c.to) end-pair.1 (ap (settles net domains) (sym e ∙ sym (ap (λ (u : Toss). u.flop) p.3)) ∙ (torn-flop p.1 p.2).1)

      apart : AreApart (λ (r : Race). r.bit) own
      apart = captured-apart tosses c (tosses-apart torn rng2 torn-apart) plain-flop

      -- a plain bit but the one that captures has no race
      end-quiet : (b : Bit) → b ≢ c.to → settles net domains b ≡ false → race_of own b ≡ None
      end-quiet b ne h = race-absent own b (λ r i e. elim (captured-from tosses c r i) [
        | inl f ↦ ne (sym e ∙ sym (ap (λ (q : Race). q.bit) f))
        | inr f ↦ (
            let p = toss-from torn rng2 f.0 f.1 in
            let at : b ≡ p.1.to = sym e ∙ sym (ap (λ (q : Race). q.bit) f.3) ∙ race-bit f.0 ∙ sym (ap (λ (u : Toss). u.flop) p.3) in
            both_ways (settles net domains b) h (ap (settles net domains) at ∙ (torn-flop p.1 p.2).1)
            )
      ])

      -- the bit that is captured is loose in this step too
      pub end-loose : is_loose d s ended c.to c.from ≡ true
      end-loose = loose-same d s ended (stepped d s (step_with edges inputs races)).values c.to c.from (λ h.
          let plain = source-plain c.to c.from end-pair.0.to reads-it h in
          taken-same d s edges inputs own races c.from
          (end-quiet c.from (λ e. both_ways (are_async d c.from c.to) (one-group d c.from c.to (sym (ap d.clock e))) h) plain ∙ sym (plain-quiet c.from plain)))
          ∙ shown.1

      end-ticking : (r : Race) → Contains own r → ticks d (has_edge edges) r.bit ≡ true
      end-ticking r i = elim (captured-from tosses c r i) [
        | inl f ↦ ap (ticks d (has_edge edges)) (sym (ap (λ (q : Race). q.bit) f)) ∙ shown.0
        | inr f ↦ (
            let p = toss-from torn rng2 f.0 f.1 in
            ap (ticks d (has_edge edges)) (sym (ap (λ (q : Race). q.bit) f.3) ∙ race-bit f.0 ∙ sym (ap (λ (u : Toss). u.flop) p.3)) ∙ torn-ticks p.1 p.2
            )
      ]

      end-flips : (r : Race) → Contains own r → race_fault d s ended r ≡ None
      end-flips r i = elim (captured-from tosses c r i) [
        | inl f ↦ subst (λ (q : Race). race_fault d s ended q ≡ None) f (ap (λ v. or_else (or_else (unless v (NotLoose c.to c.from)) None) None) end-loose)
        | inr f ↦ (
            let p = toss-from torn rng2 f.0 f.1 in
            let source : p.1.from ≡ f.0.source = ap (λ (u : Toss). u.source) p.3 in
            subst (λ (q : Race). race_fault d s ended q ≡ None) (ap race_of_toss p.3 ∙ f.3)
            (toss-loose d s ended p.0 p.1 (torn-loose own p.1 p.2 (end-quiet p.1.from (λ e. f.2 (sym source ∙ e)))))
            )
      ]

      end-others : (r : Race) → Contains own r → other_fault d s ended r ≡ None
      end-others r i = elim (captured-from tosses c r i) [
        | inl f ↦ subst (λ (q : Race). other_fault d s ended q ≡ None) f refl
        | inr f ↦ (
            let p = toss-from torn rng2 f.0 f.1 in
            let is : race_of_toss (toss p.0 p.1) ≡ r = ap race_of_toss p.3 ∙ f.3 in
            let at : r.bit ≡ p.1.to = sym (ap (λ (q : Race). q.bit) is) ∙ race-bit (toss p.0 p.1) in
            let there : race_of own p.1.to ≡ Some (race_of_toss (toss p.0 p.1)) = ap (race_of own) (sym at) ∙ race-at own r apart i ∙ ap Some (sym is) in
            subst (λ (q : Race). other_fault d s ended q ≡ None) is
            (toss-other net domains s ended p.0 p.1 (torn-flop p.1 p.2).0 (racing own p.1.to (race_of_toss (toss p.0 p.1)) (torn-flop p.1 p.2).0.register (torn-ticks p.1 p.2) there))
            )
      ]

      pub end-passes : step_fault d s (step_with edges inputs own) ≡ None
      end-passes = step-passes own end-ticking end-flips end-others

      own-there : Contains own (own_race c)
      own-there = Contains-append_left (races_before c.to tosses ++ own_race c ∷ []) (races_behind c.to tosses) (own_race c)
          (Contains-append_right (races_before c.to tosses) (own_race c ∷ []) (own_race c) (here (own_race c) []))

      -- it takes what the other value of that bit gives
      pub end-takes : ended c.to ≡ d.next (flipped (has_bit (c.from ∷ [])) s.values) c.to
      end-takes = racing own c.to (own_race c) end-pair.0.to shown.0 (race-at own (own_race c) apart own-there)

      -- which isn't its next value
      pub end-differs : ended c.to ≢ d.next s.values c.to
      end-differs e = beq_differ (d.next (flipped (has_bit (c.from ∷ [])) s.values) c.to) (d.next s.values c.to) shown.2 (sym end-takes ∙ e)
