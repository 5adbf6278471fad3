-- A step leaves the model's cycles.
use Rattle.std.proofs.Common.{◌≡◌, ◌≢◌, ◌∙◌, ℕ, zero, suc, ◌+◌, ◌-◌, ◌*◌, ◌<◌, ◌≤◌, ◌==◌, Bool, true, false, cond, not, ◌&&◌, ◌||◌, List, [], ◌∷◌, length, get_or, replicate, Option, Some, None, ◌⊎◌, inl, inr, refl, sym, ap, ap₂, subst, arith, eqb-true}
use Rattle.std.specs.Prelude.{is_some, unwrap_or, slice_get, All}
use Rattle.std.specs.Bool.{beq}
use Rattle.std.specs.Option.{option_map_or}
use Rattle.std.proofs.lemmas.Bool.{and_parts, both_ways}
use Rattle.std.proofs.lemmas.List.Elements.{All-head, All-tail}
use Rattle.cdc_base.specs.declared.bit.Bit.{Bit}
use Rattle.cell_graph.specs.declared.cell.CellId.{CellId}
use Rattle.cell_graph.specs.declared.net.Net.{Net}
use Rattle.cell_graph.specs.Cofactor.{same}
use Rattle.cell_graph.specs.Reading.{bit_eq}
use Rattle.cell_graph.specs.Tree.{bit, bit_at}
use Rattle.cell_graph.specs.Values.{AreWordsOf, word_at, reading_of}
use Rattle.cell_graph.proofs.Bits.{bit_eq-true}
use Rattle.cell_graph.proofs.Words.{bit-zero}
use Rattle.cell_graph.proofs.Sound.{IsBit, same_sound}
use Rattle.clock_constraints.specs.declared.ClockPin.{ClockPin}
use Rattle.domains.specs.declared.Domains.{Domains}
use Rattle.domains.specs.Assignment.{clock_of}
use Rattle.domains.specs.Fit.{Fit}
use Rattle.cdc_model.specs.declared.record.Race.{Race}
use Rattle.cdc_model.specs.declared.record.RecordStep.{RecordStep}
use Rattle.cdc_model.specs.Design.{are_equal, flipped, settle_by, settle_of}
use Rattle.cdc_model.specs.Nets.{next_cell, next_tree, is_within, is_register_bit, clock_of_bit, design_of, settle_on, settle_at}
use Rattle.cdc_model.specs.Replay.{has_bit, has_edge, race_of, other_of, next_left, stepped, on_list, unless, NotOther, first_fault, input_fault, tick_fault, other_fault}
use Rattle.cdc_model.specs.Runs.{State, is_in, ticks, left_by}
use Rattle.cdc_model.proofs.Replay.{beq_differ, passed}
use Rattle.settling_sim.specs.declared.cycles.Cycles.{Cycles}
use Rattle.settling_sim.specs.Cycles.{settled, digit, count_at, cycles_at, cycles_of}
use Rattle.settling_sim.specs.Edges.{mark_in}
use Rattle.settling_sim.specs.Loose.{needed_by}
use Rattle.settling_sim.specs.Reader.{next_with}
use Rattle.settling_sim.specs.Runs.{HasCells, IsRace, IsStepOf, state_of}
use Rattle.settling_sim.specs.Trial.{register_ticks, settle, unsettle, tried_cycles}
use Rattle.settling_sim.proofs.Counts.{settle-at, settle-length, settled-at, unsettle-of, unsettled-by}
use Rattle.settling_sim.proofs.Stepped.{at-place, each-at, race-found, race-ticks, race-register, marked-is, places}
use Rattle.settling_sim.proofs.Values.{HasPlace, place-of}

digit-lt : (b : Bool) → digit b < 2
digit-lt true = omega arith
digit-lt false = omega arith

-- a bit needs 3 cycles at most
cycles-lt : (cs : List Cycles) (b : Bit) → cycles_of cs b < 4
cycles-lt cs b =
    let low = digit-lt (bit_at (cycles_at cs b.sig).low b.at) in
    let high = digit-lt (bit_at (cycles_at cs b.sig).high b.at) in
    omega arith

settle-lt : (domains : Domains) → All (λ (k : ClockPin). (1 ≤ k.settle) × (k.settle ≤ 3)) domains.clocks → (o : Option ℕ) → settle_at domains o < 4
settle-lt domains h None = omega arith
settle-lt domains h (Some c) = go (slice_get domains.clocks c) refl
  where
    go : (o : Option ClockPin) → slice_get domains.clocks c ≡ o → option_map_or (λ (p : ClockPin). p.settle) o 1 < 4
    go None e = omega arith
    go (Some p) e = let l = at-place (λ (k : ClockPin). (1 ≤ k.settle) × (k.settle ≤ 3)) domains.clocks c p e h in omega (arith, l.1)

needed-lt : (net : Net) (domains : Domains) → Fit net domains → (cs : List Cycles) (x : Bit) (o : Option Bit) → needed_by domains cs x o < 4
needed-lt net domains fit cs x None = settle-lt domains fit.settles (clock_of domains x)
needed-lt net domains fit cs x (Some b) = go (are_equal (clock_of domains b) (clock_of domains x))
  where
    go : (t : Bool) → cond t (cycles_of cs b - 1) (settle_at domains (clock_of domains x)) < 4
    go true = let l = cycles-lt cs b in omega arith
    go false = settle-lt domains fit.settles (clock_of domains x)

-- a copy takes what the bit that it copies has, flipped or not
copy-takes : (net : Net) (words : List ℕ) (bs : List Bit) (x b : Bit) → same [] (next_tree net x.sig) x.at ≡ Some b → next_with net words bs x ≡ flipped (has_bit bs) (reading_of words) b
copy-takes net words bs x b e =
    subst (λ (o : Option Bit). IsBit (flipped (has_bit bs) (reading_of words)) o (next_with net words bs x)) e (same_sound [] (flipped (has_bit bs) (reading_of words)) tt (next_tree net x.sig) x.at)

module _ (net : Net) (domains : Domains) (words : List ℕ) (cycles : List Cycles) (k : RecordStep) (runs : HasCells net) (fit : Fit net domains)
    (are : AreWordsOf net.graph.signals words) (are_cycles : length cycles ≡ length net.graph.signals) (rest : (b : Bit) → is_register_bit net b ≡ false → cycles_of cycles b ≡ 0)
    (fits : IsStepOf net domains k)
    (inputs_tick : first_fault (input_fault (design_of net domains) k) k.inputs ≡ None) (races_tick : first_fault (tick_fault (design_of net domains) k) k.races ≡ None)
    (copied : Bit → Option Bit) (copied_is : (x : Bit) → is_register_bit net x ≡ true → copied x ≡ same [] (next_tree net x.sig) x.at)
    (leads : (b : Bit) (r : Race) → race_of k.races b ≡ Some r → (stepped (design_of net domains) (state_of words cycles) k).values b ≡ next_with net words r.flip b)
    (others : first_fault (other_fault (design_of net domains) (state_of words cycles) (stepped (design_of net domains) (state_of words cycles) k).values) k.races ≡ None) where
  abbrev d-ticks : Bit → Bool
  d-ticks b = ticks (design_of net domains) (has_edge k.edges) b

  abbrev marks : List Bool
  marks = mark_in (replicate (length domains.clocks) false) k.edges

  abbrev needed : Bit → ℕ
  needed x = needed_by domains cycles x (copied x)

  -- what a race with other bits flips either way holds the bit that its bit copies
  lies-within : (bs : List Bit) (b : Bit) → All (λ b. is_within net b ≡ true) bs → has_bit bs b ≡ true → is_within net b ≡ true
  lies-within [] b all h = cc
  lies-within (a ∷ bs) b all h = go (bit_eq a b) refl h (lies-within bs b (All-tail (λ b. is_within net b ≡ true) a bs all))
    where
      go : (t : Bool) → bit_eq a b ≡ t → (t || has_bit bs b) ≡ true → (has_bit bs b ≡ true → is_within net b ≡ true) → is_within net b ≡ true
      go true e h ih = subst (λ (x : Bit). is_within net x ≡ true) (bit_eq-true a b e) (All-head (λ b. is_within net b ≡ true) a bs all)
      go false e h ih = ih h

  source-within : (x b : Bit) (r : Race) (bs : List Bit) → race_of k.races x ≡ Some r → r.other ≡ Some bs → same [] (next_tree net x.sig) x.at ≡ Some b → is_within net b ≡ true
  source-within x b r bs e f copy = go (has_bit r.flip b) refl (has_bit bs b) refl
    where
      p : (i : ℕ) × (i < length k.races) × (slice_get k.races i ≡ Some r) × (r.bit ≡ x)
      p = race-found net domains words cycles k runs fit are fits inputs_tick races_tick k.races x r e

      race : IsRace net r
      race = at-place (λ (r : Race). IsRace net r) k.races p.0 r p.2 fits.races

      fault : on_list (Some bs) (λ bs. unless (not (beq (next_with net words bs r.bit) ((stepped (design_of net domains) (state_of words cycles) k).values r.bit))) (NotOther r.bit)) ≡ None
      fault = subst (λ (o : Option (List Bit)). on_list o (λ bs. unless (not (beq (next_with net words bs r.bit) ((stepped (design_of net domains) (state_of words cycles) k).values r.bit))) (NotOther r.bit)) ≡ None) f
          (each-at (other_fault (design_of net domains) (state_of words cycles) (stepped (design_of net domains) (state_of words cycles) k).values) k.races p.0 r p.2 others)

      differ-at : next_with net words bs x ≢ next_with net words r.flip x
      differ-at g = beq_differ _ _ (passed _ (NotOther r.bit) fault) (ap (next_with net words bs) p.3 ∙ g ∙ sym (leads x r e) ∙ ap (stepped (design_of net domains) (state_of words cycles) k).values (sym p.3))

      go : (t : Bool) → has_bit r.flip b ≡ t → (u : Bool) → has_bit bs b ≡ u → is_within net b ≡ true
      go true g u h = lies-within r.flip b race.flips g
      go false g true h = lies-within bs b (race.others bs f) h
      go false g false h = absurd (differ-at
          (copy-takes net words bs x b copy ∙ ap (λ t. cond t (not (reading_of words b)) (reading_of words b)) (h ∙ sym g) ∙ sym (copy-takes net words r.flip x b copy)))

  -- a racing bit with other bits needs the model's cycles
  needed-is : (x : Bit) (r : Race) → race_of k.races x ≡ Some r → is_some r.other ≡ true → needed x ≡ left_by (design_of net domains) (state_of words cycles) x ((design_of net domains).copied x)
  needed-is x r e h = ap (needed_by domains cycles x) (copied_is x register) ∙ go (same [] (next_tree net x.sig) x.at) refl r.other refl h
    where
      register : is_register_bit net x ≡ true
      register = race-register net domains words cycles k runs fit are fits inputs_tick races_tick x r e

      within : is_within net x ≡ true
      within = (and_parts (is_some (next_cell net.regs x.sig)) (is_within net x) register).1

      own : clock_of domains x ≡ clock_of_bit net domains x
      own = sym (ap (λ t. cond t (clock_of domains x) None) within)

      go : (o : Option Bit) → same [] (next_tree net x.sig) x.at ≡ o → (q : Option (List Bit)) → r.other ≡ q → is_some q ≡ true
          → needed_by domains cycles x o ≡ left_by (design_of net domains) (state_of words cycles) x o
      go None f q g i = ap (settle_at domains) own
      go (Some b) f None g i = cc
      go (Some b) f (Some bs) g i =
          ap₂ (λ o p. cond (are_equal o p) (cycles_of cycles b - 1) (settle_at domains p)) (sym (ap (λ t. cond t (clock_of domains b) None) (source-within x b r bs e g f))) own

  settled-count : (at : ℕ) → count_at settled at ≡ 0
  settled-count at = ap₂ (λ v w. digit v + 2 * digit w) (bit-zero at) (bit-zero at)

  at-settled : (b : Bit) (u : Bool) (o : Option CellId) → count_at (settled-at u o (cycles_at cycles b.sig)) b.at ≡ cond (is_some o && u) 0 (cycles_of cycles b)
  at-settled b u None = refl
  at-settled b true (Some c) = settled-count b.at
  at-settled b false (Some c) = refl

  -- without a race
  alone : (b : Bit) → cycles_of (settle domains marks net.regs cycles) b ≡ cond (is_some (next_cell net.regs b.sig) && register_ticks domains marks b.sig) 0 (cycles_of cycles b)
  alone b = ap (λ c. count_at c b.at) (settle-at domains marks net.regs cycles b.sig) ∙ at-settled b (register_ticks domains marks b.sig) (next_cell net.regs b.sig)

  -- the cycles after the step are the model's
  pub settled-bit : (b : Bit) → cycles_of (tried_cycles domains copied marks net.regs k.races cycles) b ≡ (stepped (design_of net domains) (state_of words cycles) k).left b
  settled-bit b =
      unsettle-of needed k.races (settle domains marks net.regs cycles) b
      (places net domains words cycles k runs fit are fits inputs_tick races_tick _ (settle-length domains marks net.regs cycles ∙ are_cycles)) fits.one_each (λ x. needed-lt net domains fit cycles x (copied x))
      ∙ go (is_register_bit net b) refl (race_of k.races b) refl
    where
      -- the model's number of a register bit, by its race
      model : (q : Option Race) → is_register_bit net b ≡ true → race_of k.races b ≡ q
          → (stepped (design_of net domains) (state_of words cycles) k).left b
          ≡ cond (d-ticks b) (cond (is_some (other_of q)) (left_by (design_of net domains) (state_of words cycles) b ((design_of net domains).copied b)) 0) (cycles_of cycles b)
      model q h f =
          ap (λ t. cond t (cond (d-ticks b) (next_left (design_of net domains) (state_of words cycles) k b) (cycles_of cycles b)) 0) h
          ∙ ap (λ q. cond (d-ticks b) (cond (is_some (other_of q)) (left_by (design_of net domains) (state_of words cycles) b ((design_of net domains).copied b)) 0) (cycles_of cycles b)) f

      parts : is_register_bit net b ≡ true → (is_some (next_cell net.regs b.sig) ≡ true) × (is_within net b ≡ true)
      parts h = and_parts (is_some (next_cell net.regs b.sig)) (is_within net b) h

      here : is_register_bit net b ≡ true → cycles_of (settle domains marks net.regs cycles) b ≡ cond (d-ticks b) 0 (cycles_of cycles b)
      here h = alone b ∙ ap₂ (λ v w. cond (v && w) 0 (cycles_of cycles b)) (parts h).0 (marked-is net domains words cycles k runs fit are fits inputs_tick races_tick b (parts h).1)

      zero-either : (t : Bool) (n : ℕ) → n ≡ 0 → cond t 0 n ≡ 0
      zero-either true n e = refl
      zero-either false n e = e

      raced-number : (r : Race) (t : Bool) → is_some r.other ≡ t → race_of k.races b ≡ Some r
          → cond t (needed b) 0 ≡ cond t (left_by (design_of net domains) (state_of words cycles) b ((design_of net domains).copied b)) 0
      raced-number r true g f = needed-is b r f g
      raced-number r false g f = refl

      go : (t : Bool) → is_register_bit net b ≡ t → (q : Option Race) → race_of k.races b ≡ q
          → unsettled-by needed b (cycles_of (settle domains marks net.regs cycles) b) q ≡ (stepped (design_of net domains) (state_of words cycles) k).left b
      go true h None f = here h ∙ sym (model None h f)
      go true h (Some r) f =
          let now = race-ticks net domains words cycles k runs fit are fits inputs_tick races_tick b r f in
          ap (cond (is_some r.other) (needed b)) (here h ∙ ap (λ t. cond t 0 (cycles_of cycles b)) now)
          ∙ raced-number r (is_some r.other) refl f
          ∙ sym (model (Some r) h f ∙ ap (λ t. cond t (cond (is_some r.other) (left_by (design_of net domains) (state_of words cycles) b ((design_of net domains).copied b)) 0) (cycles_of cycles b)) now)
      go false h None f =
          alone b ∙ zero-either (is_some (next_cell net.regs b.sig) && register_ticks domains marks b.sig) (cycles_of cycles b) (rest b h)
          ∙ sym (ap (λ t. cond t (cond (d-ticks b) (next_left (design_of net domains) (state_of words cycles) k b) (cycles_of cycles b)) 0) h)
      go false h (Some r) f = absurd (both_ways (is_register_bit net b) h (race-register net domains words cycles k runs fit are fits inputs_tick races_tick b r f))
