-- Lines of records, read back.
use Rattle.std.proofs.Common.{◌≡◌, ◌≢◌, ◌∙◌, ℕ, suc, ◌<◌, ◌≤◌, ◌^◌, Bool, true, List, [], ◌∷◌, map, length, Option, Some, None, Result, Ok, Err, inl, inr, is_some, Ordering, Less, Equal, Greater, refl, sym, ap, subst, arith, rules}
use Rattle.std.specs.Prelude.{IsUtf8, codes, slice_get}
use Rattle.std.specs.List.{AllByRecursion}
use Rattle.std.specs.Option.{option_map_or}
use Rattle.std.specs.Ordering.{is_lt, nat_cmp}
use Rattle.std.specs.Cmp.{IsStrictWeakOrder, IsTotalOrder}
use Rattle.std.specs.Cmp.Rules.{comparing}
use Rattle.std.specs.Cmp.Lexicographic.{slice_cmp}
use Rattle.std.proofs.lemmas.Bool.{and_parts, both_ways}
use Rattle.std.proofs.lemmas.List.Sorted.{ranks_by}
use Rattle.std.proofs.Math.Pow.{pow_mono}
use Rattle.json.specs.Json as json
use Rattle.json.specs.Json.{Json}
use Rattle.json.proofs.Printed.Utf8.{IsUtf8-are_ascii}
use Rattle.serde_json.specs.Data.{Data, number, string, array, object, unsigned, member}
use Rattle.serde_json.specs.View.{items_of}
use Rattle.cdc_base.specs.declared.bit.Bit.{Bit}
use Rattle.cdc_base.specs.declared.fault.Fault.{Fault}
use Rattle.cdc_base.specs.declared.signal.Signal.{Signal}
use Rattle.cell_graph.specs.declared.net.Net.{Net}
use Rattle.clock_constraints.specs.Refusals.{Text, ◌>>=◌}
use Rattle.domains.specs.declared.Domains.{Domains}
use Rattle.cdc_model.specs.declared.record.Given.{Given}
use Rattle.cdc_model.specs.declared.record.Race.{Race}
use Rattle.cdc_model.specs.declared.record.Record.{Record}
use Rattle.cdc_model.specs.declared.record.RecordStep.{RecordStep}
use Rattle.cdc_model.specs.Nets.{bit_count, is_within, next_cell}
use Rattle.cdc_model.specs.Replay.{has_edge}
use Rattle.settling_sim.specs.Runs.{HasCells, IsInput}
use Rattle.settling_sim.specs.State.{has_kind, is_input}
use Rattle.report.specs.Names.{bit_of}
use Rattle.report.specs.VerdictJson.{count_value, list_value, object_of, texts_value}
use Rattle.run_file.specs.declared.document.RaceEntry.{RaceEntry}
use Rattle.run_file.specs.declared.document.StepEntry.{StepEntry}
use Rattle.run_file.specs.Files.{IsBroken, IsMeaning, IsTree, named, record_of}
use Rattle.campaign.specs.Lines.{bit_order, bits_value, clock_name, input_entry, line_of, race_value, step_value}
use Rattle.campaign.specs.Names.{name_of}
use Rattle.campaign.specs.Numbers.{numbers_from}
use Rattle.campaign.proofs.Passing.{each-weaker}
use Rattle.campaign_records.specs.Laws.{AreFound}
use Rattle.campaign_records.proofs.Lines.{reads-back}
use Rattle.campaign_records.proofs.Named.{IsNamedStep, IsStateBit, IsStateRace, entry_of, kind-there, names-differ, race_of, step_of, steps-named}
use Rattle.campaign_records.proofs.Orders.{Rises}
use Rattle.campaign_records.proofs.ReadValues.{Reads, Rises as KeysRise, array-reads, count-reads, fields, object-reads, order, text-reads}
use Rattle.campaign_records.proofs.Shaped.{Differ, document-shaped, numbers_data, race_data, step_data, steps_data, texts_data}

-- an input comes before another by name, and a race by its bit
abbrev pub input-before : Net → Given → Given → Bool
input-before net g h = is_lt (slice_cmp nat_cmp (name_of net.graph.signals g.sig) (name_of net.graph.signals h.sig))

abbrev pub race-before : Race → Race → Bool
race-before r q = is_lt (bit_order r.bit q.bit)

-- a step of which all names are found again, with its clocks, inputs and races in their orders
pub record IsWritten (net : Net) (domains : Domains) (k : RecordStep) : Type 0 where
  pub named : IsNamedStep net domains k
  pub edges : numbers_from (has_edge k.edges) 0 (length domains.clocks) ≡ k.edges
  pub inputs : Rises (input-before net) k.inputs
  pub races : Rises race-before k.races

bits-total : IsTotalOrder bit_order
bits-total = search (comparing, rules) depth 12

-- bits are ranked by their order
pub bits-rank : IsStrictWeakOrder (λ (a b : Bit). is_lt (bit_order a b))
bits-rank = ranks_by bits-total (λ (b : Bit). b)

pub races-rank : IsStrictWeakOrder race-before
races-rank = ranks_by bits-total (λ (r : Race). r.bit)

map-twice : {A B C : Type 0} (f : A → B) (g : B → C) (xs : List A) → map (λ x. g (f x)) xs ≡ map g (map f xs)
map-twice f g [] = refl
map-twice f g (x ∷ xs) = ap (λ ys. g (f x) ∷ ys) (map-twice f g xs)

less-is : (k l : Text) → is_lt (order k l) ≡ true → order k l ≡ Less
less-is k l = go (order k l)
  where
    go : (o : Ordering) → is_lt o ≡ true → o ≡ Less
    go Less e = refl
    go Equal e = cc
    go Greater e = cc

-- a member of a written object: its key, its value and what this is read as
abbrev Field : Type 0
Field = Text × Json × Data

abbrev key_of : Field → Text
key_of p = p.0

abbrev value_of : Field → Json
value_of p = p.1

abbrev data_of : Field → Data
data_of p = p.2

module _ (net : Net) (domains : Domains) (cells : HasCells net) (found : AreFound net domains) where
  abbrev signals : List Signal
  signals = net.graph.signals

  abbrev racing : Race → RaceEntry
  racing = race_of net domains cells found

  abbrev stepping : RecordStep → StepEntry
  stepping = step_of net domains cells found

  texts-read : (n : ℕ) (ts : List Text) → AllByRecursion IsUtf8 ts → Reads (suc n) (texts_value ts) (texts_data ts)
  texts-read n ts h = array-reads n json.string string ts (each-weaker IsUtf8 (λ t. Reads n (json.string t) (string t)) (text-reads n) ts h)

  bit-texts : (bs : List Bit) → AllByRecursion (IsStateBit net domains) bs → AllByRecursion IsUtf8 (map (bit_of signals) bs)
  bit-texts [] h = tt
  bit-texts (b ∷ bs) h = ((found.bits b h.0.within).0, bit-texts bs h.1)

  clock-texts : (cs : List ℕ) → AllByRecursion (λ (c : ℕ). c < length domains.clocks) cs → AllByRecursion IsUtf8 (map (clock_name domains) cs)
  clock-texts [] h = tt
  clock-texts (c ∷ cs) h = ((found.clocks c h.0).0, clock-texts cs h.1)

  bits-read : (bs : List Bit) → AllByRecursion (IsStateBit net domains) bs → Reads 1 (bits_value signals bs) (texts_data (map (bit_of signals) bs))
  bits-read bs h = texts-read 0 (map (bit_of signals) bs) (bit-texts bs h)

  race-reads : (r : Race) → IsStateRace net domains r → Reads 2 (race_value signals r) (race_data (racing r))
  race-reads r h = go r.other h.others
    where
      bit-field : Field
      bit-field = (codes "bit", json.string (bit_of signals r.bit), string (bit_of signals r.bit))

      flip-field : Field
      flip-field = (codes "flip", bits_value signals r.flip, texts_data (map (bit_of signals) r.flip))

      else-field : List Bit → Field
      else-field bs = (codes "else", bits_value signals bs, texts_data (map (bit_of signals) bs))

      bit-reads : IsUtf8 (codes "bit") × Reads 1 (json.string (bit_of signals r.bit)) (string (bit_of signals r.bit))
      bit-reads = (IsUtf8-are_ascii (codes "bit") refl, text-reads 1 (bit_of signals r.bit) (found.bits r.bit (and_parts (is_some (next_cell net.regs r.bit.sig)) (is_within net r.bit) h.register).1).0)

      flip-reads : IsUtf8 (codes "flip") × Reads 1 (bits_value signals r.flip) (texts_data (map (bit_of signals) r.flip))
      flip-reads = (IsUtf8-are_ascii (codes "flip") refl, bits-read r.flip h.flips)

      go : (o : Option (List Bit)) → ((bs : List Bit) → o ≡ Some bs → AllByRecursion (IsStateBit net domains) bs) → Reads 2 (race_value signals (record r { other = o })) (race_data (racing (record r { other = o })))
      go None others = object-reads key_of 1 value_of data_of (bit-field ∷ flip-field ∷ []) ((refl, tt), (tt, tt)) (bit-reads, (flip-reads, tt))
      go (Some bs) others = object-reads key_of 1 value_of data_of (bit-field ∷ else-field bs ∷ flip-field ∷ []) ((refl, (refl, tt)), ((refl, tt), (tt, tt)))
          (bit-reads, ((IsUtf8-are_ascii (codes "else") refl, bits-read bs (others bs refl)), (flip-reads, tt)))

  races-read : (rs : List Race) → AllByRecursion (IsStateRace net domains) rs → Reads 3 (list_value (map (race_value signals) rs)) (array (items_of (map race_data (map racing rs))))
  races-read rs h = subst (λ ds. Reads 3 (list_value (map (race_value signals) rs)) (array (items_of ds))) (map-twice racing race_data rs)
      (array-reads 2 (race_value signals) (λ r. race_data (racing r)) rs (each-weaker (IsStateRace net domains) (λ r. Reads 2 (race_value signals r) (race_data (racing r))) race-reads rs h))

  -- ---- inputs

  abbrev input-key : Given → Text
  input-key g = name_of signals g.sig

  abbrev input-data : Given → Data
  input-data g = number (unsigned g.value)

  keys-rise : (gs : List Given) → Rises (input-before net) gs → KeysRise input-key gs
  keys-rise [] h = tt
  keys-rise (g ∷ gs) h = (each-weaker (λ k. input-before net g k ≡ true) (λ k. order (input-key g) (input-key k) ≡ Less) (λ k e. less-is (input-key g) (input-key k) e) gs h.0, keys-rise gs h.1)

  word-wide : (w value : ℕ) → w ≤ 64 → value < 2 ^ w → value < 2 ^ 64
  word-wide w value le lt = let more : 2 ^ w ≤ 2 ^ 64 = pow_mono le in omega arith

  narrow : (sig : ℕ) → bit_count signals sig ≤ 64
  narrow sig = go (slice_get signals sig) refl
    where
      go : (o : Option Signal) → slice_get signals sig ≡ o → option_map_or (λ (s : Signal). s.width) (slice_get signals sig) 0 ≤ 64
      go None e = subst (λ (o : Option Signal). option_map_or (λ (s : Signal). s.width) o 0 ≤ 64) (sym e) (omega arith)
      go (Some s) e = subst (λ (o : Option Signal). option_map_or (λ (s : Signal). s.width) o 0 ≤ 64) (sym e) (cells.graph.signals sig s e).1

  input-reads : (g : Given) → IsInput net domains g → IsUtf8 (input-key g) × Reads 2 (count_value g.value) (input-data g)
  input-reads g h = (
    (found.signals g.sig (kind-there net is_input g.sig (and_parts (has_kind net is_input g.sig) _ h.clocked).0)).0,
    count-reads 2 g.value (word-wide (bit_count signals g.sig) g.value (narrow g.sig) h.fits),
  )

  numbers-same : (gs : List Given) → fields input-key 2 (λ g. count_value g.value) input-data gs ≡ numbers_data (map (entry_of net domains cells found) gs)
  numbers-same [] = refl
  numbers-same (g ∷ gs) = ap (member (input-key g) (input-data g)) (numbers-same gs)

  inputs-read : (gs : List Given) → AllByRecursion (IsInput net domains) gs → Rises (input-before net) gs
      → Reads 3 (object_of (map (input_entry signals) gs)) (object (numbers_data (map (entry_of net domains cells found) gs)))
  inputs-read gs h rise = subst (λ ms. Reads 3 (object_of (map (input_entry signals) gs)) (object ms)) (numbers-same gs)
      (object-reads input-key 2 (λ g. count_value g.value) input-data gs (keys-rise gs rise)
      (each-weaker (IsInput net domains) (λ g. IsUtf8 (input-key g) × Reads 2 (count_value g.value) (input-data g)) input-reads gs h))

  -- ---- steps

  step-reads : (k : RecordStep) → IsWritten net domains k → Reads 4 (step_value net domains k) (step_data (stepping k))
  step-reads k h = object-reads key_of 3 value_of data_of (edges-field ∷ inputs-field ∷ races-field ∷ []) ((refl, (refl, tt)), ((refl, tt), (tt, tt))) (
    (IsUtf8-are_ascii (codes "edges") refl, texts-read 2 (map (clock_name domains) k.edges) (clock-texts k.edges h.named.edges)),
    (
      (IsUtf8-are_ascii (codes "inputs") refl, inputs-read k.inputs h.named.inputs h.inputs),
      ((IsUtf8-are_ascii (codes "races") refl, races-read k.races h.named.races), tt),
    ),
  )
    where
      edges-field : Field
      edges-field = (codes "edges", texts_value (map (clock_name domains) k.edges), texts_data (map (clock_name domains) k.edges))

      inputs-field : Field
      inputs-field = (codes "inputs", object_of (map (input_entry signals) k.inputs), object (numbers_data (map (entry_of net domains cells found) k.inputs)))

      races-field : Field
      races-field = (codes "races", list_value (map (race_value signals) k.races), array (items_of (map race_data (map racing k.races))))

  steps-read : (ks : List RecordStep) → AllByRecursion (IsWritten net domains) ks → Reads 5 (list_value (map (step_value net domains) ks)) (array (items_of (map step_data (map stepping ks))))
  steps-read ks h = subst (λ ds. Reads 5 (list_value (map (step_value net domains) ks)) (array (items_of ds))) (map-twice stepping step_data ks)
      (array-reads 4 (step_value net domains) (λ k. step_data (stepping k)) ks (each-weaker (IsWritten net domains) (λ k. Reads 4 (step_value net domains k) (step_data (stepping k))) step-reads ks h))

  record-reads : (ks : List RecordStep) → AllByRecursion (IsWritten net domains) ks
      → Reads 6 (object_of ((codes "steps", list_value (map (step_value net domains) ks)) ∷ [])) (steps_data (map stepping ks))
  record-reads ks h = object-reads key_of 5 value_of data_of (steps-field ∷ []) (tt, tt) ((IsUtf8-are_ascii (codes "steps") refl, steps-read ks h), tt)
    where
      steps-field : Field
      steps-field = (codes "steps", list_value (map (step_value net domains) ks), array (items_of (map step_data (map stepping ks))))

  line-tree : (ks : List RecordStep) → AllByRecursion (IsWritten net domains) ks → IsTree (line_of net domains ks) (steps_data (map stepping ks))
  line-tree ks h =
      let all = record-reads ks h in
      reads-back (object_of ((codes "steps", list_value (map (step_value net domains) ks)) ∷ [])) (steps_data (map stepping ks)) all.numbers all.texts (let l = all.shallow in omega arith) all.is

  -- ---- bits of races

  race-within : (r : Race) → IsStateRace net domains r → is_within net r.bit ≡ true
  race-within r h = (and_parts (is_some (next_cell net.regs r.bit.sig)) (is_within net r.bit) h.register).1

  bits-apart : (a b : Bit) → is_lt (bit_order a b) ≡ true → a ≢ b
  bits-apart a b e same = both_ways (is_lt (bit_order b b)) (bits-rank.one_way b b yes) yes
    where
      yes : is_lt (bit_order b b) ≡ true
      yes = subst (λ (x : Bit). is_lt (bit_order x b) ≡ true) same e

  names-far : (r : Race) (rs : List Race) → IsStateRace net domains r → AllByRecursion (IsStateRace net domains) rs → AllByRecursion (λ q. race-before r q ≡ true) rs
      → AllByRecursion (λ t. bit_of signals r.bit ≢ t) (map (λ (e : RaceEntry). e.bit) (map racing rs))
  names-far r [] h all rise = tt
  names-far r (q ∷ rs) h all rise = (names-differ net domains cells found r.bit q.bit (race-within r h) (race-within q all.0) (bits-apart r.bit q.bit rise.0), names-far r rs h all.1 rise.1)

  bits-differ : (rs : List Race) → AllByRecursion (IsStateRace net domains) rs → Rises race-before rs → Differ (map (λ (e : RaceEntry). e.bit) (map racing rs))
  bits-differ [] all rise = tt
  bits-differ (r ∷ rs) all rise = (names-far r rs all.0 all.1 rise.0, bits-differ rs all.1 rise.1)

  steps-differ : (ks : List RecordStep) → AllByRecursion (IsWritten net domains) ks → AllByRecursion (λ (s : StepEntry). Differ (map (λ (e : RaceEntry). e.bit) s.races)) (map stepping ks)
  steps-differ [] h = tt
  steps-differ (k ∷ ks) h = (bits-differ k.races h.0.named.races h.0.races, steps-differ ks h.1)

  -- ---- the line

  pub line-means : (ks : List RecordStep) → length ks ≤ 100000 → AllByRecursion (IsWritten net domains) ks → IsMeaning net domains (line_of net domains ks) (record { start = []; steps = ks })
  line-means ks few h = (
    steps_data (map stepping ks),
    line-tree ks h,
    ap (λ r. r >>= named net domains) (document-shaped (map stepping ks) (steps-differ ks h))
        ∙ steps-named net domains cells found ks few (each-weaker (IsWritten net domains) (IsNamedStep net domains) (λ k w. w.named) ks h),
  )

-- ---- a text has one meaning

one-tree : (bytes : List ℕ) (d e : Data) → IsTree bytes d → IsTree bytes e → d ≡ e
one-tree bytes d e h k = one (sym h.1 ∙ k.1)
  where
    one : Some d ≡ Some e → d ≡ e
    one f = cc

abbrev read_as : Record → Result Record Fault
read_as r = Ok r

one-record : (q r : Record) → read_as q ≡ read_as r → q ≡ r
one-record q r e = cc

pub one-meaning : (net : Net) (domains : Domains) (bytes : List ℕ) (r q : Record) → IsMeaning net domains bytes r → IsMeaning net domains bytes q → q ≡ r
one-meaning net domains bytes r q (d, tree, means) (e, other, says) = one-record q r (sym says ∙ ap (record_of net domains) (one-tree bytes e d other tree) ∙ means)

pub no-fault : (net : Net) (domains : Domains) (bytes : List ℕ) (r : Record) (f : Fault) → IsMeaning net domains bytes r → IsBroken net domains bytes f → ⊥
no-fault net domains bytes r f (d, tree, means) (inl none) = none.1 d tree
no-fault net domains bytes r f (d, tree, means) (inr (e, other, says)) = both (sym means ∙ ap (record_of net domains) (one-tree bytes d e tree other) ∙ says)
  where
    both : Ok r ≡ Err f → ⊥
    both g = cc
