-- The first moment is the one that the model opens.
use Rattle.std.proofs.Common.{◌≡◌, ◌≢◌, ◌∙◌, ℕ, zero, suc, ◌+◌, ◌*◌, ◌<◌, ◌≤◌, ◌^◌, ◌/◌, ◌%◌, ◌==◌, Bool, true, false, cond, ◌&&◌, ◌||◌, List, [], ◌∷◌, length, get_or, replicate, Option, Some, None, ◌⊎◌, inl, inr, refl, sym, ap, subst, arith, eqb-true, ltb-true}
use Rattle.std.specs.Prelude.{slice_get, All, bit_and, if◌then◌else◌, option_and_then}
use Rattle.std.specs.Option.{option_map_or}
use Rattle.std.specs.List.{list_any}
use Rattle.std.proofs.lemmas.List.Elements.{All-head, All-tail}
use Rattle.std.proofs.lemmas.Nat.{and_le_r}
use Rattle.std.proofs.lemmas.Option.{slice_get_within}
use Rattle.cdc_base.specs.declared.bit.Bit.{Bit}
use Rattle.cdc_base.specs.declared.signal.Signal.{Signal}
use Rattle.cdc_base.specs.declared.signal.SigKind.{SigKind}
use Rattle.clock_constraints.specs.declared.ClockPin.{ClockPin}
use Rattle.cell_graph.specs.declared.net.Net.{Net}
use Rattle.cell_graph.specs.Tree.{bit_at}
use Rattle.cell_graph.specs.Values.{AreWordsOf, word_at, reading_of}
use Rattle.cell_graph.proofs.Words.{bit_and-bit, bit-zero}
use Rattle.domains.specs.declared.Domains.{Domains}
use Rattle.domains.specs.Assignment.{clock_of}
use Rattle.domains.specs.Fit.{Fit, IsStill}
use Rattle.domains.specs.Nets.{is_register}
use Rattle.cdc_model.specs.declared.record.Given.{Given}
use Rattle.cdc_model.specs.Nets.{bit_count, clock_of_bit, design_of, is_within, next_tree, start_of, trees_of}
use Rattle.cdc_model.specs.Replay.{given_to, known_or}
use Rattle.cdc_model.proofs.Net.{trees_are}
use Rattle.cdc_model.proofs.NetDesign.{cond_some, net_is_finite}
use Rattle.cdc_model.proofs.Recorded.{run_recorded}
use Rattle.settling_sim.specs.declared.cycles.Cycles.{Cycles}
use Rattle.settling_sim.specs.Cycles.{settled, digit, count_at, cycles_at, cycles_of}
use Rattle.settling_sim.specs.Opened.{CanOpen, IsStart, AreStarts, IsOpened, HaveRecords}
use Rattle.settling_sim.specs.Present.{Present, CanStep}
use Rattle.settling_sim.specs.Starts.{HasStarts, start_word, start_words}
use Rattle.settling_sim.specs.State.{has_kind, is_input, is_clocked_input, is_static, is_state_signal}
use Rattle.settling_sim.specs.Trial.{take_given}
use Rattle.settling_sim.proofs.Fits.{set-words}
use Rattle.settling_sim.proofs.Stepped.{at-place}
use Rattle.settling_sim.proofs.Trials.{given-reading, HasSignal}

-- ---- all bits are settled

settled-at : (n sig : ℕ) → cycles_at (replicate n settled) sig ≡ settled
settled-at zero sig = refl
settled-at (suc n) zero = refl
settled-at (suc n) (suc sig) = settled-at n sig

all-settled : (n : ℕ) (b : Bit) → cycles_of (replicate n settled) b ≡ 0
all-settled n b = ap (λ (c : Cycles). count_at c b.at) (settled-at n b.sig) ∙ ap (λ t. digit t + 2 * digit t) (bit-zero b.at)

-- ---- state signals are signals

or-cases : (a b : Bool) → (a || b) ≡ true → (a ≡ true) ⊎ (b ≡ true)
or-cases true b h = inl refl
or-cases false b h = inr h

kind-there : (net : Net) (test : SigKind → Bool) (sig : ℕ) → has_kind net test sig ≡ true → sig < length net.graph.signals
kind-there net test sig = go (slice_get net.graph.signals sig) refl
  where
    go : (o : Option Signal) → slice_get net.graph.signals sig ≡ o → option_map_or (λ (s : Signal). test s.kind) o false ≡ true → sig < length net.graph.signals
    go None e h = cc
    go (Some s) e h = slice_get_within net.graph.signals sig s e

still-there : (net : Net) (domains : Domains) (xs : List ℕ) (sig : ℕ) → All (IsStill net domains) xs → list_any (λ s. s == sig) xs ≡ true → sig < length net.graph.signals
still-there net domains [] sig all h = cc
still-there net domains (x ∷ xs) sig all h = go (x == sig) refl h (still-there net domains xs sig (All-tail (IsStill net domains) x xs all))
  where
    go : (t : Bool) → (x == sig) ≡ t → (t || list_any (λ s. s == sig) xs) ≡ true → (list_any (λ s. s == sig) xs ≡ true → sig < length net.graph.signals) → sig < length net.graph.signals
    go true e h rest =
        let still = All-head (IsStill net domains) x xs all in
        subst (λ (i : ℕ). i < length net.graph.signals) (eqb-true x sig e) (slice_get_within net.graph.signals x still.0 still.1)
    go false e h rest = rest h

and-first : (a b : Bool) → (a && b) ≡ true → a ≡ true
and-first true b h = refl
and-first false b h = cc

state-there : (net : Net) (domains : Domains) (sig : ℕ) → Fit net domains → is_state_signal net domains sig ≡ true → sig < length net.graph.signals
state-there net domains sig fit h = elim (or-cases (has_kind net is_register sig || is_clocked_input net domains sig) (is_static domains sig) h) [
  | inl k ↦ elim (or-cases (has_kind net is_register sig) (is_clocked_input net domains sig) k) [
    | inl r ↦ kind-there net is_register sig r
    | inr i ↦ kind-there net is_input sig (and-first (has_kind net is_input sig) _ i)
  ]
  | inr s ↦ still-there net domains domains.statics sig fit.statics s
]

-- ---- the words of the known start bits

word-start : (net : Net) (domains : Domains) (k : ℕ) (ss : List Signal) (i : ℕ)
    → word_at (start_words net domains k ss) i ≡ option_map_or (start_word net domains (k + i)) (slice_get ss i) 0
word-start net domains k [] i = refl
word-start net domains k (s ∷ ss) zero = ap (λ n. start_word net domains n s) (let e : k ≡ k + 0 = omega arith in e)
word-start net domains k (s ∷ ss) (suc i) =
    word-start net domains (k + 1) ss i ∙ ap (λ n. option_map_or (start_word net domains n) (slice_get ss i) 0) (let e : k + 1 + i ≡ k + suc i = omega arith in e)

start-length : (net : Net) (domains : Domains) (k : ℕ) (ss : List Signal) → length (start_words net domains k ss) ≡ length ss
start-length net domains k [] = refl
start-length net domains k (s ∷ ss) = ap suc (start-length net domains (k + 1) ss)

-- a bit that isn't known counts as 0
known-bit : (k v : Bool) → (v && k) ≡ known_or (cond k (Some v) None) false
known-bit true true = refl
known-bit true false = refl
known-bit false true = refl
known-bit false false = refl

module _ (net : Net) (domains : Domains) (starts : HasStarts net domains) where
  word-first : (sig : ℕ) → word_at (start_words net domains 0 net.graph.signals) sig ≡ option_map_or (start_word net domains sig) (slice_get net.graph.signals sig) 0
  word-first sig =
      word-start net domains 0 net.graph.signals sig
      ∙ ap (λ n. option_map_or (start_word net domains n) (slice_get net.graph.signals sig) 0) (let e : 0 + sig ≡ sig = omega arith in e)

  first-value : (b : Bit) → reading_of (start_words net domains 0 net.graph.signals) b ≡ known_or (start_of net.graph.signals b) false
  first-value b = ap (λ n. bit_at n b.at) (word-first b.sig) ∙ go (slice_get net.graph.signals b.sig) refl
    where
      by-state : (s : Signal) → slice_get net.graph.signals b.sig ≡ Some s → (t : Bool) → is_state_signal net domains b.sig ≡ t
          → bit_at (if t then bit_and s.start s.known else 0) b.at ≡ known_or (cond (bit_at s.known b.at) (Some (bit_at s.start b.at)) None) false
      by-state s e true f = bit_and-bit s.start s.known b.at ∙ known-bit (bit_at s.known b.at) (bit_at s.start b.at)
      by-state s e false f =
          bit-zero b.at
          ∙ sym (ap (λ t. known_or (cond t (Some (bit_at s.start b.at)) None) false) (ap (λ k. bit_at k b.at) (starts.states b.sig s e f) ∙ bit-zero b.at))

      go : (o : Option Signal) → slice_get net.graph.signals b.sig ≡ o
          → bit_at (option_map_or (start_word net domains b.sig) o 0) b.at
          ≡ known_or (option_and_then (λ (s : Signal). cond (bit_at s.known b.at) (Some (bit_at s.start b.at)) None) o) false
      go None e = bit-zero b.at
      go (Some s) e = by-state s e (is_state_signal net domains b.sig) refl

  first-words : AreWordsOf net.graph.signals (start_words net domains 0 net.graph.signals)
  first-words = record {
    counted = start-length net domains 0 net.graph.signals;
    fit = λ sig s e.
        subst (λ (n : ℕ). n < 2 ^ s.width) (sym (word-first sig ∙ ap (λ o. option_map_or (start_word net domains sig) o 0) e))
        (small sig s e (is_state_signal net domains sig));
  }
    where
      small : (sig : ℕ) (s : Signal) → slice_get net.graph.signals sig ≡ Some s → (t : Bool) → (if t then bit_and s.start s.known else 0) < 2 ^ s.width
      small sig s e true = let less = and_le_r s.start s.known in let known = starts.within sig s e in omega arith
      small sig s e false = let known = starts.within sig s e in omega arith

-- ---- given values

-- a value that all given values of the bit agree with
agreed : (gs : List Given) (b : Bit) (v : Bool) → All (λ (g : Given). g.sig ≡ b.sig → bit_at g.value b.at ≡ v) gs → given_to gs b v ≡ v
agreed [] b v h = refl
agreed (g ∷ gs) b v h = go (g.sig == b.sig) refl (agreed gs b v (All-tail (λ (g : Given). g.sig ≡ b.sig → bit_at g.value b.at ≡ v) g gs h))
  where
    go : (t : Bool) → (g.sig == b.sig) ≡ t → given_to gs b v ≡ v → cond t ((g.value / 2 ^ b.at) % 2 == 1) (given_to gs b v) ≡ v
    go true e rest = All-head (λ (g : Given). g.sig ≡ b.sig → bit_at g.value b.at ≡ v) g gs h (eqb-true g.sig b.sig e)
    go false e rest = rest

fitting-words : (net : Net) (gs : List Given) (words : List ℕ) → AreWordsOf net.graph.signals words → All (λ (g : Given). g.value < 2 ^ bit_count net.graph.signals g.sig) gs
    → AreWordsOf net.graph.signals (take_given gs words)
fitting-words net [] words are all = are
fitting-words net (g ∷ gs) words are all =
    fitting-words net gs _ (set-words net words g.sig g.value are (All-head (λ (g : Given). g.value < 2 ^ bit_count net.graph.signals g.sig) g gs all))
    (All-tail (λ (g : Given). g.value < 2 ^ bit_count net.graph.signals g.sig) g gs all)

-- ---- the first moment

module _ (net : Net) (domains : Domains) (start : List Given) (can : CanOpen net domains) (all : AreStarts net domains start) where
  places : All (HasSignal (length (start_words net domains 0 net.graph.signals))) start
  places = λ i d l. let there = state-there net domains (get_or start i d).sig can.fit (all.each i d l).state in
      subst (λ (n : ℕ). (get_or start i d).sig < n) (sym (start-length net domains 0 net.graph.signals)) there

  opened-value : (b : Bit) → reading_of (take_given start (start_words net domains 0 net.graph.signals)) b ≡ known_or (start_of net.graph.signals b) (given_to start b false)
  opened-value b =
      given-reading start (start_words net domains 0 net.graph.signals) b places all.once
      ∙ ap (given_to start b) (first-value net domains can.starts b)
      ∙ go (start_of net.graph.signals b) refl
    where
      go : (o : Option Bool) → start_of net.graph.signals b ≡ o → given_to start b (known_or o false) ≡ known_or o (given_to start b false)
      go None e = refl
      go (Some v) e = agreed start b v (λ i d l f. (all.each i d l).agrees b v (sym f) e)

  pub is-opened : IsOpened start (record { net = net; domains = domains; words = take_given start (start_words net domains 0 net.graph.signals); cycles = replicate (length net.graph.signals) settled })
  is-opened = record {
    state = (opened-value, all-settled (length net.graph.signals));
    can = record {
      cells = can.cells;
      fit = can.fit;
      words = fitting-words net start _ (first-words net domains can.starts) (λ i d l. (all.each i d l).fits);
      rest = λ b h. all-settled (length net.graph.signals) b;
    };
  }

  -- the same of a net, domains, words and cycles that are these
  pub opened-all : (n : Net) (d : Domains) (words : List ℕ) (cycles : List Cycles) → n ≡ net → d ≡ domains
      → words ≡ take_given start (start_words net domains 0 net.graph.signals) → cycles ≡ replicate (length net.graph.signals) settled
      → IsOpened start (record { net = n; domains = d; words = words; cycles = cycles })
  opened-all n d words cycles same_net same_domains same_words same_cycles =
      subst (λ (m : Net). IsOpened start (record { net = m; domains = d; words = words; cycles = cycles })) (sym same_net)
      (subst (λ (e : Domains). IsOpened start (record { net = net; domains = e; words = words; cycles = cycles })) (sym same_domains)
      (subst (λ (ws : List ℕ). IsOpened start (record { net = net; domains = domains; words = ws; cycles = cycles })) (sym same_words)
      (subst (λ (cs : List Cycles). IsOpened start (record { net = net; domains = domains; words = take_given start (start_words net domains 0 net.graph.signals); cycles = cs })) (sym same_cycles) is-opened)))

-- ---- records of runs

module _ (net : Net) (domains : Domains) (fit : Fit net domains) where
  settles : (c : ℕ) → (1 ≤ (design_of net domains).settle c) × ((design_of net domains).settle c ≤ 3)
  settles c = go (slice_get domains.clocks c) refl
    where
      go : (o : Option ClockPin) → slice_get domains.clocks c ≡ o → (1 ≤ option_map_or (λ (p : ClockPin). p.settle) o 1) × (option_map_or (λ (p : ClockPin). p.settle) o 1 ≤ 3)
      go None e = (omega arith, omega arith)
      go (Some p) e = at-place (λ (k : ClockPin). (1 ≤ k.settle) × (k.settle ≤ 3)) domains.clocks c p e fit.settles

  within : (b : Bit) (c : ℕ) → clock_of_bit net domains b ≡ Some c → b.at < bit_count net.graph.signals b.sig
  within b c h = ltb-true b.at (bit_count net.graph.signals b.sig) (cond_some (is_within net b) (clock_of domains b) c h).0

  pub have-records : (start : List Given) → HaveRecords (design_of net domains) start
  have-records start =
      run_recorded (design_of net domains) (trees_of (next_tree net) (λ b. false) (λ g. false))
      (trees_are (design_of net domains) (next_tree net) (λ b. false) (λ g. false) (record { next = λ r x reg. refl; copied = λ x reg. refl }) settles within (λ g h. cc))
      (net_is_finite net domains fit) start
