-- The lists of a plan are those of a campaign.
use Rattle.std.proofs.Common.{◌≡◌, ◌∙◌, ℕ, zero, suc, ◌-◌, ◌<◌, Bool, true, false, cond, not, ◌||◌, List, [], ◌∷◌, ◌++◌, map, length, replicate, get_or, Contains, Option, None, inl, inr, refl, sym, ap, ap₂, subst, arith, ltb-true}
use Rattle.std.specs.Prelude.{filter, All, is_some}
use Rattle.std.specs.List.{AllByRecursion}
use Rattle.std.proofs.Math.Path.{fun_ext}
use Rattle.std.proofs.lemmas.Bool.{and_parts}
use Rattle.std.proofs.lemmas.List.Elements.{Contains-get_or}
use Rattle.cdc_base.specs.declared.bit.Bit.{Bit}
use Rattle.cell_graph.specs.declared.net.Net.{Net}
use Rattle.cell_graph.specs.declared.cell.CellId.{CellId}
use Rattle.cell_graph.specs.Values.{AreWordsOf, reading_of}
use Rattle.cofactor.specs.Shown.{Shown}
use Rattle.domains.specs.declared.Domains.{Domains}
use Rattle.domains.specs.Assignment.{clock_of}
use Rattle.cdc_model.specs.declared.scheme.Crossing.{Crossing}
use Rattle.cdc_model.specs.declared.scheme.Sync.{Sync as SyncEntry}
use Rattle.cdc_model.specs.Design.{Design, settle_of}
use Rattle.cdc_model.specs.Found.{bits_read_by}
use Rattle.cdc_model.specs.Listed.{sync_entry}
use Rattle.cdc_model.specs.Nets.{bit_count, bits_of_registers, design_of, is_register_bit, is_within, net_trees, next_cell, settle_at}
use Rattle.cdc_model.specs.Schemes.{IsChain, Sync, Trees, flops, in_first, is_settling}
use Rattle.cdc_model.specs.Syncs.{syncs_of}
use Rattle.cdc_model.proofs.Ascending.{from_map, here, later, nothing_in, parts}
use Rattle.cdc_model.proofs.Synced.{syncs_are_all, unlisted}
use Rattle.settling_sim.specs.Design.{take_cells, copied_in, ShowsCopies}
use Rattle.settling_sim.proofs.Faults.{copied-is}
use Rattle.settling_sim.proofs.Opened.{is-opened}
use Rattle.settling_sim.proofs.Values.{place-of}
use Rattle.campaign.specs.Plan.{copies_among, copy_from, flops_of, is_watched, reads_among, reads_of, settles, watched_of}
use Rattle.campaign.specs.Planned.{HavePlaces, flops_in, is_settling_in, pair_if, watched_among, watched_in, watched_reads}
use Rattle.campaign.specs.Run.{CanRun}
use Rattle.campaign.proofs.Passing.{each-of}

-- copies among those that pass
flops-same : (d : Design) (copied : Bit → Option Bit) (p : Bit → Bool) (xs : List Bit) → ((x : Bit) → Contains xs x → copied x ≡ d.copied x) → flops_in copied p xs ≡ copies_among d (filter p xs)
flops-same d copied p [] h = refl
flops-same d copied p (x ∷ xs) h =
    ap (λ (o : Option Bit). cond (p x) (copy_from x o) [] ++ flops_in copied p xs) (h x (here x xs)) ∙ go (p x) (flops-same d copied p xs (λ y i. h y (later x xs y i)))
  where
    go : (t : Bool) → flops_in copied p xs ≡ copies_among d (filter p xs) → cond t (copy_from x (d.copied x)) [] ++ flops_in copied p xs ≡ copies_among d (cond t (x ∷ filter p xs) (filter p xs))
    go true ih = ap (λ cs. copy_from x (d.copied x) ++ cs) ih
    go false ih = ih

-- what passes of two lists
filter-joined : (p : Crossing → Bool) (cs ds : List Crossing) → filter p (cs ++ ds) ≡ filter p cs ++ filter p ds
filter-joined p [] ds = refl
filter-joined p (c ∷ cs) ds = go (p c) (filter-joined p cs ds)
  where
    go : (t : Bool) → filter p (cs ++ ds) ≡ filter p cs ++ filter p ds → cond t (c ∷ filter p (cs ++ ds)) (filter p (cs ++ ds)) ≡ cond t (c ∷ filter p cs) (filter p cs) ++ filter p ds
    go true ih = ap (λ es. c ∷ es) ih
    go false ih = ih

abbrev pair-of : Bit → Bit → Crossing
pair-of x b = record { from = b; to = x }

-- the watched ones of some bits that a bit reads
among-same : (domains : Domains) (p : Bit → Bool) (x : Bit) (bs : List Bit) → watched_among domains p x bs ≡ filter (is_watched domains p) (map (pair-of x) bs)
among-same domains p x [] = refl
among-same domains p x (b ∷ bs) = go (is_watched domains p (pair-of x b)) (among-same domains p x bs)
  where
    go : (t : Bool) → watched_among domains p x bs ≡ filter (is_watched domains p) (map (pair-of x) bs)
        → pair_if t (pair-of x b) ++ watched_among domains p x bs ≡ cond t (pair-of x b ∷ filter (is_watched domains p) (map (pair-of x) bs)) (filter (is_watched domains p) (map (pair-of x) bs))
    go true ih = ap (λ cs. pair-of x b ∷ cs) ih
    go false ih = ih

-- and of what those read that don't pass
pairs-same : (net : Net) (domains : Domains) (p : Bit → Bool) (xs : List Bit) → watched_in net domains p xs ≡ filter (is_watched domains p) (reads_among net (filter (λ x. not (p x)) xs))
pairs-same net domains p [] = refl
pairs-same net domains p (x ∷ xs) = go (p x) (pairs-same net domains p xs)
  where
    go : (t : Bool) → watched_in net domains p xs ≡ filter (is_watched domains p) (reads_among net (filter (λ x. not (p x)) xs))
        → cond t [] (watched_reads net domains p x) ++ watched_in net domains p xs
        ≡ filter (is_watched domains p) (reads_among net (cond (not t) (x ∷ filter (λ x. not (p x)) xs) (filter (λ x. not (p x)) xs)))
    go true ih = ih
    go false ih =
        ap₂ (λ cs ds. cs ++ ds) (among-same domains p x (bits_read_by net [] x)) ih
        ∙ sym (filter-joined (is_watched domains p) (reads_of net x) (reads_among net (filter (λ x. not (p x)) xs)))

-- the further flops of a chain are register bits
chain-registers : (d : Design) (t : Trees) (m n : ℕ) (f : Bit) (gs : List Bit) → IsChain d t m n f gs → (g : Bit) → Contains gs g → d.is_register g ≡ true
chain-registers d t m n f [] h g i = absurd (nothing_in g i)
chain-registers d t (suc m) n f (x ∷ gs) h g i = elim (parts x gs g i) [
  | inl e ↦ subst (λ (y : Bit). d.is_register y ≡ true) e h.0.register
  | inr j ↦ chain-registers d t m n x gs h.1 g j
]
chain-registers d t zero zero f (x ∷ gs) h g i = absurd h
chain-registers d t zero (suc n) f (x ∷ gs) h g i = elim (parts x gs g i) [
  | inl e ↦ subst (λ (y : Bit). d.is_register y ≡ true) e h.0.register
  | inr j ↦ chain-registers d t zero n x gs h.1 g j
]

module _ (net : Net) (domains : Domains) (can : CanRun net domains) where
  -- the first flop of a synchronizer lies in its signal
  first-within : (s : Sync) → Contains (syncs_of net domains) s → is_within net s.first ≡ true
  first-within s i =
      let every = syncs_are_all net domains (λ g. false) can.is can.opens.fit in
      (and_parts (is_some (next_cell net.regs s.first.sig)) (is_within net s.first) (every.only s i).crossing.register).1

  settles-among : (x : Bit) (ss : List Sync) → AllByRecursion (λ (s : Sync). is_within net s.first ≡ true) ss → is_settling_in domains (map sync_entry ss) x ≡ is_settling (design_of net domains) ss x
  settles-among x [] h = refl
  settles-among x (s ∷ ss) h =
      ap₂ (λ t u. t || u)
      (sym (ap (λ t. in_first (settle_at domains (cond t (clock_of domains s.first) None)) x (flops s)) h.0)) (settles-among x ss h.1)

  settles-is : (x : Bit) → is_settling_in domains (map sync_entry (syncs_of net domains)) x ≡ settles net domains x
  settles-is x = settles-among x (syncs_of net domains) (each-of (λ (s : Sync). is_within net s.first ≡ true) (syncs_of net domains) first-within)

  words-there : (words : List ℕ) × AreWordsOf net.graph.signals words
  words-there = (_, (is-opened net domains [] can.opens (record { each = λ i d l. absurd (omega arith); once = λ i j d l m. absurd (omega arith) })).can.words)

  register-in : (x : Bit) → Contains (bits_of_registers net.graph.signals net.regs) x → is_register_bit net x ≡ true
  register-in x i = unlisted net can.is x x i

  pub within-in : All (λ (b : Bit). b.at < bit_count net.graph.signals b.sig) (bits_of_registers net.graph.signals net.regs)
  within-in i d l =
      let x = get_or (bits_of_registers net.graph.signals net.regs) i d in
      let register = register-in x (Contains-get_or (bits_of_registers net.graph.signals net.regs) i d l) in
      ltb-true x.at (bit_count net.graph.signals x.sig) (and_parts (is_some (next_cell net.regs x.sig)) (is_within net x) register).1

  -- the flops of the synchronizers are register bits
  flop-register : (s : Sync) → Contains (syncs_of net domains) s → (b : Bit) → Contains (flops s) b → is_register_bit net b ≡ true
  flop-register s i b j =
      let is = (syncs_are_all net domains (λ g. false) can.is can.opens.fit).only s i in
      elim (parts s.first s.more b j) [
        | inl e ↦ subst (λ (y : Bit). is_register_bit net y ≡ true) e is.crossing.register
        | inr k ↦ chain-registers (design_of net domains) (net_trees net (λ g. false)) (settle_of (design_of net domains) s.first) (3 - settle_of (design_of net domains) s.first) s.first s.more is.chain b k
      ]

  -- so each has a place in words of the signals
  pub flops-placed : (syncs : List SyncEntry) → syncs ≡ map sync_entry (syncs_of net domains) → (s : SyncEntry) → Contains syncs s → HavePlaces (length net.graph.signals) s.flops
  flops-placed syncs same s i b j =
      let found = from_map sync_entry (syncs_of net domains) s (subst (λ (ss : List SyncEntry). Contains ss s) same i) in
      let register = flop-register found.0 found.1 b (subst (λ (e : SyncEntry). Contains e.flops b) (sym found.2) j) in
      let place = place-of net words-there.0 b can.opens.cells words-there.1.counted (and_parts (is_some (next_cell net.regs b.sig)) (is_within net b) register).1 in
      let counted = words-there.1.counted in
      ((let at = place.0 in omega (arith, at, counted)), place.1)

  module _ (syncs : List SyncEntry) (same : syncs ≡ map sync_entry (syncs_of net domains)) (marks : List ℕ) (marked : (x : Bit) → reading_of marks x ≡ is_settling_in domains syncs x)
      (bits : List Bit) (bits_are : bits ≡ bits_of_registers net.graph.signals net.regs) where
    marks-are : reading_of marks ≡ settles net domains
    marks-are = fun_ext (λ x. marked x ∙ ap (λ (es : List SyncEntry). is_settling_in domains es x) same ∙ settles-is x)

    pub flops-are : (cells : List (Option CellId)) (copies : Shown) → cells ≡ take_cells net.regs (replicate (length net.graph.signals) None) → ShowsCopies net copies
        → flops_in (copied_in cells copies) (reading_of marks) bits ≡ flops_of net domains
    flops-are cells copies cells_are shows =
        ap₂ (λ (t : Bit → Bool) (bs : List Bit). flops_in (copied_in cells copies) t bs) marks-are bits_are
        ∙ flops-same (design_of net domains) (copied_in cells copies) (settles net domains) (bits_of_registers net.graph.signals net.regs)
        (λ x i. copied-is net domains copies cells can.opens.cells can.opens.fit cells_are shows words-there.0 x words-there.1 (register-in x i))

    pub pairs-are : watched_in net domains (reading_of marks) bits ≡ watched_of net domains
    pairs-are =
        ap₂ (λ (t : Bit → Bool) (bs : List Bit). watched_in net domains t bs) marks-are bits_are
        ∙ pairs-same net domains (settles net domains) (bits_of_registers net.graph.signals net.regs)
