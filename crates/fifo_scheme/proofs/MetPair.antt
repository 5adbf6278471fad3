-- Two sides that are found, as sides over the lists that fit each other.
use Rattle.std.proofs.Common.{◌≡◌, ◌≢◌, ◌∙◌, ◌↔◌, sym, ap, ap₂, subst, refl, arith, ℕ, zero, suc, ◌+◌, ◌≤◌, ◌==◌, Bool, true, false, not, cond, Option, Some, None, option_map, List, [], ◌∷◌, length, map, Contains, lt-ltb, eqb-true, eq-eqb}
use Rattle.std.specs.List.{AllByRecursion}
use Rattle.cdc_base.specs.declared.bit.Bit.{Bit}
use Rattle.cell_graph.specs.declared.net.Net.{Net}
use Rattle.domains.specs.declared.Domains.{Domains}
use Rattle.domains.specs.Assignment.{clock_of, group_of}
use Rattle.domains.specs.Fit.{Fit}
use Rattle.cdc_model.specs.declared.scheme.GrayReg.{GrayReg}
use Rattle.cdc_model.specs.Design.{bits_from, differ, word}
use Rattle.cdc_model.specs.Nets.{bit_count, design_of, is_within, next_tree}
use Rattle.cdc_model.specs.Schemes.{last_flop, Sync}
use Rattle.cdc_model.specs.Word.{origins}
use Rattle.cdc_model.proofs.Ascending.{from_map, here, in_map}
use Rattle.cdc_model.proofs.NetDesign.{group_is}
use Rattle.fifo_terms.specs.Counts.{CountsUnder}
use Rattle.fifo_terms.specs.Terms.{Term}
use Rattle.fifo_laws.specs.Sides.{IsSide, Side, syncs_on}
use Rattle.fifo_laws.specs.Tests.{HasEmptyTest, HasFullTest, IsEmptyTest, IsFullTest}
use Rattle.fifo_nodes.specs.declared.shows.Apart.{Apart}
use Rattle.fifo_nodes.specs.declared.shows.Apart.TheVariants.{Empty, Full}
use Rattle.fifo_nodes.specs.declared.term.Term.{Term as Found}
use Rattle.fifo_nodes.specs.Terms.{term_of}
use Rattle.fifo_parts.specs.declared.pair.Teller.{Teller}
use Rattle.fifo_parts.specs.declared.side.Side.{Side as SideEntry}
use Rattle.fifo_parts.specs.Brought.{AreBrought}
use Rattle.fifo_parts.specs.Words.{lowest}
use Rattle.fifo_scheme.specs.declared.index.Index.{Index}
use Rattle.fifo_scheme.specs.Indexed.{IsIndex}
use Rattle.fifo_scheme.specs.Met.{IsMatch, IsPaired, IsTold, MayTell}
use Rattle.fifo_parts.specs.Sides.{IsSideAlone}
use Rattle.fifo_parts.specs.Tellers.{IsSideOf, IsTeller, IsTestBy}
use Rattle.fifo_scheme.proofs.OneFifo.{first_bit, one_side}

-- ---- clocks and groups

some_cond : (b : Bool) (o : Option ℕ) (c : ℕ) → cond b o None ≡ Some c → (b ≡ true) × (o ≡ Some c)
some_cond true o c h = (refl, h)
some_cond false o c h = cc

module _ (net : Net) (domains : Domains) where
  all_on : (sig c i n : ℕ) → clock_of domains (lowest sig) ≡ Some c → i + n ≤ bit_count net.graph.signals sig → AllByRecursion (λ b. (design_of net domains).clock b ≡ Some c) (bits_from sig i n)
  all_on sig c i zero e l = tt
  all_on sig c i (suc n) e l = (ap (λ v. cond v (clock_of domains (lowest sig)) None) (lt-ltb i (bit_count net.graph.signals sig) (omega arith)) ∙ e, all_on sig c (suc i) n e (omega arith))

  group_told : Fit net domains → (sig c : ℕ) → 1 ≤ bit_count net.graph.signals sig → clock_of domains (lowest sig) ≡ Some c → group_of domains (lowest sig) ≡ Some ((design_of net domains).group_of c)
  group_told fit sig c l e =
      let within : is_within net (lowest sig) ≡ true = lt-ltb 0 (bit_count net.graph.signals sig) (omega arith) in
      sym (group_is net domains fit (lowest sig) within) ∙ ap (option_map (design_of net domains).group_of) (ap (λ v. cond v (clock_of domains (lowest sig)) None) within ∙ e)

differ_apart : (g h : ℕ) → differ (Some g) (Some h) ≡ true → g ≢ h
differ_apart g h e same = let t = eq-eqb g h same in let f : not true ≡ true = ap not (sym t) ∙ e in cc

apart_differ : (g h : ℕ) → differ (Some g) (Some h) ≡ false → g ≡ h
apart_differ g h e = eqb-true g h (turn (g == h) e)
  where
    turn : (b : Bool) → not b ≡ false → b ≡ true
    turn true f = refl
    turn false f = cc

-- ---- what brings a code over

bits_long : (sig i n : ℕ) → length (bits_from sig i n) ≡ n
bits_long sig i zero = refl
bits_long sig i (suc n) = ap suc (bits_long sig (suc i) n)

mapped_long : {A B : Type 0} (f : A → B) (xs : List A) → length (map f xs) ≡ length xs
mapped_long f [] = refl
mapped_long f (x ∷ xs) = ap suc (mapped_long f xs)

-- as many flops as the code has bits
pub few_over : (net : Net) (domains : Domains) (syncs : List Sync) (gray clock width : ℕ) (bits : List Bit) (over : List Sync) → AreBrought net domains syncs gray clock over → bits ≡ map last_flop over
    → bit_count net.graph.signals gray ≡ width → width ≤ 11 → length bits ≤ 64
few_over net domains syncs gray clock width bits over b e wide few =
    let one = mapped_long (syncs_on (design_of net domains) syncs clock) (word (design_of net domains) gray) in
    let two = mapped_long (λ (y : Sync). y ∷ []) over in
    let three = mapped_long last_flop over in
    let four = ap (λ (xs : List (List Sync)). length xs) b.over_are in
    let five = ap (λ (xs : List Bit). length xs) e in
    let six = bits_long gray 0 (bit_count net.graph.signals gray) in
    omega arith

-- ---- a side that is found

-- the side of an entry, with what brings its code over
abbrev pub side_with : SideEntry → List Term → List Sync → Side
side_with e ts over = record { reg = e.reg; clock = e.clock; under = ts; over = over }

module _ {net : Net} {domains : Domains} {e : SideEntry} {ts : List Term} (syncs : List Sync) (grays : List GrayReg) (alone : IsSideAlone net domains e ts) (listed : Contains grays e.reg) where
  pub of_entry : (over : List Sync) → IsSideOf net domains e (side_with e ts over)
  of_entry over = record { alone = alone; reg = refl; clock = refl }

  pub is_side : (to : ℕ) (over : List Sync) → AreBrought net domains syncs e.reg.gray to over → IsSide (design_of net domains) (next_tree net) syncs grays to (side_with e ts over)
  is_side to over b = record {
    listed = listed;
    clock = all_on net domains e.reg.count e.clock 0 (bit_count net.graph.signals e.reg.count) alone.clock (omega arith);
    counts = subst (λ (n : ℕ). CountsUnder e.reg.count n (origins (next_tree net e.reg.count) 0 n) ts) (sym alone.count_width) alone.counts;
    over = b.over_are;
    one_length = b.one_length;
    start = (alone.start.0, alone.start.1, b.start);
  }

  pub wide_entry : 2 ≤ bit_count net.graph.signals e.reg.count
  wide_entry = subst (λ (n : ℕ). 2 ≤ n) (sym alone.count_width) alone.wide.0

  -- a side over the lists with its Gray register is on its clock
  pub on_clock : (to : ℕ) (s : Side) → IsSide (design_of net domains) (next_tree net) syncs grays to s → s.reg ≡ e.reg → s.clock ≡ e.clock
  on_clock to s h same =
      let l = wide_entry in
      let a = first_bit (λ b. (design_of net domains).clock b ≡ Some s.clock) e.reg.count 0 (bit_count net.graph.signals e.reg.count) (omega arith)
      (subst (λ (g : GrayReg). AllByRecursion (λ b. (design_of net domains).clock b ≡ Some s.clock) (word (design_of net domains) g.count)) same h.clock) in
      let both : Some s.clock ≡ Some e.clock = sym (some_cond (is_within net (lowest e.reg.count)) (clock_of domains (lowest e.reg.count)) s.clock a).1 ∙ alone.clock in
      cc

  pub brought_of : (to : ℕ) (s : Side) → IsSide (design_of net domains) (next_tree net) syncs grays to s → s.reg ≡ e.reg → AreBrought net domains syncs e.reg.gray to s.over
  brought_of to s h same = subst (λ (g : GrayReg). AreBrought net domains syncs g.gray to s.over) same (record { over_are = h.over; one_length = h.one_length; start = h.start.2 })

  pub the_side : (to : ℕ) (over : List Sync) → AreBrought net domains syncs e.reg.gray to over → (s : Side) → IsSide (design_of net domains) (next_tree net) syncs grays to s → s.reg ≡ e.reg
      → s ≡ side_with e ts over
  the_side to over b s h same = one_side (design_of net domains) (next_tree net) syncs grays to s (side_with e ts over) h (is_side to over b) same
      (subst (λ (g : GrayReg). 2 ≤ bit_count net.graph.signals g.count) (sym same) wide_entry)

  -- its terms are those that were found
  pub term_found : (t : Term) → Contains ts t → (f : Found) × Contains e.under f × (term_of net.graph f ≡ t)
  term_found t h = from_map (term_of net.graph) e.under t (alone.under.all t h)

  pub term_there : (f : Found) → Contains e.under f → Contains ts (term_of net.graph f)
  term_there f h = alone.under.only (term_of net.graph f) (in_map (term_of net.graph) e.under f h)

-- ---- two of them

-- Two sides, each of which is found alone.
pub record AreAlone (net : Net) (domains : Domains) (grays : List GrayReg) (write read : SideEntry) : Type 0 where
  pub fits : Fit net domains
  pub write_terms : List Term
  pub read_terms : List Term
  pub writes : IsSideAlone net domains write write_terms
  pub reads : IsSideAlone net domains read read_terms
  pub listed : Contains grays write.reg × Contains grays read.reg

-- two sides of an index are
pub are_alone : (net : Net) (domains : Domains) (syncs : List Sync) (grays : List GrayReg) (i : Index) → Fit net domains → IsIndex net domains syncs grays i → (write read : SideEntry)
    → Contains i.sides.items write → Contains i.sides.items read → AreAlone net domains grays write read
are_alone net domains syncs grays i fits is write read hw hr =
    let w = is.sides.only write hw in
    let r = is.sides.only read hr in
    record { fits = fits; write_terms = w.0.0; read_terms = r.0.0; writes = w.0.1; reads = r.0.1; listed = (w.1, r.1) }

module _ {net : Net} {domains : Domains} {grays : List GrayReg} {write read : SideEntry} (both : AreAlone net domains grays write read) (syncs : List Sync) where
  abbrev Matches : Side → Side → Type 0
  Matches a b = IsMatch (design_of net domains) (next_tree net) syncs grays a b

  pub no_width : (write.width ≡ read.width → ⊥) → IsPaired net domains syncs grays write.reg read.reg None
  no_width h a b ea eb m = h (sym both.writes.count_width ∙ ap (λ (g : GrayReg). bit_count net.graph.signals g.count) (sym ea) ∙ sym m.wide.2 ∙ ap (λ (g : GrayReg). bit_count net.graph.signals g.count) eb ∙ both.reads.count_width)

  told_write : group_of domains (lowest write.reg.count) ≡ Some ((design_of net domains).group_of write.clock)
  told_write = group_told net domains both.fits write.reg.count write.clock (let l = wide_entry syncs grays both.writes both.listed.0 in omega arith) both.writes.clock

  told_read : group_of domains (lowest read.reg.count) ≡ Some ((design_of net domains).group_of read.clock)
  told_read = group_told net domains both.fits read.reg.count read.clock (let l = wide_entry syncs grays both.reads both.listed.1 in omega arith) both.reads.clock

  clock_write : (a b : Side) → a.reg ≡ write.reg → Matches a b → a.clock ≡ write.clock
  clock_write a b ea m = on_clock syncs grays both.writes both.listed.0 b.clock a m.writes ea

  clock_read : (a b : Side) → b.reg ≡ read.reg → Matches a b → b.clock ≡ read.clock
  clock_read a b eb m = on_clock syncs grays both.reads both.listed.1 a.clock b m.reads eb

  pub no_groups : differ (group_of domains (lowest write.reg.count)) (group_of domains (lowest read.reg.count)) ≡ false → IsPaired net domains syncs grays write.reg read.reg None
  no_groups h a b ea eb m = m.apart (ap (design_of net domains).group_of (clock_write a b ea m) ∙ apart_differ ((design_of net domains).group_of write.clock) ((design_of net domains).group_of read.clock)
      (sym (ap₂ differ told_write told_read) ∙ h) ∙ ap (design_of net domains).group_of (sym (clock_read a b eb m)))

  brought_write : (a b : Side) → a.reg ≡ write.reg → b.reg ≡ read.reg → Matches a b → AreBrought net domains syncs write.reg.gray read.clock a.over
  brought_write a b ea eb m = subst (λ (c : ℕ). AreBrought net domains syncs write.reg.gray c a.over) (clock_read a b eb m) (brought_of syncs grays both.writes both.listed.0 b.clock a m.writes ea)

  brought_read : (a b : Side) → a.reg ≡ write.reg → b.reg ≡ read.reg → Matches a b → AreBrought net domains syncs read.reg.gray write.clock b.over
  brought_read a b ea eb m = subst (λ (c : ℕ). AreBrought net domains syncs read.reg.gray c b.over) (clock_write a b ea m) (brought_of syncs grays both.reads both.listed.1 a.clock b m.reads eb)

  pub no_write : MayTell net domains syncs write read Full None → IsPaired net domains syncs grays write.reg read.reg None
  no_write h a b ea eb m = h b.over (brought_read a b ea eb m)

  pub no_read : MayTell net domains syncs read write Empty None → IsPaired net domains syncs grays write.reg read.reg None
  no_read h a b ea eb m = h a.over (brought_write a b ea eb m)

  module _ (t u : Teller) (h : IsTold net domains syncs write read Full t) (k : IsTold net domains syncs read write Empty u) where
    abbrev W : Side
    W = side_with write both.write_terms k.over

    abbrev R : Side
    R = side_with read both.read_terms h.over

    pub write_tells : IsTeller net domains t (side_with write both.write_terms k.over) (side_with read both.read_terms h.over)
    write_tells = h.tells (side_with write both.write_terms k.over) (side_with read both.read_terms h.over) (of_entry syncs grays both.writes both.listed.0 k.over) refl

    pub read_tells : IsTeller net domains u (side_with read both.read_terms h.over) (side_with write both.write_terms k.over)
    read_tells = k.tells (side_with read both.read_terms h.over) (side_with write both.write_terms k.over) (of_entry syncs grays both.reads both.listed.1 h.over) refl

    sides : (a b : Side) → a.reg ≡ write.reg → b.reg ≡ read.reg → Matches a b → (a ≡ side_with write both.write_terms k.over) × (b ≡ side_with read both.read_terms h.over)
    sides a b ea eb m = (
      the_side syncs grays both.writes both.listed.0 read.clock k.over k.brought a (subst (λ (c : ℕ). IsSide (design_of net domains) (next_tree net) syncs grays c a) (clock_read a b eb m) m.writes) ea,
      the_side syncs grays both.reads both.listed.1 write.clock h.over h.brought b (subst (λ (c : ℕ). IsSide (design_of net domains) (next_tree net) syncs grays c b) (clock_write a b ea m) m.reads) eb,
    )

    module _ (full : List Found) (tests : (x : Found) → Contains full x ↔ (Contains write.under x × IsTestBy t.apart (design_of net domains) (next_tree net) W R (term_of net.graph x))) where
      pub full_tests : (x : Found) → Contains full x ↔ (Contains write.under x × IsFullTest (design_of net domains) (next_tree net) W R (term_of net.graph x))
      full_tests x = subst (λ (a : Apart). Contains full x ↔ (Contains write.under x × IsTestBy a (design_of net domains) (next_tree net) W R (term_of net.graph x))) h.given.1 (tests x)

      pub no_full : length full ≡ 0 → IsPaired net domains syncs grays write.reg read.reg None
      no_full e a b ea eb m =
          let s = sides a b ea eb m in
          let p = subst (λ (q : Side). HasFullTest (design_of net domains) (next_tree net) W q W.under) s.1 (subst (λ (q : Side). HasFullTest (design_of net domains) (next_tree net) q b q.under) s.0 m.pushes) in
          let f = term_found syncs grays both.writes both.listed.0 p.0 p.1 in
          let i = (full_tests f.0).1 (f.1, subst (IsFullTest (design_of net domains) (next_tree net) W R) (sym f.2) p.2) in
          let l = i.1 in
          omega arith

      pub pushes : (length full ≡ 0 → ⊥) → HasFullTest (design_of net domains) (next_tree net) W R W.under
      pushes some = go full (λ x. (full_tests x).0) some
        where
          go : (fs : List Found) → ((x : Found) → Contains fs x → Contains write.under x × IsFullTest (design_of net domains) (next_tree net) W R (term_of net.graph x)) → (length fs ≡ 0 → ⊥)
              → HasFullTest (design_of net domains) (next_tree net) W R W.under
          go [] is n = absurd (n refl)
          go (f ∷ fs) is n = let k = is f (here f fs) in (term_of net.graph f, term_there syncs grays both.writes both.listed.0 f k.0, k.1)

    module _ (has : Bool) (tests : (has ≡ true) ↔ ((x : Found) × Contains read.under x × IsTestBy u.apart (design_of net domains) (next_tree net) R W (term_of net.graph x))) where
      pop_tests : (has ≡ true) ↔ ((x : Found) × Contains read.under x × IsEmptyTest (design_of net domains) (next_tree net) W R (term_of net.graph x))
      pop_tests = subst (λ (a : Apart). (has ≡ true) ↔ ((x : Found) × Contains read.under x × IsTestBy a (design_of net domains) (next_tree net) R W (term_of net.graph x))) k.given.1 tests

      pub no_pop : has ≡ false → IsPaired net domains syncs grays write.reg read.reg None
      no_pop e a b ea eb m =
          let s = sides a b ea eb m in
          let p = subst (λ (q : Side). HasEmptyTest (design_of net domains) (next_tree net) W q q.under) s.1 (subst (λ (q : Side). HasEmptyTest (design_of net domains) (next_tree net) q b b.under) s.0 m.pops) in
          let f = term_found syncs grays both.reads both.listed.1 p.0 p.1 in
          let yes = pop_tests.1 (f.0, f.1, subst (IsEmptyTest (design_of net domains) (next_tree net) W R) (sym f.2) p.2) in
          let no : true ≡ false = sym yes ∙ e in
          cc

      pub pops : has ≡ true → HasEmptyTest (design_of net domains) (next_tree net) W R R.under
      pops e = let p = pop_tests.0 e in (term_of net.graph p.0, term_there syncs grays both.reads both.listed.1 p.0 p.1, p.2)

    -- they fit each other
    pub matched : write.width ≡ read.width → differ (group_of domains (lowest write.reg.count)) (group_of domains (lowest read.reg.count)) ≡ true
        → HasFullTest (design_of net domains) (next_tree net) W R W.under → HasEmptyTest (design_of net domains) (next_tree net) W R R.under → Matches W R
    matched same groups pushes pops = record {
      writes = is_side syncs grays both.writes both.listed.0 read.clock k.over k.brought;
      reads = is_side syncs grays both.reads both.listed.1 write.clock h.over h.brought;
      apart = differ_apart ((design_of net domains).group_of write.clock) ((design_of net domains).group_of read.clock) (sym (ap₂ differ told_write told_read) ∙ groups);
      settles = (both.writes.settles, both.reads.settles);
      wide = (
        wide_entry syncs grays both.writes both.listed.0,
        subst (λ (n : ℕ). n ≤ 11) (sym both.writes.count_width) both.writes.wide.1,
        both.reads.count_width ∙ sym same ∙ sym both.writes.count_width,
      );
      pushes = pushes;
      pops = pops;
    }

    pub paired : (full : List Found) → ((x : Found) → Contains full x ↔ (Contains write.under x × IsTestBy t.apart (design_of net domains) (next_tree net) W R (term_of net.graph x))) → write.width ≡ read.width → Matches W R
        → IsPaired net domains syncs grays write.reg read.reg (Some (record { write = t; read = u; full = full }))
    paired full tests same match = (
      W,
      R,
      refl,
      refl,
      match,
      record {
        write_tells = write_tells;
        read_tells = read_tells;
        aparts = (h.given.1, k.given.1);
        one_width = ap (λ (e : SideEntry). e.width) h.given.0 ∙ same ∙ ap (λ (e : SideEntry). e.width) (sym k.given.0);
        full = λ x. subst (λ (e : SideEntry). Contains full x ↔ (Contains e.under x × IsFullTest (design_of net domains) (next_tree net) W R (term_of net.graph x))) (sym h.given.0) (full_tests full tests x);
      },
    )
