-- The names of a described design are found again.
use Rattle.std.proofs.Common.{◌≡◌, ◌∙◌, ℕ, zero, suc, ◌+◌, ◌<◌, ◌≤◌, ◌++◌, nat_lt, true, List, [], ◌∷◌, map, length, IsUtf8, Option, Some, None, refl, sym, ap, subst, arith, ltb-true}
use Rattle.std.specs.Prelude.{slice_get}
use Rattle.std.specs.List.{AllByRecursion}
use Rattle.std.specs.Option.{option_map_or}
use Rattle.std.proofs.lemmas.List.Elements.{recursion_from_All}
use Rattle.cdc_base.specs.declared.bit.Bit.{Bit}
use Rattle.cdc_base.specs.declared.signal.Signal.{Signal}
use Rattle.cdc_base.specs.Bits.{bit_text}
use Rattle.cell_graph.specs.declared.net.Net.{Net}
use Rattle.cell_graph.specs.Nets.{AreSized}
use Rattle.clock_constraints.specs.declared.ClockPin.{ClockPin}
use Rattle.clock_constraints.specs.declared.Constraints.{Constraints}
use Rattle.domains.specs.declared.Domains.{Domains}
use Rattle.domains.specs.Tables.{first_clock, first_signal}
use Rattle.cdc_model.specs.Nets.{is_within}
use Rattle.report.specs.Names.{bit_of}
use Rattle.run_file.specs.Names.{bit_named}
use Rattle.campaign.specs.Lines.{clock_name}
use Rattle.campaign.specs.Names.{name_of}
use Rattle.elaborate.specs.Words.{as_word, word_width}
use Rattle.flat_meaning.specs.Design.{Flat}
use Rattle.signal_names.specs.Laws.{AreDifferent, AreNames, IsSourceVisible, names_in}
use Rattle.signal_names.specs.Paths.{IsPrinted}
use Rattle.signal_names.proofs.Visits.{names_differ}
use Rattle.described_design.specs.Described.{named_in}
use Rattle.described_design.specs.Designs.{IsDesignOf}
use Rattle.campaign_records.specs.Laws.{AreFound, StandsFor}
use Rattle.found_names.specs.Laws.{DesignsAreFound}
use Rattle.found_names.proofs.Clocks.{clock-found, clock-signal}
use Rattle.found_names.proofs.Lookups.{IsTold, bit-found, of-told, signal-found}
use Rattle.found_names.proofs.Ranges.{IsRanged, signals-ranged}
use Rattle.found_names.proofs.Texts.{bit-is-text, printed-text}
use Rattle.found_names.proofs.Visible.{read-visible}

none-past : {A : Type 0} (xs : List A) (i : ℕ) → slice_get xs i ≡ None → length xs ≤ i
none-past [] i e = omega arith
none-past (x ∷ xs) zero e = cc
none-past (x ∷ xs) (suc i) e = let l = none-past xs i e in omega (arith, l)

-- a word of 1 to 64 bits keeps its bits
word-is : (w : ℕ) → 1 ≤ w → w ≤ 64 → word_width w ≡ w
word-is w l h = omega (arith, l, h)

word-told : (s : Signal) → IsPrinted [] s.name → IsRanged s → (1 ≤ s.width) × (s.width ≤ 64) → IsTold (as_word s)
word-told s printed range sized =
    let same = word-is s.width sized.0 sized.1 in
    record {
      printed = printed;
      range = record {
        ranged = record { one = λ e. same ∙ range.one e; many = λ e. same ∙ range.many e };
        word = omega (arith, same, sized.1);
      };
    }

words-told : (ss : List Signal) → AllByRecursion (λ (t : List ℕ). IsPrinted [] t) (map (λ (s : Signal). s.name) ss) → AllByRecursion IsRanged ss → AreSized ss → AllByRecursion IsTold (map as_word ss)
words-told [] printed range sized = tt
words-told (s ∷ ss) printed range sized =
    (word-told s printed.0 range.0 (sized 0 s refl), words-told ss printed.1 range.1 (λ i r e. sized (suc i) r e))

same-names : (ss : List Signal) → map (λ (s : Signal). s.name) (map as_word ss) ≡ map (λ (s : Signal). s.name) ss
same-names [] = refl
same-names (s ∷ ss) = ap (λ ts. s.name ∷ ts) (same-names ss)

-- ---- a list of signals that are told apart

module _ (ss : List Signal) (told : AllByRecursion IsTold ss) (differ : AreDifferent (map (λ (s : Signal). s.name) ss)) where
  item : (i : ℕ) → i < length ss → (s : Signal) × (slice_get ss i ≡ Some s)
  item i l = go (slice_get ss i) refl
    where
      go : (o : Option Signal) → slice_get ss i ≡ o → (s : Signal) × (slice_get ss i ≡ Some s)
      go None e = absurd (let f = none-past ss i e in omega (arith, f, l))
      go (Some s) e = (s, e)

  pub signal-stands : (i : ℕ) → i < length ss → StandsFor (first_signal ss) (name_of ss i) i
  signal-stands i l =
      let (s, e) = item i l in
      let name : name_of ss i ≡ s.name = ap (λ (o : Option Signal). option_map_or (λ (r : Signal). r.name) o []) e in
      (subst IsUtf8 (sym name) (printed-text s.name (of-told ss i s told e).printed), ap (first_signal ss) name ∙ signal-found 0 ss i s differ e ∙ ap Some (let f : 0 + i ≡ i = omega arith in f))

  pub bit-stands : (b : Bit) (s : Signal) → slice_get ss b.sig ≡ Some s → b.at < s.width → StandsFor (bit_named ss) (bit_of ss b) b
  bit-stands b s e l =
      let text : bit_of ss b ≡ bit_text s b.at = ap (λ (o : Option Signal). option_map_or (λ (r : Signal). bit_text r b.at) o []) e in
      let is = of-told ss b.sig s told e in (
        subst IsUtf8 (sym text) (bit-is-text s b.at is.printed),
        ap (bit_named ss) text ∙ bit-found 0 ss b.sig s b.at told differ e is l ∙ ap (λ (n : ℕ). let c : Option Bit = Some (record { sig = n; at = b.at }) in c) (let f : 0 + b.sig ≡ b.sig = omega arith in f),
      )

-- ---- the design

module _ (word text con : List ℕ) (c : Constraints) (net : Net) (domains : Domains) (is : IsDesignOf word text con c net domains) where
  abbrev flat : Flat
  flat = is.of_modules.flat

  visible : IsSourceVisible is.modules
  visible = read-visible text is.reads.tokens is.modules is.reads.are_tokens is.reads.reads

  are-names : AreNames (names_in flat)
  are-names = names_differ is.modules visible c.top (c.resets ++ is.of_modules.unfolds.nets) (named_in c) flat is.of_modules.unfolds.unfolds

  told : AllByRecursion IsTold (map as_word flat.signals)
  told = words-told flat.signals (recursion_from_All (IsPrinted []) (names_in flat) are-names.printed)
      (signals-ranged is.modules c.top (c.resets ++ is.of_modules.unfolds.nets) (named_in c) flat is.of_modules.unfolds.unfolds) is.of_modules.sized

  differ : AreDifferent (map (λ (s : Signal). s.name) (map as_word flat.signals))
  differ = subst AreDifferent (sym (same-names flat.signals)) are-names.differ

  net-told : AllByRecursion IsTold net.graph.signals
  net-told = subst (AllByRecursion IsTold) (sym is.of_modules.signals) told

  net-differ : AreDifferent (map (λ (s : Signal). s.name) net.graph.signals)
  net-differ = subst (λ (ss : List Signal). AreDifferent (map (λ (s : Signal). s.name) ss)) (sym is.of_modules.signals) differ

  clock-stands : (k : ℕ) → k < length domains.clocks → StandsFor (first_clock domains.clocks) (clock_name domains k) k
  clock-stands k l = go (slice_get domains.clocks k) refl
    where
      go : (o : Option ClockPin) → slice_get domains.clocks k ≡ o → StandsFor (first_clock domains.clocks) (clock_name domains k) k
      go None e = absurd (let f = none-past domains.clocks k e in omega (arith, f, l))
      go (Some p) e =
          let name : clock_name domains k ≡ p.name = ap (λ (o : Option ClockPin). option_map_or (λ (q : ClockPin). q.name) o []) e in
          let assigned = is.design.assigned in
          let (i, s, there, same) = clock-signal net.graph.signals c assigned.roles assigned.ports k p (sym (ap (λ (ks : List ClockPin). slice_get ks k) assigned.clocks) ∙ e) in (
            subst IsUtf8 (sym (name ∙ same)) (printed-text s.name (of-told net.graph.signals i s net-told there).printed),
            ap (first_clock domains.clocks) name ∙ clock-found 0 domains.clocks k p is.design.can.fit.names e ∙ ap Some (let f : 0 + k ≡ k = omega arith in f),
          )

  bit-there : (b : Bit) → is_within net b ≡ true → StandsFor (bit_named net.graph.signals) (bit_of net.graph.signals b) b
  bit-there b h = go (slice_get net.graph.signals b.sig) refl
    where
      less : (o : Option Signal) → slice_get net.graph.signals b.sig ≡ o → nat_lt b.at (option_map_or (λ (s : Signal). s.width) o 0) ≡ true
      less o e = sym (ap (λ (q : Option Signal). nat_lt b.at (option_map_or (λ (s : Signal). s.width) q 0)) e) ∙ h

      go : (o : Option Signal) → slice_get net.graph.signals b.sig ≡ o → StandsFor (bit_named net.graph.signals) (bit_of net.graph.signals b) b
      go None e = absurd (let l = ltb-true b.at 0 (less None e) in omega (arith, l))
      go (Some s) e = bit-stands net.graph.signals net-told net-differ b s e (ltb-true b.at s.width (less (Some s) e))

  pub are-found : AreFound net domains
  are-found = record { signals = signal-stands net.graph.signals net-told net-differ; clocks = clock-stands; bits = bit-there }

pub designs-are-found : DesignsAreFound
designs-are-found = are-found
