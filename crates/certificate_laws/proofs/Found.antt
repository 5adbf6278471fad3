-- The bits and signals of a described design are found by their printed names, and its registers are few.
use Rattle.std.proofs.Common.{◌≡◌, ◌∙◌, refl, sym, ap, subst, arith, ℕ, zero, suc, ◌++◌, ◌^◌, ◌<◌, nat_lt, Bool, true, Option, Some, None, List, [], ◌∷◌, map, length, ltb-true}
use Rattle.std.specs.Prelude.{if◌then◌else◌, slice_get}
use Rattle.std.specs.List.{AllByRecursion}
use Rattle.std.specs.Option.{option_map_or}
use Rattle.std.proofs.lemmas.Bool.{and_parts}
use Rattle.std.proofs.lemmas.List.{length-map}
use Rattle.std.proofs.lemmas.List.Elements.{recursion_from_All}
use Rattle.std.proofs.lemmas.Option.{slice_get_within}
use Rattle.cdc_base.specs.declared.bit.Bit.{Bit}
use Rattle.cdc_base.specs.declared.signal.Signal.{Signal}
use Rattle.cdc_base.specs.Bits.{bit_text}
use Rattle.cell_graph.specs.declared.net.Net.{Net}
use Rattle.cell_graph.proofs.CellValues.{none-past}
use Rattle.clock_constraints.specs.declared.Constraints.{Constraints}
use Rattle.domains.specs.declared.Domains.{Domains}
use Rattle.domains.specs.Tables.{named, first_signal, bit_names}
use Rattle.cdc_model.specs.Nets.{is_register_bit, is_within}
use Rattle.flat_meaning.specs.Design.{Flat}
use Rattle.flat_unfolding.proofs.Visits.{limits_law}
use Rattle.elaborate.specs.Words.{as_word}
use Rattle.report.specs.Names.{bit_of, signal_of}
use Rattle.signal_names.specs.Laws.{names_in}
use Rattle.signal_names.specs.Paths.{IsPrinted}
use Rattle.signal_names.proofs.Visits.{names_differ}
use Rattle.described_design.specs.Described.{named_in}
use Rattle.described_design.specs.Designs.{IsDesignOf}
use Rattle.campaign_records.specs.Laws.{AreFound}
use Rattle.found_names.proofs.Designs.{designs-are-found}
use Rattle.found_names.proofs.Visible.{read-visible}
use Rattle.run_file.proofs.Tables.{bits-are}
use Rattle.cert_text.specs.Names.{is_name}
use Rattle.cert_text.specs.Read.{is_bit_name}
use Rattle.cert_text.specs.Written.{IsFound, IsFoundSignal}
use Rattle.certificate_laws.proofs.Spelled.{bit-name, signal-name}
use Rattle.certificate_laws.proofs.Writable.{AreAllFound}

printed-at : (ss : List Signal) (i : ℕ) (s : Signal) → AllByRecursion (IsPrinted []) (map (λ (r : Signal). r.name) ss) → slice_get (map as_word ss) i ≡ Some s → IsPrinted [] s.name
printed-at [] i s h e = cc
printed-at (r ∷ ss) zero s h e = let same : as_word r ≡ s = cc in subst (λ (q : Signal). IsPrinted [] q.name) same h.0
printed-at (r ∷ ss) (suc i) s h e = printed-at ss i s h.1 e

module _ (word text con : List ℕ) (c : Constraints) (net : Net) (domains : Domains) (is : IsDesignOf word text con c net domains) where
  abbrev flat : Flat
  flat = is.of_modules.flat

  printed : (i : ℕ) (s : Signal) → slice_get net.graph.signals i ≡ Some s → IsPrinted [] s.name
  printed i s e =
      let visible = read-visible text is.reads.tokens is.modules is.reads.are_tokens is.reads.reads in
      let names = names_differ is.modules visible c.top (c.resets ++ is.of_modules.unfolds.nets) (named_in c) flat is.of_modules.unfolds.unfolds in
      printed-at flat.signals i s (recursion_from_All (IsPrinted []) (names_in flat) names.printed) (ap (λ (ss : List Signal). slice_get ss i) (sym is.of_modules.signals) ∙ e)

  in-records : AreFound net domains
  in-records = designs-are-found word text con c net domains is

  -- a bit that lies in its signal has one
  own-signal : (b : Bit) → is_within net b ≡ true → (s : Signal) × (slice_get net.graph.signals b.sig ≡ Some s) × (b.at < s.width)
  own-signal b h = go (slice_get net.graph.signals b.sig) refl
    where
      less : (o : Option Signal) → slice_get net.graph.signals b.sig ≡ o → nat_lt b.at (option_map_or (λ (s : Signal). s.width) o 0) ≡ true
      less o e = sym (ap (λ (q : Option Signal). nat_lt b.at (option_map_or (λ (s : Signal). s.width) q 0)) e) ∙ h

      go : (o : Option Signal) → slice_get net.graph.signals b.sig ≡ o → (s : Signal) × (slice_get net.graph.signals b.sig ≡ Some s) × (b.at < s.width)
      go None e = absurd (let l = ltb-true b.at 0 (less None e) in omega (arith, l))
      go (Some s) e = (s, e, ltb-true b.at s.width (less (Some s) e))

  bit-found : (b : Bit) → is_within net b ≡ true → IsFound net.graph.signals b
  bit-found b h =
      let (s, e, l) = own-signal b h in
      let name : bit_of net.graph.signals b ≡ bit_text s b.at = ap (λ (o : Option Signal). option_map_or (λ (r : Signal). bit_text r b.at) o []) e in
      let form : is_bit_name (bit_of net.graph.signals b) ≡ true = ap is_bit_name name ∙ bit-name s b.at (printed b.sig s e) in (
        form,
        ap (λ (v : Bool). if v then named (bit_names 0 net.graph.signals) (bit_of net.graph.signals b) else None) (and_parts (is_name (bit_of net.graph.signals b)) _ form).0
            ∙ bits-are net.graph.signals (bit_of net.graph.signals b) ∙ (in-records.bits b h).1,
      )

  signal-found : (sig : ℕ) → sig < length net.graph.signals → IsFoundSignal net.graph.signals sig
  signal-found sig l = go (slice_get net.graph.signals sig) refl
    where
      go : (o : Option Signal) → slice_get net.graph.signals sig ≡ o → IsFoundSignal net.graph.signals sig
      go None e = absurd (let m = none-past net.graph.signals sig e in omega (arith, m, l))
      go (Some s) e =
          let name : signal_of net.graph.signals sig ≡ s.name = ap (λ (o : Option Signal). option_map_or (λ (r : Signal). r.name) o []) e in
          let form : is_name (signal_of net.graph.signals sig) ≡ true = ap is_name name ∙ signal-name s.name (printed sig s e) in
          ap (λ (v : Bool). if v then first_signal net.graph.signals (signal_of net.graph.signals sig) else None) form ∙ (in-records.signals sig l).1

  pub all-found : AreAllFound net
  all-found = record { bits = bit-found; signals = signal-found }

  -- 1,048,576 signals at most, of 64 bits at most
  pub registers-small : (b : Bit) → is_register_bit net b ≡ true → (b.sig < 2 ^ 20) × (b.at < 64)
  registers-small b h =
      let (s, e, l) = own-signal b (and_parts _ (is_within net b) h).1 in
      let wide = (is.design.can.is_net.graph.signals b.sig s e).1 in
      let within = slice_get_within net.graph.signals b.sig s e in
      let many : length net.graph.signals ≡ length flat.signals = ap length is.of_modules.signals ∙ length-map flat.signals as_word in
      let few = (limits_law is.modules c.top (c.resets ++ is.of_modules.unfolds.nets) (named_in c) flat is.of_modules.unfolds.unfolds).1 in
      (omega (arith, within, many, few), omega (arith, l, wide))
