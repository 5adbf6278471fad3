-- The synchronizers that bring a code to a clock, bit by bit.
use Rattle.std.proofs.Common.{◌≡◌, ◌≢◌, ◌∙◌, ℕ, suc, ◌+◌, ◌-◌, ◌<◌, Option, Some, None, unwrap_or, List, [], ◌∷◌, ◌++◌, map, length, refl, sym, ap, subst, arith}
use Rattle.std.specs.List.{AllByRecursion}
use Rattle.std.specs.Prelude.{◌≤◌, slice_get}
use Rattle.std.proofs.lemmas.List.{append-nil, append_assoc, map-append}
use Rattle.cdc_base.specs.declared.bit.Bit.{Bit}
use Rattle.cell_graph.specs.declared.net.Net.{Net}
use Rattle.domains.specs.declared.Domains.{Domains}
use Rattle.cdc_model.specs.Design.{bits_from}
use Rattle.cdc_model.specs.Nets.{bit_count, design_of}
use Rattle.cdc_model.specs.Schemes.{Sync, flops, last_flop, last_of}
use Rattle.fifo_laws.specs.Sides.{StartAtZero, syncs_on}
use Rattle.fifo_parts.specs.declared.brought.Arrival.{Arrival}
use Rattle.fifo_parts.specs.Brought.{IsArrival, IsOver}
use Rattle.fifo_parts.proofs.Starts.{next_bits}

abbrev single : Sync → List Sync
single y = y ∷ []

-- so many flops have all of the synchronizers, of which there are some where a number is known
abbrev pub HaveCount : List Sync → Option ℕ → Type 0
HaveCount ss None = ss ≡ []
HaveCount ss (Some n) = ((y : Sync) × (ys : List Sync) × (ss ≡ y ∷ ys)) × AllByRecursion (λ s. length (flops s) ≡ n) ss

-- Bits below `at` of a word of w bits have their synchronizers on the clock, whose last flops these are, with so many flops.
pub record AreBroughtSoFar (net : Net) (domains : Domains) (syncs : List Sync) (gray clock w at : ℕ) (bits : List Bit) (count : Option ℕ) : Type 0
  where
    pub over : List Sync
    pub are : map (syncs_on (design_of net domains) syncs clock) (bits_from gray 0 w) ≡ map single
        over ++ map (syncs_on (design_of net domains) syncs clock) (bits_from gray at (w - at))
    pub last : bits ≡ map last_flop over
    pub counts : HaveCount over count
    pub start : AllByRecursion (λ y. StartAtZero (design_of net domains) (flops y)) over

all_push : {A : Type 0} (P : A → Type 0) (xs : List A) (x : A) → AllByRecursion P xs → P x → AllByRecursion P (xs ++ x ∷ [])
all_push P [] x h p = (p, tt)
all_push P (y ∷ ys) x h p = (h.0, all_push P ys x h.1 p)

-- the next list of several, each of one item
split : (done : List Sync) (s : List Sync) (rest : List (List Sync)) (whole : List Sync) → map single whole ≡ map single done ++ s ∷ rest
    → (y : Sync) × (more : List Sync) × (whole ≡ done ++ y ∷ more) × (s ≡ y ∷ [])
split [] s rest [] e = cc
split [] s rest (y ∷ ys) e = (y, ys, refl, cc)
split (d ∷ ds) s rest [] e = cc
split (d ∷ ds) s rest (y ∷ ys) e =
    let tail : map single ys ≡ map single ds ++ s ∷ rest = cc in
    let h = split ds s rest ys tail in
    let same : y ≡ d = cc in
    (h.0, h.1, ap (λ z. z ∷ ys) same ∙ ap (λ zs. d ∷ zs) h.2, h.3)

all_at : {A : Type 0} (P : A → Type 0) (done : List A) (y : A) (more : List A) → AllByRecursion P (done ++ y ∷ more) → P y
all_at P [] y more h = h.0
all_at P (d ∷ ds) y more h = all_at P ds y more h.1

-- the flop at the end is the last one
last_at : (f : Bit) (gs : List Bit) → slice_get (f ∷ gs) (length gs) ≡ Some (last_of f gs)
last_at f [] = refl
last_at f (g ∷ gs) = last_at g gs

pub last_is : (b : Bit) (bits : List Bit) (y : Sync) → Some b ≡ slice_get bits (length bits - 1) → bits ≡ flops y → b ≡ last_flop y
last_is b bits y e is =
    let same : Some b ≡ Some (last_flop y) = e ∙ ap (λ xs. slice_get xs (length xs - 1)) is
    ∙ ap (slice_get (flops y)) (let n : suc (length y.more) - 1 ≡ length y.more = omega arith in n) ∙ last_at y.first y.more in
    cc

module _ (net : Net) (domains : Domains) (syncs : List Sync) (gray clock w : ℕ) where
  abbrev pub on : Bit → List Sync
  on = syncs_on (design_of net domains) syncs clock

  module _ (at : ℕ) (lt : at < w) (bits : List Bit) (count : Option ℕ) (so : AreBroughtSoFar net domains syncs gray clock w at bits count) where
    next_are : map on (bits_from gray 0 w) ≡ map single so.over ++ on (record { sig = gray; at = at }) ∷ map on
        (bits_from gray (at + 1) (w - (at + 1)))
    next_are = so.are ∙ ap (λ bs. map single so.over ++ map on bs) (next_bits gray at w lt)

    module _ (a : Arrival) (is : IsArrival net (on (record { sig = gray; at = at })) (Some a)) where
      count_kept : (k : Option ℕ) → HaveCount so.over k → unwrap_or k a.flops ≡ a.flops → HaveCount (so.over ++ is.0 ∷ []) (Some a.flops)
      count_kept None e u = (
        (is.0, [], ap (λ xs. xs ++ is.0 ∷ []) e),
        subst (λ xs. AllByRecursion (λ (s : Sync). length (flops s) ≡ a.flops)
            (xs ++ is.0 ∷ [])) (sym e) (sym is.4, tt),
      )
      count_kept (Some n) h u = (
        (h.0.0, h.0.1 ++ is.0 ∷ [], ap (λ xs. xs ++ is.0 ∷ []) h.0.2),
        all_push (λ (s : Sync). length (flops s) ≡ a.flops) so.over is.0 (subst (λ k. AllByRecursion (λ (s : Sync). length (flops s) ≡ k) so.over)
            u h.1) (sym is.4),
      )

      pub brought_more : unwrap_or count a.flops ≡ a.flops → AreBroughtSoFar net domains syncs gray clock w (at + 1) (bits ++ a.last ∷ [])
          (Some a.flops)
      brought_more u = record {
        over = so.over ++ is.0 ∷ [];
        are = next_are ∙ ap (λ s. map single so.over ++ s ∷ map on (bits_from gray (at + 1) (w - (at + 1)))) is.1
            ∙ sym (append_assoc (map single so.over) (single is.0 ∷ []) (map on (bits_from gray (at + 1) (w - (at + 1)))))
            ∙ ap (λ ss. ss ++ map on (bits_from gray (at + 1) (w - (at + 1)))) (sym (map-append single so.over (is.0 ∷ [])));
        last = ap (λ bs. bs ++ a.last ∷ []) so.last ∙ ap (λ b. map last_flop so.over ++ b ∷ []) is.3 ∙ sym (map-append last_flop so.over (is.0 ∷ []));
        counts = count_kept count so.counts u;
        start = all_push (λ (y : Sync). StartAtZero (design_of net domains) (flops y)) so.over is.0 so.start is.2;
      }

      pub brought_unlike : bit_count net.graph.signals gray ≡ w → unwrap_or count a.flops ≢ a.flops → IsOver net domains syncs gray clock None
      brought_unlike wide u over b = go count so.counts u
        where
          parts : (y : Sync) × (more : List Sync) × (over ≡ so.over ++ y ∷ more) × (on (record { sig = gray; at = at }) ≡ y ∷ [])
          parts = split so.over (on (record { sig = gray; at = at })) (map on (bits_from gray (at + 1) (w - (at + 1)))) over
              (sym b.over_are ∙ ap (λ n. map on (bits_from gray 0 n)) wide ∙ next_are)

          so_many : AllByRecursion (λ (s : Sync). length (flops s) ≡ b.one_length.0) (so.over ++ parts.0 ∷ parts.1)
          so_many = subst (AllByRecursion (λ (s : Sync). length (flops s) ≡ b.one_length.0)) parts.2 b.one_length.1

          this : a.flops ≡ b.one_length.0
          this = let same : is.0 ∷ [] ≡ parts.0 ∷ [] = sym is.1 ∙ parts.3 in
              is.4 ∙ ap (λ (s : Sync). length (flops s)) (let e : is.0 ≡ parts.0 = cc in e)
              ∙ all_at (λ (s : Sync). length (flops s) ≡ b.one_length.0) so.over parts.0 parts.1 so_many

          go : (k : Option ℕ) → HaveCount so.over k → unwrap_or k a.flops ≢ a.flops → ⊥
          go None e v = v refl
          go (Some n) h v =
              let first = subst (λ ss. AllByRecursion (λ (s : Sync). length (flops s) ≡ b.one_length.0) (ss ++ parts.0 ∷ parts.1)) h.0.2 so_many in
              let known = subst (AllByRecursion (λ (s : Sync). length (flops s) ≡ n)) h.0.2 h.1 in
              v (sym known.0 ∙ first.0 ∙ sym this)

    pub brought_not : bit_count net.graph.signals gray ≡ w → IsArrival net (on (record { sig = gray; at = at })) None
        → IsOver net domains syncs gray clock None
    brought_not wide none over b =
        let parts = split so.over (on (record { sig = gray; at = at })) (map on (bits_from gray (at + 1) (w - (at + 1)))) over
        (sym b.over_are ∙ ap (λ n. map on (bits_from gray 0 n)) wide ∙ next_are) in
        none parts.0 parts.3 (all_at (λ (y : Sync). StartAtZero (design_of net domains) (flops y)) so.over parts.0 parts.1
        (subst (AllByRecursion (λ (y : Sync). StartAtZero (design_of net domains) (flops y))) parts.2 b.start))

  pub brought_end : (at : ℕ) → w ≤ at → bit_count net.graph.signals gray ≡ w → (bits : List Bit) (count : Option ℕ)
      → AreBroughtSoFar net domains syncs gray clock w at bits count
      → IsOver net domains syncs gray clock (Some bits)
  brought_end at le wide bits count so = (so.over, record { over_are = whole; one_length = go count so.counts; start = so.start }, so.last)
    where
      whole : map on (bits_from gray 0 (bit_count net.graph.signals gray)) ≡ map single so.over
      whole = ap (λ n. map on (bits_from gray 0 n)) wide ∙ so.are
          ∙ ap (λ n. map single so.over ++ map on (bits_from gray at n)) (let e : w - at ≡ 0 = omega arith in e) ∙ append-nil (map single so.over)

      go : (k : Option ℕ) → HaveCount so.over k → (n : ℕ) × AllByRecursion (λ (y : Sync). length (flops y) ≡ n) so.over
      go None e = (0, subst (AllByRecursion (λ (y : Sync). length (flops y) ≡ 0)) (sym e) tt)
      go (Some n) h = (n, h.1)
