-- The line of an item is read as the item.
use Rattle.std.proofs.Common.{◌≡◌, ◌≢◌, ◌∙◌, refl, sym, ap, ap₂, subst, arith, rules, ℕ, zero, suc, ◌+◌, ◌-◌, ◌<◌, ◌^◌, ◌&&◌, not, Bool, true, false, Option, Some, None, List, [], ◌∷◌, ◌++◌, length, length-append, map, take, drop, slice_get, append_assoc}
use Rattle.std.specs.Prelude.{codes, if◌then◌else◌, unwrap_or}
use Rattle.std.specs.Fmt.{decimal}
use Rattle.std.specs.List.{list_all}
use Rattle.std.proofs.lemmas.Bool.{and_parts}
use Rattle.std.proofs.lemmas.Option.{slice_get_within}
use Rattle.cdc_base.specs.declared.bit.Bit.{Bit}
use Rattle.cdc_base.specs.declared.signal.Signal.{Signal}
use Rattle.clock_constraints.specs.Refusals.{Text}
use Rattle.cdc_model.specs.declared.scheme.GrayReg.{GrayReg}
use Rattle.cdc_model.specs.declared.scheme.Load.{Load}
use Rattle.cdc_model.specs.declared.scheme.Ring.{Ring}
use Rattle.cdc_model.specs.declared.scheme.Shape.{Shape}
use Rattle.cdc_model.specs.declared.scheme.Shape.TheVariants.{G1, G2, G3}
use Rattle.cdc_model.specs.declared.scheme.Sync.{Sync}
use Rattle.cdc_model.proofs.Ascending.{here, later}
use Rattle.fifo_scheme.specs.declared.found.FifoPair.{FifoPair}
use Rattle.report.specs.Findings.{ring_number}
use Rattle.report.specs.Names.{bit_of, bits_of, signal_of}
use Rattle.report.specs.VerdictText.{gray_line, shape_of}
use Rattle.cert_text.specs.declared.certificate.Entry.{Entry}
use Rattle.cert_text.specs.declared.certificate.Entry.TheVariants as entry
use Rattle.cert_text.specs.Names.{bits_named, in_front, is_name}
use Rattle.cert_text.specs.Read.{are_ring_words, entry_in, gray_of, is_bit_name, known_load, known_ring, line_in, parted_ring, place_numbered, placed_ring, ring_numbered, ring_words, RingWords, ringed_load, gated_load, shape_named, sync_of, fifo_of, worded_ring, size_of, ring_place}
use Rattle.cert_text.specs.Texts.{fifo_line, is_empty, load_line, ring_line, sync_line}
use Rattle.cert_text.specs.Words.{number_below, words_of}
use Rattle.cert_text.specs.Written.{AreFound, CanWriteLoad, CanWriteRing, CanWriteSync, IsFound, IsFoundSignal, plain_load}
use Rattle.cert_text.proofs.Joined.{AreWords, IsWord, are_words_append, decimal_is, decimal_is_word, joined, joined_append, name_is_word, no_end_joined, number_of, words_joined}
use Rattle.cert_text.proofs.Feeds.{HasNoEnd}

mapped_length : {A B : Type 0} (f : A → B) (xs : List A) → length (map f xs) ≡ length xs
mapped_length f [] = refl
mapped_length f (x ∷ xs) = ap suc (mapped_length f xs)

-- ---- pieces and the spaces between them

sync_pieces : (b fs : Text) → codes "sync " ++ b ++ codes " : " ++ fs ≡ codes "sync" ++ 32 ∷ (b ++ 32 ∷ (codes ":" ++ 32 ∷ fs))
sync_pieces b fs = simp append_assoc

ring_pieces : (bs p q : Text) → codes "ring " ++ bs ++ codes " end " ++ p ++ codes " ack " ++ q
    ≡ codes "ring " ++ (bs ++ 32 ∷ (codes "end" ++ 32 ∷ (p ++ 32 ∷ (codes "ack" ++ 32 ∷ q))))
ring_pieces bs p q = simp append_assoc

load_pieces : (b x r g : Text) → codes "load " ++ b ++ codes " -> " ++ x ++ codes " ring " ++ r ++ codes " gate " ++ g
    ≡ codes "load" ++ 32 ∷ (b ++ 32 ∷ (codes "->" ++ 32 ∷ (x ++ 32 ∷ (codes "ring" ++ 32 ∷ (r ++ 32 ∷ (codes "gate" ++ 32 ∷ g))))))
load_pieces b x r g = simp append_assoc

-- ---- words

spelled : (w : Text) → is_name w ≡ true → IsWord w
spelled = name_is_word

colon : IsWord (codes ":")
colon = record { alone = refl; in_front = λ rest. refl; no_end = (refl, tt) }

arrow : IsWord (codes "->")
arrow = record { alone = refl; in_front = λ rest. refl; no_end = (refl, (refl, tt)) }

-- a look-up that finds something was asked for a name
asked : {A : Type 0} (v : Bool) (o : Option A) (x : A) → (if v then o else None) ≡ Some x → v ≡ true
asked true o x h = refl
asked false o x h = cc

module _ (signals : List Signal) where
  bit_word : (b : Bit) → IsFound signals b → IsWord (bit_of signals b)
  bit_word b h = name_is_word (bit_of signals b) (and_parts (is_name (bit_of signals b)) _ h.0).0

  signal_word : (sig : ℕ) → IsFoundSignal signals sig → IsWord (signal_of signals sig)
  signal_word sig h = name_is_word (signal_of signals sig) (asked (is_name (signal_of signals sig)) _ sig h)

  bit_words : (bs : List Bit) → AreFound signals bs → AreWords (map (bit_of signals) bs)
  bit_words [] h = tt
  bit_words (b ∷ bs) h = (bit_word b (h b (here b bs)), bit_words bs (λ a i. h a (later b bs a i)))

  all_bit_names : (bs : List Bit) → AreFound signals bs → list_all is_bit_name (map (bit_of signals) bs) ≡ true
  all_bit_names [] h = refl
  all_bit_names (b ∷ bs) h = ap₂ (λ u v. u && v) (h b (here b bs)).0 (all_bit_names bs (λ a i. h a (later b bs a i)))

  bits_joined : (b : Bit) (bs : List Bit) → bits_of signals (b ∷ bs) ≡ joined (bit_of signals b) (map (bit_of signals) bs)
  bits_joined b [] = let e : bit_of signals b ++ [] ≡ bit_of signals b = search rules in e
  bits_joined b (c ∷ cs) = ap (λ (t : Text). bit_of signals b ++ 32 ∷ t) (bits_joined c cs)

  found_bits : (bs : List Bit) → AreFound signals bs → bits_named signals (map (bit_of signals) bs) ≡ Some bs
  found_bits [] h = refl
  found_bits (b ∷ bs) h = ap₂ in_front (h b (here b bs)).1 (found_bits bs (λ a i. h a (later b bs a i)))

  -- ---- the line, its words, and what they say

  -- a line of these words is read as this item, and no byte of it ends it
  pub record IsLineOf (places : List ℕ) (line : Text) (e : Entry) : Type 0 where
    pub read : line_in signals places (Some line) ≡ Some e
    pub no_end : HasNoEnd line

  of_words : (places : List ℕ) (line w : Text) (ws : List Text) (e : Entry) → line ≡ joined w ws → AreWords (w ∷ ws) → entry_in signals places (w ∷ ws) ≡ Some e
      → IsLineOf places line e
  of_words places line w ws e is words said = record {
    read = ap (λ (t : Text). entry_in signals places (words_of t)) is ∙ (ap (entry_in signals places) (words_joined w ws words) ∙ said);
    no_end = subst HasNoEnd (sym is) (no_end_joined w ws words);
  }

  module _ (places : List ℕ) where
    pub sync_is : (s : Sync) → CanWriteSync signals s → IsLineOf places (sync_line signals s) (entry.Sync s)
    sync_is s can = go s.flops refl
      where
        go : (fs : List Bit) → s.flops ≡ fs → IsLineOf places (sync_line signals s) (entry.Sync s)
        go [] e = absurd (can.some e)
        go (f ∷ fs) e =
            let flops = subst (AreFound signals) e can.flops in
            of_words places (sync_line signals s) (codes "sync") (bit_of signals s.from ∷ codes ":" ∷ map (bit_of signals) (f ∷ fs)) (entry.Sync s)
            (ap (λ (bs : List Bit). codes "sync " ++ bit_of signals s.from ++ codes " : " ++ bits_of signals bs) e
            ∙ (ap (λ (t : Text). codes "sync " ++ bit_of signals s.from ++ codes " : " ++ t) (bits_joined f fs)
            ∙ sync_pieces (bit_of signals s.from) (joined (bit_of signals f) (map (bit_of signals) fs))))
            (spelled (codes "sync") refl, (bit_word s.from can.from, (colon, bit_words (f ∷ fs) flops)))
            (ap₂ sync_of can.from.1 (found_bits (f ∷ fs) flops ∙ ap Some (sym e)))

    shape_is : (s : Shape) → IsWord (shape_of s) × (shape_named (shape_of s) ≡ Some s)
    shape_is G1 = (spelled (codes "G1") refl, refl)
    shape_is G2 = (spelled (codes "G2") refl, refl)
    shape_is G3 = (spelled (codes "G3") refl, refl)

    pub gray_is : (g : GrayReg) → IsFoundSignal signals g.gray × IsFoundSignal signals g.count → IsLineOf places (gray_line signals g) (entry.Gray g)
    gray_is g (gray, count) = of_words places (gray_line signals g) (codes "gray") (signal_of signals g.gray ∷ codes "of" ∷ signal_of signals g.count ∷ shape_of g.shape ∷ []) (entry.Gray g)
        (simp append_assoc)
        (spelled (codes "gray") refl, (signal_word g.gray gray, (spelled (codes "of") refl, (signal_word g.count count, ((shape_is g.shape).0, tt)))))
        (ap₂ (λ (x y : Option ℕ). gray_of x y (shape_named (shape_of g.shape))) gray count ∙ ap (gray_of (Some g.gray) (Some g.count)) (shape_is g.shape).1)

    pub fifo_is : (p : FifoPair) → IsFoundSignal signals p.wb × IsFoundSignal signals p.rb → IsLineOf places (fifo_line signals p) (entry.Fifo p)
    fifo_is p (wb, rb) = of_words places (fifo_line signals p) (codes "fifo") (signal_of signals p.wb ∷ signal_of signals p.rb ∷ []) (entry.Fifo p)
        (simp append_assoc)
        (spelled (codes "fifo") refl, (signal_word p.wb wb, (signal_word p.rb rb, tt)))
        (ap₂ fifo_of wb rb)

    pub end_is : IsLineOf places (codes "end") entry.End
    end_is = of_words places (codes "end") (codes "end") [] entry.End refl (spelled (codes "end") refl, tt) refl

  -- ---- rings

  take_front : {A : Type 0} (xs ys : List A) → take (length xs) (xs ++ ys) ≡ xs
  take_front [] ys = refl
  take_front (x ∷ xs) ys = ap (λ zs. x ∷ zs) (take_front xs ys)

  drop_front : {A : Type 0} (xs ys : List A) → drop (length xs) (xs ++ ys) ≡ ys
  drop_front [] ys = refl
  drop_front (x ∷ xs) ys = drop_front xs ys

  -- the words of a ring's line behind the first
  abbrev ring_rest : Ring → List Text
  ring_rest r = codes "end" ∷ decimal r.end ∷ codes "ack" ∷ decimal r.ack ∷ []

  abbrev ring_text : Ring → List Text
  ring_text r = map (bit_of signals) r.bits ++ ring_rest r

  abbrev words_in : Ring → RingWords
  words_in r = record { names = map (bit_of signals) r.bits; end = decimal r.end; ack = decimal r.ack }

  none_empty : {A : Type 0} (xs : List A) → xs ≢ [] → is_empty xs ≡ false
  none_empty [] h = absurd (h refl)
  none_empty (x ∷ xs) h = refl

  none_mapped : (bs : List Bit) → bs ≢ [] → is_empty (map (bit_of signals) bs) ≡ false
  none_mapped [] h = absurd (h refl)
  none_mapped (b ∷ bs) h = refl

  module _ (r : Ring) (can : CanWriteRing signals r) where
    end_fits : r.end < 2 ^ 64
    end_fits = let h = can.end in omega arith

    ack_fits : r.ack < 2 ^ 64
    ack_fits = let h = can.ack in omega arith

    are_words : are_ring_words (map (bit_of signals) r.bits) (codes "end") (decimal r.end) (codes "ack") (decimal r.ack) ≡ true
    are_words =
        ap₂ (λ (u v : Bool). not u && v) (none_mapped r.bits can.some)
        (ap₂ (λ (u v : Bool). u && v) (all_bit_names r.bits can.bits) (ap₂ (λ (u v : Bool). u && v) (decimal_is r.end end_fits) (decimal_is r.ack ack_fits)))

    ring_words_are : ring_words (ring_text r) ≡ Some (words_in r)
    ring_words_are =
        let count : length (ring_text r) - 4 ≡ length (map (bit_of signals) r.bits) = omega (arith, length-append (map (bit_of signals) r.bits) (ring_rest r)) in
        ap (λ (n : ℕ). parted_ring (take n (ring_text r)) (drop n (ring_text r))) count
        ∙ (ap₂ parted_ring (take_front (map (bit_of signals) r.bits) (ring_rest r)) (drop_front (map (bit_of signals) r.bits) (ring_rest r))
        ∙ ap (λ (v : Bool). if v then Some (words_in r) else None) are_words)

    rest_words : AreWords (ring_rest r)
    rest_words = (spelled (codes "end") refl, (decimal_is_word r.end end_fits, (spelled (codes "ack") refl, (decimal_is_word r.ack ack_fits, tt))))

    said : worded_ring signals (ring_words (ring_text r)) ≡ Some (entry.Ring r)
    said = ap (worded_ring signals) ring_words_are
        ∙ (ap (λ (o : Option (List Bit)). known_ring o (decimal r.end) (decimal r.ack)) (found_bits r.bits can.bits)
        ∙ ap₂ (placed_ring r.bits) (number_of (length r.bits) r.end can.end.0 end_fits) (number_of (length r.bits) r.ack can.ack.0 ack_fits))

    ring_joined : ring_line signals r ≡ joined (codes "ring") (ring_text r)
    ring_joined = go r.bits refl
      where
        go : (bs : List Bit) → r.bits ≡ bs → ring_line signals r ≡ joined (codes "ring") (ring_text r)
        go [] e = absurd (can.some e)
        go (b ∷ bs) e =
            ap (λ (xs : List Bit). codes "ring " ++ bits_of signals xs ++ codes " end " ++ decimal r.end ++ codes " ack " ++ decimal r.ack) e
            ∙ (ap (λ (t : Text). codes "ring " ++ t ++ codes " end " ++ decimal r.end ++ codes " ack " ++ decimal r.ack) (bits_joined b bs)
            ∙ (ring_pieces (joined (bit_of signals b) (map (bit_of signals) bs)) (decimal r.end) (decimal r.ack)
            ∙ (ap (λ (t : Text). codes "ring " ++ t) (sym (joined_append (bit_of signals b) (map (bit_of signals) bs) (codes "end") (decimal r.end ∷ codes "ack" ∷ decimal r.ack ∷ [])))
            ∙ ap (λ (xs : List Bit). joined (codes "ring") (map (bit_of signals) xs ++ ring_rest r)) (sym e))))

    line_words : AreWords (codes "ring" ∷ ring_text r)
    line_words = (spelled (codes "ring") refl, are_words_append (map (bit_of signals) r.bits) (ring_rest r) (bit_words r.bits can.bits) rest_words)

    pub ring_is : (places : List ℕ) → IsLineOf places (ring_line signals r) (entry.Ring r)
    ring_is places = of_words places (ring_line signals r) (codes "ring") (ring_text r) (entry.Ring r) ring_joined line_words said

    -- its line tells how many places it has
    pub ring_has : ring_place (Some (ring_line signals r)) ≡ length r.bits ∷ []
    ring_has =
        let words = ap words_of ring_joined ∙ words_joined (codes "ring") (ring_text r) line_words in
        ap (λ (ws : List Text). size_of (ring_words (drop 1 ws)) ∷ []) words
        ∙ (ap (λ (o : Option RingWords). size_of o ∷ []) ring_words_are ∙ ap (λ (n : ℕ). n ∷ []) (mapped_length (bit_of signals) r.bits))

  -- ---- loads

  get_mapped : {A B : Type 0} (f : A → B) (xs : List A) (i : ℕ) (x : A) → slice_get xs i ≡ Some x → slice_get (map f xs) i ≡ Some (f x)
  get_mapped f [] i x e = cc
  get_mapped f (y ∷ ys) zero x e = let h : y ≡ x = cc in ap (λ z. Some (f z)) h
  get_mapped f (y ∷ ys) (suc i) x e = get_mapped f ys i x e

  pub load_is : (rings : List Ring) → length rings < 2 ^ 32 → (l : Load) → CanWriteLoad signals rings l
      → IsLineOf (map (λ (r : Ring). length r.bits) rings) (load_line signals l) (entry.Load (plain_load l))
  load_is rings few l can =
      of_words places (load_line signals l) (codes "load")
      (bit_of signals l.from ∷ codes "->" ∷ bit_of signals l.to ∷ codes "ring" ∷ decimal (ring_number l.ring) ∷ codes "gate" ∷ decimal l.gate ∷ []) (entry.Load (plain_load l))
      (load_pieces (bit_of signals l.from) (bit_of signals l.to) (decimal (ring_number l.ring)) (decimal l.gate))
      (spelled (codes "load") refl, (bit_word l.from can.from, (arrow, (bit_word l.to can.to, (spelled (codes "ring") refl, (decimal_is_word (ring_number l.ring) number_fits, (spelled (codes "gate") refl, (decimal_is_word l.gate gate_fits, tt))))))))
      (ap₂ (λ (b x : Option Bit). known_load places b x (decimal (ring_number l.ring)) (decimal l.gate)) can.from.1 can.to.1
      ∙ (ap (λ (o : Option ℕ). ringed_load places l.from l.to o (decimal l.gate)) numbered
      ∙ (ap (λ (o : Option ℕ). gated_load l.from l.to l.ring (number_below (unwrap_or o 0) (decimal l.gate))) (get_mapped (λ (r : Ring). length r.bits) rings l.ring can.ring.0 can.ring.1)
      ∙ ap (gated_load l.from l.to l.ring) (number_of (length can.ring.0.bits) l.gate can.ring.2 gate_fits))))
    where
      places : List ℕ
      places = map (λ (r : Ring). length r.bits) rings

      within : l.ring < length rings
      within = slice_get_within rings l.ring can.ring.0 can.ring.1

      number_is : ring_number l.ring ≡ suc l.ring
      number_is = omega (arith, within)

      number_fits : ring_number l.ring < 2 ^ 64
      number_fits = omega (arith, within)

      gate_fits : l.gate < 2 ^ 64
      gate_fits = let h = can.gate in omega arith

      numbered : ring_numbered (length places) (decimal (ring_number l.ring)) ≡ Some l.ring
      numbered = ap place_numbered (number_of (length places + 1) (ring_number l.ring) (omega (arith, within, mapped_length (λ (r : Ring). length r.bits) rings)) number_fits ∙ ap Some number_is)
